-- What is known of the bytes of a record whose head was read.
use Rattle.std.proofs.Common.{◌≡◌, ℕ, ◌+◌, ◌^◌, ◌<◌, ◌≤◌, Bool, true, false, cond, ◌&&◌, eqb, ltb, ◌⊎◌, List, [], ◌∷◌, ◌++◌, length, get_or, take, drop, Some, None, Ok, Err, Option, Result, sym, refl, ap, ◌∙◌, inl, inr, arith, take-append-drop}
use Rattle.std.specs.Option.{option_map}
use Rattle.std.proofs.lemmas.Int.Digits.{number_lt}
use Rattle.std.proofs.ByRecursion.{All-take, All-drop}
use Rattle.std.proofs.lemmas.List.{drop-drop, length-take-le, length-drop}
use Rattle.std.proofs.lemmas.Bool.{ltb-false, eqb-true, and_parts, cond-false, le-ltb}
use Rattle.kinds.specs.Bytes.{Bytes, high_first}
use Rattle.kinds.specs.Numbers.{high_first_number}
use Rattle.limits.specs.Refusals.{Told, refused_at}
use Rattle.records.specs.declared.mark.Children.{Children}
use Rattle.records.specs.declared.mark.Children.TheVariants.{Neither, Left, Right, Both}
use Rattle.records.specs.declared.mark.Mark.{Mark}
use Rattle.records.specs.declared.mark.Mark.TheVariants.{Entry, Closing}
use Rattle.records.specs.declared.record.Head.{Head}
use Rattle.records.specs.declared.record.Head.TheVariants.{EntryHead, ClosingHead}
use Rattle.records.specs.declared.record.Numbers.{Numbers}
use Rattle.records.specs.Marks.{child_code, children_of, mark_of}
use Rattle.records.specs.Records.{head_bytes, closing_bytes}
use Rattle.records.specs.Reading.{field, unless_short, after_mark, head_in}

-- what is not refused for its length is long enough
pub long : {A : Type 0} (place need : ℕ) (b : List ℕ) (r : Result A Told) (x : A) → unless_short place need b r ≡ Ok x → (need ≤ length b) × (r ≡ Ok x)
long place need b r x h = at (ltb (length b) need) refl h
  where
    at : (t : Bool) → ltb (length b) need ≡ t → cond t (Err (refused_at 11 place)) r ≡ Ok x → (need ≤ length b) × (r ≡ Ok x)
    at true e k = absurd (let z : ◌≡◌ {A = ℕ} 0 1 = cc in let y : ⊥ = omega arith in y)
    at false e k = (ltb-false (length b) need e, k)

-- and what is long enough is not refused for it
pub not_short : {A : Type 0} (place need : ℕ) (b : List ℕ) (r : Result A Told) → need ≤ length b → unless_short place need b r ≡ r
not_short place need b r h = cond-false (ltb (length b) need) (Err (refused_at 11 place)) r (le-ltb (length b) need h)

-- the mark of two bytes is made of them
abbrev Marked : ℕ → ℕ → Mark → Type 0
Marked a b (Entry c) = (a ≡ 69) × (b ≡ child_code c)
Marked a b Closing = (a ≡ 90) × (b ≡ 0)

-- what a test or what follows it gave
picked : {A : Type 0} (t : Bool) (x : A) (o : Option A) (y : A) → cond t (Some x) o ≡ Some y → ((t ≡ true) × (x ≡ y)) ⊎ (o ≡ Some y)
picked true x o y h = inl (refl, cc)
picked false x o y h = inr h

children_code : (n : ℕ) (c : Children) → children_of n ≡ Some c → n ≡ child_code c
children_code n c h =
    elim (picked (eqb n 0) Neither _ c h) [
      | inl p ↦ eqb-true n 0 p.0 ∙ ap child_code p.1
      | inr h ↦ elim (picked (eqb n 1) Left _ c h) [
        | inl p ↦ eqb-true n 1 p.0 ∙ ap child_code p.1
        | inr h ↦ elim (picked (eqb n 2) Right _ c h) [
          | inl p ↦ eqb-true n 2 p.0 ∙ ap child_code p.1
          | inr h ↦ elim (picked (eqb n 3) Both None c h) [
            | inl p ↦ eqb-true n 3 p.0 ∙ ap child_code p.1
            | inr h ↦ absurd (let z : ◌≡◌ {A = ℕ} 0 1 = cc in let y : ⊥ = omega arith in y)
          ]
        ]
      ]
    ]

entry_mark : (o : Option Children) (m : Mark) → option_map Entry o ≡ Some m → (c : Children) × (o ≡ Some c) × (m ≡ Entry c)
entry_mark None m h = absurd (let z : ◌≡◌ {A = ℕ} 0 1 = cc in let y : ⊥ = omega arith in y)
entry_mark (Some c) m h = (c, refl, cc)

marked : (a b : ℕ) (m : Mark) → mark_of a b ≡ Some m → Marked a b m
marked a b m h = at (eqb a 69) refl h
  where
    at : (t : Bool) → eqb a 69 ≡ t → cond t (option_map Entry (children_of b)) (cond (eqb a 90 && eqb b 0) (Some Closing) None) ≡ Some m → Marked a b m
    at true e k =
        let p = entry_mark (children_of b) m k in
        rw p.2 (eqb-true a 69 e, children_code b p.0 p.1)
    at false e k =
        elim (picked (eqb a 90 && eqb b 0) Closing None m k) [
          | inl p ↦ let q = and_parts (eqb a 90) (eqb b 0) p.0 in rw (← p.1) (eqb-true a 90 q.0, eqb-true b 0 q.1)
          | inr n ↦ absurd (let z : ◌≡◌ {A = ℕ} 0 1 = cc in let y : ⊥ = omega arith in y)
        ]

pub mark_of_entry : (c : Children) → mark_of 69 (child_code c) ≡ Some (Entry c)
mark_of_entry Neither = refl
mark_of_entry Left = refl
mark_of_entry Right = refl
mark_of_entry Both = refl

-- so many bytes from an offset on
module _ (b : List ℕ) (i k : ℕ) (bytes : Bytes b) (room : i + k ≤ length b) where
  part_length : length (take k (drop i b)) ≡ k
  part_length = length-take-le k (drop i b) (omega (arith, length-drop i b))

  part_bytes : Bytes (take k (drop i b))
  part_bytes = All-take (λ x. x < 256) k (drop i b) (All-drop (λ x. x < 256) i b bytes)

  -- they are those of the number there
  pub field_bytes : drop i b ≡ high_first k (field i k b) ++ drop (i + k) b
  field_bytes =
      let n : high_first k (field i k b) ≡ take k (drop i b) = ap (λ (m : ℕ). high_first m (field i k b)) (sym part_length) ∙ high_first_number (take k (drop i b)) part_bytes in
      sym (take-append-drop k (drop i b)) ∙ (λ j. sym n j ++ drop-drop k i b j)

  -- which fits them
  pub field_small : field i k b < 256 ^ k
  field_small = rw part_length at (number_lt 256 (take k (drop i b)) part_bytes)

-- the first two bytes
marks_first : (b : List ℕ) → 2 ≤ length b → b ≡ get_or b 0 0 ∷ (get_or b 1 0 ∷ drop 2 b)
marks_first [] h = absurd (omega arith)
marks_first (x ∷ []) h = absurd (omega arith)
marks_first (x ∷ (y ∷ b)) h = refl

pub record EntryThere (b : List ℕ) (n : Numbers) (size : ℕ) : Type 0 where
  pub room : 16 ≤ length b
  pub is_head : b ≡ head_bytes n size ++ drop 16 b
  pub weight : n.weight < 2 ^ 32
  pub tag : n.tag < 2 ^ 32
  pub left : n.left < 2 ^ 16
  pub right : n.right < 2 ^ 16
  pub size_fits : size < 2 ^ 16

pub record ClosingThere (b : List ℕ) (count : ℕ) : Type 0 where
  pub room : 4 ≤ length b
  pub is_closing : b ≡ closing_bytes count ++ drop 4 b
  pub fits : count < 2 ^ 16

abbrev pub There : List ℕ → Head → Type 0
There b (EntryHead n size) = EntryThere b n size
There b (ClosingHead count) = ClosingThere b count

entry_there : (b : List ℕ) (c : Children) → Bytes b → 16 ≤ length b → get_or b 0 0 ≡ 69 → get_or b 1 0 ≡ child_code c
    → EntryThere b (record { children = c; weight = field 2 4 b; tag = field 6 4 b; left = field 10 2 b; right = field 12 2 b }) (field 14 2 b)
entry_there b c hb h first second =
    let size = field_bytes b 14 2 hb (omega arith) in
    let right = field_bytes b 12 2 hb (omega arith) ∙ ap (λ t. high_first 2 (field 12 2 b) ++ t) size in
    let left = field_bytes b 10 2 hb (omega arith) ∙ ap (λ t. high_first 2 (field 10 2 b) ++ t) right in
    let tag = field_bytes b 6 4 hb (omega arith) ∙ ap (λ t. high_first 4 (field 6 4 b) ++ t) left in
    let weight = field_bytes b 2 4 hb (omega arith) ∙ ap (λ t. high_first 4 (field 2 4 b) ++ t) tag in
    record {
      room = h;
      is_head = marks_first b (omega arith) ∙ (λ j. first j ∷ (second j ∷ weight j));
      weight = field_small b 2 4 hb (omega arith);
      tag = field_small b 6 4 hb (omega arith);
      left = field_small b 10 2 hb (omega arith);
      right = field_small b 12 2 hb (omega arith);
      size_fits = field_small b 14 2 hb (omega arith);
    }

closing_there : (b : List ℕ) → Bytes b → 4 ≤ length b → get_or b 0 0 ≡ 90 → get_or b 1 0 ≡ 0 → ClosingThere b (field 2 2 b)
closing_there b hb h first second =
    record {
      room = h;
      is_closing = marks_first b (omega arith) ∙ (λ j. first j ∷ (second j ∷ field_bytes b 2 2 hb (omega arith) j));
      fits = field_small b 2 2 hb (omega arith);
    }

ok_is : {A : Type 0} (x y : A) → ◌≡◌ {A = Result A Told} (Ok x) (Ok y) → x ≡ y
ok_is x y h = cc

-- a head that was read stands in front of the bytes
pub head_there : (place : ℕ) (b : List ℕ) (x : Head) → Bytes b → head_in place b ≡ Ok x → There b x
head_there place b x hb h =
    let p = long place 2 b (after_mark place b (mark_of (get_or b 0 0) (get_or b 1 0))) x h in
    at (mark_of (get_or b 0 0) (get_or b 1 0)) refl p.1
  where
    at : (m : Option Mark) → mark_of (get_or b 0 0) (get_or b 1 0) ≡ m → after_mark place b m ≡ Ok x → There b x
    at None e k = absurd (let z : ◌≡◌ {A = ℕ} 0 1 = cc in let y : ⊥ = omega arith in y)
    at (Some Closing) e k =
        let q = long place 4 b (Ok (ClosingHead (field 2 2 b))) x k in
        let m = marked (get_or b 0 0) (get_or b 1 0) Closing e in
        rw (← ok_is _ x q.1) (closing_there b hb q.0 m.0 m.1)
    at (Some (Entry c)) e k =
        let n : Numbers = record { children = c; weight = field 2 4 b; tag = field 6 4 b; left = field 10 2 b; right = field 12 2 b } in
        let q = long place 16 b (Ok (EntryHead n (field 14 2 b))) x k in
        let m = marked (get_or b 0 0) (get_or b 1 0) (Entry c) e in
        rw (← ok_is _ x q.1) (entry_there b c hb q.0 m.0 m.1)
