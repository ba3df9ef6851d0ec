-- The head of a record, read from the first bytes of what a sheet has at its place.
use Rattle.std.proofs.Common.{◌≡◌, ℕ, ◌+◌, ◌-◌, ◌≤◌, true, List, [], ◌∷◌, length, get_or, take, drop, Some, Ok, Err, Result, sym, ap, ◌∙◌, w16, w32, arith}
use Rattle.std.specs.Int.{from_be_bytes}
use Rattle.std.specs.Result.{is_ok, result_ok, MatchResult}
use Rattle.std.proofs.lemmas.List.{take-take, drop-take, get_or-take, length-take-le, length-drop}
use Rattle.kinds.specs.Bytes.{number_of}
use Rattle.limits.specs.declared.refusal.Refusal.{Refusal}
use Rattle.records.specs.declared.mark.Mark.{Mark}
use Rattle.records.specs.declared.mark.Mark.TheVariants.{Entry, Closing}
use Rattle.records.specs.declared.mark.NoMark.{NoMark}
use Rattle.records.specs.declared.record.Head.TheVariants.{EntryHead, ClosingHead}
use Rattle.records.specs.declared.record.Numbers.{Numbers}
use Rattle.records.specs.Marks.{mark_of}
use Rattle.records.specs.Reading.{field, unless_short, after_mark, head_in}
use Rattle.records.proofs.Heads.{long, not_short}

-- a mark stays as it is where only the error is made anew
kept : (r : Result Mark NoMark) (m : Mark) (Q : NoMark → Type 0) → true ≡ is_ok r → MatchResult r (λ x. ◌≡◌ {A = Result Mark Refusal} (Ok m) (Ok x)) Q → result_ok r ≡ Some m
kept (Ok x) m Q v e = let f : m ≡ x = cc in ap (λ (z : Mark). Some z) (sym f)
kept (Err d) m Q v e = absurd (let z : ◌≡◌ {A = ℕ} 0 1 = cc in let f : ⊥ = omega arith in f)

-- two and four bytes by their worth
two : (p : List ℕ) → length p ≡ 2 → from_be_bytes w16 p ≡ number_of p
two [] h = absurd (omega arith)
two (a ∷ []) h = absurd (omega arith)
two (a ∷ (b ∷ [])) h = omega arith
two (a ∷ (b ∷ (c ∷ p))) h = absurd (omega arith)

four : (p : List ℕ) → length p ≡ 4 → from_be_bytes w32 p ≡ number_of p
four [] h = absurd (omega arith)
four (a ∷ []) h = absurd (omega arith)
four (a ∷ (b ∷ [])) h = absurd (omega arith)
four (a ∷ (b ∷ (c ∷ []))) h = absurd (omega arith)
four (a ∷ (b ∷ (c ∷ (d ∷ [])))) h = omega arith
four (a ∷ (b ∷ (c ∷ (d ∷ (e ∷ p))))) h = absurd (omega arith)

module _ (place : ℕ) (b : List ℕ) where
  pub front_is : (n : ℕ) (f : List ℕ) → Ok f ≡ unless_short place n b (Ok (take n b)) → (n ≤ length b) × (f ≡ take n b)
  front_is n f e = let p = long place n b (Ok (take n b)) f (sym e) in (p.0, cc)

  -- the mark of the first two bytes, read without an error
  pub mark_is : (f : List ℕ) (r : Result Mark NoMark) (m n : Mark) (Q : NoMark → Type 0) → f ≡ take 2 b → result_ok r ≡ mark_of (get_or f 0 0) (get_or f 1 0)
      → true ≡ is_ok r → MatchResult r (λ x. ◌≡◌ {A = Result Mark Refusal} (Ok m) (Ok x)) Q → m ≡ n → mark_of (get_or b 0 0) (get_or b 1 0) ≡ Some n
  mark_is f r m n Q e h v g i =
      let x : get_or f 0 0 ≡ get_or b 0 0 = ap (λ t. get_or t 0 0) e ∙ get_or-take 2 b 0 0 (omega arith) in
      let y : get_or f 1 0 ≡ get_or b 1 0 = ap (λ t. get_or t 1 0) e ∙ get_or-take 2 b 1 0 (omega arith) in
      (λ j. mark_of (sym x j) (sym y j)) ∙ sym h ∙ kept r m Q v g ∙ ap (λ (z : Mark). Some z) i

  -- a part of the first bytes is that part of all
  part_is : (n o k : ℕ) (f p : List ℕ) → n ≤ length b → f ≡ take n b → p ≡ take k (drop o f) → o + k ≤ n → (p ≡ take k (drop o b)) × (length p ≡ k)
  part_is n o k f p h e g l =
      let s : n ≡ o + (n - o) = omega arith in
      let w : p ≡ take k (drop o b) = g ∙ ap (λ t. take k (drop o t)) (e ∙ ap (λ (m : ℕ). take m b) s) ∙ ap (take k) (drop-take o (n - o) b) ∙ take-take k (n - o) (drop o b) (omega arith) in
      (w, ap length w ∙ length-take-le k (drop o b) (omega (arith, length-drop o b)))

  pub field_two : (n o : ℕ) (f p : List ℕ) → n ≤ length b → f ≡ take n b → p ≡ take 2 (drop o f) → o + 2 ≤ n → from_be_bytes w16 p ≡ field o 2 b
  field_two n o f p h e g l = let q = part_is n o 2 f p h e g l in two p q.1 ∙ ap number_of q.0

  pub field_four : (n o : ℕ) (f p : List ℕ) → n ≤ length b → f ≡ take n b → p ≡ take 4 (drop o f) → o + 4 ≤ n → from_be_bytes w32 p ≡ field o 4 b
  field_four n o f p h e g l = let q = part_is n o 4 f p h e g l in four p q.1 ∙ ap number_of q.0

  pub closing_read : (count : ℕ) → mark_of (get_or b 0 0) (get_or b 1 0) ≡ Some Closing → 4 ≤ length b → count ≡ field 2 2 b → Ok (ClosingHead count) ≡ head_in place b
  closing_read count mark room e =
      ap (λ (n : ℕ). Ok (ClosingHead n)) e
      ∙ sym (not_short place 4 b (Ok (ClosingHead (field 2 2 b))) room)
      ∙ ap (after_mark place b) (sym mark)
      ∙ sym (not_short place 2 b (after_mark place b (mark_of (get_or b 0 0) (get_or b 1 0))) (omega arith))

  pub entry_read : (n : Numbers) (size : ℕ) → mark_of (get_or b 0 0) (get_or b 1 0) ≡ Some (Entry n.children) → 16 ≤ length b
      → n.weight ≡ field 2 4 b → n.tag ≡ field 6 4 b → n.left ≡ field 10 2 b → n.right ≡ field 12 2 b → size ≡ field 14 2 b → Ok (EntryHead n size) ≡ head_in place b
  entry_read n size mark room w t l r s =
      let read : Numbers = record { children = n.children; weight = field 2 4 b; tag = field 6 4 b; left = field 10 2 b; right = field 12 2 b } in
      (λ j. Ok (EntryHead (record { children = n.children; weight = w j; tag = t j; left = l j; right = r j }) (s j)))
      ∙ sym (not_short place 16 b (Ok (EntryHead read (field 14 2 b))) room)
      ∙ ap (after_mark place b) (sym mark)
      ∙ sym (not_short place 2 b (after_mark place b (mark_of (get_or b 0 0) (get_or b 1 0))) (omega arith))
