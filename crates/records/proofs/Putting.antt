-- A record that was written over a lent rest of a buffer, or was not.
use Rattle.std.proofs.Common.{◌≡◌, ℕ, ◌+◌, ◌-◌, ◌/◌, ◌%◌, ◌≤◌, Bool, true, false, cond, leb, List, [], ◌∷◌, ◌++◌, length, take, drop, Some, None, Ok, sym, refl, ap, ◌∙◌, w16, w32, arith}
use Rattle.std.specs.Int.{to_be_bytes}
use borrow.Rule.Slice.PartMut.{put_mid}
use Rattle.std.proofs.lemmas.List.{drop-drop}
use Rattle.std.proofs.lemmas.Bool.{cond-true, cond-false, and_from, le-leb, leb-true}
use Rattle.kinds.specs.Bytes.{high_first, over}
use Rattle.kinds.proofs.Buffers.{over_lent, over_over, over_stands}
use Rattle.records.specs.Reading.{record_in}
use Rattle.records.specs.Records.{Content, record_bytes, Proper}
use Rattle.records.specs.Writing.{fits_size, fits_at, Puts}
use Rattle.records.proofs.Exactly.{reads}

-- bytes copied to the place right after what was written so far
pub over_copied : (s w v now out : List ℕ) (p n : ℕ) → now ≡ over 0 w s → p ≡ length w → n ≡ length v → p + n ≤ length s → out ≡ v → put_mid p n now out ≡ over 0 (w ++ v) s
over_copied s w v now out p n is end wide room copied =
    let rest : drop n (drop p now) ≡ drop (p + length v) now = drop-drop n p now ∙ ap (λ (k : ℕ). drop (p + k) now) wide in
    let at : p ≡ 0 + length w = omega arith in
    (λ j. take p now ++ (copied j ++ rest j)) ∙ (λ j. over (at j) v (is j)) ∙ over_over s w v 0 (omega arith)

-- the bytes of a number, high byte first
pub high_two : (n : ℕ) → to_be_bytes w16 n ≡ high_first 2 n
high_two n = ap (λ (x : ℕ). n / 256 % 256 ∷ (x % 256 ∷ [])) (let e : n ≡ n / 1 = omega arith in e)

pub high_four : (n : ℕ) → to_be_bytes w32 n ≡ high_first 4 n
high_four n = ap (λ (x : ℕ). n / 16777216 % 256 ∷ (n / 65536 % 256 ∷ (n / 256 % 256 ∷ (x % 256 ∷ [])))) (let e : n ≡ n / 1 = omega arith in e)

pub not_put : (width : ℕ) (c : Content) (place : ℕ) (s : List ℕ) → fits_at c s place ≡ false → Puts width c place s s None
not_put width c place s h =
    record {
      next = sym (cond-false (fits_at c s place) (Some (place + length (record_bytes c))) None h);
      buffer = sym (cond-false (fits_at c s place) (over place (record_bytes c) s) s h);
      reads_back = tt;
    }

pub put : (width : ℕ) (c : Content) (place next : ℕ) (s out : List ℕ) → Proper width c → fits_size c ≡ true → next ≡ place + length (record_bytes c) → next ≤ length s
    → out ≡ over 0 (record_bytes c) (take (length s - place) (drop place s)) → Puts width c place s (put_mid place (length s - place) s out) (Some next)
put width c place next s out proper fits is room wrote =
    let w = record_bytes c in
    let t : fits_at c s place ≡ true = and_from (fits_size c) (leb (place + length w) (length s)) fits (le-leb (place + length w) (length s) (omega arith)) in
    let e : put_mid place (length s - place) s out ≡ over place w s = over_lent s w out place (omega arith) wrote in
    record {
      next = ap (λ (n : ℕ). Some n) is ∙ sym (cond-true (fits_at c s place) (Some (place + length w)) None t);
      buffer = e ∙ sym (cond-true (fits_at c s place) (over place w s) s t);
      reads_back =
          ap (λ b. record_in width place (drop place b)) e
          ∙ ap (record_in width place) (over_stands s w place (omega arith))
          ∙ reads width place c (drop (place + length w) s) proper
          ∙ (λ i. Ok (record { content = c; next = sym is i }));
    }

-- what the test for room answered
pub no_room : (end len : ℕ) → None ≡ cond (leb end len) (Some end) None → leb end len ≡ false
no_room end len h = at (leb end len) h
  where
    at : (t : Bool) → None ≡ cond t (Some end) None → t ≡ false
    at true k = absurd (let z : ◌≡◌ {A = ℕ} 0 1 = cc in let y : ⊥ = omega arith in y)
    at false k = refl

pub room_there : (end len next : ℕ) → Some next ≡ cond (leb end len) (Some end) None → (next ≡ end) × (end ≤ len)
room_there end len next h = at (leb end len) refl h
  where
    at : (t : Bool) → leb end len ≡ t → Some next ≡ cond t (Some end) None → (next ≡ end) × (end ≤ len)
    at true e k = (cc, leb-true end len e)
    at false e k = absurd (let z : ◌≡◌ {A = ℕ} 0 1 = cc in let y : ⊥ = omega arith in y)
