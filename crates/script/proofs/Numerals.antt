-- Numbers of digits alone.
use Rattle.std.proofs.Common.{◌≡◌, ℕ, ◌^◌, ◌<◌, Bool, true, false, cond, ◌&&◌, ltb, List, length, get_or, Some, None, Ok, Err, Result, sym, refl, ap, ◌∙◌}
use Rattle.std.specs.Result.{OkIff, result_ok}
use Rattle.std.specs.Str.Parse.{digits_value, ParsesUnsigned}
use Rattle.std.specs.Str.{all_ascii_digits}
use Rattle.std.proofs.lemmas.Str.Parse.{IsNumeralModel, numerals_by_value, tells_all_ascii_digits, parse_plain}
use Rattle.std.proofs.lemmas.Bool.{and_from, and_parts, lt-ltb, ltb-true, cond-true}
use Rattle.script.specs.Texts.{numeral}

own : IsNumeralModel (λ ds. all_ascii_digits ds ≡ true) (digits_value 10)
own = numerals_by_value (λ ds. all_ascii_digits ds ≡ true) tells_all_ascii_digits

abbrev test : ℕ → List ℕ → Bool
test bits text = all_ascii_digits text && (ltb 0 (length text) && ltb (digits_value 10 text) (2 ^ bits))

converted : {E : Type 0} (bits : ℕ) (text : List ℕ) (r : Result ℕ E) → OkIff r ((all_ascii_digits text ≡ true) × (0 < length text) × (digits_value 10 text < 2 ^ bits)) (digits_value 10 text) → result_ok r ≡ numeral bits text
converted bits text (Ok x) ((d, l, v), e) =
    ap (λ (n : ℕ). Some n) e
    ∙ sym (cond-true (test bits text) (Some (digits_value 10 text)) None (and_from _ _ d (and_from _ _ (lt-ltb 0 (length text) l) (lt-ltb (digits_value 10 text) (2 ^ bits) v))))
converted bits text (Err e) h = at (test bits text) refl
  where
    at : (t : Bool) → test bits text ≡ t → None ≡ cond t (Some (digits_value 10 text)) None
    at true p =
        let q = and_parts (all_ascii_digits text) (ltb 0 (length text) && ltb (digits_value 10 text) (2 ^ bits)) p in
        let s = and_parts (ltb 0 (length text)) (ltb (digits_value 10 text) (2 ^ bits)) q.1 in
        absurd (h (q.0, ltb-true 0 (length text) s.0, ltb-true (digits_value 10 text) (2 ^ bits) s.1))
    at false p = refl

-- what `parse` reads of a text without a sign
pub parsed : {E : Type 0} (bits : ℕ) (text : List ℕ) (r : Result ℕ E) → ParsesUnsigned bits 10 text r → (get_or text 0 0 ≡ 43 → ⊥) → result_ok r ≡ numeral bits text
parsed bits text r h plain = converted bits text r (parse_plain own bits text r h plain)
