-- A part of a list overwritten: what is read before it is as it was, and it reads as what was written.
use Rattle.std.proofs.Common.{◌≡◌, ℕ, ◌+◌, ◌-◌, ◌≤◌, List, ◌++◌, length, take, drop, ap, ◌∙◌, arith, length-drop, length-take-le, take-take, drop_at}
use lib.Seq.{take-append-le, drop-append-le, take-append_seam}
use Rattle.std.proofs.lemmas.List.{drop-take, length-append}
use Rattle.store.specs.Tables.{overwritten}

module _ {A : Type 0} where
  pub length_overwritten : (start : ℕ) (part whole : List A) → start + length part ≤ length whole → length (overwritten start part whole) ≡ length whole
  length_overwritten start part whole h =
      let a = length-append (take start whole) (part ++ drop (start + length part) whole) in
      let b = length-append part (drop (start + length part) whole) in
      let c = length-take-le start whole (omega arith) in
      let d = length-drop (start + length part) whole in
      omega arith

  pub read_before : (from n start : ℕ) (part whole : List A) → from + n ≤ start → start ≤ length whole → take n (drop from (overwritten start part whole)) ≡ take n (drop from whole)
  read_before from n start part whole h k =
      let rest = part ++ drop (start + length part) whole in
      let l = length-take-le start whole k in
      let e : drop from (take start whole) ≡ take (start - from) (drop from whole) =
      ap (λ (z : ℕ). drop from (take z whole)) (let f : start ≡ from + (start - from) = omega arith in f) ∙ drop-take from (start - from) whole in
      let m = length-drop from (take start whole) in
      ap (take n) (drop-append-le from (take start whole) rest (omega arith))
      ∙ take-append-le n (drop from (take start whole)) rest (omega arith)
      ∙ ap (take n) e
      ∙ take-take n (start - from) (drop from whole) (omega arith)

  pub read_here : (start : ℕ) (part whole : List A) → start ≤ length whole → take (length part) (drop start (overwritten start part whole)) ≡ part
  read_here start part whole h =
      ap (take (length part)) (drop_at (take start whole) (part ++ drop (start + length part) whole) start (length-take-le start whole h))
      ∙ take-append_seam part (drop (start + length part) whole)
