-- What a tally holds after a whole run of posts.
use Rattle.std.proofs.Common.{◌≡◌, ℕ, zero, suc, ◌+◌, ◌<◌, ◌≤◌, ltb, List, [], ◌∷◌, length, take, Ok, Err, refl, ap, ◌∙◌, zero-add, arith}
use Rattle.std.proofs.lemmas.Bool.{cond-true, cond-false, lt-ltb, le-ltb}
use Rattle.dictionary.specs.declared.tally.Slip.{Slip}
use Rattle.dictionary.specs.declared.tally.Sums.{Sums}
use Rattle.dictionary.specs.Tallies.{Posted, SumsUp, added, after_all, most, no_lookups, posted, refused_with, sum, sums_of}

-- a post that is taken, and one that is refused
taken : (s : Sums) (slip : Slip) → s.lookups < most → (posted s slip).after ≡ added s slip
taken s slip h =
    let e : posted s slip ≡ record { answer = Ok tt; after = added s slip } =
    cond-true (ltb s.lookups most) _ _ (lt-ltb s.lookups most h) in
    ap (λ (p : Posted). p.after) e

full : (s : Sums) (slip : Slip) → most ≤ s.lookups → (posted s slip).after ≡ s
full s slip h =
    let e : posted s slip ≡ record { answer = Err (refused_with slip); after = s } =
    cond-false (ltb s.lookups most) _ _ (le-ltb s.lookups most h) in
    ap (λ (p : Posted). p.after) e

abbrev together : Sums → Sums → Sums
together s t = record { lookups = s.lookups + t.lookups; met = s.met + t.met; pairs = s.pairs + t.pairs }

with_nothing : (s : Sums) → s ≡ together s no_lookups
with_nothing s =
    let l : s.lookups ≡ s.lookups + 0 = omega arith in
    let m : s.met ≡ s.met + 0 = omega arith in
    let p : s.pairs ≡ s.pairs + 0 = omega arith in
    λ j. record { lookups = l j; met = m j; pairs = p j }

next : (s : Sums) (slip : Slip) (slips : List Slip) → together (added s slip) (sums_of slips) ≡ together s (sums_of (slip ∷ slips))
next s slip slips =
    let l : (s.lookups + 1) + length slips ≡ s.lookups + suc (length slips) = omega arith in
    let m : (s.met + slip.met) + sum (λ x. x.met) slips ≡ s.met + (slip.met + sum (λ x. x.met) slips) = omega arith in
    let p : (s.pairs + slip.pairs) + sum (λ x. x.pairs) slips ≡ s.pairs + (slip.pairs + sum (λ x. x.pairs) slips) = omega arith in
    λ j. record { lookups = l j; met = m j; pairs = p j }

-- a tally with room for so many slips takes that many of those that are posted
with_room : (s : Sums) (room : ℕ) (slips : List Slip) → s.lookups + room ≡ most → after_all s slips ≡ together s (sums_of (take room slips))
with_room s zero [] h = with_nothing s
with_room s (suc room) [] h = with_nothing s
with_room s zero (slip ∷ slips) h = ap (λ (t : Sums). after_all t slips) (full s slip (omega arith)) ∙ with_room s zero slips h
with_room s (suc room) (slip ∷ slips) h =
    ap (λ (t : Sums). after_all t slips) (taken s slip (omega arith)) ∙ with_room (added s slip) room slips (omega arith) ∙ next s slip (take room slips)

from_nothing : (s : Sums) → together no_lookups s ≡ s
from_nothing s = λ j. record { lookups = zero-add s.lookups j; met = zero-add s.met j; pairs = zero-add s.pairs j }

pub sums_up : SumsUp
sums_up slips = with_room no_lookups most slips refl ∙ from_nothing (sums_of (take most slips))
