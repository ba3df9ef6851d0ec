-- How far one comparison gets: it shares no more than each word has, and looks at no more pairs.
use Rattle.std.proofs.Common.{◌≡◌, ℕ, suc, ◌≤◌, min, Bool, true, false, cond, eqb, ltb, List, [], ◌∷◌, length, drop, Ordering, Less, Greater, refl, suc-le-suc, zero-le, arith, length-drop}
use Rattle.std.proofs.lemmas.Bool.{ltb-true}
use Rattle.words.specs.declared.comparison.Comparison.{Comparison}
use Rattle.words.specs.Comparisons.{start, compared_from}
use Rattle.words.specs.Words.{shared, looked}
use Rattle.rules.specs.Walks.{compared}

shared_at : (b : Bool) (m n : ℕ) → m ≤ n → cond b (suc m) 0 ≤ suc n
shared_at true m n h = suc-le-suc h
shared_at false m n h = zero-le

looked_at_lem : (b : Bool) (m n : ℕ) → m ≤ n → suc (cond b m 0) ≤ suc n
looked_at_lem true m n h = suc-le-suc h
looked_at_lem false m n h = suc-le-suc zero-le

abbrev shorter : List ℕ → List ℕ → ℕ
shorter u v = min (length u) (length v)

shared_within : (u v : List ℕ) → shared u v ≤ shorter u v
shared_within [] v = zero-le
shared_within (x ∷ u) [] = zero-le
shared_within (x ∷ u) (y ∷ v) = (let h = shared_at (eqb x y) (shared u v) (shorter u v) (shared_within u v) in omega arith)

looked_within : (u v : List ℕ) → looked u v ≤ shorter u v
looked_within [] v = zero-le
looked_within (x ∷ u) [] = zero-le
looked_within (x ∷ u) (y ∷ v) = (let h = looked_at_lem (eqb x y) (looked u v) (shorter u v) (looked_within u v) in omega arith)

pub record Within (n : ℕ) (c : Comparison) : Type 0 where
  pub share : c.share ≤ n
  pub pairs : c.pairs ≤ n

from_within : (order : ℕ → ℕ → Ordering) (k : ℕ) (w v : List ℕ) (n : ℕ) → shorter w v ≤ n → Within n (compared_from order k w v)
from_within order k w v n h =
    let s = start k w v in
    let d = length-drop s w in
    let e = length-drop s v in
    let a = shared_within (drop s w) (drop s v) in
    let b = looked_within (drop s w) (drop s v) in
    record { share = omega arith; pairs = omega arith }

by_lengths : (x y b : Bool) (kept stored n : ℕ) (c : Comparison) → ltb stored kept ≡ x → kept ≤ n → Within n c
    → Within n (cond x (record { answer = cond b Less Greater; share = stored; pairs = 0 }) (cond y (record { answer = cond b Greater Less; share = kept; pairs = 0 }) c))
by_lengths true y b kept stored n c e h k = let l = ltb-true stored kept e in record { share = omega arith; pairs = omega arith }
by_lengths false true b kept stored n c e h k = record { share = h; pairs = zero-le }
by_lengths false false b kept stored n c e h k = k

pub compared_within : (order : ℕ → ℕ → Ordering) (w v : List ℕ) (b : Bool) (kept stored n : ℕ) → kept ≤ n → shorter w v ≤ n → Within n (compared order w v b kept stored)
compared_within order w v b kept stored n h m =
    by_lengths (ltb stored kept) (ltb kept stored) b kept stored n (compared_from order kept w v) refl h (from_within order kept w v n m)
