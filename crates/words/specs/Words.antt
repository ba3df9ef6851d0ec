-- Words: their order and the openings they share, over the order of a kind's symbols.
-- A word is the list of its symbols, each known by its number.
use Rattle.std.specs.Prelude.{◌≡◌, ℕ, suc, ◌≤◌, cond, ◌⊎◌, List, [], ◌∷◌, ◌++◌, length, take, ◌==◌}
use Rattle.std.specs.declared.cmp.Ordering.TheVariants.{Less, Equal, Greater}
use Rattle.std.specs.declared.cmp.Ordering.{Ordering}
use Rattle.std.specs.Ordering.{ordering_then}

-- Words are ordered at their first differing symbol; a word that is an opening of another comes before it.
abbrev pub word_order : (ℕ → ℕ → Ordering) → List ℕ → List ℕ → Ordering
word_order order [] [] = Equal
word_order order [] (y ∷ v) = Less
word_order order (x ∷ u) [] = Greater
word_order order (x ∷ u) (y ∷ v) = ordering_then (order x y) (word_order order u v)

-- The shared opening of two words, the longest that both have, counted in symbols.
abbrev pub shared : List ℕ → List ℕ → ℕ
shared [] v = 0
shared (x ∷ u) [] = 0
shared (x ∷ u) (y ∷ v) = cond (x == y) (suc (shared u v)) 0

-- The pairs looked at from the left until a pair differs or a word ends, the differing one too.
abbrev pub looked : List ℕ → List ℕ → ℕ
looked [] v = 0
looked (x ∷ u) [] = 0
looked (x ∷ u) (y ∷ v) = suc (cond (x == y) (looked u v) 0)

-- The same in other words, which the theorems join to the above.

-- one word is before another: at their first differing symbol, or as its opening
abbrev pub Before : (ℕ → ℕ → Ordering) → List ℕ → List ℕ → Type 0
Before order u v =
    ((p : List ℕ) × (x : ℕ) × (y : ℕ) × (s : List ℕ) × (t : List ℕ) × (u ≡ p ++ (x ∷ s)) × (v ≡ p ++ (y ∷ t)) × (order x y ≡ Less))
    ⊎ ((y : ℕ) × (t : List ℕ) × (v ≡ u ++ (y ∷ t)))

-- the first n symbols of the one word are an opening of both
abbrev pub OpensBoth : ℕ → List ℕ → List ℕ → Type 0
OpensBoth n u v = (n ≤ length u) × (n ≤ length v) × (take n u ≡ take n v)
