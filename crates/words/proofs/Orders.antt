-- The order of words is lawful where that of symbols is, and it is the order at the first differing symbol.
use Rattle.std.proofs.Common.{◌≡◌, ℕ, List, [], ◌∷◌, ◌++◌, Ordering, Less, Equal, Greater, sym, refl, ap, ◌∙◌, inl, inr, arith}
use Rattle.std.specs.Ordering.{ordering_then, ordering_reverse}
use Rattle.kinds.specs.Codecs.{Iff}
use Rattle.kinds.specs.Orders.{Lawful}
use Rattle.words.specs.Words.{word_order, Before}

-- no two orderings are one
pub greater_less : {A : Type 0} → Greater ≡ Less → A
greater_less e = let z : ◌≡◌ {A = ℕ} 0 1 = cc in absurd (let f : ⊥ = omega arith in f)

pub equal_less : {A : Type 0} → Equal ≡ Less → A
equal_less e = let z : ◌≡◌ {A = ℕ} 0 1 = cc in absurd (let f : ⊥ = omega arith in f)

pub equal_greater : {A : Type 0} → Equal ≡ Greater → A
equal_greater e = let z : ◌≡◌ {A = ℕ} 0 1 = cc in absurd (let f : ⊥ = omega arith in f)

module _ (order : ℕ → ℕ → Ordering) (law : Lawful order) where
  itself : (u : List ℕ) → word_order order u u ≡ Equal
  itself [] = refl
  itself (x ∷ u) = rw (law.itself x) (itself u)

  same_at : (x y : ℕ) (u v : List ℕ) (p : Ordering) → order x y ≡ p → (r : Ordering) → ordering_then p r ≡ Equal → (r ≡ Equal → u ≡ v) → ◌≡◌ {A = List ℕ} (x ∷ u) (y ∷ v)
  same_at x y u v Less ep r h i = equal_less (sym h)
  same_at x y u v Equal ep r h i = let e = law.same x y ep in let f = i h in cc
  same_at x y u v Greater ep r h i = equal_greater (sym h)

  same : (u v : List ℕ) → word_order order u v ≡ Equal → u ≡ v
  same [] [] h = refl
  same [] (y ∷ v) h = equal_less (sym h)
  same (x ∷ u) [] h = equal_greater (sym h)
  same (x ∷ u) (y ∷ v) h = same_at x y u v (order x y) refl (word_order order u v) h (same u v)

  swap_at : (p r s : Ordering) → s ≡ ordering_reverse r → ordering_then (ordering_reverse p) s ≡ ordering_reverse (ordering_then p r)
  swap_at Less r s e = refl
  swap_at Equal r s e = e
  swap_at Greater r s e = refl

  swaps : (u v : List ℕ) → word_order order v u ≡ ordering_reverse (word_order order u v)
  swaps [] [] = refl
  swaps [] (y ∷ v) = refl
  swaps (x ∷ u) [] = refl
  swaps (x ∷ u) (y ∷ v) = rw (law.swaps x y) (swap_at (order x y) (word_order order u v) (word_order order v u) (swaps u v))

  chain_at : (x y z : ℕ) (p : Ordering) → order x y ≡ p → (q : Ordering) → order y z ≡ q → (r s t : Ordering)
      → ordering_then p r ≡ Less → ordering_then q s ≡ Less → (r ≡ Less → s ≡ Less → t ≡ Less) → ordering_then (order x z) t ≡ Less
  chain_at x y z Less ep Less eq r s t h k i = rw (law.chains x y z ep eq)
  chain_at x y z Less ep Equal eq r s t h k i = rw (← law.same y z eq, ep)
  chain_at x y z Less ep Greater eq r s t h k i = greater_less k
  chain_at x y z Equal ep Less eq r s t h k i = rw (law.same x y ep, eq)
  chain_at x y z Equal ep Equal eq r s t h k i = rw (law.same x y ep, eq) (i h k)
  chain_at x y z Equal ep Greater eq r s t h k i = greater_less k
  chain_at x y z Greater ep q eq r s t h k i = greater_less h

  chains : (u v w : List ℕ) → word_order order u v ≡ Less → word_order order v w ≡ Less → word_order order u w ≡ Less
  chains [] [] w h k = equal_less h
  chains [] (y ∷ v) [] h k = greater_less k
  chains [] (y ∷ v) (z ∷ w) h k = refl
  chains (x ∷ u) [] w h k = greater_less h
  chains (x ∷ u) (y ∷ v) [] h k = greater_less k
  chains (x ∷ u) (y ∷ v) (z ∷ w) h k =
      chain_at x y z (order x y) refl (order y z) refl (word_order order u v) (word_order order v w) (word_order order u w) h k (chains u v w)

  pub words_lawful : Lawful (word_order order)
  words_lawful = record { itself = itself; same = same; swaps = swaps; chains = chains }

  -- one more shared symbol in front leaves the first difference where it is
  later : (x : ℕ) (u v : List ℕ) → Before order u v → Before order (x ∷ u) (x ∷ v)
  later x u v (inl (p, a, b, s, t, eu, ev, l)) = inl (x ∷ p, a, b, s, t, ap (λ w. x ∷ w) eu, ap (λ w. x ∷ w) ev, l)
  later x u v (inr (y, t, e)) = inr (y, t, ap (λ w. x ∷ w) e)

  tells_at : (x y : ℕ) (u v : List ℕ) (p : Ordering) → order x y ≡ p → ordering_then p (word_order order u v) ≡ Less → (word_order order u v ≡ Less → Before order u v) → Before order (x ∷ u) (y ∷ v)
  tells_at x y u v Less ep h i = inl ([], x, y, u, v, refl, refl, ep)
  tells_at x y u v Equal ep h i = rw (← law.same x y ep) (later x u v (i h))
  tells_at x y u v Greater ep h i = greater_less h

  less_tells : (u v : List ℕ) → word_order order u v ≡ Less → Before order u v
  less_tells [] [] h = equal_less h
  less_tells [] (y ∷ v) h = inr (y, v, refl)
  less_tells (x ∷ u) [] h = greater_less h
  less_tells (x ∷ u) (y ∷ v) h = tells_at x y u v (order x y) refl h (less_tells u v)

  differ : (p : List ℕ) (x y : ℕ) (s t : List ℕ) → order x y ≡ Less → word_order order (p ++ (x ∷ s)) (p ++ (y ∷ t)) ≡ Less
  differ [] x y s t l = rw l
  differ (a ∷ p) x y s t l = rw (law.itself a) (differ p x y s t l)

  opens : (u : List ℕ) (y : ℕ) (t : List ℕ) → word_order order u (u ++ (y ∷ t)) ≡ Less
  opens [] y t = refl
  opens (x ∷ u) y t = rw (law.itself x) (opens u y t)

  before_less : (u v : List ℕ) → Before order u v → word_order order u v ≡ Less
  before_less u v (inl (p, x, y, s, t, eu, ev, l)) = rw (eu, ev) (differ p x y s t l)
  before_less u v (inr (y, t, e)) = rw e (opens u y t)

  pub less_is_before : (u v : List ℕ) → Iff (word_order order u v ≡ Less) (Before order u v)
  less_is_before u v = (less_tells u v, before_less u v)

  pub equal_is_same : (u v : List ℕ) → Iff (word_order order u v ≡ Equal) (u ≡ v)
  equal_is_same u v = (same u v, λ e. rw e (itself v))

  pub greater_is_after : (u v : List ℕ) → Iff (word_order order u v ≡ Greater) (Before order v u)
  greater_is_after u v =
      (λ h. less_tells v u (swaps u v ∙ ap ordering_reverse h), λ b. swaps v u ∙ ap ordering_reverse (before_less v u b))
