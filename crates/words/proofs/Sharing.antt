-- How three words stand to each other, and what they share.
use Rattle.std.proofs.Common.{◌≡◌, ℕ, zero, suc, ◌-◌, ◌<◌, ◌≤◌, min, true, ◌⊎◌, List, [], ◌∷◌, length, drop, Ordering, Less, Equal, Greater, sym, refl, ap, ◌∙◌, inl, inr, suc-le-suc, zero-le, le_of_suc-le-suc, not-suc-le-zero, arith}
use Rattle.std.specs.Ordering.{ordering_then, ordering_reverse, is_lt, is_le}
use Rattle.kinds.specs.Orders.{Lawful}
use Rattle.words.specs.Words.{word_order, shared, looked}
use Rattle.words.proofs.Orders.{greater_less, equal_less, words_lawful}
use Rattle.words.proofs.Openings.{shared_at, shared_front, from_position}

-- what no ordering is
pub greater_not_le : {A : Type 0} (o : Ordering) → o ≡ Greater → is_le o ≡ true → A
greater_not_le o e h = let z : ◌≡◌ {A = ℕ} 0 1 = cc in absurd (let f : ⊥ = omega arith in f)

pub is_lt_less : (o : Ordering) → is_lt o ≡ true → o ≡ Less
is_lt_less Less h = refl
is_lt_less Equal h = let z : ◌≡◌ {A = ℕ} 0 1 = cc in absurd (let f : ⊥ = omega arith in f)
is_lt_less Greater h = let z : ◌≡◌ {A = ℕ} 0 1 = cc in absurd (let f : ⊥ = omega arith in f)

module _ (order : ℕ → ℕ → Ordering) (law : Lawful order) where
  word_law : Lawful (word_order order)
  word_law = words_lawful order law

  -- ---- the ways that words can stand
  pub word_cases : (u v : List ℕ) → (word_order order u v ≡ Less) ⊎ ((u ≡ v) ⊎ (word_order order v u ≡ Less))
  word_cases u v = at (word_order order u v) refl
    where
      at : (o : Ordering) → word_order order u v ≡ o → (word_order order u v ≡ Less) ⊎ ((u ≡ v) ⊎ (word_order order v u ≡ Less))
      at Less e = inl e
      at Equal e = inr (inl (word_law.same u v e))
      at Greater e = inr (inr (word_law.swaps u v ∙ ap ordering_reverse e))

  pub word_once : {A : Type 0} (u v : List ℕ) → word_order order u v ≡ Less → word_order order v u ≡ Less → A
  word_once u v h k = greater_less (sym (ap ordering_reverse h) ∙ sym (word_law.swaps u v) ∙ k)

  pub word_not_itself : {A : Type 0} (u : List ℕ) → word_order order u u ≡ Less → A
  word_not_itself u h = equal_less (sym (word_law.itself u) ∙ h)

  pub after_of_before : (u v : List ℕ) → word_order order u v ≡ Less → word_order order v u ≡ Greater
  after_of_before u v h = word_law.swaps u v ∙ ap ordering_reverse h

  pub before_of_after : (u v : List ℕ) → word_order order u v ≡ Greater → word_order order v u ≡ Less
  before_of_after u v h = word_law.swaps u v ∙ ap ordering_reverse h

  -- before, then before or the same
  pub less_then_le : (u v w : List ℕ) → word_order order u v ≡ Less → is_le (word_order order v w) ≡ true → word_order order u w ≡ Less
  less_then_le u v w h k = at (word_order order v w) refl
    where
      at : (o : Ordering) → word_order order v w ≡ o → word_order order u w ≡ Less
      at Less e = word_law.chains u v w h e
      at Equal e = ap (word_order order u) (sym (word_law.same v w e)) ∙ h
      at Greater e = greater_not_le (word_order order v w) e k

  pub le_then_less : (u v w : List ℕ) → is_le (word_order order u v) ≡ true → word_order order v w ≡ Less → word_order order u w ≡ Less
  le_then_less u v w h k = at (word_order order u v) refl
    where
      at : (o : Ordering) → word_order order u v ≡ o → word_order order u w ≡ Less
      at Less e = word_law.chains u v w e k
      at Equal e = ap (λ (z : List ℕ). word_order order z w) (word_law.same u v e) ∙ k
      at Greater e = greater_not_le (word_order order u v) e h

  -- ---- what words share
  shared_swap_at : (p : Ordering) (m n : ℕ) → m ≡ n → shared_at (ordering_reverse p) m ≡ shared_at p n
  shared_swap_at Less m n e = refl
  shared_swap_at Equal m n e = ap suc e
  shared_swap_at Greater m n e = refl

  pub shared_swaps : (u v : List ℕ) → shared v u ≡ shared u v
  shared_swaps [] [] = refl
  shared_swaps [] (y ∷ v) = refl
  shared_swaps (x ∷ u) [] = refl
  shared_swaps (x ∷ u) (y ∷ v) =
      shared_front order law y x v u
      ∙ ap (λ (p : Ordering). shared_at p (shared v u)) (law.swaps x y)
      ∙ shared_swap_at (order x y) (shared v u) (shared u v) (shared_swaps u v)
      ∙ sym (shared_front order law x y u v)

  pub shared_itself : (u : List ℕ) → shared u u ≡ length u
  shared_itself [] = refl
  shared_itself (x ∷ u) =
      shared_front order law x x u u ∙ ap (λ (p : Ordering). shared_at p (shared u u)) (law.itself x) ∙ ap suc (shared_itself u)

  -- of three words in order, the outer two share what both inner pairs share
  between_at : (x y z : ℕ) (p : Ordering) → order x y ≡ p → (q : Ordering) → order y z ≡ q → (r s : Ordering) (k m n : ℕ)
      → ordering_then p r ≡ Less → ordering_then q s ≡ Less → (r ≡ Less → s ≡ Less → k ≡ min m n) → shared_at (order x z) k ≡ min (shared_at p m) (shared_at q n)
  between_at x y z Less ep Less eq r s k m n h j i = rw (law.chains x y z ep eq) (omega arith)
  between_at x y z Less ep Equal eq r s k m n h j i = rw (← law.same y z eq, ep) (omega arith)
  between_at x y z Less ep Greater eq r s k m n h j i = greater_less j
  between_at x y z Equal ep Less eq r s k m n h j i = rw (law.same x y ep, eq) (omega arith)
  between_at x y z Equal ep Equal eq r s k m n h j i = rw (law.same x y ep, eq) (let e = i h j in omega arith)
  between_at x y z Equal ep Greater eq r s k m n h j i = greater_less j
  between_at x y z Greater ep q eq r s k m n h j i = greater_less h

  pub shared_between : (u v w : List ℕ) → word_order order u v ≡ Less → word_order order v w ≡ Less → shared u w ≡ min (shared u v) (shared v w)
  shared_between [] v w h k = omega arith
  shared_between (x ∷ u) [] w h k = greater_less h
  shared_between (x ∷ u) (y ∷ v) [] h k = greater_less k
  shared_between (x ∷ u) (y ∷ v) (z ∷ w) h k =
      rw (shared_front order law x z u w, shared_front order law x y u v, shared_front order law y z v w)
      (between_at x y z (order x y) refl (order y z) refl (word_order order u v) (word_order order v w) (shared u w) (shared u v) (shared v w) h k (shared_between u v w))

  -- of any three words, two share at least what both share with the third
  third_at : (x y z : ℕ) (p : Ordering) → order x y ≡ p → (q : Ordering) → order y z ≡ q → (k l m n : ℕ)
      → (k ≤ l → k ≤ m → k ≤ n) → suc k ≤ shared_at p l → suc k ≤ shared_at q m → suc k ≤ shared_at (order x z) n
  third_at x y z Less ep q eq k l m n i g h = absurd (not-suc-le-zero g)
  third_at x y z Greater ep q eq k l m n i g h = absurd (not-suc-le-zero g)
  third_at x y z Equal ep Less eq k l m n i g h = absurd (not-suc-le-zero h)
  third_at x y z Equal ep Greater eq k l m n i g h = absurd (not-suc-le-zero h)
  third_at x y z Equal ep Equal eq k l m n i g h = rw (law.same x y ep, eq) (suc-le-suc (i (le_of_suc-le-suc g) (le_of_suc-le-suc h)))

  pub shared_third : (k : ℕ) (u v w : List ℕ) → k ≤ shared u v → k ≤ shared v w → k ≤ shared u w
  shared_third zero u v w g h = zero-le
  shared_third (suc k) [] v w g h = absurd (not-suc-le-zero g)
  shared_third (suc k) (x ∷ u) [] w g h = absurd (not-suc-le-zero g)
  shared_third (suc k) (x ∷ u) (y ∷ v) [] g h = absurd (not-suc-le-zero h)
  shared_third (suc k) (x ∷ u) (y ∷ v) (z ∷ w) g h =
      rw (shared_front order law x z u w)
      (third_at x y z (order x y) refl (order y z) refl k (shared u v) (shared v w) (shared u w) (shared_third k u v w)
      (rw (shared_front order law x y u v) at g) (rw (shared_front order law y z v w) at h))

  -- if u leaves v before w does, u stands to w as to v, and shares as much with it
  closer_at : (x y z : ℕ) (p : Ordering) → order x y ≡ p → (q : Ordering) → order y z ≡ q → (r t : Ordering) (k m n : ℕ)
      → shared_at p m < shared_at q n → (m < n → (t ≡ r) × (k ≡ m)) → (ordering_then (order x z) t ≡ ordering_then p r) × (shared_at (order x z) k ≡ shared_at p m)
  closer_at x y z p ep Less eq r t k m n h i = absurd (not-suc-le-zero h)
  closer_at x y z p ep Greater eq r t k m n h i = absurd (not-suc-le-zero h)
  closer_at x y z Less ep Equal eq r t k m n h i = rw (← law.same y z eq, ep) (refl, refl)
  closer_at x y z Equal ep Equal eq r t k m n h i = let j = i (le_of_suc-le-suc h) in rw (← law.same y z eq, ep) (j.0, ap suc j.1)
  closer_at x y z Greater ep Equal eq r t k m n h i = rw (← law.same y z eq, ep) (refl, refl)

  pub shared_closer : (u v w : List ℕ) → shared u v < shared v w → (word_order order u w ≡ word_order order u v) × (shared u w ≡ shared u v)
  shared_closer [] [] w h = absurd (not-suc-le-zero h)
  shared_closer [] (y ∷ v) [] h = absurd (not-suc-le-zero h)
  shared_closer [] (y ∷ v) (z ∷ w) h = (refl, refl)
  shared_closer (x ∷ u) [] w h = absurd (not-suc-le-zero h)
  shared_closer (x ∷ u) (y ∷ v) [] h = absurd (not-suc-le-zero h)
  shared_closer (x ∷ u) (y ∷ v) (z ∷ w) h =
      let g : shared_at (order x y) (shared u v) < shared_at (order y z) (shared v w) = omega (arith, shared_front order law x y u v, shared_front order law y z v w) in
      let i = closer_at x y z (order x y) refl (order y z) refl (word_order order u v) (word_order order u w) (shared u w) (shared u v) (shared v w) g (shared_closer u v w) in
      (i.0, shared_front order law x z u w ∙ i.1 ∙ sym (shared_front order law x y u v))

  -- ---- a comparison by lengths. v is the nearest word met, and the nearest ancestor of e, so that it stands on one side of both w and e.
  -- w shares more with v than e does: w stands to e as v does
  pub by_more : (v w e : List ℕ) → shared v e < shared v w → (word_order order w e ≡ word_order order v e) × (shared w e ≡ shared v e)
  by_more v w e h =
      let c = shared_closer e v w (let s = shared_swaps v e in omega arith) in
      (word_law.swaps e w ∙ ap ordering_reverse c.0 ∙ sym (word_law.swaps e v), shared_swaps e w ∙ c.1 ∙ shared_swaps v e)

  -- w shares less with v than e does: w stands to e as to v
  pub by_less : (v w e : List ℕ) → shared v w < shared v e → (word_order order w e ≡ word_order order w v) × (shared w e ≡ shared v w)
  by_less v w e h =
      let c = shared_closer w v e (let s = shared_swaps v w in omega arith) in
      (c.0, c.1 ∙ shared_swaps v w)

  -- both share as much with v: they agree so far, and what is left of them decides
  pub same_opening : (v w e : List ℕ) → shared v w ≡ shared v e → shared v w ≤ shared w e
  same_opening v w e h = shared_third (shared v w) w v e (let s = shared_swaps v w in omega arith) (omega arith)

  -- from a position in the shared opening, as many pairs fewer are looked at
  pub looked_from : (k : ℕ) (u v : List ℕ) → k ≤ shared u v → looked (drop k u) (drop k v) ≡ looked u v - k
  looked_from k u v h = let e = (from_position order law k u v h).look in omega arith
