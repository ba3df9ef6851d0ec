-- Shared openings, and comparing from a position in one.
use Rattle.std.proofs.Common.{◌≡◌, ℕ, zero, suc, ◌+◌, ◌<◌, ◌≤◌, Bool, true, false, cond, eqb, ◌⊎◌, List, [], ◌∷◌, length, take, drop, Ordering, Less, Equal, Greater, refl, ap, ◌∙◌, inl, inr, suc-le-suc, zero-le, le_of_suc-le-suc, not-suc-le-zero, arith}
use Rattle.std.proofs.lemmas.Bool.{eq-eqb, ne_eqb, eqb-true}
use Rattle.kinds.specs.Codecs.{Iff}
use Rattle.kinds.specs.Orders.{Lawful}
use Rattle.words.specs.Words.{word_order, shared, looked, OpensBoth}

-- words share what both agree on, and no more
opens_at : (n x y : ℕ) (u v : List ℕ) (b : Bool) → eqb x y ≡ b → (n ≤ shared u v → OpensBoth n u v) → suc n ≤ cond b (suc (shared u v)) 0 → OpensBoth (suc n) (x ∷ u) (y ∷ v)
opens_at n x y u v true e i h =
    let o = i (le_of_suc-le-suc h) in
    (suc-le-suc o.0, suc-le-suc o.1, λ j. eqb-true x y e j ∷ o.2 j)
opens_at n x y u v false e i h = absurd (not-suc-le-zero h)

opens : (n : ℕ) (u v : List ℕ) → n ≤ shared u v → OpensBoth n u v
opens zero u v h = (zero-le, zero-le, refl)
opens (suc n) [] v h = absurd (not-suc-le-zero h)
opens (suc n) (x ∷ u) [] h = absurd (not-suc-le-zero h)
opens (suc n) (x ∷ u) (y ∷ v) h = opens_at n x y u v (eqb x y) refl (opens n u v) h

shares : (n : ℕ) (u v : List ℕ) → n ≤ length u → n ≤ length v → take n u ≡ take n v → n ≤ shared u v
shares zero u v a b e = zero-le
shares (suc n) [] v a b e = absurd (not-suc-le-zero a)
shares (suc n) (x ∷ u) [] a b e = absurd (not-suc-le-zero b)
shares (suc n) (x ∷ u) (y ∷ v) a b e =
    let h : x ≡ y = cc in
    let t : take n u ≡ take n v = cc in
    rw (eq-eqb x y h) (suc-le-suc (shares n u v (le_of_suc-le-suc a) (le_of_suc-le-suc b) t))

pub shared_is_longest : (n : ℕ) (u v : List ℕ) → Iff (n ≤ shared u v) (OpensBoth n u v)
shared_is_longest n u v = (opens n u v, λ o. shares n u v o.0 o.1 o.2)

-- the pairs looked at are those of the shared opening, and the one after it unless a word ends there
abbrev Counts : List ℕ → List ℕ → Type 0
Counts u v = ((looked u v ≡ shared u v) × ((shared u v ≡ length u) ⊎ (shared u v ≡ length v))) ⊎ ((looked u v ≡ suc (shared u v)) × (shared u v < length u) × (shared u v < length v))

counts_at : (x y : ℕ) (u v : List ℕ) (b : Bool) → eqb x y ≡ b → Counts u v → Counts (x ∷ u) (y ∷ v)
counts_at x y u v true e (inl (l, inl s)) = rw e (inl (ap suc l, inl (ap suc s)))
counts_at x y u v true e (inl (l, inr s)) = rw e (inl (ap suc l, inr (ap suc s)))
counts_at x y u v true e (inr (l, a, b)) = rw e (inr (ap suc l, suc-le-suc a, suc-le-suc b))
counts_at x y u v false e c = rw e (inr (refl, suc-le-suc zero-le, suc-le-suc zero-le))

counts : (u v : List ℕ) → Counts u v
counts [] v = inl (refl, inl refl)
counts (x ∷ u) [] = inl (refl, inr refl)
counts (x ∷ u) (y ∷ v) = counts_at x y u v (eqb x y) refl (counts u v)

pub looked_counts : (u v : List ℕ) → (looked u v ≡ shared u v) ⊎ (looked u v ≡ suc (shared u v))
looked_counts u v = elim (counts u v) [ inl c ↦ inl c.0 | inr c ↦ inr c.0 ]

pub looked_ends : (u v : List ℕ) → Iff (looked u v ≡ shared u v) ((shared u v ≡ length u) ⊎ (shared u v ≡ length v))
looked_ends u v = elim (counts u v) [
  | inl c ↦ (λ _. c.1, λ _. c.0)
  | inr c ↦ (λ h. absurd (let z : ⊥ = omega arith in z), λ h. absurd (elim h [ inl e ↦ omega arith | inr e ↦ omega arith ]))
]

-- the pair in front, by the order of the kind
abbrev pub shared_at : Ordering → ℕ → ℕ
shared_at Less n = 0
shared_at Equal n = suc n
shared_at Greater n = 0

abbrev pub looked_at : Ordering → ℕ → ℕ
looked_at Less n = 1
looked_at Equal n = suc n
looked_at Greater n = 1

module _ (order : ℕ → ℕ → Ordering) (law : Lawful order) where
  apart : (x y : ℕ) → (order x y ≡ Equal → ⊥) → eqb x y ≡ false
  apart x y h = ne_eqb x y (λ e. h (ap (λ (z : ℕ). order z y) e ∙ law.itself y))

  front_at : (x y m n : ℕ) (p : Ordering) → order x y ≡ p → (cond (eqb x y) (suc m) 0 ≡ shared_at p m) × (suc (cond (eqb x y) n 0) ≡ looked_at p n)
  front_at x y m n Less e = rw (apart x y (λ f. let z : ◌≡◌ {A = ℕ} 0 1 = cc in omega arith)) (refl, refl)
  front_at x y m n Equal e = rw (eq-eqb x y (law.same x y e)) (refl, refl)
  front_at x y m n Greater e = rw (apart x y (λ f. let z : ◌≡◌ {A = ℕ} 0 1 = cc in omega arith)) (refl, refl)

  pub shared_front : (x y : ℕ) (u v : List ℕ) → shared (x ∷ u) (y ∷ v) ≡ shared_at (order x y) (shared u v)
  shared_front x y u v = (front_at x y (shared u v) (looked u v) (order x y) refl).0

  pub looked_front : (x y : ℕ) (u v : List ℕ) → looked (x ∷ u) (y ∷ v) ≡ looked_at (order x y) (looked u v)
  looked_front x y u v = (front_at x y (shared u v) (looked u v) (order x y) refl).1

  -- compared from a position in the shared opening, words stand as they do from the start
  pub record From (k : ℕ) (u v : List ℕ) : Type 0 where
    pub stand : word_order order (drop k u) (drop k v) ≡ word_order order u v
    pub share : k + shared (drop k u) (drop k v) ≡ shared u v
    pub look : k + looked (drop k u) (drop k v) ≡ looked u v

  from_at : (x y k : ℕ) (u v : List ℕ) (p : Ordering) → order x y ≡ p → (k ≤ shared u v → From k u v) → suc k ≤ shared_at p (shared u v) → From (suc k) (x ∷ u) (y ∷ v)
  from_at x y k u v Less ep i h = absurd (not-suc-le-zero h)
  from_at x y k u v Greater ep i h = absurd (not-suc-le-zero h)
  from_at x y k u v Equal ep i h =
      let f = i (le_of_suc-le-suc h) in
      let e : shared (x ∷ u) (y ∷ v) ≡ suc (shared u v) = shared_front x y u v ∙ ap (λ (p : Ordering). shared_at p (shared u v)) ep in
      let d : looked (x ∷ u) (y ∷ v) ≡ suc (looked u v) = looked_front x y u v ∙ ap (λ (p : Ordering). looked_at p (looked u v)) ep in
      record {
        stand = rw ep f.stand;
        share = rw e (let g = f.share in omega arith);
        look = rw d (let g = f.look in omega arith);
      }

  pub from_position : (k : ℕ) (u v : List ℕ) → k ≤ shared u v → From k u v
  from_position zero u v h = record { stand = refl; share = omega arith; look = omega arith }
  from_position (suc k) [] v h = absurd (not-suc-le-zero h)
  from_position (suc k) (x ∷ u) [] h = absurd (not-suc-le-zero h)
  from_position (suc k) (x ∷ u) (y ∷ v) h = from_at x y k u v (order x y) refl (from_position k u v) (rw (shared_front x y u v) at h)
