-- The steps of a comparison: what was found equal so far, and how it ends.
use Rattle.std.proofs.Common.{◌≡◌, ℕ, ◌+◌, ◌-◌, ◌<◌, ◌≤◌, min, List, [], ◌∷◌, length, drop, Ordering, Less, Equal, Greater, sym, refl, ap, ◌∙◌, arith}
use Rattle.std.specs.Ordering.{ordering_then, MatchOrdering}
use Rattle.std.proofs.lemmas.List.{length-drop}
use Rattle.kinds.specs.Orders.{Lawful}
use Rattle.words.specs.declared.comparison.Comparison.{Comparison}
use Rattle.words.specs.Comparisons.{start, compared_from, AsFromTheStart, Tells}
use Rattle.words.specs.Words.{word_order, shared, looked}
use Rattle.words.proofs.Orders.{words_lawful, less_is_before, equal_is_same, greater_is_after}
use Rattle.words.proofs.Openings.{shared_at, looked_at, shared_front, looked_front, from_position, shared_is_longest, looked_counts, looked_ends}

-- after a pair that differs, nothing more counts
no_more : (p : Ordering) → (p ≡ Equal → ⊥) → (r : Ordering) (m n : ℕ) → (ordering_then p r ≡ p) × (shared_at p m ≡ 0) × (looked_at p n ≡ 1)
no_more Less h r m n = (refl, refl, refl)
no_more Equal h r m n = absurd (h refl)
no_more Greater h r m n = (refl, refl, refl)

-- where a word is at its end, the one that has ended comes first, and nothing more is shared or looked at
ended : (order : ℕ → ℕ → Ordering) (u v : List ℕ) (p : Ordering) → MatchOrdering p (length u < length v) (length u ≡ length v) (length v < length u) → min (length u) (length v) ≡ 0
    → (word_order order u v ≡ p) × (shared u v ≡ 0) × (looked u v ≡ 0)
ended order [] [] Less h m = absurd (omega arith)
ended order [] [] Equal h m = (refl, refl, refl)
ended order [] [] Greater h m = absurd (omega arith)
ended order [] (y ∷ v) Less h m = (refl, refl, refl)
ended order [] (y ∷ v) Equal h m = absurd (omega arith)
ended order [] (y ∷ v) Greater h m = absurd (omega arith)
ended order (x ∷ u) [] Less h m = absurd (omega arith)
ended order (x ∷ u) [] Equal h m = absurd (omega arith)
ended order (x ∷ u) [] Greater h m = (refl, refl, refl)
ended order (x ∷ u) (y ∷ v) p h m = absurd (omega arith)

-- the order of two lengths is that of what is left of them
left : (p : Ordering) (m n at : ℕ) → MatchOrdering p (at + m < at + n) (at + m ≡ at + n) (at + n < at + m) → MatchOrdering p (m < n) (m ≡ n) (n < m)
left Less m n at h = omega arith
left Equal m n at h = omega arith
left Greater m n at h = omega arith

module _ (order : ℕ → ℕ → Ordering) (s : ℕ) (u v : List ℕ) where
  abbrev pub result : Comparison
  result = record { answer = word_order order (drop s u) (drop s v); share = s + shared (drop s u) (drop s v); pairs = looked (drop s u) (drop s v) }

  -- from s on the words agree in m symbols, and x and y are what is left of them then: that decides, and each symbol on the way is shared and looked at
  pub record Agreed (m : ℕ) (x y : List ℕ) : Type 0 where
    pub first : length u ≡ s + m + length x
    pub second : length v ≡ s + m + length y
    pub stand : word_order order (drop s u) (drop s v) ≡ word_order order x y
    pub share : shared (drop s u) (drop s v) ≡ m + shared x y
    pub look : looked (drop s u) (drop s v) ≡ m + looked x y

  pub agreed_none : (x y : List ℕ) → x ≡ drop s u → y ≡ drop s v → s ≤ min (length u) (length v) → Agreed 0 x y
  agreed_none x y e f h =
      rw (e, f)
      (record { first = omega (arith, length-drop s u); second = omega (arith, length-drop s v); stand = refl; share = omega arith; look = omega arith })

  -- an end that the words have agreed up to
  done : (m n : ℕ) (x y : List ℕ) (p : Ordering) → Agreed m x y → word_order order x y ≡ p → shared x y ≡ 0 → looked x y ≡ n
      → record { answer = p; share = s + m; pairs = m + n } ≡ result
  done m n x y p a ep es el =
      let e : p ≡ word_order order (drop s u) (drop s v) = sym (a.stand ∙ ep) in
      let f : m ≡ shared (drop s u) (drop s v) = (let h = a.share in omega arith) in
      let g : m + n ≡ looked (drop s u) (drop s v) = (let h = a.look in omega arith) in
      λ j. record { answer = e j; share = s + f j; pairs = g j }

  module _ (law : Lawful order) (m a b : ℕ) (x y : List ℕ) (agreed : Agreed m (a ∷ x) (b ∷ y)) where
    pub agreed_more : order a b ≡ Equal → Agreed (m + 1) x y
    agreed_more e =
        let f = shared_front order law a b x y ∙ ap (λ (p : Ordering). shared_at p (shared x y)) e in
        let g = looked_front order law a b x y ∙ ap (λ (p : Ordering). looked_at p (looked x y)) e in
        record {
          first = (let h = agreed.first in omega arith);
          second = (let h = agreed.second in omega arith);
          stand = agreed.stand ∙ ap (λ (p : Ordering). ordering_then p (word_order order x y)) e;
          share = (let h = agreed.share in omega arith);
          look = (let h = agreed.look in omega arith);
        }

    -- a pair that differs decides, ends the shared opening and is the last looked at
    pub differs : (p : Ordering) → p ≡ order a b → (p ≡ Equal → ⊥) → record { answer = p; share = s + m; pairs = m + 1 } ≡ result
    differs p e h =
        let k = no_more p h (word_order order x y) (shared x y) (looked x y) in
        done m 1 (a ∷ x) (b ∷ y) p agreed
        (ap (λ (q : Ordering). ordering_then q (word_order order x y)) (sym e) ∙ k.0)
        (shared_front order law a b x y ∙ ap (λ (q : Ordering). shared_at q (shared x y)) (sym e) ∙ k.1)
        (looked_front order law a b x y ∙ ap (λ (q : Ordering). looked_at q (looked x y)) (sym e) ∙ k.2)

  -- the words agree up to the end of the shorter one: it is an opening of the other
  pub ends : (m end : ℕ) (x y : List ℕ) (p : Ordering) → Agreed m x y → min (length x) (length y) ≡ 0 → end ≡ min (length u) (length v) → MatchOrdering p (length u < length v) (length u ≡ length v) (length v < length u)
      → record { answer = p; share = end; pairs = end - s } ≡ result
  ends m end x y p a none is h =
      let k = ended order x y p (left p (length x) (length y) (s + m) (rw (a.first, a.second) at h)) none in
      let e : end ≡ s + m = (let f = a.first in let g = a.second in omega arith) in
      let z : end - s ≡ m + 0 = omega arith in
      (λ j. record { answer = p; share = e j; pairs = z j }) ∙ done m 0 x y p a k.0 k.1 k.2

-- what a comparison from a position answers, where the words are those of two strips
pub from_start : (order : ℕ → ℕ → Ordering) (from : ℕ) (u v : List ℕ) (s : ℕ) (c : Comparison) → s ≡ start from u v → c ≡ result order s u v → c ≡ compared_from order from u v
from_start order from u v s c e h = h ∙ ap (λ (k : ℕ). result order k u v) e

module _ (order : ℕ → ℕ → Ordering) (law : Lawful order) (u v : List ℕ) where
  pub as_from_the_start : (from : ℕ) (c : Comparison) → c ≡ compared_from order from u v → AsFromTheStart order from u v c
  as_from_the_start from c e h =
      let o = (shared_is_longest (shared u v) u v).0 (omega arith) in
      let f = from_position order law (start from u v) u v (omega arith) in
      (ap (λ (x : Comparison). x.answer) e ∙ f.stand, ap (λ (x : Comparison). x.share) e ∙ f.share)

  pub tells : (c : Comparison) → c ≡ compared_from order 0 u v → Tells order u v c
  tells c e =
      let z : start 0 u v ≡ 0 = omega arith in
      let w = e ∙ ap (λ (k : ℕ). result order k u v) z in
      let a : c.answer ≡ word_order order u v = ap (λ (x : Comparison). x.answer) w in
      let s : c.share ≡ shared u v = ap (λ (x : Comparison). x.share) w ∙ omega arith in
      let p : c.pairs ≡ looked u v = ap (λ (x : Comparison). x.pairs) w in
      record {
        lawful = words_lawful order law;
        before = rw a (less_is_before order law u v);
        same = rw a (equal_is_same order law u v);
        after = rw a (greater_is_after order law u v);
        longest = λ n. rw s (shared_is_longest n u v);
        counted = rw (p, s) (looked_counts u v);
        ended = rw (p, s) (looked_ends u v);
      }
