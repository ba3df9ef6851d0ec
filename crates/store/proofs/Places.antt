-- Which places the parts of a tree have, and the tree with one place more: none is lost, none stands twice; and their entries are parted as the rules say.
use Rattle.std.proofs.Common.{◌≡◌, ℕ, suc, ◌+◌, true, false, cond, ◌⊎◌, List, Ordering, sym, refl, ap, subst, ap₂, inl, inr, arith}
use Rattle.std.specs.Ordering.{is_gt}
use Rattle.words.specs.declared.comparison.Comparison.{Comparison}
use Rattle.rules.specs.Entries.{Entry}
use Rattle.rules.specs.Trees.{Tree, top}
use Rattle.rules.specs.Walks.{step_at}
use Rattle.rules.specs.Inserts.{lesser_by, greater_by, inserted_by, is_above}
use Rattle.store.specs.Tables.{Rooted, leaf, node, size, In, Apart, plain}
use Rattle.store.specs.Unzips.{lesser_at, greater_at, inserted_at}

module _ (order : ℕ → ℕ → Ordering) (entry : ℕ → Entry) (w : List ℕ) where
  abbrev step : ℕ → ℕ → ℕ → ℕ → ℕ → Comparison
  step kb ka p m n = step_at order w kb ka (entry p) m n

  pub in_lesser : (kb ka q : ℕ) (t : Rooted) → In q (lesser_at order entry w kb ka t) → In q t
  in_lesser kb ka q leaf = λ i. i
  in_lesser kb ka q (node l p m n r) =
      let c = step kb ka p m n in
      elim (is_gt c.answer) as (λ b. In q (cond b (node l p m c.share (lesser_at order entry w c.share ka r)) (lesser_at order entry w kb c.share l)) → In q (node l p m n r)) [
        | true ↦ elim [ inl e ↦ inl e | inr o ↦ inr (elim o [ inl i ↦ inl i | inr i ↦ inr (in_lesser c.share ka q r i) ]) ]
        | false ↦ λ i. inr (inl (in_lesser kb c.share q l i))
      ]

  pub in_greater : (kb ka q : ℕ) (t : Rooted) → In q (greater_at order entry w kb ka t) → In q t
  in_greater kb ka q leaf = λ i. i
  in_greater kb ka q (node l p m n r) =
      let c = step kb ka p m n in
      elim (is_gt c.answer) as (λ b. In q (cond b (greater_at order entry w c.share ka r) (node (greater_at order entry w kb c.share l) p c.share n r)) → In q (node l p m n r)) [
        | true ↦ λ i. inr (inr (in_greater c.share ka q r i))
        | false ↦ elim [ inl e ↦ inl e | inr o ↦ inr (elim o [ inl i ↦ inl (in_greater kb c.share q l i) | inr i ↦ inr i ]) ]
      ]

  pub apart_lesser : (kb ka : ℕ) (t : Rooted) → Apart t → Apart (lesser_at order entry w kb ka t)
  apart_lesser kb ka leaf s = s
  apart_lesser kb ka (node l p m n r) s =
      let c = step kb ka p m n in
      elim (is_gt c.answer) as (λ b. Apart (cond b (node l p m c.share (lesser_at order entry w c.share ka r)) (lesser_at order entry w kb c.share l))) [
        | true ↦ (s.0, (λ i. s.1 (in_lesser c.share ka p r i)), (λ q i j. s.2 q i (in_lesser c.share ka q r j)), s.3, apart_lesser c.share ka r s.4)
        | false ↦ apart_lesser kb c.share l s.3
      ]

  pub apart_greater : (kb ka : ℕ) (t : Rooted) → Apart t → Apart (greater_at order entry w kb ka t)
  apart_greater kb ka leaf s = s
  apart_greater kb ka (node l p m n r) s =
      let c = step kb ka p m n in
      elim (is_gt c.answer) as (λ b. Apart (cond b (greater_at order entry w c.share ka r) (node (greater_at order entry w kb c.share l) p c.share n r))) [
        | true ↦ apart_greater c.share ka r s.4
        | false ↦ ((λ i. s.0 (in_greater kb c.share p l i)), s.1, (λ q i j. s.2 q (in_greater kb c.share q l i) j), apart_greater kb c.share l s.3, s.4)
      ]

  -- no place is in both parts
  pub disjoint : (kb ka q : ℕ) (t : Rooted) → Apart t → In q (lesser_at order entry w kb ka t) → In q (greater_at order entry w kb ka t) → ⊥
  disjoint kb ka q leaf s = λ i j. i
  disjoint kb ka q (node l p m n r) s =
      let c = step kb ka p m n in
      elim (is_gt c.answer) as (λ b. In q (cond b (node l p m c.share (lesser_at order entry w c.share ka r)) (lesser_at order entry w kb c.share l))
      → In q (cond b (greater_at order entry w c.share ka r) (node (greater_at order entry w kb c.share l) p c.share n r)) → ⊥) [
        | true ↦ λ i j. elim i [
          | inl e ↦ s.1 (in_greater c.share ka p r (subst (λ (z : ℕ). In z (greater_at order entry w c.share ka r)) e j))
          | inr o ↦ elim o [ inl k ↦ s.2 q k (in_greater c.share ka q r j) | inr k ↦ disjoint c.share ka q r s.4 k j ]
        ]
        | false ↦ λ i j. elim j [
          | inl e ↦ s.0 (in_lesser kb c.share p l (subst (λ (z : ℕ). In z (lesser_at order entry w kb c.share l)) e i))
          | inr o ↦ elim o [ inl k ↦ disjoint kb c.share q l s.3 i k | inr k ↦ s.2 q (in_lesser kb c.share q l i) k ]
        ]
      ]

  -- and no place is lost
  pub size_parts : (kb ka : ℕ) (t : Rooted) → size (lesser_at order entry w kb ka t) + size (greater_at order entry w kb ka t) ≡ size t
  size_parts kb ka leaf = refl
  size_parts kb ka (node l p m n r) =
      let c = step kb ka p m n in
      elim (is_gt c.answer) as (λ b. size (cond b (node l p m c.share (lesser_at order entry w c.share ka r)) (lesser_at order entry w kb c.share l))
      + size (cond b (greater_at order entry w c.share ka r) (node (greater_at order entry w kb c.share l) p c.share n r)) ≡ suc (size l + size r)) [
        | true ↦ (let h = size_parts c.share ka r in omega arith)
        | false ↦ (let h = size_parts kb c.share l in omega arith)
      ]

  pub plain_lesser : (kb ka : ℕ) (t : Rooted) → plain entry (lesser_at order entry w kb ka t) ≡ lesser_by order w kb ka (plain entry t)
  plain_lesser kb ka leaf = refl
  plain_lesser kb ka (node l p m n r) =
      let c = step kb ka p m n in
      elim (is_gt c.answer) as (λ b. plain entry (cond b (node l p m c.share (lesser_at order entry w c.share ka r)) (lesser_at order entry w kb c.share l))
      ≡ cond b (top (plain entry l) (entry p) m c.share (lesser_by order w c.share ka (plain entry r))) (lesser_by order w kb c.share (plain entry l))) [
        | true ↦ ap (λ (z : Tree). top (plain entry l) (entry p) m c.share z) (plain_lesser c.share ka r)
        | false ↦ plain_lesser kb c.share l
      ]

  pub plain_greater : (kb ka : ℕ) (t : Rooted) → plain entry (greater_at order entry w kb ka t) ≡ greater_by order w kb ka (plain entry t)
  plain_greater kb ka leaf = refl
  plain_greater kb ka (node l p m n r) =
      let c = step kb ka p m n in
      elim (is_gt c.answer) as (λ b. plain entry (cond b (greater_at order entry w c.share ka r) (node (greater_at order entry w kb c.share l) p c.share n r))
      ≡ cond b (greater_by order w c.share ka (plain entry r)) (top (greater_by order w kb c.share (plain entry l)) (entry p) c.share n (plain entry r))) [
        | true ↦ plain_greater c.share ka r
        | false ↦ ap (λ (z : Tree). top z (entry p) c.share n (plain entry r)) (plain_greater kb c.share l)
      ]

-- ---- the tree with the place x
module _ (order : ℕ → ℕ → Ordering) (entry : ℕ → Entry) (x : ℕ) where
  abbrev w : List ℕ
  w = (entry x).word

  -- what is so of each of the three outcomes at a place is so of the tree with x
  module _ (kb ka : ℕ) (l : Rooted) (p m n : ℕ) (r : Rooted) where
    abbrev c : Comparison
    c = step_at order w kb ka (entry p) m n

    abbrev t : Rooted
    t = node l p m n r

    by_outcome : (P : Rooted → Type 0) → P (node l p m n (inserted_at order entry x c.share ka r)) → P (node (inserted_at order entry x kb c.share l) p m n r)
        → P (node (lesser_at order entry w kb ka t) x kb ka (greater_at order entry w kb ka t)) → P (inserted_at order entry x kb ka t)
    by_outcome P right left here =
        elim (is_above order (entry p) (entry x) c) as (λ a. P (cond a (cond (is_gt c.answer) (node l p m n (inserted_at order entry x c.share ka r)) (node (inserted_at order entry x kb c.share l) p m n r))
        (node (lesser_at order entry w kb ka t) x kb ka (greater_at order entry w kb ka t)))) [
          | true ↦ elim (is_gt c.answer) as (λ b. P (cond b (node l p m n (inserted_at order entry x c.share ka r)) (node (inserted_at order entry x kb c.share l) p m n r)))
              [ true ↦ right | false ↦ left ]
          | false ↦ here
        ]

  pub in_inserted : (kb ka q : ℕ) (t : Rooted) → In q (inserted_at order entry x kb ka t) → In q t ⊎ (q ≡ x)
  in_inserted kb ka q leaf = elim [ inl e ↦ inr e | inr o ↦ elim o [ inl i ↦ inl i | inr i ↦ inl i ] ]
  in_inserted kb ka q (node l p m n r) =
      let c = step_at order w kb ka (entry p) m n in
      by_outcome kb ka l p m n r (λ z. In q z → In q (node l p m n r) ⊎ (q ≡ x))
      (elim [ inl e ↦ inl (inl e) | inr o ↦ elim o [ inl i ↦ inl (inr (inl i)) | inr i ↦ elim (in_inserted c.share ka q r i) [ inl j ↦ inl (inr (inr j)) | inr e ↦ inr e ] ] ])
      (elim [ inl e ↦ inl (inl e) | inr o ↦ elim o [ inl i ↦ elim (in_inserted kb c.share q l i) [ inl j ↦ inl (inr (inl j)) | inr e ↦ inr e ] | inr i ↦ inl (inr (inr i)) ] ])
      (elim [ inl e ↦ inr e | inr o ↦ elim o [ inl i ↦ inl (in_lesser order entry w kb ka q (node l p m n r) i) | inr i ↦ inl (in_greater order entry w kb ka q (node l p m n r) i) ] ])

  pub apart_inserted : (kb ka : ℕ) (t : Rooted) → Apart t → (In x t → ⊥) → Apart (inserted_at order entry x kb ka t)
  apart_inserted kb ka leaf s o = ((λ i. i), (λ i. i), (λ q i j. i), tt, tt)
  apart_inserted kb ka (node l p m n r) s o =
      let c = step_at order w kb ka (entry p) m n in
      by_outcome kb ka l p m n r Apart (
        s.0,
        (λ i. elim (in_inserted c.share ka p r i) [ inl j ↦ s.1 j | inr e ↦ o (inl (sym e)) ]),
        (λ q i j. elim (in_inserted c.share ka q r j) [ inl k ↦ s.2 q i k | inr e ↦ o (inr (inl (subst (λ (z : ℕ). In z l) e i))) ]),
        s.3,
        apart_inserted c.share ka r s.4 (λ i. o (inr (inr i))),
      ) (
        (λ i. elim (in_inserted kb c.share p l i) [ inl j ↦ s.0 j | inr e ↦ o (inl (sym e)) ]),
        s.1,
        (λ q i j. elim (in_inserted kb c.share q l i) [ inl k ↦ s.2 q k j | inr e ↦ o (inr (inr (subst (λ (z : ℕ). In z r) e j))) ]),
        apart_inserted kb c.share l s.3 (λ i. o (inr (inl i))),
        s.4,
      ) (
        (λ i. o (in_lesser order entry w kb ka x (node l p m n r) i)),
        (λ i. o (in_greater order entry w kb ka x (node l p m n r) i)),
        (λ q i j. disjoint order entry w kb ka q (node l p m n r) s i j),
        apart_lesser order entry w kb ka (node l p m n r) s,
        apart_greater order entry w kb ka (node l p m n r) s,
      )

  pub size_inserted : (kb ka : ℕ) (t : Rooted) → size (inserted_at order entry x kb ka t) ≡ suc (size t)
  size_inserted kb ka leaf = refl
  size_inserted kb ka (node l p m n r) =
      let c = step_at order w kb ka (entry p) m n in
      by_outcome kb ka l p m n r (λ z. size z ≡ suc (suc (size l + size r)))
      (let h = size_inserted c.share ka r in omega arith)
      (let h = size_inserted kb c.share l in omega arith)
      (ap suc (size_parts order entry w kb ka (node l p m n r)))

  pub plain_inserted : (kb ka : ℕ) (t : Rooted) → plain entry (inserted_at order entry x kb ka t) ≡ inserted_by order (entry x) kb ka (plain entry t)
  plain_inserted kb ka leaf = refl
  plain_inserted kb ka (node l p m n r) =
      let c = step_at order w kb ka (entry p) m n in
      let s = node l p m n r in
      let right = plain_inserted c.share ka r in
      let left = plain_inserted kb c.share l in
      let less = plain_lesser order entry w kb ka s in
      let more = plain_greater order entry w kb ka s in
      elim (is_above order (entry p) (entry x) c) as (λ a.
      plain entry (cond a (cond (is_gt c.answer) (node l p m n (inserted_at order entry x c.share ka r)) (node (inserted_at order entry x kb c.share l) p m n r)) (node (lesser_at order entry w kb ka s) x kb ka (greater_at order entry w kb ka s)))
      ≡ cond a (cond (is_gt c.answer) (top (plain entry l) (entry p) m n (inserted_by order (entry x) c.share ka (plain entry r))) (top (inserted_by order (entry x) kb c.share (plain entry l)) (entry p) m n (plain entry r)))
      (top (lesser_by order w kb ka (plain entry s)) (entry x) kb ka (greater_by order w kb ka (plain entry s)))) [
        | true ↦ elim (is_gt c.answer) as (λ b.
            plain entry (cond b (node l p m n (inserted_at order entry x c.share ka r)) (node (inserted_at order entry x kb c.share l) p m n r))
            ≡ cond b (top (plain entry l) (entry p) m n (inserted_by order (entry x) c.share ka (plain entry r))) (top (inserted_by order (entry x) kb c.share (plain entry l)) (entry p) m n (plain entry r)))
            [ true ↦ ap (λ (z : Tree). top (plain entry l) (entry p) m n z) right | false ↦ ap (λ (z : Tree). top z (entry p) m n (plain entry r)) left ]
        | false ↦ ap₂ (λ (y z : Tree). top y (entry x) kb ka z) less more
      ]
