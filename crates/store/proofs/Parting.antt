-- The loop that parts a tree in the table: the top of what is left goes on one of two hooks, and the walk goes on below it.
use Rattle.std.proofs.Common.{◌≡◌, ℕ, ◌+◌, ◌*◌, ◌<◌, ◌≤◌, max, true, false, cond, ltb, ◌⊎◌, List, map, length, take, drop, Ordering, sym, refl, ap, ◌∙◌, subst, inl, inr, arith}
use Rattle.std.specs.Ordering.{is_gt}
use Rattle.std.proofs.lemmas.Bool.{cond-true, cond-false}
use Rattle.words.specs.declared.comparison.Comparison.{Comparison}
use Rattle.rules.specs.Entries.{Entry}
use Rattle.rules.specs.Walks.{compared, step_at}
use Rattle.store.specs.declared.memory.Memory.{Memory}
use Rattle.store.specs.Stores.{TableAlone, entry_of}
use Rattle.slots.specs.declared.slot.Slot.{Slot}
use Rattle.slots.specs.declared.slot.Side.{Side}
use Rattle.slots.specs.declared.slot.Side.TheVariants.{Left, Right}
use Rattle.slots.specs.declared.search.Shares.{Shares}
use Rattle.slots.specs.Searches.{passed}
use Rattle.store.specs.Tables.{slot_at, entry_at, Rooted, leaf, node, size, In, Apart, Stands}
use Rattle.store.specs.Lookups.{compared_at}
use Rattle.store.specs.Unzips.{other, child_on, hung, noted, Same, On, Split, FreeOf, Unzipped, lesser_at, greater_at}
use Rattle.store.proofs.Bounds.{compared_within}
use Rattle.store.proofs.Tables.{in_strip}
use Rattle.store.proofs.Frames.{No, left_not_right, hung_child, hung_same, noted_length, noted_same, then, wider, room, moved}
use Rattle.store.proofs.Sides.{mk, opens, Parts, parts, in_top, in_back, in_ahead, size_mk, not_other, regrown, span, span_falls}

-- the tree t below the place q, and two hooks outside of it
pub record Ready (capacity : ℕ) (T : List Slot) (q h : ℕ) (s : Side) (h' : ℕ) (s' : Side) (t : Rooted) : Type 0 where
  pub stands : Stands T capacity q t
  pub apart : Apart t
  pub few : size t ≤ capacity
  pub wide : capacity ≤ length T
  pub out : In h t → ⊥
  pub out' : In h' t → ⊥
  pub at : h < length T
  pub at' : h' < length T
  pub two : On h' s' h s → ⊥

swapped : {capacity : ℕ} {T : List Slot} {q h : ℕ} {s : Side} {h' : ℕ} {s' : Side} {t : Rooted} → Ready capacity T q h s h' s' t → Ready capacity T q h' s' h s t
swapped R = record {
  stands = R.stands;
  apart = R.apart;
  few = R.few;
  wide = R.wide;
  out = R.out';
  out' = R.out;
  at = R.at';
  at' = R.at;
  two = λ e. R.two (sym e.0, sym e.1);
}

swap : {capacity : ℕ} {T : List Slot} {h : ℕ} {s : Side} {h' : ℕ} {s' : Side} {t a b : Rooted} {T' : List Slot} → Split capacity T h s h' s' t a b T' → Split capacity T h' s' h s t b a T'
swap {capacity} {T} {h} {s} {h'} {s'} {t} S = record {
  first = S.second;
  second = S.first;
  same = wider (λ q d. In q t ⊎ (On h' s' q d ⊎ On h s q d)) (λ q d. In q t) S.same
      (λ q d. elim [ inl i ↦ inl i | inr o ↦ inr (elim o [ inl e ↦ inr e | inr e ↦ inl e ]) ]) (λ q d i. i);
}

-- The top q of the tree goes on the first hook, the length j' is noted on its side d, and the walk goes on there.
module _ (capacity : ℕ) (T : List Slot) (q h : ℕ) (s : Side) (h' : ℕ) (s' : Side) (d : Side) (u : Rooted) (k j j' : ℕ) (v : Rooted) (R : Ready capacity T q h s h' s' (mk d u q k j v)) where
  abbrev T₁ : List Slot
  T₁ = hung T h s q

  abbrev T₂ : List Slot
  T₂ = noted T₁ q d j'

  inside : q < length T
  inside = let o = opens T capacity q d u q k j v R.stands in omega (arith, o.held, R.wide)

  hangs : Same T (On h s) No T₁
  hangs = hung_same T h s q R.at

  notes : Same T₁ No (On q d) T₂
  notes = noted_same T₁ q d j' (room hangs inside)

  writes : Same T (On h s) (On q d) T₂
  writes = then (On h s) (On q d) hangs notes (λ y e f. f) (λ y e f. absurd f) (λ y e f. absurd f) (λ y e f. f)

  pub words_kept : (p : ℕ) → (slot_at T₂ p).length ≡ (slot_at T p).length
  words_kept = writes.word

  pub ready_step : Ready capacity T₂ (child_on d (slot_at T q)) q d h' s' v
  ready_step =
      let o = opens T capacity q d u q k j v R.stands in
      let a = parts d u q k j v R.apart in
      record {
        stands = moved capacity (child_on d (slot_at T q)) v writes
            (λ y e i p. R.out (in_ahead d u q k j v h (subst (λ (z : ℕ). In z v) p.0 i)))
            (λ y e i p. a.ahead (subst (λ (z : ℕ). In z v) p.0 i)) o.ahead;
        apart = a.apart_ahead;
        few = omega (arith, R.few, size_mk d u q k j v);
        wide = omega (arith, writes.size, R.wide);
        out = a.ahead;
        out' = λ i. R.out' (in_ahead d u q k j v h' i);
        at = room writes inside;
        at' = room writes R.at';
        two = λ e. R.out' (in_top d u q k j v h' (sym e.0));
      }

  pub split_step : (a b : Rooted) (T' : List Slot) → Split capacity T₂ q d h' s' v a b T' → Split capacity T h s h' s' (mk d u q k j v) (mk d u q k j' a) b T'
  split_step a b T' S = record {
    first = subst (λ (z : ℕ). Stands T' capacity z (mk d u q k j' a)) (sym onto)
        (regrown T T' O U capacity q d u q k j j' v a R.stands all kept kept' away away' (sym (S.same.lengths q d c.ahead ∙ noted_length T₁ q d j' (room hangs inside))) S.first);
    second = S.second;
    same = wider (λ y e. In y (mk d u q k j v) ⊎ (On h s y e ⊎ On h' s' y e)) (λ y e. In y (mk d u q k j v)) all
        (λ y e. elim [ inl i ↦ inl (in_ahead d u q k j v y i) | inr o ↦ elim o [ inl f ↦ inl (in_top d u q k j v y f.0) | inr f ↦ inr f ] ])
        (λ y e. elim [ inl i ↦ in_ahead d u q k j v y i | inr f ↦ in_top d u q k j v y f.0 ]);
  }
    where
      c : Parts u q v
      c = parts d u q k j v R.apart

      O : ℕ → Side → Type 0
      O = λ y e. In y v ⊎ (On q d y e ⊎ (On h s y e ⊎ On h' s' y e))

      U : ℕ → Side → Type 0
      U = λ y e. In y v ⊎ On q d y e

      all : Same T O U T'
      all = then O U writes S.same (λ y e f. inr (inr (inl f))) (λ y e f. inr f)
          (λ y e. elim [ inl i ↦ inl i | inr o ↦ inr (elim o [ inl f ↦ inl f | inr f ↦ inr (inr f) ]) ]) (λ y e i. inl i)

      kept : O q (other d) → ⊥
      kept = elim [
        | inl i ↦ c.ahead i
        | inr o ↦ elim o [
          | inl f ↦ not_other d f.1
          | inr p ↦ elim p
              [ inl f ↦ R.out (in_top d u q k j v h (sym f.0)) | inr f ↦ R.out' (in_top d u q k j v h' (sym f.0)) ]
        ]
      ]

      kept' : U q (other d) → ⊥
      kept' = elim [ inl i ↦ c.ahead i | inr f ↦ not_other d f.1 ]

      away : (y : ℕ) (e : Side) → In y u → O y e → ⊥
      away y e i = elim [
        | inl o ↦ c.both y i o
        | inr o ↦ elim o [
          | inl f ↦ c.back (subst (λ (z : ℕ). In z u) f.0 i)
          | inr p ↦ elim p
              [ inl f ↦ R.out (in_back d u q k j v h (subst (λ (z : ℕ). In z u) f.0 i)) | inr f ↦ R.out' (in_back d u q k j v h' (subst (λ (z : ℕ). In z u) f.0 i)) ]
        ]
      ]

      away' : (y : ℕ) (e : Side) → In y u → U y e → ⊥
      away' y e i = elim [ inl o ↦ c.both y i o | inr f ↦ c.back (subst (λ (z : ℕ). In z u) f.0 i) ]

      onto : child_on s (slot_at T' h) ≡ q
      onto =
          S.same.children h s (elim [ inl i ↦ R.out (in_ahead d u q k j v h i) | inr o ↦ elim o [ inl f ↦ R.out (in_top d u q k j v h f.0) | inr f ↦ R.two f ] ])
          ∙ notes.children h s (λ f. f) ∙ hung_child T h s q R.at

-- at the end nothing is left to hang
pub split_none : (capacity : ℕ) (T : List Slot) (q h : ℕ) (s : Side) (h' : ℕ) (s' : Side) (none : ℕ) → capacity ≤ none → Ready capacity T q h s h' s' leaf
    → Split capacity T h s h' s' leaf leaf leaf (hung (hung T h s none) h' s' none)
split_none capacity T q h s h' s' none le R = record {
  first = subst (λ (z : ℕ). capacity ≤ z) (sym (H'.children h s R.two ∙ hung_child T h s none R.at)) le;
  second = subst (λ (z : ℕ). capacity ≤ z) (sym (hung_child (hung T h s none) h' s' none (room H R.at'))) le;
  same = then (λ y e. ⊥ ⊎ (On h s y e ⊎ On h' s' y e)) (λ y e. ⊥) H H' (λ y e f. inr (inl f)) (λ y e f. f) (λ y e f. inr (inr f)) (λ y e f. f);
}
  where
    H : Same T (On h s) No (hung T h s none)
    H = hung_same T h s none R.at

    H' : Same (hung T h s none) (On h' s') No (hung (hung T h s none) h' s' none)
    H' = hung_same (hung T h s none) h' s' none (room H R.at')

-- ---- the loop: a tree is left to part by the word w, and a table in which that is done meets F
-- no word is longer than the ceiling
abbrev pub Short : ℕ → List Slot → Rooted → Type 0
Short ceiling T t = (p : ℕ) → In p t → (slot_at T p).length ≤ ceiling

module _ (order : ℕ → ℕ → Ordering) (entry : ℕ → Entry) (ceiling capacity : ℕ) (w : List ℕ) where
  abbrev pub Rest : (List Slot → Type 0) → ℕ → ℕ → List Slot → ℕ → Side → ℕ → Side → Rooted → Type 0
  Rest F kb ka T h s h' s' t =
      (T' : List Slot) → Split capacity T h s h' s' t (lesser_at order entry w kb ka t) (greater_at order entry w kb ka t) T' → F T'

  abbrev pub Stage : (List Slot → Type 0) → ℕ → ℕ → List Slot → ℕ → ℕ → Side → ℕ → Side → Type 0
  Stage F kb ka T q h s h' s' = (t : Rooted) × Ready capacity T q h s h' s' t × Short ceiling T t × Rest F kb ka T h s h' s' t

  -- the step at a place, by the lengths in the table
  abbrev pub step_here : ℕ → ℕ → List Slot → ℕ → Comparison
  step_here kb ka T q = step_at order w kb ka (entry q) (slot_at T q).left_length (slot_at T q).right_length

  module _ (F : List Slot → Type 0) (kb ka : ℕ) (T : List Slot) (q h : ℕ) (s : Side) (h' : ℕ) (s' : Side) (held : q < capacity) where
    abbrev c : Comparison
    c = step_here kb ka T q

    abbrev m : ℕ
    m = (slot_at T q).left_length

    abbrev r : ℕ
    r = (slot_at T q).right_length

    -- what is so of a tree whose top is q, with the lengths in the table, is so of each tree that stands there
    at_top : (G : Type 0) (l : Rooted) (x k j : ℕ) (u : Rooted) → (Ready capacity T q h s h' s' (node l q m r u) → Rest F kb ka T h s h' s' (node l q m r u) → G)
        → Ready capacity T q h s h' s' (node l x k j u) → Rest F kb ka T h s h' s' (node l x k j u) → G
    at_top G l x k j u core R W =
        subst (λ (z : ℕ). Ready capacity T q h s h' s' (node l z k j u) → Rest F kb ka T h s h' s' (node l z k j u) → G) (sym R.stands.0)
        (subst (λ (z : ℕ). Ready capacity T q h s h' s' (node l q z j u) → Rest F kb ka T h s h' s' (node l q z j u) → G) (sym R.stands.2)
        (subst (λ (z : ℕ). Ready capacity T q h s h' s' (node l q m z u) → Rest F kb ka T h s h' s' (node l q m z u) → G) (sym R.stands.3) core)) R W

    abbrev Onward : Type 0
    Onward =
        Stage F c.share ka (noted (hung T h s q) q Right c.share) (slot_at T q).right q Right h' s'
        × (span (noted (hung T h s q) q Right c.share) capacity (slot_at T q).right < span T capacity q)

    pub turn_after : (t : Rooted) → is_gt c.answer ≡ true → Ready capacity T q h s h' s' t → Short ceiling T t → Rest F kb ka T h s h' s' t → Onward
    turn_after leaf g R K W = absurd (omega (arith, R.stands, held))
    turn_after (node l x k j u) g R K W = at_top Onward l x k j u core R W
      where
        core : Ready capacity T q h s h' s' (node l q m r u) → Rest F kb ka T h s h' s' (node l q m r u) → Onward
        core R W =
            let next = ready_step capacity T q h s h' s' Right l m r c.share u R in (
              (
                u,
                next,
                (λ p i. rw (words_kept capacity T q h s h' s' Right l m r c.share u R p) (K p (inr (inr i)))),
                λ T' S. W T'
                    (subst (λ (z : Rooted). Split capacity T h s h' s' (node l q m r u) z (greater_at order entry w kb ka (node l q m r u)) T') (sym (cond-true (is_gt c.answer) _ _ g))
                    (subst (λ (z : Rooted). Split capacity T h s h' s' (node l q m r u) (node l q m c.share (lesser_at order entry w c.share ka u)) z T') (sym (cond-true (is_gt c.answer) _ _ g))
                    (split_step capacity T q h s h' s' Right l m r c.share u R (lesser_at order entry w c.share ka u) (greater_at order entry w c.share ka u) T' S))),
              ),
              span_falls T (noted (hung T h s q) q Right c.share) capacity q (slot_at T q).right Right l q m r u R.stands R.few next.stands,
            )

    abbrev Backward : Type 0
    Backward =
        Stage F kb c.share (noted (hung T h' s' q) q Left c.share) (slot_at T q).left h s q Left
        × (span (noted (hung T h' s' q) q Left c.share) capacity (slot_at T q).left < span T capacity q)

    pub turn_before : (t : Rooted) → is_gt c.answer ≡ false → Ready capacity T q h s h' s' t → Short ceiling T t → Rest F kb ka T h s h' s' t → Backward
    turn_before leaf g R K W = absurd (omega (arith, R.stands, held))
    turn_before (node l x k j u) g R K W = at_top Backward l x k j u core R W
      where
        core : Ready capacity T q h s h' s' (node l q m r u) → Rest F kb ka T h s h' s' (node l q m r u) → Backward
        core R W =
            let next = ready_step capacity T q h' s' h s Left u r m c.share l (swapped R) in (
              (
                l,
                swapped next,
                (λ p i. rw (words_kept capacity T q h' s' h s Left u r m c.share l (swapped R) p) (K p (inr (inl i)))),
                λ T' S. W T'
                    (subst (λ (z : Rooted). Split capacity T h s h' s' (node l q m r u) z (greater_at order entry w kb ka (node l q m r u)) T') (sym (cond-false (is_gt c.answer) _ _ g))
                    (subst (λ (z : Rooted). Split capacity T h s h' s' (node l q m r u) (lesser_at order entry w kb c.share l) z T') (sym (cond-false (is_gt c.answer) _ _ g))
                    (swap (split_step capacity T q h' s' h s Left u r m c.share l (swapped R) (greater_at order entry w kb c.share l) (lesser_at order entry w kb c.share l) T' (swap S))))),
              ),
              span_falls T (noted (hung T h' s' q) q Left c.share) capacity q (slot_at T q).left Left u q r m l R.stands R.few next.stands,
            )

  -- the end: nothing is left
  pub last : (F : List Slot → Type 0) (kb ka : ℕ) (T : List Slot) (q h : ℕ) (s : Side) (h' : ℕ) (s' : Side) (none : ℕ) → capacity ≤ none → capacity ≤ q
      → (t : Rooted) → Ready capacity T q h s h' s' t → Rest F kb ka T h s h' s' t → F (hung (hung T h s none) h' s' none)
  last F kb ka T q h s h' s' none le e leaf R W = W _ (split_none capacity T q h s h' s' none le R)
  last F kb ka T q h s h' s' none le e (node l x k j u) R W = absurd (omega (arith, e, R.stands.1))

-- What the loop keeps: a part is left to do, the tables have the same words, and the shares are within the word.
pub record Going (order : ℕ → ℕ → Ordering) {S : Type 0} (symbol : S → ℕ) (strip : List S) (ceiling capacity : ℕ) (w : List ℕ) (T₀ : List Slot) (F : List Slot → Type 0)
    (T : List Slot) (q h : ℕ) (s : Side) (h' : ℕ) (s' : Side) (k : Shares) : Type 0 where
  pub stage : Stage order (entry_at symbol T₀ strip ceiling) ceiling capacity w F k.before k.after T q h s h' s'
  pub words : (p : ℕ) → (slot_at T p).length ≡ (slot_at T₀ p).length
  pub before : k.before ≤ length w
  pub after : k.after ≤ length w

module _ {order : ℕ → ℕ → Ordering} {S : Type 0} {symbol : S → ℕ} {strip : List S} {ceiling capacity : ℕ} {w : List ℕ} {T₀ : List Slot} {F : List Slot → Type 0}
    {T : List Slot} {q h : ℕ} {s : Side} {h' : ℕ} {s' : Side} {k : Shares} (G : Going order symbol strip ceiling capacity w T₀ F T q h s h' s' k) where
  abbrev entry : ℕ → Entry
  entry = entry_at symbol T₀ strip ceiling

  pub at_end : capacity ≤ q → (none : ℕ) → capacity ≤ none → F (hung (hung T h s none) h' s' none)
  at_end e none le = let g = G.stage in last order entry ceiling capacity w F k.before k.after T q h s h' s' none le e g.0 g.1 g.3

  abbrev here : Comparison
  here = step_here order entry ceiling capacity w k.before k.after T q

  -- the step by the words of this table is the step by the words of the first
  step_is : compared_at order w (entry_at symbol T strip ceiling) T q k ≡ here
  step_is =
      ap (λ (n : ℕ). compared order w (map symbol (take n (drop (q * ceiling) strip))) (ltb k.after k.before) (max k.before k.after) (cond (ltb k.after k.before) (slot_at T q).left_length (slot_at T q).right_length))
      (G.words q)

  share_within : here.share ≤ length w
  share_within =
      let e = G.before in
      let f = G.after in
      (compared_within order w (entry q).word (ltb k.after k.before) (max k.before k.after) (cond (ltb k.after k.before) (slot_at T q).left_length (slot_at T q).right_length) (length w) (omega arith) (omega arith)).share

  pub share_fits : (x : Comparison) → x ≡ compared_at order w (entry_at symbol T strip ceiling) T q k → x.share ≤ length w
  share_fits x e = subst (λ (z : Comparison). z.share ≤ length w) (sym (e ∙ step_is)) share_within

  -- the entry at hand is in the tree, and its word in the strip
  word_short : q < capacity → (t : Rooted) → Stands T capacity q t → Short ceiling T t → (slot_at T q).length ≤ ceiling
  word_short held leaf r K = absurd (omega (arith, r, held))
  word_short held (node l x m n u) r K = K q (inl (sym r.0))

  pub in_memory : q < capacity → (symbols : ℕ) → capacity * ceiling ≤ symbols → (q < length T) × (q * ceiling + (slot_at T q).length ≤ symbols)
  in_memory held symbols room =
      let g = G.stage in
      (omega (arith, held, g.1.wide), in_strip q capacity ceiling (slot_at T q).length symbols held (word_short held g.0 g.1.stands g.2) room)

  pub hook_in : h < length T
  hook_in = G.stage.1.at

  pub hook_in' : h' < length T
  hook_in' = G.stage.1.at'

  words_after : q < capacity → (a : ℕ) (b d : Side) (n : ℕ) → a < length T → (p : ℕ) → (slot_at (noted (hung T a b q) q d n) p).length ≡ (slot_at T₀ p).length
  words_after held a b d n r p =
      let H = hung_same T a b q r in
      let inside : q < length T = omega (arith, held, G.stage.1.wide) in
      (noted_same (hung T a b q) q d n (room H inside)).word p ∙ H.word p ∙ G.words p

  abbrev pub Onto : Comparison → List Slot → ℕ → Shares → Type 0
  Onto x T₂ next j =
      Going order symbol strip ceiling capacity w T₀ F T₂ next q Right h' s' j
      × (span T₂ capacity next < span T capacity q)

  pub goes_after : q < capacity → (x : Comparison) → x ≡ compared_at order w (entry_at symbol T strip ceiling) T q k → is_gt x.answer ≡ true
      → (T₁ T₂ : List Slot) → T₁ ≡ hung T h s q → T₂ ≡ noted T₁ q Right x.share → (next : ℕ) → next ≡ (slot_at T q).right → (j : Shares) → j ≡ passed Right x.share k → Onto x T₂ next j
  goes_after held x e g T₁ T₂ e₁ e₂ next e₃ j e₄ =
      let f : x ≡ here = e ∙ step_is in
      let st = G.stage in
      let t = turn_after order entry ceiling capacity w F k.before k.after T q h s h' s' held st.0 (subst (λ (z : Comparison). is_gt z.answer ≡ true) f g) st.1 st.2 st.3 in
      let core : Onto here (noted (hung T h s q) q Right here.share) (slot_at T q).right (passed Right here.share k) =
      (record { stage = t.0; words = words_after held h s Right here.share st.1.at; before = share_within; after = G.after }, t.1) in
      subst (Onto x T₂ next) (sym e₄) (subst (λ (z : ℕ). Onto x T₂ z (passed Right x.share k)) (sym e₃) (subst (λ (z : List Slot). Onto x z (slot_at T q).right (passed Right x.share k)) (sym (e₂ ∙ ap (λ (z : List Slot). noted z q Right x.share) e₁))
      (subst (λ (z : Comparison). Onto z (noted (hung T h s q) q Right z.share) (slot_at T q).right (passed Right z.share k)) (sym f) core)))

  abbrev pub Back : Comparison → List Slot → ℕ → Shares → Type 0
  Back x T₂ next j =
      Going order symbol strip ceiling capacity w T₀ F T₂ next h s q Left j
      × (span T₂ capacity next < span T capacity q)

  pub goes_before : q < capacity → (x : Comparison) → x ≡ compared_at order w (entry_at symbol T strip ceiling) T q k → is_gt x.answer ≡ false
      → (T₁ T₂ : List Slot) → T₁ ≡ hung T h' s' q → T₂ ≡ noted T₁ q Left x.share → (next : ℕ) → next ≡ (slot_at T q).left → (j : Shares) → j ≡ passed Left x.share k → Back x T₂ next j
  goes_before held x e g T₁ T₂ e₁ e₂ next e₃ j e₄ =
      let f : x ≡ here = e ∙ step_is in
      let st = G.stage in
      let t = turn_before order entry ceiling capacity w F k.before k.after T q h s h' s' held st.0 (subst (λ (z : Comparison). is_gt z.answer ≡ false) f g) st.1 st.2 st.3 in
      let core : Back here (noted (hung T h' s' q) q Left here.share) (slot_at T q).left (passed Left here.share k) =
      (record { stage = t.0; words = words_after held h' s' Left here.share st.1.at'; before = G.before; after = share_within }, t.1) in
      subst (Back x T₂ next) (sym e₄) (subst (λ (z : ℕ). Back x T₂ z (passed Left x.share k)) (sym e₃) (subst (λ (z : List Slot). Back x z (slot_at T q).left (passed Left x.share k)) (sym (e₂ ∙ ap (λ (z : List Slot). noted z q Left x.share) e₁))
      (subst (λ (z : Comparison). Back z (noted (hung T h' s' q) q Left z.share) (slot_at T q).left (passed Left z.share k)) (sym f) core)))

-- the start: both hooks on the place x, and the whole tree to part
pub begin : (order : ℕ → ℕ → Ordering) {S : Type 0} (symbol : S → ℕ) (strip : List S) (ceiling capacity : ℕ) (w : List ℕ) (T : List Slot) (q x : ℕ) (k : Shares) (symbols : ℕ) (t : Rooted)
    → FreeOf T symbols ceiling capacity x t q → k.before ≤ length w → k.after ≤ length w
    → Going order symbol strip ceiling capacity w T (Unzipped order (entry_at symbol T strip ceiling) capacity w k.before k.after x t T) T q x Left x Right k
begin order symbol strip ceiling capacity w T q x k symbols t f a b = record {
  stage = (t, record { stands = f.stands; apart = f.apart; few = f.fits; wide = f.room; out = f.free; out' = f.free; at = f.at; at' = f.at; two = λ e. left_not_right e.1 }, f.words, λ T' S. S);
  words = λ p. refl;
  before = a;
  after = b;
}

-- where nothing but the table was written, the step by the memory as it is now is the step by its first strip and limits
pub step_in : (order : ℕ → ℕ → Ordering) {S : Type 0} (symbol : S → ℕ) (w : List ℕ) (first m : Memory S) (q : ℕ) (k : Shares) → TableAlone first m
    → compared_at order w (entry_of symbol m) m.table.now q k ≡ compared_at order w (entry_at symbol m.table.now first.strip.now first.limits.ceiling) m.table.now q k
step_in order symbol w first m q k A =
    let e = A.strip in
    let f = A.limits in
    λ i. compared_at order w (entry_at symbol m.table.now (e i) (f i).ceiling) m.table.now q k
