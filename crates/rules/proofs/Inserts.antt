-- The tree of a list with one entry more.
use Rattle.std.proofs.Common.{◌≡◌, ℕ, Bool, true, false, cond, List, [], ◌∷◌, ◌++◌, Some, None, filter, Option, Ordering, Less, Equal, Greater, sym, refl, ap, ◌∙◌, subst, append_assoc, append-nil}
use Rattle.std.specs.Ordering.{is_lt}
use Rattle.std.specs.List.{AllByRecursion}
use Rattle.std.proofs.lemmas.List.Elements.{filter-append}
use Rattle.std.proofs.ByRecursion.{All-append, All-weaker}
use Rattle.kinds.specs.Orders.{Lawful}
use Rattle.words.specs.Words.{word_order, shared}
use Rattle.words.proofs.Orders.{words_lawful}
use Rattle.words.proofs.Sharing.{shared_swaps, after_of_before, before_of_after}
use Rattle.rules.specs.Entries.{Entry, before, outranks}
use Rattle.rules.specs.Held.{ordered, with}
use Rattle.rules.specs.Trees.{Tree, nothing, top, entries, ranked, shared_with, Exact, TreeOf}
use Rattle.rules.specs.Walks.{turned}
use Rattle.rules.specs.Inserts.{lesser, greater, inserted}
use Rattle.rules.proofs.Lists.{Above, Below, above_chains, below_chains, all_at, all_left, all_right, kept_none, kept_all, Rising, rising_before, rising_left, rising_right, rising_of_ordered}
use Rattle.rules.proofs.Ranks.{outranks_chains, outranks_other}
use Rattle.rules.proofs.Trees.{ranked_of, ranked_to, by}

-- no entry has the word w
abbrev pub Lacks : List ℕ → List Entry → Type 0
Lacks w es = AllByRecursion (λ f. w ≡ f.word → ⊥) es

module _ (order : ℕ → ℕ → Ordering) where
  -- ---- what holds of each entry
  pub all_lesser : (P : Entry → Type 0) (w : List ℕ) (t : Tree) → AllByRecursion P (entries t) → AllByRecursion P (entries (lesser order w t))
  all_lesser P w nothing h = tt
  all_lesser P w (top l e m n r) h =
      elim (word_order order w e.word) as (λ o. AllByRecursion P (entries (turned o (lesser order w l) (lesser order w l) (top l e m (shared w e.word) (lesser order w r))))) [
        | Less ↦ all_lesser P w l (all_left P (entries l) (e ∷ entries r) h)
        | Equal ↦ all_lesser P w l (all_left P (entries l) (e ∷ entries r) h)
        | Greater ↦
            All-append P (entries l) (e ∷ entries (lesser order w r)) (all_left P (entries l) (e ∷ entries r) h)
            (all_at P (entries l) e (entries r) h, all_lesser P w r (all_right P (entries l) (e ∷ entries r) h).1)
      ]

  pub all_greater : (P : Entry → Type 0) (w : List ℕ) (t : Tree) → AllByRecursion P (entries t) → AllByRecursion P (entries (greater order w t))
  all_greater P w nothing h = tt
  all_greater P w (top l e m n r) h =
      elim (word_order order w e.word) as (λ o. AllByRecursion P (entries (turned o (top (greater order w l) e (shared w e.word) n r) (greater order w r) (greater order w r)))) [
        | Less ↦
            All-append P (entries (greater order w l)) (e ∷ entries r) (all_greater P w l (all_left P (entries l) (e ∷ entries r) h))
            (all_right P (entries l) (e ∷ entries r) h)
        | Equal ↦ all_greater P w r (all_right P (entries l) (e ∷ entries r) h).1
        | Greater ↦ all_greater P w r (all_right P (entries l) (e ∷ entries r) h).1
      ]

  pub all_inserted : (P : Entry → Type 0) (e : Entry) (kb ka : ℕ) (t : Tree) → P e → AllByRecursion P (entries t) → AllByRecursion P (entries (inserted order e kb ka t))
  all_inserted P e kb ka nothing p h = (p, tt)
  all_inserted P e kb ka (top l f m n r) p h =
      elim (outranks order f e) as (λ b. AllByRecursion P (entries (cond b
      (turned (word_order order e.word f.word) (top (inserted order e kb (shared e.word f.word) l) f m n r) (top l f m n r) (top l f m n (inserted order e (shared e.word f.word) ka r)))
      (top (lesser order e.word (top l f m n r)) e kb ka (greater order e.word (top l f m n r)))))) [
        | true ↦ elim (word_order order e.word f.word) as (λ o. AllByRecursion P (entries (turned o (top (inserted order e kb (shared e.word f.word) l) f m n r) (top l f m n r) (top l f m n (inserted order e (shared e.word f.word) ka r))))) [
          | Less ↦
              All-append P (entries (inserted order e kb (shared e.word f.word) l)) (f ∷ entries r)
              (all_inserted P e kb (shared e.word f.word) l p (all_left P (entries l) (f ∷ entries r) h)) (all_right P (entries l) (f ∷ entries r) h)
          | Equal ↦ h
          | Greater ↦
              All-append P (entries l) (f ∷ entries (inserted order e (shared e.word f.word) ka r)) (all_left P (entries l) (f ∷ entries r) h)
              (all_at P (entries l) f (entries r) h, all_inserted P e (shared e.word f.word) ka r p (all_right P (entries l) (f ∷ entries r) h).1)
        ]
        | false ↦
            All-append P (entries (lesser order e.word (top l f m n r))) (e ∷ entries (greater order e.word (top l f m n r)))
            (all_lesser P e.word (top l f m n r) h) (p, all_greater P e.word (top l f m n r) h)
      ]

  -- ---- the lengths
  pub exact_lesser : (lo hi : Option (List ℕ)) (w : List ℕ) (t : Tree) → Exact lo hi t → Exact lo (Some w) (lesser order w t)
  exact_lesser lo hi w nothing x = tt
  exact_lesser lo hi w (top l e m n r) x =
      elim (word_order order w e.word) as (λ o. Exact lo (Some w) (turned o (lesser order w l) (lesser order w l) (top l e m (shared w e.word) (lesser order w r)))) [
        | Less ↦ exact_lesser lo (Some e.word) w l x.2
        | Equal ↦ exact_lesser lo (Some e.word) w l x.2
        | Greater ↦ (x.0, refl, x.2, exact_lesser (Some e.word) hi w r x.3)
      ]

  pub exact_greater : (lo hi : Option (List ℕ)) (w : List ℕ) (t : Tree) → Exact lo hi t → Exact (Some w) hi (greater order w t)
  exact_greater lo hi w nothing x = tt
  exact_greater lo hi w (top l e m n r) x =
      elim (word_order order w e.word) as (λ o. Exact (Some w) hi (turned o (top (greater order w l) e (shared w e.word) n r) (greater order w r) (greater order w r))) [
        | Less ↦ (refl, x.1, exact_greater lo (Some e.word) w l x.2, x.3)
        | Equal ↦ exact_greater (Some e.word) hi w r x.3
        | Greater ↦ exact_greater (Some e.word) hi w r x.3
      ]

  -- ---- the ranks
  pub ranked_lesser : (w : List ℕ) (t : Tree) → ranked order t ≡ true → ranked order (lesser order w t) ≡ true
  ranked_lesser w nothing h = refl
  ranked_lesser w (top l e m n r) h =
      let k = ranked_of order l e m n r h in
      elim (word_order order w e.word) as (λ o. ranked order (turned o (lesser order w l) (lesser order w l) (top l e m (shared w e.word) (lesser order w r))) ≡ true) [
        | Less ↦ ranked_lesser w l k.left
        | Equal ↦ ranked_lesser w l k.left
        | Greater ↦ ranked_to order l e m (shared w e.word) (lesser order w r) (record {
          over_left = k.over_left;
          over_right = all_lesser (λ f. outranks order e f ≡ true) w r k.over_right;
          left = k.left;
          right = ranked_lesser w r k.right;
        })
      ]

  pub ranked_greater : (w : List ℕ) (t : Tree) → ranked order t ≡ true → ranked order (greater order w t) ≡ true
  ranked_greater w nothing h = refl
  ranked_greater w (top l e m n r) h =
      let k = ranked_of order l e m n r h in
      elim (word_order order w e.word) as (λ o. ranked order (turned o (top (greater order w l) e (shared w e.word) n r) (greater order w r) (greater order w r)) ≡ true) [
        | Less ↦ ranked_to order (greater order w l) e (shared w e.word) n r (record {
          over_left = all_greater (λ f. outranks order e f ≡ true) w l k.over_left;
          over_right = k.over_right;
          left = ranked_greater w l k.left;
          right = k.right;
        })
        | Equal ↦ ranked_greater w r k.right
        | Greater ↦ ranked_greater w r k.right
      ]

module _ (order : ℕ → ℕ → Ordering) (law : Lawful order) where
  abbrev low : List ℕ → Entry → Bool
  low w f = before order f.word w

  abbrev high : List ℕ → Entry → Bool
  high w f = before order w f.word

  -- ---- which entries come before and after a word
  all_low : (w : List ℕ) (es : List Entry) → Below order w es → filter (low w) es ≡ es
  all_low w es h = kept_all (low w) es (All-weaker (λ f. word_order order f.word w ≡ Less) (λ f. low w f ≡ true) (λ f k. ap is_lt k) es h)

  none_low : (w : List ℕ) (es : List Entry) → Above order w es → filter (low w) es ≡ []
  none_low w es h = kept_none (low w) es (All-weaker (λ f. word_order order w f.word ≡ Less) (λ f. low w f ≡ false) (λ f k. ap is_lt (after_of_before order law w f.word k)) es h)

  all_high : (w : List ℕ) (es : List Entry) → Above order w es → filter (high w) es ≡ es
  all_high w es h = kept_all (high w) es (All-weaker (λ f. word_order order w f.word ≡ Less) (λ f. high w f ≡ true) (λ f k. ap is_lt k) es h)

  none_high : (w : List ℕ) (es : List Entry) → Below order w es → filter (high w) es ≡ []
  none_high w es h = kept_none (high w) es (All-weaker (λ f. word_order order f.word w ≡ Less) (λ f. high w f ≡ false) (λ f k. ap is_lt (after_of_before order law f.word w k)) es h)

  -- a word before that of the top, or after it, in a rising list
  module _ (w : List ℕ) (xs : List Entry) (e : Entry) (ys : List Entry) (up : Rising order (xs ++ (e ∷ ys))) where
    left_low : word_order order w e.word ≡ Less → filter (low w) (xs ++ (e ∷ ys)) ≡ filter (low w) xs
    left_low h =
        filter-append (low w) xs (e ∷ ys)
        ∙ ap (λ (z : List Entry). filter (low w) xs ++ z) (none_low w (e ∷ ys) (h, above_chains order law w e.word ys h (rising_right order xs (e ∷ ys) up).0))
        ∙ append-nil (filter (low w) xs)

    left_high : word_order order w e.word ≡ Less → filter (high w) (xs ++ (e ∷ ys)) ≡ filter (high w) xs ++ (e ∷ ys)
    left_high h =
        filter-append (high w) xs (e ∷ ys)
        ∙ ap (λ (z : List Entry). filter (high w) xs ++ z) (all_high w (e ∷ ys) (h, above_chains order law w e.word ys h (rising_right order xs (e ∷ ys) up).0))

    below_right : word_order order e.word w ≡ Less → Below order w (xs ++ (e ∷ []))
    below_right h = All-append (λ f. word_order order f.word w ≡ Less) xs (e ∷ []) (below_chains order law e.word w xs h (rising_before order xs e ys up)) (h, tt)

    split : xs ++ (e ∷ ys) ≡ (xs ++ (e ∷ [])) ++ ys
    split = simp append_assoc

    right_low : word_order order e.word w ≡ Less → filter (low w) (xs ++ (e ∷ ys)) ≡ xs ++ (e ∷ filter (low w) ys)
    right_low h =
        ap (filter (low w)) split ∙ filter-append (low w) (xs ++ (e ∷ [])) ys
        ∙ ap (λ (z : List Entry). z ++ filter (low w) ys) (all_low w (xs ++ (e ∷ [])) (below_right h)) ∙ simp append_assoc

    right_high : word_order order e.word w ≡ Less → filter (high w) (xs ++ (e ∷ ys)) ≡ filter (high w) ys
    right_high h =
        ap (filter (high w)) split ∙ filter-append (high w) (xs ++ (e ∷ [])) ys
        ∙ ap (λ (z : List Entry). z ++ filter (high w) ys) (none_high w (xs ++ (e ∷ [])) (below_right h))

  pub entries_lesser : (w : List ℕ) (t : Tree) → Rising order (entries t) → Lacks w (entries t) → entries (lesser order w t) ≡ filter (low w) (entries t)
  entries_lesser w nothing up lacks = refl
  entries_lesser w (top l e m n r) up lacks =
      at (word_order order w e.word) refl
      (entries_lesser w l (rising_left order (entries l) (e ∷ entries r) up) (all_left (λ f. w ≡ f.word → ⊥) (entries l) (e ∷ entries r) lacks))
      (entries_lesser w r (rising_right order (entries l) (e ∷ entries r) up).1 (all_right (λ f. w ≡ f.word → ⊥) (entries l) (e ∷ entries r) lacks).1)
    where
      at : (o : Ordering) → word_order order w e.word ≡ o → entries (lesser order w l) ≡ filter (low w) (entries l) → entries (lesser order w r) ≡ filter (low w) (entries r)
          → entries (turned o (lesser order w l) (lesser order w l) (top l e m (shared w e.word) (lesser order w r))) ≡ filter (low w) (entries l ++ (e ∷ entries r))
      at Less h i j = i ∙ sym (left_low w (entries l) e (entries r) up h)
      at Equal h i j = absurd (all_at (λ f. w ≡ f.word → ⊥) (entries l) e (entries r) lacks ((words_lawful order law).same w e.word h))
      at Greater h i j = ap (λ (z : List Entry). entries l ++ (e ∷ z)) j ∙ sym (right_low w (entries l) e (entries r) up (before_of_after order law w e.word h))

  pub entries_greater : (w : List ℕ) (t : Tree) → Rising order (entries t) → Lacks w (entries t) → entries (greater order w t) ≡ filter (high w) (entries t)
  entries_greater w nothing up lacks = refl
  entries_greater w (top l e m n r) up lacks =
      at (word_order order w e.word) refl
      (entries_greater w l (rising_left order (entries l) (e ∷ entries r) up) (all_left (λ f. w ≡ f.word → ⊥) (entries l) (e ∷ entries r) lacks))
      (entries_greater w r (rising_right order (entries l) (e ∷ entries r) up).1 (all_right (λ f. w ≡ f.word → ⊥) (entries l) (e ∷ entries r) lacks).1)
    where
      at : (o : Ordering) → word_order order w e.word ≡ o → entries (greater order w l) ≡ filter (high w) (entries l) → entries (greater order w r) ≡ filter (high w) (entries r)
          → entries (turned o (top (greater order w l) e (shared w e.word) n r) (greater order w r) (greater order w r)) ≡ filter (high w) (entries l ++ (e ∷ entries r))
      at Less h i j = ap (λ (z : List Entry). z ++ (e ∷ entries r)) i ∙ sym (left_high w (entries l) e (entries r) up h)
      at Equal h i j = absurd (all_at (λ f. w ≡ f.word → ⊥) (entries l) e (entries r) lacks ((words_lawful order law).same w e.word h))
      at Greater h i j = j ∙ sym (right_high w (entries l) e (entries r) up (before_of_after order law w e.word h))

  -- ---- the entry put in
  module _ (e : Entry) where
    abbrev w : List ℕ
    w = e.word

    pub entries_inserted : (kb ka : ℕ) (t : Tree) → Rising order (entries t) → Lacks w (entries t) → entries (inserted order e kb ka t) ≡ with order e (entries t)
    entries_inserted kb ka nothing up lacks = refl
    entries_inserted kb ka (top l f m n r) up lacks =
        by (outranks order f e)
        (λ b. entries (cond b
        (turned (word_order order w f.word) (top (inserted order e kb (shared w f.word) l) f m n r) (top l f m n r) (top l f m n (inserted order e (shared w f.word) ka r)))
        (top (lesser order w (top l f m n r)) e kb ka (greater order w (top l f m n r)))) ≡ with order e (entries l ++ (f ∷ entries r)))
        (λ o. at (word_order order w f.word) refl
        (entries_inserted kb (shared w f.word) l (rising_left order (entries l) (f ∷ entries r) up) (all_left (λ g. w ≡ g.word → ⊥) (entries l) (f ∷ entries r) lacks))
        (entries_inserted (shared w f.word) ka r (rising_right order (entries l) (f ∷ entries r) up).1 (all_right (λ g. w ≡ g.word → ⊥) (entries l) (f ∷ entries r) lacks).1))
        (λ o. λ i. entries_lesser w (top l f m n r) up lacks i ++ (e ∷ entries_greater w (top l f m n r) up lacks i))
      where
        at : (o : Ordering) → word_order order w f.word ≡ o
            → entries (inserted order e kb (shared w f.word) l) ≡ with order e (entries l) → entries (inserted order e (shared w f.word) ka r) ≡ with order e (entries r)
            → entries (turned o (top (inserted order e kb (shared w f.word) l) f m n r) (top l f m n r) (top l f m n (inserted order e (shared w f.word) ka r))) ≡ with order e (entries l ++ (f ∷ entries r))
        at Less h i j =
            ap (λ (z : List Entry). z ++ (f ∷ entries r)) i ∙ append_assoc (filter (low w) (entries l)) (e ∷ filter (high w) (entries l)) (f ∷ entries r)
            ∙ (λ k. sym (left_low w (entries l) f (entries r) up h) k ++ (e ∷ sym (left_high w (entries l) f (entries r) up h) k))
        at Equal h i j = absurd (all_at (λ g. w ≡ g.word → ⊥) (entries l) f (entries r) lacks ((words_lawful order law).same w f.word h))
        at Greater h i j =
            ap (λ (z : List Entry). entries l ++ (f ∷ z)) j ∙ sym (append_assoc (entries l) (f ∷ filter (low w) (entries r)) (e ∷ filter (high w) (entries r)))
            ∙ (λ k. sym (right_low w (entries l) f (entries r) up (before_of_after order law w f.word h)) k ++ (e ∷ sym (right_high w (entries l) f (entries r) up (before_of_after order law w f.word h)) k))

    pub ranked_inserted : (kb ka : ℕ) (t : Tree) → Lacks w (entries t) → ranked order t ≡ true → ranked order (inserted order e kb ka t) ≡ true
    ranked_inserted kb ka nothing lacks h = refl
    ranked_inserted kb ka (top l f m n r) lacks h =
        let k = ranked_of order l f m n r h in
        by (outranks order f e)
        (λ b. ranked order (cond b
        (turned (word_order order w f.word) (top (inserted order e kb (shared w f.word) l) f m n r) (top l f m n r) (top l f m n (inserted order e (shared w f.word) ka r)))
        (top (lesser order w (top l f m n r)) e kb ka (greater order w (top l f m n r)))) ≡ true)
        (λ o.
        elim (word_order order w f.word) as (λ c. ranked order (turned c (top (inserted order e kb (shared w f.word) l) f m n r) (top l f m n r) (top l f m n (inserted order e (shared w f.word) ka r))) ≡ true) [
          | Less ↦ ranked_to order (inserted order e kb (shared w f.word) l) f m n r (record {
            over_left = all_inserted order (λ g. outranks order f g ≡ true) e kb (shared w f.word) l o k.over_left;
            over_right = k.over_right;
            left = ranked_inserted kb (shared w f.word) l (all_left (λ g. w ≡ g.word → ⊥) (entries l) (f ∷ entries r) lacks) k.left;
            right = k.right;
          })
          | Equal ↦ h
          | Greater ↦ ranked_to order l f m n (inserted order e (shared w f.word) ka r) (record {
            over_left = k.over_left;
            over_right = all_inserted order (λ g. outranks order f g ≡ true) e (shared w f.word) ka r o k.over_right;
            left = k.left;
            right = ranked_inserted (shared w f.word) ka r (all_right (λ g. w ≡ g.word → ⊥) (entries l) (f ∷ entries r) lacks).1 k.right;
          })
        ])
        (λ o.
        let u : outranks order e f ≡ true = outranks_other order law f e (λ q. all_at (λ g. w ≡ g.word → ⊥) (entries l) f (entries r) lacks (sym q)) o in
        let up : (xs : List Entry) → AllByRecursion (λ g. outranks order f g ≡ true) xs → AllByRecursion (λ g. outranks order e g ≡ true) xs =
        All-weaker (λ g. outranks order f g ≡ true) (λ g. outranks order e g ≡ true) (λ g v. outranks_chains order law e f g u v) in
        let over : AllByRecursion (λ g. outranks order e g ≡ true) (entries l ++ (f ∷ entries r)) =
        All-append (λ g. outranks order e g ≡ true) (entries l) (f ∷ entries r) (up (entries l) k.over_left) (u, up (entries r) k.over_right) in
        ranked_to order (lesser order w (top l f m n r)) e kb ka (greater order w (top l f m n r)) (record {
          over_left = all_lesser order (λ g. outranks order e g ≡ true) w (top l f m n r) over;
          over_right = all_greater order (λ g. outranks order e g ≡ true) w (top l f m n r) over;
          left = ranked_lesser order w (top l f m n r) h;
          right = ranked_greater order w (top l f m n r) h;
        }))

    pub exact_inserted : (lo hi : Option (List ℕ)) (kb ka : ℕ) (t : Tree) → kb ≡ shared_with lo w → ka ≡ shared_with hi w → Exact lo hi t → Exact lo hi (inserted order e kb ka t)
    exact_inserted lo hi kb ka nothing eb ea x = (eb, ea, tt, tt)
    exact_inserted lo hi kb ka (top l f m n r) eb ea x =
        elim (outranks order f e) as (λ b. Exact lo hi (cond b
        (turned (word_order order w f.word) (top (inserted order e kb (shared w f.word) l) f m n r) (top l f m n r) (top l f m n (inserted order e (shared w f.word) ka r)))
        (top (lesser order w (top l f m n r)) e kb ka (greater order w (top l f m n r))))) [
          | true ↦ elim (word_order order w f.word) as (λ c. Exact lo hi (turned c (top (inserted order e kb (shared w f.word) l) f m n r) (top l f m n r) (top l f m n (inserted order e (shared w f.word) ka r)))) [
            | Less ↦ (x.0, x.1, exact_inserted lo (Some f.word) kb (shared w f.word) l eb (shared_swaps order law f.word w) x.2, x.3)
            | Equal ↦ x
            | Greater ↦ (x.0, x.1, x.2, exact_inserted (Some f.word) hi (shared w f.word) ka r (shared_swaps order law f.word w) ea x.3)
          ]
          | false ↦ (eb, ea, exact_lesser order lo hi w (top l f m n r) x, exact_greater order lo hi w (top l f m n r) x)
        ]

    -- the tree of a list, with an entry put in, is the tree of the list with it
    pub tree_inserted : (es : List Entry) (t : Tree) → ordered order es ≡ true → Lacks w es → TreeOf order es t → TreeOf order (with order e es) (inserted order e 0 0 t)
    tree_inserted es t h lacks o =
        let up = subst (Rising order) (sym o.holds) (rising_of_ordered order law es h) in
        let none = subst (Lacks w) (sym o.holds) lacks in
        record {
          holds = entries_inserted 0 0 t up none ∙ ap (with order e) o.holds;
          ranks = ranked_inserted 0 0 t none o.ranks;
          lengths = exact_inserted None None 0 0 t refl refl o.lengths;
        }
