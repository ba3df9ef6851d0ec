-- Where the tree is that of the list, the steps of a lookup part it, and put an entry in, as the order of words does.
use Rattle.std.proofs.Common.{◌≡◌, ℕ, Bool, true, cond, ◌&&◌, ◌||◌, eqb, ltb, List, [], ◌∷◌, ◌++◌, Some, None, Option, Ordering, Less, Equal, Greater, sym, refl, ap, ◌∙◌, subst}
use Rattle.std.specs.Ordering.{is_lt, is_gt, ordering_reverse}
use Rattle.kinds.specs.Orders.{Lawful}
use Rattle.words.specs.declared.comparison.Comparison.{Comparison}
use Rattle.words.specs.Words.{word_order, shared}
use Rattle.words.proofs.Orders.{words_lawful}
use Rattle.words.proofs.Sharing.{before_of_after}
use Rattle.rules.specs.Entries.{Entry, outranks}
use Rattle.rules.specs.Held.{ordered, with}
use Rattle.rules.specs.Trees.{Tree, nothing, top, entries, Exact, TreeOf}
use Rattle.rules.specs.Lookups.{shared_with_entry, pairs_at}
use Rattle.rules.specs.Walks.{turned, step_at}
use Rattle.rules.specs.Inserts.{lesser, greater, inserted, lesser_by, greater_by, inserted_by, is_above}
use Rattle.rules.proofs.Inserts.{Lacks, tree_inserted}
use Rattle.rules.proofs.Lists.{Above, Below, all_at, all_left, all_right}
use Rattle.rules.proofs.Places.{up_to, on_from, word_of, Hangs, hangs_left, hangs_right, hangs_whole, above_left, below_right}
use Rattle.rules.proofs.Walks.{compared_here}

module _ (order : ℕ → ℕ → Ordering) (law : Lawful order) where
  is_gt_is : (u v : List ℕ) → is_gt (word_order order u v) ≡ is_lt (word_order order v u)
  is_gt_is u v = at (word_order order u v) refl
    where
      at : (o : Ordering) → word_order order u v ≡ o → is_gt o ≡ is_lt (word_order order v u)
      at Less e = sym (ap is_lt ((words_lawful order law).swaps u v ∙ ap ordering_reverse e))
      at Equal e = sym (ap is_lt ((words_lawful order law).swaps u v ∙ ap ordering_reverse e))
      at Greater e = sym (ap is_lt ((words_lawful order law).swaps u v ∙ ap ordering_reverse e))

  stays_is : (f e : Entry) (c : Comparison) → c.answer ≡ word_order order e.word f.word → is_above order f e c ≡ outranks order f e
  stays_is f e c h = ap (λ (b : Bool). ltb e.weight f.weight || (eqb f.weight e.weight && b)) (ap is_gt h ∙ is_gt_is e.word f.word)

  -- a subtree that hangs in the tree of a list, where the word w belongs into it
  pub record Belongs (es b : List Entry) (lo : Option Entry) (s : Tree) (hi : Option Entry) (a : List Entry) (w : List ℕ) : Type 0 where
    pub hangs : Hangs order es b lo s hi a
    pub low : Below order w (up_to b lo)
    pub high : Above order w (on_from hi a)
    pub exact : Exact (word_of lo) (word_of hi) s

  module _ (es b : List Entry) (lo : Option Entry) (l : Tree) (e : Entry) (m n : ℕ) (r : Tree) (hi : Option Entry) (a : List Entry) (w : List ℕ) (k : Belongs es b lo (top l e m n r) hi a w) where
    abbrev c : Comparison
    c = step_at order w (shared_with_entry w lo) (shared_with_entry w hi) e m n

    step_is : c ≡ record { answer = word_order order w e.word; share = shared w e.word; pairs = pairs_at order es w e }
    step_is = compared_here order law es b lo l e m n r hi a w k.hangs k.low k.high k.exact

    pub answer_is : c.answer ≡ word_order order w e.word
    answer_is = ap (λ (x : Comparison). x.answer) step_is

    pub share_is : c.share ≡ shared w e.word
    share_is = ap (λ (x : Comparison). x.share) step_is

    pub goes_left : word_order order w e.word ≡ Less → Belongs es b lo l (Some e) (entries r ++ on_from hi a) w
    goes_left h = record {
      hangs = hangs_left order es b lo l e m n r hi a k.hangs;
      low = k.low;
      high = above_left order law es b lo l e m n r hi a k.hangs w h;
      exact = k.exact.2;
    }

    pub goes_right : word_order order e.word w ≡ Less → Belongs es (up_to b lo ++ entries l) (Some e) r hi a w
    goes_right h = record {
      hangs = hangs_right order es b lo l e m n r hi a k.hangs;
      low = below_right order law es b lo l e m n r hi a k.hangs w h;
      high = k.high;
      exact = k.exact.3;
    }

  -- ---- where w is not held, the steps part a tree as the order of words does
  lacks_left : (w : List ℕ) (l : Tree) (e : Entry) (r : Tree) → Lacks w (entries l ++ (e ∷ entries r)) → Lacks w (entries l)
  lacks_left w l e r h = all_left (λ f. w ≡ f.word → ⊥) (entries l) (e ∷ entries r) h

  lacks_right : (w : List ℕ) (l : Tree) (e : Entry) (r : Tree) → Lacks w (entries l ++ (e ∷ entries r)) → Lacks w (entries r)
  lacks_right w l e r h = (all_right (λ f. w ≡ f.word → ⊥) (entries l) (e ∷ entries r) h).1

  never_same : {A : Type 0} (w : List ℕ) (l : Tree) (e : Entry) (r : Tree) → Lacks w (entries l ++ (e ∷ entries r)) → word_order order w e.word ≡ Equal → A
  never_same w l e r h k = absurd (all_at (λ f. w ≡ f.word → ⊥) (entries l) e (entries r) h ((words_lawful order law).same w e.word k))

  pub lesser_is : (es b : List Entry) (lo : Option Entry) (s : Tree) (hi : Option Entry) (a : List Entry) (w : List ℕ) → Lacks w (entries s) → Belongs es b lo s hi a w
      → lesser_by order w (shared_with_entry w lo) (shared_with_entry w hi) s ≡ lesser order w s
  lesser_is es b lo nothing hi a w lacks k = refl
  lesser_is es b lo (top l e m n r) hi a w lacks k =
      let p = answer_is es b lo l e m n r hi a w k in
      let q = share_is es b lo l e m n r hi a w k in
      let kb = shared_with_entry w lo in
      let ka = shared_with_entry w hi in
      (λ i. cond (is_gt (p i)) (top l e m (q i) (lesser_by order w (q i) ka r)) (lesser_by order w kb (q i) l))
      ∙ at (word_order order w e.word) refl
      (λ h. lesser_is es b lo l (Some e) (entries r ++ on_from hi a) w (lacks_left w l e r lacks) (goes_left es b lo l e m n r hi a w k h))
      (λ h. lesser_is es (up_to b lo ++ entries l) (Some e) r hi a w (lacks_right w l e r lacks) (goes_right es b lo l e m n r hi a w k h))
    where
      at : (o : Ordering) → word_order order w e.word ≡ o
          → (word_order order w e.word ≡ Less → lesser_by order w (shared_with_entry w lo) (shared w e.word) l ≡ lesser order w l)
          → (word_order order e.word w ≡ Less → lesser_by order w (shared w e.word) (shared_with_entry w hi) r ≡ lesser order w r)
          → cond (is_gt o) (top l e m (shared w e.word) (lesser_by order w (shared w e.word) (shared_with_entry w hi) r)) (lesser_by order w (shared_with_entry w lo) (shared w e.word) l)
          ≡ turned o (lesser order w l) (lesser order w l) (top l e m (shared w e.word) (lesser order w r))
      at Less h i j = i h
      at Equal h i j = never_same w l e r lacks h
      at Greater h i j = ap (λ (z : Tree). top l e m (shared w e.word) z) (j (before_of_after order law w e.word h))

  pub greater_is : (es b : List Entry) (lo : Option Entry) (s : Tree) (hi : Option Entry) (a : List Entry) (w : List ℕ) → Lacks w (entries s) → Belongs es b lo s hi a w
      → greater_by order w (shared_with_entry w lo) (shared_with_entry w hi) s ≡ greater order w s
  greater_is es b lo nothing hi a w lacks k = refl
  greater_is es b lo (top l e m n r) hi a w lacks k =
      let p = answer_is es b lo l e m n r hi a w k in
      let q = share_is es b lo l e m n r hi a w k in
      let kb = shared_with_entry w lo in
      let ka = shared_with_entry w hi in
      (λ i. cond (is_gt (p i)) (greater_by order w (q i) ka r) (top (greater_by order w kb (q i) l) e (q i) n r))
      ∙ at (word_order order w e.word) refl
      (λ h. greater_is es b lo l (Some e) (entries r ++ on_from hi a) w (lacks_left w l e r lacks) (goes_left es b lo l e m n r hi a w k h))
      (λ h. greater_is es (up_to b lo ++ entries l) (Some e) r hi a w (lacks_right w l e r lacks) (goes_right es b lo l e m n r hi a w k h))
    where
      at : (o : Ordering) → word_order order w e.word ≡ o
          → (word_order order w e.word ≡ Less → greater_by order w (shared_with_entry w lo) (shared w e.word) l ≡ greater order w l)
          → (word_order order e.word w ≡ Less → greater_by order w (shared w e.word) (shared_with_entry w hi) r ≡ greater order w r)
          → cond (is_gt o) (greater_by order w (shared w e.word) (shared_with_entry w hi) r) (top (greater_by order w (shared_with_entry w lo) (shared w e.word) l) e (shared w e.word) n r)
          ≡ turned o (top (greater order w l) e (shared w e.word) n r) (greater order w r) (greater order w r)
      at Less h i j = ap (λ (z : Tree). top z e (shared w e.word) n r) (i h)
      at Equal h i j = never_same w l e r lacks h
      at Greater h i j = j (before_of_after order law w e.word h)

  -- ---- and they put an entry in where the ranks do
  pub inserted_is : (x : Entry) (es b : List Entry) (lo : Option Entry) (s : Tree) (hi : Option Entry) (a : List Entry) → Lacks x.word (entries s) → Belongs es b lo s hi a x.word
      → inserted_by order x (shared_with_entry x.word lo) (shared_with_entry x.word hi) s ≡ inserted order x (shared_with_entry x.word lo) (shared_with_entry x.word hi) s
  inserted_is x es b lo nothing hi a lacks k = refl
  inserted_is x es b lo (top l f m n r) hi a lacks k =
      let w = x.word in
      let p = answer_is es b lo l f m n r hi a w k in
      let q = share_is es b lo l f m n r hi a w k in
      let u = stays_is f x (c es b lo l f m n r hi a w k) p in
      let kb = shared_with_entry w lo in
      let ka = shared_with_entry w hi in
      let s = top l f m n r in
      let left = lesser_is es b lo s hi a w lacks k in
      let right = greater_is es b lo s hi a w lacks k in
      (λ i. cond (u i)
      (cond (is_gt (p i)) (top l f m n (inserted_by order x (q i) ka r)) (top (inserted_by order x kb (q i) l) f m n r))
      (top (left i) x kb ka (right i)))
      ∙ ap (λ (z : Tree). cond (outranks order f x) z (top (lesser order w s) x kb ka (greater order w s)))
      (at (word_order order w f.word) refl
      (λ h. inserted_is x es b lo l (Some f) (entries r ++ on_from hi a) (lacks_left w l f r lacks) (goes_left es b lo l f m n r hi a w k h))
      (λ h. inserted_is x es (up_to b lo ++ entries l) (Some f) r hi a (lacks_right w l f r lacks) (goes_right es b lo l f m n r hi a w k h)))
    where
      at : (o : Ordering) → word_order order x.word f.word ≡ o
          → (word_order order x.word f.word ≡ Less → inserted_by order x (shared_with_entry x.word lo) (shared x.word f.word) l ≡ inserted order x (shared_with_entry x.word lo) (shared x.word f.word) l)
          → (word_order order f.word x.word ≡ Less → inserted_by order x (shared x.word f.word) (shared_with_entry x.word hi) r ≡ inserted order x (shared x.word f.word) (shared_with_entry x.word hi) r)
          → cond (is_gt o) (top l f m n (inserted_by order x (shared x.word f.word) (shared_with_entry x.word hi) r)) (top (inserted_by order x (shared_with_entry x.word lo) (shared x.word f.word) l) f m n r)
          ≡ turned o (top (inserted order x (shared_with_entry x.word lo) (shared x.word f.word) l) f m n r) (top l f m n r) (top l f m n (inserted order x (shared x.word f.word) (shared_with_entry x.word hi) r))
      at Less h i j = ap (λ (z : Tree). top z f m n r) (i h)
      at Equal h i j = never_same x.word l f r lacks h
      at Greater h i j = ap (λ (z : Tree). top l f m n z) (j (before_of_after order law x.word f.word h))

  -- the tree of a list, with an entry put in by steps, is the tree of the list with it
  pub tree_inserted_by : (x : Entry) (es : List Entry) (t : Tree) → ordered order es ≡ true → Lacks x.word es → TreeOf order es t → TreeOf order (with order x es) (inserted_by order x 0 0 t)
  tree_inserted_by x es t h lacks o =
      let none : Lacks x.word (entries t) = subst (Lacks x.word) (sym o.holds) lacks in
      let k : Belongs es [] None t None [] x.word = record { hangs = hangs_whole order law es t h o; low = tt; high = tt; exact = o.lengths } in
      subst (TreeOf order (with order x es)) (sym (inserted_is x es [] None t None [] none k)) (tree_inserted order law x es t h lacks o)
