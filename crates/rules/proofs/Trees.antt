-- Each ordered list has exactly one tree.
use Rattle.std.proofs.Common.{◌≡◌, ℕ, Bool, true, false, cond, ◌&&◌, List, [], ◌∷◌, ◌++◌, Some, None, Option, Ordering, Less, sym, refl, ap, ◌∙◌, subst, inl, inr, arith}
use Rattle.std.specs.List.{AllByRecursion}
use Rattle.std.proofs.ByRecursion.{All-append, All-weaker}
use Rattle.std.proofs.lemmas.Bool.{and_parts, and_from}
use Rattle.kinds.specs.Orders.{Lawful}
use Rattle.words.specs.Words.{word_order}
use Rattle.words.proofs.Sharing.{word_not_itself}
use Rattle.rules.specs.Entries.{Entry, outranks}
use Rattle.rules.specs.Held.{every, ordered}
use Rattle.rules.specs.Trees.{Tree, nothing, top, entries, ranked, shared_with, Exact, TreeOf, put_first, grown, measured, tree_of}
use Rattle.rules.proofs.Lists.{all_of_every, every_of_all, Within, two_cuts, all_at, all_left, Rising, rising_of_ordered}
use Rattle.rules.proofs.Ranks.{outranks_chains, outranks_once, outranks_other}

no_nothing : {A : Type 0} (xs : List Entry) (y : Entry) (ys : List Entry) → [] ≡ xs ++ (y ∷ ys) → A
no_nothing [] y ys h = let z : ◌≡◌ {A = ℕ} 0 1 = cc in absurd (let f : ⊥ = omega arith in f)
no_nothing (x ∷ xs) y ys h = let z : ◌≡◌ {A = ℕ} 0 1 = cc in absurd (let f : ⊥ = omega arith in f)

module _ (order : ℕ → ℕ → Ordering) where
  -- what `ranked` says of a top
  pub record RankedTop (l : Tree) (e : Entry) (r : Tree) : Type 0 where
    pub over_left : AllByRecursion (λ f. outranks order e f ≡ true) (entries l)
    pub over_right : AllByRecursion (λ f. outranks order e f ≡ true) (entries r)
    pub left : ranked order l ≡ true
    pub right : ranked order r ≡ true

  pub ranked_of : (l : Tree) (e : Entry) (m n : ℕ) (r : Tree) → ranked order (top l e m n r) ≡ true → RankedTop l e r
  ranked_of l e m n r h =
      let a = every (outranks order e) (entries l) in
      let b = every (outranks order e) (entries r) in
      let p = and_parts (a && b && ranked order l) (ranked order r) h in
      let q = and_parts (a && b) (ranked order l) p.0 in
      let s = and_parts a b q.0 in
      record {
        over_left = all_of_every (outranks order e) (entries l) s.0;
        over_right = all_of_every (outranks order e) (entries r) s.1;
        left = q.1;
        right = p.1;
      }

  pub ranked_to : (l : Tree) (e : Entry) (m n : ℕ) (r : Tree) → RankedTop l e r → ranked order (top l e m n r) ≡ true
  ranked_to l e m n r h =
      let a = every (outranks order e) (entries l) in
      let b = every (outranks order e) (entries r) in
      and_from (a && b && ranked order l) (ranked order r)
      (and_from (a && b) (ranked order l)
      (and_from a b (every_of_all (outranks order e) (entries l) h.over_left) (every_of_all (outranks order e) (entries r) h.over_right)) h.left)
      h.right

module _ (order : ℕ → ℕ → Ordering) (law : Lawful order) where
  -- ---- no two trees hold one list
  apart : {A : Type 0} (l : Tree) (e : Entry) (r l' : Tree) (e' : Entry) (r' : Tree) → RankedTop order l e r → RankedTop order l' e' r'
      → Within (entries l) e (entries r) (entries l') e' (entries r') → A
  apart l e r l' e' r' h h' w =
      absurd (outranks_once order law e' e
      (all_at (λ f. outranks order e' f ≡ true) (entries l) e w.mid (subst (AllByRecursion (λ f. outranks order e' f ≡ true)) w.front h'.over_left))
      (all_at (λ f. outranks order e f ≡ true) w.mid e' (entries r') (subst (AllByRecursion (λ f. outranks order e f ≡ true)) w.back h.over_right)))

  pub same_tree : (lo hi : Option (List ℕ)) (t t' : Tree) → entries t ≡ entries t' → ranked order t ≡ true → ranked order t' ≡ true → Exact lo hi t → Exact lo hi t' → t ≡ t'
  same_tree lo hi nothing nothing e h h' x x' = refl
  same_tree lo hi nothing (top l f m n r) e h h' x x' = no_nothing (entries l) f (entries r) e
  same_tree lo hi (top l f m n r) nothing e h h' x x' = no_nothing (entries l) f (entries r) (sym e)
  same_tree lo hi (top l f m n r) (top l' f' m' n' r') e h h' x x' =
      let k = ranked_of order l f m n r h in
      let k' = ranked_of order l' f' m' n' r' h' in
      elim (two_cuts (entries l) f (entries r) (entries l') f' (entries r') e) [
        | inl p ↦
            let g : f ≡ f' = p.1 in
            let a = same_tree lo (Some f.word) l l' p.0 k.left k'.left x.2 (subst (λ (z : Entry). Exact lo (Some z.word) l') (sym g) x'.2) in
            let b = same_tree (Some f.word) hi r r' p.2 k.right k'.right x.3 (subst (λ (z : Entry). Exact (Some z.word) hi r') (sym g) x'.3) in
            let c : m ≡ m' = x.0 ∙ ap (λ (z : Entry). shared_with lo z.word) g ∙ sym x'.0 in
            let d : n ≡ n' = x.1 ∙ ap (λ (z : Entry). shared_with hi z.word) g ∙ sym x'.1 in
            cc
        | inr o ↦ elim o [ inl w ↦ apart l f r l' f' r' k k' w | inr w ↦ apart l' f' r' l f r k' k w ]
      ]

  pub one_tree : (es : List Entry) (t t' : Tree) → TreeOf order es t → TreeOf order es t' → t ≡ t'
  one_tree es t t' h h' = same_tree None None t t' (h.holds ∙ sym h'.holds) h.ranks h'.ranks h.lengths h'.lengths

-- ---- some tree holds an ordered list
entries_measured : (lo hi : Option (List ℕ)) (t : Tree) → entries (measured lo hi t) ≡ entries t
entries_measured lo hi nothing = refl
entries_measured lo hi (top l e m n r) = rw (entries_measured lo (Some e.word) l, entries_measured (Some e.word) hi r)

exact_measured : (lo hi : Option (List ℕ)) (t : Tree) → Exact lo hi (measured lo hi t)
exact_measured lo hi nothing = tt
exact_measured lo hi (top l e m n r) = (refl, refl, exact_measured lo (Some e.word) l, exact_measured (Some e.word) hi r)

ranked_measured : (order : ℕ → ℕ → Ordering) (lo hi : Option (List ℕ)) (t : Tree) → ranked order (measured lo hi t) ≡ ranked order t
ranked_measured order lo hi nothing = refl
ranked_measured order lo hi (top l e m n r) =
    rw (entries_measured lo (Some e.word) l, entries_measured (Some e.word) hi r, ranked_measured order lo (Some e.word) l, ranked_measured order (Some e.word) hi r)

-- a test, with what it says
pub by : (b : Bool) (P : Bool → Type 0) → (b ≡ true → P true) → (b ≡ false → P false) → P b
by true P f g = f refl
by false P f g = g refl

module _ (order : ℕ → ℕ → Ordering) (law : Lawful order) where
  entries_first : (e : Entry) (t : Tree) → entries (put_first order e t) ≡ e ∷ entries t
  entries_first e nothing = refl
  entries_first e (top l f m n r) =
      elim (outranks order f e) as (λ b. entries (cond b (top (put_first order e l) f m n r) (top nothing e 0 0 (top l f m n r))) ≡ e ∷ (entries l ++ (f ∷ entries r)))
      [ true ↦ ap (λ (z : List Entry). z ++ (f ∷ entries r)) (entries_first e l) | false ↦ refl ]

  ranked_first : (e : Entry) (t : Tree) → AllByRecursion (λ f. f.word ≡ e.word → ⊥) (entries t) → ranked order t ≡ true → ranked order (put_first order e t) ≡ true
  ranked_first e nothing a h = refl
  ranked_first e (top l f m n r) a h =
      let k = ranked_of order l f m n r h in
      by (outranks order f e) (λ b. ranked order (cond b (top (put_first order e l) f m n r) (top nothing e 0 0 (top l f m n r))) ≡ true)
      (λ o. ranked_to order (put_first order e l) f m n r (record {
        over_left = subst (AllByRecursion (λ g. outranks order f g ≡ true)) (sym (entries_first e l)) (o, k.over_left);
        over_right = k.over_right;
        left = ranked_first e l (all_left (λ f. f.word ≡ e.word → ⊥) (entries l) (f ∷ entries r) a) k.left;
        right = k.right;
      }))
      (λ o.
      let u : outranks order e f ≡ true = outranks_other order law f e (all_at (λ f. f.word ≡ e.word → ⊥) (entries l) f (entries r) a) o in
      let up : (xs : List Entry) → AllByRecursion (λ g. outranks order f g ≡ true) xs → AllByRecursion (λ g. outranks order e g ≡ true) xs =
      All-weaker (λ g. outranks order f g ≡ true) (λ g. outranks order e g ≡ true) (λ g v. outranks_chains order law e f g u v) in
      ranked_to order nothing e 0 0 (top l f m n r) (record {
        over_left = tt;
        over_right = All-append (λ g. outranks order e g ≡ true) (entries l) (f ∷ entries r) (up (entries l) k.over_left) (u, up (entries r) k.over_right);
        left = refl;
        right = h;
      }))

  entries_grown : (es : List Entry) → entries (grown order es) ≡ es
  entries_grown [] = refl
  entries_grown (e ∷ es) = entries_first e (grown order es) ∙ ap (λ (z : List Entry). e ∷ z) (entries_grown es)

  ranked_grown : (es : List Entry) → Rising order es → ranked order (grown order es) ≡ true
  ranked_grown [] h = refl
  ranked_grown (e ∷ es) h =
      ranked_first e (grown order es)
      (subst (AllByRecursion (λ f. f.word ≡ e.word → ⊥)) (sym (entries_grown es))
      (All-weaker (λ f. word_order order e.word f.word ≡ Less) (λ f. f.word ≡ e.word → ⊥)
      (λ f l q. word_not_itself order law e.word (subst (λ (z : List ℕ). word_order order e.word z ≡ Less) q l)) es h.0))
      (ranked_grown es h.1)

  pub tree_of_lem : (es : List Entry) → ordered order es ≡ true → TreeOf order es (tree_of order es)
  tree_of_lem es h = record {
    holds = entries_measured None None (grown order es) ∙ entries_grown es;
    ranks = ranked_measured order None None (grown order es) ∙ ranked_grown es (rising_of_ordered order law es h);
    lengths = exact_measured None None (grown order es);
  }
