-- A lookup that comes to an entry has met its ancestors, and nothing else.
use Rattle.std.proofs.Common.{◌≡◌, ℕ, Bool, true, false, cond, ◌&&◌, List, [], ◌∷◌, ◌++◌, Some, None, filter, Option, Ordering, Less, refl, ap, ◌∙◌, append-nil}
use Rattle.std.specs.Ordering.{is_le}
use Rattle.std.specs.List.{AllByRecursion}
use Rattle.std.proofs.lemmas.List.Elements.{filter-append}
use Rattle.std.proofs.ByRecursion.{All-append, All-weaker}
use Rattle.std.proofs.lemmas.Bool.{and_right}
use Rattle.kinds.specs.Orders.{Lawful}
use Rattle.words.specs.Words.{word_order}
use Rattle.rules.specs.Entries.{Entry, outranks}
use Rattle.rules.specs.Held.{ordered}
use Rattle.rules.specs.Trees.{Tree, nothing, top, entries, TreeOf}
use Rattle.rules.specs.Lookups.{met, met_before}
use Rattle.rules.proofs.Lists.{Above, Below, all_at, all_left, all_right, kept_none, kept_all, kept_kept}
use Rattle.rules.proofs.Places.{up_to, on_from, Hangs, hangs_left, hangs_right, hangs_whole, meets, top_met, none_left, none_right, all_before, all_after, not_over_top}
use Rattle.rules.proofs.Trees.{ranked_of}

-- what f says of each entry is its ancestors in word order: lows before it, then highs after it
abbrev pub AncestorsAre : (Entry → List Entry) → List Entry → List Entry → Tree → Type 0
AncestorsAre f lows highs nothing = Unit {0}
AncestorsAre f lows highs (top l e m n r) = (f e ≡ lows ++ highs) × AncestorsAre f lows (e ∷ highs) l × AncestorsAre f (lows ++ (e ∷ [])) highs r

module _ (order : ℕ → ℕ → Ordering) (law : Lawful order) where
  -- each of these outranks all of kept-by
  abbrev pub OverAll : List Entry → List Entry → Type 0
  OverAll xs ys = AllByRecursion (λ f. AllByRecursion (λ g. outranks order f g ≡ true) ys) xs

  -- around a subtree, a lookup of any word that belongs into it meets lows and highs
  pub record MetAround (es b : List Entry) (lo : Option Entry) (s : Tree) (hi : Option Entry) (a lows highs : List Entry) : Type 0 where
    pub lower : (w : List ℕ) → Below order w (up_to b lo) → Above order w (on_from hi a) → filter (meets order es w) (up_to b lo) ≡ lows
    pub higher : (w : List ℕ) → Below order w (up_to b lo) → Above order w (on_from hi a) → filter (meets order es w) (on_from hi a) ≡ highs
    pub lower_over : OverAll lows (entries s)
    pub higher_over : OverAll highs (entries s)

  module _ (es b : List Entry) (lo : Option Entry) (l : Tree) (e : Entry) (m n : ℕ) (r : Tree) (hi : Option Entry) (a lows highs : List Entry)
      (h : Hangs order es b lo (top l e m n r) hi a) (c : MetAround es b lo (top l e m n r) hi a lows highs) where
    around_left : MetAround es b lo l (Some e) (entries r ++ on_from hi a) lows (e ∷ highs)
    around_left = record {
      lower = λ w p q. c.lower w p (all_right (λ f. word_order order w f.word ≡ Less) (entries r) (on_from hi a) q.1);
      higher = λ w p q.
          let high = all_right (λ f. word_order order w f.word ≡ Less) (entries r) (on_from hi a) q.1 in
          let rest = entries r ++ on_from hi a in
          ap (λ (t : Bool). cond t (e ∷ filter (meets order es w) rest) (filter (meets order es w) rest)) (top_met order law es b lo l e m n r hi a w h p high)
          ∙ ap (λ (z : List Entry). e ∷ z) (filter-append (meets order es w) (entries r) (on_from hi a)
          ∙ ap (λ (z : List Entry). z ++ filter (meets order es w) (on_from hi a)) (none_right order law es b lo l e m n r hi a h w (ap is_le q.0)) ∙ c.higher w p high);
      lower_over = All-weaker (λ f. AllByRecursion (λ g. outranks order f g ≡ true) (entries l ++ (e ∷ entries r))) (λ f. AllByRecursion (λ g. outranks order f g ≡ true) (entries l)) (λ f k. all_left (λ g. outranks order f g ≡ true) (entries l) (e ∷ entries r) k) lows c.lower_over;
      higher_over = (
        (ranked_of order l e m n r h.rank).over_left,
        All-weaker (λ f. AllByRecursion (λ g. outranks order f g ≡ true) (entries l ++ (e ∷ entries r))) (λ f. AllByRecursion (λ g. outranks order f g ≡ true) (entries l)) (λ f k. all_left (λ g. outranks order f g ≡ true) (entries l) (e ∷ entries r) k) highs c.higher_over,
      );
    }

    around_right : MetAround es (up_to b lo ++ entries l) (Some e) r hi a (lows ++ (e ∷ [])) highs
    around_right = record {
      lower = λ w p q.
          let ew = all_at (λ f. word_order order f.word w ≡ Less) (up_to b lo ++ entries l) e [] p in
          let low = all_left (λ f. word_order order f.word w ≡ Less) (up_to b lo) (entries l) (all_left (λ f. word_order order f.word w ≡ Less) (up_to b lo ++ entries l) (e ∷ []) p) in
          let one = filter-append (meets order es w) (up_to b lo) (entries l) ∙ ap (λ (z : List Entry). filter (meets order es w) (up_to b lo) ++ z) (none_left order law es b lo l e m n r hi a h w (ap is_le ew))
          ∙ append-nil (filter (meets order es w) (up_to b lo)) ∙ c.lower w low q in
          filter-append (meets order es w) (up_to b lo ++ entries l) (e ∷ [])
          ∙ ap (λ (z : List Entry). z ++ filter (meets order es w) (e ∷ [])) one
          ∙ ap (λ (t : Bool). lows ++ cond t (e ∷ []) []) (top_met order law es b lo l e m n r hi a w h low q);
      higher = λ w p q. c.higher w (all_left (λ f. word_order order f.word w ≡ Less) (up_to b lo) (entries l) (all_left (λ f. word_order order f.word w ≡ Less) (up_to b lo ++ entries l) (e ∷ []) p)) q;
      lower_over = All-append (λ f. AllByRecursion (λ g. outranks order f g ≡ true) (entries r)) lows (e ∷ [])
          (All-weaker (λ f. AllByRecursion (λ g. outranks order f g ≡ true) (entries l ++ (e ∷ entries r))) (λ f. AllByRecursion (λ g. outranks order f g ≡ true) (entries r)) (λ f k. (all_right (λ g. outranks order f g ≡ true) (entries l) (e ∷ entries r) k).1) lows c.lower_over)
          ((ranked_of order l e m n r h.rank).over_right, tt);
      higher_over = All-weaker (λ f. AllByRecursion (λ g. outranks order f g ≡ true) (entries l ++ (e ∷ entries r))) (λ f. AllByRecursion (λ g. outranks order f g ≡ true) (entries r)) (λ f k. (all_right (λ g. outranks order f g ≡ true) (entries l) (e ∷ entries r) k).1) highs c.higher_over;
    }

    -- a lookup of w that comes to e has met e's ancestors
    pub met_before_lem : (w : List ℕ) → Below order w (up_to b lo) → Above order w (on_from hi a) → met_before order es w e ≡ lows ++ highs
    met_before_lem w low high =
        let s = top l e m n r in
        let over : Entry → Bool = λ f. outranks order f e in
        let split : met order es w ≡ lows ++ (filter (meets order es w) (entries s) ++ highs) =
        ap (filter (meets order es w)) h.cut ∙ filter-append (meets order es w) (up_to b lo) (entries s ++ on_from hi a)
        ∙ ap (λ (z : List Entry). z ++ filter (meets order es w) (entries s ++ on_from hi a)) (c.lower w low high)
        ∙ ap (λ (z : List Entry). lows ++ z) (filter-append (meets order es w) (entries s) (on_from hi a) ∙ ap (λ (z : List Entry). filter (meets order es w) (entries s) ++ z) (c.higher w low high)) in
        let mid : filter over (filter (meets order es w) (entries s)) ≡ [] =
        kept_kept over (meets order es w) (entries s)
        ∙ kept_none (λ f. meets order es w f && over f) (entries s)
        (All-weaker (λ f. outranks order f e ≡ false) (λ f. (meets order es w f && over f) ≡ false) (λ f k. and_right (meets order es w f) (over f) k) (entries s) (not_over_top order law l e m n r h.rank)) in
        let at_e : (xs : List Entry) → OverAll xs (entries s) → filter over xs ≡ xs =
        λ xs k. kept_all over xs (All-weaker (λ f. AllByRecursion (λ g. outranks order f g ≡ true) (entries s)) (λ f. over f ≡ true) (λ f j. all_at (λ g. outranks order f g ≡ true) (entries l) e (entries r) j) xs k) in
        ap (filter over) split ∙ filter-append over lows (filter (meets order es w) (entries s) ++ highs)
        ∙ ap (λ (z : List Entry). z ++ filter over (filter (meets order es w) (entries s) ++ highs)) (at_e lows c.lower_over)
        ∙ ap (λ (z : List Entry). lows ++ z) (filter-append over (filter (meets order es w) (entries s)) highs ∙ ap (λ (z : List Entry). z ++ filter over highs) mid ∙ at_e highs c.higher_over)

  pub ancestors_at : (es b : List Entry) (lo : Option Entry) (s : Tree) (hi : Option Entry) (a lows highs : List Entry)
      → Hangs order es b lo s hi a → MetAround es b lo s hi a lows highs → AncestorsAre (λ e. met_before order es e.word e) lows highs s
  ancestors_at es b lo nothing hi a lows highs h c = tt
  ancestors_at es b lo (top l e m n r) hi a lows highs h c = (
    met_before_lem es b lo l e m n r hi a lows highs h c e.word
        (all_left (λ f. word_order order f.word e.word ≡ Less) (up_to b lo) (entries l) (all_before order law es b lo l e m n r hi a h))
        (all_right (λ f. word_order order e.word f.word ≡ Less) (entries r) (on_from hi a) (all_after order law es b lo l e m n r hi a h)),
    ancestors_at es b lo l (Some e) (entries r ++ on_from hi a) lows (e ∷ highs) (hangs_left order es b lo l e m n r hi a h) (around_left es b lo l e m n r hi a lows highs h c),
    ancestors_at es (up_to b lo ++ entries l) (Some e) r hi a (lows ++ (e ∷ [])) highs (hangs_right order es b lo l e m n r hi a h) (around_right es b lo l e m n r hi a lows highs h c),
  )

  pub ancestors_of_list : (es : List Entry) (t : Tree) → ordered order es ≡ true → TreeOf order es t → AncestorsAre (λ e. met_before order es e.word e) [] [] t
  ancestors_of_list es t h o =
      ancestors_at es [] None t None [] [] [] (hangs_whole order law es t h o) (record { lower = λ w p q. refl; higher = λ w p q. refl; lower_over = tt; higher_over = tt })
