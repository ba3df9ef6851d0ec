-- Where the tree is that of the list, the walks to a word's neighbours end at the nearest entries of the list.
use Rattle.std.proofs.Common.{◌≡◌, ℕ, Bool, true, false, cond, List, [], ◌∷◌, ◌++◌, Some, None, filter, Option, Ordering, Less, Equal, Greater, sym, refl, ap, ◌∙◌, subst, append_assoc, append-nil}
use Rattle.std.specs.Ordering.{is_lt, is_gt, is_le, ordering_reverse}
use Rattle.std.specs.List.{AllByRecursion}
use Rattle.std.proofs.lemmas.List.Elements.{filter-append}
use Rattle.std.proofs.ByRecursion.{All-append, All-weaker}
use Rattle.kinds.specs.Orders.{Lawful}
use Rattle.words.specs.declared.comparison.Comparison.{Comparison}
use Rattle.words.specs.Words.{word_order, shared}
use Rattle.words.proofs.Orders.{words_lawful}
use Rattle.words.proofs.Sharing.{before_of_after, le_then_less, less_then_le}
use Rattle.rules.specs.Entries.{Entry, before}
use Rattle.rules.specs.Held.{first_of, last_of, ordered, nearest_before, nearest_after}
use Rattle.rules.specs.Trees.{Tree, nothing, top, entries, Exact, TreeOf}
use Rattle.rules.specs.Lookups.{shared_with_entry}
use Rattle.rules.specs.Walks.{step_at}
use Rattle.rules.specs.Neighbours.{preceding_by, following_by}
use Rattle.rules.proofs.Lists.{Above, Below, all_at, all_left, all_right, kept_none, last_push}
use Rattle.rules.proofs.Places.{up_to, on_from, word_of, Hangs, hangs_left, hangs_right, hangs_whole, all_before, all_after, left_before, right_after, above_left, below_right}
use Rattle.rules.proofs.Walks.{LowOrSame, HighOrSame, low_of, high_of, low_weaker, high_weaker, compared_near}

module _ (order : ℕ → ℕ → Ordering) (law : Lawful order) where
  -- each of these words is w or before it, or w or after it
  abbrev Upto : List ℕ → List Entry → Type 0
  Upto w es = AllByRecursion (λ f. is_le (word_order order f.word w) ≡ true) es

  abbrev From : List ℕ → List Entry → Type 0
  From w es = AllByRecursion (λ f. is_le (word_order order w f.word) ≡ true) es

  upto_of : (b : List Entry) (lo : Option Entry) (w : List ℕ) → Upto w (up_to b lo) → LowOrSame order law lo w
  upto_of b None w h = tt
  upto_of b (Some f) w h = all_at (λ f. is_le (word_order order f.word w) ≡ true) b f [] h

  from_of : (hi : Option Entry) (a : List Entry) (w : List ℕ) → From w (on_from hi a) → HighOrSame order law hi w
  from_of None a w h = tt
  from_of (Some f) a w h = h.0

  not_after : (u v : List ℕ) → is_le (word_order order u v) ≡ true → is_lt (word_order order v u) ≡ false
  not_after u v h = at (word_order order u v) refl h
    where
      at : (o : Ordering) → word_order order u v ≡ o → is_le o ≡ true → is_lt (word_order order v u) ≡ false
      at Less t k = ap is_lt ((words_lawful order law).swaps u v ∙ ap ordering_reverse t)
      at Equal t k = ap is_lt ((words_lawful order law).swaps u v ∙ ap ordering_reverse t)
      at Greater t k = ap is_lt ((words_lawful order law).swaps u v ∙ ap ordering_reverse t) ∙ sym k

  -- none of them is after w, and none before it
  none_after : (w : List ℕ) (es : List Entry) → Upto w es → filter (λ e. before order w e.word) es ≡ []
  none_after w es h = kept_none (λ e. before order w e.word) es (All-weaker (λ f. is_le (word_order order f.word w) ≡ true) (λ f. before order w f.word ≡ false) (λ f. not_after f.word w) es h)

  none_before : (w : List ℕ) (es : List Entry) → From w es → filter (λ e. before order e.word w) es ≡ []
  none_before w es h = kept_none (λ e. before order e.word w) es (All-weaker (λ f. is_le (word_order order w f.word) ≡ true) (λ f. before order f.word w ≡ false) (λ f. not_after w f.word) es h)

  upto_below : (u w : List ℕ) (es : List Entry) → is_le (word_order order u w) ≡ true → Below order u es → Upto w es
  upto_below u w es h = All-weaker (λ f. word_order order f.word u ≡ Less) (λ f. is_le (word_order order f.word w) ≡ true) (λ f k. ap is_le (less_then_le order law f.word u w k h)) es

  from_above : (u w : List ℕ) (es : List Entry) → is_le (word_order order w u) ≡ true → Above order u es → From w es
  from_above u w es h = All-weaker (λ f. word_order order u f.word ≡ Less) (λ f. is_le (word_order order w f.word) ≡ true) (λ f k. ap is_le (le_then_less order law w u f.word h k)) es

  -- one step, at the top of a subtree: it says how w stands to the top, and what they share
  module _ (es b : List Entry) (lo : Option Entry) (l : Tree) (e : Entry) (m n : ℕ) (r : Tree) (hi : Option Entry) (a : List Entry) (w : List ℕ) (h : Hangs order es b lo (top l e m n r) hi a) (x : Exact (word_of lo) (word_of hi) (top l e m n r))
      (low : LowOrSame order law lo w) (high : HighOrSame order law hi w) where
    abbrev step : Comparison
    step = step_at order w (shared_with_entry w lo) (shared_with_entry w hi) e m n

    step_is : step ≡ record { answer = word_order order w e.word; share = shared w e.word; pairs = step.pairs }
    step_is =
        let c = compared_near order law lo hi w e.word (shared_with_entry w lo) (shared_with_entry w hi) m n refl refl x.0 x.1 low
        (low_of order law b lo e.word (all_left (λ f. word_order order f.word e.word ≡ Less) (up_to b lo) (entries l) (all_before order law es b lo l e m n r hi a h))) high
        (high_of order law hi a e.word (all_right (λ f. word_order order e.word f.word ≡ Less) (entries r) (on_from hi a) (all_after order law es b lo l e m n r hi a h))) in
        λ i. record { answer = (c i).answer; share = (c i).share; pairs = step.pairs }

  pub following_at : (es b : List Entry) (lo : Option Entry) (s : Tree) (hi : Option Entry) (a : List Entry) (w : List ℕ)
      → Hangs order es b lo s hi a → Exact (word_of lo) (word_of hi) s → Upto w (up_to b lo) → Above order w (on_from hi a)
      → following_by order w (shared_with_entry w lo) (shared_with_entry w hi) hi s ≡ first_of (filter (λ e. before order w e.word) (entries s ++ on_from hi a))
  following_at es b lo nothing None a w h x low high = refl
  following_at es b lo nothing (Some f) a w h x low high = sym (ap (λ (o : Ordering). first_of (cond (is_lt o) (f ∷ filter (λ e. before order w e.word) a) (filter (λ e. before order w e.word) a))) high.0)
  following_at es b lo (top l e m n r) hi a w h x low high =
      let c = step_is es b lo l e m n r hi a w h x (upto_of b lo w low) (high_weaker order law hi w (high_of order law hi a w high)) in
      (λ i. cond (is_lt (c i).answer) (following_by order w (shared_with_entry w lo) (c i).share (Some e) l) (following_by order w (c i).share (shared_with_entry w hi) hi r))
      ∙ at
      (λ k. following_at es b lo l (Some e) (entries r ++ on_from hi a) w (hangs_left order es b lo l e m n r hi a h) x.2 low k)
      (λ k. following_at es (up_to b lo ++ entries l) (Some e) r hi a w (hangs_right order es b lo l e m n r hi a h) x.3 k high)
      (word_order order w e.word) refl
      ∙ ap (λ (z : List Entry). first_of (filter p z)) (sym (append_assoc (entries l) (e ∷ entries r) (on_from hi a)))
    where
      p : Entry → Bool
      p = λ f. before order w f.word

      -- the word is not before the top: the walk goes right
      right : (Upto w ((up_to b lo ++ entries l) ++ (e ∷ [])) → following_by order w (shared w e.word) (shared_with_entry w hi) hi r ≡ first_of (filter p (entries r ++ on_from hi a)))
          → is_le (word_order order e.word w) ≡ true → following_by order w (shared w e.word) (shared_with_entry w hi) hi r ≡ first_of (filter p (entries l ++ (e ∷ (entries r ++ on_from hi a))))
      right j k =
          let none : Upto w (entries l ++ (e ∷ [])) = All-append (λ f. is_le (word_order order f.word w) ≡ true) (entries l) (e ∷ []) (upto_below e.word w (entries l) k (left_before order law es b lo l e m n r hi a h)) (k, tt) in
          let all : Upto w ((up_to b lo ++ entries l) ++ (e ∷ [])) =
          subst (Upto w) (sym (append_assoc (up_to b lo) (entries l) (e ∷ []))) (All-append (λ f. is_le (word_order order f.word w) ≡ true) (up_to b lo) (entries l ++ (e ∷ [])) low none) in
          j all
          ∙ sym (ap first_of (ap (filter p) (sym (append_assoc (entries l) (e ∷ []) (entries r ++ on_from hi a)))
          ∙ filter-append p (entries l ++ (e ∷ [])) (entries r ++ on_from hi a)
          ∙ ap (λ (z : List Entry). z ++ filter p (entries r ++ on_from hi a)) (none_after w (entries l ++ (e ∷ [])) none)))

      at : (Above order w (e ∷ (entries r ++ on_from hi a)) → following_by order w (shared_with_entry w lo) (shared w e.word) (Some e) l ≡ first_of (filter p (entries l ++ (e ∷ (entries r ++ on_from hi a)))))
          → (Upto w ((up_to b lo ++ entries l) ++ (e ∷ [])) → following_by order w (shared w e.word) (shared_with_entry w hi) hi r ≡ first_of (filter p (entries r ++ on_from hi a)))
          → (o : Ordering) → word_order order w e.word ≡ o
          → cond (is_lt o) (following_by order w (shared_with_entry w lo) (shared w e.word) (Some e) l) (following_by order w (shared w e.word) (shared_with_entry w hi) hi r)
          ≡ first_of (filter p (entries l ++ (e ∷ (entries r ++ on_from hi a))))
      at i j Less t = i (above_left order law es b lo l e m n r hi a h w t)
      at i j Equal t = right j (ap is_le ((words_lawful order law).swaps w e.word ∙ ap ordering_reverse t))
      at i j Greater t = right j (ap is_le (before_of_after order law w e.word t))

  pub preceding_at : (es b : List Entry) (lo : Option Entry) (s : Tree) (hi : Option Entry) (a : List Entry) (w : List ℕ)
      → Hangs order es b lo s hi a → Exact (word_of lo) (word_of hi) s → Below order w (up_to b lo) → From w (on_from hi a)
      → preceding_by order w (shared_with_entry w lo) (shared_with_entry w hi) lo s ≡ last_of (filter (λ e. before order e.word w) (up_to b lo ++ entries s))
  preceding_at es b None nothing hi a w h x low high = refl
  preceding_at es b (Some f) nothing hi a w h x low high =
      let p : Entry → Bool = λ e. before order e.word w in
      let last = all_at (λ f. word_order order f.word w ≡ Less) b f [] low in
      sym (ap (λ (z : List Entry). last_of (filter p z)) (append-nil (b ++ (f ∷ [])))
      ∙ ap last_of (filter-append p b (f ∷ []) ∙ ap (λ (o : Ordering). filter p b ++ cond (is_lt o) (f ∷ []) []) last)
      ∙ last_push (filter p b) f)
  preceding_at es b lo (top l e m n r) hi a w h x low high =
      let c = step_is es b lo l e m n r hi a w h x (low_weaker order law lo w (low_of order law b lo w low)) (from_of hi a w high) in
      (λ i. cond (is_gt (c i).answer) (preceding_by order w (c i).share (shared_with_entry w hi) (Some e) r) (preceding_by order w (shared_with_entry w lo) (c i).share lo l))
      ∙ at
      (λ k. preceding_at es b lo l (Some e) (entries r ++ on_from hi a) w (hangs_left order es b lo l e m n r hi a h) x.2 low k)
      (λ k. preceding_at es (up_to b lo ++ entries l) (Some e) r hi a w (hangs_right order es b lo l e m n r hi a h) x.3 k high)
      (word_order order w e.word) refl
    where
      p : Entry → Bool
      p = λ f. before order f.word w

      -- the word is not after the top: the walk goes left
      left : (From w (e ∷ (entries r ++ on_from hi a)) → preceding_by order w (shared_with_entry w lo) (shared w e.word) lo l ≡ last_of (filter p (up_to b lo ++ entries l)))
          → is_le (word_order order w e.word) ≡ true → preceding_by order w (shared_with_entry w lo) (shared w e.word) lo l ≡ last_of (filter p (up_to b lo ++ (entries l ++ (e ∷ entries r))))
      left i k =
          let none : From w (e ∷ entries r) = (k, from_above e.word w (entries r) k (right_after order law es b lo l e m n r hi a h)) in
          let all : From w (e ∷ (entries r ++ on_from hi a)) = (k, All-append (λ f. is_le (word_order order w f.word) ≡ true) (entries r) (on_from hi a) none.1 high) in
          i all
          ∙ sym (ap last_of (ap (filter p) (sym (append_assoc (up_to b lo) (entries l) (e ∷ entries r)))
          ∙ filter-append p (up_to b lo ++ entries l) (e ∷ entries r)
          ∙ ap (λ (z : List Entry). filter p (up_to b lo ++ entries l) ++ z) (none_before w (e ∷ entries r) none)
          ∙ append-nil (filter p (up_to b lo ++ entries l))))

      at : (From w (e ∷ (entries r ++ on_from hi a)) → preceding_by order w (shared_with_entry w lo) (shared w e.word) lo l ≡ last_of (filter p (up_to b lo ++ entries l)))
          → (Below order w ((up_to b lo ++ entries l) ++ (e ∷ [])) → preceding_by order w (shared w e.word) (shared_with_entry w hi) (Some e) r ≡ last_of (filter p (((up_to b lo ++ entries l) ++ (e ∷ [])) ++ entries r)))
          → (o : Ordering) → word_order order w e.word ≡ o
          → cond (is_gt o) (preceding_by order w (shared w e.word) (shared_with_entry w hi) (Some e) r) (preceding_by order w (shared_with_entry w lo) (shared w e.word) lo l)
          ≡ last_of (filter p (up_to b lo ++ (entries l ++ (e ∷ entries r))))
      at i j Less t = left i (ap is_le t)
      at i j Equal t = left i (ap is_le t)
      at i j Greater t =
          j (below_right order law es b lo l e m n r hi a h w (before_of_after order law w e.word t))
          ∙ ap (λ (z : List Entry). last_of (filter p z)) (append_assoc (up_to b lo ++ entries l) (e ∷ []) (entries r) ∙ append_assoc (up_to b lo) (entries l) (e ∷ entries r))

  pub following_is : (es : List Entry) (t : Tree) (w : List ℕ) → ordered order es ≡ true → TreeOf order es t → following_by order w 0 0 None t ≡ nearest_after order w es
  following_is es t w h o =
      following_at es [] None t None [] w (hangs_whole order law es t h o) o.lengths tt tt
      ∙ ap (λ (z : List Entry). first_of (filter (λ e. before order w e.word) z)) (append-nil (entries t) ∙ o.holds)

  pub preceding_is : (es : List Entry) (t : Tree) (w : List ℕ) → ordered order es ≡ true → TreeOf order es t → preceding_by order w 0 0 None t ≡ nearest_before order w es
  preceding_is es t w h o =
      preceding_at es [] None t None [] w (hangs_whole order law es t h o) o.lengths tt tt
      ∙ ap (λ (z : List Entry). last_of (filter (λ e. before order e.word w) z)) o.holds
