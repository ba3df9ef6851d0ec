-- The lookup by steps does what the list says.
use Rattle.std.proofs.Common.{◌≡◌, ℕ, ◌+◌, ◌-◌, ◌<◌, ◌≤◌, max, Bool, true, false, cond, eqb, ltb, List, [], ◌∷◌, ◌++◌, length, Some, None, filter, Option, Ordering, Less, Equal, Greater, sym, refl, ap, ◌∙◌, subst, inl, inr, append-nil, arith}
use Rattle.std.specs.Ordering.{is_le, is_eq, ordering_reverse}
use Rattle.std.specs.List.{AllByRecursion}
use Rattle.std.specs.List.Sorted.{IsPermutation}
use Rattle.std.proofs.lemmas.List.Elements.{filter-append}
use Rattle.std.proofs.ByRecursion.{All-weaker}
use Rattle.std.proofs.lemmas.List.Sorted.{IsPermutation-cons, IsPermutation-refl, IsPermutation-to_front, IsPermutation-trans}
use Rattle.std.proofs.lemmas.Bool.{ltb-true, ltb-false, lt-ltb, le-ltb, eq-eqb, ne_eqb, cases_order, cases_Bool}
use Rattle.kinds.specs.Orders.{Lawful}
use Rattle.words.specs.declared.comparison.Comparison.{Comparison}
use Rattle.words.specs.Comparisons.{start, compared_from}
use Rattle.words.specs.Words.{word_order, shared, looked}
use Rattle.words.proofs.Openings.{shared_is_longest, looked_counts, from_position}
use Rattle.words.proofs.Orders.{words_lawful}
use Rattle.words.proofs.Sharing.{after_of_before, greater_not_le, shared_itself, shared_swaps, shared_between, by_more, by_less, same_opening, looked_from, le_then_less, less_then_le}
use Rattle.rules.specs.Entries.{Entry, outranks}
use Rattle.rules.specs.Held.{sum_of, first_of, ordered, is_word, entry_of, longest_shared}
use Rattle.rules.specs.Trees.{Tree, nothing, top, entries, ranked, shared_with, Exact, TreeOf}
use Rattle.rules.specs.Lookups.{met, pairs_at, pairs_of, shared_with_entry}
use Rattle.rules.specs.Walks.{turned, Walked, after, compared, lookup, Falling, LawOfLookup}
use Rattle.rules.proofs.Lists.{Above, Below, all_at, all_left, all_right, kept_none, Rising, rising_before, rising_right, rising_left, rising_of_ordered}
use Rattle.rules.proofs.Places.{on_way, up_to, on_from, word_of, Hangs, hangs_left, hangs_right, hangs_whole, near_before, near_after, measures, all_before, all_after, above_left, below_right, met_of_list}
use Rattle.rules.proofs.Trees.{ranked_of}

-- the entries met on the way to w from the top down
abbrev pub way_to : (ℕ → ℕ → Ordering) → List ℕ → Tree → List Entry
way_to order w nothing = []
way_to order w (top l e m n r) = e ∷ turned (word_order order w e.word) (way_to order w l) [] (way_to order w r)

-- What the lookup by steps comes to: it meets, in falling rank, the entries that the list says, looks at as many pairs as the list says, and finds what the list says;
-- and the pairs are at most the entries met and the longest opening shared with any entry.
pub record LooksUp (order : ℕ → ℕ → Ordering) (es : List Entry) (w : List ℕ) (x : Walked) : Type 0 where
  pub falls : Falling order x.way
  pub meets : (f : Entry → ℕ) → sum_of f x.way ≡ sum_of f (met order es w)
  pub many : length x.way ≡ length (met order es w)
  pub looks : x.pairs ≡ pairs_of order es w
  pub finds : x.found ≡ entry_of order w es
  pub few : x.pairs ≤ length (met order es w) + longest_shared w es

-- ---- the way down holds what is met
module _ (order : ℕ → ℕ → Ordering) where
  pub all_way : (P : Entry → Type 0) (w : List ℕ) (t : Tree) → AllByRecursion P (entries t) → AllByRecursion P (way_to order w t)
  all_way P w nothing h = tt
  all_way P w (top l e m n r) h = (
    all_at P (entries l) e (entries r) h,
    elim (word_order order w e.word) as (λ o. AllByRecursion P (turned o (way_to order w l) [] (way_to order w r))) [
      | Less ↦ all_way P w l (all_left P (entries l) (e ∷ entries r) h)
      | Equal ↦ tt
      | Greater ↦ all_way P w r (all_right P (entries l) (e ∷ entries r) h).1
    ],
  )

  pub way_falls : (w : List ℕ) (t : Tree) → ranked order t ≡ true → Falling order (way_to order w t)
  way_falls w nothing h = tt
  way_falls w (top l e m n r) h =
      let k = ranked_of order l e m n r h in
      elim (word_order order w e.word) as (λ o. AllByRecursion (λ f. outranks order e f ≡ true) (turned o (way_to order w l) [] (way_to order w r)) × Falling order (turned o (way_to order w l) [] (way_to order w r))) [
        | Less ↦ (all_way (λ f. outranks order e f ≡ true) w l k.over_left, way_falls w l k.left)
        | Equal ↦ (tt, tt)
        | Greater ↦ (all_way (λ f. outranks order e f ≡ true) w r k.over_right, way_falls w r k.right)
      ]

  -- the same entries, in word order
  pub way_shuffled : (w : List ℕ) (t : Tree) → IsPermutation (on_way order w t) (way_to order w t)
  way_shuffled w nothing = IsPermutation-refl []
  way_shuffled w (top l e m n r) =
      elim (word_order order w e.word) as (λ o. IsPermutation (turned o (on_way order w l ++ (e ∷ [])) (e ∷ []) (e ∷ on_way order w r)) (e ∷ turned o (way_to order w l) [] (way_to order w r))) [
        | Less ↦ IsPermutation-trans (on_way order w l ++ (e ∷ [])) (e ∷ on_way order w l) (e ∷ way_to order w l) (IsPermutation-to_front (on_way order w l) e) (IsPermutation-cons e (on_way order w l) (way_to order w l) (way_shuffled w l))
        | Equal ↦ IsPermutation-refl (e ∷ [])
        | Greater ↦ IsPermutation-cons e (on_way order w r) (way_to order w r) (way_shuffled w r)
      ]

  sum_push : (f : Entry → ℕ) (xs : List Entry) (y : Entry) → sum_of f (xs ++ (y ∷ [])) ≡ f y + sum_of f xs
  sum_push f [] y = refl
  sum_push f (x ∷ xs) y = let i = sum_push f xs y in omega arith

  pub way_sum : (f : Entry → ℕ) (w : List ℕ) (t : Tree) → sum_of f (way_to order w t) ≡ sum_of f (on_way order w t)
  way_sum f w nothing = refl
  way_sum f w (top l e m n r) =
      elim (word_order order w e.word) as (λ o. f e + sum_of f (turned o (way_to order w l) [] (way_to order w r)) ≡ sum_of f (turned o (on_way order w l ++ (e ∷ [])) (e ∷ []) (e ∷ on_way order w r))) [
        | Less ↦ let i = way_sum f w l in let j = sum_push f (on_way order w l) e in omega arith
        | Equal ↦ refl
        | Greater ↦ let i = way_sum f w r in omega arith
      ]

  -- what the way finds
  abbrev find : List ℕ → Tree → Option Entry
  find w nothing = None
  find w (top l e m n r) = turned (word_order order w e.word) (find w l) (Some e) (find w r)

pub sum_one : (xs : List Entry) → sum_of (λ _. 1) xs ≡ length xs
sum_one [] = refl
sum_one (x ∷ xs) = let i = sum_one xs in omega arith

module _ (order : ℕ → ℕ → Ordering) (law : Lawful order) where
  -- ---- a comparison by lengths says what a comparison says
  abbrev pub Told : List ℕ → List ℕ → ℕ → Comparison
  Told w e p = record { answer = word_order order w e; share = shared w e; pairs = p }

  step_ext : (x y : Comparison) → x.answer ≡ y.answer → x.share ≡ y.share → x.pairs ≡ y.pairs → x ≡ y
  step_ext x y a b c = λ i. record { answer = a i; share = b i; pairs = c i }

  -- compared from a position in the shared opening
  told_from : (k : ℕ) (w e : List ℕ) → k ≤ shared w e → compared_from order k w e ≡ Told w e (looked w e - k)
  told_from k w e h =
      let o = (shared_is_longest (shared w e) w e).0 (omega arith) in
      let s : start k w e ≡ k = omega arith in
      let f = from_position order law k w e h in
      rw s (step_ext _ _ f.stand f.share (looked_from order law k w e h))

  by_cond : (b : Bool) → ordering_reverse (cond b Greater Less) ≡ cond b Less Greater
  by_cond true = refl
  by_cond false = refl

  compared_some : (v w e : List ℕ) (s : Bool) → (shared v w < shared v e → word_order order w v ≡ cond s Greater Less) → word_order order e v ≡ cond s Greater Less
      → compared order w e s (shared v w) (shared v e) ≡ Told w e (cond (eqb (shared v w) (shared v e)) (looked w e - shared v w) 0)
  compared_some v w e s h k =
      elim (cases_order (shared v w) (shared v e)) [
        | inl p ↦
            rw (le-ltb (shared v e) (shared v w) (omega arith), le-ltb (shared v w) (shared v e) (omega arith), eq-eqb (shared v w) (shared v e) p)
            (told_from (shared v w) w e (same_opening order law v w e p))
        | inr o ↦ elim o [
          | inl p ↦
              let f = by_less order law v w e p in
              rw (le-ltb (shared v e) (shared v w) (omega arith), lt-ltb (shared v w) (shared v e) p, ne_eqb (shared v w) (shared v e) (λ q. omega arith))
              (step_ext _ _ (sym (f.0 ∙ h p)) (sym f.1) refl)
          | inr p ↦
              let f = by_more order law v w e p in
              rw (lt-ltb (shared v e) (shared v w) p, ne_eqb (shared v w) (shared v e) (λ q. omega arith))
              (step_ext _ _ (sym (f.0 ∙ (words_lawful order law).swaps e v ∙ ap ordering_reverse k ∙ by_cond s)) (sym f.1) refl)
        ]
      ]

  -- the nearest entry, if any, is before w, or after it
  abbrev pub Low : Option Entry → List ℕ → Type 0
  Low None w = Unit {0}
  Low (Some f) w = word_order order f.word w ≡ Less

  abbrev pub High : Option Entry → List ℕ → Type 0
  High None w = Unit {0}
  High (Some f) w = word_order order w f.word ≡ Less

  pub low_of : (b : List Entry) (lo : Option Entry) (w : List ℕ) → Below order w (up_to b lo) → Low lo w
  low_of b None w h = tt
  low_of b (Some f) w h = all_at (λ f. word_order order f.word w ≡ Less) b f [] h

  pub high_of : (hi : Option Entry) (a : List Entry) (w : List ℕ) → Above order w (on_from hi a) → High hi w
  high_of None a w h = tt
  high_of (Some f) a w h = h.0

  -- the same where w may be that entry's own word
  abbrev pub LowOrSame : Option Entry → List ℕ → Type 0
  LowOrSame None w = Unit {0}
  LowOrSame (Some f) w = is_le (word_order order f.word w) ≡ true

  abbrev pub HighOrSame : Option Entry → List ℕ → Type 0
  HighOrSame None w = Unit {0}
  HighOrSame (Some f) w = is_le (word_order order w f.word) ≡ true

  pub low_weaker : (lo : Option Entry) (w : List ℕ) → Low lo w → LowOrSame lo w
  low_weaker None w h = tt
  low_weaker (Some f) w h = ap is_le h

  pub high_weaker : (hi : Option Entry) (w : List ℕ) → High hi w → HighOrSame hi w
  high_weaker None w h = tt
  high_weaker (Some f) w h = ap is_le h

  -- no word shares more with w than w itself
  own_word : {A : Type 0} (v w e : List ℕ) → word_order order v w ≡ Equal → shared v w < shared v e → A
  own_word v w e h p =
      let same : shared v w ≡ length v = sym (ap (shared v) ((words_lawful order law).same v w h)) ∙ shared_itself order law v in
      let o = (shared_is_longest (shared v e) v e).0 (omega arith) in
      absurd (let z : ⊥ = omega arith in z)

  by_low : (v w e : List ℕ) → is_le (word_order order v w) ≡ true → shared v w < shared v e → word_order order w v ≡ Greater
  by_low v w e h p = at (word_order order v w) refl h
    where
      at : (o : Ordering) → word_order order v w ≡ o → is_le o ≡ true → word_order order w v ≡ Greater
      at Less t k = after_of_before order law v w t
      at Equal t k = own_word v w e t p
      at Greater t k = greater_not_le Greater refl k

  by_high : (v w e : List ℕ) → is_le (word_order order w v) ≡ true → shared v w < shared v e → word_order order w v ≡ Less
  by_high v w e h p = at (word_order order w v) refl h
    where
      at : (o : Ordering) → word_order order w v ≡ o → is_le o ≡ true → o ≡ Less
      at Less t k = refl
      at Equal t k = own_word v w e ((words_lawful order law).swaps w v ∙ ap ordering_reverse t) p
      at Greater t k = greater_not_le Greater refl k

  abbrev pub Right : List ℕ → List ℕ → Bool → ℕ → ℕ → Type 0
  Right w e s kept stored = compared order w e s kept stored ≡ Told w e (cond (eqb kept stored) (looked w e - kept) 0)

  right_low : (lo : Option Entry) (w e : List ℕ) → LowOrSame lo w → Low lo e → 0 < shared_with_entry w lo → Right w e true (shared_with_entry w lo) (shared_with (word_of lo) e)
  right_low None w e h k p = absurd (let z : ⊥ = omega arith in z)
  right_low (Some f) w e h k p =
      subst (λ (z : ℕ). Right w e true z (shared f.word e)) (sym (shared_swaps order law f.word w))
      (compared_some f.word w e true (by_low f.word w e h) (after_of_before order law f.word e k))

  right_high : (hi : Option Entry) (w e : List ℕ) → HighOrSame hi w → High hi e → Right w e false (shared_with_entry w hi) (shared_with (word_of hi) e)
  right_high None w e h k = told_from 0 w e (omega arith)
  right_high (Some f) w e h k =
      subst (λ (z : ℕ). Right w e false z (shared f.word e)) (sym (shared_swaps order law f.word w)) (compared_some f.word w e false (by_high f.word w e h) k)

  pub compared_near : (lo hi : Option Entry) (w e : List ℕ) (kb ka m n : ℕ) → kb ≡ shared_with_entry w lo → ka ≡ shared_with_entry w hi → m ≡ shared_with (word_of lo) e → n ≡ shared_with (word_of hi) e
      → LowOrSame lo w → Low lo e → HighOrSame hi w → High hi e → Right w e (ltb ka kb) (max kb ka) (cond (ltb ka kb) m n)
  compared_near lo hi w e kb ka m n eb ea em en lw le hw he =
      elim (cases_Bool (ltb ka kb)) [
        | inl t ↦
            let p = ltb-true ka kb t in
            let q : max kb ka ≡ kb = omega arith in
            rw (t, q, eb, em) (right_low lo w e lw le (omega arith))
        | inr t ↦
            let p = ltb-false ka kb t in
            let q : max kb ka ≡ ka = omega arith in
            rw (t, q, ea, en) (right_high hi w e hw he)
      ]

  abbrev pairs_by : List ℕ → List ℕ → ℕ → ℕ → ℕ → ℕ → ℕ
  pairs_by w e kb ka m n = cond (eqb (max kb ka) (cond (ltb ka kb) m n)) (looked w e - max kb ka) 0

  abbrev Done : List Entry → List ℕ → Tree → Walked
  Done es w s = record { way = way_to order w s; pairs = sum_of (pairs_at order es w) (way_to order w s); found = find order w s }

  module _ (es b : List Entry) (lo : Option Entry) (l : Tree) (e : Entry) (m n : ℕ) (r : Tree) (hi : Option Entry) (a : List Entry) (w : List ℕ)
      (h : Hangs order es b lo (top l e m n r) hi a) (low : Below order w (up_to b lo)) (high : Above order w (on_from hi a)) (x : Exact (word_of lo) (word_of hi) (top l e m n r)) where
    low_top : Low lo e.word
    low_top = low_of b lo e.word (all_left (λ f. word_order order f.word e.word ≡ Less) (up_to b lo) (entries l) (all_before order law es b lo l e m n r hi a h))

    high_top : High hi e.word
    high_top = high_of hi a e.word (all_right (λ f. word_order order e.word f.word ≡ Less) (entries r) (on_from hi a) (all_after order law es b lo l e m n r hi a h))

    pairs_here : pairs_at order es w e ≡ pairs_by w e.word (shared_with_entry w lo) (shared_with_entry w hi) m n
    pairs_here =
        let p = ap (shared_with_entry w) (near_before order law es b lo l e m n r hi a w h low high) in
        let q = ap (shared_with_entry w) (near_after order law es b lo l e m n r hi a w h low high) in
        let k = measures order law es b lo (top l e m n r) hi a h x in
        let c = sym k.0 in
        let d = sym k.1 in
        λ i. pairs_by w e.word (p i) (q i) (c i) (d i)

    abbrev kb : ℕ
    kb = shared_with_entry w lo

    abbrev ka : ℕ
    ka = shared_with_entry w hi

    pub compared_here : compared order w e.word (ltb ka kb) (max kb ka) (cond (ltb ka kb) m n) ≡ Told w e.word (pairs_at order es w e)
    compared_here =
        compared_near lo hi w e.word kb ka m n refl refl x.0 x.1 (low_weaker lo w (low_of b lo w low)) low_top (high_weaker hi w (high_of hi a w high)) high_top
        ∙ ap (Told w e.word) (sym pairs_here)

    walk_step : (word_order order w e.word ≡ Less → lookup order w kb (shared w e.word) l ≡ Done es w l)
        → (word_order order e.word w ≡ Less → lookup order w (shared w e.word) ka r ≡ Done es w r)
        → (o : Ordering) → word_order order w e.word ≡ o
        → turned o (lookup order w kb (shared w e.word) l) (record { way = []; pairs = 0; found = Some e }) (lookup order w (shared w e.word) ka r)
        ≡ record { way = turned o (way_to order w l) [] (way_to order w r); pairs = sum_of (pairs_at order es w) (turned o (way_to order w l) [] (way_to order w r)); found = turned o (find order w l) (Some e) (find order w r) }
    walk_step i j Less t = i t
    walk_step i j Equal t = refl
    walk_step i j Greater t = j ((words_lawful order law).swaps w e.word ∙ ap ordering_reverse t)

    walk_top : (word_order order w e.word ≡ Less → lookup order w kb (shared w e.word) l ≡ Done es w l)
        → (word_order order e.word w ≡ Less → lookup order w (shared w e.word) ka r ≡ Done es w r)
        → lookup order w kb ka (top l e m n r) ≡ Done es w (top l e m n r)
    walk_top i j =
        ap (λ (c : Comparison). after e c.pairs (turned c.answer (lookup order w kb c.share l) (record { way = []; pairs = 0; found = Some e }) (lookup order w c.share ka r))) compared_here
        ∙ ap (after e (pairs_at order es w e)) (walk_step i j (word_order order w e.word) refl)

  pub walk_at : (es b : List Entry) (lo : Option Entry) (s : Tree) (hi : Option Entry) (a : List Entry) (w : List ℕ)
      → Hangs order es b lo s hi a → Below order w (up_to b lo) → Above order w (on_from hi a) → Exact (word_of lo) (word_of hi) s
      → lookup order w (shared_with_entry w lo) (shared_with_entry w hi) s ≡ Done es w s
  walk_at es b lo nothing hi a w h low high x = refl
  walk_at es b lo (top l e m n r) hi a w h low high x =
      walk_top es b lo l e m n r hi a w h low high x
      (λ t. walk_at es b lo l (Some e) (entries r ++ on_from hi a) w (hangs_left order es b lo l e m n r hi a h) low (above_left order law es b lo l e m n r hi a h w t) x.2)
      (λ t. walk_at es (up_to b lo ++ entries l) (Some e) r hi a w (hangs_right order es b lo l e m n r hi a h) (below_right order law es b lo l e m n r hi a h w t) high x.3)

  -- ---- few pairs
  looked_few : (w v : List ℕ) (k : ℕ) → looked w v - k ≤ (shared w v - k) + 1
  looked_few w v k = elim (looked_counts w v) [ inl e ↦ omega arith | inr e ↦ omega arith ]

  pairs_few : (w v : List ℕ) (kb ka m n : ℕ) → pairs_by w v kb ka m n ≤ (shared w v - max kb ka) + 1
  pairs_few w v kb ka m n =
      elim (eqb (max kb ka) (cond (ltb ka kb) m n)) as (λ b. cond b (looked w v - max kb ka) 0 ≤ (shared w v - max kb ka) + 1)
      [ true ↦ looked_few w v (max kb ka) | false ↦ omega arith ]

  longest_append : (w : List ℕ) (xs ys : List Entry) → longest_shared w (xs ++ ys) ≡ max (longest_shared w xs) (longest_shared w ys)
  longest_append w [] ys = omega arith
  longest_append w (x ∷ xs) ys = let i = longest_append w xs ys in omega arith

  near_high_lem : (hi : Option Entry) (w e : List ℕ) → word_order order w e ≡ Less → High hi e → shared_with_entry w hi ≤ shared w e
  near_high_lem None w e h k = omega arith
  near_high_lem (Some f) w e h k = let p = shared_between order law w e f.word h k in omega arith

  near_low_lem : (lo : Option Entry) (w e : List ℕ) → word_order order e w ≡ Less → Low lo e → shared_with_entry w lo ≤ shared w e
  near_low_lem None w e h k = omega arith
  near_low_lem (Some f) w e h k =
      let p = shared_between order law f.word e w k h in
      let q = shared_swaps order law f.word w in
      let r = shared_swaps order law w e in
      omega arith

  abbrev Few : List Entry → List ℕ → ℕ → ℕ → List Entry → List Entry → Type 0
  Few es w kb ka way xs = sum_of (pairs_at order es w) way + max kb ka ≤ length way + max (max kb ka) (longest_shared w xs)

  module _ (es b : List Entry) (lo : Option Entry) (l : Tree) (e : Entry) (m n : ℕ) (r : Tree) (hi : Option Entry) (a : List Entry) (w : List ℕ)
      (h : Hangs order es b lo (top l e m n r) hi a) (low : Below order w (up_to b lo)) (high : Above order w (on_from hi a)) (x : Exact (word_of lo) (word_of hi) (top l e m n r)) where
    few_step : (word_order order w e.word ≡ Less → Few es w (shared_with_entry w lo) (shared w e.word) (way_to order w l) (entries l))
        → (word_order order e.word w ≡ Less → Few es w (shared w e.word) (shared_with_entry w hi) (way_to order w r) (entries r))
        → (o : Ordering) → word_order order w e.word ≡ o
        → Few es w (shared_with_entry w lo) (shared_with_entry w hi) (e ∷ turned o (way_to order w l) [] (way_to order w r)) (entries l ++ (e ∷ entries r))
    few_step i j Less t =
        let p = pairs_here es b lo l e m n r hi a w h low high x in
        let q = pairs_few w e.word (shared_with_entry w lo) (shared_with_entry w hi) m n in
        let s = longest_append w (entries l) (e ∷ entries r) in
        let u = near_high_lem hi w e.word t (high_top es b lo l e m n r hi a w h low high x) in
        let v = i t in
        omega arith
    few_step i j Equal t =
        let p = pairs_here es b lo l e m n r hi a w h low high x in
        let q = pairs_few w e.word (shared_with_entry w lo) (shared_with_entry w hi) m n in
        let s = longest_append w (entries l) (e ∷ entries r) in
        omega arith
    few_step i j Greater t =
        let g = (words_lawful order law).swaps w e.word ∙ ap ordering_reverse t in
        let p = pairs_here es b lo l e m n r hi a w h low high x in
        let q = pairs_few w e.word (shared_with_entry w lo) (shared_with_entry w hi) m n in
        let s = longest_append w (entries l) (e ∷ entries r) in
        let u = near_low_lem lo w e.word g (low_top es b lo l e m n r hi a w h low high x) in
        let v = j g in
        omega arith

  pub few_at : (es b : List Entry) (lo : Option Entry) (s : Tree) (hi : Option Entry) (a : List Entry) (w : List ℕ)
      → Hangs order es b lo s hi a → Below order w (up_to b lo) → Above order w (on_from hi a) → Exact (word_of lo) (word_of hi) s
      → Few es w (shared_with_entry w lo) (shared_with_entry w hi) (way_to order w s) (entries s)
  few_at es b lo nothing hi a w h low high x = omega arith
  few_at es b lo (top l e m n r) hi a w h low high x =
      few_step es b lo l e m n r hi a w h low high x
      (λ t. few_at es b lo l (Some e) (entries r ++ on_from hi a) w (hangs_left order es b lo l e m n r hi a h) low (above_left order law es b lo l e m n r hi a h w t) x.2)
      (λ t. few_at es (up_to b lo ++ entries l) (Some e) r hi a w (hangs_right order es b lo l e m n r hi a h) (below_right order law es b lo l e m n r hi a h w t) high x.3)
      (word_order order w e.word) refl

  -- ---- what is found
  not_word_low : (w v : List ℕ) (es : List Entry) → is_le (word_order order w v) ≡ true → AllByRecursion (λ f. word_order order v f.word ≡ Less) es → AllByRecursion (λ f. is_word order w f ≡ false) es
  not_word_low w v es h a =
      All-weaker (λ f. word_order order v f.word ≡ Less) (λ f. is_word order w f ≡ false) (λ f k. ap is_eq (le_then_less order law w v f.word h k)) es a

  not_word_high : (w v : List ℕ) (es : List Entry) → is_le (word_order order v w) ≡ true → AllByRecursion (λ f. word_order order f.word v ≡ Less) es → AllByRecursion (λ f. is_word order w f ≡ false) es
  not_word_high w v es h a =
      All-weaker (λ f. word_order order f.word v ≡ Less) (λ f. is_word order w f ≡ false)
      (λ f k. ap is_eq ((words_lawful order law).swaps f.word w ∙ ap ordering_reverse (less_then_le order law f.word v w k h))) es a

  find_step : (w : List ℕ) (l : Tree) (e : Entry) (r : Tree) → Rising order (entries l ++ (e ∷ entries r))
      → first_of (filter (is_word order w) (entries l)) ≡ find order w l → first_of (filter (is_word order w) (entries r)) ≡ find order w r
      → (o : Ordering) → word_order order w e.word ≡ o
      → first_of (filter (is_word order w) (entries l) ++ cond (is_eq o) (e ∷ filter (is_word order w) (entries r)) (filter (is_word order w) (entries r))) ≡ turned o (find order w l) (Some e) (find order w r)
  find_step w l e r h i j Less t =
      let k = not_word_low w e.word (entries r) (ap is_le t) (rising_right order (entries l) (e ∷ entries r) h).0 in
      ap (λ (z : List Entry). first_of (filter (is_word order w) (entries l) ++ z)) (kept_none (is_word order w) (entries r) k) ∙ ap first_of (append-nil (filter (is_word order w) (entries l))) ∙ i
  find_step w l e r h i j Equal t =
      let k = not_word_high w e.word (entries l) (ap is_le ((words_lawful order law).swaps w e.word ∙ ap ordering_reverse t)) (rising_before order (entries l) e (entries r) h) in
      ap (λ (z : List Entry). first_of (z ++ (e ∷ filter (is_word order w) (entries r)))) (kept_none (is_word order w) (entries l) k)
  find_step w l e r h i j Greater t =
      let k = not_word_high w e.word (entries l) (ap is_le ((words_lawful order law).swaps w e.word ∙ ap ordering_reverse t)) (rising_before order (entries l) e (entries r) h) in
      ap (λ (z : List Entry). first_of (z ++ filter (is_word order w) (entries r))) (kept_none (is_word order w) (entries l) k) ∙ j

  pub find_at : (w : List ℕ) (s : Tree) → Rising order (entries s) → first_of (filter (is_word order w) (entries s)) ≡ find order w s
  find_at w nothing h = refl
  find_at w (top l e m n r) h =
      ap first_of (filter-append (is_word order w) (entries l) (e ∷ entries r))
      ∙ find_step w l e r h (find_at w l (rising_left order (entries l) (e ∷ entries r) h)) (find_at w r (rising_right order (entries l) (e ∷ entries r) h).1) (word_order order w e.word) refl

  -- ---- the lookup by steps
  pub looks_up : (es : List Entry) (t : Tree) (w : List ℕ) → ordered order es ≡ true → TreeOf order es t → LooksUp order es w (lookup order w 0 0 t)
  looks_up es t w h o =
      let g = hangs_whole order law es t h o in
      let e = walk_at es [] None t None [] w g tt tt o.lengths in
      let m : (f : Entry → ℕ) → sum_of f (way_to order w t) ≡ sum_of f (met order es w) = λ f. way_sum order f w t ∙ ap (sum_of f) (sym (met_of_list order law es t w h o)) in
      let n : length (way_to order w t) ≡ length (met order es w) = sym (sum_one (way_to order w t)) ∙ m (λ _. 1) ∙ sum_one (met order es w) in
      let k = few_at es [] None t None [] w g tt tt o.lengths in
      let j : longest_shared w (entries t) ≡ longest_shared w es = ap (longest_shared w) o.holds in
      subst (LooksUp order es w) (sym e) (record {
        falls = way_falls order w t o.ranks;
        meets = m;
        many = n;
        looks = m (pairs_at order es w);
        finds = sym (find_at w t (subst (Rising order) (sym o.holds) (rising_of_ordered order law es h))) ∙ ap (λ (z : List Entry). first_of (filter (is_word order w) z)) o.holds;
        few = omega arith;
      })

  -- ---- the same, with the entries met told as a list of them in another order
  pub lookup_law : (es : List Entry) (t : Tree) (w : List ℕ) → ordered order es ≡ true → TreeOf order es t → LawOfLookup order es w (lookup order w 0 0 t)
  lookup_law es t w h o =
      let g = hangs_whole order law es t h o in
      let e = walk_at es [] None t None [] w g tt tt o.lengths in
      let m = met_of_list order law es t w h o in
      let k = few_at es [] None t None [] w g tt tt o.lengths in
      let j : longest_shared w (entries t) ≡ longest_shared w es = ap (longest_shared w) o.holds in
      subst (LawOfLookup order es w) (sym e) (record {
        finds = sym (find_at w t (subst (Rising order) (sym o.holds) (rising_of_ordered order law es h))) ∙ ap (λ (z : List Entry). first_of (filter (is_word order w) z)) o.holds;
        meets = subst (λ (z : List Entry). IsPermutation z (way_to order w t)) (sym m) (way_shuffled order w t);
        falls = way_falls order w t o.ranks;
        looks = way_sum order (pairs_at order es w) w t ∙ ap (sum_of (pairs_at order es w)) (sym m);
        few = omega arith;
      })
