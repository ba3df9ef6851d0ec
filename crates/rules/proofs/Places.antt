-- A subtree in the tree of an ordered list: what stands before and after it, and what a lookup that comes to it has met.
use Rattle.std.proofs.Common.{◌≡◌, ℕ, Bool, true, false, cond, not, ◌&&◌, List, [], ◌∷◌, ◌++◌, Some, None, filter, Option, Ordering, Less, Equal, Greater, sym, refl, ap, ◌∙◌, subst, append_assoc, append-nil}
use Rattle.std.specs.Ordering.{is_lt, is_le, ordering_reverse}
use Rattle.std.specs.List.{AllByRecursion}
use Rattle.std.proofs.lemmas.List.Elements.{filter-append}
use Rattle.std.proofs.ByRecursion.{All-append, All-weaker}
use Rattle.std.proofs.lemmas.Bool.{and_from, and_left, and_right, or_from, or_left, or_right, not_from_true, not_from_false}
use Rattle.kinds.specs.Orders.{Lawful}
use Rattle.words.specs.Words.{word_order}
use Rattle.words.proofs.Orders.{words_lawful}
use Rattle.words.proofs.Sharing.{after_of_before, shared_swaps}
use Rattle.rules.specs.Entries.{Entry, before, is_not_after, outranks, between}
use Rattle.rules.specs.Held.{some, first_of, last_of, ordered, nearest_before, nearest_after}
use Rattle.rules.specs.Trees.{Tree, nothing, top, entries, ranked, shared_with, Exact, TreeOf}
use Rattle.rules.specs.Lookups.{met, met_before, left_length_of, right_length_of, shared_with_entry}
use Rattle.rules.specs.Walks.{turned}
use Rattle.rules.proofs.Lists.{Above, Below, all_at, all_left, all_right, all_both, kept_none, kept_kept, some_none, some_at, last_push, Rising, rising_before, rising_right, rising_of_ordered}
use Rattle.rules.proofs.Ranks.{outranks_swaps, outranks_itself}
use Rattle.rules.proofs.Trees.{ranked_of}

-- each entry's two lengths are what f and g say of it
abbrev pub Measures : (Entry → ℕ) → (Entry → ℕ) → Tree → Type 0
Measures f g nothing = Unit {0}
Measures f g (top l e m n r) = (m ≡ f e) × (n ≡ g e) × Measures f g l × Measures f g r

-- the entries on the way to w, in word order: left where w is before the top, right where it is after, until w is met or nothing is left
abbrev pub on_way : (ℕ → ℕ → Ordering) → List ℕ → Tree → List Entry
on_way order w nothing = []
on_way order w (top l e m n r) = turned (word_order order w e.word) (on_way order w l ++ (e ∷ [])) (e ∷ []) (e ∷ on_way order w r)

-- the entries up to lo, and those from hi on: none where there is no lo or hi
abbrev pub up_to : List Entry → Option Entry → List Entry
up_to b None = []
up_to b (Some f) = b ++ (f ∷ [])

abbrev pub on_from : Option Entry → List Entry → List Entry
on_from None a = []
on_from (Some f) a = f ∷ a

abbrev pub word_of : Option Entry → Option (List ℕ)
word_of None = None
word_of (Some f) = Some f.word

module _ (order : ℕ → ℕ → Ordering) where
  abbrev pub Tops : Option Entry → List Entry → Type 0
  Tops None es = Unit {0}
  Tops (Some f) es = AllByRecursion (λ g. outranks order f g ≡ true) es

  tops_left : (o : Option Entry) (xs ys : List Entry) → Tops o (xs ++ ys) → Tops o xs
  tops_left None xs ys h = tt
  tops_left (Some f) xs ys h = all_left (λ g. outranks order f g ≡ true) xs ys h

  tops_right : (o : Option Entry) (xs : List Entry) (y : Entry) (ys : List Entry) → Tops o (xs ++ (y ∷ ys)) → Tops o ys
  tops_right None xs y ys h = tt
  tops_right (Some f) xs y ys h = (all_right (λ g. outranks order f g ≡ true) xs (y ∷ ys) h).1

  -- the list es is cut at the subtree s; the entries next to s, on both sides, outrank all of s: they are its nearest ancestors
  pub record Hangs (es b : List Entry) (lo : Option Entry) (s : Tree) (hi : Option Entry) (a : List Entry) : Type 0 where
    pub cut : es ≡ up_to b lo ++ (entries s ++ on_from hi a)
    pub rising : Rising order es
    pub rank : ranked order s ≡ true
    pub low : Tops lo (entries s)
    pub high : Tops hi (entries s)

  module _ (es b : List Entry) (lo : Option Entry) (l : Tree) (e : Entry) (m n : ℕ) (r : Tree) (hi : Option Entry) (a : List Entry) (h : Hangs es b lo (top l e m n r) hi a) where
    pub cut_left : es ≡ up_to b lo ++ (entries l ++ (e ∷ (entries r ++ on_from hi a)))
    cut_left = h.cut ∙ simp append_assoc

    pub cut_right : es ≡ ((up_to b lo ++ entries l) ++ (e ∷ [])) ++ (entries r ++ on_from hi a)
    cut_right = h.cut ∙ simp append_assoc

    pub cut_top : es ≡ (up_to b lo ++ entries l) ++ (e ∷ (entries r ++ on_from hi a))
    cut_top = h.cut ∙ simp append_assoc

    pub hangs_left : Hangs es b lo l (Some e) (entries r ++ on_from hi a)
    hangs_left = record {
      cut = cut_left;
      rising = h.rising;
      rank = (ranked_of order l e m n r h.rank).left;
      low = tops_left lo (entries l) (e ∷ entries r) h.low;
      high = (ranked_of order l e m n r h.rank).over_left;
    }

    pub hangs_right : Hangs es (up_to b lo ++ entries l) (Some e) r hi a
    hangs_right = record {
      cut = cut_right;
      rising = h.rising;
      rank = (ranked_of order l e m n r h.rank).right;
      low = (ranked_of order l e m n r h.rank).over_right;
      high = tops_right hi (entries l) e (entries r) h.high;
    }

  -- the test of `met`
  abbrev pub meets : List Entry → List ℕ → Entry → Bool
  meets es w f = not (some (λ g. between order f w g && outranks order g f) es)

  abbrev pub Harmless : List ℕ → Entry → Entry → Type 0
  Harmless w f g = (between order f w g && outranks order g f) ≡ false

module _ (order : ℕ → ℕ → Ordering) (law : Lawful order) where
  -- ---- who stands between
  -- nobody before both f and w stands between them, nor anybody after both
  pub not_between_low : (f : Entry) (w : List ℕ) (g : Entry) → word_order order g.word f.word ≡ Less → word_order order g.word w ≡ Less → between order f w g ≡ false
  not_between_low f w g k j =
      or_from (before order f.word g.word && is_not_after order g.word w) (is_not_after order w g.word && before order g.word f.word)
      (and_left (before order f.word g.word) (is_not_after order g.word w) (ap is_lt (after_of_before order law g.word f.word k)))
      (and_left (is_not_after order w g.word) (before order g.word f.word) (ap is_le (after_of_before order law g.word w j)))

  pub not_between_over : (f : Entry) (w : List ℕ) (g : Entry) → word_order order f.word w ≡ Less → word_order order w g.word ≡ Less → between order f w g ≡ false
  not_between_over f w g h k =
      or_from (before order f.word g.word && is_not_after order g.word w) (is_not_after order w g.word && before order g.word f.word)
      (and_right (before order f.word g.word) (is_not_after order g.word w) (ap is_le (after_of_before order law w g.word k)))
      (and_right (is_not_after order w g.word) (before order g.word f.word) (ap is_lt (after_of_before order law f.word g.word ((words_lawful order law).chains f.word w g.word h k))))

  pub not_between_high : (f : Entry) (w : List ℕ) (g : Entry) → word_order order f.word g.word ≡ Less → word_order order w g.word ≡ Less → between order f w g ≡ false
  not_between_high f w g k j =
      or_from (before order f.word g.word && is_not_after order g.word w) (is_not_after order w g.word && before order g.word f.word)
      (and_right (before order f.word g.word) (is_not_after order g.word w) (ap is_le (after_of_before order law w g.word j)))
      (and_right (is_not_after order w g.word) (before order g.word f.word) (ap is_lt (after_of_before order law f.word g.word k)))

  pub not_between_under : (f : Entry) (w : List ℕ) (g : Entry) → word_order order w f.word ≡ Less → word_order order g.word w ≡ Less → between order f w g ≡ false
  not_between_under f w g h k =
      or_from (before order f.word g.word && is_not_after order g.word w) (is_not_after order w g.word && before order g.word f.word)
      (and_left (before order f.word g.word) (is_not_after order g.word w) (ap is_lt (after_of_before order law g.word f.word ((words_lawful order law).chains g.word w f.word k h))))
      (and_left (is_not_after order w g.word) (before order g.word f.word) (ap is_le (after_of_before order law g.word w k)))

  pub meets_of : (es : List Entry) (w : List ℕ) (f : Entry) → AllByRecursion (Harmless order w f) es → meets order es w f ≡ true
  meets_of es w f h = not_from_false (some (λ g. between order f w g && outranks order g f) es) (some_none (λ g. between order f w g && outranks order g f) es h)

  pub harmless_apart : (w : List ℕ) (f g : Entry) → between order f w g ≡ false → Harmless order w f g
  harmless_apart w f g h = and_left (between order f w g) (outranks order g f) h

  pub harmless_under : (w : List ℕ) (f g : Entry) → outranks order f g ≡ true → Harmless order w f g
  harmless_under w f g h = and_right (between order f w g) (outranks order g f) (outranks_swaps order law f g h)

  pub harmless_itself : (w : List ℕ) (f : Entry) → Harmless order w f f
  harmless_itself w f = and_right (between order f w f) (outranks order f f) (outranks_itself order law f)

  pub meets_not : (es xs : List Entry) (g : Entry) (ys : List Entry) (w : List ℕ) (f : Entry) → es ≡ xs ++ (g ∷ ys) → between order f w g ≡ true → outranks order g f ≡ true → meets order es w f ≡ false
  meets_not es xs g ys w f c h k =
      not_from_true (some (λ g. between order f w g && outranks order g f) es)
      (ap (some (λ g. between order f w g && outranks order g f)) c
      ∙ some_at (λ g. between order f w g && outranks order g f) xs g ys (and_from (between order f w g) (outranks order g f) h k))

  -- ---- the nearest entries met
  -- lo, next before s, is met by each lookup that comes to s
  lo_met : (es b : List Entry) (f : Entry) (s : Tree) (hi : Option Entry) (a : List Entry) (w : List ℕ) → Hangs order es b (Some f) s hi a → Below order w (b ++ (f ∷ [])) → Above order w (on_from hi a) → meets order es w f ≡ true
  lo_met es b f s hi a w h low high =
      let fw = all_at (λ f. word_order order f.word w ≡ Less) b f [] low in
      let c : es ≡ b ++ (f ∷ (entries s ++ on_from hi a)) = h.cut ∙ simp append_assoc in
      let bf = rising_before order b f (entries s ++ on_from hi a) (subst (Rising order) c h.rising) in
      meets_of es w f
      (subst (AllByRecursion (Harmless order w f)) (sym c)
      (All-append (Harmless order w f) b (f ∷ (entries s ++ on_from hi a))
      (both b bf (all_left (λ f. word_order order f.word w ≡ Less) b (f ∷ []) low)) (
        harmless_itself w f,
        All-append (Harmless order w f) (entries s) (on_from hi a)
            (All-weaker (λ g. outranks order f g ≡ true) (Harmless order w f) (λ g k. harmless_under w f g k) (entries s) h.low)
            (All-weaker (λ g. word_order order w g.word ≡ Less) (Harmless order w f) (λ g k. harmless_apart w f g (not_between_over f w g fw k)) (on_from hi a) high),
      )))
    where
      both : (xs : List Entry) → AllByRecursion (λ g. word_order order g.word f.word ≡ Less) xs → Below order w xs → AllByRecursion (Harmless order w f) xs
      both [] p q = tt
      both (g ∷ xs) p q =
          (harmless_apart w f g (not_between_low f w g p.0 q.0), both xs p.1 q.1)

  hi_met : (es b : List Entry) (lo : Option Entry) (s : Tree) (f : Entry) (a : List Entry) (w : List ℕ) → Hangs order es b lo s (Some f) a → Below order w (up_to b lo) → Above order w (f ∷ a) → meets order es w f ≡ true
  hi_met es b lo s f a w h low high =
      let c : es ≡ (up_to b lo ++ entries s) ++ (f ∷ a) = h.cut ∙ simp append_assoc in
      let af = (rising_right order (up_to b lo ++ entries s) (f ∷ a) (subst (Rising order) c h.rising)).0 in
      meets_of es w f
      (subst (AllByRecursion (Harmless order w f)) (sym h.cut)
      (All-append (Harmless order w f) (up_to b lo) (entries s ++ (f ∷ a))
      (All-weaker (λ g. word_order order g.word w ≡ Less) (Harmless order w f) (λ g k. harmless_apart w f g (not_between_under f w g high.0 k)) (up_to b lo) low)
      (All-append (Harmless order w f) (entries s) (f ∷ a)
      (All-weaker (λ g. outranks order f g ≡ true) (Harmless order w f) (λ g k. harmless_under w f g k) (entries s) h.high)
      (harmless_itself w f, both a af high.1))))
    where
      both : (xs : List Entry) → AllByRecursion (λ g. word_order order f.word g.word ≡ Less) xs → Above order w xs → AllByRecursion (Harmless order w f) xs
      both [] p q = tt
      both (g ∷ xs) p q =
          (harmless_apart w f g (not_between_high f w g p.0 q.0), both xs p.1 q.1)

  -- the top of s outranks, and is not outranked by, what s holds
  pub not_over_top : (l : Tree) (e : Entry) (m n : ℕ) (r : Tree) → ranked order (top l e m n r) ≡ true → AllByRecursion (λ f. outranks order f e ≡ false) (entries (top l e m n r))
  not_over_top l e m n r h =
      let k = ranked_of order l e m n r h in
      All-append (λ f. outranks order f e ≡ false) (entries l) (e ∷ entries r)
      (All-weaker (λ f. outranks order e f ≡ true) (λ f. outranks order f e ≡ false) (λ f o. outranks_swaps order law e f o) (entries l) k.over_left)
      (outranks_itself order law e, All-weaker (λ f. outranks order e f ≡ true) (λ f. outranks order f e ≡ false) (λ f o. outranks_swaps order law e f o) (entries r) k.over_right)

  -- the entries, met before e, that are before w
  abbrev near_low : List Entry → List ℕ → Entry → Entry → Bool
  near_low es w e f = meets order es w f && (outranks order f e && before order f.word w)

  abbrev near_high : List Entry → List ℕ → Entry → Entry → Bool
  near_high es w e f = meets order es w f && (outranks order f e && before order w f.word)

  last_low : (es b : List Entry) (lo : Option Entry) (l : Tree) (e : Entry) (m n : ℕ) (r : Tree) (hi : Option Entry) (a : List Entry) (w : List ℕ)
      → Hangs order es b lo (top l e m n r) hi a → Below order w (up_to b lo) → Above order w (on_from hi a) → last_of (filter (near_low es w e) (up_to b lo)) ≡ lo
  last_low es b None l e m n r hi a w h low high = refl
  last_low es b (Some f) l e m n r hi a w h low high =
      let fw = all_at (λ f. word_order order f.word w ≡ Less) b f [] low in
      let q : near_low es w e f ≡ true =
      and_from (meets order es w f) (outranks order f e && before order f.word w) (lo_met es b f (top l e m n r) hi a w h low high)
      (and_from (outranks order f e) (before order f.word w) (all_at (λ g. outranks order f g ≡ true) (entries l) e (entries r) h.low) (ap is_lt fw)) in
      ap last_of (filter-append (near_low es w e) b (f ∷ []) ∙ ap (λ (c : Bool). filter (near_low es w e) b ++ cond c (f ∷ []) []) q) ∙ last_push (filter (near_low es w e) b) f

  pub near_before : (es b : List Entry) (lo : Option Entry) (l : Tree) (e : Entry) (m n : ℕ) (r : Tree) (hi : Option Entry) (a : List Entry) (w : List ℕ)
      → Hangs order es b lo (top l e m n r) hi a → Below order w (up_to b lo) → Above order w (on_from hi a) → nearest_before order w (met_before order es w e) ≡ lo
  near_before es b lo l e m n r hi a w h low high =
      let s = top l e m n r in
      let no : AllByRecursion (λ f. near_low es w e f ≡ false) (entries s ++ on_from hi a) =
      All-append (λ f. near_low es w e f ≡ false) (entries s) (on_from hi a)
      (All-weaker (λ f. outranks order f e ≡ false) (λ f. near_low es w e f ≡ false)
      (λ f o. and_right (meets order es w f) (outranks order f e && before order f.word w) (and_left (outranks order f e) (before order f.word w) o)) (entries s) (not_over_top l e m n r h.rank))
      (All-weaker (λ f. word_order order w f.word ≡ Less) (λ f. near_low es w e f ≡ false)
      (λ f o. and_right (meets order es w f) (outranks order f e && before order f.word w) (and_right (outranks order f e) (before order f.word w) (ap is_lt (after_of_before order law w f.word o)))) (on_from hi a) high) in
      let one = kept_kept (λ f. before order f.word w) (λ f. outranks order f e) (met order es w) in
      let two = kept_kept (λ f. outranks order f e && before order f.word w) (meets order es w) es in
      let three = ap (filter (near_low es w e)) h.cut ∙ filter-append (near_low es w e) (up_to b lo) (entries s ++ on_from hi a)
      ∙ ap (λ (z : List Entry). filter (near_low es w e) (up_to b lo) ++ z) (kept_none (near_low es w e) (entries s ++ on_from hi a) no)
      ∙ append-nil (filter (near_low es w e) (up_to b lo)) in
      ap last_of (one ∙ two ∙ three) ∙ last_low es b lo l e m n r hi a w h low high

  first_high : (es b : List Entry) (lo : Option Entry) (l : Tree) (e : Entry) (m n : ℕ) (r : Tree) (hi : Option Entry) (a : List Entry) (w : List ℕ)
      → Hangs order es b lo (top l e m n r) hi a → Below order w (up_to b lo) → Above order w (on_from hi a) → first_of (filter (near_high es w e) (on_from hi a)) ≡ hi
  first_high es b lo l e m n r None a w h low high = refl
  first_high es b lo l e m n r (Some f) a w h low high =
      let q : near_high es w e f ≡ true =
      and_from (meets order es w f) (outranks order f e && before order w f.word) (hi_met es b lo (top l e m n r) f a w h low high)
      (and_from (outranks order f e) (before order w f.word) (all_at (λ g. outranks order f g ≡ true) (entries l) e (entries r) h.high) (ap is_lt high.0)) in
      ap (λ (c : Bool). first_of (cond c (f ∷ filter (near_high es w e) a) (filter (near_high es w e) a))) q

  pub near_after : (es b : List Entry) (lo : Option Entry) (l : Tree) (e : Entry) (m n : ℕ) (r : Tree) (hi : Option Entry) (a : List Entry) (w : List ℕ)
      → Hangs order es b lo (top l e m n r) hi a → Below order w (up_to b lo) → Above order w (on_from hi a) → nearest_after order w (met_before order es w e) ≡ hi
  near_after es b lo l e m n r hi a w h low high =
      let s = top l e m n r in
      let no_low : AllByRecursion (λ f. near_high es w e f ≡ false) (up_to b lo) =
      All-weaker (λ f. word_order order f.word w ≡ Less) (λ f. near_high es w e f ≡ false)
      (λ f o. and_right (meets order es w f) (outranks order f e && before order w f.word) (and_right (outranks order f e) (before order w f.word) (ap is_lt (after_of_before order law f.word w o)))) (up_to b lo) low in
      let no_mid : AllByRecursion (λ f. near_high es w e f ≡ false) (entries s) =
      All-weaker (λ f. outranks order f e ≡ false) (λ f. near_high es w e f ≡ false)
      (λ f o. and_right (meets order es w f) (outranks order f e && before order w f.word) (and_left (outranks order f e) (before order w f.word) o)) (entries s) (not_over_top l e m n r h.rank) in
      let one = kept_kept (λ f. before order w f.word) (λ f. outranks order f e) (met order es w) in
      let two = kept_kept (λ f. outranks order f e && before order w f.word) (meets order es w) es in
      let three = ap (filter (near_high es w e)) h.cut ∙ filter-append (near_high es w e) (up_to b lo) (entries s ++ on_from hi a)
      ∙ ap (λ (z : List Entry). z ++ filter (near_high es w e) (entries s ++ on_from hi a)) (kept_none (near_high es w e) (up_to b lo) no_low)
      ∙ filter-append (near_high es w e) (entries s) (on_from hi a)
      ∙ ap (λ (z : List Entry). z ++ filter (near_high es w e) (on_from hi a)) (kept_none (near_high es w e) (entries s) no_mid) in
      ap first_of (one ∙ two ∙ three) ∙ first_high es b lo l e m n r hi a w h low high

  -- ---- the lengths
  shared_lo : (lo : Option Entry) (w : List ℕ) → shared_with (word_of lo) w ≡ shared_with_entry w lo
  shared_lo None w = refl
  shared_lo (Some f) w = shared_swaps order law w f.word

  pub measures : (es b : List Entry) (lo : Option Entry) (s : Tree) (hi : Option Entry) (a : List Entry)
      → Hangs order es b lo s hi a → Exact (word_of lo) (word_of hi) s → Measures (left_length_of order es) (right_length_of order es) s
  measures es b lo nothing hi a h x = tt
  measures es b lo (top l e m n r) hi a h x =
      let c = cut_top order es b lo l e m n r hi a h in
      let up = subst (Rising order) c h.rising in
      let low = all_left (λ f. word_order order f.word e.word ≡ Less) (up_to b lo) (entries l) (rising_before order (up_to b lo ++ entries l) e (entries r ++ on_from hi a) up) in
      let high = all_right (λ f. word_order order e.word f.word ≡ Less) (entries r) (on_from hi a) (rising_right order (up_to b lo ++ entries l) (e ∷ (entries r ++ on_from hi a)) up).0 in (
        x.0 ∙ shared_lo lo e.word ∙ ap (shared_with_entry e.word) (sym (near_before es b lo l e m n r hi a e.word h low high)),
        x.1 ∙ shared_lo hi e.word ∙ ap (shared_with_entry e.word) (sym (near_after es b lo l e m n r hi a e.word h low high)),
        measures es b lo l (Some e) (entries r ++ on_from hi a) (hangs_left order es b lo l e m n r hi a h) x.2,
        measures es (up_to b lo ++ entries l) (Some e) r hi a (hangs_right order es b lo l e m n r hi a h) x.3,
      )

  pub hangs_whole : (es : List Entry) (t : Tree) → ordered order es ≡ true → TreeOf order es t → Hangs order es [] None t None []
  hangs_whole es t h o = record { cut = sym o.holds ∙ sym (append-nil (entries t)); rising = rising_of_ordered order law es h; rank = o.ranks; low = tt; high = tt }

  pub lengths_of_list : (es : List Entry) (t : Tree) → ordered order es ≡ true → TreeOf order es t → Measures (left_length_of order es) (right_length_of order es) t
  lengths_of_list es t h o = measures es [] None t None [] (hangs_whole es t h o) o.lengths

  -- ---- what a lookup meets
  module _ (es b : List Entry) (lo : Option Entry) (l : Tree) (e : Entry) (m n : ℕ) (r : Tree) (hi : Option Entry) (a : List Entry) (h : Hangs order es b lo (top l e m n r) hi a) where
    up : Rising order ((up_to b lo ++ entries l) ++ (e ∷ (entries r ++ on_from hi a)))
    up = subst (Rising order) (cut_top order es b lo l e m n r hi a h) h.rising

    pub all_before : Below order e.word (up_to b lo ++ entries l)
    all_before = rising_before order (up_to b lo ++ entries l) e (entries r ++ on_from hi a) up

    pub all_after : Above order e.word (entries r ++ on_from hi a)
    all_after = (rising_right order (up_to b lo ++ entries l) (e ∷ (entries r ++ on_from hi a)) up).0

    pub left_before : Below order e.word (entries l)
    left_before = all_right (λ f. word_order order f.word e.word ≡ Less) (up_to b lo) (entries l) all_before

    pub right_after : Above order e.word (entries r)
    right_after = all_left (λ f. word_order order e.word f.word ≡ Less) (entries r) (on_from hi a) all_after

    -- w is left of the top, or right of it
    pub above_left : (w : List ℕ) → word_order order w e.word ≡ Less → Above order w (e ∷ (entries r ++ on_from hi a))
    above_left w t =
        (t, All-weaker (λ f. word_order order e.word f.word ≡ Less) (λ f. word_order order w f.word ≡ Less) (λ f p. (words_lawful order law).chains w e.word f.word t p) (entries r ++ on_from hi a) all_after)

    pub below_right : (w : List ℕ) → word_order order e.word w ≡ Less → Below order w ((up_to b lo ++ entries l) ++ (e ∷ []))
    below_right w t =
        All-append (λ f. word_order order f.word w ≡ Less) (up_to b lo ++ entries l) (e ∷ [])
        (All-weaker (λ f. word_order order f.word e.word ≡ Less) (λ f. word_order order f.word w ≡ Less) (λ f p. (words_lawful order law).chains f.word e.word w p t) (up_to b lo ++ entries l) all_before)
        (t, tt)

    -- beyond the top nothing is met
    pub none_right : (w : List ℕ) → is_le (word_order order w e.word) ≡ true → filter (meets order es w) (entries r) ≡ []
    none_right w t =
        kept_none (meets order es w) (entries r)
        (all_both {P = λ f. word_order order e.word f.word ≡ Less} {Q = λ f. outranks order e f ≡ true} {R = λ f. meets order es w f ≡ false}
        (λ f p q. meets_not es (up_to b lo ++ entries l) e (entries r ++ on_from hi a) w f (cut_top order es b lo l e m n r hi a h)
        (or_right (before order f.word e.word && is_not_after order e.word w) (is_not_after order w e.word && before order e.word f.word) (and_from (is_not_after order w e.word) (before order e.word f.word) t (ap is_lt p))) q)
        (entries r) right_after (ranked_of order l e m n r h.rank).over_right)

    pub none_left : (w : List ℕ) → is_le (word_order order e.word w) ≡ true → filter (meets order es w) (entries l) ≡ []
    none_left w t =
        kept_none (meets order es w) (entries l)
        (all_both {P = λ f. word_order order f.word e.word ≡ Less} {Q = λ f. outranks order e f ≡ true} {R = λ f. meets order es w f ≡ false}
        (λ f p q. meets_not es (up_to b lo ++ entries l) e (entries r ++ on_from hi a) w f (cut_top order es b lo l e m n r hi a h)
        (or_left (before order f.word e.word && is_not_after order e.word w) (is_not_after order w e.word && before order e.word f.word) (and_from (before order f.word e.word) (is_not_after order e.word w) (ap is_lt p) t)) q)
        (entries l) left_before (ranked_of order l e m n r h.rank).over_left)

  module _ (es b : List Entry) (lo : Option Entry) (l : Tree) (e : Entry) (m n : ℕ) (r : Tree) (hi : Option Entry) (a : List Entry) (w : List ℕ)
      (h : Hangs order es b lo (top l e m n r) hi a) (low : Below order w (up_to b lo)) (high : Above order w (on_from hi a)) where
    pub top_met : meets order es w e ≡ true
    top_met =
        let k = ranked_of order l e m n r h.rank in
        meets_of es w e
        (subst (AllByRecursion (Harmless order w e)) (sym (cut_left order es b lo l e m n r hi a h))
        (All-append (Harmless order w e) (up_to b lo) (entries l ++ (e ∷ (entries r ++ on_from hi a)))
        (all_both {P = λ g. word_order order g.word e.word ≡ Less} {Q = λ g. word_order order g.word w ≡ Less} {R = Harmless order w e} (λ g p q. harmless_apart w e g (not_between_low e w g p q)) (up_to b lo)
        (all_left (λ f. word_order order f.word e.word ≡ Less) (up_to b lo) (entries l) (all_before es b lo l e m n r hi a h)) low)
        (All-append (Harmless order w e) (entries l) (e ∷ (entries r ++ on_from hi a))
        (All-weaker (λ g. outranks order e g ≡ true) (Harmless order w e) (λ g o. harmless_under w e g o) (entries l) k.over_left) (
          harmless_itself w e,
          All-append (Harmless order w e) (entries r) (on_from hi a)
              (All-weaker (λ g. outranks order e g ≡ true) (Harmless order w e) (λ g o. harmless_under w e g o) (entries r) k.over_right)
              (all_both {P = λ g. word_order order e.word g.word ≡ Less} {Q = λ g. word_order order w g.word ≡ Less} {R = Harmless order w e} (λ g p q. harmless_apart w e g (not_between_high e w g p q)) (on_from hi a)
              (all_right (λ f. word_order order e.word f.word ≡ Less) (entries r) (on_from hi a) (all_after es b lo l e m n r hi a h)) high),
        ))))

    met_split : filter (meets order es w) (entries l ++ (e ∷ entries r)) ≡ filter (meets order es w) (entries l) ++ (e ∷ filter (meets order es w) (entries r))
    met_split = filter-append (meets order es w) (entries l) (e ∷ entries r) ∙ ap (λ (c : Bool). filter (meets order es w) (entries l) ++ cond c (e ∷ filter (meets order es w) (entries r)) (filter (meets order es w) (entries r))) top_met

    met_step : (word_order order w e.word ≡ Less → filter (meets order es w) (entries l) ≡ on_way order w l) → (word_order order e.word w ≡ Less → filter (meets order es w) (entries r) ≡ on_way order w r)
        → (o : Ordering) → word_order order w e.word ≡ o → filter (meets order es w) (entries l ++ (e ∷ entries r)) ≡ turned o (on_way order w l ++ (e ∷ [])) (e ∷ []) (e ∷ on_way order w r)
    met_step i j Less t = met_split ∙ ap (λ (z : List Entry). filter (meets order es w) (entries l) ++ (e ∷ z)) (none_right es b lo l e m n r hi a h w (ap is_le t)) ∙ ap (λ (z : List Entry). z ++ (e ∷ [])) (i t)
    met_step i j Equal t =
        met_split ∙ ap (λ (z : List Entry). filter (meets order es w) (entries l) ++ (e ∷ z)) (none_right es b lo l e m n r hi a h w (ap is_le t))
        ∙ ap (λ (z : List Entry). z ++ (e ∷ [])) (none_left es b lo l e m n r hi a h w (ap is_le ((words_lawful order law).swaps w e.word ∙ ap ordering_reverse t)))
    met_step i j Greater t =
        let u = (words_lawful order law).swaps w e.word ∙ ap ordering_reverse t in
        met_split ∙ ap (λ (z : List Entry). z ++ (e ∷ filter (meets order es w) (entries r))) (none_left es b lo l e m n r hi a h w (ap is_le u)) ∙ ap (λ (z : List Entry). e ∷ z) (j u)

  pub met_at : (es b : List Entry) (lo : Option Entry) (s : Tree) (hi : Option Entry) (a : List Entry) (w : List ℕ)
      → Hangs order es b lo s hi a → Below order w (up_to b lo) → Above order w (on_from hi a) → filter (meets order es w) (entries s) ≡ on_way order w s
  met_at es b lo nothing hi a w h low high = refl
  met_at es b lo (top l e m n r) hi a w h low high =
      met_step es b lo l e m n r hi a w h low high
      (λ t. met_at es b lo l (Some e) (entries r ++ on_from hi a) w (hangs_left order es b lo l e m n r hi a h) low (above_left es b lo l e m n r hi a h w t))
      (λ t. met_at es (up_to b lo ++ entries l) (Some e) r hi a w (hangs_right order es b lo l e m n r hi a h) (below_right es b lo l e m n r hi a h w t) high)
      (word_order order w e.word) refl

  pub met_of_list : (es : List Entry) (t : Tree) (w : List ℕ) → ordered order es ≡ true → TreeOf order es t → met order es w ≡ on_way order w t
  met_of_list es t w h o =
      ap (filter (meets order es w)) (sym o.holds) ∙ met_at es [] None t None [] w (hangs_whole es t h o) tt tt
