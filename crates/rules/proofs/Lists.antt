-- Lists cut in two ways, tests of their elements, and ordered lists.
use Rattle.std.proofs.Common.{◌≡◌, ℕ, Bool, true, false, cond, not, ◌&&◌, ◌⊎◌, List, [], ◌∷◌, ◌++◌, Some, filter, Ordering, Less, refl, ap, inl, inr}
use Rattle.std.specs.Ordering.{is_lt}
use Rattle.std.specs.List.{AllByRecursion}
use Rattle.std.proofs.ByRecursion.{All-append, All-weaker, all_kept_by, kept_by_passes}
use Rattle.std.proofs.lemmas.Bool.{and_parts, and_from, or_from, or_left, or_right}
use Rattle.kinds.specs.Orders.{Lawful}
use Rattle.words.specs.Words.{word_order}
use Rattle.words.proofs.Orders.{words_lawful}
use Rattle.words.proofs.Sharing.{is_lt_less}
use Rattle.rules.specs.Entries.{Entry, before}
use Rattle.rules.specs.Held.{some, every, last_of, ordered, is_word, with, without}

module _ {A : Type 0} where
  -- ---- a test of every element is a fact of each
  pub all_of_every : (p : A → Bool) (xs : List A) → every p xs ≡ true → AllByRecursion (λ x. p x ≡ true) xs
  all_of_every p [] h = tt
  all_of_every p (x ∷ xs) h = let q = and_parts (p x) (every p xs) h in (q.0, all_of_every p xs q.1)

  pub every_of_all : (p : A → Bool) (xs : List A) → AllByRecursion (λ x. p x ≡ true) xs → every p xs ≡ true
  every_of_all p [] h = refl
  every_of_all p (x ∷ xs) h = and_from (p x) (every p xs) h.0 (every_of_all p xs h.1)

  -- ---- a list cut at x and at y
  pub record Within (ks : List A) (x : A) (bs cs : List A) (y : A) (ds : List A) : Type 0 where
    pub mid : List A
    pub front : cs ≡ ks ++ (x ∷ mid)
    pub back : bs ≡ mid ++ (y ∷ ds)

  pub two_cuts : (ks : List A) (x : A) (bs cs : List A) (y : A) (ds : List A) → ks ++ (x ∷ bs) ≡ cs ++ (y ∷ ds)
      → ((ks ≡ cs) × (x ≡ y) × (bs ≡ ds)) ⊎ (Within ks x bs cs y ds ⊎ Within cs y ds ks x bs)
  two_cuts [] x bs [] y ds e = inl (refl, cc, cc)
  two_cuts [] x bs (c ∷ cs) y ds e = inr (inl (record { mid = cs; front = cc; back = cc }))
  two_cuts (a ∷ ks) x bs [] y ds e = inr (inr (record { mid = ks; front = cc; back = cc }))
  two_cuts (a ∷ ks) x bs (c ∷ cs) y ds e =
      let h : a ≡ c = cc in
      let t : ks ++ (x ∷ bs) ≡ cs ++ (y ∷ ds) = cc in
      elim (two_cuts ks x bs cs y ds t) [
        | inl p ↦ let q = p.0 in inl (cc, p.1, p.2)
        | inr o ↦ elim o [
          | inl w ↦ let q = w.front in inr (inl (record { mid = w.mid; front = cc; back = w.back }))
          | inr w ↦ let q = w.front in inr (inr (record { mid = w.mid; front = cc; back = w.back }))
        ]
      ]

  pub all_left : (P : A → Type 0) (xs ys : List A) → AllByRecursion P (xs ++ ys) → AllByRecursion P xs
  all_left P [] ys h = tt
  all_left P (x ∷ xs) ys h = (h.0, all_left P xs ys h.1)

  pub all_right : (P : A → Type 0) (xs ys : List A) → AllByRecursion P (xs ++ ys) → AllByRecursion P ys
  all_right P [] ys h = h
  all_right P (x ∷ xs) ys h = all_right P xs ys h.1

  pub all_at : (P : A → Type 0) (xs : List A) (y : A) (ys : List A) → AllByRecursion P (xs ++ (y ∷ ys)) → P y
  all_at P xs y ys h = (all_right P xs (y ∷ ys) h).0

  pub all_both : {P Q R : A → Type 0} → ((x : A) → P x → Q x → R x) → (xs : List A) → AllByRecursion P xs → AllByRecursion Q xs → AllByRecursion R xs
  all_both k [] p q = tt
  all_both k (x ∷ xs) p q = (k x p.0 q.0, all_both k xs p.1 q.1)

  -- ---- what a test keeps
  pub kept_none : (p : A → Bool) (xs : List A) → AllByRecursion (λ x. p x ≡ false) xs → filter p xs ≡ []
  kept_none p [] h = refl
  kept_none p (x ∷ xs) h = rw h.0 (kept_none p xs h.1)

  pub kept_all : (p : A → Bool) (xs : List A) → AllByRecursion (λ x. p x ≡ true) xs → filter p xs ≡ xs
  kept_all p [] h = refl
  kept_all p (x ∷ xs) h = rw h.0 (ap (λ (z : List A). x ∷ z) (kept_all p xs h.1))

  pub kept_kept : (p q : A → Bool) (xs : List A) → filter p (filter q xs) ≡ filter (λ x. q x && p x) xs
  kept_kept p q [] = refl
  kept_kept p q (x ∷ xs) =
      elim (q x) as (λ b. filter p (cond b (x ∷ filter q xs) (filter q xs)) ≡ cond (b && p x) (x ∷ filter (λ x. q x && p x) xs) (filter (λ x. q x && p x) xs))
      [ true ↦ ap (λ (z : List A). cond (p x) (x ∷ z) z) (kept_kept p q xs) | false ↦ kept_kept p q xs ]

  pub some_none : (p : A → Bool) (xs : List A) → AllByRecursion (λ x. p x ≡ false) xs → some p xs ≡ false
  some_none p [] h = refl
  some_none p (x ∷ xs) h = or_from (p x) (some p xs) h.0 (some_none p xs h.1)

  pub some_at : (p : A → Bool) (xs : List A) (y : A) (ys : List A) → p y ≡ true → some p (xs ++ (y ∷ ys)) ≡ true
  some_at p [] y ys h = or_left (p y) (some p ys) h
  some_at p (x ∷ xs) y ys h = or_right (p x) (some p (xs ++ (y ∷ ys))) (some_at p xs y ys h)

  pub last_push : (xs : List A) (y : A) → last_of (xs ++ (y ∷ [])) ≡ Some y
  last_push [] y = refl
  last_push (x ∷ []) y = refl
  last_push (x ∷ (z ∷ xs)) y = last_push (z ∷ xs) y

module _ (order : ℕ → ℕ → Ordering) where
  -- a word before those of all these entries, and after them
  abbrev pub Above : List ℕ → List Entry → Type 0
  Above w es = AllByRecursion (λ f. word_order order w f.word ≡ Less) es

  abbrev pub Below : List ℕ → List Entry → Type 0
  Below w es = AllByRecursion (λ f. word_order order f.word w ≡ Less) es

  -- ---- ordered lists: each word is before all that follow
  abbrev pub Rising : List Entry → Type 0
  Rising [] = Unit {0}
  Rising (e ∷ es) = Above e.word es × Rising es

  pub rising_right : (xs ys : List Entry) → Rising (xs ++ ys) → Rising ys
  rising_right [] ys h = h
  rising_right (x ∷ xs) ys h = rising_right xs ys h.1

  pub rising_left : (xs ys : List Entry) → Rising (xs ++ ys) → Rising xs
  rising_left [] ys h = tt
  rising_left (x ∷ xs) ys h = (all_left (λ f. word_order order x.word f.word ≡ Less) xs ys h.0, rising_left xs ys h.1)

  pub rising_before : (xs : List Entry) (y : Entry) (ys : List Entry) → Rising (xs ++ (y ∷ ys)) → Below y.word xs
  rising_before [] y ys h = tt
  rising_before (x ∷ xs) y ys h = (all_at (λ f. word_order order x.word f.word ≡ Less) xs y ys h.0, rising_before xs y ys h.1)

  pub rising_append : (xs ys : List Entry) → Rising xs → Rising ys → AllByRecursion (λ e. Above e.word ys) xs → Rising (xs ++ ys)
  rising_append [] ys p q h = q
  rising_append (x ∷ xs) ys p q h = (All-append (λ f. word_order order x.word f.word ≡ Less) xs ys p.0 h.0, rising_append xs ys p.1 q h.1)

  pub rising_kept : (p : Entry → Bool) (xs : List Entry) → Rising xs → Rising (filter p xs)
  rising_kept p [] h = tt
  rising_kept p (x ∷ xs) h =
      elim (p x) as (λ b. Rising (cond b (x ∷ filter p xs) (filter p xs)))
      [ true ↦ (all_kept_by p (λ f. word_order order x.word f.word ≡ Less) xs h.0, rising_kept p xs h.1) | false ↦ rising_kept p xs h.1 ]

module _ (order : ℕ → ℕ → Ordering) (law : Lawful order) where
  -- what comes before a word comes before all that are after it; and the other way round
  pub above_chains : (u v : List ℕ) (es : List Entry) → word_order order u v ≡ Less → Above order v es → Above order u es
  above_chains u v es h = All-weaker (λ f. word_order order v f.word ≡ Less) (λ f. word_order order u f.word ≡ Less) (λ f k. (words_lawful order law).chains u v f.word h k) es

  pub below_chains : (u v : List ℕ) (es : List Entry) → word_order order u v ≡ Less → Below order u es → Below order v es
  below_chains u v es h = All-weaker (λ f. word_order order f.word u ≡ Less) (λ f. word_order order f.word v ≡ Less) (λ f k. (words_lawful order law).chains f.word u v k h) es

  pub rising_of_ordered : (es : List Entry) → ordered order es ≡ true → Rising order es
  rising_of_ordered [] h = tt
  rising_of_ordered (e ∷ []) h = (tt, tt)
  rising_of_ordered (e ∷ (f ∷ es)) h =
      let q = and_parts (before order e.word f.word) (ordered order (f ∷ es)) h in
      let l = is_lt_less (word_order order e.word f.word) q.0 in
      let r = rising_of_ordered (f ∷ es) q.1 in
      ((l, above_chains e.word f.word es l r.0), r)

  pub ordered_of_rising : (es : List Entry) → Rising order es → ordered order es ≡ true
  ordered_of_rising [] h = refl
  ordered_of_rising (e ∷ []) h = refl
  ordered_of_rising (e ∷ (f ∷ es)) h =
      and_from (before order e.word f.word) (ordered order (f ∷ es)) (ap is_lt h.0.0) (ordered_of_rising (f ∷ es) h.1)

  -- ---- an entry put in, a word taken out: the list stays ordered
  pub ordered_with : (e : Entry) (es : List Entry) → ordered order es ≡ true → ordered order (with order e es) ≡ true
  ordered_with e es h =
      let r = rising_of_ordered es h in
      let p : Entry → Bool = λ f. before order f.word e.word in
      let q : Entry → Bool = λ f. before order e.word f.word in
      let high : Above order e.word (filter q es) =
      All-weaker (λ f. q f ≡ true) (λ f. word_order order e.word f.word ≡ Less) (λ f k. is_lt_less (word_order order e.word f.word) k) (filter q es) (kept_by_passes q es) in
      ordered_of_rising (with order e es)
      (rising_append order (filter p es) (e ∷ filter q es) (rising_kept order p es r) (high, rising_kept order q es r)
      (All-weaker (λ f. p f ≡ true) (λ f. Above order f.word (e ∷ filter q es))
      (λ f k. let l = is_lt_less (word_order order f.word e.word) k in (l, above_chains f.word e.word (filter q es) l high))
      (filter p es) (kept_by_passes p es)))

  pub ordered_without : (w : List ℕ) (es : List Entry) → ordered order es ≡ true → ordered order (without order w es) ≡ true
  ordered_without w es h = ordered_of_rising (without order w es) (rising_kept order (λ f. not (is_word order w f)) es (rising_of_ordered es h))
