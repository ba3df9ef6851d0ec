-- The walk to where a place goes into the tree: what is made of the tree below a hook is made of the whole.
use Rattle.std.proofs.Common.{◌≡◌, ℕ, ◌+◌, ◌*◌, ◌<◌, ◌≤◌, max, true, false, cond, ltb, ◌⊎◌, List, length, Some, None, Option, Ordering, sym, refl, ap, ◌∙◌, subst, inl, inr, zero-le, arith}
use Rattle.std.specs.Ordering.{is_gt}
use Rattle.std.proofs.lemmas.Bool.{cond-true, cond-false}
use Rattle.words.specs.declared.comparison.Comparison.{Comparison}
use Rattle.rules.specs.Entries.{Entry}
use Rattle.rules.specs.Walks.{step_at}
use Rattle.rules.specs.Inserts.{is_above}
use Rattle.slots.specs.declared.slot.Slot.{Slot}
use Rattle.slots.specs.declared.slot.Side.{Side}
use Rattle.slots.specs.declared.slot.Side.TheVariants.{Left, Right}
use Rattle.slots.specs.declared.search.Shares.{Shares}
use Rattle.store.specs.declared.writes.Hook.{Hook}
use Rattle.store.specs.Tables.{slot_at, Rooted, leaf, node, size, In, Apart, Stands, rooted}
use Rattle.store.specs.Lookups.{compared_at}
use Rattle.store.specs.Unzips.{child_on, hung, noted, Same, On, Split, FreeOf, Unzipped, Grown, HookIn, seated, seated_top, lesser_at, greater_at, inserted_at}
use Rattle.store.proofs.Tables.{in_strip, read_whole}
use Rattle.store.proofs.Bounds.{compared_within}
use Rattle.store.proofs.Frames.{No, left_not_right, hung_child, hung_same, noted_length, noted_same, then, wider, room, moved}
use Rattle.store.proofs.Sides.{mk, opens, parts, in_top, in_back, in_ahead, not_other, regrown, span, span_falls}
use Rattle.store.proofs.Parting.{Short}
use Rattle.store.proofs.Places.{in_lesser, in_greater}

-- as Grown, where the new tree hangs on a hook
pub record Hooked (capacity : ℕ) (T : List Slot) (x : ℕ) (a : Hook) (t b : Rooted) (T' : List Slot) : Type 0 where
  pub stands : Stands T' capacity (child_on a.side (slot_at T' a.place)) b
  pub same : Same T (λ q d. In q t ⊎ ((q ≡ x) ⊎ On a.place a.side q d)) (λ q d. In q t ⊎ (q ≡ x)) T'

-- what becomes of the tree ahead of q becomes of the tree with the top q
module _ (capacity : ℕ) (T : List Slot) (q x : ℕ) (d : Side) (u : Rooted) (k j : ℕ) (v b : Rooted) (T' : List Slot) (S : Stands T capacity q (mk d u q k j v)) (A : Apart (mk d u q k j v)) (out : In x (mk d u q k j v) → ⊥) where
  under : Hooked capacity T x (record { place = q; side = d }) v b T' → Grown capacity T x (mk d u q k j v) (mk d u q k j b) q T'
  under G =
      let a = parts d u q k j v A in
      let ne : q ≡ x → ⊥ = λ (e : q ≡ x). out (in_top d u q k j v x (sym e)) in
      record {
        stands = regrown T T' (λ y e. In y v ⊎ ((y ≡ x) ⊎ On q d y e)) (λ y e. In y v ⊎ (y ≡ x)) capacity q d u q k j j v b S G.same
            (elim [ inl i ↦ a.ahead i | inr o ↦ elim o [ inl e ↦ ne e | inr f ↦ not_other d f.1 ] ])
            (elim [ inl i ↦ a.ahead i | inr e ↦ ne e ])
            (λ y e i. elim [ inl o ↦ a.both y i o | inr o ↦ elim o [ inl f ↦ out (in_back d u q k j v x (subst (λ (z : ℕ). In z u) f i)) | inr f ↦ a.back (subst (λ (z : ℕ). In z u) f.0 i) ] ])
            (λ y e i. elim [ inl o ↦ a.both y i o | inr f ↦ out (in_back d u q k j v x (subst (λ (z : ℕ). In z u) f i)) ])
            ((opens T capacity q d u q k j v S).further ∙ sym (G.same.lengths q d (elim [ inl i ↦ a.ahead i | inr e ↦ ne e ])))
            G.stands;
        same = wider (λ y e. In y (mk d u q k j v) ⊎ (y ≡ x)) (λ y e. In y (mk d u q k j v) ⊎ (y ≡ x)) G.same
            (λ y e. elim [ inl i ↦ inl (in_ahead d u q k j v y i) | inr o ↦ elim o [ inl f ↦ inr f | inr f ↦ inl (in_top d u q k j v y f.0) ] ])
            (λ y e. elim [ inl i ↦ inl (in_ahead d u q k j v y i) | inr f ↦ inr f ]);
      }

-- Where the walk stands: at the top, or below a hook. Once the tree t there has become b, the whole meets F, given its top and the table.
abbrev pub Sited : ℕ → (ℕ → List Slot → Type 0) → ℕ → List Slot → ℕ → Option Hook → ℕ → Rooted → Rooted → Type 0
Sited capacity F top T x None q t b = (q ≡ top) × ((y : ℕ) (T' : List Slot) → Grown capacity T x t b y T' → F y T')
Sited capacity F top T x (Some a) q t b =
    (child_on a.side (slot_at T a.place) ≡ q) × (a.place < length T) × (In a.place t → ⊥) × (a.place ≡ x → ⊥)
    × ((T' : List Slot) → Hooked capacity T x a t b T' → F top T')

module _ (capacity : ℕ) (F : ℕ → List Slot → Type 0) (top : ℕ) (T : List Slot) (x : ℕ) where
  -- either way, it does where the top stays in its place
  lift : (above : Option Hook) (q : ℕ) (t b : Rooted) → Sited capacity F top T x above q t b → (T' : List Slot) → Grown capacity T x t b q T' → F top T'
  lift None q t b h T' G = h.1 top T' (subst (λ (z : ℕ). Grown capacity T x t b z T') h.0 G)
  lift (Some a) q t b h T' G = h.4 T' (record {
    stands = subst (λ (z : ℕ). Stands T' capacity z b) (sym (G.same.children a.place a.side (elim [ inl i ↦ h.2 i | inr e ↦ h.3 e ]) ∙ h.0)) G.stands;
    same = wider (λ y d. In y t ⊎ ((y ≡ x) ⊎ On a.place a.side y d)) (λ y d. In y t ⊎ (y ≡ x)) G.same
        (λ y d. elim [ inl i ↦ inl i | inr e ↦ inr (inl e) ]) (λ y d i. i);
  })

  -- one step down: what becomes of the tree ahead becomes of the tree here
  pub sited_step : (above : Option Hook) (q : ℕ) (d : Side) (u : Rooted) (k j : ℕ) (v b : Rooted) → capacity ≤ length T
      → Stands T capacity q (mk d u q k j v) → Apart (mk d u q k j v) → (In x (mk d u q k j v) → ⊥)
      → Sited capacity F top T x above q (mk d u q k j v) (mk d u q k j b) → Sited capacity F top T x (Some (record { place = q; side = d })) (child_on d (slot_at T q)) v b
  sited_step above q d u k j v b wide S A out h =
      let o = opens T capacity q d u q k j v S in (
        refl,
        omega (arith, o.held, wide),
        (parts d u q k j v A).ahead,
        (λ e. out (in_top d u q k j v x (sym e))),
        λ T' G. lift above q (mk d u q k j v) (mk d u q k j b) h T' (under capacity T q x d u k j v b T' S A out G),
      )

  -- the end: the new tree b with the top y is hung on the hook
  pub ends_hook : (a : Hook) (q : ℕ) (t b : Rooted) (y : ℕ) (T₁ T₂ : List Slot) → ((z : ℕ) → In z b → In z t ⊎ (z ≡ x)) → Grown capacity T x t b y T₁
      → T₂ ≡ hung T₁ a.place a.side y → Sited capacity F top T x (Some a) q t b → F top T₂
  ends_hook a q t b y T₁ T₂ of G e S =
      let H = hung_same T₁ a.place a.side y (room G.same S.1) in
      subst (F top) (sym e) (S.4 (hung T₁ a.place a.side y) (record {
        stands = subst (λ (z : ℕ). Stands (hung T₁ a.place a.side y) capacity z b) (sym (hung_child T₁ a.place a.side y (room G.same S.1)))
            (moved capacity y b H (λ z d i h. elim (of a.place (subst (λ (z : ℕ). In z b) h.0 i)) [ inl o ↦ S.2 o | inr o ↦ S.3 o ]) (λ z d i h. h) G.stands);
        same = then (λ z d. In z t ⊎ ((z ≡ x) ⊎ On a.place a.side z d)) (λ z d. In z t ⊎ (z ≡ x)) G.same H
            (λ z d. elim [ inl i ↦ inl i | inr g ↦ inr (inl g) ]) (λ z d i. i) (λ z d g. inr (inr g)) (λ z d g. absurd g);
      }))

-- the seat: the two parts of t on the sides of x, and x's two lengths noted
pub seat : (order : ℕ → ℕ → Ordering) (entry : ℕ → Entry) (capacity : ℕ) (w : List ℕ) (T : List Slot) (x kb ka : ℕ) (t : Rooted) (T₁ T₂ T₃ : List Slot) → x < capacity → capacity ≤ length T → (In x t → ⊥)
    → Split capacity T x Left x Right t (lesser_at order entry w kb ka t) (greater_at order entry w kb ka t) T₁ → T₂ ≡ noted T₁ x Left kb → T₃ ≡ noted T₂ x Right ka
    → Grown capacity T x t (node (lesser_at order entry w kb ka t) x kb ka (greater_at order entry w kb ka t)) x T₃
seat order entry capacity w T x kb ka t T₁ T₂ T₃ held wide out S e f =
    subst (Grown capacity T x t (node (lesser_at order entry w kb ka t) x kb ka (greater_at order entry w kb ka t)) x) (sym (f ∙ ap (λ (z : List Slot). noted z x Right ka) e)) (record {
      stands = (
        refl,
        held,
        sym (M.lengths x Left (λ h. left_not_right h.1) ∙ noted_length T₁ x Left kb at₁),
        sym (noted_length (noted T₁ x Left kb) x Right ka (room N at₁)),
        subst (λ (z : ℕ). Stands (noted (noted T₁ x Left kb) x Right ka) capacity z (lesser_at order entry w kb ka t)) (sym (both.children x Left (λ h. h))) (moved capacity (slot_at T₁ x).left (lesser_at order entry w kb ka t) both (λ y d i h. h) (λ y d i h. out (in_lesser order entry w kb ka x t (subst (λ (z : ℕ). In z (lesser_at order entry w kb ka t)) h i))) S.first),
        subst (λ (z : ℕ). Stands (noted (noted T₁ x Left kb) x Right ka) capacity z (greater_at order entry w kb ka t)) (sym (both.children x Right (λ h. h))) (moved capacity (slot_at T₁ x).right (greater_at order entry w kb ka t) both (λ y d i h. h) (λ y d i h. out (in_greater order entry w kb ka x t (subst (λ (z : ℕ). In z (greater_at order entry w kb ka t)) h i))) S.second),
      );
      same = then (λ y d. In y t ⊎ (y ≡ x)) (λ y d. In y t ⊎ (y ≡ x)) S.same both
          (λ y d. elim [ inl i ↦ inl i | inr o ↦ inr (elim o [ inl h ↦ h.0 | inr h ↦ h.0 ]) ]) (λ y d i. inl i) (λ y d h. absurd h) (λ y d h. inr h);
    })
  where
    at₁ : x < length T₁
    at₁ = room S.same (omega (arith, held, wide))

    N : Same T₁ No (On x Left) (noted T₁ x Left kb)
    N = noted_same T₁ x Left kb at₁

    M : Same (noted T₁ x Left kb) No (On x Right) (noted (noted T₁ x Left kb) x Right ka)
    M = noted_same (noted T₁ x Left kb) x Right ka (room N at₁)

    both : Same T₁ No (λ y d. y ≡ x) (noted (noted T₁ x Left kb) x Right ka)
    both = then No (λ y d. y ≡ x) N M (λ y d h. h) (λ y d h. h.0) (λ y d h. h) (λ y d h. h.0)

-- ---- the walk down, by the words and lengths of the table, to where x goes

-- the tree t below the place q, in which x is not, and what is left to do there
pub record Below (order : ℕ → ℕ → Ordering) (entry : ℕ → Entry) (ceiling capacity x : ℕ) (F : ℕ → List Slot → Type 0) (top : ℕ) (T : List Slot) (above : Option Hook) (q : ℕ) (k : Shares) (t : Rooted) : Type 0 where
  pub stands : Stands T capacity q t
  pub apart : Apart t
  pub fits : size t ≤ capacity
  pub free : In x t → ⊥
  pub words : Short ceiling T t
  pub sited : Sited capacity F top T x above q t (inserted_at order entry x k.before k.after t)

-- what the walk keeps
pub record Descending (order : ℕ → ℕ → Ordering) (entry : ℕ → Entry) (ceiling capacity x : ℕ) (F : ℕ → List Slot → Type 0) (top : ℕ) (T : List Slot) (above : Option Hook) (q : ℕ) (k : Shares) : Type 0 where
  pub tree : Rooted
  pub below : Below order entry ceiling capacity x F top T above q k tree
  pub wide : capacity ≤ length T
  pub before : k.before ≤ length (entry x).word
  pub after : k.after ≤ length (entry x).word

module _ {order : ℕ → ℕ → Ordering} {entry : ℕ → Entry} {ceiling capacity x : ℕ} {F : ℕ → List Slot → Type 0} {top : ℕ} {T : List Slot} {above : Option Hook} {q : ℕ} {k : Shares}
    (D : Descending order entry ceiling capacity x F top T above q k) where
  abbrev m : ℕ
  m = (slot_at T q).left_length

  abbrev n : ℕ
  n = (slot_at T q).right_length

  abbrev step : Comparison
  step = compared_at order (entry x).word entry T q k

  abbrev Here : Rooted → Type 0
  Here = Below order entry ceiling capacity x F top T above q k

  -- below the capacity there is an entry, with the lengths of the table
  on_entry : (R : Type 0) → q < capacity → ((l r : Rooted) → Here (node l q m n r) → R) → R
  on_entry R held f = at D.tree D.below
    where
      at : (t : Rooted) → Here t → R
      at leaf H = absurd (omega (arith, H.stands, held))
      at (node l p m' n' r) H =
          let e = H.stands.0 in
          let e' = H.stands.2 in
          let e'' = H.stands.3 in
          f l r (subst Here (λ i. node l (e i) (e' i) (e'' i) r) H)

  pub in_memory : q < capacity → (symbols : ℕ) → capacity * ceiling ≤ symbols → (q < length T) × (q * ceiling + (slot_at T q).length ≤ symbols)
  in_memory held symbols room =
      (omega (arith, held, D.wide), in_strip q capacity ceiling (slot_at T q).length symbols held (on_entry ((slot_at T q).length ≤ ceiling) held (λ l r H. H.words q (inl refl))) room)

  share_within : step.share ≤ length (entry x).word
  share_within =
      let e = D.before in
      let f = D.after in
      (compared_within order (entry x).word (entry q).word (ltb k.after k.before) (max k.before k.after) (cond (ltb k.after k.before) m n) (length (entry x).word) (omega arith) (omega arith)).share

  abbrev pub Down : Hook → ℕ → Shares → Type 0
  Down hook next k' = Descending order entry ceiling capacity x F top T (Some hook) next k' × (span T capacity next < span T capacity q)

  down_right : q < capacity → is_above order (entry q) (entry x) step ≡ true → is_gt step.answer ≡ true
      → Down (record { place = q; side = Right }) (slot_at T q).right (record { before = step.share; after = k.after })
  down_right held stays g = on_entry _ held (λ l r H.
      let grows : inserted_at order entry x k.before k.after (node l q m n r) ≡ node l q m n (inserted_at order entry x step.share k.after r) =
      cond-true (is_above order (entry q) (entry x) step) _ _ stays ∙ cond-true (is_gt step.answer) _ _ g in (
        record {
          tree = r;
          below = record {
            stands = H.stands.5;
            apart = H.apart.4;
            fits = (let h = H.fits in omega arith);
            free = λ i. H.free (inr (inr i));
            words = λ p i. H.words p (inr (inr i));
            sited = sited_step capacity F top T x above q Right l m n r (inserted_at order entry x step.share k.after r) D.wide H.stands H.apart H.free
                (subst (Sited capacity F top T x above q (node l q m n r)) grows H.sited);
          };
          wide = D.wide;
          before = share_within;
          after = D.after;
        },
        span_falls T T capacity q (slot_at T q).right Right l q m n r H.stands H.fits H.stands.5,
      ))

  down_left : q < capacity → is_above order (entry q) (entry x) step ≡ true → is_gt step.answer ≡ false
      → Down (record { place = q; side = Left }) (slot_at T q).left (record { before = k.before; after = step.share })
  down_left held stays g = on_entry _ held (λ l r H.
      let grows : inserted_at order entry x k.before k.after (node l q m n r) ≡ node (inserted_at order entry x k.before step.share l) q m n r =
      cond-true (is_above order (entry q) (entry x) step) _ _ stays ∙ cond-false (is_gt step.answer) _ _ g in (
        record {
          tree = l;
          below = record {
            stands = H.stands.4;
            apart = H.apart.3;
            fits = (let h = H.fits in omega arith);
            free = λ i. H.free (inr (inl i));
            words = λ p i. H.words p (inr (inl i));
            sited = sited_step capacity F top T x above q Left r n m l (inserted_at order entry x k.before step.share l) D.wide H.stands H.apart H.free
                (subst (Sited capacity F top T x above q (node l q m n r)) grows H.sited);
          };
          wide = D.wide;
          before = D.before;
          after = share_within;
        },
        span_falls T T capacity q (slot_at T q).left Left r q n m l H.stands H.fits H.stands.4,
      ))

  -- where the walk stops, x takes the place of what it outranks
  abbrev pub Stops : Type 0
  Stops = (capacity ≤ q) ⊎ (is_above order (entry q) (entry x) step ≡ false)

  stops : (t : Rooted) → Stands T capacity q t → Stops
      → inserted_at order entry x k.before k.after t ≡ node (lesser_at order entry (entry x).word k.before k.after t) x k.before k.after (greater_at order entry (entry x).word k.before k.after t)
  stops leaf s h = refl
  stops (node l p m' n' r) s (inl h) = absurd (omega (arith, h, s.1))
  stops (node l p m' n' r) s (inr h) =
      let e = s.0 in
      let e' = s.2 in
      let e'' = s.3 in
      cond-false (is_above order (entry p) (entry x) (step_at order (entry x).word k.before k.after (entry p) m' n')) _ _
      ((λ i. is_above order (entry (e i)) (entry x) (step_at order (entry x).word k.before k.after (entry (e i)) (e' i) (e'' i))) ∙ h)

  -- the tree here is what is read from the table
  read : rooted T capacity q ≡ D.tree
  read = read_whole T capacity capacity q D.tree D.below.stands D.below.fits

  whole : Here (rooted T capacity q)
  whole = subst Here (sym read) D.below

  abbrev parted : Rooted
  parted =
      node (lesser_at order entry (entry x).word k.before k.after (rooted T capacity q)) x k.before k.after (greater_at order entry (entry x).word k.before k.after (rooted T capacity q))

  pub free_here : (symbols : ℕ) → capacity ≤ 16383 → capacity * ceiling ≤ symbols → x < length T → FreeOf T symbols ceiling capacity x (rooted T capacity q) q
  free_here symbols few strip at = record {
    few = few;
    room = D.wide;
    strip = strip;
    stands = whole.stands;
    apart = whole.apart;
    fits = whole.fits;
    words = whole.words;
    at = at;
    free = whole.free;
  }

  sits : Stops → Sited capacity F top T x above q (rooted T capacity q) parted
  sits h = subst (Sited capacity F top T x above q (rooted T capacity q)) (stops (rooted T capacity q) whole.stands h) whole.sited

  module _ (T₁ T₂ T₃ : List Slot) (held : x < capacity) (h : Stops)
      (S : Unzipped order entry capacity (entry x).word k.before k.after x (rooted T capacity q) T T₁) (e : T₂ ≡ noted T₁ x Left k.before) (f : T₃ ≡ noted T₂ x Right k.after) where
    grown : Grown capacity T x (rooted T capacity q) parted x T₃
    grown = seat order entry capacity (entry x).word T x k.before k.after (rooted T capacity q) T₁ T₂ T₃ held D.wide whole.free S e f

    pub ends : (y : ℕ) (T₄ : List Slot) → y ≡ seated_top above x top → T₄ ≡ seated T₃ above x → F y T₄
    ends y T₄ g i = subst (λ (z : ℕ). F z T₄) (sym g) (subst (F (seated_top above x top)) (sym i) (at above (sits h)))
      where
        among : (z : ℕ) → In z parted → In z (rooted T capacity q) ⊎ (z ≡ x)
        among z = elim [
          | inl j ↦ inr j
          | inr o ↦ inl (elim o
              [ inl j ↦ in_lesser order entry (entry x).word k.before k.after z (rooted T capacity q) j | inr j ↦ in_greater order entry (entry x).word k.before k.after z (rooted T capacity q) j ])
        ]

        at : (a : Option Hook) → Sited capacity F top T x a q (rooted T capacity q) parted → F (seated_top a x top) (seated T₃ a x)
        at None s = s.1 x T₃ grown
        at (Some a) s = ends_hook capacity F top T x a q (rooted T capacity q) parted x T₃ (seated T₃ (Some a) x) among grown refl s

  pub hook_in : HookIn (length T) above
  hook_in = at above whole.sited
    where
      at : (a : Option Hook) → Sited capacity F top T x a q (rooted T capacity q) (inserted_at order entry x k.before k.after (rooted T capacity q)) → HookIn (length T) a
      at None s = tt
      at (Some a) s = s.1

  -- one step, as the loop takes it: the comparison y, the new hook, the shares and the place below
  module _ (held : q < capacity) (y : Comparison) (e : y ≡ step) (stays : is_above order (entry q) (entry x) y ≡ true) (hook : Hook) (k' : Shares) (next : ℕ) (f : next ≡ child_on hook.side (slot_at T hook.place)) where
    goes_down : (hook₀ : Hook) (next₀ : ℕ) (k₀ : Shares) → hook ≡ hook₀ → k' ≡ k₀ → next₀ ≡ child_on hook₀.side (slot_at T hook₀.place) → Down hook₀ next₀ k₀ → Down hook next k'
    goes_down hook₀ next₀ k₀ g i j d =
        let same : next ≡ next₀ = f ∙ ap (λ (a : Hook). child_on a.side (slot_at T a.place)) g ∙ sym j in
        subst (λ (a : Hook). Down a next k') (sym g) (subst (λ (z : ℕ). Down hook₀ z k') (sym same) (subst (Down hook₀ next₀) (sym i) d))

    abbrev stays_here : is_above order (entry q) (entry x) step ≡ true
    stays_here = subst (λ (z : Comparison). is_above order (entry q) (entry x) z ≡ true) e stays

    pub goes_right : is_gt y.answer ≡ true → hook ≡ record { place = q; side = Right } → k' ≡ record { before = y.share; after = k.after } → Down hook next k'
    goes_right g i j =
        goes_down (record { place = q; side = Right }) (slot_at T q).right (record { before = step.share; after = k.after }) i (j ∙ ap (λ (z : Comparison). record { before = z.share; after = k.after }) e) refl
        (down_right held stays_here (subst (λ (z : Comparison). is_gt z.answer ≡ true) e g))

    pub goes_left : is_gt y.answer ≡ false → hook ≡ record { place = q; side = Left } → k' ≡ record { before = k.before; after = y.share } → Down hook next k'
    goes_left g i j =
        goes_down (record { place = q; side = Left }) (slot_at T q).left (record { before = k.before; after = step.share }) i (j ∙ ap (λ (z : Comparison). record { before = k.before; after = z.share }) e) refl
        (down_left held stays_here (subst (λ (z : Comparison). is_gt z.answer ≡ false) e g))

-- the start, at the top
pub begin : (order : ℕ → ℕ → Ordering) (entry : ℕ → Entry) (symbols ceiling capacity x top : ℕ) (T : List Slot) → FreeOf T symbols ceiling capacity x (rooted T capacity top) top
    → Descending order entry ceiling capacity x (Grown capacity T x (rooted T capacity top) (inserted_at order entry x 0 0 (rooted T capacity top))) top T None top (record { before = 0; after = 0 })
begin order entry symbols ceiling capacity x top T f = record {
  tree = rooted T capacity top;
  below = record { stands = f.stands; apart = f.apart; fits = f.fits; free = f.free; words = f.words; sited = (refl, λ y T' G. G) };
  wide = f.room;
  before = zero-le;
  after = zero-le;
}
