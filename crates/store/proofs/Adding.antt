-- An entry written to the first free place and put into the tree: the memory is filled by one more, and its tree is the tree with that entry.
use Rattle.std.proofs.Common.{◌≡◌, ℕ, suc, ◌+◌, ◌*◌, ◌<◌, ◌≤◌, List, map, length, take, drop, set, Ordering, sym, refl, ap, ◌∙◌, subst, inl, inr, arith, length-set, get_or-set_other, get_or-set_same}
use Rattle.limits.specs.declared.bounds.Limits.{Limits}
use Rattle.rules.specs.Entries.{Entry}
use Rattle.rules.specs.Trees.{Tree, top}
use Rattle.rules.specs.Inserts.{inserted_by}
use Rattle.slots.specs.declared.slot.Slot.{Slot}
use Rattle.slots.specs.Slots.{blank, unlinked}
use Rattle.store.specs.Tables.{slot_at, Rooted, leaf, node, size, In, Stands, rooted, plain, entry_at, overwritten}
use Rattle.store.specs.declared.memory.Memory.{Memory}
use Rattle.store.specs.Stores.{Filled, FilledBy, HasRoom}
use Rattle.store.specs.Unzips.{FreeOf, Grown, inserted_at}
use Rattle.store.proofs.Tables.{in_strip, read_whole, sound_of}
use Rattle.store.proofs.Strips.{length_overwritten, read_before, read_here}
use Rattle.store.proofs.Places.{in_inserted, apart_inserted, size_inserted, plain_inserted}

-- a tree stands where none of its slots was written
stands_as : (T T₁ : List Slot) (capacity q : ℕ) (t : Rooted) → ((p : ℕ) → In p t → slot_at T₁ p ≡ slot_at T p) → Stands T capacity q t → Stands T₁ capacity q t
stands_as T T₁ capacity q leaf h s = s
stands_as T T₁ capacity q (node l p m n r) h s =
    let e : slot_at T q ≡ slot_at T₁ q = sym (h q (inl (sym s.0))) in (
      s.0,
      s.1,
      s.2 ∙ ap (λ (z : Slot). z.left_length) e,
      s.3 ∙ ap (λ (z : Slot). z.right_length) e,
      subst (λ (z : Slot). Stands T₁ capacity z.left l) e (stands_as T T₁ capacity (slot_at T q).left l (λ p i. h p (inr (inl i))) s.4),
      subst (λ (z : Slot). Stands T₁ capacity z.right r) e (stands_as T T₁ capacity (slot_at T q).right r (λ p i. h p (inr (inr i))) s.5),
    )

-- the entries of a tree are as they were where none of them was written
plain_as : (E E₁ : ℕ → Entry) (t : Rooted) → ((p : ℕ) → In p t → E₁ p ≡ E p) → plain E₁ t ≡ plain E t
plain_as E E₁ leaf h = refl
plain_as E E₁ (node l p m n r) h =
    let a = plain_as E E₁ l (λ q i. h q (inr (inl i))) in
    let b = plain_as E E₁ r (λ q i. h q (inr (inr i))) in
    let c = h p (inl refl) in
    λ i. top (a i) (c i) m n (b i)

module _ (order : ℕ → ℕ → Ordering) {S : Type 0} (symbol : S → ℕ) (T : List Slot) (s : List S) (limits : Limits) (origin count : ℕ) (F : Filled T (length s) limits origin count)
    (room : count < limits.capacity) (word : List S) (short : length word ≤ limits.ceiling) (slot : Slot) (long : slot.length ≡ length word) where
  abbrev ceiling : ℕ
  ceiling = limits.ceiling

  abbrev capacity : ℕ
  capacity = limits.capacity

  abbrev T₁ : List Slot
  T₁ = set T count slot

  abbrev s₁ : List S
  s₁ = overwritten (count * ceiling) word s

  abbrev t : Rooted
  t = rooted T capacity origin

  abbrev E : ℕ → Entry
  E = entry_at symbol T s ceiling

  abbrev E₁ : ℕ → Entry
  E₁ = entry_at symbol T₁ s₁ ceiling

  in_room : count * ceiling + length word ≤ length s
  in_room = in_strip count capacity ceiling (length word) (length s) room short F.sound.strip

  below : count < length T
  below = omega (arith, room, F.sound.room)

  other : (p : ℕ) → In p t → slot_at T₁ p ≡ slot_at T p
  other p i = get_or-set_other T count p slot blank (λ e. omega (arith, e, F.first p i))

  here : slot_at T₁ count ≡ slot
  here = get_or-set_same T count slot blank below

  stands : Stands T₁ capacity origin t
  stands = stands_as T T₁ capacity origin t other F.sound.stands

  read : rooted T₁ capacity origin ≡ t
  read = read_whole T₁ capacity capacity origin t stands F.sound.fits

  absent : In count t → ⊥
  absent i = omega (arith, F.first count i)

  long_as : length s₁ ≡ length s
  long_as = length_overwritten (count * ceiling) word s in_room

  short_as : (p : ℕ) → In p t → (slot_at T₁ p).length ≤ ceiling
  short_as p i = subst (λ (z : Slot). z.length ≤ ceiling) (sym (other p i)) (F.sound.words p i)

  free_of : FreeOf T₁ (length s₁) ceiling capacity count (rooted T₁ capacity origin) origin
  free_of = subst (λ (z : Rooted). FreeOf T₁ (length s₁) ceiling capacity count z origin) (sym read) (record {
    few = F.sound.few;
    room = (let l = length-set T count slot in let r = F.sound.room in omega arith);
    strip = (let r = F.sound.strip in let l = long_as in omega arith);
    stands = stands;
    apart = F.sound.once;
    fits = F.sound.fits;
    words = short_as;
    at = (let l = length-set T count slot in let b = below in omega arith);
    free = absent;
  })

  -- the entries of the tree are as they were, and the new one is at its place
  same_entry : (p : ℕ) → In p t → E₁ p ≡ E p
  same_entry p i =
      let a : take (slot_at T p).length (drop (p * ceiling) s₁) ≡ take (slot_at T p).length (drop (p * ceiling) s) =
      read_before (p * ceiling) (slot_at T p).length (count * ceiling) word s (in_strip p count ceiling (slot_at T p).length (count * ceiling) (F.first p i) (F.sound.words p i) (omega arith)) (let r = in_room in omega arith) in
      let e = other p i in
      (λ j. record { word = map symbol (take (e j).length (drop (p * ceiling) s₁)); weight = (e j).weight; tag = (e j).tag })
      ∙ (λ j. record { word = map symbol (a j); weight = (slot_at T p).weight; tag = (slot_at T p).tag })

  new_word : map symbol word ≡ (E₁ count).word
  new_word =
      sym (ap (map symbol) (read_here (count * ceiling) word s (let r = in_room in omega arith)))
      ∙ ap (λ (n : ℕ). map symbol (take n (drop (count * ceiling) s₁))) (sym (ap (λ (z : Slot). z.length) here ∙ long))

  new_entry : E₁ count ≡ record { word = map symbol word; weight = slot.weight; tag = slot.tag }
  new_entry =
      let w = sym new_word in
      let e = here in
      λ j. record { word = w j; weight = (e j).weight; tag = (e j).tag }

  module _ (y : ℕ) (T₂ : List Slot) (G : Grown capacity T₁ count (rooted T₁ capacity origin) (inserted_at order E₁ count 0 0 (rooted T₁ capacity origin)) y T₂) where
    grown : Grown capacity T₁ count t (inserted_at order E₁ count 0 0 t) y T₂
    grown = subst (λ (z : Rooted). Grown capacity T₁ count z (inserted_at order E₁ count 0 0 z) y T₂) read G

    fits : size (inserted_at order E₁ count 0 0 t) ≤ capacity
    fits = let e = size_inserted order E₁ count 0 0 t in let c = F.counted in omega arith

    reads : rooted T₂ capacity y ≡ inserted_at order E₁ count 0 0 t
    reads = read_whole T₂ capacity capacity y (inserted_at order E₁ count 0 0 t) grown.stands fits

    -- a place of the new tree is one of the old tree or the new place
    by_place : (p : ℕ) → In p (inserted_at order E₁ count 0 0 t) → (P : ℕ → Type 0) → (In p t → P p) → P count → P p
    by_place p i P old new = elim (in_inserted order E₁ count 0 0 p t i) [ inl j ↦ old j | inr e ↦ subst P (sym e) new ]

    filled : Filled T₂ (length s₁) limits y (suc count)
    filled =
        let words : (p : ℕ) → In p (inserted_at order E₁ count 0 0 t) → (slot_at T₂ p).length ≤ ceiling = λ (p : ℕ) i.
        subst (λ (n : ℕ). n ≤ ceiling) (sym (grown.same.word p)) (by_place p i (λ q. (slot_at T₁ q).length ≤ ceiling) (short_as p) (subst (λ (n : ℕ). n ≤ ceiling) (sym (ap (λ (z : Slot). z.length) here ∙ long)) short)) in
        record {
          sound = sound_of T₂ capacity (length s₁) ceiling y (inserted_at order E₁ count 0 0 t) F.sound.few F.sound.long F.sound.short
              (let l = length-set T count slot in let r = F.sound.room in let m = grown.same.size in omega arith)
              (let r = F.sound.strip in let l = long_as in omega arith)
              grown.stands (apart_inserted order E₁ count 0 0 t F.sound.once absent) fits words;
          counted = ap size reads ∙ size_inserted order E₁ count 0 0 t ∙ ap suc F.counted;
          first = λ p i. by_place p (subst (In p) reads i) (λ q. q < suc count) (λ j. let b = F.first p j in omega arith) (omega arith);
        }

    same_after : (p : ℕ) → entry_at symbol T₂ s₁ ceiling p ≡ E₁ p
    same_after p =
        let a = grown.same.word p in
        let b = grown.same.weight p in
        let c = grown.same.tag p in
        λ j. record { word = map symbol (take (a j) (drop (p * ceiling) s₁)); weight = b j; tag = c j }

    tree_is : plain (entry_at symbol T₂ s₁ ceiling) (rooted T₂ capacity y) ≡ inserted_by order (record { word = map symbol word; weight = slot.weight; tag = slot.tag }) 0 0 (plain E t)
    tree_is =
        ap (plain (entry_at symbol T₂ s₁ ceiling)) reads
        ∙ plain_as E₁ (entry_at symbol T₂ s₁ ceiling) (inserted_at order E₁ count 0 0 t) (λ p i. same_after p)
        ∙ plain_inserted order E₁ count 0 0 t
        ∙ ap (λ (z : Tree). inserted_by order (E₁ count) 0 0 z) (plain_as E E₁ t same_entry)
        ∙ ap (λ (z : Entry). inserted_by order z 0 0 (plain E t)) new_entry

-- the word has room in the strip
pub word_room : {S : Type 0} (m : Memory S) (word : List S) → HasRoom word m → m.count * m.limits.ceiling + length word ≤ length m.strip.now
word_room m word H = in_strip m.count m.limits.capacity m.limits.ceiling (length word) (length m.strip.now) H.room H.short H.filled.sound.strip

-- the same of memory: an entry is written to the first free place of m and put into the tree, which gives m'
module _ (order : ℕ → ℕ → Ordering) {S : Type 0} (symbol : S → ℕ) (m : Memory S) (word : List S) (H : HasRoom word m) (weight tag : ℕ) (slot : Slot) (is : slot ≡ unlinked (length word) weight tag) where
  abbrev place : ℕ
  place = m.count

  abbrev table₁ : List Slot
  table₁ = set m.table.now place slot

  abbrev places₁ : Rooted
  places₁ = rooted table₁ m.limits.capacity m.top

  long : slot.length ≡ length word
  long = ap (λ (z : Slot). z.length) is

  module _ (strip : List S) (written : strip ≡ overwritten (place * m.limits.ceiling) word m.strip.now) where
    pub attach_free : FreeOf table₁ (length strip) m.limits.ceiling m.limits.capacity place places₁ m.top
    attach_free = subst (λ (z : List S). FreeOf table₁ (length z) m.limits.ceiling m.limits.capacity place places₁ m.top) (sym written)
        (free_of order symbol m.table.now m.strip.now m.limits m.top place H.filled H.room word H.short slot long)

    pub attach_word : map symbol word ≡ (entry_at symbol table₁ strip m.limits.ceiling place).word
    attach_word = subst (λ (z : List S). map symbol word ≡ (entry_at symbol table₁ z m.limits.ceiling place).word) (sym written)
        (new_word order symbol m.table.now m.strip.now m.limits m.top place H.filled H.room word H.short slot long)

    pub filled_by : (m' : Memory S) → m'.strip.now ≡ strip → m'.limits ≡ m.limits → m'.count ≡ suc place
        → Grown m.limits.capacity table₁ place places₁ (inserted_at order (entry_at symbol table₁ strip m.limits.ceiling) place 0 0 places₁) m'.top m'.table.now
        → FilledBy symbol order (record { word = map symbol word; weight = weight; tag = tag }) m m'
    filled_by m' e f g G =
        let T = m.table.now in
        let s = m.strip.now in
        let s₁ = overwritten (place * m.limits.ceiling) word s in
        let G₁ = subst (λ (z : List S). Grown m.limits.capacity table₁ place places₁ (inserted_at order (entry_at symbol table₁ z m.limits.ceiling) place 0 0 places₁) m'.top m'.table.now) written G in
        let more = filled order symbol T s m.limits m.top place H.filled H.room word H.short slot long m'.top m'.table.now G₁ in
        let grows = tree_is order symbol T s m.limits m.top place H.filled H.room word H.short slot long m'.top m'.table.now G₁ in
        let e₁ = e ∙ written in
        record {
          filled = subst (λ (z : List S). Filled m'.table.now (length z) m'.limits m'.top m'.count) (sym e₁)
              (subst (λ (l : Limits). Filled m'.table.now (length s₁) l m'.top m'.count) (sym f)
              (subst (λ (n : ℕ). Filled m'.table.now (length s₁) m.limits m'.top n) (sym g) more));
          limits = f;
          counted = g;
          tree_by = (λ i. plain (entry_at symbol m'.table.now (e₁ i) (f i).ceiling) (rooted m'.table.now (f i).capacity m'.top)) ∙ grows
              ∙ ap (λ (z : Slot). inserted_by order (record { word = map symbol word; weight = z.weight; tag = z.tag }) 0 0 (plain (entry_at symbol T s m.limits.ceiling) (rooted T m.limits.capacity m.top))) is;
        }
