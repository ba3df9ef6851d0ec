-- Writes to the entry table, and what parting a tree of places and putting a place into it come to.
use Rattle.std.specs.Prelude.{◌≡◌, ℕ, ◌*◌, ◌<◌, ◌≤◌, cond, ◌⊎◌, List, length, Some, None, Option, slice_set}
use Rattle.std.specs.declared.cmp.Ordering.{Ordering}
use Rattle.std.specs.Ordering.{is_gt}
use Rattle.rules.specs.Entries.{Entry}
use Rattle.rules.specs.Walks.{step_at}
use Rattle.rules.specs.Inserts.{is_above}
use Rattle.slots.specs.declared.slot.Slot.{Slot}
use Rattle.slots.specs.declared.slot.Side.{Side}
use Rattle.slots.specs.declared.slot.Side.TheVariants.{Left, Right}
use Rattle.store.specs.declared.writes.Hook.{Hook}
use Rattle.store.specs.Tables.{slot_at, Rooted, leaf, node, size, In, Apart, Stands}

-- ---- one side of a slot

abbrev pub one_on_side : {A : Type 0} → Side → A → A → A
one_on_side Left x y = x
one_on_side Right x y = y

abbrev pub other : Side → Side
other Left = Right
other Right = Left

abbrev pub child_on : Side → Slot → ℕ
child_on side slot = one_on_side side slot.left slot.right

abbrev pub length_on : Side → Slot → ℕ
length_on side slot = one_on_side side slot.left_length slot.right_length

abbrev pub with_child : Side → ℕ → Slot → Slot
with_child side c slot = record {
  left = one_on_side side c slot.left;
  right = one_on_side side slot.right c;
  left_length = slot.left_length;
  right_length = slot.right_length;
  length = slot.length;
  weight = slot.weight;
  tag = slot.tag;
}

abbrev pub with_length : Side → ℕ → Slot → Slot
with_length side n slot = record {
  left = slot.left;
  right = slot.right;
  left_length = one_on_side side n slot.left_length;
  right_length = one_on_side side slot.right_length n;
  length = slot.length;
  weight = slot.weight;
  tag = slot.tag;
}

-- the table with a child hung on a side of a place
abbrev pub hung : List Slot → ℕ → Side → ℕ → List Slot
hung table p side c = slice_set table p (with_child side c (slot_at table p))

-- the table with a length noted on a side of a place
abbrev pub noted : List Slot → ℕ → Side → ℕ → List Slot
noted table p side n = slice_set table p (with_length side n (slot_at table p))

-- T' is T, but for the children in P and the lengths in Q
pub record Same (T : List Slot) (P Q : ℕ → Side → Type 0) (T' : List Slot) : Type 0 where
  pub size : length T' ≡ length T
  pub word : (q : ℕ) → (slot_at T' q).length ≡ (slot_at T q).length
  pub weight : (q : ℕ) → (slot_at T' q).weight ≡ (slot_at T q).weight
  pub tag : (q : ℕ) → (slot_at T' q).tag ≡ (slot_at T q).tag
  pub children : (q : ℕ) (d : Side) → (P q d → ⊥) → child_on d (slot_at T' q) ≡ child_on d (slot_at T q)
  pub lengths : (q : ℕ) (d : Side) → (Q q d → ⊥) → length_on d (slot_at T' q) ≡ length_on d (slot_at T q)

-- on a hook: a place and a side, where a tree hangs
abbrev pub On : ℕ → Side → ℕ → Side → Type 0
On h s q d = (q ≡ h) × (d ≡ s)

-- T' is T with two trees a and b, made of the places of t, on two hooks
pub record Split (capacity : ℕ) (T : List Slot) (h : ℕ) (s : Side) (h' : ℕ) (s' : Side) (t a b : Rooted) (T' : List Slot) : Type 0 where
  pub first : Stands T' capacity (child_on s (slot_at T' h)) a
  pub second : Stands T' capacity (child_on s' (slot_at T' h')) b
  pub same : Same T (λ q d. In q t ⊎ (On h s q d ⊎ On h' s' q d)) (λ q d. In q t) T'

-- ---- the steps of a lookup part a tree of places as they part the tree of its entries
module _ (order : ℕ → ℕ → Ordering) (entry : ℕ → Entry) where
  abbrev pub lesser_at : List ℕ → ℕ → ℕ → Rooted → Rooted
  lesser_at w kb ka leaf = leaf
  lesser_at w kb ka (node l p m n r) =
      let c = step_at order w kb ka (entry p) m n in
      cond (is_gt c.answer) (node l p m c.share (lesser_at w c.share ka r)) (lesser_at w kb c.share l)

  abbrev pub greater_at : List ℕ → ℕ → ℕ → Rooted → Rooted
  greater_at w kb ka leaf = leaf
  greater_at w kb ka (node l p m n r) =
      let c = step_at order w kb ka (entry p) m n in
      cond (is_gt c.answer) (greater_at w c.share ka r) (node (greater_at w kb c.share l) p c.share n r)

  -- and put a place into it as they put its entry into that tree
  abbrev pub inserted_at : ℕ → ℕ → ℕ → Rooted → Rooted
  inserted_at x kb ka leaf = node leaf x kb ka leaf
  inserted_at x kb ka (node l p m n r) =
      let c = step_at order (entry x).word kb ka (entry p) m n in
      cond (is_above order (entry p) (entry x) c)
      (cond (is_gt c.answer) (node l p m n (inserted_at x c.share ka r)) (node (inserted_at x kb c.share l) p m n r))
      (node (lesser_at (entry x).word kb ka (node l p m n r)) x kb ka (greater_at (entry x).word kb ka (node l p m n r)))

-- ---- a place on a hook, or at the top where there is no hook

abbrev pub HookIn : ℕ → Option Hook → Type 0
HookIn n None = Unit {0}
HookIn n (Some a) = a.place < n

abbrev pub seated : List Slot → Option Hook → ℕ → List Slot
seated T None x = T
seated T (Some a) x = hung T a.place a.side x

abbrev pub seated_top : Option Hook → ℕ → ℕ → ℕ
seated_top None x top = x
seated_top (Some a) x top = top

-- ---- what unzipping needs and does

-- The tree t stands below the place q, with no place twice and its words within the strip, and the place x is outside of it.
pub record FreeOf (T : List Slot) (symbols ceiling capacity x : ℕ) (t : Rooted) (q : ℕ) : Type 0 where
  pub few : capacity ≤ 16383
  pub room : capacity ≤ length T
  pub strip : capacity * ceiling ≤ symbols
  pub stands : Stands T capacity q t
  pub apart : Apart t
  pub fits : size t ≤ capacity
  pub words : (p : ℕ) → In p t → (slot_at T p).length ≤ ceiling
  pub at : x < length T
  pub free : In x t → ⊥

-- the table with the two parts of t on the sides of the place x
abbrev pub Unzipped : (ℕ → ℕ → Ordering) → (ℕ → Entry) → ℕ → List ℕ → ℕ → ℕ → ℕ → Rooted → List Slot → List Slot → Type 0
Unzipped order entry capacity w kb ka x t T T' = Split capacity T x Left x Right t (lesser_at order entry w kb ka t) (greater_at order entry w kb ka t) T'

-- T' is T with the tree b, whose top is the place y, for the tree t; the place x may have changed too
pub record Grown (capacity : ℕ) (T : List Slot) (x : ℕ) (t b : Rooted) (y : ℕ) (T' : List Slot) : Type 0 where
  pub stands : Stands T' capacity y b
  pub same : Same T (λ q d. In q t ⊎ (q ≡ x)) (λ q d. In q t ⊎ (q ≡ x)) T'
