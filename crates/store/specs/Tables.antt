-- The tree that the entry table keeps, and what memory must be like to be walked.
use Rattle.std.specs.Prelude.{◌≡◌, ℕ, zero, suc, ◌+◌, ◌*◌, ◌<◌, ◌≤◌, cond, ◌⊎◌, List, ◌++◌, map, length, take, drop, nat_lt, slice_index_or}
use Rattle.rules.specs.Entries.{Entry}
use Rattle.rules.specs.Trees.{Tree, nothing, top}
use Rattle.slots.specs.declared.slot.Slot.{Slot}
use Rattle.slots.specs.Slots.{blank}

-- the slot at a place, a blank one past the table's end
abbrev pub slot_at : List Slot → ℕ → Slot
slot_at table p = slice_index_or table p blank

-- a tree of places: nothing, or a place with its left and right lengths, a left and a right tree
pub data Rooted : Type 0 where
  leaf : Rooted
  node : Rooted → ℕ → ℕ → ℕ → Rooted → Rooted

-- how many places a tree has
abbrev pub size : Rooted → ℕ
size leaf = 0
size (node l p m n r) = suc (size l + size r)

-- the tree has the place
abbrev pub In : ℕ → Rooted → Type 0
In q leaf = ⊥
In q (node l p m n r) = (q ≡ p) ⊎ (In q l ⊎ In q r)

-- no place of the one tree is a place of the other
abbrev pub Disjoint : Rooted → Rooted → Type 0
Disjoint s t = (p : ℕ) → In p s → In p t → ⊥

-- no place stands in the tree twice
abbrev pub Apart : Rooted → Type 0
Apart leaf = Unit {0}
Apart (node l p m n r) = (In p l → ⊥) × (In p r → ⊥) × Disjoint l r × Apart l × Apart r

-- The table keeps the tree from a place on. A place from the capacity on stands for nothing.
abbrev pub Stands : List Slot → ℕ → ℕ → Rooted → Type 0
Stands table capacity place leaf = capacity ≤ place
Stands table capacity place (node l p m n r) =
    (p ≡ place) × (place < capacity)
    × (m ≡ (slot_at table place).left_length) × (n ≡ (slot_at table place).right_length)
    × Stands table capacity (slot_at table place).left l × Stands table capacity (slot_at table place).right r

-- the tree read from a place on, down to the given depth
abbrev pub rooted_at : ℕ → List Slot → ℕ → ℕ → Rooted
rooted_at zero table capacity place = leaf
rooted_at (suc depth) table capacity place =
    cond (nat_lt place capacity)
    (node (rooted_at depth table capacity (slot_at table place).left) place (slot_at table place).left_length (slot_at table place).right_length (rooted_at depth table capacity (slot_at table place).right))
    leaf

-- the tree read whole: a tree that stands is no deeper than the capacity
abbrev pub rooted : List Slot → ℕ → ℕ → Rooted
rooted table capacity place = rooted_at capacity table capacity place

-- the tree of entries, where places are forgotten
abbrev pub plain : (ℕ → Entry) → Rooted → Tree
plain entry leaf = nothing
plain entry (node l p m n r) = top (plain entry l) (entry p) m n (plain entry r)

-- What the strip has of the entry at a place. It has as many symbols for each place as the ceiling says.
abbrev pub stored_at : {S : Type 0} → List Slot → List S → ℕ → ℕ → List S
stored_at table strip ceiling p = take (slot_at table p).length (drop (p * ceiling) strip)

module _ {S : Type 0} (symbol : S → ℕ) where
  -- the word at a place
  abbrev pub word_at : List Slot → List S → ℕ → ℕ → List ℕ
  word_at table strip ceiling p = map symbol (stored_at table strip ceiling p)

  abbrev pub entry_at : List Slot → List S → ℕ → ℕ → Entry
  entry_at table strip ceiling p =
      record { word = word_at table strip ceiling p; weight = (slot_at table p).weight; tag = (slot_at table p).tag }

-- a list with a part of it overwritten, from a position on
abbrev pub overwritten : {A : Type 0} → ℕ → List A → List A → List A
overwritten start part whole = take start whole ++ (part ++ drop (start + length part) whole)

-- What memory must be like, whatever the order of the symbols, so that each walk from the top stays in it and ends.
pub record Sound (table : List Slot) (symbols ceiling capacity top : ℕ) : Type 0 where
  -- the limits are those of a dictionary, and table and strip have room for them
  pub few : capacity ≤ 16383
  pub long : 1 ≤ ceiling
  pub short : ceiling ≤ 1024
  pub room : capacity ≤ length table
  pub strip : capacity * ceiling ≤ symbols
  -- what is read from the top is a tree, with no place twice and no more places than the capacity
  pub stands : Stands table capacity top (rooted table capacity top)
  pub once : Apart (rooted table capacity top)
  pub fits : size (rooted table capacity top) ≤ capacity
  -- its words are within the ceiling
  pub words : (p : ℕ) → In p (rooted table capacity top) → (slot_at table p).length ≤ ceiling
