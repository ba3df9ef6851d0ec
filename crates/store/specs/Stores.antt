-- What a store keeps in the memory that it is lent.
use Rattle.std.specs.Prelude.{◌≡◌, ℕ, suc, ◌+◌, ◌*◌, ◌<◌, ◌≤◌, List, length}
use Rattle.std.specs.declared.cmp.Ordering.{Ordering}
use Rattle.limits.specs.declared.bounds.Limits.{Limits}
use Rattle.limits.specs.Capacity.{limits_for}
use Rattle.rules.specs.Entries.{Entry}
use Rattle.rules.specs.Inserts.{inserted_by}
use Rattle.rules.specs.Trees.{Tree, entries}
use Rattle.slots.specs.declared.slot.Slot.{Slot}
use Rattle.store.specs.declared.memory.Memory.{Memory}
use Rattle.store.specs.Tables.{Rooted, leaf, size, In, rooted, plain, slot_at, entry_at, Sound}

-- Sound memory whose entries have the first places.
pub record Filled (table : List Slot) (symbols : ℕ) (limits : Limits) (top count : ℕ) : Type 0 where
  pub sound : Sound table symbols limits.ceiling limits.capacity top
  pub counted : size (rooted table limits.capacity top) ≡ count
  pub first : (p : ℕ) → In p (rooted table limits.capacity top) → p < count

module _ {S : Type 0} where
  -- the tree of places
  abbrev pub places : Memory S → Rooted
  places m = rooted m.table.now m.limits.capacity m.top

  -- the same of a memory, which a store keeps from call to call
  abbrev pub FilledIn : Memory S → Type 0
  FilledIn m = Filled m.table.now (length m.strip.now) m.limits m.top m.count

  -- the place has a slot, and what that says of its word lies in the strip
  pub record InMemory (m : Memory S) (p : ℕ) : Type 0 where
    pub slot : p < length m.table.now
    pub word : p * m.limits.ceiling + (slot_at m.table.now p).length ≤ length m.strip.now

  -- opened: the limits are those in force over that memory, which is as it was, and no entry is held
  pub record Opened (table : List Slot) (strip : List S) (ceiling : ℕ) (m : Memory S) : Type 0 where
    pub limits : m.limits ≡ limits_for (length table) (length strip) ceiling
    pub table_kept : m.table.now ≡ table
    pub strip_kept : m.strip.now ≡ strip
    pub empty : places m ≡ leaf
    pub none : m.count ≡ 0

  -- nothing but the table was written
  pub record TableAlone (m m' : Memory S) : Type 0 where
    pub strip : m'.strip.now ≡ m.strip.now
    pub limits : m'.limits ≡ m.limits
    pub top : m'.top ≡ m.top
    pub count : m'.count ≡ m.count

  -- nothing but the table and the top was written
  pub record TreeAlone (m m' : Memory S) : Type 0 where
    pub strip : m'.strip.now ≡ m.strip.now
    pub limits : m'.limits ≡ m.limits
    pub count : m'.count ≡ m.count

  module _ (symbol : S → ℕ) where
    -- the entry at a place
    abbrev pub entry_of : Memory S → ℕ → Entry
    entry_of m = entry_at symbol m.table.now m.strip.now m.limits.ceiling

    -- the tree of entries, and the held list: the entries in word order
    abbrev pub tree : Memory S → Tree
    tree m = plain (entry_of m) (places m)

    abbrev pub held : Memory S → List Entry
    held m = entries (tree m)

-- ---- adding

-- what is to hold of memory so that an entry can be written to its first free place
pub record HasRoom {S : Type 0} (word : List S) (m : Memory S) : Type 0 where
  pub filled : FilledIn m
  pub room : m.count < m.limits.capacity
  pub short : length word ≤ m.limits.ceiling

-- Memory with one entry more: the limits are as they were, and the tree has that entry, put in by the steps of a lookup.
pub record FilledBy {S : Type 0} (symbol : S → ℕ) (order : ℕ → ℕ → Ordering) (e : Entry) (m m' : Memory S) : Type 0 where
  pub filled : FilledIn m'
  pub limits : m'.limits ≡ m.limits
  pub counted : m'.count ≡ suc m.count
  pub tree_by : tree symbol m' ≡ inserted_by order e 0 0 (tree symbol m)
