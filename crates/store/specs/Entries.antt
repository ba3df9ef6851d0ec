-- Entries as the calls answer them.
use Rattle.std.specs.Prelude.{◌≡◌, ℕ, List, map, length, Ok, Err, Result}
use Rattle.std.specs.declared.cmp.Ordering.{Ordering}
use Rattle.std.specs.Option.{option_map}
use Rattle.limits.specs.declared.refusal.Refusal.{Refusal}
use Rattle.rules.specs.Walks.{Walked}
use Rattle.slots.specs.declared.slot.Slot.{Slot}
use Rattle.rules.specs.Entries as rules
use Rattle.rules.specs.Lookups.{left_length_of, right_length_of}
use Rattle.store.specs.declared.entry.Entry.{Entry}
use Rattle.store.specs.declared.entry.Held.{Held}
use Rattle.store.specs.declared.lookup.Looked.{Looked}
use Rattle.store.specs.declared.memory.Memory.{Memory}
use Rattle.store.specs.Stores.{entry_of}
use Rattle.store.specs.Tables.{slot_at}

-- the weight and the tag of an entry, and those at a place
abbrev pub held_of : rules.Entry → Held
held_of e = record { weight = e.weight; tag = e.tag }

abbrev pub held_at : List Slot → ℕ → Held
held_at table p = record { weight = (slot_at table p).weight; tag = (slot_at table p).tag }

-- what a lookup answers of the walk that it made
pub record LookedOf (x : Walked) (r : Looked) : Type 0 where
  pub found : r.found ≡ option_map held_of x.found
  pub met : r.met ≡ length x.way
  pub pairs : r.pairs ≡ x.pairs

-- the pairs that a lookup looked at, none where it is refused
abbrev pub pairs_of : Result Looked Refusal → ℕ
pairs_of (Ok x) = x.pairs
pairs_of (Err r) = 0

-- an entry with its two lengths
pub record Listed : Type 0 where
  pub entry : rules.Entry
  pub left : ℕ
  pub right : ℕ

-- the lengths that the list has for an entry
abbrev pub listed_in : (ℕ → ℕ → Ordering) → List rules.Entry → rules.Entry → Listed
listed_in order es e = record { entry = e; left = left_length_of order es e; right = right_length_of order es e }

module _ {S : Type 0} (symbol : S → ℕ) where
  -- what is answered
  abbrev pub listing : Entry S → Listed
  listing x = record {
    entry = record { word = map symbol x.word.now; weight = x.weight; tag = x.tag };
    left = x.left_length;
    right = x.right_length;
  }

  -- what stands at a place
  abbrev pub listed_at : Memory S → ℕ → Listed
  listed_at m p = record { entry = entry_of symbol m p; left = (slot_at m.table.now p).left_length; right = (slot_at m.table.now p).right_length }
