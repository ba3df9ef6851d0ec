-- A slot of the entry table, and a sought word against the entry in it.
use Rattle.std.specs.Prelude.{ℕ, max, cond, List, nat_lt}
use Rattle.std.specs.declared.cmp.Ordering.{Ordering}
use Rattle.words.specs.declared.comparison.Comparison.{Comparison}
use Rattle.rules.specs.Walks.{compared}
use Rattle.slots.specs.declared.search.Shares.{Shares}
use Rattle.slots.specs.declared.slot.Slot.{Slot}

-- the slot of zeros
abbrev pub blank : Slot
blank = record { left = 0; right = 0; left_length = 0; right_length = 0; length = 0; weight = 0; tag = 0 }

-- an entry without children and without ancestors: 65,535 is no place, since every capacity is less
abbrev pub unlinked : ℕ → ℕ → ℕ → Slot
unlinked length weight tag = record { left = 65535; right = 65535; left_length = 0; right_length = 0; length = length; weight = weight; tag = tag }

-- A sought word against an entry's, by what the sought word shares with the nearest entries met before and after it and by the lengths in the slot.
-- The side is before exactly if it shares more with the entry before; then the left length counts, else the right one. The kept length is the larger share.
abbrev pub compared_with : (ℕ → ℕ → Ordering) → List ℕ → List ℕ → Slot → Shares → Comparison
compared_with order w held slot k =
    compared order w held (nat_lt k.after k.before) (max k.before k.after) (cond (nat_lt k.after k.before) slot.left_length slot.right_length)
