-- The nearest entry on a side of a word, by the steps of a lookup.
use Rattle.std.specs.Prelude.{ℕ, Bool, not, List, Option}
use Rattle.std.specs.declared.cmp.Ordering.{Ordering}
use Rattle.std.specs.Ordering.{is_lt, is_gt}
use Rattle.rules.specs.Entries.{Entry}
use Rattle.rules.specs.Held.{nearest_before, nearest_after}
use Rattle.rules.specs.Neighbours.{preceding_by, following_by}
use Rattle.rules.specs.Trees.{Tree}
use Rattle.slots.specs.declared.slot.Side.{Side}
use Rattle.store.specs.Unzips.{one_on_side}

-- The walk goes right where the word is after the entry; an equal word is passed on the side that is asked for.
abbrev pub is_right_turn : Side → Ordering → Bool
is_right_turn side o = one_on_side side (is_gt o) (not (is_lt o))

module _ (order : ℕ → ℕ → Ordering) where
  abbrev pub nearest_by : Side → List ℕ → ℕ → ℕ → Option Entry → Tree → Option Entry
  nearest_by side w kb ka best t = one_on_side side (preceding_by order w kb ka best t) (following_by order w kb ka best t)

  -- the nearest entry of a list before a word, or after it
  abbrev pub nearest : Side → List ℕ → List Entry → Option Entry
  nearest side w es = one_on_side side (nearest_before order w es) (nearest_after order w es)
