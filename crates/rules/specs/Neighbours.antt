-- The nearest entries before and after a word, by the steps of a lookup: the last entry at which the walk passed the word on that side.
-- An equal word is walked past, so that it is not its own neighbour.
use Rattle.std.specs.Prelude.{ℕ, cond, List, Some, Option}
use Rattle.std.specs.declared.cmp.Ordering.{Ordering}
use Rattle.std.specs.Ordering.{is_lt, is_gt}
use Rattle.rules.specs.Entries.{Entry}
use Rattle.rules.specs.Trees.{Tree, nothing, top}
use Rattle.rules.specs.Walks.{step_at}

module _ (order : ℕ → ℕ → Ordering) where
  -- kb and ka are what the word shares with the nearest entries passed before and after it, 0 without one; best is the one on the side that is asked for
  abbrev pub preceding_by : List ℕ → ℕ → ℕ → Option Entry → Tree → Option Entry
  preceding_by w kb ka best nothing = best
  preceding_by w kb ka best (top l e m n r) =
      let c = step_at order w kb ka e m n in
      cond (is_gt c.answer) (preceding_by w c.share ka (Some e) r) (preceding_by w kb c.share best l)

  abbrev pub following_by : List ℕ → ℕ → ℕ → Option Entry → Tree → Option Entry
  following_by w kb ka best nothing = best
  following_by w kb ka best (top l e m n r) =
      let c = step_at order w kb ka e m n in
      cond (is_lt c.answer) (following_by w kb c.share (Some e) l) (following_by w c.share ka best r)
