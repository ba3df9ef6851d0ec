-- What a lookup of a word finds, meets and compares, said of the held list alone.
use Rattle.std.specs.Prelude.{ℕ, ◌-◌, max, cond, not, ◌&&◌, List, Some, None, filter, Option, ◌==◌, nat_lt}
use Rattle.std.specs.declared.cmp.Ordering.{Ordering}
use Rattle.words.specs.Words.{shared, looked}
use Rattle.rules.specs.Entries.{Entry, outranks, between}
use Rattle.rules.specs.Held.{some, sum_of, nearest_before, nearest_after}

-- what a word shares with an entry, 0 where there is none
abbrev pub shared_with_entry : List ℕ → Option Entry → ℕ
shared_with_entry w None = 0
shared_with_entry w (Some e) = shared w e.word

module _ (order : ℕ → ℕ → Ordering) where
  -- The entries met: those that no entry between them and the sought word outranks, that word's own entry included.
  abbrev pub met : List Entry → List ℕ → List Entry
  met es w = filter (λ e. not (some (λ f. between order e w f && outranks order f e) es)) es

  -- The entries met before e: a lookup goes down the tree, so each entry met outranks the next.
  abbrev pub met_before : List Entry → List ℕ → Entry → List Entry
  met_before es w e = filter (λ f. outranks order f e) (met es w)

  -- what the sought word shares with the nearest entries met before e, on its two sides
  abbrev pub kept_before : List Entry → List ℕ → Entry → ℕ
  kept_before es w e = shared_with_entry w (nearest_before order w (met_before es w e))

  abbrev pub kept_after : List Entry → List ℕ → Entry → ℕ
  kept_after es w e = shared_with_entry w (nearest_after order w (met_before es w e))

  -- The lengths of e, the same for its own word: its ancestors are what a lookup of it meets before it.
  abbrev pub left_length_of : List Entry → Entry → ℕ
  left_length_of es e = kept_before es e.word e

  abbrev pub right_length_of : List Entry → Entry → ℕ
  right_length_of es e = kept_after es e.word e

  -- The side is before exactly if the sought word shares more with the nearest entry met before it; then the left length counts, else the right one.
  abbrev pub stored_length_of : List Entry → List ℕ → Entry → ℕ
  stored_length_of es w e = cond (nat_lt (kept_after es w e) (kept_before es w e)) (left_length_of es e) (right_length_of es e)

  -- The kept length is the larger of the two.
  abbrev pub kept_length_of : List Entry → List ℕ → Entry → ℕ
  kept_length_of es w e = max (kept_before es w e) (kept_after es w e)

  -- Pairs are looked at only where the kept length equals the stored one, and from that position on:
  -- all that a comparison from the first symbol looks at, less those before the position.
  abbrev pub pairs_at : List Entry → List ℕ → Entry → ℕ
  pairs_at es w e = cond (kept_length_of es w e == stored_length_of es w e) (looked w e.word - kept_length_of es w e) 0

  abbrev pub pairs_of : List Entry → List ℕ → ℕ
  pairs_of es w = sum_of (pairs_at es w) (met es w)
