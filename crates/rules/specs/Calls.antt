-- What the calls that change a dictionary answer, and the held list afterwards: as the plain list with the limits has it.
use Rattle.std.specs.Prelude.{ℕ, cond, List, length, is_some, Some, None, Ok, Err, Option, Result, nat_lt}
use Rattle.std.specs.declared.cmp.Ordering.{Ordering}
use Rattle.limits.specs.declared.bounds.Limits.{Limits}
use Rattle.limits.specs.Refusals.{Told, refused, word_refusal}
use Rattle.rules.specs.Entries.{Entry}
use Rattle.rules.specs.Held.{entry_of, with}

-- what a call answers, and the list afterwards
pub record Outcome : Type 0 where
  pub answer : Result ℕ Told
  pub list : List Entry

-- Refused, a call leaves the list as it was. Accepted, it answers how many entries are then held.
abbrev pub outcome : Option Told → List Entry → List Entry → Outcome
outcome (Some cause) es es' = record { answer = Err cause; list = es }
outcome None es es' = record { answer = Ok (length es'); list = es' }

-- the first cause, else the second
abbrev pub or_else : Option Told → Option Told → Option Told
or_else (Some cause) other = Some cause
or_else None other = other

module _ (order : ℕ → ℕ → Ordering) where
  -- an entry is refused for its word (1, 2), with 3 where the word is held, and with 4 where the capacity is reached
  abbrev pub add_refusal : Limits → Entry → List Entry → Option Told
  add_refusal limits e es =
      or_else (word_refusal limits (length e.word))
      (cond (is_some (entry_of order e.word es)) (Some (refused 3))
      (cond (nat_lt (length es) limits.capacity) None (Some (refused 4))))

  -- add puts the entry in
  abbrev pub added : Entry → Limits → List Entry → Outcome
  added e limits es = outcome (add_refusal limits e es) es (with order e es)
