-- What a store keeps from call to call, and what a call that follows a rule of the plain list answers and leaves.
use Rattle.std.specs.Prelude.{◌≡◌, ℕ, true, List, Err, Result}
use Rattle.std.specs.declared.cmp.Ordering.{Ordering}
use Rattle.limits.specs.declared.bounds.Limits.{Limits}
use Rattle.limits.specs.declared.refusal.Refusal.{Refusal}
use Rattle.limits.specs.Refusals.{answered}
use Rattle.rules.specs.Calls.{Outcome}
use Rattle.rules.specs.Entries.{Entry}
use Rattle.rules.specs.Held.{ordered}
use Rattle.rules.specs.Trees.{TreeOf}
use Rattle.store.specs.declared.memory.Memory.{Memory}
use Rattle.store.specs.Stores.{tree, held}

module _ (order : ℕ → ℕ → Ordering) {S : Type 0} (symbol : S → ℕ) where
  -- The premise of each promise that depends on the order of symbols: the held list is in word order, and the tree in the table is its tree, lengths too.
  -- Opening gives it and every call keeps it.
  pub record Kept (m : Memory S) : Type 0 where
    pub sorted : ordered order (held symbol m) ≡ true
    pub tree_of : TreeOf order (held symbol m) (tree symbol m)

  -- A call on m answered r and left m', both as a rule says of the limits and the held list.
  pub record Follows (rule : Limits → List Entry → Outcome) (m : Memory S) (r : Result ℕ Refusal) (m' : Memory S) : Type 0 where
    pub limits : m'.limits ≡ m.limits
    -- refused, it leaves all as it was
    pub unchanged : (k : Refusal) → r ≡ Err k → m' ≡ m
    pub answers : Kept m → answered (λ n. n) r ≡ (rule m.limits (held symbol m)).answer
    pub holds : Kept m → held symbol m' ≡ (rule m.limits (held symbol m)).list
    pub kept : Kept m → Kept m'
