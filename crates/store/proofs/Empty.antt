-- Memory just opened: no entry is held, whatever the memory held.
use Rattle.std.proofs.Common.{◌≡◌, ℕ, List, [], length, Ordering, sym, refl, ap, subst, arith}
use Rattle.limits.specs.declared.bounds.Limits.{Limits}
use Rattle.limits.specs.Capacity.{limits_for}
use Rattle.slots.specs.declared.slot.Slot.{Slot}
use Rattle.store.specs.Tables.{leaf, size, In, Sound, plain, rooted}
use Rattle.rules.specs.Held.{ordered}
use Rattle.rules.specs.Trees.{Tree, nothing, entries, TreeOf}
use Rattle.store.specs.declared.memory.Memory.{Memory}
use Rattle.store.specs.Keeping.{Kept}
use Rattle.store.specs.Stores.{Filled, entry_of, places, tree, held}
use Rattle.store.proofs.Tables.{none, sound_empty}

module _ (T : List Slot) (symbols asked : ℕ) (limits : Limits) (e : limits ≡ limits_for (length T) symbols asked) where
  pub empty : rooted T limits.capacity 65535 ≡ leaf
  empty = subst (λ (l : Limits). rooted T l.capacity 65535 ≡ leaf) (sym e) (none T (limits_for (length T) symbols asked).capacity 65535 (omega arith))

  pub filled_empty : Filled T symbols limits 65535 0
  filled_empty = record {
    sound = subst (λ (l : Limits). Sound T symbols l.ceiling l.capacity 65535) (sym e) (sound_empty T symbols asked 65535 (omega arith));
    counted = ap size empty;
    first = λ p i. absurd (subst (In p) empty i);
  }

-- where nothing is held, the tree is that of the empty list
module _ (order : ℕ → ℕ → Ordering) {S : Type 0} (symbol : S → ℕ) (m : Memory S) (e : places m ≡ leaf) where
  no_tree : tree symbol m ≡ nothing
  no_tree = ap (plain (entry_of symbol m)) e

  pub none_held : held symbol m ≡ []
  none_held = ap entries no_tree

  pub kept_empty : Kept order symbol m
  kept_empty = record {
    sorted = ap (ordered order) none_held;
    tree_of = subst (λ (t : Tree). TreeOf order (entries t) t) (sym no_tree) (record { holds = refl; ranks = refl; lengths = tt });
  }
