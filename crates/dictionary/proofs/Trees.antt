-- Dictionaries that hold the same entries keep the same tree.
use Rattle.std.proofs.Common.{ℕ, List, Ordering, ap, subst}
use Rattle.kinds.specs.Orders.{Lawful}
use Rattle.rules.specs.Entries.{Entry}
use Rattle.rules.specs.Trees.{TreeOf, entries}
use Rattle.rules.proofs.Trees.{one_tree}
use Rattle.dictionary.specs.Dictionaries.{SameTree, held, tree}

pub same_tree : (order : ℕ → ℕ → Ordering) → Lawful order → {S : Type 0} (symbol : S → ℕ) → SameTree order symbol
same_tree order law symbol d e K L = (
  (λ same. one_tree order law (held symbol e) (tree symbol d) (tree symbol e) (subst (λ (es : List Entry). TreeOf order es (tree symbol d)) same K.tree_of) L.tree_of),
  λ same. ap entries same,
)
