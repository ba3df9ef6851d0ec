-- The tree of a list, and the two lengths at each entry.
use Rattle.std.specs.Prelude.{◌≡◌, ℕ, Bool, true, cond, ◌&&◌, List, [], ◌∷◌, ◌++◌, Some, None, Option}
use Rattle.std.specs.declared.cmp.Ordering.{Ordering}
use Rattle.words.specs.Words.{shared}
use Rattle.rules.specs.Entries.{Entry, outranks}
use Rattle.rules.specs.Held.{every}

-- nothing, or a top entry with its left and right lengths, a left and a right tree
pub data Tree : Type 0 where
  nothing : Tree
  top : Tree → Entry → ℕ → ℕ → Tree → Tree

-- in word order: the left tree, the top, the right tree
abbrev pub entries : Tree → List Entry
entries nothing = []
entries (top l e m n r) = entries l ++ (e ∷ entries r)

-- each top outranks all that stand below it
abbrev pub ranked : (ℕ → ℕ → Ordering) → Tree → Bool
ranked order nothing = true
ranked order (top l e m n r) =
    every (outranks order e) (entries l) && every (outranks order e) (entries r) && ranked order l && ranked order r

-- the opening shared with an ancestor, 0 where there is none
abbrev pub shared_with : Option (List ℕ) → List ℕ → ℕ
shared_with None w = 0
shared_with (Some v) w = shared v w

-- Each entry's lengths are the openings that it shares with its nearest ancestors before it, lo, and after it, hi.
-- Below an entry, that entry is the nearest ancestor: after its left tree, before its right tree.
abbrev pub Exact : Option (List ℕ) → Option (List ℕ) → Tree → Type 0
Exact lo hi nothing = Unit {0}
Exact lo hi (top l e m n r) =
    (m ≡ shared_with lo e.word) × (n ≡ shared_with hi e.word) × Exact lo (Some e.word) l × Exact (Some e.word) hi r

-- t is the tree of the list es: it holds es in order, each top outranks all below it, and the lengths are right
pub record TreeOf (order : ℕ → ℕ → Ordering) (es : List Entry) (t : Tree) : Type 0 where
  pub holds : entries t ≡ es
  pub ranks : ranked order t ≡ true
  pub lengths : Exact None None t

-- A way to make that tree, of which there is one alone: each entry in turn, the last word first, goes to the left end of the tree so far, below all that outrank it.
module _ (order : ℕ → ℕ → Ordering) where
  abbrev pub put_first : Entry → Tree → Tree
  put_first e nothing = top nothing e 0 0 nothing
  put_first e (top l f m n r) = cond (outranks order f e) (top (put_first e l) f m n r) (top nothing e 0 0 (top l f m n r))

  abbrev pub grown : List Entry → Tree
  grown [] = nothing
  grown (e ∷ es) = put_first e (grown es)

-- a tree with its lengths put right
abbrev pub measured : Option (List ℕ) → Option (List ℕ) → Tree → Tree
measured lo hi nothing = nothing
measured lo hi (top l e m n r) =
    top (measured lo (Some e.word) l) e (shared_with lo e.word) (shared_with hi e.word) (measured (Some e.word) hi r)

abbrev pub tree_of : (ℕ → ℕ → Ordering) → List Entry → Tree
tree_of order es = measured None None (grown order es)
