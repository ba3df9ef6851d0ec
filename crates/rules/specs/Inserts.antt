-- A tree with one entry more: it goes below all that outrank it on the way to its word, and what stood there is unzipped along that way.
use Rattle.std.specs.Prelude.{ℕ, Bool, cond, ◌&&◌, ◌||◌, List, ◌==◌, nat_lt}
use Rattle.std.specs.declared.cmp.Ordering.{Ordering}
use Rattle.std.specs.Ordering.{is_gt}
use Rattle.words.specs.declared.comparison.Comparison.{Comparison}
use Rattle.words.specs.Words.{word_order, shared}
use Rattle.rules.specs.Entries.{Entry, outranks}
use Rattle.rules.specs.Trees.{Tree, nothing, top}
use Rattle.rules.specs.Walks.{turned, step_at}

module _ (order : ℕ → ℕ → Ordering) where
  -- The part of a tree before the word w. Each entry of the way that comes before w has w for its nearest ancestor after it.
  abbrev pub lesser : List ℕ → Tree → Tree
  lesser w nothing = nothing
  lesser w (top l e m n r) =
      turned (word_order order w e.word) (lesser w l) (lesser w l) (top l e m (shared w e.word) (lesser w r))

  -- The part after it: each entry of the way that comes after w has w for its nearest ancestor before it.
  abbrev pub greater : List ℕ → Tree → Tree
  greater w nothing = nothing
  greater w (top l e m n r) =
      turned (word_order order w e.word) (top (greater w l) e (shared w e.word) n r) (greater w r) (greater w r)

  -- The tree with e, where kb and ka are what its word shares with the nearest entries before and after it on the way so far.
  abbrev pub inserted : Entry → ℕ → ℕ → Tree → Tree
  inserted e kb ka nothing = top nothing e kb ka nothing
  inserted e kb ka (top l f m n r) =
      cond (outranks order f e)
      (turned (word_order order e.word f.word)
      (top (inserted e kb (shared e.word f.word) l) f m n r)
      (top l f m n r)
      (top l f m n (inserted e (shared e.word f.word) ka r)))
      (top (lesser e.word (top l f m n r)) e kb ka (greater e.word (top l f m n r)))

  -- The same by the steps of a lookup, which know how a word stands to an entry, and what it shares with it, from the stored lengths.
  abbrev pub lesser_by : List ℕ → ℕ → ℕ → Tree → Tree
  lesser_by w kb ka nothing = nothing
  lesser_by w kb ka (top l e m n r) =
      let c = step_at order w kb ka e m n in
      cond (is_gt c.answer) (top l e m c.share (lesser_by w c.share ka r)) (lesser_by w kb c.share l)

  abbrev pub greater_by : List ℕ → ℕ → ℕ → Tree → Tree
  greater_by w kb ka nothing = nothing
  greater_by w kb ka (top l e m n r) =
      let c = step_at order w kb ka e m n in
      cond (is_gt c.answer) (greater_by w c.share ka r) (top (greater_by w kb c.share l) e c.share n r)

  -- f outranks e, where c says how e's word stands to f's
  abbrev pub is_above : Entry → Entry → Comparison → Bool
  is_above f e c = nat_lt e.weight f.weight || (f.weight == e.weight && is_gt c.answer)

  abbrev pub inserted_by : Entry → ℕ → ℕ → Tree → Tree
  inserted_by e kb ka nothing = top nothing e kb ka nothing
  inserted_by e kb ka (top l f m n r) =
      let c = step_at order e.word kb ka f m n in
      cond (is_above f e c)
      (cond (is_gt c.answer) (top l f m n (inserted_by e c.share ka r)) (top (inserted_by e kb c.share l) f m n r))
      (top (lesser_by e.word kb ka (top l f m n r)) e kb ka (greater_by e.word kb ka (top l f m n r)))
