-- What a lookup over table and strip answers.
use Rattle.std.specs.Prelude.{◌≡◌, ℕ, max, cond, List, length, Some, Ok, Err, Result, nat_lt}
use Rattle.std.specs.declared.cmp.Ordering.{Ordering}
use Rattle.std.specs.Option.{option_map}
use Rattle.words.specs.declared.comparison.Comparison.{Comparison}
use Rattle.rules.specs.Entries.{Entry}
use Rattle.rules.specs.Trees.{Tree, nothing, top}
use Rattle.rules.specs.Walks.{turned, compared, lookup}
use Rattle.limits.specs.declared.refusal.Refusal.{Refusal}
use Rattle.slots.specs.declared.search.Shares.{Shares}
use Rattle.store.specs.declared.lookup.Walk.{Walk}
use Rattle.slots.specs.declared.slot.Slot.{Slot}
use Rattle.slots.specs.Slots.{compared_with}
use Rattle.store.specs.Tables.{Rooted, In, plain, slot_at}

-- A sought word against the entry at a place, by what it shares with the nearest entries met before and after it and by the lengths stored there.
abbrev pub compared_at : (ℕ → ℕ → Ordering) → List ℕ → (ℕ → Entry) → List Slot → ℕ → Shares → Comparison
compared_at order w entry table p k = compared_with order w (entry p).word (slot_at table p) k

-- What the lookup by steps keeps where it ends, at the word's own entry or where no entry stands.
abbrev pub shares_at_end : (ℕ → ℕ → Ordering) → List ℕ → ℕ → ℕ → Tree → Shares
shares_at_end order w kb ka nothing = record { before = kb; after = ka }
shares_at_end order w kb ka (top l e m n r) =
    let c = compared order w e.word (nat_lt ka kb) (max kb ka) (cond (nat_lt ka kb) m n) in
    turned c.answer (shares_at_end order w kb c.share l) (record { before = kb; after = ka }) (shares_at_end order w c.share ka r)

-- The walk is that of the lookup by steps in the tree of the entries at those places.
pub record WalkOf (order : ℕ → ℕ → Ordering) (w : List ℕ) (entry : ℕ → Entry) (t : Rooted) (x : Walk) : Type 0 where
  pub met : x.met ≡ length (lookup order w 0 0 (plain entry t)).way
  pub pairs : x.pairs ≡ (lookup order w 0 0 (plain entry t)).pairs
  pub found : option_map entry x.found ≡ (lookup order w 0 0 (plain entry t)).found
  -- the place found is one of the tree's
  pub held : (p : ℕ) → x.found ≡ Some p → In p t
  pub shares : x.shares ≡ shares_at_end order w 0 0 (plain entry t)

-- the pairs that a walk looked at, none where it is refused
abbrev pub pairs_walked : Result Walk Refusal → ℕ
pairs_walked (Ok x) = x.pairs
pairs_walked (Err r) = 0
