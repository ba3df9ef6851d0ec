-- A search for a word: how it begins, and what it keeps from entry to entry.
use Rattle.std.specs.Prelude.{◌≡◌, ℕ, List}
use Rattle.std.specs.Borrow.{Bor, MutBor}
use Rattle.slots.specs.declared.search.Search.{Search}
use Rattle.slots.specs.declared.search.Shares.{Shares}
use Rattle.slots.specs.declared.slot.Side.{Side}
use Rattle.slots.specs.declared.slot.Side.TheVariants.{Left, Right}

-- no entry is met yet
abbrev pub no_shares : Shares
no_shares = record { before = 0; after = 0 }

-- An entry was passed on the way to a side. To the left of it the word is before the entry, so the entry is the nearest after it; to the right it is the nearest before.
abbrev pub passed : Side → ℕ → Shares → Shares
passed Left share k = record { before = k.before; after = share }
passed Right share k = record { before = share; after = k.after }

module _ {S C : Type 0} where
  -- a search for a word that asks a comparer
  pub record Begun (word : Bor (List S)) (comparer : MutBor C) (s : Search S C) : Type 0 where
    pub word_is : s.word ≡ word
    pub nothing_met : s.shares ≡ no_shares
    pub comparer_is : s.comparer ≡ comparer

  -- the same search goes on, for the same word and with the same comparer
  pub record SameSearch (s s' : Search S C) : Type 0 where
    pub word : s'.word ≡ s.word
    pub comparer : s'.comparer.ghost_name ≡ s.comparer.ghost_name
