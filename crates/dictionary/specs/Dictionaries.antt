-- A dictionary: what it holds and keeps, and what its calls answer.
use Rattle.std.specs.Prelude.{◌≡◌, ℕ, ◌+◌, ◌≤◌, List, [], length, Some, None, Ok, Err, Option, Result}
use Rattle.std.specs.declared.cmp.Ordering.{Ordering}
use Rattle.std.specs.Option.{option_map}
use Rattle.kinds.specs.Codecs.{Iff}
use Rattle.limits.specs.declared.bounds.Limits.{Limits}
use Rattle.limits.specs.declared.refusal.Refusal.{Refusal}
use Rattle.limits.specs.Capacity.{limits_for}
use Rattle.limits.specs.Refusals.{Told, answered, word_refusal}
use Rattle.rules.specs.Calls.{added}
use Rattle.rules.specs.Entries.{Entry}
use Rattle.rules.specs.Held.{entry_of, longest_shared}
use Rattle.rules.specs.Lookups.{met, pairs_of}
use Rattle.rules.specs.Trees.{Tree}
use Rattle.rules.specs.Walks.{lookup, LawOfLookup}
use Rattle.slots.specs.declared.slot.Slot.{Slot}
use Rattle.store.specs.declared.entry.Held.{Held}
use Rattle.store.specs.Entries.{held_of}
use Rattle.store.specs.Keeping as keeping
use Rattle.store.specs.Stores as stores
use Rattle.dictionary.specs.declared.dictionary.Dictionary.{Dictionary}
use Rattle.dictionary.specs.declared.tally.Slip.{Slip}

-- the ceiling and the capacity in force
abbrev pub limits : {S : Type 0} → Dictionary S → Limits
limits d = d.store.memory.limits

module _ {S : Type 0} (symbol : S → ℕ) where
  -- the tree that stands in the table, with the lengths stored there
  abbrev pub tree : Dictionary S → Tree
  tree d = stores.tree symbol d.store.memory

  -- the held list: the entries of that tree, in word order
  abbrev pub held : Dictionary S → List Entry
  held d = stores.held symbol d.store.memory

-- what a lookup answers: a refusal, or what it found and its slip
abbrev pub Answer : Type 0 → Type 0
Answer E = Result (Option Held × Slip) E

-- the pairs on the slip, none where there is no slip
abbrev pub pairs_on : Answer Refusal → ℕ
pairs_on (Ok x) = x.1.pairs
pairs_on (Err k) = 0

abbrev pub billed : Option Told → Option Held → ℕ → ℕ → Answer Told
billed (Some cause) found n m = Err cause
billed None found n m = Ok (found, record { met = n; pairs = m })

module _ (order : ℕ → ℕ → Ordering) {S : Type 0} (symbol : S → ℕ) where
  -- What open gives and every call keeps: the held list is in word order, and the tree in the table is the tree of the held list, with both lengths of each entry.
  -- Since a dictionary is had only from open, it holds of every dictionary.
  abbrev pub Kept : Dictionary S → Type 0
  Kept d = keeping.Kept order symbol d.store.memory

  -- A dictionary just opened over a table and a strip: the memory is as it was, and nothing is held.
  pub record Opened (table : List Slot) (strip : List S) (ceiling : ℕ) (d : Dictionary S) : Type 0 where
    pub limited : limits d ≡ limits_for (length table) (length strip) ceiling
    pub empty : held symbol d ≡ []
    pub table_kept : d.store.memory.table.now ≡ table
    pub strip_kept : d.store.memory.strip.now ≡ strip
    pub kept : Kept d

  -- Two dictionaries keep the same tree, stored lengths too, exactly when they hold the same words, weights and tags.
  abbrev pub SameTree : Type 0
  SameTree = (d e : Dictionary S) → Kept d → Kept e → Iff (held symbol d ≡ held symbol e) (tree symbol d ≡ tree symbol e)

  -- An add to d answered r and left d': both as the plain list with the limits says.
  abbrev pub Added : Entry → Dictionary S → Result ℕ Refusal → Dictionary S → Type 0
  Added e d r d' = keeping.Follows order symbol (added order e) d.store.memory r d'.store.memory

  -- What the plain list answers to a lookup: refused for the word (1, 2), else the weight and the tag of its entry, if it is held, and the slip: how many entries are met, and how many pairs are compared.
  abbrev pub looked_up : Limits → List ℕ → List Entry → Answer Told
  looked_up bounds w es = billed (word_refusal bounds (length w)) (option_map held_of (entry_of order w es)) (length (met order es w)) (pairs_of order es w)

  -- A lookup of w in d answered r.
  pub record LookedUp (d : Dictionary S) (w : List ℕ) (r : Answer Refusal) : Type 0 where
    -- the answer is that of the plain list
    pub answers : Kept d → answered (λ x. x) r ≡ looked_up (limits d) w (held symbol d)
    -- the slip is that of the steps over the tree in the table
    pub stepped : (found : Option Held) (slip : Slip) → r ≡ Ok (found, slip) → (slip.met ≡ length (lookup order w 0 0 (tree symbol d)).way) × (slip.pairs ≡ (lookup order w 0 0 (tree symbol d)).pairs)
    -- and of these steps the law of a lookup holds: what they find, which entries they meet, which pairs they look at
    pub law : Kept d → LawOfLookup order (held symbol d) w (lookup order w 0 0 (tree symbol d))
    -- the ceiling that is printed: pairs never exceed entries met plus the longest opening shared with any entry
    pub ceiling : Kept d → (found : Option Held) (slip : Slip) → r ≡ Ok (found, slip) → slip.pairs ≤ slip.met + longest_shared w (held symbol d)
