-- The way of a lookup down a tree, by stored lengths.
use Rattle.std.specs.Prelude.{◌≡◌, ℕ, ◌+◌, ◌≤◌, max, Bool, true, cond, List, [], ◌∷◌, length, Some, None, Option, nat_lt}
use Rattle.std.specs.declared.cmp.Ordering.TheVariants.{Less, Equal, Greater}
use Rattle.std.specs.declared.cmp.Ordering.{Ordering}
use Rattle.std.specs.List.{AllByRecursion}
use Rattle.std.specs.List.Sorted.{IsPermutation}
use Rattle.words.specs.declared.comparison.Comparison.{Comparison}
use Rattle.words.specs.Comparisons.{compared_from}
use Rattle.rules.specs.Entries.{Entry, outranks}
use Rattle.rules.specs.Held.{entry_of, longest_shared}
use Rattle.rules.specs.Lookups.{met, pairs_of}
use Rattle.rules.specs.Trees.{Tree, nothing, top}

-- one of three, by how a word stands
abbrev pub turned : {A : Type 0} → Ordering → A → A → A → A
turned Less x y z = x
turned Equal x y z = y
turned Greater x y z = z

-- what a lookup comes to: the entries met from the top down, the pairs looked at, the entry found
pub record Walked : Type 0 where
  pub way : List Entry
  pub pairs : ℕ
  pub found : Option Entry

abbrev pub after : Entry → ℕ → Walked → Walked
after e n x = record { way = e ∷ x.way; pairs = n + x.pairs; found = x.found }

module _ (order : ℕ → ℕ → Ordering) where
  -- A sought word against an entry's, by what each shares with the nearest entry met, which stands before both or after both.
  -- Where the sought word shares more, it lies on that entry's side, where it shares less, on the other, and nothing is compared; else they are compared from there on.
  abbrev pub compared : List ℕ → List ℕ → Bool → ℕ → ℕ → Comparison
  compared w v is_before kept stored =
      cond (nat_lt stored kept) (record { answer = cond is_before Less Greater; share = stored; pairs = 0 })
      (cond (nat_lt kept stored) (record { answer = cond is_before Greater Less; share = kept; pairs = 0 })
      (compared_from order kept w v))

  -- One step, at an entry with the lengths m and n: kb and ka are what the sought word shares with the nearest entries met before and after it, 0 without one.
  -- The side is before exactly if kb is larger; then the left length counts, else the right one. The kept length is the larger of kb and ka.
  abbrev pub step_at : List ℕ → ℕ → ℕ → Entry → ℕ → ℕ → Comparison
  step_at w kb ka e m n = compared w e.word (nat_lt ka kb) (max kb ka) (cond (nat_lt ka kb) m n)

  -- The lookup by steps: left where the sought word is before the entry, right where it is after, until it is met or nothing is left.
  abbrev pub lookup : List ℕ → ℕ → ℕ → Tree → Walked
  lookup w kb ka nothing = record { way = []; pairs = 0; found = None }
  lookup w kb ka (top l e m n r) =
      let c = step_at w kb ka e m n in
      after e c.pairs (turned c.answer (lookup w kb c.share l) (record { way = []; pairs = 0; found = Some e }) (lookup w c.share ka r))

  -- ---- the law of a lookup, said of the held list es alone

  -- each entry outranks all that come later
  abbrev pub Falling : List Entry → Type 0
  Falling [] = Unit {0}
  Falling (e ∷ es) = AllByRecursion (λ f. outranks order e f ≡ true) es × Falling es

  pub record LawOfLookup (es : List Entry) (w : List ℕ) (x : Walked) : Type 0 where
    -- it finds the entry that the list has for the word
    pub finds : x.found ≡ entry_of order w es
    -- it meets exactly the entries that no entry between them and the word outranks: each of them once, and each outranks those that are met after it
    pub meets : IsPermutation (met order es w) x.way
    pub falls : Falling x.way
    -- it looks at exactly the pairs that the list says
    pub looks : x.pairs ≡ pairs_of order es w
    -- and they are never more than the entries met and the longest opening shared with any entry
    pub few : x.pairs ≤ length x.way + longest_shared w es
