-- The held list: the plain list of the entries in word order.
use Rattle.std.specs.Prelude.{ℕ, ◌+◌, max, Bool, true, false, not, ◌&&◌, ◌||◌, List, [], ◌∷◌, ◌++◌, Some, None, filter, Option}
use Rattle.std.specs.declared.cmp.Ordering.{Ordering}
use Rattle.std.specs.Ordering.{is_eq}
use Rattle.words.specs.Words.{word_order, shared}
use Rattle.rules.specs.Entries.{Entry, before}

-- Plain words on lists. `filter p xs` are the elements of xs that pass the test p, in their order.
module _ {A : Type 0} where
  abbrev pub some : (A → Bool) → List A → Bool
  some p [] = false
  some p (x ∷ xs) = p x || some p xs

  abbrev pub every : (A → Bool) → List A → Bool
  every p [] = true
  every p (x ∷ xs) = p x && every p xs

  abbrev pub sum_of : (A → ℕ) → List A → ℕ
  sum_of f [] = 0
  sum_of f (x ∷ xs) = f x + sum_of f xs

  abbrev pub first_of : List A → Option A
  first_of [] = None
  first_of (x ∷ xs) = Some x

  abbrev pub last_of : List A → Option A
  last_of [] = None
  last_of (x ∷ []) = Some x
  last_of (x ∷ (y ∷ ys)) = last_of (y ∷ ys)

-- the longest opening that a word shares with any entry, 0 where there is none
abbrev pub longest_shared : List ℕ → List Entry → ℕ
longest_shared w [] = 0
longest_shared w (e ∷ es) = max (shared w e.word) (longest_shared w es)

module _ (order : ℕ → ℕ → Ordering) where
  -- in word order, no word twice
  abbrev pub ordered : List Entry → Bool
  ordered [] = true
  ordered (e ∷ []) = true
  ordered (e ∷ (f ∷ es)) = before order e.word f.word && ordered (f ∷ es)

  abbrev pub is_word : List ℕ → Entry → Bool
  is_word w e = is_eq (word_order order w e.word)

  -- the entry of a word
  abbrev pub entry_of : List ℕ → List Entry → Option Entry
  entry_of w es = first_of (filter (is_word w) es)

  -- an entry put in: after the entries before it, before those after it
  abbrev pub with : Entry → List Entry → List Entry
  with e es = filter (λ f. before order f.word e.word) es ++ (e ∷ filter (λ f. before order e.word f.word) es)

  -- the entry of a word taken out
  abbrev pub without : List ℕ → List Entry → List Entry
  without w es = filter (λ f. not (is_word w f)) es

  -- the nearest entries strictly before and after a word
  abbrev pub nearest_before : List ℕ → List Entry → Option Entry
  nearest_before w es = last_of (filter (λ e. before order e.word w) es)

  abbrev pub nearest_after : List ℕ → List Entry → Option Entry
  nearest_after w es = first_of (filter (λ e. before order w e.word) es)
