-- Entries, and which outranks which. A word is the list of its symbols' numbers.
use Rattle.std.specs.Prelude.{ℕ, Bool, ◌&&◌, ◌||◌, List, ◌==◌, nat_lt}
use Rattle.std.specs.declared.cmp.Ordering.{Ordering}
use Rattle.std.specs.Ordering.{is_lt, is_le}
use Rattle.words.specs.Words.{word_order}

pub record Entry : Type 0 where
  pub word : List ℕ
  pub weight : ℕ
  pub tag : ℕ

module _ (order : ℕ → ℕ → Ordering) where
  abbrev pub before : List ℕ → List ℕ → Bool
  before u v = is_lt (word_order order u v)

  abbrev pub is_not_after : List ℕ → List ℕ → Bool
  is_not_after u v = is_le (word_order order u v)

  -- One entry outranks another if its weight is higher, or if the weights are equal and its word is smaller.
  abbrev pub outranks : Entry → Entry → Bool
  outranks e f = nat_lt f.weight e.weight || (e.weight == f.weight && before e.word f.word)

  -- f stands between e and the word w: w itself included, e not
  abbrev pub between : Entry → List ℕ → Entry → Bool
  between e w f =
      (before e.word f.word && is_not_after f.word w)
      || (is_not_after w f.word && before f.word e.word)
