-- What a comparison of two words answers.
use Rattle.std.specs.Prelude.{◌≡◌, ℕ, suc, ◌+◌, ◌≤◌, min, ◌⊎◌, List, length, drop}
use Rattle.std.specs.declared.cmp.Ordering.TheVariants.{Less, Equal, Greater}
use Rattle.std.specs.declared.cmp.Ordering.{Ordering}
use Rattle.kinds.specs.Codecs.{Iff}
use Rattle.kinds.specs.Orders.{Lawful}
use Rattle.words.specs.declared.comparison.Comparison.{Comparison}
use Rattle.words.specs.Words.{word_order, shared, looked, Before, OpensBoth}

-- a comparison starts at the given position, or where the shorter word ends if that comes first
abbrev pub start : ℕ → List ℕ → List ℕ → ℕ
start from u v = min from (min (length u) (length v))

-- Compared from a position on, as if all before it were shared: the order of what is left, how much the words then share, and the pairs looked at.
abbrev pub compared_from : (ℕ → ℕ → Ordering) → ℕ → List ℕ → List ℕ → Comparison
compared_from order from u v =
    let k = start from u v in
    record { answer = word_order order (drop k u) (drop k v); share = k + shared (drop k u) (drop k v); pairs = looked (drop k u) (drop k v) }

-- Where the position lies in the shared opening, the answer is the order of the words, and the share is their shared opening.
abbrev pub AsFromTheStart : (ℕ → ℕ → Ordering) → ℕ → List ℕ → List ℕ → Comparison → Type 0
AsFromTheStart order from u v c = from ≤ shared u v → (c.answer ≡ word_order order u v) × (c.share ≡ shared u v)

-- What comparing two words from their first symbol tells of them.
pub record Tells (order : ℕ → ℕ → Ordering) (u v : List ℕ) (c : Comparison) : Type 0 where
  -- the order of words is an order, as that of symbols is
  pub lawful : Lawful (word_order order)
  -- before, same or after, each exactly where it is so
  pub before : Iff (c.answer ≡ Less) (Before order u v)
  pub same : Iff (c.answer ≡ Equal) (u ≡ v)
  pub after : Iff (c.answer ≡ Greater) (Before order v u)
  -- no longer opening is shared
  pub longest : (n : ℕ) → Iff (n ≤ c.share) (OpensBoth n u v)
  -- each symbol of the shared opening is looked at, and the pair after it unless a word ends there
  pub counted : (c.pairs ≡ c.share) ⊎ (c.pairs ≡ suc c.share)
  pub ended : Iff (c.pairs ≡ c.share) ((c.share ≡ length u) ⊎ (c.share ≡ length v))
