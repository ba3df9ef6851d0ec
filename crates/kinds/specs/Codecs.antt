-- The bytes of a kind's symbols. A symbol is known by its number.
use Rattle.std.specs.Prelude.{◌≡◌, ℕ, ◌≤◌, Bool, true, cond, List, length, Some, None, Option, Result, ◌==◌, ◌≢◌, nat_lt}
use Rattle.std.specs.Option.{option_map}
use Rattle.std.specs.Result.{result_ok}
use Rattle.kinds.specs.Bytes.{Bytes, high_first, number_of}

pub record Codec : Type 0 where
  -- how many bytes a symbol takes
  pub width : ℕ
  -- which numbers are the kind's symbols
  pub has : ℕ → Bool
  -- the bytes that writing a symbol gives
  pub bytes : ℕ → List ℕ
  -- the symbol that reading bytes gives, or none
  pub symbol_of : List ℕ → Option ℕ

-- The width is 1 to 4, and writing a symbol gives exactly that many bytes.
-- Reading what a symbol writes gives that symbol; and what reading accepts, that symbol writes.
-- So reading refuses exactly the bytes that no symbol writes.
pub record Faithful (c : Codec) : Type 0 where
  pub some_width : 1 ≤ c.width
  pub small_width : c.width ≤ 4
  pub wide : (s : ℕ) → length (c.bytes s) ≡ c.width
  pub small : (s : ℕ) → Bytes (c.bytes s)
  pub read_back : (s : ℕ) → c.has s ≡ true → c.symbol_of (c.bytes s) ≡ Some s
  pub written : (b : List ℕ) (s : ℕ) → Bytes b → c.symbol_of b ≡ Some s → (c.has s ≡ true) × (c.bytes s ≡ b)

-- a number, where it is below a count
abbrev pub below : ℕ → ℕ → Option ℕ
below count n = cond (nat_lt n count) (Some n) None

-- the answer is the value of this number, where it is below a count, and else an error
abbrev pub GivesBelow : {A E : Type 0} → ℕ → (A → ℕ) → ℕ → Result A E → Type 0
GivesBelow count number n answer = option_map number (result_ok answer) ≡ below count n

-- the symbols are the numbers below a count, each written in so many bytes, high byte first
abbrev pub numbers_below : ℕ → ℕ → Codec
numbers_below count width = record {
  width = width;
  has = λ n. nat_lt n count;
  bytes = high_first width;
  symbol_of = λ b. cond (length b == width) (below count (number_of b)) None;
}

-- each of two statements gives the other
abbrev pub Iff : Type 0 → Type 0 → Type 0
Iff A B = (A → B) × (B → A)

-- reading refuses exactly the bytes that no symbol writes
abbrev pub RefusesExactly : Codec → Type 0
RefusesExactly c = (b : List ℕ) → Bytes b → Iff (c.symbol_of b ≡ None) ((s : ℕ) → c.has s ≡ true → c.bytes s ≢ b)
