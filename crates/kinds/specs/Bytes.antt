-- Numbers in bytes, and bytes in a lent buffer.
use Rattle.std.specs.Prelude.{ℕ, zero, suc, ◌+◌, ◌/◌, ◌%◌, ◌^◌, List, [], ◌∷◌, ◌++◌, length, take, drop}
use Rattle.std.specs.Int.Digits.{number_from_digits, AllBelowBase}

-- each number of a list is a byte
abbrev pub Bytes : List ℕ → Type 0
Bytes = AllBelowBase 256

-- a number in so many bytes, high byte first
abbrev pub high_first : ℕ → ℕ → List ℕ
high_first zero n = []
high_first (suc k) n = n / 256 ^ k % 256 ∷ high_first k n

-- the number that bytes write, high byte first
abbrev pub number_of : List ℕ → ℕ
number_of = number_from_digits 256

-- a buffer with w written over it from a place on, and every other byte as it was
abbrev pub over : ℕ → List ℕ → List ℕ → List ℕ
over place w buffer = take place buffer ++ (w ++ drop (place + length w) buffer)
