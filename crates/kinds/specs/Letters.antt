-- Letters: the code points 0 to 1,114,111, in number order, in 3 bytes, high byte first.
use Rattle.std.specs.Prelude.{ℕ, List, decimal}
use Rattle.kinds.specs.declared.letter.Letter.{Letter}
use Rattle.kinds.specs.Codecs.{Codec, numbers_below}

-- The code point that a value is. Two values that give one code point are one letter.
abbrev pub code_point : Letter → ℕ
code_point l = l.code

-- what is printed of a letter: its code point in decimal
abbrev pub letter_text : Letter → List ℕ
letter_text l = decimal (code_point l)

abbrev pub letters : Codec
letters = numbers_below 1114112 3
