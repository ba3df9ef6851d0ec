-- Numbers, bytes and words as a script writes them.
use Rattle.std.specs.Prelude.{ℕ, ◌+◌, ◌-◌, ◌*◌, ◌/◌, ◌%◌, ◌^◌, Bool, cond, ◌&&◌, List, [], ◌∷◌, ◌++◌, length, Some, None, codes, Option, nat_le, nat_lt, ◌==◌, drop, slice_index}
use Rattle.std.specs.Str.Parse.{digits_value}
use Rattle.std.specs.List.{after_first, before_first, flat_map, position_or_len, slice_split}
use Rattle.std.specs.Option.{option_and_then}
use Rattle.std.specs.Str.{all_ascii_digits, bytes_eq}
use Rattle.kinds.specs.Codecs.{below}
use Rattle.kinds.specs.PenElements.{as_move}

-- digits alone, one at least, that write a number of so many bits
abbrev pub numeral : ℕ → List ℕ → Option ℕ
numeral bits text = cond (all_ascii_digits text && (nat_lt 0 (length text) && nat_lt (digits_value 10 text) (2 ^ bits))) (Some (digits_value 10 text)) None

abbrev pub between : ℕ → ℕ → ℕ → Bool
between low high n = nat_le low n && nat_le n high

-- a hexadecimal digit of either case
abbrev pub hex_digit : ℕ → Option ℕ
hex_digit c =
    cond (between 48 57 c) (Some (c - 48)) (cond (between 97 102 c) (Some (c - 97 + 10)) (cond (between 65 70 c) (Some (c - 65 + 10)) None))

-- the lower-case digit of a number below 16
abbrev pub digit_of : ℕ → ℕ
digit_of n = cond (nat_lt n 10) (48 + n) (87 + n)

abbrev pub hex_pair : ℕ → List ℕ
hex_pair b = digit_of (b / 16) ∷ (digit_of (b % 16) ∷ [])

-- bytes as pairs of lower-case digits, and none as `-`
abbrev pub hex_text : List ℕ → List ℕ
hex_text [] = codes "-"
hex_text (b ∷ bs) = flat_map hex_pair (b ∷ bs)

-- a byte from two digits
abbrev pub byte_of : Option ℕ → Option ℕ → Option ℕ
byte_of None low = None
byte_of (Some high) None = None
byte_of (Some high) (Some low) = Some (high * 16 + low)

-- a number and what follows it, where both are there
abbrev pub before : Option ℕ → Option (List ℕ) → Option (List ℕ)
before None bs = None
before (Some b) None = None
before (Some b) (Some bs) = Some (b ∷ bs)

-- the bytes of pairs of digits
abbrev pub hex_pairs : List ℕ → Option (List ℕ)
hex_pairs [] = Some []
hex_pairs (h ∷ []) = None
hex_pairs (h ∷ (l ∷ ds)) = before (byte_of (hex_digit h) (hex_digit l)) (hex_pairs ds)

-- the bytes that a text writes, `-` for none
abbrev pub hex_bytes : List ℕ → Option (List ℕ)
hex_bytes text = cond (bytes_eq text (codes "-")) (Some []) (hex_pairs text)

-- a letter, by its code point in decimal
abbrev pub letter_in : List ℕ → Option ℕ
letter_in piece = option_and_then (below 1114112) (numeral 64 piece)

-- a lift is `0`
abbrev pub lift_in : Option ℕ → Option ℕ
lift_in None = None
lift_in (Some n) = cond (n == 0) (Some 0) None

-- a move, by the numbers of its direction and its length class
abbrev pub move_in : Option ℕ → Option ℕ → Option ℕ
move_in None class = None
move_in (Some direction) None = None
move_in (Some direction) (Some class) = as_move direction class

abbrev pub is_stroke : ℕ → Bool
is_stroke c = c == 47

-- the number of a pen element: a lift without a stroke, or a move by what stands before and after the first stroke
abbrev pub element_in : List ℕ → Option ℕ
element_in piece =
    cond (nat_lt (position_or_len is_stroke piece) (length piece)) (move_in (numeral 64 (before_first is_stroke piece)) (numeral 64 (after_first is_stroke piece)))
    (lift_in (numeral 64 piece))

-- a text is no word of a kind whose symbols are no characters
abbrev pub no_text : List ℕ → Option (List ℕ)
no_text text = None

-- the numbers that pieces write, where each writes one
abbrev pub all_in : (List ℕ → Option ℕ) → List (List ℕ) → Option (List ℕ)
all_in of_piece [] = Some []
all_in of_piece (piece ∷ pieces) = before (of_piece piece) (all_in of_piece pieces)

-- the pieces of a word, which full stops join
abbrev pub pieces_of : List ℕ → List (List ℕ)
pieces_of = slice_split (λ c. c == 46)

-- the numbers of a word's symbols: `-` has none, `=` stands before a text, and else pieces are joined by full stops
abbrev pub word_in : (List ℕ → Option ℕ) → (List ℕ → Option (List ℕ)) → List ℕ → Option (List ℕ)
word_in of_piece of_text text =
    cond (bytes_eq text (codes "-")) (Some []) (cond (slice_index text 0 == 61) (of_text (drop 1 text)) (all_in of_piece (pieces_of text)))

-- a word: its pieces joined by full stops, and `-` without symbols
abbrev pub text_of_word : {S : Type 0} → (S → List ℕ) → List S → List ℕ
text_of_word piece [] = codes "-"
text_of_word piece (s ∷ word) = piece s ++ flat_map (λ t. codes "." ++ piece t) word
