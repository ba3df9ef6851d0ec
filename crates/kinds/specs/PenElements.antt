-- Pen elements: a lift, or a move with a direction 0 to 15 and a length class 0 to 3, in 1 byte.
use Rattle.std.specs.Prelude.{ℕ, ◌+◌, ◌*◌, cond, ◌&&◌, List, ◌++◌, Some, None, Option, codes, decimal, nat_lt}
use Rattle.kinds.specs.declared.pen.Direction.{Direction}
use Rattle.kinds.specs.declared.pen.Direction.TheVariants.{D0, D1, D2, D3, D4, D5, D6, D7, D8, D9, D10, D11, D12, D13, D14, D15}
use Rattle.kinds.specs.declared.pen.LengthClass.{LengthClass}
use Rattle.kinds.specs.declared.pen.LengthClass.TheVariants.{C0, C1, C2, C3}
use Rattle.kinds.specs.declared.pen.PenElement.{PenElement}
use Rattle.kinds.specs.declared.pen.PenElement.TheVariants.{Lift, Move}
use Rattle.kinds.specs.Codecs.{Codec, numbers_below}

abbrev pub direction_number : Direction → ℕ
direction_number D0 = 0
direction_number D1 = 1
direction_number D2 = 2
direction_number D3 = 3
direction_number D4 = 4
direction_number D5 = 5
direction_number D6 = 6
direction_number D7 = 7
direction_number D8 = 8
direction_number D9 = 9
direction_number D10 = 10
direction_number D11 = 11
direction_number D12 = 12
direction_number D13 = 13
direction_number D14 = 14
direction_number D15 = 15

abbrev pub class_number : LengthClass → ℕ
class_number C0 = 0
class_number C1 = 1
class_number C2 = 2
class_number C3 = 3

-- The number of an element, by which elements are ordered: a lift comes before every move, and moves go by direction, then by class.
abbrev pub element_number : PenElement → ℕ
element_number Lift = 0
element_number (Move d c) = 1 + 4 * direction_number d + class_number c

-- a direction and a class, where both are in range: the number of that move
abbrev pub as_move : ℕ → ℕ → Option ℕ
as_move d c = cond (nat_lt d 16 && nat_lt c 4) (Some (1 + 4 * d + c)) None

-- what is printed of an element: `0` for a lift, `D/C` for a move of direction D and length class C
abbrev pub element_text : PenElement → List ℕ
element_text Lift = codes "0"
element_text (Move d c) = decimal (direction_number d) ++ (codes "/" ++ decimal (class_number c))

-- 65 elements, each written as the byte of its number: a lift is 0, a move 1 + 4 × direction + class
abbrev pub pen_elements : Codec
pen_elements = numbers_below 65 1
