-- Letters and pen elements keep what their kinds owe. The types that owe these laws can cite, of this crate, only what stands in specs/.
use Rattle.std.specs.Prelude.{◌≡◌, true}
use Rattle.std.proofs.Common.{rules, arith}
use Rattle.kinds.specs.declared.letter.Letter.{Letter}
use Rattle.kinds.specs.declared.pen.PenElement.{PenElement}
use Rattle.kinds.specs.Codecs.{Faithful}
use Rattle.kinds.specs.Letters.{code_point, letters}
use Rattle.kinds.specs.Orders.{Lawful, number_order}
use Rattle.kinds.specs.PenElements.{element_number, pen_elements}
use Rattle.kinds.specs.Codes.{numbers_faithful}

-- the order of numbers is an order
pub number_order_lawful : Lawful number_order
number_order_lawful = search rules

pub letters_faithful : Faithful letters
letters_faithful = numbers_faithful 1114112 3 (omega arith) (omega arith) (omega arith)

-- each value is a letter
pub each_letter : (l : Letter) → letters.has (code_point l) ≡ true
each_letter l = search rules

pub pen_elements_faithful : Faithful pen_elements
pen_elements_faithful = numbers_faithful 65 1 (omega arith) (omega arith) (omega arith)

-- each value is a pen element
pub each_element : (e : PenElement) → pen_elements.has (element_number e) ≡ true
each_element e = search rules
