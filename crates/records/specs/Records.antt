-- Records and their bytes. All numbers stand high byte first.
use Rattle.std.specs.Prelude.{◌≡◌, ℕ, ◌*◌, ◌^◌, ◌<◌, List, ◌∷◌, ◌++◌, length, take, drop}
use Rattle.kinds.specs.Bytes.{Bytes, high_first}
use Rattle.records.specs.declared.record.Numbers.{Numbers}
use Rattle.records.specs.Marks.{child_code}

-- What a record says: of an entry its numbers, how many symbols its word has and the bytes of these; of a closing record the count of entries.
pub data Content : Type 0 where
  entry : Numbers → ℕ → List ℕ → Content
  closing : ℕ → Content

-- An entry's mark and numbers: weight 4 bytes, tag 4, left length 2, right length 2, word length 2.
abbrev pub head_bytes : Numbers → ℕ → List ℕ
head_bytes n size =
    69 ∷ (child_code n.children ∷ (high_first 4 n.weight ++ (high_first 4 n.tag ++ (high_first 2 n.left ++ (high_first 2 n.right ++ high_first 2 size)))))

abbrev pub closing_bytes : ℕ → List ℕ
closing_bytes count = 90 ∷ (0 ∷ high_first 2 count)

abbrev pub record_bytes : Content → List ℕ
record_bytes (entry n size symbols) = head_bytes n size ++ symbols
record_bytes (closing count) = closing_bytes count

-- each number fits its bytes, and the symbols have the kind's width
pub record ProperEntry (width : ℕ) (n : Numbers) (size : ℕ) (symbols : List ℕ) : Type 0 where
  pub weight : n.weight < 2 ^ 32
  pub tag : n.tag < 2 ^ 32
  pub left : n.left < 2 ^ 16
  pub right : n.right < 2 ^ 16
  pub size_fits : size < 2 ^ 16
  pub wide : length symbols ≡ size * width
  pub bytes : Bytes symbols

abbrev pub Proper : ℕ → Content → Type 0
Proper width (entry n size symbols) = ProperEntry width n size symbols
Proper width (closing count) = count < 2 ^ 16

-- the record stands in the sheet from a place on
abbrev pub Stands : Content → List ℕ → ℕ → Type 0
Stands c sheet place = take (length (record_bytes c)) (drop place sheet) ≡ record_bytes c
