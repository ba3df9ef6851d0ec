-- What becomes of a line.
use Rattle.std.specs.Prelude.{◌≡◌, ◌⊎◌, ℕ, Bool, false, cond, is_some, map, slice_index_or, List, [], ◌∷◌, Some, None, Ok, Err, codes, IsSomeAnd, Option, Result}
use Rattle.std.specs.Borrow.{Bor}
use Rattle.std.specs.declared.cmp.Ordering.{Ordering}
use Rattle.std.specs.Option.{option_and_then, option_map}
use Rattle.std.specs.Str.{IsUtf8, bytes_eq, chars}
use Rattle.kinds.specs.Letters.{letters}
use Rattle.kinds.specs.Orders.{number_order}
use Rattle.kinds.specs.PenElements.{pen_elements}
use Rattle.limits.specs.Capacity.{limits_for}
use Rattle.records.specs.Reading.{record_at}
use Rattle.words.specs.Comparisons.{compared_from}
use Rattle.script.specs.declared.command.Command.{Command}
use Rattle.script.specs.declared.command.Command.TheVariants.{Open, Bring, Compare, Record}
use Rattle.script.specs.declared.command.Kind.{Kind}
use Rattle.script.specs.declared.command.Kind.TheVariants.{Letters, Pen}
use Rattle.script.specs.Commands.{command_of, words_of}
use Rattle.script.specs.declared.error.ReadError.{ReadError}
use Rattle.script.specs.declared.error.ReadError.TheVariants.{Unreadable, OutOfMemory as ReadOutOfMemory}
use Rattle.script.specs.Texts.{element_in, hex_bytes, letter_in, no_text, word_in}
use Rattle.console.specs.declared.answer.Answer.{Answer}
use Rattle.console.specs.declared.error.LineError.{LineError}
use Rattle.console.specs.declared.error.LineError.TheVariants.{BadCommand, NoDictionary, OutOfMemory}
use Rattle.console.specs.declared.session.Session.{Session}
use Rattle.console.specs.Texts.{answer_text, brought_text, comparison_text, opened_text, reading_text}

-- a part that cannot be read makes a bad command
abbrev pub line_error : ReadError → LineError
line_error Unreadable = BadCommand
line_error ReadOutOfMemory = OutOfMemory

-- the comparison of two words, where both can be read
abbrev pub words_text : (ℕ → ℕ → Ordering) → Option (List ℕ) → Option (List ℕ) → Option (List ℕ)
words_text order (Some u) (Some v) = Some (comparison_text (compared_from order 0 u v))
words_text order u v = None

-- the record at a place of a sheet, where the sheet can be read
abbrev pub sheet_text : ℕ → ℕ → Option (List ℕ) → Option (List ℕ)
sheet_text width place sheet = option_map (λ s. reading_text (record_at width s place)) sheet

-- what a command prints on an open dictionary of a kind, by the kind's order, its width, and how its pieces and texts are read; or nothing
abbrev pub command_text : (ℕ → ℕ → Ordering) → ℕ → (List ℕ → Option ℕ) → (List ℕ → Option (List ℕ)) → Command → Option (List ℕ)
command_text order width of_piece of_text (Bring strip work) = Some (brought_text strip work)
command_text order width of_piece of_text (Compare first second) = words_text order (word_in of_piece of_text first.now) (word_in of_piece of_text second.now)
command_text order width of_piece of_text (Record hex place) = sheet_text width place (hex_bytes hex.now)
command_text order width of_piece of_text command = None

-- an open dictionary answers what the line says, and where it says nothing the line is a bad command; memory alone may fail it otherwise
abbrev pub Prints : Option (List ℕ) → Result Answer LineError → Type 0
Prints said (Ok answer) = said ≡ Some (answer_text answer)
Prints said (Err BadCommand) = said ≡ None
Prints said (Err NoDictionary) = ⊥
Prints said (Err OutOfMemory) = Unit {0}

-- what a command prints on an open dictionary
abbrev pub kind_text : Kind → Command → Option (List ℕ)
kind_text Letters command = command_text number_order letters.width letter_in (λ text. Some (chars text)) command
kind_text Pen command = command_text number_order pen_elements.width element_in no_text command

-- whether the first word of a line is `open`
abbrev pub asks_open : List (Bor (List ℕ)) → Bool
asks_open [] = false
asks_open (name ∷ words) = bytes_eq name.now (codes "open")

-- what becomes of a line that opens no dictionary; before any is open it isn't even read, but for an `open`
abbrev pub AnswersLine : Option Session → List (Bor (List ℕ)) → Result Answer LineError → Type 0
AnswersLine None words r = r ≡ Err (cond (asks_open words) BadCommand NoDictionary)
AnswersLine (Some session) words r = Prints (option_and_then (kind_text session.kind) (command_of words)) r

-- what becomes of a line: an `open` prints the limits in force in the new dictionary, and any other asks the open one
abbrev pub RunsLine : Option Session → List (Bor (List ℕ)) → Option Command → Result Answer LineError → Option Session → Type 0
RunsLine old words (Some (Open kind table strip ceiling)) r new =
    let limits = limits_for table strip ceiling in
    Prints (Some (opened_text limits.capacity limits.ceiling)) r × IsSomeAnd new (λ session. (session.kind ≡ kind) × (session.limits ≡ limits))
RunsLine old words command r new = AnswersLine old words r

-- what becomes of the words of a line
abbrev pub RunsWords : Option Session → List ℕ → Result Answer LineError → Option Session → Type 0
RunsWords old line r new = (words : List (Bor (List ℕ))) × (map (λ w. w.now) words ≡ words_of line) × RunsLine old words (command_of words) r new

-- what becomes of a line: it is passed over only where it is empty, begins with `#` or has no words, and it may be no text
abbrev pub RunsText : Option Session → List ℕ → Result (Option Answer) LineError → Option Session → Type 0
RunsText old line (Ok None) new = ((slice_index_or line 0 35 ≡ 35) ⊎ (words_of line ≡ [])) × (new ≡ old)
RunsText old line (Ok (Some answer)) new = RunsWords old line (Ok answer) new
RunsText old line (Err OutOfMemory) new = Unit {0}
RunsText old line (Err e) new = ((¬ (IsUtf8 line)) × (e ≡ cond (is_some old) BadCommand NoDictionary)) ⊎ RunsWords old line (Err e) new
