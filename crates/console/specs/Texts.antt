-- What the console prints.
use Rattle.std.specs.Prelude.{ℕ, List, ◌++◌, Ok, Err, codes, decimal, Result, string_bytes}
use Rattle.std.specs.declared.cmp.Ordering.TheVariants.{Less, Equal, Greater}
use Rattle.std.specs.declared.cmp.Ordering.{Ordering}
use Rattle.limits.specs.Refusals.{Told, detail_text, told}
use Rattle.records.specs.Marks.{child_code}
use Rattle.records.specs.declared.record.Numbers.{Numbers}
use Rattle.records.specs.Reading.{Read}
use Rattle.records.specs.Records.{Content, closing, entry}
use Rattle.script.specs.Texts.{hex_text}
use Rattle.words.specs.declared.comparison.Comparison.{Comparison}
use Rattle.console.specs.declared.answer.Answer.{Answer}
use Rattle.console.specs.declared.answer.Answer.TheVariants.{Opened, Brought, Compared, Entry, Closing, Refused}
use Rattle.console.specs.declared.error.LineError.{LineError}
use Rattle.console.specs.declared.error.LineError.TheVariants.{BadCommand, NoDictionary, OutOfMemory}

abbrev pub order_text : Ordering → List ℕ
order_text Less = codes "before"
order_text Equal = codes "same"
order_text Greater = codes "after"

-- `entry CHILD WEIGHT TAG LEFT RIGHT SYMBOLHEX next P`
abbrev pub entry_text : Numbers → List ℕ → ℕ → List ℕ
entry_text numbers symbols next =
    codes "entry "
    ++ (decimal (child_code numbers.children)
    ++ (codes " "
    ++ (decimal numbers.weight
    ++ (codes " " ++ (decimal numbers.tag ++ (codes " " ++ (decimal numbers.left ++ (codes " " ++ (decimal numbers.right ++ (codes " " ++ (symbols ++ (codes " next " ++ decimal next))))))))))))

-- `closing COUNT next P`
abbrev pub closing_text : ℕ → ℕ → List ℕ
closing_text count next = codes "closing " ++ (decimal count ++ (codes " next " ++ decimal next))

-- a record of a sheet, and the place after it
abbrev pub record_text : Content → ℕ → List ℕ
record_text (entry numbers size symbols) next = entry_text numbers (hex_text symbols) next
record_text (closing count) next = closing_text count next

abbrev pub told_text : Told → List ℕ
told_text t = codes "refused " ++ (decimal t.number ++ detail_text t.detail)

-- what reading a record of a sheet comes to
abbrev pub reading_text : Result Read Told → List ℕ
reading_text (Ok r) = record_text r.content r.next
reading_text (Err t) = told_text t

abbrev pub comparison_text : Comparison → List ℕ
comparison_text c = order_text c.answer ++ (codes " shared " ++ (decimal c.share ++ (codes " pairs " ++ decimal c.pairs)))

abbrev pub brought_text : ℕ → ℕ → List ℕ
brought_text strip work = codes "bring " ++ (decimal strip ++ (codes " " ++ decimal work))

abbrev pub opened_text : ℕ → ℕ → List ℕ
opened_text capacity ceiling = codes "open capacity " ++ (decimal capacity ++ (codes " ceiling " ++ decimal ceiling))

abbrev pub answer_text : Answer → List ℕ
answer_text (Opened capacity ceiling) = opened_text capacity ceiling
answer_text (Brought strip work) = brought_text strip work
answer_text (Compared c) = comparison_text c
answer_text (Entry numbers symbols next) = entry_text numbers (string_bytes symbols) next
answer_text (Closing count next) = closing_text count next
answer_text (Refused refusal) = told_text (told refusal)

abbrev pub error_text : LineError → List ℕ
error_text BadCommand = codes "bad command"
error_text NoDictionary = codes "no dictionary"
error_text OutOfMemory = codes "out of memory"
