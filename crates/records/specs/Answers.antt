-- What the record call answers, in the words of the rules.
use Rattle.std.specs.Prelude.{◌≡◌, ℕ, ◌+◌, ◌≤◌, List, length, Ok, Err, Result}
use Rattle.std.specs.Borrow.{Bor}
use Rattle.limits.specs.declared.refusal.Refusal.{Refusal}
use Rattle.records.specs.declared.record.Head.{Head}
use Rattle.records.specs.declared.record.Head.TheVariants.{EntryHead, ClosingHead}
use Rattle.records.specs.declared.record.Record.{Record}
use Rattle.records.specs.declared.record.Record.TheVariants.{Entry, Closing}
use Rattle.records.specs.Records.{Content, entry, closing}
use Rattle.records.specs.Reading.{Read}

abbrev pub content_of : Record → Content
content_of (Entry numbers length symbols) = entry numbers length symbols.now
content_of (Closing count) = closing count

abbrev pub read_of : Record × ℕ → Read
read_of r = record { content = content_of r.0; next = r.1 }

-- The symbol bytes are not a copy: they are the part of the caller's own sheet that begins 16 bytes after the mark.
abbrev pub PartOf : Bor (List ℕ) → ℕ → Result (Record × ℕ) Refusal → Type 0
PartOf sheet at (Ok (Entry numbers length symbols, next)) = (symbols.ref_ptr.0 ≡ sheet.ref_ptr.0) × (symbols.ref_ptr.1 ≡ sheet.ref_ptr.1 + (at + 16))
PartOf sheet at (Ok (Closing count, next)) = Unit {0}
PartOf sheet at (Err r) = Unit {0}

-- a head that is answered lies within the sheet
abbrev pub HeadWithin : ℕ → List ℕ → Result Head Refusal → Type 0
HeadWithin at sheet (Ok (EntryHead numbers size)) = at + 16 ≤ length sheet
HeadWithin at sheet (Ok (ClosingHead count)) = at + 4 ≤ length sheet
HeadWithin at sheet (Err r) = Unit {0}
