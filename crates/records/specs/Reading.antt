-- Reading one record at a place of a sheet.
use Rattle.std.specs.Prelude.{◌≡◌, ℕ, ◌+◌, ◌*◌, cond, List, length, take, drop, Some, None, Ok, Err, Option, Result, nat_lt, slice_index}
use Rattle.kinds.specs.Bytes.{number_of}
use Rattle.kinds.specs.Codecs.{Iff}
use Rattle.limits.specs.Refusals.{Told, refused_at}
use Rattle.records.specs.declared.mark.Mark.{Mark}
use Rattle.records.specs.declared.mark.Mark.TheVariants.{Entry, Closing}
use Rattle.records.specs.declared.record.Head.{Head}
use Rattle.records.specs.declared.record.Head.TheVariants.{EntryHead, ClosingHead}
use Rattle.records.specs.Marks.{mark_of}
use Rattle.records.specs.Records.{Content, entry, closing, Proper, Stands, record_bytes}

-- the number in so many bytes of a record, from an offset on
abbrev pub field : ℕ → ℕ → List ℕ → ℕ
field offset size b = number_of (take size (drop offset b))

-- refused with 11 where a record that begins at a place has fewer bytes than it needs
abbrev pub unless_short : {A : Type 0} → ℕ → ℕ → List ℕ → Result A Told → Result A Told
unless_short place need b r = cond (nat_lt (length b) need) (Err (refused_at 11 place)) r

-- the numbers after the mark
abbrev pub after_mark : ℕ → List ℕ → Option Mark → Result Head Told
after_mark place b None = Err (refused_at 12 place)
after_mark place b (Some Closing) = unless_short place 4 b (Ok (ClosingHead (field 2 2 b)))
after_mark place b (Some (Entry c)) =
    unless_short place 16 b
    (Ok (EntryHead (record { children = c; weight = field 2 4 b; tag = field 6 4 b; left = field 10 2 b; right = field 12 2 b }) (field 14 2 b)))

-- The mark and the numbers of a record whose bytes, from its place on, are b.
-- Its causes of refusal, in their order: mark not there (11), mark of no record (12), numbers not there (11).
abbrev pub head_in : ℕ → List ℕ → Result Head Told
head_in place b = unless_short place 2 b (after_mark place b (mark_of (slice_index b 0) (slice_index b 1)))

abbrev pub head_at : List ℕ → ℕ → Result Head Told
head_at sheet place = head_in place (drop place sheet)

-- a record, and the place after it
pub record Read : Type 0 where
  pub content : Content
  pub next : ℕ

-- the symbols after the numbers; refused where their bytes are not there (11)
abbrev pub with_symbols : ℕ → ℕ → List ℕ → Result Head Told → Result Read Told
with_symbols width place b (Err r) = Err r
with_symbols width place b (Ok (ClosingHead count)) = Ok (record { content = closing count; next = place + 4 })
with_symbols width place b (Ok (EntryHead n size)) =
    unless_short place (16 + size * width) b
    (Ok (record { content = entry n size (take (size * width) (drop 16 b)); next = place + (16 + size * width) }))

abbrev pub record_in : ℕ → ℕ → List ℕ → Result Read Told
record_in width place b = with_symbols width place b (head_in place b)

-- The record at a place of a sheet, for a kind of this width. Nothing stands past the end of the sheet.
abbrev pub record_at : ℕ → List ℕ → ℕ → Result Read Told
record_at width sheet place = record_in width place (drop place sheet)

-- A record is read exactly if it stands there, and then the place after it is where its bytes end.
abbrev pub ReadsExactly : ℕ → List ℕ → ℕ → Type 0
ReadsExactly width sheet place =
    (c : Content) (next : ℕ) →
    Iff (record_at width sheet place ≡ Ok (record { content = c; next = next })) (Proper width c × Stands c sheet place × (next ≡ place + length (record_bytes c)))
