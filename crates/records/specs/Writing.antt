-- Writing one record into a buffer from a place on.
use Rattle.std.specs.Prelude.{◌≡◌, ℕ, ◌+◌, Bool, true, cond, ◌&&◌, List, length, Some, None, Ok, Option, nat_le, nat_lt}
use Rattle.std.specs.List.{flat_map}
use Rattle.kinds.specs.Bytes.{over}
use Rattle.kinds.specs.Codecs.{Codec}
use Rattle.records.specs.declared.record.Numbers.{Numbers}
use Rattle.records.specs.Reading.{record_at}
use Rattle.records.specs.Records.{Content, entry, closing, record_bytes}

-- the record of an entry with a word of a kind's symbols
abbrev pub entry_of : Codec → Numbers → List ℕ → Content
entry_of c n word = entry n (length word) (flat_map c.bytes word)

-- its word length fits two bytes
abbrev pub fits_size : Content → Bool
fits_size (entry n size symbols) = nat_lt size 65536
fits_size (closing count) = true

-- a record is written where its word length fits and it has room in the buffer from the place on
abbrev pub fits_at : Content → List ℕ → ℕ → Bool
fits_at c buffer place = fits_size c && nat_le (place + length (record_bytes c)) (length buffer)

-- reading at the place where a record was written gives that record, and the place after it
abbrev pub ReadsBack : ℕ → Content → List ℕ → ℕ → Option ℕ → Type 0
ReadsBack width c buffer place None = Unit {0}
ReadsBack width c buffer place (Some next) = record_at width buffer place ≡ Ok (record { content = c; next = next })

-- What writing a record from a place on answers, and what it leaves in the buffer.
pub record Puts (width : ℕ) (c : Content) (place : ℕ) (before after : List ℕ) (answer : Option ℕ) : Type 0 where
  -- the place after the record, or none where it is not written
  pub next : answer ≡ cond (fits_at c before place) (Some (place + length (record_bytes c))) None
  -- the record's bytes over the buffer from the place on and every other byte as it was, or all as it was
  pub buffer : after ≡ cond (fits_at c before place) (over place (record_bytes c) before) before
  pub reads_back : ReadsBack width c after place answer
