-- Refusals: the number of each, and what comes with it.
use Rattle.std.specs.Prelude.{ℕ, cond, List, [], ◌++◌, Some, None, Ok, Err, codes, decimal, Option, Result, ◌==◌, nat_lt}
use Rattle.limits.specs.declared.bounds.Limits.{Limits}
use Rattle.limits.specs.declared.refusal.Refusal.{Refusal}
use Rattle.limits.specs.declared.refusal.Refusal.TheVariants.{NoSymbols, AboveCeiling, WordHeld, CapacityReached, WordNotHeld, StripShort, WorkStripShort, BufferShort, NotEmpty, RecordEnds, MarkImpossible, WordLength, NoSuchSymbol, BeyondCapacity, OutOfOrder, NotOutranked, WrongLength, ClosingWrong}
use Rattle.limits.specs.declared.refusal.Detail.{Detail}
use Rattle.limits.specs.declared.refusal.Detail.TheVariants.{Nothing, Length, Place}

-- the number of a refusal, and what comes with it: nothing, a length or a place
pub record Told : Type 0 where
  pub number : ℕ
  pub detail : Detail

-- refused with this number, and nothing comes with it
abbrev pub refused : ℕ → Told
refused n = record { number = n; detail = Nothing }

-- refused with this number, at a place
abbrev pub refused_at : ℕ → ℕ → Told
refused_at n place = record { number = n; detail = Place place }

abbrev pub told : Refusal → Told
told NoSymbols = refused 1
told AboveCeiling = refused 2
told WordHeld = refused 3
told CapacityReached = refused 4
told WordNotHeld = refused 5
told StripShort = refused 6
told WorkStripShort = refused 7
told (BufferShort length) = record { number = 8; detail = Length length }
told NotEmpty = refused 9
told (RecordEnds place) = refused_at 11 place
told (MarkImpossible place) = refused_at 12 place
told (WordLength place) = refused_at 13 place
told (NoSuchSymbol place) = refused_at 14 place
told (BeyondCapacity place) = refused_at 15 place
told (OutOfOrder place) = refused_at 16 place
told (NotOutranked place) = refused_at 17 place
told (WrongLength place) = refused_at 18 place
told (ClosingWrong place) = refused_at 19 place

-- an answer, with a refusal by its number and what comes with it
abbrev pub answered : {A B : Type 0} → (A → B) → Result A Refusal → Result B Told
answered f (Ok x) = Ok (f x)
answered f (Err r) = Err (told r)

-- why an answer is a refusal, if it is one
abbrev pub refusal_of : {A : Type 0} → Result A Refusal → Option Told
refusal_of (Ok x) = None
refusal_of (Err r) = Some (told r)

-- a word without symbols is refused with 1, and one above the ceiling with 2
abbrev pub word_refusal : Limits → ℕ → Option Told
word_refusal limits symbols = cond (symbols == 0) (Some (refused 1)) (cond (nat_lt limits.ceiling symbols) (Some (refused 2)) None)

abbrev pub detail_text : Detail → List ℕ
detail_text Nothing = []
detail_text (Length n) = codes " length " ++ decimal n
detail_text (Place n) = codes " at " ++ decimal n

-- what is printed of a refusal, as `refused 8 length 300` or `refused 11 at 16`
abbrev pub refusal_text : Refusal → List ℕ
refusal_text r = codes "refused " ++ (decimal (told r).number ++ detail_text (told r).detail)
