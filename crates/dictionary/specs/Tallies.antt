-- Slips and tallies: what a post answers, and what the tally holds afterwards.
use Rattle.std.specs.Prelude.{◌≡◌, ℕ, ◌+◌, ◌-◌, ◌*◌, ◌^◌, ◌≤◌, cond, List, [], ◌∷◌, length, take, Ok, Err, Result, nat_lt}
use Rattle.dictionary.specs.declared.tally.Slip.{Slip}
use Rattle.dictionary.specs.declared.tally.Sums.{Sums}
use Rattle.dictionary.specs.declared.tally.TallyFull.{TallyFull}

-- an open tally takes this many slips
abbrev pub most : ℕ
most = 1000000

-- what a new tally holds
abbrev pub no_lookups : Sums
no_lookups = record { lookups = 0; met = 0; pairs = 0 }

-- one lookup more, and what it cost
abbrev pub added : Sums → Slip → Sums
added s slip = record { lookups = s.lookups + 1; met = s.met + slip.met; pairs = s.pairs + slip.pairs }

-- what comes back of a post that is refused: the number of the refusal, and the slip
pub record Back : Type 0 where
  pub number : ℕ
  pub slip : Slip

abbrev pub refused_with : Slip → Back
refused_with slip = record { number = 10; slip = slip }

abbrev pub given_back : TallyFull → Back
given_back full = refused_with full.slip

-- what a post answers, and what the tally holds afterwards
pub record Posted : Type 0 where
  pub answer : Result (Unit {0}) Back
  pub after : Sums

-- A slip is taken while the tally has fewer than it takes. Else it comes back, and the tally stays as it was.
abbrev pub posted : Sums → Slip → Posted
posted s slip = cond (nat_lt s.lookups most) (record { answer = Ok tt; after = added s slip }) (record { answer = Err (refused_with slip); after = s })

abbrev pub posted_as : Result (Unit {0}) TallyFull → Result (Unit {0}) Back
posted_as (Ok u) = Ok tt
posted_as (Err full) = Err (given_back full)

-- What holds of every open tally, since a slip carries numbers of 32 bits: no sum outgrows 64 bits.
abbrev pub Within : Sums → Type 0
Within s = (s.lookups ≤ most) × (s.met ≤ s.lookups * (2 ^ 32 - 1)) × (s.pairs ≤ s.lookups * (2 ^ 32 - 1))

-- ---- whole runs

-- the sum of a number over slips
abbrev pub sum : (Slip → ℕ) → List Slip → ℕ
sum f [] = 0
sum f (slip ∷ slips) = f slip + sum f slips

-- the number of slips, and the sums of what they carry
abbrev pub sums_of : List Slip → Sums
sums_of slips = record { lookups = length slips; met = sum (λ s. s.met) slips; pairs = sum (λ s. s.pairs) slips }

-- what a tally holds after slips were posted to it in turn, each taken or refused
abbrev pub after_all : Sums → List Slip → Sums
after_all s [] = s
after_all s (slip ∷ slips) = after_all (posted s slip).after slips

-- Whatever slips are posted to a new tally, it holds the sums of the first 1,000,000 of them.
abbrev pub SumsUp : Type 0
SumsUp = (slips : List Slip) → after_all no_lookups slips ≡ sums_of (take most slips)
