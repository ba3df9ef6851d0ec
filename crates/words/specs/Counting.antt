-- Counts of what was asked, kept in 32 bits.
use Rattle.std.specs.Prelude.{◌≡◌, ℕ, ◌+◌, ◌^◌, ◌<◌}

-- A count is raised by so many where the sum fits 32 bits. Of one that doesn't fit, nothing is said.
abbrev pub RaisedBy : ℕ → ℕ → ℕ → Type 0
RaisedBy n before after = before + n < 2 ^ 32 → after ≡ before + n
