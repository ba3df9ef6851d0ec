-- The limits of a dictionary: its word ceiling and its capacity.
use Rattle.std.specs.Prelude.{ℕ, ◌/◌, min, max}
use Rattle.limits.specs.declared.bounds.Limits.{Limits}

-- A ceiling of 0 is taken as 1, and one above 1,024 as 1,024.
abbrev pub ceiling_for : ℕ → ℕ
ceiling_for asked = min (max asked 1) 1024

-- The smallest of the table's length, the strip's length divided by the ceiling in force without remainder, and 16,383.
abbrev pub capacity_for : ℕ → ℕ → ℕ → ℕ
capacity_for table strip asked = min (min table (strip / ceiling_for asked)) 16383

abbrev pub limits_for : ℕ → ℕ → ℕ → Limits
limits_for table strip asked = record { ceiling = ceiling_for asked; capacity = capacity_for table strip asked }
