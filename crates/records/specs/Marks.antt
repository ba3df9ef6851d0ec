-- The two-byte marks that stand before records.
use Rattle.std.specs.Prelude.{ℕ, cond, ◌&&◌, Some, None, Option, ◌==◌}
use Rattle.std.specs.Option.{option_map}
use Rattle.records.specs.declared.mark.Children.{Children}
use Rattle.records.specs.declared.mark.Children.TheVariants.{Neither, Left, Right, Both}
use Rattle.records.specs.declared.mark.Mark.{Mark}
use Rattle.records.specs.declared.mark.Mark.TheVariants.{Entry, Closing}

-- 0 for no child, 1 for left only, 2 for right only, 3 for both
abbrev pub child_code : Children → ℕ
child_code Neither = 0
child_code Left = 1
child_code Right = 2
child_code Both = 3

abbrev pub children_of : ℕ → Option Children
children_of n =
    cond (n == 0) (Some Neither) (cond (n == 1) (Some Left) (cond (n == 2) (Some Right) (cond (n == 3) (Some Both) None)))

-- An entry's mark is 69 and its child code; the closing mark is 90 and 0; no record has another.
abbrev pub mark_of : ℕ → ℕ → Option Mark
mark_of a b = cond (a == 69) (option_map Entry (children_of b)) (cond (a == 90 && b == 0) (Some Closing) None)
