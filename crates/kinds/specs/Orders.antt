-- Orders: what a comparison that says before, same or after owes.
use Rattle.std.specs.Prelude.{◌≡◌, ℕ, cond, nat_lt}
use Rattle.std.specs.declared.cmp.Ordering.TheVariants.{Less, Equal, Greater}
use Rattle.std.specs.declared.cmp.Ordering.{Ordering}
use Rattle.std.specs.Ordering.{ordering_reverse}

-- It says same exactly when both are one and the same; swapping the two swaps before and after;
-- if a is before b and b before c, a is before c.
pub record Lawful {A : Type 0} (order : A → A → Ordering) : Type 0 where
  pub itself : (a : A) → order a a ≡ Equal
  pub same : (a b : A) → order a b ≡ Equal → a ≡ b
  pub swaps : (a b : A) → order b a ≡ ordering_reverse (order a b)
  pub chains : (a b c : A) → order a b ≡ Less → order b c ≡ Less → order a c ≡ Less

-- numbers, the smaller one before
abbrev pub number_order : ℕ → ℕ → Ordering
number_order a b = cond (nat_lt a b) Less (cond (nat_lt b a) Greater Equal)
