-- A function on what an option holds, and what an answer holds.
use Rattle.std.proofs.Common.{◌≡◌, is_some, Some, None, Ok, Option, Result, refl, subst}
use Rattle.std.specs.Option.{option_map}

pub some_mapped : {A B : Type 0} (f : A → B) (o : Option A) → is_some (option_map f o) ≡ is_some o
some_mapped f None = refl
some_mapped f (Some x) = refl

pub mapped_mapped : {A B C : Type 0} (f : A → B) (g : B → C) (o : Option A) → option_map g (option_map f o) ≡ option_map (λ x. g (f x)) o
mapped_mapped f g None = refl
mapped_mapped f g (Some x) = refl

-- what holds of an answer holds of what it is
pub ok_is : {A B : Type 0} (P : A → Type 0) (x y : A) → ◌≡◌ {A = Result A B} (Ok x) (Ok y) → P x → P y
ok_is P x y e h = let f : x ≡ y = cc in subst P f h
