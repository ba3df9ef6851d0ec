-- A word that is not refused keeps the ceiling.
use Rattle.std.proofs.Common.{◌≡◌, ℕ, ◌≤◌, Bool, true, false, cond, eqb, ltb, Some, None, refl, arith}
use Rattle.std.proofs.lemmas.Bool.{ltb-false}
use Rattle.limits.specs.declared.bounds.Limits.{Limits}
use Rattle.limits.specs.Refusals.{refused, word_refusal}

pub word_fits : (limits : Limits) (symbols : ℕ) → word_refusal limits symbols ≡ None → symbols ≤ limits.ceiling
word_fits limits symbols h = at (eqb symbols 0) (ltb limits.ceiling symbols) (ltb-false limits.ceiling symbols) h
  where
    at : (a b : Bool) → (b ≡ false → symbols ≤ limits.ceiling) → cond a (Some (refused 1)) (cond b (Some (refused 2)) None) ≡ None → symbols ≤ limits.ceiling
    at true b f e = absurd (let z : ◌≡◌ {A = ℕ} 0 1 = cc in let y : ⊥ = omega arith in y)
    at false true f e = absurd (let z : ◌≡◌ {A = ℕ} 0 1 = cc in let y : ⊥ = omega arith in y)
    at false false f e = f refl
