use Rattle.std.proofs.Common.{rules, ◌≡◌, ℕ, ◌+◌, ◌-◌, ◌<◌, ◌≤◌, List, length, drop, get_or, length-drop, ap, ◌∙◌, arith}
use Rattle.std.specs.List.{slice_range}
use Rattle.std.proofs.lemmas.List.{get_or-drop, take_all}
use Rattle.script.proofs.text.line_end.Goals as goal

-- what is not in the rest of a script is not there from the rest's place on
beyond : (script rest : List ℕ) (from n : ℕ) → rest ≡ slice_range script from (length script) → ((j : ℕ) → j < n → get_or rest j 0 ≡ 10 → ⊥) → (k : ℕ) → from ≤ k → k < from + n → get_or script k 0 ≡ 10 → ⊥
beyond script rest from n is none k low high e =
    let rest_is : rest ≡ drop from script = is ∙ take_all (length script - from) (drop from script) (omega (arith, length-drop from script)) in
    none (k - from) (omega arith) (ap (λ l. get_or l (k - from) 0) rest_is ∙ get_or-drop from script (k - from) 0 ∙ ap (λ (i : ℕ). get_or script i 0) (omega arith) ∙ e)

pub returns-in-Some-position-clause-line : goal.returns-in-Some-position-clause-line
returns-in-Some-position-clause-line c = beyond c.args.script.now c.in-Some.rest.now c.args.from c.in-Some-position.at c.in-Some.ensures.lookup.0.2 (search rules)

pub returns-in-None-clause-line : goal.returns-in-None-clause-line
returns-in-None-clause-line c k low high =
    beyond c.args.script.now c.in-Some.rest.now c.args.from (length c.in-Some.rest.now) c.in-Some.ensures.lookup.0.2 (search rules) k low (let l = c.in-Some.ensures.lookup.0.3 in omega arith)
