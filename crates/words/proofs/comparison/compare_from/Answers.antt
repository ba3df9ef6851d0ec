use Rattle.std.proofs.Common.{◌≡◌, ℕ, ◌-◌, min, List, map, length, take, drop, sym, ap, ◌∙◌, inl, inr, arith, rules}
use Rattle.std.proofs.lemmas.List.{length-map, drop-map, take_rest}
use Rattle.std.proofs.lemmas.Cmp.{ranked}
use Rattle.words.specs.Comparisons.{start}
use Rattle.words.proofs.Steps.{agreed_none, differs, ends, from_start, as_from_the_start}
use Rattle.words.proofs.comparison.compare_from.Goals as goal

-- the words of the two strips are as long as the strips, so the comparison starts where the code does
starts : {S : Type 0} (symbol : S → ℕ) (a b : List S) (from e s : ℕ) → e ≡ min (length a) (length b) → s ≡ min from e → s ≡ start from (map symbol a) (map symbol b)
starts symbol a b from e s he hs = let la = length-map a symbol in let lb = length-map b symbol in omega arith

-- what is left of a strip is what is left of its word
left_of : {S : Type 0} (symbol : S → ℕ) (a rest : List S) (s : ℕ) → rest ≡ take (length a - s) (drop s a) → map symbol rest ≡ drop s (map symbol a)
left_of symbol a rest s e = ap (map symbol) (e ∙ take_rest a s) ∙ sym (drop-map symbol s a)

pub loop-met-init : goal.loop-met-init
loop-met-init g c =
    let symbol = g.S.Ordered.symbol in
    let s = c.min-start.result in
    let a = c.args.a.now in
    let b = c.args.b.now in
    let left : c.into_iter-met-iterator.result.iter.a.rest.now ≡ take (length a - s) (drop s a) = cc in
    let right : c.into_iter-met-iterator.result.iter.b.rest.now ≡ take (length b - s) (drop s b) = cc in
    let n : c.into_iter-met-iterator.result.count ≡ 0 = search rules in
    let fits = starts symbol a b c.args.from c.min-end.result s c.min-end.ensures c.min-start.ensures in
    rw n (agreed_none g.S.Ordered.order s (map symbol a) (map symbol b) _ _ (left_of symbol a _ s left) (left_of symbol b _ s right) (omega arith), λ q. omega arith)

pub returns-in_default : goal.returns-in_default
returns-in_default g c =
    let symbol = g.S.Ordered.symbol in
    let order = g.S.Ordered.order in
    let law = g.met.S.Ordered.lawful in
    let s = c.min-start.result in
    let m = c.loop-met.met-iterator.count in
    let u = map symbol c.args.a.now in
    let v = map symbol c.args.b.now in
    let steps = c.in-Some.ensures.steps in
    let agreed = rw (steps.0.0, steps.0.1) at c.loop-met.invariant.0 in
    let d = differs order s u v law m (symbol c.in-Some.x.now) (symbol c.in-Some.y.now) _ _ agreed c.ask.result c.ask.ensures.answers c.in_default.not-Equal in
    let value = from_start order c.args.from u v s _ (starts symbol c.args.a.now c.args.b.now c.args.from c.min-end.result s c.min-end.ensures c.min-start.ensures) d in
    rw steps.1
    (record {
      value = value;
      whole = as_from_the_start order law u v c.args.from _ value;
      asked = λ q. (let e = c.loop-met.invariant.1 (omega arith) in let f = c.ask.ensures.counts (omega arith) in omega arith);
    })

pub returns-clause-value : goal.returns-clause-value
returns-clause-value g c =
    let symbol = g.S.Ordered.symbol in
    let order = g.S.Ordered.order in
    let s = c.min-start.result in
    let a = c.args.a.now in
    let b = c.args.b.now in
    let x = c.loop-met.met-iterator.iter.a.rest.now in
    let y = c.loop-met.met-iterator.iter.b.rest.now in
    let la = length-map a symbol in
    let lb = length-map b symbol in
    let lx = length-map x symbol in
    let ly = length-map y symbol in
    let none : min (length (map symbol x)) (length (map symbol y)) ≡ 0 = elim c.in-None.ensures.steps.0 [ inl h ↦ (let e = h.1.0 in omega arith) | inr h ↦ (let e = h.1.0 in omega arith) ] in
    let d = ends order s (map symbol a) (map symbol b) c.loop-met.met-iterator.count c.min-end.result _ _ c.cmp.result c.loop-met.invariant.0 none (omega arith) (rw (la, lb) (ranked (length a) (length b) c.cmp.result c.cmp.ensures)) in
    from_start order c.args.from (map symbol a) (map symbol b) s _ (starts symbol a b c.args.from c.min-end.result s c.min-end.ensures c.min-start.ensures) d

pub returns-clause-whole : goal.returns-clause-whole
returns-clause-whole g c =
    as_from_the_start g.S.Ordered.order g.met.S.Ordered.lawful (map g.S.Ordered.symbol c.args.a.now) (map g.S.Ordered.symbol c.args.b.now) c.args.from _ (returns-clause-value g c)
