use Rattle.std.proofs.Common.{◌≡◌, ℕ, ◌-◌, ◌*◌, ◌≤◌, List, map, length, take, drop, sym, ap, ◌∙◌, arith}
use Rattle.std.specs.List.{flat_map}
use Rattle.std.proofs.lemmas.List.{length-map, length-take-le, length-drop, take_rest}
use Rattle.std.proofs.lemmas.Bool.{cond-true, le-leb}
use Rattle.kinds.specs.Bytes.{over}
use Rattle.kinds.proofs.Buffers.{over_next}
use Rattle.records.proofs.Symbols.{joined_step, length_joined, room}
use Rattle.records.proofs.write.put_word.Goals as goal

pub loop-i-preserved : goal.loop-i-preserved
loop-i-preserved g c =
    let f = g.S.Written.codec.bytes in
    let symbol = g.S.Ordered.symbol in
    let width = g.S.Written.codec.width in
    let i = c.loop-i.i in
    let word = c.args.word.now in
    let rest = c.loop-i.rest in
    let at : ℕ = i * c.width_of-width.result in
    let done : List ℕ = flat_map f (map symbol (take i word)) in
    let next : List ℕ = f (symbol c.index-word-i.result) in
    let is : at ≡ i * width = ap (λ (w : ℕ). i * w) c.width_of-width.ensures.value in
    let k = room i (length word) width (omega arith) in
    let len = c.loop-i.auto.rest in
    let many : length (map symbol (take i word)) ≡ i = length-map (take i word) symbol ∙ length-take-le i word (omega arith) in
    let long : length done ≡ i * width = length_joined f width g.met.S.Written.faithful.wide (map symbol (take i word)) ∙ ap (λ (n : ℕ). n * width) many in
    let lent : List ℕ = take (length rest - at) (drop at rest) in
    let fits : width ≤ length lent = simp (take_rest, length-drop) (omega arith) in
    let wrote : c.write.new.out ≡ over 0 next lent =
    c.write.ensures.after ∙ cond-true c.write.result (over 0 next lent) lent (c.write.ensures.room ∙ le-leb width (length lent) fits) in
    over_next c.args.rest.now done next rest c.write.new.out 0 at c.loop-i.invariant (omega arith) (omega arith) wrote
    ∙ ap (λ t. over 0 t c.args.rest.now) (sym (joined_step f symbol word i c.index-word-i.result (omega arith) c.index-word-i.is))
