use Rattle.std.proofs.Common.{rules, vec_items, ap, ◌∙◌, arith}
use Rattle.std.specs.Slice.Iter.{chunks_rest}
use Rattle.script.specs.Texts.{hex_pairs}
use Rattle.script.proofs.Hex.{after, pair_more}
use Rattle.script.proofs.text.bytes.Goals as goal

pub loop-pair-preserved : goal.loop-pair-preserved
loop-pair-preserved c =
    let (read, two) = c.loop-pair.invariant in
    let step = c.in-Some.ensures.steps in (
      pair_more c.args.text.now c.in-Some.pair.now (chunks_rest c.next.new.self) (vec_items c.loop-pair.bytes) (vec_items c.push.new.self) c.in-Some-byte.byte
          (read ∙ ap (λ ds. after (vec_items c.loop-pair.bytes) (hex_pairs ds)) step.1.0) (omega arith) c.in-Some-byte.ensures (search rules),
      search rules,
    )
