use Rattle.std.proofs.Common.{◌≡◌, vec_items}
use Rattle.std.specs.Slice.Iter.{chunks_rest, chunks_size}
use Rattle.script.specs.Texts.{hex_pairs}
use Rattle.script.proofs.Hex.{after}
use Rattle.script.proofs.text.bytes.Given as goal

abbrev pub invariant-loop-pair : goal.invariant-loop-pair
invariant-loop-pair l = (hex_pairs l.fn.text ≡ after (vec_items l.bytes) (hex_pairs (chunks_rest l.pair-iterator))) × (chunks_size l.pair-iterator ≡ 2)
