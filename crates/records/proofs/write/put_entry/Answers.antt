use Rattle.std.proofs.Common.{map, refl, arith}
use Rattle.std.specs.List.{flat_map}
use Rattle.kinds.proofs.Buffers.{over_next}
use Rattle.records.specs.Records.{head_bytes}
use Rattle.records.proofs.write.put_entry.Goals as goal

pub returns : goal.returns
returns g c =
    over_next c.args.rest.now (head_bytes c.args.numbers c.args.size) (flat_map g.S.Written.codec.bytes (map g.S.Ordered.symbol c.args.word.now))
    c.put_head.new.rest c.put_word.new.rest 0 16 c.put_head.ensures refl (omega arith) c.put_word.ensures
