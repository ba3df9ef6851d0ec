use Rattle.std.proofs.Common.{◌≡◌, map, take}
use Rattle.std.specs.List.{flat_map}
use Rattle.kinds.specs.Bytes.{over}
use Rattle.records.proofs.write.put_word.Given as goal

abbrev pub invariant-loop-i : goal.invariant-loop-i
invariant-loop-i g l =
    l.rest ≡ over 0 (flat_map g.S.Written.codec.bytes (map g.S.Ordered.symbol (take l.i l.word))) l.initial.rest
