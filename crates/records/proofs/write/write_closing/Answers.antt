use Rattle.std.proofs.Common.{◌+◌, length, refl, arith}
use Rattle.records.specs.Records.{closing}
use Rattle.records.proofs.Putting.{put, room_there}
use Rattle.records.proofs.write.write_closing.Goals as goal

pub returns : goal.returns
returns c width =
    let h = room_there (c.args.at + 4) (length c.args.sheet.now) c.in_ok-next.next c.in_ok-next.ensures in
    put width (closing c.args.count) c.args.at c.in_ok-next.next c.args.sheet.now c.put_closing.new.rest (omega arith) refl h.0 (omega arith) c.put_closing.ensures
