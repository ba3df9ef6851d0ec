use Rattle.std.proofs.Common.{drop, ◌∙◌, arith}
use Rattle.records.proofs.Fronts.{front_is, mark_is, field_two, field_four, closing_read, entry_read}
use Rattle.records.proofs.read.read_head.Goals as goal

pub returns-in_ok-head-in-Closing-clause-value : goal.returns-in_ok-head-in-Closing-clause-value
returns-in_ok-head-in-Closing-clause-value c =
    let at = c.args.at in
    let b = drop at c.args.sheet.now in
    let first = front_is at b 2 _ c.in_ok-bytes.ensures in
    let head = front_is at b 4 _ c.in_ok-head-in-Closing.ensures in
    let mark = mark_is at b _ c.try_from.result _ _ _ first.1 c.try_from.ensures c.in_ok-mark.ensures.variant c.in_ok-mark.ensures.cases c.in-Closing.is in
    let count = field_two at b 4 2 _ c.part.result head.0 head.1 c.part.ensures (omega arith) in
    closing_read at b c.from_be_bytes.result mark head.0 (c.from_be_bytes.ensures ∙ count)

pub returns-in_ok-head-in-Entry-clause-value : goal.returns-in_ok-head-in-Entry-clause-value
returns-in_ok-head-in-Entry-clause-value c =
    let at = c.args.at in
    let b = drop at c.args.sheet.now in
    let first = front_is at b 2 _ c.in_ok-bytes.ensures in
    let head = front_is at b 16 _ c.in_ok-head-in-Entry.ensures in
    let mark = mark_is at b _ c.try_from.result _ _ _ first.1 c.try_from.ensures c.in_ok-mark.ensures.variant c.in_ok-mark.ensures.cases c.in-Entry.is in
    entry_read at b _ _ mark head.0
    (c.from_be_bytes-in-Entry.ensures ∙ field_four at b 16 2 _ c.part-in-Entry.result head.0 head.1 c.part-in-Entry.ensures (omega arith))
    (c.from_be_bytes-in-Entry-2.ensures ∙ field_four at b 16 6 _ c.part-in-Entry-2.result head.0 head.1 c.part-in-Entry-2.ensures (omega arith))
    (c.from_be_bytes-in-Entry-3.ensures ∙ field_two at b 16 10 _ c.part-in-Entry-3.result head.0 head.1 c.part-in-Entry-3.ensures (omega arith))
    (c.from_be_bytes-in-Entry-4.ensures ∙ field_two at b 16 12 _ c.part-in-Entry-4.result head.0 head.1 c.part-in-Entry-4.ensures (omega arith))
    (c.from_be_bytes-in-Entry-5.ensures ∙ field_two at b 16 14 _ c.part-in-Entry-5.result head.0 head.1 c.part-in-Entry-5.ensures (omega arith))
