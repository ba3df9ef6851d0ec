use Rattle.std.proofs.Common.{◌≡◌, ◌*◌, Ok, sym, ap, ◌∙◌, arith}
use Rattle.kinds.proofs.Buffers.{bytes_typed}
use Rattle.records.specs.declared.record.Head.{Head}
use Rattle.records.specs.declared.record.Head.TheVariants.{EntryHead}
use Rattle.records.specs.Reading.{head_at}
use Rattle.records.proofs.Exactly.{reads_exactly, entry_answered}
use Rattle.records.proofs.read.read_record.Goals as goal

pub returns-in-ClosingHead-clause-exactly : goal.returns-in-ClosingHead-clause-exactly
returns-in-ClosingHead-clause-exactly g c =
    reads_exactly g.S.Written.codec.width c.args.sheet.now c.args.at (bytes_typed c.args.sheet.now c.type_inv.sheet)

pub returns-then-sheet-next-clause-exactly : goal.returns-then-sheet-next-clause-exactly
returns-then-sheet-next-clause-exactly g c =
    reads_exactly g.S.Written.codec.width c.args.sheet.now c.args.at (bytes_typed c.args.sheet.now c.type_inv.sheet)

pub returns-else-sheet-next-clause-exactly : goal.returns-else-sheet-next-clause-exactly
returns-else-sheet-next-clause-exactly g c =
    reads_exactly g.S.Written.codec.width c.args.sheet.now c.args.at (bytes_typed c.args.sheet.now c.type_inv.sheet)

pub returns-else-sheet-next-clause-value : goal.returns-else-sheet-next-clause-value
returns-else-sheet-next-clause-value g c =
    let sheet = c.args.sheet.now in
    let at = c.args.at in
    let width = g.S.Written.codec.width in
    let size = c.in-EntryHead.length in
    let wide : c.from.result * c.width_of.result ≡ size * width = (λ j. c.from.ensures j * c.width_of.ensures.value j) in
    let head : Ok (EntryHead c.in-EntryHead.numbers size) ≡ head_at sheet at = ap (λ (x : Head). Ok x) (sym c.in-EntryHead.is) ∙ c.in_ok-count.ensures.value in
    entry_answered width at size (c.from.result * c.width_of.result) sheet c.in-EntryHead.numbers wide head (omega arith)
