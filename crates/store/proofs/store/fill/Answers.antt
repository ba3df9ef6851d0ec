use Rattle.std.proofs.Common.{ℕ, ◌+◌, ◌*◌, ap, ◌∙◌, arith}
use Rattle.store.specs.Tables.{overwritten}
use Rattle.store.proofs.Adding.{attach_free, filled_by}
use Rattle.store.proofs.store.fill.Goals as goal

pub attach-requires-clause-free : goal.attach-requires-clause-free
attach-requires-clause-free g c =
    let m = c.args.memory.now in
    let w = c.args.word.now in
    attach_free g.S.Ordered.order g.S.Ordered.symbol m w c.requires c.args.weight c.args.tag c.unlinked.result c.unlinked.ensures c.put_word.new.strip
    (c.put_word.ensures ∙ ap (λ (n : ℕ). overwritten (m.count * n) w m.strip.now) c.ceiling-ceiling.ensures)

pub returns : goal.returns
returns g c =
    let m = c.args.memory.now in
    let w = c.args.word.now in
    let e = c.put_word.ensures ∙ ap (λ (n : ℕ). overwritten (m.count * n) w m.strip.now) c.ceiling-ceiling.ensures in
    let a = c.attach.new.memory in
    filled_by g.S.Ordered.order g.S.Ordered.symbol m w c.requires c.args.weight c.args.tag c.unlinked.result c.unlinked.ensures c.put_word.new.strip e
    (record { table = a.table; strip = a.strip; limits = a.limits; top = a.top; count = m.count + 1 }) c.attach.ensures.rest.strip c.attach.ensures.rest.limits (omega arith) c.attach.ensures.tree
