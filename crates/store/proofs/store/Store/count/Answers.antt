use Rattle.std.proofs.Common.{sym}
use Rattle.store.proofs.Answering.{held_count}
use Rattle.store.proofs.Props.{filled_out}
use Rattle.store.proofs.store.Store.count.Goals as goal

pub returns : goal.returns
returns g c = sym (held_count g.S.Ordered.symbol c.args.self.now.memory (filled_out c.args.self.now.filled))
