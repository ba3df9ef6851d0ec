use Rattle.std.proofs.Common.{is_some, sym, ap, ◌∙◌}
use Rattle.store.specs.Stores.{entry_of}
use Rattle.store.proofs.Options.{some_mapped}
use Rattle.store.proofs.store.Store.holds.Goals as goal

pub returns : goal.returns
returns g c =
    c.is_some.ensures ∙ sym (some_mapped (entry_of g.S.Ordered.symbol c.args.self.now.memory) c.find.result.found) ∙ ap is_some c.find.ensures.walks.found
