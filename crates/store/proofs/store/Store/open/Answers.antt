use Rattle.std.proofs.Common.{length, refl}
use Rattle.store.proofs.Empty.{empty, filled_empty, kept_empty}
use Rattle.store.proofs.store.Store.open.Goals as goal

pub invariant_of-result : goal.invariant_of-result
invariant_of-result g c = record { filled = ∣ filled_empty c.args.table.now (length c.args.strip.now) c.args.ceiling c.new-limits.result c.new-limits.ensures ∣₁ }

pub returns : goal.returns
returns g c =
    let none = empty c.args.table.now (length c.args.strip.now) c.args.ceiling c.new-limits.result c.new-limits.ensures in
    record {
      opened = record { limits = c.new-limits.ensures; table_kept = refl; strip_kept = refl; empty = none; none = refl };
      kept = kept_empty g.S.Ordered.order g.S.Ordered.symbol (record { table = c.args.table; strip = c.args.strip; limits = c.new-limits.result; top = 65535; count = 0 }) none;
    }
