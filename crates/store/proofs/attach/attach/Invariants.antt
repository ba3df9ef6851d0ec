use Rattle.std.proofs.Common.{◌^◌, ◌<◌}
use Rattle.slots.specs.Searches.{SameSearch}
use Rattle.store.specs.Stores.{entry_of, places}
use Rattle.store.specs.Unzips.{Grown, inserted_at}
use Rattle.store.proofs.Sides.{span}
use Rattle.store.proofs.Growing.{Descending}
use Rattle.store.proofs.attach.attach.Given as goal

abbrev pub invariant-loop-at : goal.invariant-loop-at
invariant-loop-at g l =
    let m = l.memory in
    let entry = entry_of g.S.Ordered.symbol m in
    Descending g.S.Ordered.order entry m.limits.ceiling m.limits.capacity l.place
    (Grown m.limits.capacity m.table.now l.place (places m) (inserted_at g.S.Ordered.order entry l.place 0 0 (places m)))
    m.top m.table.now l.above l.at l.search.shares
    × (l.at < 2 ^ 16)
    × SameSearch l.initial.search l.search

abbrev pub decreases-loop-at : goal.decreases-loop-at
decreases-loop-at g l = span l.memory.table.now l.memory.limits.capacity l.at
