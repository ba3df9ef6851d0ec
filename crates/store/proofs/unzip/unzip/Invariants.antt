use Rattle.std.proofs.Common.{◌^◌, ◌<◌, map}
use Rattle.slots.specs.Searches.{SameSearch}
use Rattle.store.specs.Stores.{TableAlone, entry_of}
use Rattle.store.specs.Tables.{rooted}
use Rattle.store.specs.Unzips.{Unzipped}
use Rattle.store.proofs.Sides.{span}
use Rattle.store.proofs.Parting.{Going}
use Rattle.store.proofs.unzip.unzip.Given as goal

abbrev pub invariant-loop-at : goal.invariant-loop-at
invariant-loop-at g l =
    let first = l.initial.memory in
    Going g.S.Ordered.order g.S.Ordered.symbol first.strip.now first.limits.ceiling first.limits.capacity (map g.S.Ordered.symbol l.initial.search.word.now) first.table.now
    (Unzipped g.S.Ordered.order (entry_of g.S.Ordered.symbol first) first.limits.capacity (map g.S.Ordered.symbol l.initial.search.word.now) l.initial.search.shares.before l.initial.search.shares.after l.place (rooted first.table.now first.limits.capacity l.top) first.table.now)
    l.memory.table.now l.at l.low.place l.low.side l.high.place l.high.side l.search.shares
    × (l.at < 2 ^ 16)
    × TableAlone first l.memory
    × SameSearch l.initial.search l.search

abbrev pub decreases-loop-at : goal.decreases-loop-at
decreases-loop-at g l = span l.memory.table.now l.initial.memory.limits.capacity l.at
