use Rattle.std.proofs.Common.{◌^◌, ◌<◌, map}
use Rattle.slots.specs.Searches.{SameSearch}
use Rattle.store.specs.Stores.{entry_of}
use Rattle.store.specs.Tables.{rooted, size}
use Rattle.store.proofs.Nearing.{Nearing}
use Rattle.store.proofs.store.Store.nearest.Given as goal

abbrev pub invariant-loop-at : goal.invariant-loop-at
invariant-loop-at g l =
    Nearing g.S.Ordered.order l.side (map g.S.Ordered.symbol l.word) (entry_of g.S.Ordered.symbol l.self.memory) l.self.memory.table.now l.self.memory.limits.capacity l.self.memory.top l.at l.search.shares l.best
    × SameSearch l.initial.search l.search
    × (l.at < 2 ^ 16)

abbrev pub decreases-loop-at : goal.decreases-loop-at
decreases-loop-at g l = size (rooted l.self.memory.table.now l.self.memory.limits.capacity l.at)
