use Rattle.std.proofs.Common.{◌^◌, ◌<◌, map}
use Rattle.words.specs.Counting.{RaisedBy}
use Rattle.slots.specs.Searches.{SameSearch}
use Rattle.store.specs.Stores.{entry_of}
use Rattle.store.specs.Tables.{rooted, size}
use Rattle.store.proofs.Walks.{Walking}
use Rattle.store.proofs.store.Store.find.Given as goal

abbrev pub invariant-loop-at : goal.invariant-loop-at
invariant-loop-at g l =
    Walking g.S.Ordered.order (map g.S.Ordered.symbol l.word) (entry_of g.S.Ordered.symbol l.self.memory) l.self.memory.table.now l.self.memory.limits.capacity l.self.memory.top l.at l.search.shares l.met l.pairs
    × RaisedBy l.pairs (g.C.Comparer.asked l.initial.search.comparer.now) (g.C.Comparer.asked l.search.comparer.now)
    × SameSearch l.initial.search l.search
    × (l.at < 2 ^ 16)

abbrev pub decreases-loop-at : goal.decreases-loop-at
decreases-loop-at g l = size (rooted l.self.memory.table.now l.self.memory.limits.capacity l.at)
