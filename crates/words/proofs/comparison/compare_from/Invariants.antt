use Rattle.std.proofs.Common.{map}
use Rattle.words.specs.Counting.{RaisedBy}
use Rattle.words.proofs.Steps.{Agreed}
use Rattle.words.proofs.comparison.compare_from.Given as goal

-- the words have agreed so far, and what the iterator has left is what is left of them
abbrev pub invariant-loop-met : goal.invariant-loop-met
invariant-loop-met g l =
    Agreed g.S.Ordered.order l.start (map g.S.Ordered.symbol l.a) (map g.S.Ordered.symbol l.b) l.met-iterator.count (map g.S.Ordered.symbol l.met-iterator.iter.a.rest.now) (map g.S.Ordered.symbol l.met-iterator.iter.b.rest.now)
    × RaisedBy l.met-iterator.count (g.C.Comparer.asked l.initial.comparer) (g.C.Comparer.asked l.comparer)
