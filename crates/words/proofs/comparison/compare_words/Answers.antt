use Rattle.std.proofs.Common.{map}
use Rattle.words.proofs.Steps.{tells}
use Rattle.words.proofs.comparison.compare_words.Goals as goal

pub returns-clause-tells : goal.returns-clause-tells
returns-clause-tells g c = tells g.S.Ordered.order g.met.S.Ordered.lawful (map g.S.Ordered.symbol c.args.a.now) (map g.S.Ordered.symbol c.args.b.now) _ c.compare_from.ensures.value
