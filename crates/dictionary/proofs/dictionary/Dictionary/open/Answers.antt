use Rattle.dictionary.proofs.Trees.{same_tree}
use Rattle.dictionary.proofs.dictionary.Dictionary.open.Goals as goal

pub returns-clause-alike : goal.returns-clause-alike
returns-clause-alike g c = same_tree g.S.Ordered.order g.met.S.Ordered.lawful g.S.Ordered.symbol
