use Rattle.dictionary.proofs.Runs.{sums_up}
use Rattle.dictionary.proofs.tally.OpenTally.new.Goals as goal

pub returns-clause-runs : goal.returns-clause-runs
returns-clause-runs c = sums_up
