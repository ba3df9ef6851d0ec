use Rattle.std.proofs.Common.{◌∙◌, rules}
use Rattle.script.proofs.Numerals.{parsed}
use Rattle.script.proofs.text.number.Goals as goal

pub returns : goal.returns
returns c = c.ok.ensures.value ∙ parsed 64 c.args.text.now c.parse.result c.parse.ensures.value.0 (search rules)
