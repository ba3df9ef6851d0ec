use Rattle.std.proofs.Common.{◌≡◌, map, vec_items}
use Rattle.kinds.specs.Letters.{code_point}
use Rattle.script.proofs.symbol.LetterSymbol.word_of_text.Given as goal

abbrev pub invariant-loop-c : goal.invariant-loop-c
invariant-loop-c l = map code_point (vec_items l.word) ≡ l.yielded
