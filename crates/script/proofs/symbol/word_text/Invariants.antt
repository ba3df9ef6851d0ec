use Rattle.std.proofs.Common.{◌≡◌, ◌++◌, take, string_bytes}
use Rattle.std.specs.List.{flat_map}
use Rattle.script.proofs.Words.{dotted}
use Rattle.script.proofs.symbol.word_text.Given as goal

abbrev pub invariant-loop-symbol : goal.invariant-loop-symbol
invariant-loop-symbol g l = string_bytes l.text ≡ string_bytes l.initial.text ++ flat_map (dotted g.S.Symbol.piece) (take l.symbol-index l.rest)
