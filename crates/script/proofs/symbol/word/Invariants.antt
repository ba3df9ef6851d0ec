use Rattle.std.proofs.Common.{length, map, vec_items}
use Rattle.script.specs.Texts.{pieces_of}
use Rattle.script.proofs.Words.{Read}
use Rattle.script.proofs.symbol.word.Given as goal

abbrev pub invariant-loop-piece : goal.invariant-loop-piece
invariant-loop-piece g l = Read g.S.Symbol.of_piece (pieces_of l.fn.text) (length l.yielded) (map g.S.Ordered.symbol (vec_items l.word))
