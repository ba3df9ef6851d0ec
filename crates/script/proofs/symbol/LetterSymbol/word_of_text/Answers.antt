use Rattle.std.proofs.Common.{ℕ, List, Some, sym, ap, ◌∙◌}
use Rattle.std.proofs.lemmas.List.{map-id}
use Rattle.std.proofs.lemmas.Iterator.{YieldsList-from_chars}
use Rattle.std.proofs.lemmas.Iterator.Consumers.{YieldsList-at, YieldsList-end}
use Rattle.script.proofs.symbol.LetterSymbol.word_of_text.Goals as goal

pub returns : goal.returns
returns c =
    let (seen, _) = YieldsList-end (YieldsList-at c.into_iter-c-iterator.ensures.into_iter_gives (YieldsList-from_chars c.args.text.now c.utf8.text c.chars-c-items.ensures.rest)) c.loop-c.yielded _ c.loop-c.yielded_by _ _ c.in-None.is c.next.ensures.steps in
    ap (λ (l : List ℕ). Some l) (sym seen ∙ map-id c.loop-c.yielded ∙ sym c.loop-c.invariant)
