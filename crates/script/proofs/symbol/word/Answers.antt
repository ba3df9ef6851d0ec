use Rattle.std.proofs.Common.{◌≡◌, ◌+◌, [], ◌∷◌, ◌++◌, length, map, drop, vec_items, Some, None, sym, refl, ap, ◌∙◌, lit<}
use Rattle.std.proofs.lemmas.List.{map-append, length_push}
use Rattle.std.proofs.lemmas.Slice.{pushed}
use Rattle.std.proofs.lemmas.Iterator.Consumers.{YieldsList-at, YieldsList-turn, YieldsList-end}
use Rattle.std.proofs.lemmas.Iterator.Splits.{YieldsList-from_str_split}
use Rattle.script.specs.Texts.{all_in, pieces_of}
use Rattle.script.proofs.Hex.{after}
use Rattle.script.proofs.Words.{word_is, one_read, none_read, all_read}
use Rattle.script.proofs.symbol.word.Goals as goal

pub returns-in_default-of_piece-clause-symbols : goal.returns-in_default-of_piece-clause-symbols
returns-in_default-of_piece-clause-symbols g c =
    let road = YieldsList-at c.into_iter-piece-iterator.ensures.into_iter_gives (YieldsList-from_str_split 46 c.args.text.now (lit< tt) c.split-piece-items.ensures.text c.split-piece-items.ensures.has_more c.split-piece-items.ensures.pattern) in
    let (room, is) = YieldsList-turn road c.loop-piece.yielded _ c.loop-piece.yielded_by _ _ c.in-Some-piece.piece c.in-Some-piece.is c.next.ensures.steps in
    word_is g.S.Symbol.of_piece g.S.Symbol.of_text c.args.text.now c.if-eq.ensures c.in_default.ensures.cases None
    (none_read g.S.Symbol.of_piece (pieces_of c.args.text.now) (length c.loop-piece.yielded) c.in-Some-piece.piece.now (map g.S.Ordered.symbol (vec_items c.loop-piece.word)) room is c.loop-piece.invariant c.in_default-of_piece.ensures)

pub loop-piece-preserved : goal.loop-piece-preserved
loop-piece-preserved g c =
    let road = YieldsList-at c.into_iter-piece-iterator.ensures.into_iter_gives (YieldsList-from_str_split 46 c.args.text.now (lit< tt) c.split-piece-items.ensures.text c.split-piece-items.ensures.has_more c.split-piece-items.ensures.pattern) in
    let (room, is) = YieldsList-turn road c.loop-piece.yielded _ c.loop-piece.yielded_by _ _ c.in-Some-piece.piece c.in-Some-piece.is c.next.ensures.steps in
    let sort = g.S.Ordered.symbol in
    let pieces = pieces_of c.args.text.now in
    let longer : length c.loop-piece.yielded + 1 ≡ length (c.loop-piece.yielded ++ (c.in-Some-piece.piece ∷ [])) = sym (length_push c.loop-piece.yielded c.in-Some-piece.piece) in
    let items : map sort (vec_items c.loop-piece.word) ++ (sort c.in-Some-of_piece.symbol ∷ []) ≡ map sort (vec_items c.push.new.self) =
    sym (ap (map sort) (pushed (c.in-Some-of_piece.symbol ∷ []) refl c.in_ok-push.was c.push.ensures.items) ∙ map-append sort (vec_items c.loop-piece.word) (c.in-Some-of_piece.symbol ∷ [])) in
    one_read g.S.Symbol.of_piece pieces (length c.loop-piece.yielded) c.in-Some-piece.piece.now (map sort (vec_items c.loop-piece.word)) room is c.loop-piece.invariant (sort c.in-Some-of_piece.symbol) c.in-Some-of_piece.ensures
    ∙ (λ i. after (items i) (all_in g.S.Symbol.of_piece (drop (longer i) pieces)))

pub returns-clause-symbols : goal.returns-clause-symbols
returns-clause-symbols g c =
    let road = YieldsList-at c.into_iter-piece-iterator.ensures.into_iter_gives (YieldsList-from_str_split 46 c.args.text.now (lit< tt) c.split-piece-items.ensures.text c.split-piece-items.ensures.has_more c.split-piece-items.ensures.pattern) in
    let (_, end) = YieldsList-end road c.loop-piece.yielded _ c.loop-piece.yielded_by _ _ c.in-None.is c.next.ensures.steps in
    let symbols = map g.S.Ordered.symbol (vec_items c.loop-piece.word) in
    word_is g.S.Symbol.of_piece g.S.Symbol.of_text c.args.text.now c.if-eq.ensures c.in_default.ensures.cases (Some symbols)
    (all_read g.S.Symbol.of_piece (pieces_of c.args.text.now) (length c.loop-piece.yielded) symbols end c.loop-piece.invariant)
