use Rattle.std.proofs.Common.{◌≡◌, map, Err, sym, refl, ap, ◌∙◌, subst}
use Rattle.std.proofs.lemmas.List.{length-map}
use Rattle.std.proofs.lemmas.Result.{err_from_is_err_and}
use Rattle.limits.specs.declared.refusal.Refusal.{Refusal}
use Rattle.limits.specs.Refusals.{word_refusal}
use Rattle.dictionary.specs.Dictionaries.{Answer, LookedUp, limits}
use Rattle.dictionary.proofs.Lookups.{refused, answered_with}
use Rattle.dictionary.proofs.dictionary.Dictionary.lookup_by.Goals as goal

pub returns-in_err-looked-clause-looked : goal.returns-in_err-looked-clause-looked
returns-in_err-looked-clause-looked g c =
    let p = err_from_is_err_and c.from_residual.result c.from_residual.ensures.1 in
    let d = c.args.self.now in
    let w = map g.S.Ordered.symbol c.args.word.now in
    let is : c.from_residual.result ≡ Err c.in_err-looked.field-0.0 = p.1 ∙ ap Err p.2 in
    subst (λ (r : Answer Refusal). LookedUp g.S.Ordered.order g.S.Ordered.symbol d w r) (sym is)
    (refused g.S.Ordered.order g.met.S.Ordered.lawful g.S.Ordered.symbol d w c.in_err-looked.field-0.0 (ap (word_refusal (limits d)) (length-map c.args.word.now g.S.Ordered.symbol) ∙ sym c.in_err-looked.ensures.refused))

pub returns-clause-looked : goal.returns-clause-looked
returns-clause-looked g c =
    let d = c.args.self.now in
    let k = c.in_ok-looked.ensures in
    answered_with g.S.Ordered.order g.met.S.Ordered.lawful g.S.Ordered.symbol d (map g.S.Ordered.symbol c.args.word.now) c.in_ok-looked.looked (k.looked c.in_ok-looked.looked refl) c.new.result c.new.ensures
    (ap (word_refusal (limits d)) (length-map c.args.word.now g.S.Ordered.symbol) ∙ sym k.refused)
