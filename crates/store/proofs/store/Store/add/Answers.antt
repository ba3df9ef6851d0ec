use Rattle.std.proofs.Common.{◌≡◌, map, sym, refl, ap, ◌∙◌, arith}
use Rattle.std.proofs.lemmas.List.{length-map}
use Rattle.limits.specs.Refusals.{word_refusal}
use Rattle.limits.proofs.Words.{word_fits}
use Rattle.rules.specs.Entries.{Entry}
use Rattle.store.proofs.Props.{filled_out}
use Rattle.store.proofs.Answering.{held_count, word_held, capacity_reached, entry_added}
use Rattle.store.proofs.store.Store.add.Goals as goal

pub fill-requires : goal.fill-requires
fill-requires g c = record {
  filled = filled_out c.args.self.now.filled;
  room = omega (arith, c.capacity.ensures, c.if-self-capacity.false);
  short = word_fits c.args.self.now.memory.limits _ (sym c.in_ok-check_word.ensures);
}

pub returns-then-holds-clause-added : goal.returns-then-holds-clause-added
returns-then-holds-clause-added g c =
    let m = c.args.self.now.memory in
    let e : Entry = record { word = map g.S.Ordered.symbol c.args.word.now; weight = c.args.weight; tag = c.args.tag } in
    let l = length-map c.args.word.now g.S.Ordered.symbol in
    word_held g.S.Ordered.order g.met.S.Ordered.lawful g.S.Ordered.symbol e m (ap (word_refusal m.limits) l ∙ sym c.in_ok-check_word.ensures) (sym c.holds.ensures ∙ c.if-holds.true)

pub returns-then-self-capacity-clause-added : goal.returns-then-self-capacity-clause-added
returns-then-self-capacity-clause-added g c =
    let m = c.args.self.now.memory in
    let e : Entry = record { word = map g.S.Ordered.symbol c.args.word.now; weight = c.args.weight; tag = c.args.tag } in
    let l = length-map c.args.word.now g.S.Ordered.symbol in
    capacity_reached g.S.Ordered.order g.met.S.Ordered.lawful g.S.Ordered.symbol e m (ap (word_refusal m.limits) l ∙ sym c.in_ok-check_word.ensures) (filled_out c.args.self.now.filled) (sym c.holds.ensures ∙ c.if-holds.false)
    (omega (arith, c.capacity.ensures, c.if-self-capacity.true))

pub returns-clause-added : goal.returns-clause-added
returns-clause-added g c =
    let m = c.args.self.now.memory in
    let e : Entry = record { word = map g.S.Ordered.symbol c.args.word.now; weight = c.args.weight; tag = c.args.tag } in
    let l = length-map c.args.word.now g.S.Ordered.symbol in
    entry_added g.S.Ordered.order g.met.S.Ordered.lawful g.S.Ordered.symbol e m (ap (word_refusal m.limits) l ∙ sym c.in_ok-check_word.ensures) (filled_out c.args.self.now.filled) (sym c.holds.ensures ∙ c.if-holds.false)
    (omega (arith, c.capacity.ensures, c.if-self-capacity.false)) c.fill.new.memory c.fill.ensures c.fill.new.memory.count refl

pub returns-clause-counted : goal.returns-clause-counted
returns-clause-counted g c = λ n e.
    let m = c.args.self.now.memory in
    let is : c.fill.new.memory.count ≡ n = cc in
    omega (arith, is, c.fill.ensures.counted, held_count g.S.Ordered.symbol m (filled_out c.args.self.now.filled))
