use Rattle.std.proofs.Common.{map, sym, refl, ap, ◌∙◌, arith}
use Rattle.std.specs.Option.{option_map}
use Rattle.rules.specs.Walks.{lookup}
use Rattle.store.specs.Entries.{LookedOf, held_of}
use Rattle.store.specs.Stores.{entry_of, places, tree}
use Rattle.store.proofs.Options.{mapped_mapped, ok_is}
use Rattle.store.proofs.Props.{filled_out}
use Rattle.store.proofs.Tables.{in_table}
use Rattle.store.proofs.store.Store.lookup.Goals as goal

pub held-requires : goal.held-requires
held-requires g c = λ p e.
    let m = c.args.self.now.memory in
    let sound = (filled_out c.args.self.now.filled).sound in
    let i = in_table m.table.now m.limits.capacity m.top p (places m) sound.stands ((c.in_ok-walk.ensures.walked c.in_ok-walk.walk refl).held p e) in
    let room = sound.room in
    omega arith

pub returns-clause-looked : goal.returns-clause-looked
returns-clause-looked g c =
    let m = c.args.self.now.memory in
    let x = c.in_ok-walk.ensures.walked c.in_ok-walk.walk refl in
    λ y e. ok_is (LookedOf (lookup g.S.Ordered.order (map g.S.Ordered.symbol c.args.word.now) 0 0 (tree g.S.Ordered.symbol m))) _ y e (record {
      found = c.held.ensures ∙ sym (mapped_mapped (entry_of g.S.Ordered.symbol m) held_of c.in_ok-walk.walk.found) ∙ ap (option_map held_of) x.found;
      met = x.met;
      pairs = x.pairs;
    })
