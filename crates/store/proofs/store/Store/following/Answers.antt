use Rattle.std.proofs.Common.{map, length, Some, sym, ap, ◌∙◌, arith}
use Rattle.std.specs.Option.{option_map}
use Rattle.slots.specs.declared.slot.Side.TheVariants.{Right}
use Rattle.store.specs.Entries.{listed_at, listing}
use Rattle.store.specs.Stores.{places}
use Rattle.store.specs.Tables.{slot_at}
use Rattle.store.proofs.Listing.{nearest_listed}
use Rattle.store.proofs.Props.{filled_out}
use Rattle.store.proofs.Tables.{in_strip, in_table}
use Rattle.store.proofs.store.Store.following.Goals as goal

pub entry-requires : goal.entry-requires
entry-requires g c =
    let m = c.args.self.now.memory in
    let sound = (filled_out c.args.self.now.filled).sound in
    let i = c.nearest.ensures.held c.in_ok-place.place c.in_ok-place.was in
    let below = in_table m.table.now m.limits.capacity m.top c.in_ok-place.place (places m) sound.stands i in
    record {
      slot = (let r = sound.room in omega arith);
      word = in_strip c.in_ok-place.place m.limits.capacity m.limits.ceiling (slot_at m.table.now c.in_ok-place.place).length (length m.strip.now) below (sound.words c.in_ok-place.place i) sound.strip;
    }

pub returns-in_err-place : goal.returns-in_err-place
returns-in_err-place g c = λ K.
    let m = c.args.self.now.memory in
    let sound = (filled_out c.args.self.now.filled).sound in
    ap (option_map (listing g.S.Ordered.symbol)) c.from_residual.ensures
    ∙ sym (ap (option_map (listed_at g.S.Ordered.symbol m)) c.in_err-place.was)
    ∙ nearest_listed g.S.Ordered.order g.met.S.Ordered.lawful g.S.Ordered.symbol m sound.stands K Right (map g.S.Ordered.symbol c.args.word.now) c.nearest.result c.nearest.ensures.entry c.nearest.ensures.held

pub returns : goal.returns
returns g c = λ K.
    let m = c.args.self.now.memory in
    let sound = (filled_out c.args.self.now.filled).sound in
    ap Some c.entry.ensures
    ∙ sym (ap (option_map (listed_at g.S.Ordered.symbol m)) c.in_ok-place.was)
    ∙ nearest_listed g.S.Ordered.order g.met.S.Ordered.lawful g.S.Ordered.symbol m sound.stands K Right (map g.S.Ordered.symbol c.args.word.now) c.nearest.result c.nearest.ensures.entry c.nearest.ensures.held
