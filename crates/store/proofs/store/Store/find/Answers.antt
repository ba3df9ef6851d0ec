use Rattle.std.proofs.Common.{◌+◌, ◌<◌, map, length, Some, sym, ap, ◌∙◌, subst, arith}
use Rattle.words.specs.declared.comparison.Comparison.{Comparison}
use Rattle.slots.specs.declared.search.Shares.{Shares}
use Rattle.slots.specs.Searches.{passed}
use Rattle.store.specs.Lookups.{WalkOf}
use Rattle.store.specs.Stores.{entry_of, places}
use Rattle.store.specs.Tables.{slot_at}
use Rattle.store.proofs.Props.{filled_out}
use Rattle.store.proofs.Searching.{for_word}
use Rattle.store.proofs.Tables.{in_strip, stored_short}
use Rattle.store.proofs.Walks.{Going, Walking, begin, inside_here, within, toward, go, found_here, not_found}
use Rattle.store.proofs.store.Store.find.Given as given
use Rattle.store.proofs.store.Store.find.Goals as goal
use Rattle.store.proofs.store.Store.find.Goals.{in-Less, in-Greater}

pub loop-at-init : goal.loop-at-init
loop-at-init g c =
    let m = c.args.self.now.memory in
    let sound = (filled_out c.args.self.now.filled).sound in (
      subst (λ (k : Shares). Walking g.S.Ordered.order (map g.S.Ordered.symbol c.args.word.now) (entry_of g.S.Ordered.symbol m) m.table.now m.limits.capacity m.top m.top k 0 0) (sym c.new-search.ensures.nothing_met)
          (begin g.S.Ordered.order (map g.S.Ordered.symbol c.args.word.now) (entry_of g.S.Ordered.symbol m) m.table.now m.limits.capacity m.top sound.stands sound.fits
          (λ p i. (let s = stored_short g.S.Ordered.symbol m.table.now m.strip.now m.limits.ceiling p in let w = sound.words p i in let l = sound.short in omega arith))),
      λ q. omega arith,
      record { word = λ i. c.new-search.result.word; comparer = λ i. c.new-search.result.comparer.ghost_name },
      omega arith,
    )

pub compare-step-requires : goal.compare-step-requires
compare-step-requires g c =
    let m = c.args.self.now.memory in
    let sound = (filled_out c.args.self.now.filled).sound in
    let room = sound.room in
    let below : c.loop-at.at < m.limits.capacity = omega arith in
    record {
      slot = omega arith;
      word = in_strip c.loop-at.at m.limits.capacity m.limits.ceiling (slot_at m.table.now c.loop-at.at).length (length m.strip.now)
          below (sound.words c.loop-at.at (inside_here c.loop-at.invariant.0 below)) sound.strip;
    }

pub overflow_add-met : goal.overflow_add-met
overflow_add-met g c = omega (arith, (filled_out c.args.self.now.filled).sound.few)

pub overflow_cast-pairs : goal.overflow_cast-pairs
overflow_cast-pairs g c =
    let e = for_word g.S.Ordered.order g.S.Ordered.symbol c.args.self.now.memory c.loop-at.at c.loop-at.search.shares c.compare-step.ensures.value (c.loop-at.invariant.2.word ∙ c.new-search.ensures.word_is) in
    let few = ap (λ (y : Comparison). y.pairs) e in
    let b = within c.loop-at.invariant.0 (omega arith) in
    omega (arith, few, b.pairs)

pub overflow_add-pairs : goal.overflow_add-pairs
overflow_add-pairs g c =
    let e = for_word g.S.Ordered.order g.S.Ordered.symbol c.args.self.now.memory c.loop-at.at c.loop-at.search.shares c.compare-step.ensures.value (c.loop-at.invariant.2.word ∙ c.new-search.ensures.word_is) in
    let few = ap (λ (y : Comparison). y.pairs) e in
    let b = within c.loop-at.invariant.0 (omega arith) in
    omega (arith, few, b.pairs, (filled_out c.args.self.now.filled).sound.few)

pub returns-in-Equal-clause-walks : goal.returns-in-Equal-clause-walks
returns-in-Equal-clause-walks g c =
    let m = c.args.self.now.memory in
    let e = for_word g.S.Ordered.order g.S.Ordered.symbol c.args.self.now.memory c.loop-at.at c.loop-at.search.shares c.compare-step.ensures.value (c.loop-at.invariant.2.word ∙ c.new-search.ensures.word_is) in
    subst (λ (k : Shares). WalkOf g.S.Ordered.order (map g.S.Ordered.symbol c.args.word.now) (entry_of g.S.Ordered.symbol m) (places m) (record { found = Some c.loop-at.at; met = c.loop-at.met + 1; pairs = c.loop-at.pairs + c.compare-step.result.pairs; shares = k }))
    (sym c.compare-step.ensures.shares)
    (found_here c.loop-at.invariant.0 (omega arith) c.compare-step.result e c.in-Equal.is)

pub child-at-requires : goal.child-at-requires
child-at-requires g c = omega (arith, (filled_out c.args.self.now.filled).sound.room)

-- to the side that the answer says
onward : (g : given.Over) (c : goal.After-child-at g) → Going c.loop-at.invariant.0 (omega arith) c.compare-step.result (for_word g.S.Ordered.order g.S.Ordered.symbol c.args.self.now.memory c.loop-at.at c.loop-at.search.shares c.compare-step.ensures.value (c.loop-at.invariant.2.word ∙ c.new-search.ensures.word_is)) c.child-at.result c.pass.new.self.shares
onward g c =
    let e = for_word g.S.Ordered.order g.S.Ordered.symbol c.args.self.now.memory c.loop-at.at c.loop-at.search.shares c.compare-step.ensures.value (c.loop-at.invariant.2.word ∙ c.new-search.ensures.word_is) in
    go c.loop-at.invariant.0 (omega arith) c.compare-step.result e c.match-step.side c.child-at.result c.pass.new.self.shares
    (elim c.match-step.branch [ in-Less w ↦ w.in-Less.is ∙ ap toward (sym w.side-is) | in-Greater w ↦ w.in-Greater.is ∙ ap toward (sym w.side-is) ]) c.child-at.ensures
    (c.pass.ensures.shares ∙ ap (passed c.match-step.side c.compare-step.result.share) c.compare-step.ensures.shares)

pub loop-at-smaller : goal.loop-at-smaller
loop-at-smaller g c = (onward g c).1

pub loop-at-preserved : goal.loop-at-preserved
loop-at-preserved g c = (
  (onward g c).0,
  λ q. (let a = c.loop-at.invariant.1 (omega arith) in let b = c.compare-step.ensures.asked (omega arith) in omega (arith, ap g.C.Comparer.asked c.pass.ensures.comparer)),
  record { word = c.pass.ensures.same.word ∙ c.compare-step.ensures.same.word ∙ c.loop-at.invariant.2.word; comparer = c.pass.ensures.same.comparer ∙ c.compare-step.ensures.same.comparer ∙ c.loop-at.invariant.2.comparer },
  omega arith,
)

pub returns-clause-walks : goal.returns-clause-walks
returns-clause-walks g c = not_found c.loop-at.invariant.0 (omega arith)
