use Rattle.std.proofs.Common.{◌<◌, None, map, length, sym, ap, ◌∙◌, subst, arith}
use Rattle.slots.specs.declared.search.Shares.{Shares}
use Rattle.slots.specs.Searches.{passed}
use Rattle.store.specs.Stores.{entry_of}
use Rattle.store.specs.Tables.{slot_at}
use Rattle.store.proofs.Nearing.{Going, Nearing, begin, go, best_after, to_right, inside_here, over}
use Rattle.store.proofs.Props.{filled_out}
use Rattle.store.proofs.Searching.{for_word}
use Rattle.store.proofs.Tables.{in_strip}
use Rattle.store.proofs.store.Store.nearest.Given as given
use Rattle.store.proofs.store.Store.nearest.Goals as goal
use Rattle.store.proofs.store.Store.nearest.Goals.{then-turns_right, else-turns_right}

pub loop-at-init : goal.loop-at-init
loop-at-init g c =
    let m = c.args.self.now.memory in
    let sound = (filled_out c.args.self.now.filled).sound in (
      subst (λ (k : Shares). Nearing g.S.Ordered.order c.args.side (map g.S.Ordered.symbol c.args.word.now) (entry_of g.S.Ordered.symbol m) m.table.now m.limits.capacity m.top m.top k None) (sym c.new-search.ensures.nothing_met)
          (begin g.S.Ordered.order c.args.side (map g.S.Ordered.symbol c.args.word.now) (entry_of g.S.Ordered.symbol m) m.table.now m.limits.capacity m.top sound.stands sound.fits),
      record { word = λ i. c.new-search.result.word; comparer = λ i. c.new-search.result.comparer.ghost_name },
      omega arith,
    )

pub compare-step-requires : goal.compare-step-requires
compare-step-requires g c =
    let m = c.args.self.now.memory in
    let sound = (filled_out c.args.self.now.filled).sound in
    let room = sound.room in
    let below : c.loop-at.at < m.limits.capacity = omega arith in
    record {
      slot = omega arith;
      word = in_strip c.loop-at.at m.limits.capacity m.limits.ceiling (slot_at m.table.now c.loop-at.at).length (length m.strip.now)
          below (sound.words c.loop-at.at (inside_here c.loop-at.invariant.0 below)) sound.strip;
    }

pub child-at-requires : goal.child-at-requires
child-at-requires g c = omega (arith, (filled_out c.args.self.now.filled).sound.room)

-- to the side that the walk turns to
onward : (g : given.Over) (c : goal.After-child-at g) → Going c.loop-at.invariant.0 (omega arith) c.compare-step.result (for_word g.S.Ordered.order g.S.Ordered.symbol c.args.self.now.memory c.loop-at.at c.loop-at.search.shares c.compare-step.ensures.value (c.loop-at.invariant.1.word ∙ c.new-search.ensures.word_is)) c.child-at.result c.pass.new.self.shares c.if-turns_right.best
onward g c =
    let e = for_word g.S.Ordered.order g.S.Ordered.symbol c.args.self.now.memory c.loop-at.at c.loop-at.search.shares c.compare-step.ensures.value (c.loop-at.invariant.1.word ∙ c.new-search.ensures.word_is) in
    let h = c.loop-at.invariant.0 in
    let shares = c.pass.ensures.shares ∙ ap (passed c.if-turns_right.onward c.compare-step.result.share) c.compare-step.ensures.shares in
    elim c.if-turns_right.branch [
      | then-turns_right w ↦ go h (omega arith) c.compare-step.result e c.if-turns_right.onward c.child-at.result c.pass.new.self.shares c.if-turns_right.best
          (sym c.turns_right.ensures ∙ w.if-turns_right.true ∙ ap to_right (sym w.onward-is)) c.child-at.ensures shares
          (w.best-is ∙ w.on_side-best.ensures ∙ ap (best_after h (omega arith) c.compare-step.result e) (sym w.onward-is))
      | else-turns_right w ↦ go h (omega arith) c.compare-step.result e c.if-turns_right.onward c.child-at.result c.pass.new.self.shares c.if-turns_right.best
          (sym c.turns_right.ensures ∙ w.if-turns_right.false ∙ ap to_right (sym w.onward-is)) c.child-at.ensures shares
          (w.best-is ∙ w.on_side-best-else-turns_right.ensures ∙ ap (best_after h (omega arith) c.compare-step.result e) (sym w.onward-is))
    ]

pub loop-at-smaller : goal.loop-at-smaller
loop-at-smaller g c = (onward g c).1

pub loop-at-preserved : goal.loop-at-preserved
loop-at-preserved g c = (
  (onward g c).0,
  record { word = c.pass.ensures.same.word ∙ c.compare-step.ensures.same.word ∙ c.loop-at.invariant.1.word; comparer = c.pass.ensures.same.comparer ∙ c.compare-step.ensures.same.comparer ∙ c.loop-at.invariant.1.comparer },
  omega arith,
)

pub returns-clause-entry : goal.returns-clause-entry
returns-clause-entry g c = over c.loop-at.invariant.0 (omega arith)
