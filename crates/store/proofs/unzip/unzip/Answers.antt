use Rattle.std.proofs.Common.{◌+◌, ◌*◌, ◌≤◌, List, map, length, sym, ap, ◌∙◌, subst, arith}
use Rattle.std.proofs.lemmas.List.{length-map}
use Rattle.limits.specs.declared.bounds.Limits.{Limits}
use Rattle.slots.specs.declared.slot.Slot.{Slot}
use Rattle.slots.specs.declared.slot.Side.TheVariants.{Left, Right}
use Rattle.slots.specs.Searches.{passed}
use Rattle.store.specs.Stores.{entry_of}
use Rattle.store.specs.Tables.{rooted, slot_at}
use Rattle.store.specs.Unzips.{hung, Unzipped}
use Rattle.store.proofs.Searching.{for_word}
use Rattle.store.proofs.Parting.{in_memory, share_fits, goes_after, goes_before, at_end, step_in}
use Rattle.store.proofs.unzip.unzip.Goals as goal

pub compare-step-requires : goal.compare-step-requires
compare-step-requires g c =
    let A = c.loop-at.invariant.2 in
    let m = in_memory c.loop-at.invariant.0 (omega arith) (length c.args.memory.now.strip.now) c.requires.free.strip in
    record {
      slot = m.0;
      word = subst (λ (k : Limits). c.loop-at.at * k.ceiling + (slot_at c.loop-at.memory.table.now c.loop-at.at).length ≤ length c.loop-at.memory.strip.now) (sym A.limits)
          (subst (λ (s : List g.row.S.Denot). c.loop-at.at * c.args.memory.now.limits.ceiling + (slot_at c.loop-at.memory.table.now c.loop-at.at).length ≤ length s) (sym A.strip) m.1);
    }

pub overflow_cast-share : goal.overflow_cast-share
overflow_cast-share g c =
    let s = share_fits c.loop-at.invariant.0 c.compare-step.result (for_word g.S.Ordered.order g.S.Ordered.symbol c.loop-at.memory c.loop-at.at c.loop-at.search.shares c.compare-step.ensures.value c.loop-at.invariant.3.word ∙ step_in g.S.Ordered.order g.S.Ordered.symbol (map g.S.Ordered.symbol c.args.search.now.word.now) c.args.memory.now c.loop-at.memory c.loop-at.at c.loop-at.search.shares c.loop-at.invariant.2) in
    let l = length-map c.args.search.now.word.now g.S.Ordered.symbol in
    omega arith

pub loop-at-smaller-then-is_gt : goal.loop-at-smaller-then-is_gt
loop-at-smaller-then-is_gt g c = (goes_after c.loop-at.invariant.0 (omega arith) c.compare-step.result (for_word g.S.Ordered.order g.S.Ordered.symbol c.loop-at.memory c.loop-at.at c.loop-at.search.shares c.compare-step.ensures.value c.loop-at.invariant.3.word ∙ step_in g.S.Ordered.order g.S.Ordered.symbol (map g.S.Ordered.symbol c.args.search.now.word.now) c.args.memory.now c.loop-at.memory c.loop-at.at c.loop-at.search.shares c.loop-at.invariant.2) (sym c.is_gt.ensures ∙ c.if-is_gt.true) c.hang.new.table c.note.new.table c.hang.ensures c.note.ensures c.child-next.result c.child-next.ensures c.pass.new.self.shares (c.pass.ensures.shares ∙ ap (passed Right c.compare-step.result.share) c.compare-step.ensures.shares)).1

pub loop-at-preserved-then-is_gt : goal.loop-at-preserved-then-is_gt
loop-at-preserved-then-is_gt g c = (
  (goes_after c.loop-at.invariant.0 (omega arith) c.compare-step.result (for_word g.S.Ordered.order g.S.Ordered.symbol c.loop-at.memory c.loop-at.at c.loop-at.search.shares c.compare-step.ensures.value c.loop-at.invariant.3.word ∙ step_in g.S.Ordered.order g.S.Ordered.symbol (map g.S.Ordered.symbol c.args.search.now.word.now) c.args.memory.now c.loop-at.memory c.loop-at.at c.loop-at.search.shares c.loop-at.invariant.2) (sym c.is_gt.ensures ∙ c.if-is_gt.true) c.hang.new.table c.note.new.table c.hang.ensures c.note.ensures c.child-next.result c.child-next.ensures c.pass.new.self.shares (c.pass.ensures.shares ∙ ap (passed Right c.compare-step.result.share) c.compare-step.ensures.shares)).0,
  omega arith,
  (let a = c.loop-at.invariant.2 in record { strip = a.strip; limits = a.limits; top = a.top; count = a.count }),
  (let a = c.loop-at.invariant.3 in record { word = c.pass.ensures.same.word ∙ c.compare-step.ensures.same.word ∙ a.word; comparer = c.pass.ensures.same.comparer ∙ c.compare-step.ensures.same.comparer ∙ a.comparer }),
)

pub loop-at-smaller : goal.loop-at-smaller
loop-at-smaller g c = (goes_before c.loop-at.invariant.0 (omega arith) c.compare-step.result (for_word g.S.Ordered.order g.S.Ordered.symbol c.loop-at.memory c.loop-at.at c.loop-at.search.shares c.compare-step.ensures.value c.loop-at.invariant.3.word ∙ step_in g.S.Ordered.order g.S.Ordered.symbol (map g.S.Ordered.symbol c.args.search.now.word.now) c.args.memory.now c.loop-at.memory c.loop-at.at c.loop-at.search.shares c.loop-at.invariant.2) (sym c.is_gt.ensures ∙ c.if-is_gt.false) c.hang-else-is_gt.new.table c.note-else-is_gt.new.table c.hang-else-is_gt.ensures c.note-else-is_gt.ensures c.child-next-else-is_gt.result c.child-next-else-is_gt.ensures c.pass-else-is_gt.new.self.shares (c.pass-else-is_gt.ensures.shares ∙ ap (passed Left c.compare-step.result.share) c.compare-step.ensures.shares)).1

pub loop-at-preserved : goal.loop-at-preserved
loop-at-preserved g c = (
  (goes_before c.loop-at.invariant.0 (omega arith) c.compare-step.result (for_word g.S.Ordered.order g.S.Ordered.symbol c.loop-at.memory c.loop-at.at c.loop-at.search.shares c.compare-step.ensures.value c.loop-at.invariant.3.word ∙ step_in g.S.Ordered.order g.S.Ordered.symbol (map g.S.Ordered.symbol c.args.search.now.word.now) c.args.memory.now c.loop-at.memory c.loop-at.at c.loop-at.search.shares c.loop-at.invariant.2) (sym c.is_gt.ensures ∙ c.if-is_gt.false) c.hang-else-is_gt.new.table c.note-else-is_gt.new.table c.hang-else-is_gt.ensures c.note-else-is_gt.ensures c.child-next-else-is_gt.result c.child-next-else-is_gt.ensures c.pass-else-is_gt.new.self.shares (c.pass-else-is_gt.ensures.shares ∙ ap (passed Left c.compare-step.result.share) c.compare-step.ensures.shares)).0,
  omega arith,
  (let a = c.loop-at.invariant.2 in record { strip = a.strip; limits = a.limits; top = a.top; count = a.count }),
  (let a = c.loop-at.invariant.3 in record { word = c.pass-else-is_gt.ensures.same.word ∙ c.compare-step.ensures.same.word ∙ a.word; comparer = c.pass-else-is_gt.ensures.same.comparer ∙ c.compare-step.ensures.same.comparer ∙ a.comparer }),
)

pub returns-clause-table : goal.returns-clause-table
returns-clause-table g c =
    let m = c.args.memory.now in
    subst (Unzipped g.S.Ordered.order (entry_of g.S.Ordered.symbol m) m.limits.capacity (map g.S.Ordered.symbol c.args.search.now.word.now) c.args.search.now.shares.before c.args.search.now.shares.after c.args.place (rooted m.table.now m.limits.capacity c.args.top) m.table.now)
    (ap (λ (T : List Slot). hung T c.loop-at.high.place c.loop-at.high.side 65535) (sym c.hang-2.ensures) ∙ sym c.hang-3.ensures)
    (at_end c.loop-at.invariant.0 (omega arith) 65535 (let f = c.requires.free.few in omega arith))
