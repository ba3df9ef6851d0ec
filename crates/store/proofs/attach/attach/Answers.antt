use Rattle.std.proofs.Common.{◌≡◌, ℕ, false, List, map, length, sym, ap, ◌∙◌, subst, inl, inr, arith}
use Rattle.std.specs.Borrow.{Bor}
use Rattle.words.specs.declared.comparison.Comparison.{Comparison}
use Rattle.rules.specs.Inserts.{is_above}
use Rattle.slots.specs.declared.search.Search.{Search}
use Rattle.slots.specs.declared.search.Shares.{Shares}
use Rattle.slots.specs.declared.slot.Side.{Side}
use Rattle.slots.specs.declared.slot.Side.TheVariants.{Left, Right}
use Rattle.slots.specs.Searches.{passed}
use Rattle.store.specs.declared.writes.Hook.{Hook}
use Rattle.store.specs.Lookups.{compared_at}
use Rattle.store.specs.Stores.{entry_of}
use Rattle.store.specs.Tables.{rooted}
use Rattle.store.specs.Unzips.{Unzipped, noted}
use Rattle.store.proofs.Searching.{for_word}
use Rattle.store.proofs.Growing.{in_memory, free_here, goes_right, goes_left, ends, Down}
use Rattle.store.proofs.attach.attach.Given as given
use Rattle.store.proofs.attach.attach.Goals as goal
use Rattle.store.proofs.attach.attach.Goals.{then-is_gt, else-is_gt, else-loop-at-test, then-loop-at-test+then-not-stays_above}

pub compare-step-requires : goal.compare-step-requires
compare-step-requires g c =
    let m = in_memory c.loop-at.invariant.0 (omega arith) (length c.args.memory.now.strip.now) c.requires.free.strip in
    record { slot = m.0; word = m.1 }

down : (g : given.Over) (c : goal.After-child-at g) → Down c.loop-at.invariant.0 (record { place = c.loop-at.at; side = c.if-is_gt.side }) c.child-at.result c.pass.new.self.shares
down g c =
    let m = c.args.memory.now in
    -- the step by the search is the step by the word at the place
    let e = for_word g.S.Ordered.order g.S.Ordered.symbol m c.loop-at.at c.loop-at.search.shares c.compare-step.ensures.value (c.loop-at.invariant.2.word ∙ c.new-search.ensures.word_is)
    ∙ ap (λ (w : List ℕ). compared_at g.S.Ordered.order w (entry_of g.S.Ordered.symbol m) m.table.now c.loop-at.at c.loop-at.search.shares) c.requires.word in
    let stays = sym c.stays_above.ensures ∙ c.if-not-stays_above.false in
    let hook : Hook = record { place = c.loop-at.at; side = c.if-is_gt.side } in
    let shares = c.pass.ensures.shares ∙ ap (passed c.if-is_gt.side c.compare-step.result.share) c.compare-step.ensures.shares in
    elim c.if-is_gt.branch [
      | then-is_gt w ↦ goes_right c.loop-at.invariant.0 (omega arith) c.compare-step.result e stays hook c.pass.new.self.shares c.child-at.result c.child-at.ensures
          (sym c.is_gt.ensures ∙ w.if-is_gt.true) (ap (λ (d : Side). record { place = c.loop-at.at; side = d }) w.side-is)
          (shares ∙ ap (λ (d : Side). passed d c.compare-step.result.share c.loop-at.search.shares) w.side-is)
      | else-is_gt w ↦ goes_left c.loop-at.invariant.0 (omega arith) c.compare-step.result e stays hook c.pass.new.self.shares c.child-at.result c.child-at.ensures
          (sym c.is_gt.ensures ∙ w.if-is_gt.false) (ap (λ (d : Side). record { place = c.loop-at.at; side = d }) w.side-is)
          (shares ∙ ap (λ (d : Side). passed d c.compare-step.result.share c.loop-at.search.shares) w.side-is)
    ]

pub loop-at-smaller : goal.loop-at-smaller
loop-at-smaller g c = (down g c).1

pub loop-at-preserved : goal.loop-at-preserved
loop-at-preserved g c = (
  (down g c).0,
  omega arith,
  record { word = c.pass.ensures.same.word ∙ c.compare-step.ensures.same.word ∙ c.loop-at.invariant.2.word; comparer = c.pass.ensures.same.comparer ∙ c.compare-step.ensures.same.comparer ∙ c.loop-at.invariant.2.comparer },
)

-- where the loop ends, the search has the shares that it had there
abbrev shares_of : {S C : Type 0} → Search S C → Shares
shares_of s = s.shares

abbrev word_of : {S C : Type 0} → Search S C → Bor (List S)
word_of s = s.word

pub unzip-requires-clause-free : goal.unzip-requires-clause-free
unzip-requires-clause-free g c = free_here c.loop-at.invariant.0 (length c.args.memory.now.strip.now) c.requires.free.few c.requires.free.strip c.requires.free.at

pub returns-clause-tree : goal.returns-clause-tree
returns-clause-tree g c =
    let m = c.args.memory.now in
    let k : c.loop-at-test.search.shares ≡ c.loop-at.search.shares =
    elim c.loop-at-test.branch [ else-loop-at-test w ↦ ap shares_of w.search-is | then-loop-at-test+then-not-stays_above w ↦ ap shares_of w.search-is ∙ w.compare-step.ensures.shares ] in
    let v : c.loop-at-test.search.word ≡ c.args.word =
    elim c.loop-at-test.branch [ else-loop-at-test w ↦ ap word_of w.search-is | then-loop-at-test+then-not-stays_above w ↦ ap word_of w.search-is ∙ w.compare-step.ensures.same.word ]
    ∙ c.loop-at.invariant.2.word ∙ c.new-search.ensures.word_is in
    -- what unzip did, said with the word at the place and the shares there
    let u = subst (λ (j : Shares). Unzipped g.S.Ordered.order (entry_of g.S.Ordered.symbol m) m.limits.capacity (entry_of g.S.Ordered.symbol m c.args.place).word j.before j.after c.args.place (rooted m.table.now m.limits.capacity c.loop-at.at) m.table.now c.unzip.new.memory.table.now) k
    (subst (λ (w : List ℕ). Unzipped g.S.Ordered.order (entry_of g.S.Ordered.symbol m) m.limits.capacity w c.loop-at-test.search.shares.before c.loop-at-test.search.shares.after c.args.place (rooted m.table.now m.limits.capacity c.loop-at.at) m.table.now c.unzip.new.memory.table.now)
    (ap (λ (z : Bor (List g.row.S.Denot)). map g.S.Ordered.symbol z.now) v ∙ c.requires.word) c.unzip.ensures.table) in
    ends c.loop-at.invariant.0 c.unzip.new.memory.table.now c.note.new.table c.note-2.new.table c.requires.room
    -- the loop ends where nothing is left, or at an entry that the new one outranks
    (elim c.loop-at-test.branch [
      | else-loop-at-test w ↦ inl (let e = w.loop-at-test.false in omega arith)
      | then-loop-at-test+then-not-stays_above w ↦ inr (subst (λ (y : Comparison). is_above g.S.Ordered.order (entry_of g.S.Ordered.symbol m c.loop-at.at) (entry_of g.S.Ordered.symbol m c.args.place) y ≡ false)
          (for_word g.S.Ordered.order g.S.Ordered.symbol m c.loop-at.at c.loop-at.search.shares w.compare-step.ensures.value (c.loop-at.invariant.2.word ∙ c.new-search.ensures.word_is)
          ∙ ap (λ (w : List ℕ). compared_at g.S.Ordered.order w (entry_of g.S.Ordered.symbol m) m.table.now c.loop-at.at c.loop-at.search.shares) c.requires.word)
          (sym w.stays_above.ensures ∙ w.if-not-stays_above.true))
    ])
    u
    (c.note.ensures ∙ ap (λ (j : Shares). noted c.unzip.new.memory.table.now c.args.place Left j.before) k)
    (c.note-2.ensures ∙ ap (λ (j : Shares). noted c.note.new.table c.args.place Right j.after) k)
    c.seat-memory.result c.seat-memory.new.table c.seat-memory.ensures.top c.seat-memory.ensures.table
