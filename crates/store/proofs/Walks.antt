-- The loop of a lookup: the whole walk is what was counted so far and the walk of the rest.
use Rattle.std.proofs.Common.{◌≡◌, ℕ, ◌+◌, ◌*◌, ◌<◌, ◌≤◌, max, cond, ltb, List, [], ◌∷◌, length, Some, None, Ordering, Less, Equal, Greater, sym, refl, ap, ◌∙◌, subst, zero-le, arith}
use Rattle.words.specs.declared.comparison.Comparison.{Comparison}
use Rattle.rules.specs.Entries.{Entry}
use Rattle.rules.specs.Walks.{turned, Walked, after, lookup}
use Rattle.slots.specs.declared.search.Shares.{Shares}
use Rattle.slots.specs.declared.slot.Slot.{Slot}
use Rattle.slots.specs.declared.slot.Side.{Side}
use Rattle.slots.specs.declared.slot.Side.TheVariants.{Left, Right}
use Rattle.slots.specs.Searches.{passed}
use Rattle.store.specs.Lookups.{compared_at, shares_at_end, WalkOf}
use Rattle.store.specs.Unzips.{child_on}
use Rattle.store.specs.Tables.{size, In, Stands, slot_at, rooted, plain}
use Rattle.store.proofs.Bounds.{Within, compared_within}
use Rattle.store.proofs.Tables.{Turn, turn, none}

-- how a word stands to an entry that it passes on the way to a side
abbrev pub toward : Side → Ordering
toward Left = Less
toward Right = Greater

-- the place where a walk starts, and what it goes by
module _ (order : ℕ → ℕ → Ordering) (w : List ℕ) (entry : ℕ → Entry) (table : List Slot) (capacity origin : ℕ) where
  -- what a lookup comes to from a place on, and what it keeps at its end
  abbrev walked : ℕ → Shares → Walked
  walked at k = lookup order w k.before k.after (plain entry (rooted table capacity at))

  abbrev ended : ℕ → Shares → Shares
  ended at k = shares_at_end order w k.before k.after (plain entry (rooted table capacity at))

  abbrev begun : Shares
  begun = record { before = 0; after = 0 }

  -- the walk has come to a place, with these shares and counts
  pub record Walking (at : ℕ) (k : Shares) (met pairs : ℕ) : Type 0 where
    pub stands : Stands table capacity at (rooted table capacity at)
    pub low : met + size (rooted table capacity at) ≤ capacity
    pub inside : (p : ℕ) → In p (rooted table capacity at) → In p (rooted table capacity origin)
    pub short : (p : ℕ) → In p (rooted table capacity origin) → length (entry p).word ≤ 1024
    pub near_before : k.before ≤ 1024
    pub near_after : k.after ≤ 1024
    pub paid : pairs ≤ 1024 * met
    pub many : length (walked origin begun).way ≡ met + length (walked at k).way
    pub looks : (walked origin begun).pairs ≡ pairs + (walked at k).pairs
    pub finds : (walked origin begun).found ≡ (walked at k).found
    pub ends : ended origin begun ≡ ended at k

  pub begin : Stands table capacity origin (rooted table capacity origin) → size (rooted table capacity origin) ≤ capacity → ((p : ℕ) → In p (rooted table capacity origin) → length (entry p).word ≤ 1024) → Walking origin begun 0 0
  begin s k f = record {
    stands = s;
    short = f;
    low = omega arith;
    inside = λ p i. i;
    near_before = zero-le;
    near_after = zero-le;
    paid = zero-le;
    many = omega arith;
    looks = omega arith;
    finds = refl;
    ends = refl;
  }

module _ {order : ℕ → ℕ → Ordering} {w : List ℕ} {entry : ℕ → Entry} {table : List Slot} {capacity origin at : ℕ} {k : Shares} {met pairs : ℕ} (h : Walking order w entry table capacity origin at k met pairs) where
  module _ (below : at < capacity) where
    pub here_turn : Turn table capacity at entry
    here_turn = turn table capacity at entry below h.stands (omega arith)

    pub inside_here : In at (rooted table capacity origin)
    inside_here = h.inside at here_turn.here

    pub within : Within 1024 (compared_at order w entry table at k)
    within =
        let b = h.near_before in
        let a = h.near_after in
        let f = h.short at inside_here in
        compared_within order w (entry at).word (ltb k.after k.before) (max k.before k.after) (cond (ltb k.after k.before) (slot_at table at).left_length (slot_at table at).right_length) 1024 (omega arith) (omega arith)

    module _ (c : Comparison) (e : c ≡ compared_at order w entry table at k) where
      -- the rest of the walk, by what is compared at the place
      walked_by : walked order w entry table capacity origin at k ≡ after (entry at) c.pairs (turned c.answer
          (walked order w entry table capacity origin (slot_at table at).left (record { before = k.before; after = c.share }))
          (record { way = []; pairs = 0; found = Some (entry at) })
          (walked order w entry table capacity origin (slot_at table at).right (record { before = c.share; after = k.after })))
      walked_by = rw (here_turn.tree, e)

      ended_by : ended order w entry table capacity origin at k ≡ turned c.answer
          (ended order w entry table capacity origin (slot_at table at).left (record { before = k.before; after = c.share }))
          k
          (ended order w entry table capacity origin (slot_at table at).right (record { before = c.share; after = k.after }))
      ended_by = rw (here_turn.tree, e)

      -- to the child on a side: one entry more is met, and what is left of the walk is less
      abbrev pub Going : ℕ → Shares → Type 0
      Going next j = Walking order w entry table capacity origin next j (met + 1) (pairs + c.pairs) × (size (rooted table capacity next) < size (rooted table capacity at))

      go_on : (next : ℕ) (j : Shares)
          → Stands table capacity next (rooted table capacity next) → size (rooted table capacity next) < size (rooted table capacity at) → ((p : ℕ) → In p (rooted table capacity next) → In p (rooted table capacity at))
          → j.before ≤ 1024 → j.after ≤ 1024 → c.pairs ≤ 1024
          → walked order w entry table capacity origin at k ≡ after (entry at) c.pairs (walked order w entry table capacity origin next j)
          → ended order w entry table capacity origin at k ≡ ended order w entry table capacity origin next j
          → Going next j
      go_on next j stands smaller inside b a few v y =
          let m = ap (λ (z : Walked). length z.way) v in
          let q = ap (λ (z : Walked). z.pairs) v in (
            record {
              stands = stands;
              low = omega arith;
              inside = λ p i. h.inside p (inside p i);
              short = h.short;
              near_before = b;
              near_after = a;
              paid = omega arith;
              many = omega arith;
              looks = omega arith;
              finds = h.finds ∙ ap (λ (z : Walked). z.found) v;
              ends = h.ends ∙ y;
            },
            smaller,
          )

      pub go : (side : Side) (next : ℕ) (j : Shares) → c.answer ≡ toward side → next ≡ child_on side (slot_at table at) → j ≡ passed side c.share k → Going next j
      go Left next j a same is =
          let t = here_turn in
          let f : Within 1024 c = rw e within in
          let j₁ : Shares = record { before = k.before; after = c.share } in
          subst (Going next) (sym is) (subst (λ (z : ℕ). Going z j₁) (sym same) (go_on (slot_at table at).left j₁ t.stands_left t.smaller_left t.in_left h.near_before f.share f.pairs (rw a at walked_by) (rw a at ended_by)))
      go Right next j a same is =
          let t = here_turn in
          let f : Within 1024 c = rw e within in
          let j₁ : Shares = record { before = c.share; after = k.after } in
          subst (Going next) (sym is) (subst (λ (z : ℕ). Going z j₁) (sym same) (go_on (slot_at table at).right j₁ t.stands_right t.smaller_right t.in_right f.share h.near_after f.pairs (rw a at walked_by) (rw a at ended_by)))

      -- the walk ends at the word's own entry
      pub found_here : c.answer ≡ Equal → WalkOf order w entry (rooted table capacity origin) (record { found = Some at; met = met + 1; pairs = pairs + c.pairs; shares = k })
      found_here a =
          let v : walked order w entry table capacity origin at k ≡ record { way = entry at ∷ []; pairs = c.pairs + 0; found = Some (entry at) } = rw a at walked_by in
          let y : ended order w entry table capacity origin at k ≡ k = rw a at ended_by in
          let m = ap (λ (z : Walked). length z.way) v in
          let q = ap (λ (z : Walked). z.pairs) v in
          record {
            met = omega arith;
            pairs = omega arith;
            found = sym (h.finds ∙ ap (λ (z : Walked). z.found) v);
            held = λ p i. (let f : p ≡ at = cc in rw f inside_here);
            shares = sym (h.ends ∙ y);
          }

  -- the walk ends where no entry stands
  pub not_found : capacity ≤ at → WalkOf order w entry (rooted table capacity origin) (record { found = None; met = met; pairs = pairs; shares = k })
  not_found far =
      let e = none table capacity at far in
      let v : walked order w entry table capacity origin at k ≡ record { way = []; pairs = 0; found = None } = rw e in
      let y : ended order w entry table capacity origin at k ≡ k = rw e in
      let m = ap (λ (z : Walked). length z.way) v in
      let q = ap (λ (z : Walked). z.pairs) v in
      record {
        met = omega arith;
        pairs = omega arith;
        found = sym (h.finds ∙ ap (λ (z : Walked). z.found) v);
        held = λ p i. (let z : ◌≡◌ {A = ℕ} 0 1 = cc in absurd (let f : ⊥ = omega arith in f));
        shares = sym (h.ends ∙ y);
      }
