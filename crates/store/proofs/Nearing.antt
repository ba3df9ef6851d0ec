-- The loop that walks to the nearest entry on a side of a word: whatever it has passed, the rest of the walk ends at the same entry.
use Rattle.std.proofs.Common.{◌≡◌, ℕ, ◌<◌, ◌≤◌, Bool, true, false, cond, not, List, Some, None, Option, Ordering, sym, refl, ap, ◌∙◌, subst, arith}
use Rattle.std.specs.Option.{option_map}
use Rattle.std.specs.Ordering.{is_lt, is_gt}
use Rattle.std.proofs.lemmas.Bool.{cond-true, cond-false}
use Rattle.words.specs.declared.comparison.Comparison.{Comparison}
use Rattle.rules.specs.Entries.{Entry}
use Rattle.rules.specs.Neighbours.{preceding_by, following_by}
use Rattle.rules.specs.Trees.{top}
use Rattle.slots.specs.declared.search.Shares.{Shares}
use Rattle.slots.specs.declared.slot.Slot.{Slot}
use Rattle.slots.specs.declared.slot.Side.{Side}
use Rattle.slots.specs.declared.slot.Side.TheVariants.{Left, Right}
use Rattle.store.specs.Lookups.{compared_at}
use Rattle.store.specs.Neighbours.{nearest_by, is_right_turn}
use Rattle.store.specs.Tables.{Rooted, size, In, Stands, slot_at, rooted, plain}
use Rattle.slots.specs.Searches.{passed}
use Rattle.store.specs.Unzips.{one_on_side, child_on}
use Rattle.store.proofs.Tables.{Turn, turn, none}

-- whether a side is the right one
abbrev pub to_right : Side → Bool
to_right Left = false
to_right Right = true

cond_not : {A : Type 0} (b : Bool) (x y : A) → cond (not b) x y ≡ cond b y x
cond_not true x y = refl
cond_not false x y = refl

module _ (order : ℕ → ℕ → Ordering) (side : Side) (w : List ℕ) (entry : ℕ → Entry) (table : List Slot) (capacity origin : ℕ) where
  -- where the walk ends from a place on
  abbrev ended : ℕ → Shares → Option ℕ → Option Entry
  ended at k best = nearest_by order side w k.before k.after (option_map entry best) (plain entry (rooted table capacity at))

  pub record Nearing (at : ℕ) (k : Shares) (best : Option ℕ) : Type 0 where
    pub stands : Stands table capacity at (rooted table capacity at)
    pub fits : size (rooted table capacity at) ≤ capacity
    pub inside : (p : ℕ) → In p (rooted table capacity at) → In p (rooted table capacity origin)
    pub best_in : (p : ℕ) → best ≡ Some p → In p (rooted table capacity origin)
    pub ends : ended origin (record { before = 0; after = 0 }) None ≡ ended at k best

  pub begin : Stands table capacity origin (rooted table capacity origin) → size (rooted table capacity origin) ≤ capacity → Nearing origin (record { before = 0; after = 0 }) None
  begin s f = record { stands = s; fits = f; inside = λ p i. i; best_in = λ p e. absurd (let z : ◌≡◌ {A = ℕ} 0 1 = cc in let y : ⊥ = omega arith in y); ends = refl }

module _ {order : ℕ → ℕ → Ordering} {side : Side} {w : List ℕ} {entry : ℕ → Entry} {table : List Slot} {capacity origin at : ℕ} {k : Shares} {best : Option ℕ} (h : Nearing order side w entry table capacity origin at k best) where
  -- the walk is over
  pub over : capacity ≤ at → option_map entry best ≡ nearest_by order side w 0 0 None (plain entry (rooted table capacity origin))
  over far = sym (h.ends ∙ ap (λ (t : Rooted). nearest_by order side w k.before k.after (option_map entry best) (plain entry t)) (none table capacity at far) ∙ stays side)
    where
      stays : (s : Side) → one_on_side s (option_map entry best) (option_map entry best) ≡ option_map entry best
      stays Left = refl
      stays Right = refl

  module _ (below : at < capacity) where
    here : Turn table capacity at entry
    here = turn table capacity at entry below h.stands h.fits

    pub inside_here : In at (rooted table capacity origin)
    inside_here = h.inside at here.here

    passed_in : (s : Side) (x y : Option ℕ) → ((p : ℕ) → x ≡ Some p → In p (rooted table capacity origin)) → ((p : ℕ) → y ≡ Some p → In p (rooted table capacity origin)) → (p : ℕ) → one_on_side s x y ≡ Some p → In p (rooted table capacity origin)
    passed_in Left x y f g = f
    passed_in Right x y f g = g

    at_in : (p : ℕ) → Some at ≡ Some p → In p (rooted table capacity origin)
    at_in p e = (let f : p ≡ at = cc in rw f inside_here)

    module _ (c : Comparison) (e : c ≡ compared_at order w entry table at k) where
      abbrev pub Going : ℕ → Shares → Option ℕ → Type 0
      Going next j b = Nearing order side w entry table capacity origin next j b × (size (rooted table capacity next) < size (rooted table capacity at))

      -- the rest of the walk, by what is compared at the place
      ended_by : ended order side w entry table capacity origin at k best ≡ cond (is_right_turn side c.answer)
          (ended order side w entry table capacity origin (slot_at table at).right (record { before = c.share; after = k.after }) (one_on_side side (Some at) best))
          (ended order side w entry table capacity origin (slot_at table at).left (record { before = k.before; after = c.share }) (one_on_side side best (Some at)))
      ended_by = ap (nearest_by order side w k.before k.after (option_map entry best)) here.tree ∙ by side
        where
          by : (s : Side) → nearest_by order s w k.before k.after (option_map entry best) (top (plain entry (rooted table capacity (slot_at table at).left)) (entry at) (slot_at table at).left_length (slot_at table at).right_length (plain entry (rooted table capacity (slot_at table at).right)))
              ≡ cond (is_right_turn s c.answer)
              (ended order s w entry table capacity origin (slot_at table at).right (record { before = c.share; after = k.after }) (one_on_side s (Some at) best))
              (ended order s w entry table capacity origin (slot_at table at).left (record { before = k.before; after = c.share }) (one_on_side s best (Some at)))
          by Left =
              sym (ap (λ (x : Comparison). cond (is_gt x.answer)
              (preceding_by order w x.share k.after (Some (entry at)) (plain entry (rooted table capacity (slot_at table at).right)))
              (preceding_by order w k.before x.share (option_map entry best) (plain entry (rooted table capacity (slot_at table at).left)))) e)
          by Right =
              sym (cond_not (is_lt c.answer) _ _
              ∙ ap (λ (x : Comparison). cond (is_lt x.answer)
              (following_by order w k.before x.share (Some (entry at)) (plain entry (rooted table capacity (slot_at table at).left)))
              (following_by order w x.share k.after (option_map entry best) (plain entry (rooted table capacity (slot_at table at).right)))) e)

      -- what it has passed on the side asked for
      abbrev pub best_after : Side → Option ℕ
      best_after Left = one_on_side side best (Some at)
      best_after Right = one_on_side side (Some at) best

      pub go : (onward : Side) (next : ℕ) (j : Shares) (b : Option ℕ) → is_right_turn side c.answer ≡ to_right onward → next ≡ child_on onward (slot_at table at) → j ≡ passed onward c.share k → b ≡ best_after onward → Going next j b
      go Left next j b a same is f =
          let t = here in
          let j₁ : Shares = record { before = k.before; after = c.share } in
          subst (λ (z : Shares). Going next z b) (sym is) (subst (λ (z : Option ℕ). Going next j₁ z) (sym f) (subst (λ (z : ℕ). Going z j₁ (one_on_side side best (Some at))) (sym same) (
            record {
              stands = t.stands_left;
              fits = (let x = t.smaller_left in let y = h.fits in omega arith);
              inside = λ p i. h.inside p (t.in_left p i);
              best_in = passed_in side best (Some at) h.best_in at_in;
              ends = h.ends ∙ ended_by ∙ cond-false (is_right_turn side c.answer) _ _ a;
            },
            t.smaller_left,
          )))
      go Right next j b a same is f =
          let t = here in
          let j₁ : Shares = record { before = c.share; after = k.after } in
          subst (λ (z : Shares). Going next z b) (sym is) (subst (λ (z : Option ℕ). Going next j₁ z) (sym f) (subst (λ (z : ℕ). Going z j₁ (one_on_side side (Some at) best)) (sym same) (
            record {
              stands = t.stands_right;
              fits = (let x = t.smaller_right in let y = h.fits in omega arith);
              inside = λ p i. h.inside p (t.in_right p i);
              best_in = passed_in side (Some at) best at_in h.best_in;
              ends = h.ends ∙ ended_by ∙ cond-true (is_right_turn side c.answer) _ _ a;
            },
            t.smaller_right,
          )))
