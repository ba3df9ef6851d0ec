-- A tree of places by the side on which a walk goes on: u is left behind, and v lies ahead.
use Rattle.std.proofs.Common.{◌≡◌, ℕ, suc, ◌+◌, ◌<◌, ◌≤◌, List, sym, refl, ap, ◌∙◌, subst, inl, inr, arith}
use Rattle.slots.specs.declared.slot.Slot.{Slot}
use Rattle.slots.specs.declared.slot.Side.{Side}
use Rattle.slots.specs.declared.slot.Side.TheVariants.{Left, Right}
use Rattle.store.specs.Tables.{slot_at, Rooted, node, size, In, Apart, Stands, rooted}
use Rattle.store.specs.Unzips.{one_on_side, other, child_on, length_on, Same}
use Rattle.store.proofs.Tables.{read_whole}
use Rattle.store.proofs.Frames.{moved, left_not_right}

-- k is the length behind, j the one ahead
abbrev pub mk : Side → Rooted → ℕ → ℕ → ℕ → Rooted → Rooted
mk d u x k j v = one_on_side d (node v x j k u) (node u x k j v)

pub record Open (T : List Slot) (capacity q : ℕ) (d : Side) (u : Rooted) (x k j : ℕ) (v : Rooted) : Type 0 where
  pub here : x ≡ q
  pub held : q < capacity
  pub behind : k ≡ length_on (other d) (slot_at T q)
  pub further : j ≡ length_on d (slot_at T q)
  pub back : Stands T capacity (child_on (other d) (slot_at T q)) u
  pub ahead : Stands T capacity (child_on d (slot_at T q)) v

pub opens : (T : List Slot) (capacity q : ℕ) (d : Side) (u : Rooted) (x k j : ℕ) (v : Rooted) → Stands T capacity q (mk d u x k j v) → Open T capacity q d u x k j v
opens T capacity q Left u x k j v r = record { here = r.0; held = r.1; behind = r.3; further = r.2; back = r.5; ahead = r.4 }
opens T capacity q Right u x k j v r = record { here = r.0; held = r.1; behind = r.2; further = r.3; back = r.4; ahead = r.5 }

pub closes : (T : List Slot) (capacity q : ℕ) (d : Side) (u : Rooted) (x k j : ℕ) (v : Rooted) → Open T capacity q d u x k j v → Stands T capacity q (mk d u x k j v)
closes T capacity q Left u x k j v o = (o.here, o.held, o.further, o.behind, o.ahead, o.back)
closes T capacity q Right u x k j v o = (o.here, o.held, o.behind, o.further, o.back, o.ahead)

pub record Parts (u : Rooted) (x : ℕ) (v : Rooted) : Type 0 where
  pub back : In x u → ⊥
  pub ahead : In x v → ⊥
  pub both : (q : ℕ) → In q u → In q v → ⊥
  pub apart_back : Apart u
  pub apart_ahead : Apart v

pub parts : (d : Side) (u : Rooted) (x k j : ℕ) (v : Rooted) → Apart (mk d u x k j v) → Parts u x v
parts Left u x k j v s = record { back = s.1; ahead = s.0; both = λ q i o. s.2 q o i; apart_back = s.4; apart_ahead = s.3 }
parts Right u x k j v s = record { back = s.0; ahead = s.1; both = s.2; apart_back = s.3; apart_ahead = s.4 }

pub in_top : (d : Side) (u : Rooted) (x k j : ℕ) (v : Rooted) (q : ℕ) → q ≡ x → In q (mk d u x k j v)
in_top Left u x k j v q e = inl e
in_top Right u x k j v q e = inl e

pub in_back : (d : Side) (u : Rooted) (x k j : ℕ) (v : Rooted) (q : ℕ) → In q u → In q (mk d u x k j v)
in_back Left u x k j v q i = inr (inr i)
in_back Right u x k j v q i = inr (inl i)

pub in_ahead : (d : Side) (u : Rooted) (x k j : ℕ) (v : Rooted) (q : ℕ) → In q v → In q (mk d u x k j v)
in_ahead Left u x k j v q i = inr (inl i)
in_ahead Right u x k j v q i = inr (inr i)

pub size_mk : (d : Side) (u : Rooted) (x k j : ℕ) (v : Rooted) → size (mk d u x k j v) ≡ suc (size u + size v)
size_mk Left u x k j v = omega arith
size_mk Right u x k j v = refl

pub not_other : (d : Side) → other d ≡ d → ⊥
not_other Left e = left_not_right (sym e)
not_other Right e = left_not_right e

-- another tree ahead, and another length with it
pub regrown : (T T' : List Slot) (P Q : ℕ → Side → Type 0) (capacity q : ℕ) (d : Side) (u : Rooted) (x k j j' : ℕ) (v b : Rooted)
    → Stands T capacity q (mk d u x k j v) → Same T P Q T' → (P q (other d) → ⊥) → (Q q (other d) → ⊥)
    → ((y : ℕ) (e : Side) → In y u → P y e → ⊥) → ((y : ℕ) (e : Side) → In y u → Q y e → ⊥)
    → j' ≡ length_on d (slot_at T' q) → Stands T' capacity (child_on d (slot_at T' q)) b
    → Stands T' capacity q (mk d u x k j' b)
regrown T T' P Q capacity q d u x k j j' v b r S n n' m m' g h =
    let o = opens T capacity q d u x k j v r in
    closes T' capacity q d u x k j' b (record {
      here = o.here;
      held = o.held;
      behind = o.behind ∙ sym (S.lengths q (other d) n');
      further = g;
      back = subst (λ (z : ℕ). Stands T' capacity z u) (sym (S.children q (other d) n)) (moved capacity (child_on (other d) (slot_at T q)) u S m m' o.back);
      ahead = h;
    })

-- how many places lie below a place, read off the table: the measure of each walk
unfoldable pub span : List Slot → ℕ → ℕ → ℕ
span T capacity q = size (rooted T capacity q)

-- what lies ahead is less
pub span_falls : (T T₁ : List Slot) (capacity q q₁ : ℕ) (d : Side) (u : Rooted) (x k j : ℕ) (v : Rooted)
    → Stands T capacity q (mk d u x k j v) → size (mk d u x k j v) ≤ capacity → Stands T₁ capacity q₁ v → span T₁ capacity q₁ < span T capacity q
unfolding span
span_falls T T₁ capacity q q₁ d u x k j v r h r₁ =
    let e = size_mk d u x k j v in
    omega (arith, e, ap size (read_whole T capacity capacity q (mk d u x k j v) r h), ap size (read_whole T₁ capacity capacity q₁ v r₁ (omega (arith, h, e))))
