-- What a write to one side of a slot leaves as it was.
use Rattle.std.proofs.Common.{◌≡◌, ℕ, ◌<◌, List, length, set, sym, refl, ap, ◌∙◌, subst, inl, inr, length-set, get_or-set_other, get_or-set_same}
use Rattle.std.proofs.lemmas.Bool.{cases_eq}
use Rattle.slots.specs.declared.slot.Slot.{Slot}
use Rattle.slots.specs.declared.slot.Side.{Side}
use Rattle.slots.specs.declared.slot.Side.TheVariants.{Left, Right}
use Rattle.slots.specs.Slots.{blank}
use Rattle.store.specs.Tables.{slot_at, Rooted, leaf, node, In, Stands}
use Rattle.store.specs.Unzips.{child_on, length_on, with_child, with_length, hung, noted, Same, On}

-- Left is not Right
abbrev ToldApart : Side → Type 0
ToldApart Left = Unit {0}
ToldApart Right = ⊥

pub left_not_right : Left ≡ Right → ⊥
left_not_right e = subst ToldApart e tt

-- one slot of a table is written: what holds of the slot as it was and as it is written holds of each
module _ (T : List Slot) (p : ℕ) (x : Slot) (h : p < length T) where
  written_at : slot_at (set T p x) p ≡ x
  written_at = get_or-set_same T p x blank h

  written_each : (P : ℕ → Slot → Type 0) (q : ℕ) → P q (slot_at T q) → (q ≡ p → P p x) → P q (slot_at (set T p x) q)
  written_each P q old new =
      elim (cases_eq q p) [
        | inl e ↦ subst (λ (z : ℕ). P z (slot_at (set T p x) z)) (sym e) (subst (P p) (sym written_at) (new e))
        | inr n ↦ subst (P q) (sym (get_or-set_other T p q x blank n)) old
      ]

child_new : (s : Side) (c : ℕ) (x : Slot) → child_on s (with_child s c x) ≡ c
child_new Left c x = refl
child_new Right c x = refl

child_old : (s d : Side) (c : ℕ) (x : Slot) → (d ≡ s → ⊥) → child_on d (with_child s c x) ≡ child_on d x
child_old Left Left c x n = absurd (n refl)
child_old Left Right c x n = refl
child_old Right Left c x n = refl
child_old Right Right c x n = absurd (n refl)

length_kept : (s d : Side) (c : ℕ) (x : Slot) → length_on d (with_child s c x) ≡ length_on d x
length_kept s Left c x = refl
length_kept s Right c x = refl

length_new : (s : Side) (n : ℕ) (x : Slot) → length_on s (with_length s n x) ≡ n
length_new Left n x = refl
length_new Right n x = refl

length_old : (s d : Side) (n : ℕ) (x : Slot) → (d ≡ s → ⊥) → length_on d (with_length s n x) ≡ length_on d x
length_old Left Left n x k = absurd (k refl)
length_old Left Right n x k = refl
length_old Right Left n x k = refl
length_old Right Right n x k = absurd (k refl)

child_kept : (s d : Side) (n : ℕ) (x : Slot) → child_on d (with_length s n x) ≡ child_on d x
child_kept s Left n x = refl
child_kept s Right n x = refl

-- nowhere
abbrev pub No : ℕ → Side → Type 0
No q d = ⊥

module _ (T : List Slot) (p : ℕ) (s : Side) (c : ℕ) (h : p < length T) where
  pub hung_child : child_on s (slot_at (hung T p s c) p) ≡ c
  hung_child = ap (child_on s) (written_at T p (with_child s c (slot_at T p)) h) ∙ child_new s c (slot_at T p)

  pub hung_same : Same T (On p s) No (hung T p s c)
  hung_same =
      let each = written_each T p (with_child s c (slot_at T p)) h in
      record {
        size = length-set T p (with_child s c (slot_at T p));
        word = λ q. each (λ z x. x.length ≡ (slot_at T z).length) q refl (λ e. refl);
        weight = λ q. each (λ z x. x.weight ≡ (slot_at T z).weight) q refl (λ e. refl);
        tag = λ q. each (λ z x. x.tag ≡ (slot_at T z).tag) q refl (λ e. refl);
        children = λ q d n. each (λ z x. child_on d x ≡ child_on d (slot_at T z)) q refl (λ e. child_old s d c (slot_at T p) (λ f. n (e, f)));
        lengths = λ q d n. each (λ z x. length_on d x ≡ length_on d (slot_at T z)) q refl (λ e. length_kept s d c (slot_at T p));
      }

module _ (T : List Slot) (p : ℕ) (s : Side) (k : ℕ) (h : p < length T) where
  pub noted_length : length_on s (slot_at (noted T p s k) p) ≡ k
  noted_length = ap (length_on s) (written_at T p (with_length s k (slot_at T p)) h) ∙ length_new s k (slot_at T p)

  pub noted_same : Same T No (On p s) (noted T p s k)
  noted_same =
      let each = written_each T p (with_length s k (slot_at T p)) h in
      record {
        size = length-set T p (with_length s k (slot_at T p));
        word = λ q. each (λ z x. x.length ≡ (slot_at T z).length) q refl (λ e. refl);
        weight = λ q. each (λ z x. x.weight ≡ (slot_at T z).weight) q refl (λ e. refl);
        tag = λ q. each (λ z x. x.tag ≡ (slot_at T z).tag) q refl (λ e. refl);
        children = λ q d n. each (λ z x. child_on d x ≡ child_on d (slot_at T z)) q refl (λ e. child_kept s d k (slot_at T p));
        lengths = λ q d n. each (λ z x. length_on d x ≡ length_on d (slot_at T z)) q refl (λ e. length_old s d k (slot_at T p) (λ f. n (e, f)));
      }

-- ---- one write after another

-- what is written in A is written in B
abbrev pub Within : (ℕ → Side → Type 0) → (ℕ → Side → Type 0) → Type 0
Within A B = (q : ℕ) (d : Side) → A q d → B q d

pub then : {T T₁ T₂ : List Slot} {P Q P₁ Q₁ : ℕ → Side → Type 0} (O U : ℕ → Side → Type 0)
    → Same T P Q T₁ → Same T₁ P₁ Q₁ T₂ → Within P O → Within Q U → Within P₁ O → Within Q₁ U → Same T O U T₂
then O U A B i j i₁ j₁ = record {
  size = B.size ∙ A.size;
  word = λ q. B.word q ∙ A.word q;
  weight = λ q. B.weight q ∙ A.weight q;
  tag = λ q. B.tag q ∙ A.tag q;
  children = λ q d n. B.children q d (λ x. n (i₁ q d x)) ∙ A.children q d (λ x. n (i q d x));
  lengths = λ q d n. B.lengths q d (λ x. n (j₁ q d x)) ∙ A.lengths q d (λ x. n (j q d x));
}

pub wider : {T T₁ : List Slot} {P Q : ℕ → Side → Type 0} (O U : ℕ → Side → Type 0) → Same T P Q T₁ → Within P O → Within Q U → Same T O U T₁
wider O U A i j = record {
  size = A.size;
  word = A.word;
  weight = A.weight;
  tag = A.tag;
  children = λ q d n. A.children q d (λ x. n (i q d x));
  lengths = λ q d n. A.lengths q d (λ x. n (j q d x));
}

pub room : {T T' : List Slot} {P Q : ℕ → Side → Type 0} {q : ℕ} → Same T P Q T' → q < length T → q < length T'
room {q} S h = subst (λ (n : ℕ). q < n) (sym S.size) h

-- a tree stands where nothing of it was written
pub moved : {T T' : List Slot} {P Q : ℕ → Side → Type 0} (capacity q : ℕ) (t : Rooted) → Same T P Q T'
    → ((q : ℕ) (d : Side) → In q t → P q d → ⊥) → ((q : ℕ) (d : Side) → In q t → Q q d → ⊥) → Stands T capacity q t → Stands T' capacity q t
moved capacity q leaf S n k r = r
moved {T} {T'} capacity q (node a p x y b) S n k r =
    let n' : (d : Side) → _ = λ (d : Side). n q d (inl (sym r.0)) in
    let k' : (d : Side) → _ = λ (d : Side). k q d (inl (sym r.0)) in (
      r.0,
      r.1,
      r.2 ∙ sym (S.lengths q Left (k' Left)),
      r.3 ∙ sym (S.lengths q Right (k' Right)),
      subst (λ (z : ℕ). Stands T' capacity z a) (sym (S.children q Left (n' Left))) (moved capacity (slot_at T q).left a S (λ z d i. n z d (inr (inl i))) (λ z d i. k z d (inr (inl i))) r.4),
      subst (λ (z : ℕ). Stands T' capacity z b) (sym (S.children q Right (n' Right))) (moved capacity (slot_at T q).right b S (λ z d i. n z d (inr (inr i))) (λ z d i. k z d (inr (inr i))) r.5),
    )
