-- Of entries with different words exactly one outranks the other, and outranking goes on.
use Rattle.std.proofs.Common.{◌≡◌, ℕ, ◌<◌, Bool, true, false, ◌&&◌, eqb, ltb, ◌⊎◌, Ordering, Less, sym, refl, ap, ◌∙◌, inl, inr, arith}
use Rattle.std.specs.Ordering.{is_lt}
use Rattle.std.proofs.lemmas.Bool.{ltb-true, eqb-true, lt-ltb, eq-eqb, or_cases, or_left, or_right, and_parts, and_from, false≢true, cases_order}
use Rattle.kinds.specs.Orders.{Lawful}
use Rattle.words.specs.Words.{word_order}
use Rattle.words.proofs.Orders.{words_lawful}
use Rattle.words.proofs.Sharing.{is_lt_less, word_cases, word_once}
use Rattle.rules.specs.Entries.{Entry, before, outranks}

-- a test that does not pass, and one that does both
pub fails : (b : Bool) → (b ≡ true → ⊥) → b ≡ false
fails true f = absurd (f refl)
fails false f = refl

pub never : {A : Type 0} (b : Bool) → b ≡ true → b ≡ false → A
never b h k = absurd (false≢true (sym k ∙ h))

module _ (order : ℕ → ℕ → Ordering) where
  -- outranking as a fact
  abbrev pub Over : Entry → Entry → Type 0
  Over e f = (f.weight < e.weight) ⊎ ((e.weight ≡ f.weight) × (word_order order e.word f.word ≡ Less))

  abbrev heavier : Entry → Entry → Bool
  heavier e f = ltb f.weight e.weight

  abbrev as_heavy : Entry → Entry → Bool
  as_heavy e f = eqb e.weight f.weight && before order e.word f.word

  pub over_of : (e f : Entry) → outranks order e f ≡ true → Over e f
  over_of e f h =
      elim (or_cases (heavier e f) (as_heavy e f) h) [
        | inl p ↦ inl (ltb-true f.weight e.weight p)
        | inr p ↦
            let q = and_parts (eqb e.weight f.weight) (before order e.word f.word) p in
            inr (eqb-true e.weight f.weight q.0, is_lt_less (word_order order e.word f.word) q.1)
      ]

  pub over_to : (e f : Entry) → Over e f → outranks order e f ≡ true
  over_to e f (inl h) = or_left (heavier e f) (as_heavy e f) (lt-ltb f.weight e.weight h)
  over_to e f (inr h) =
      or_right (heavier e f) (as_heavy e f)
      (and_from (eqb e.weight f.weight) (before order e.word f.word) (eq-eqb e.weight f.weight h.0) (ap is_lt h.1))

module _ (order : ℕ → ℕ → Ordering) (law : Lawful order) where
  chains_at : (e f g : Entry) → Over order e f → Over order f g → Over order e g
  chains_at e f g (inl p) (inl q) = inl (omega arith)
  chains_at e f g (inl p) (inr q) = inl (omega (arith, q.0))
  chains_at e f g (inr p) (inl q) = inl (omega (arith, p.0))
  chains_at e f g (inr p) (inr q) = inr (p.0 ∙ q.0, (words_lawful order law).chains e.word f.word g.word p.1 q.1)

  pub outranks_chains : (e f g : Entry) → outranks order e f ≡ true → outranks order f g ≡ true → outranks order e g ≡ true
  outranks_chains e f g h k = over_to order e g (chains_at e f g (over_of order e f h) (over_of order f g k))

  once_at : (e f : Entry) → Over order e f → Over order f e → ⊥
  once_at e f (inl p) (inl q) = omega arith
  once_at e f (inl p) (inr q) = omega (arith, q.0)
  once_at e f (inr p) (inl q) = omega (arith, p.0)
  once_at e f (inr p) (inr q) = word_once order law e.word f.word p.1 q.1

  pub outranks_once : (e f : Entry) → outranks order e f ≡ true → outranks order f e ≡ true → ⊥
  outranks_once e f h k = once_at e f (over_of order e f h) (over_of order f e k)

  pub outranks_swaps : (e f : Entry) → outranks order e f ≡ true → outranks order f e ≡ false
  outranks_swaps e f h = fails (outranks order f e) (outranks_once e f h)

  pub outranks_itself : (e : Entry) → outranks order e e ≡ false
  outranks_itself e = fails (outranks order e e) (λ h. outranks_once e e h h)

  pub outranks_either : (e f : Entry) → (e.word ≡ f.word → ⊥) → (outranks order e f ≡ true) ⊎ (outranks order f e ≡ true)
  outranks_either e f n =
      elim (cases_order e.weight f.weight) [
        | inl p ↦ elim (word_cases order law e.word f.word) [
          | inl q ↦ inl (over_to order e f (inr (p, q)))
          | inr o ↦ elim o [ inl q ↦ absurd (n q) | inr q ↦ inr (over_to order f e (inr (sym p, q))) ]
        ]
        | inr o ↦ elim o [ inl p ↦ inr (over_to order f e (inl p)) | inr p ↦ inl (over_to order e f (inl p)) ]
      ]

  pub outranks_other : (e f : Entry) → (e.word ≡ f.word → ⊥) → outranks order e f ≡ false → outranks order f e ≡ true
  outranks_other e f n h = elim (outranks_either e f n) [ inl p ↦ never (outranks order e f) p h | inr p ↦ p ]
