-- That memory is filled soundly is a plain fact: it has one proof, so a ghost field that hides it gives it back.
use Rattle.std.proofs.Common.{◌≡◌, ℕ, List}
use mathlib.Core.Logic.{∥∥₁_elim}
use denote.Struct.Props.{props}
use native.Mathlib.Bridge.{le_prop}
use Rattle.limits.specs.declared.bounds.Limits.{Limits}
use Rattle.slots.specs.declared.slot.Slot.{Slot}
use Rattle.store.specs.Tables.{Rooted, leaf, node, size, Apart, Stands, Sound, slot_at, rooted}
use Rattle.store.specs.Stores.{Filled}

stands_prop : (T : List Slot) (capacity q : ℕ) (t : Rooted) → IsProp (Stands T capacity q t)
stands_prop T capacity q leaf x y = le_prop x y
stands_prop T capacity q (node l p m n r) x y =
    let left = stands_prop T capacity (slot_at T q).left l in
    let right = stands_prop T capacity (slot_at T q).right r in
    let here : IsProp (p ≡ q) = hlevel props in
    let before : IsProp (m ≡ (slot_at T q).left_length) = hlevel props in
    let after : IsProp (n ≡ (slot_at T q).right_length) = hlevel props in
    λ i. (here x.0 y.0 i, le_prop x.1 y.1 i, before x.2 y.2 i, after x.3 y.3 i, left x.4 y.4 i, right x.5 y.5 i)

apart_prop : (t : Rooted) → IsProp (Apart t)
apart_prop leaf = hlevel props
apart_prop (node l p m n r) =
    let a = apart_prop l in
    let b = apart_prop r in
    hlevel props

sound_prop : (T : List Slot) (symbols ceiling capacity top : ℕ) → IsProp (Sound T symbols ceiling capacity top)
sound_prop T symbols ceiling capacity top x y = λ i. record {
  few = le_prop x.few y.few i;
  long = le_prop x.long y.long i;
  short = le_prop x.short y.short i;
  room = le_prop x.room y.room i;
  strip = le_prop x.strip y.strip i;
  stands = stands_prop T capacity top (rooted T capacity top) x.stands y.stands i;
  once = apart_prop (rooted T capacity top) x.once y.once i;
  fits = le_prop x.fits y.fits i;
  words = λ p j. le_prop (x.words p j) (y.words p j) i;
}

filled_prop : (T : List Slot) (symbols : ℕ) (limits : Limits) (top count : ℕ) → IsProp (Filled T symbols limits top count)
filled_prop T symbols limits top count x y =
    let same : IsProp (size (rooted T limits.capacity top) ≡ count) = hlevel props in
    λ i. record {
      sound = sound_prop T symbols limits.ceiling limits.capacity top x.sound y.sound i;
      counted = same x.counted y.counted i;
      first = λ p j. le_prop (x.first p j) (y.first p j) i;
    }

pub filled_out : {T : List Slot} {symbols : ℕ} {limits : Limits} {top count : ℕ} → ∥ Filled T symbols limits top count ∥₁ → Filled T symbols limits top count
filled_out {T} {symbols} {limits} {top} {count} h = ∥∥₁_elim h (filled_prop T symbols limits top count) (λ s. s)
