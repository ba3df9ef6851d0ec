-- What a lookup answers is what the plain list says, and its slip is the bill of the rules.
use Rattle.std.proofs.Common.{◌≡◌, ℕ, List, length, Some, None, Ok, Err, Option, Ordering, sym, ap, ◌∙◌, subst, arith}
use Rattle.std.specs.Option.{option_map}
use Rattle.std.proofs.lemmas.List.Sorted.{length_permutation}
use Rattle.kinds.specs.Orders.{Lawful}
use Rattle.limits.specs.declared.refusal.Refusal.{Refusal}
use Rattle.limits.specs.Refusals.{Told, told, word_refusal}
use Rattle.rules.specs.Entries.{Entry}
use Rattle.rules.specs.Held.{entry_of}
use Rattle.rules.specs.Lookups.{met, pairs_of}
use Rattle.rules.specs.Walks.{Walked, lookup, LawOfLookup}
use Rattle.rules.proofs.Walks.{lookup_law}
use Rattle.store.specs.declared.lookup.Looked.{Looked}
use Rattle.store.specs.Entries.{LookedOf, held_of}
use Rattle.dictionary.specs.declared.dictionary.Dictionary.{Dictionary}
use Rattle.dictionary.specs.declared.tally.Slip.{Slip}
use Rattle.dictionary.specs.Dictionaries.{Answer, Kept, LookedUp, billed, held, limits, tree}

-- the slip that comes with an answer
abbrev slip_of : Answer Refusal → Slip
slip_of (Ok x) = x.1
slip_of (Err k) = record { met = 0; pairs = 0 }

module _ (order : ℕ → ℕ → Ordering) (law : Lawful order) {S : Type 0} (symbol : S → ℕ) (d : Dictionary S) (w : List ℕ) where
  abbrev es : List Entry
  es = held symbol d

  abbrev walked : Walked
  walked = lookup order w 0 0 (tree symbol d)

  of_lookup : Kept order symbol d → LawOfLookup order es w walked
  of_lookup K = lookup_law order law es (tree symbol d) w K.sorted K.tree_of

  pub refused : (k : Refusal) → word_refusal (limits d) (length w) ≡ Some (told k) → LookedUp order symbol d w (Err k)
  refused k c = record {
    answers = λ K. sym (ap (λ (t : Option Told). billed t (option_map held_of (entry_of order w es)) (length (met order es w)) (pairs_of order es w)) c);
    stepped = λ found slip e. absurd (let z : ◌≡◌ {A = ℕ} 0 1 = cc in let y : ⊥ = omega arith in y);
    law = of_lookup;
    ceiling = λ K found slip e. absurd (let z : ◌≡◌ {A = ℕ} 0 1 = cc in let y : ⊥ = omega arith in y);
  }

  module _ (x : Looked) (L : LookedOf walked x) (slip : Slip) (is : slip ≡ record { met = x.met; pairs = x.pairs }) where
    answer_is : Kept order symbol d → ◌≡◌ {A = Answer Told} (Ok (x.found, slip)) (billed None (option_map held_of (entry_of order w es)) (length (met order es w)) (pairs_of order es w))
    answer_is K =
        let l = of_lookup K in
        let f = L.found ∙ ap (option_map held_of) l.finds in
        let n = L.met ∙ length_permutation (met order es w) walked.way l.meets in
        let m = L.pairs ∙ l.looks in
        ap (λ (s : Slip). Ok (x.found, s)) is ∙ (λ i. Ok (f i, record { met = n i; pairs = m i }))

    pub answered_with : word_refusal (limits d) (length w) ≡ None → LookedUp order symbol d w (Ok (x.found, slip))
    answered_with c = record {
      answers = λ K. answer_is K ∙ sym (ap (λ (t : Option Told). billed t (option_map held_of (entry_of order w es)) (length (met order es w)) (pairs_of order es w)) c);
      stepped = λ found s e. (let f : slip ≡ s = ap slip_of e in subst (λ (z : Slip). (z.met ≡ length walked.way) × (z.pairs ≡ walked.pairs)) f
          (ap (λ (z : Slip). z.met) is ∙ L.met, ap (λ (z : Slip). z.pairs) is ∙ L.pairs));
      law = of_lookup;
      ceiling = λ K found s e. (let f : slip ≡ s = ap slip_of e in
          let m = sym (ap (λ (z : Slip). z.met) f) ∙ ap (λ (z : Slip). z.met) is ∙ L.met in
          let p = sym (ap (λ (z : Slip). z.pairs) f) ∙ ap (λ (z : Slip). z.pairs) is ∙ L.pairs in
          let few = (of_lookup K).few in
          omega arith);
    }
