-- A text cut at each ASCII character that passes a test.
use Rattle.std.proofs.Common.{◌≡◌, ℕ, ◌<◌, Bool, true, false, cond, ◌⊎◌, inl, inr, List, [], ◌∷◌, ◌++◌, length, get_or, take, drop, Some, None, Option, sym, refl, ap, ◌∙◌, subst, arith, take-append-drop, true≢false, ◌==◌, ◌||◌, nat_lt, map, Bor, Ok, Err, Result, IfOk}
use Rattle.std.specs.List.{All, AllByRecursion, slice_split}
use Rattle.std.specs.Option.{MatchOption}
use Rattle.std.proofs.ByRecursion.{All-weaker, kept_by_passes}
use Rattle.std.proofs.lemmas.Bool.{eqb-true, ltb-true}
use Rattle.script.specs.Commands.{is_blank, words_of}
use Rattle.std.specs.Str.{NoCharPasses}
use Rattle.std.specs.Str.Pattern.{FindsBy}
use Rattle.std.specs.Str.Iter.{split_steps, split_text, split_has_more, split_pattern}
use Rattle.std.specs.declared.str.Split.{Split}
use Rattle.std.proofs.lemmas.Iterator.{YieldsList}
use Rattle.std.proofs.lemmas.Iterator.Splits.{YieldsList-from_shown_while}
use Rattle.std.proofs.lemmas.List.{get_or_default}
use Rattle.std.proofs.lemmas.List.Splits.{slice_split_none, slice_split_at}
use Rattle.std.proofs.lemmas.Str.{NoCharPasses-byte, encode_ascii, len_utf8_ascii}

module _ (t : ℕ → Bool) (ascii : (c : ℕ) → t c ≡ true → c < 128) where
  -- a text of which no character passes has no byte that passes
  fails : (b : ℕ) (r : Bool) → t b ≡ r → (b < 128 → t b ≡ false) → t b ≡ false
  fails b true e h = h (ascii b e)
  fails b false e h = e

  lacks : (bs : List ℕ) → NoCharPasses t bs → All (λ b. t b ≡ false) bs
  lacks bs h = λ k d l. fails (get_or bs k d) (t (get_or bs k d)) refl (λ low. subst (λ v. t v ≡ false) (get_or_default bs k 0 d l) (NoCharPasses-byte t bs k h l (subst (λ v. v < 128) (get_or_default bs k d 0 l) low)))

  -- a piece, and the character after it, where there is one
  piece : (w x rest : List ℕ) (live : Bool) (o : Option (ℕ × ℕ)) → FindsBy t w o → MatchOption o ((x ≡ w) × (live ≡ false)) (λ q. 0 < q.1 → (x ≡ take q.0 w) × (live ≡ true) × (rest ≡ drop q.1 w))
      → All (λ b. t b ≡ false) x × (((x ≡ w) × (live ≡ false)) ⊎ ((live ≡ true) × ((c : ℕ) × (t c ≡ true) × (w ≡ x ++ (c ∷ rest)))))
  piece w x rest live None f g = (subst (All (λ b. t b ≡ false)) (sym g.0) (lacks w f), inl g)
  piece w x rest live (Some q) f g =
      let c : ℕ = f.1.0 in
      let low : c < 128 = ascii c f.1.1 in
      let h = g (omega (arith, f.1.2.ends, len_utf8_ascii c low)) in
      let past : drop q.0 w ≡ c ∷ rest = f.1.2.split ∙ ap (λ v. v ++ drop q.1 w) (encode_ascii c low) ∙ ap {B = List ℕ} (λ v. c ∷ v) (sym h.2) in
      (subst (All (λ b. t b ≡ false)) (sym h.0) (lacks (take q.0 w) f.0), inr (h.1, (c, f.1.1, sym (take-append-drop q.0 w) ∙ (λ i. sym h.0 i ++ past i))))

  module _ {P : Type 0} (matches : P → (ℕ → Bool) → Type 0) where
    abbrev finds : P → List ℕ → Option (ℕ × ℕ) → Type 0
    finds p w o = (k : ℕ → Bool) → matches p k → FindsBy k w o

    abbrev keeps : P → P → Type 0
    keeps p q = (k : ℕ → Bool) → matches p k → matches q k

    -- what `split` yields at such a pattern
    pub YieldsList-from_split_by : {s : Split P} (bs : List ℕ) → split_text s ≡ bs → split_has_more s ≡ true → matches (split_pattern s) t → YieldsList (split_steps finds keeps) (λ x. x.now) s (slice_split t bs)
    YieldsList-from_split_by {s} bs text more pattern =
        let parts = slice_split t in
        let shown = λ (u : Split P). cond (split_has_more u) (parts (split_text u)) [] in
        subst (YieldsList (split_steps finds keeps) (λ x. x.now) s) (λ i. cond (more i) (parts (text i)) [])
        (YieldsList-from_shown_while (split_steps finds keeps) (λ x. x.now) shown (λ u. matches (split_pattern u) t)
        (λ a u h k. ap (λ b. length (cond b (parts (split_text a)) [])) (sym k.0))
        (λ a x u h k.
        let cut = k.1.1.1 in
        let m = piece (split_text a) x.now (split_text u) (split_has_more u) cut.0 (cut.1 t h) cut.2 in (
          k.1.0 t h,
          ap (λ b. cond b (parts (split_text a)) []) (sym k.0) ∙ ends a u x.now m.0 m.1,
        ))
        s pattern)
      where
        ends : (a u : Split P) (x : List ℕ) → All (λ b. t b ≡ false) x → ((x ≡ split_text a) × (split_has_more u ≡ false)) ⊎ ((split_has_more u ≡ true) × ((c : ℕ) × (t c ≡ true) × (split_text a ≡ x ++ (c ∷ split_text u))))
            → slice_split t (split_text a) ≡ x ∷ cond (split_has_more u) (slice_split t (split_text u)) []
        ends a u x none (inl last) = ap (slice_split t) (sym last.0) ∙ slice_split_none t x none ∙ ap (λ b. x ∷ cond b (slice_split t (split_text u)) []) (sym last.1)
        ends a u x none (inr on) =
            ap (slice_split t) on.1.2 ∙ slice_split_at t x on.1.0 (split_text u) none on.1.1 ∙ ap (λ b. x ∷ cond b (slice_split t (split_text u)) []) (sym on.0)

-- spaces and tabs are ASCII
pub blank_ascii : (c : ℕ) → is_blank c ≡ true → c < 128
blank_ascii c h = at (32 == c) refl (9 == c) refl h
  where
    at : (a : Bool) → (32 == c) ≡ a → (b : Bool) → (9 == c) ≡ b → (a || (b || false)) ≡ true → c < 128
    at true p b q h = let e = eqb-true 32 c p in omega arith
    at false p true q h = let e = eqb-true 9 c q in omega arith
    at false p false q h = absurd (true≢false (sym h))

-- what holds of each part holds of each borrow of one
borrowed : (P : List ℕ → Type 0) (ws : List (Bor (List ℕ))) → AllByRecursion P (map (λ w. w.now) ws) → AllByRecursion (λ w. P w.now) ws
borrowed P [] h = tt
borrowed P (w ∷ ws) h = (h.0, borrowed P ws h.1)

-- no word of a line is empty
filled : (line : List ℕ) (ws : List (Bor (List ℕ))) → map (λ w. w.now) ws ≡ words_of line → AllByRecursion (λ w. 0 < length w.now) ws
filled line ws e =
    let some = λ (w : List ℕ). nat_lt 0 (length w) in
    borrowed (λ w. 0 < length w) ws
    (subst (AllByRecursion (λ w. 0 < length w)) (sym e) (All-weaker (λ w. some w ≡ true) (λ w. 0 < length w) (λ w h. ltb-true 0 (length w) h) (words_of line) (kept_by_passes some (slice_split is_blank line))))

pub words_filled : {V E : Type 0} (line : List ℕ) (items : V → List (Bor (List ℕ))) (r : Result V E) → IfOk r (λ v. map (λ w. w.now) (items v) ≡ words_of line) → IfOk r (λ v. AllByRecursion (λ w. 0 < length w.now) (items v))
words_filled line items (Ok v) h = filled line (items v) h
words_filled line items (Err e) h = tt
