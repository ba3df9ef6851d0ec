-- Words, read and written piece by piece.
use Rattle.std.proofs.Common.{◌≡◌, ◌≢◌, ℕ, ◌+◌, ◌<◌, false, cond, ◌==◌, List, [], ◌∷◌, ◌++◌, length, get_or, take, drop, Some, None, Option, codes, sym, refl, ap, ◌∙◌, append-nil, lit<, arith}
use Rattle.std.specs.List.{flat_map}
use Rattle.std.specs.Str.{bytes_eq}
use Rattle.std.proofs.Math.Utf8.{encode}
use Rattle.std.proofs.lemmas.Bool.{ne_eqb}
use Rattle.std.proofs.lemmas.List.{drop_more, drop_all, flat_map_more, take_more}
use Rattle.std.proofs.lemmas.Str.{encode_ascii}
use Rattle.script.specs.Texts.{all_in, before, pieces_of, word_in}
use Rattle.script.proofs.Hex.{after, after_before}

-- a text that is not `-` and does not begin with `=` is read by its pieces
by_pieces : (of_piece : List ℕ → Option ℕ) (of_text : List ℕ → Option (List ℕ)) (text : List ℕ) → false ≡ bytes_eq text (codes "-") → ((rest : List ℕ) → text ≢ encode 61 ++ rest) → word_in of_piece of_text text ≡ all_in of_piece (pieces_of text)
by_pieces of_piece of_text [] dash equals = refl
by_pieces of_piece of_text (c ∷ text) dash equals =
    ap (λ b. cond b (Some []) (cond (c == 61) (of_text text) (all_in of_piece (pieces_of (c ∷ text))))) (sym dash)
    ∙ ap (λ b. cond b (of_text text) (all_in of_piece (pieces_of (c ∷ text)))) (ne_eqb c 61 (λ e. equals text (ap (λ (d : ℕ). d ∷ text) e ∙ ap (λ (l : List ℕ). l ++ text) (sym (encode_ascii 61 (lit< tt))))))

module _ (of_piece : List ℕ → Option ℕ) (of_text : List ℕ → Option (List ℕ)) (text : List ℕ) (dash : false ≡ bytes_eq text (codes "-")) (equals : (rest : List ℕ) → text ≢ encode 61 ++ rest) (o : Option (List ℕ)) where
  -- so the word is what its pieces are
  pub word_is : all_in of_piece (pieces_of text) ≡ o → word_in of_piece of_text text ≡ o
  word_is e = by_pieces of_piece of_text text dash equals ∙ e

module _ (of_piece : List ℕ → Option ℕ) (pieces : List (List ℕ)) where
  -- the pieces before a place gave these numbers
  abbrev pub Read : ℕ → List ℕ → Type 0
  Read n done = all_in of_piece pieces ≡ after done (all_in of_piece (drop n pieces))

  module _ (n : ℕ) (piece done : List ℕ) (room : n < length pieces) (is : piece ≡ get_or pieces n piece) (read : Read n done) where
    here : all_in of_piece pieces ≡ after done (before (of_piece piece) (all_in of_piece (drop (n + 1) pieces)))
    here = read ∙ ap (λ ps. after done (all_in of_piece ps)) (drop_more pieces n piece room ∙ ap (λ (p : List ℕ). p ∷ drop (n + 1) pieces) (sym is))

    -- one piece more
    pub one_read : (s : ℕ) → Some s ≡ of_piece piece → Read (n + 1) (done ++ (s ∷ []))
    one_read s e = here ∙ ap (λ o. after done (before o (all_in of_piece (drop (n + 1) pieces)))) (sym e) ∙ after_before done s (all_in of_piece (drop (n + 1) pieces))

    -- a piece that writes no symbol
    pub none_read : None ≡ of_piece piece → all_in of_piece pieces ≡ None
    none_read e = here ∙ ap (λ o. after done (before o (all_in of_piece (drop (n + 1) pieces)))) (sym e)

  pub all_read : (n : ℕ) (done : List ℕ) → n ≡ length pieces → Read n done → all_in of_piece pieces ≡ Some done
  all_read n done end read = read ∙ ap (λ ps. after done (all_in of_piece ps)) (drop_all n pieces (omega arith)) ∙ ap (λ (l : List ℕ). Some l) (append-nil done)

module _ {S : Type 0} (piece : S → List ℕ) where
  abbrev pub dotted : S → List ℕ
  dotted s = codes "." ++ piece s

  -- one piece more
  pub text_more : (rest : List S) (i : ℕ) (s : S) (base was text : List ℕ) → i < length rest → s ≡ get_or rest i s → was ≡ base ++ flat_map dotted (take i rest) → text ≡ was ++ dotted s → text ≡ base ++ flat_map dotted (take (i + 1) rest)
  text_more rest i s base was text h e w t =
      t
      ∙ ap (λ (z : List ℕ). z ++ dotted s) w
      ∙ flat_map_more dotted base (take i rest) s
      ∙ ap (λ (z : List S). base ++ flat_map dotted z) (sym (take_more rest i s h ∙ ap (λ (x : S). take i rest ++ (x ∷ [])) (sym e)))
