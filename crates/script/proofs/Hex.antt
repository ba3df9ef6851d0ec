-- Bytes as pairs of hexadecimal digits, read and written from the left.
use Rattle.std.proofs.Common.{◌≡◌, ℕ, ◌+◌, ◌/◌, ◌%◌, ◌<◌, ◌≤◌, ltb, List, [], ◌∷◌, ◌++◌, length, get_or, take, Some, None, Option, sym, refl, ap, ◌∙◌, append_assoc, arith}
use Rattle.std.specs.List.{flat_map}
use Rattle.std.proofs.lemmas.List.{flat_map_more, take_more, take_all}
use Rattle.std.proofs.lemmas.Bool.{cond_both}
use Rattle.script.specs.Texts.{digit_of, hex_digit, hex_pair, hex_pairs, hex_text, byte_of, before}

-- one byte more is written
pub text_more : (bs : List ℕ) (i b : ℕ) → i < length bs → b ≡ get_or bs i 0 → flat_map hex_pair (take (i + 1) bs) ≡ flat_map hex_pair (take i bs) ++ hex_pair b
text_more bs i b h e =
    ap (flat_map hex_pair) (take_more bs i 0 h ∙ ap (λ (x : ℕ). take i bs ++ (x ∷ [])) (sym e)) ∙ sym (flat_map_more hex_pair [] (take i bs) b)

-- all of them are
pub text_all : (bs : List ℕ) (i : ℕ) → 0 < length bs → length bs ≤ i → flat_map hex_pair (take i bs) ≡ hex_text bs
text_all [] i h k = absurd (omega arith)
text_all (b ∷ bs) i h k = ap (flat_map hex_pair) (take_all i (b ∷ bs) k)

-- the bytes read so far, and what the rest gives
abbrev pub after : List ℕ → Option (List ℕ) → Option (List ℕ)
after done None = None
after done (Some bs) = Some (done ++ bs)

pub after_none : (o : Option (List ℕ)) → after [] o ≡ o
after_none None = refl
after_none (Some bs) = refl

pub after_before : (done : List ℕ) (b : ℕ) (o : Option (List ℕ)) → after done (before (Some b) o) ≡ after (done ++ (b ∷ [])) o
after_before done b None = refl
after_before done b (Some bs) = ap (λ t. Some t) (sym (append_assoc done (b ∷ []) bs))

-- one pair more is read
pub pair_more : (ds pair rest done now : List ℕ) (b : ℕ) → hex_pairs ds ≡ after done (hex_pairs (pair ++ rest)) → length pair ≡ 2 → Some b ≡ byte_of (hex_digit (get_or pair 0 0)) (hex_digit (get_or pair 1 0)) → now ≡ done ++ (b ∷ [])
    → hex_pairs ds ≡ after now (hex_pairs rest)
pair_more ds (h ∷ l ∷ []) rest done now b so two e is =
    so
    ∙ ap (λ (o : Option ℕ). after done (before o (hex_pairs rest))) (sym e)
    ∙ after_before done b (hex_pairs rest)
    ∙ ap (λ (x : List ℕ). after x (hex_pairs rest)) (sym is)
pair_more ds [] rest done now b so two e is = absurd (omega arith)
pair_more ds (h ∷ []) rest done now b so two e is = absurd (omega arith)
pair_more ds (h ∷ l ∷ d ∷ more) rest done now b so two e is = absurd (omega arith)

digit_small : (n : ℕ) → n < 16 → digit_of n < 128
digit_small n h = cond_both (ltb n 10) (48 + n) (87 + n) (λ (x : ℕ). x < 128) (λ e. omega arith) (λ e. omega arith)

-- the two characters of a byte, pushed one after the other
pub text_pushed : (bs done one two : List ℕ) (i c d : ℕ) → i < length bs → get_or bs i 0 < 256 → done ≡ flat_map hex_pair (take i bs)
    → c ≡ digit_of (get_or bs i 0 / 16) → d ≡ digit_of (get_or bs i 0 % 16) → (c < 128 → one ≡ c ∷ []) → (d < 128 → two ≡ d ∷ [])
    → (done ++ one) ++ two ≡ flat_map hex_pair (take (i + 1) bs)
text_pushed bs done one two i c d h small is ec ed eone etwo =
    let b = get_or bs i 0 in
    let sc : c < 128 = (let k = digit_small (b / 16) (omega arith) in omega arith) in
    let sd : d < 128 = (let k = digit_small (b % 16) (omega arith) in omega arith) in
    append_assoc done one two
    ∙ (λ j. is j ++ (eone sc j ++ etwo sd j))
    ∙ (λ j. flat_map hex_pair (take i bs) ++ (ec j ∷ (ed j ∷ [])))
    ∙ sym (text_more bs i b h refl)
