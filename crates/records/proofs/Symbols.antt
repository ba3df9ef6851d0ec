-- The bytes of a word's symbols, one after another.
use Rattle.std.proofs.Common.{◌≡◌, ℕ, ◌+◌, ◌*◌, ◌<◌, ◌≤◌, List, [], ◌∷◌, ◌++◌, map, length, get_or, take, sym, ap, ◌∙◌, add-mul, zero-mul, one-add, arith, length-append}
use Rattle.std.specs.List.{flat_map}
use Rattle.std.proofs.lemmas.Nat.{mul-le}
use Rattle.std.proofs.ByRecursion.{All-append}
use Rattle.std.proofs.lemmas.List.{map_more, flat_map_more}
use Rattle.kinds.specs.Bytes.{Bytes}

-- one symbol more
pub joined_step : {X : Type 0} (f : ℕ → List ℕ) (symbol : X → ℕ) (xs : List X) (i : ℕ) (x : X) → i < length xs → x ≡ get_or xs i x → flat_map f (map symbol (take (i + 1) xs)) ≡ flat_map f (map symbol (take i xs)) ++ f (symbol x)
joined_step f symbol xs i x h e =
    ap (flat_map f) (map_more symbol xs i x h ∙ ap (λ y. map symbol (take i xs) ++ (symbol y ∷ [])) (sym e))
    ∙ sym (flat_map_more f [] (map symbol (take i xs)) (symbol x))

pub length_joined : (f : ℕ → List ℕ) (width : ℕ) → ((s : ℕ) → length (f s) ≡ width) → (xs : List ℕ) → length (flat_map f xs) ≡ length xs * width
length_joined f width wide [] = sym (zero-mul width)
length_joined f width wide (x ∷ xs) =
    let e = length-append (f x) (flat_map f xs) in
    let r = length_joined f width wide xs in
    let m : (1 + length xs) * width ≡ 1 * width + length xs * width = add-mul 1 (length xs) width in
    let z : length (f x ++ flat_map f xs) ≡ (1 + length xs) * width = omega (arith, e, r, m, wide x) in
    z ∙ ap (λ (n : ℕ). n * width) (one-add (length xs))

pub bytes_joined : (f : ℕ → List ℕ) → ((s : ℕ) → Bytes (f s)) → (xs : List ℕ) → Bytes (flat_map f xs)
bytes_joined f small [] = tt
bytes_joined f small (x ∷ xs) = All-append (λ y. y < 256) (f x) (flat_map f xs) (small x) (bytes_joined f small xs)

-- where symbols of a width have room, the next one has
pub room : (i n width : ℕ) → i < n → i * width + width ≤ n * width
room i n width h =
    let m : (i + 1) * width ≤ n * width = mul-le (i + 1) width n width (omega arith) (omega arith) in
    let e : (i + 1) * width ≡ i * width + 1 * width = add-mul i 1 width in
    omega (arith, m, e)
