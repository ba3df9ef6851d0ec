-- Lent buffers: their bytes, and what writing over a part of one leaves in the whole.
use Rattle.std.proofs.Common.{◌≡◌, ℕ, ◌+◌, ◌-◌, ◌<◌, ◌≤◌, List, [], ◌∷◌, ◌++◌, length, get_or, take, drop, set, sym, refl, append_assoc, arith, w8, Fits}
use borrow.Rule.Slice.PartMut.{put_mid}
use Rattle.std.proofs.ByRecursion.{All-from_get_or}
use Rattle.std.proofs.lemmas.Grind.{common_steps}
use Rattle.std.proofs.lemmas.List.{drop-drop, take_at, drop_at, length-append}
use Rattle.kinds.specs.Bytes.{Bytes, over}

-- a slice of bytes holds bytes
pub bytes_typed : (s : List ℕ) → ((i : ℕ) → Fits w8 (get_or s i 0)) → Bytes s
bytes_typed s typed = All-from_get_or (λ x. x < 256) s 0 (λ i h. let f = typed i in omega arith)

-- a buffer whose rest, from a place on, was lent to a writer that wrote w over its front
pub over_lent : (s w out : List ℕ) (place : ℕ) → place ≤ length s → out ≡ over 0 w (take (length s - place) (drop place s)) → put_mid place (length s - place) s out ≡ over place w s
over_lent s w out place h e = grind (arith, common_steps)

-- one write right after another is one write
pub over_over : (s w v : List ℕ) (place : ℕ) → place + length w ≤ length s → over (place + length w) v (over place w s) ≡ over place (w ++ v) s
over_over s w v place h =
    let front : over place w s ≡ (take place s ++ w) ++ drop (place + length w) s = sym (append_assoc (take place s) w (drop (place + length w) s)) in
    let l : length (take place s ++ w) ≡ place + length w = grind (arith, common_steps) in
    let t = take_at (take place s ++ w) (drop (place + length w) s) (place + length w) l in
    let d = drop_at (take place s ++ w) (drop (place + length w) s) (place + length w) l in
    let beyond = drop-drop (length v) (place + length w) (over place w s) in
    let rest = drop-drop (length v) (place + length w) s in
    grind (arith, append_assoc, length-append)

pub length_over : (s w : List ℕ) (place : ℕ) → place + length w ≤ length s → length (over place w s) ≡ length s
length_over s w place h = grind (arith, common_steps)

-- what was written stands there
pub over_stands : (s w : List ℕ) (place : ℕ) → place ≤ length s → drop place (over place w s) ≡ w ++ drop (place + length w) s
over_stands s w place h = grind (arith, common_steps)

-- a buffer that holds w from a place on, lent from the end of w on to a writer of v
pub over_next : (s w v now out : List ℕ) (place p : ℕ) → now ≡ over place w s → p ≡ place + length w → p ≤ length s → out ≡ over 0 v (take (length now - p) (drop p now)) → put_mid p (length now - p) now out ≡ over place (w ++ v) s
over_next s w v now out place p is end room wrote =
    let len = length_over s w place in
    let lent = over_lent now v out p in
    let both = over_over s w v place in
    grind arith

-- two bytes set at the front
pub over_two : (s : List ℕ) (x y : ℕ) → 2 ≤ length s → set (set s 0 x) 1 y ≡ over 0 (x ∷ (y ∷ [])) s
over_two [] x y h = absurd (omega arith)
over_two (a ∷ []) x y h = absurd (omega arith)
over_two (a ∷ (b ∷ s)) x y h = refl
