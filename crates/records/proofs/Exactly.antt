-- A record is read at a place exactly if it stands there.
use Rattle.std.proofs.Common.{◌≡◌, ℕ, ◌+◌, ◌-◌, ◌*◌, ◌^◌, ◌<◌, ◌≤◌, List, ◌++◌, length, take, drop, Ok, Err, Result, sym, refl, ap, ◌∙◌, append_assoc, arith, take-append-drop}
use Rattle.std.proofs.ByRecursion.{All-take, All-drop}
use Rattle.std.proofs.lemmas.List.{take_at, drop-drop, length-take-le, length-drop, length-append}
use Rattle.kinds.specs.Bytes.{Bytes}
use Rattle.kinds.specs.Numbers.{number_high_first}
use Rattle.limits.specs.Refusals.{Told}
use Rattle.records.specs.declared.record.Head.{Head}
use Rattle.records.specs.declared.record.Head.TheVariants.{EntryHead, ClosingHead}
use Rattle.records.specs.declared.record.Numbers.{Numbers}
use Rattle.records.specs.Marks.{child_code, mark_of}
use Rattle.records.specs.Records.{Content, entry, closing, head_bytes, closing_bytes, record_bytes, Proper}
use Rattle.records.specs.Reading.{Read, field, after_mark, head_in, head_at, with_symbols, record_in, record_at, ReadsExactly}
use Rattle.records.proofs.Heads.{long, not_short, mark_of_entry, EntryThere, ClosingThere, head_there}

-- ---- what stands is read
closing_head : (place count : ℕ) (t : List ℕ) → count < 2 ^ 16 → head_in place (closing_bytes count ++ t) ≡ Ok (ClosingHead count)
closing_head place count t h =
    let b = closing_bytes count ++ t in
    not_short place 2 b (after_mark place b (mark_of 90 0)) (omega arith)
    ∙ not_short place 4 b (Ok (ClosingHead (field 2 2 b))) (omega arith)
    ∙ ap (λ (n : ℕ). Ok (ClosingHead n)) (number_high_first 2 count (omega arith))

entry_head : (place : ℕ) (n : Numbers) (size : ℕ) (t : List ℕ) → n.weight < 2 ^ 32 → n.tag < 2 ^ 32 → n.left < 2 ^ 16 → n.right < 2 ^ 16 → size < 2 ^ 16
    → head_in place (head_bytes n size ++ t) ≡ Ok (EntryHead n size)
entry_head place n size t hw ht hl hr hs =
    let b = head_bytes n size ++ t in
    let read : Numbers = record { children = n.children; weight = field 2 4 b; tag = field 6 4 b; left = field 10 2 b; right = field 12 2 b } in
    let w = number_high_first 4 n.weight (omega arith) in
    let g = number_high_first 4 n.tag (omega arith) in
    let l = number_high_first 2 n.left (omega arith) in
    let r = number_high_first 2 n.right (omega arith) in
    let s = number_high_first 2 size (omega arith) in
    not_short place 2 b (after_mark place b (mark_of 69 (child_code n.children))) (omega arith)
    ∙ ap (after_mark place b) (mark_of_entry n.children)
    ∙ not_short place 16 b (Ok (EntryHead read (field 14 2 b))) (omega arith)
    ∙ (λ j. Ok (EntryHead (record { children = n.children; weight = w j; tag = g j; left = l j; right = r j }) (s j)))

-- a record in front of some bytes is read from them
pub reads : (width place : ℕ) (c : Content) (t : List ℕ) → Proper width c → record_in width place (record_bytes c ++ t) ≡ Ok (record { content = c; next = place + length (record_bytes c) })
reads width place (closing count) t p = ap (with_symbols width place (closing_bytes count ++ t)) (closing_head place count t p)
reads width place (entry n size symbols) t p =
    let b = (head_bytes n size ++ symbols) ++ t in
    let m = size * width in
    let w = p.wide in
    let len : length (head_bytes n size ++ symbols) ≡ 16 + m = omega arith in
    let long_enough : 16 + m ≤ length b = omega (arith, length-append symbols t) in
    let h : head_in place b ≡ Ok (EntryHead n size) = entry_head place n size (symbols ++ t) p.weight p.tag p.left p.right p.size_fits in
    ap (with_symbols width place b) h
    ∙ not_short place (16 + m) b (Ok (record { content = entry n size (take m (symbols ++ t)); next = place + (16 + m) })) long_enough
    ∙ (λ j. Ok (record { content = entry n size (take_at symbols t m w j); next = place + sym len j }))

-- ---- what is read stands there
module _ (width place : ℕ) (b : List ℕ) (bytes : Bytes b) where
  abbrev ThereIs : Content → ℕ → Type 0
  ThereIs c next = Proper width c × (take (length (record_bytes c)) b ≡ record_bytes c) × (next ≡ place + length (record_bytes c))

  closing_stands : (count : ℕ) → ClosingThere b count → ThereIs (closing count) (place + 4)
  closing_stands count th = (th.fits, ap (take 4) th.is_closing, refl)

  entry_stands : (n : Numbers) (size : ℕ) → EntryThere b n size → 16 + size * width ≤ length b → ThereIs (entry n size (take (size * width) (drop 16 b))) (place + (16 + size * width))
  entry_stands n size th room =
      let m = size * width in
      let symbols = take m (drop 16 b) in
      let wide : length symbols ≡ m = length-take-le m (drop 16 b) (omega (arith, length-drop 16 b)) in
      let len : length (head_bytes n size ++ symbols) ≡ 16 + m = omega arith in
      let whole : b ≡ (head_bytes n size ++ symbols) ++ drop m (drop 16 b) =
      th.is_head ∙ ap (λ t. head_bytes n size ++ t) (sym (take-append-drop m (drop 16 b))) ∙ sym (append_assoc (head_bytes n size) symbols (drop m (drop 16 b))) in (
        record {
          weight = th.weight;
          tag = th.tag;
          left = th.left;
          right = th.right;
          size_fits = th.size_fits;
          wide = wide;
          bytes = All-take (λ x. x < 256) m (drop 16 b) (All-drop (λ x. x < 256) 16 b bytes);
        },
        ap (take (length (head_bytes n size ++ symbols))) whole ∙ take_at (head_bytes n size ++ symbols) (drop m (drop 16 b)) (length (head_bytes n size ++ symbols)) refl,
        ap (λ (x : ℕ). place + x) (sym len),
      )

  read_is : (r : Read) (c : Content) (next : ℕ) → ◌≡◌ {A = Result Read Told} (Ok r) (Ok (record { content = c; next = next })) → ThereIs r.content r.next → ThereIs c next
  read_is r c next e th =
      let k : r ≡ record { content = c; next = next } = cc in
      let f : r.content ≡ c = ap (λ (x : Read). x.content) k in
      let g : r.next ≡ next = ap (λ (x : Read). x.next) k in
      rw (← f, ← g) th

  pub stands : (c : Content) (next : ℕ) → record_in width place b ≡ Ok (record { content = c; next = next }) → ThereIs c next
  stands c next h = at (head_in place b) refl h
    where
      at : (r : Result Head Told) → head_in place b ≡ r → with_symbols width place b r ≡ Ok (record { content = c; next = next }) → ThereIs c next
      at (Err r) e k = absurd (let z : ◌≡◌ {A = ℕ} 0 1 = cc in let y : ⊥ = omega arith in y)
      at (Ok (ClosingHead count)) e k = read_is (record { content = closing count; next = place + 4 }) c next k (closing_stands count (head_there place b (ClosingHead count) bytes e))
      at (Ok (EntryHead n size)) e k =
          let r : Read = record { content = entry n size (take (size * width) (drop 16 b)); next = place + (16 + size * width) } in
          let l = long place (16 + size * width) b (Ok r) (record { content = c; next = next }) k in
          read_is r c next l.1 (entry_stands n size (head_there place b (EntryHead n size) bytes e) l.0)

pub reads_exactly : (width : ℕ) (sheet : List ℕ) (place : ℕ) → Bytes sheet → ReadsExactly width sheet place
reads_exactly width sheet place hb c next =
    let b = drop place sheet in (
      stands width place b (All-drop (λ x. x < 256) place sheet hb) c next,
      λ p.
          (let w = record_bytes c in
          let split : b ≡ w ++ drop (length w) b = sym (take-append-drop (length w) b) ∙ ap (λ t. t ++ drop (length w) b) p.1 in
          ap (record_in width place) split ∙ reads width place c (drop (length w) b) p.0 ∙ (λ j. Ok (record { content = c; next = sym p.2 j }))),
    )

-- ---- what the call makes of an entry's head, with its symbol bytes in the sheet
module _ (width place size m : ℕ) (sheet : List ℕ) (n : Numbers) (wide : m ≡ size * width) (head : Ok (EntryHead n size) ≡ head_at sheet place) where
  pub entry_answered : place + 16 + m ≤ length sheet
      → ◌≡◌ {A = Result Read Told} (Ok (record { content = entry n size (take (place + 16 + m - (place + 16)) (drop (place + 16) sheet)); next = place + 16 + m })) (record_at width sheet place)
  entry_answered room =
      let b = drop place sheet in
      let t : take (place + 16 + m - (place + 16)) (drop (place + 16) sheet) ≡ take (size * width) (drop 16 b) =
      (let k : place + 16 + m - (place + 16) ≡ size * width = omega arith in λ j. take (k j) (sym (drop-drop 16 place sheet) j)) in
      let e : place + 16 + m ≡ place + (16 + size * width) = omega arith in
      (λ j. Ok (record { content = entry n size (t j); next = e j }))
      ∙ sym (not_short place (16 + size * width) b (Ok (record { content = entry n size (take (size * width) (drop 16 b)); next = place + (16 + size * width) })) (omega (arith, length-drop place sheet)))
      ∙ ap (with_symbols width place b) head
