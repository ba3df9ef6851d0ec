use Rattle.std.proofs.Common.{◌≡◌, ℕ, ◌+◌, ◌-◌, ◌*◌, ◌^◌, ◌<◌, leb, List, ◌++◌, map, length, Some, Ok, Err, Result, take, drop, sym, ap, ◌∙◌, arith, rules}
use Rattle.std.specs.List.{flat_map}
use Rattle.std.specs.Result.{OkIff, result_ok}
use Rattle.std.proofs.lemmas.List.{length-map}
use Rattle.std.proofs.lemmas.Bool.{and_right, lt-ltb}
use Rattle.kinds.specs.Bytes.{over}
use Rattle.kinds.specs.Codecs.{Codec, Faithful}
use Rattle.records.specs.declared.record.Numbers.{Numbers}
use Rattle.records.specs.Records.{head_bytes, record_bytes, ProperEntry}
use Rattle.records.specs.Writing.{entry_of, fits_size}
use Rattle.records.proofs.Symbols.{length_joined, bytes_joined}
use Rattle.records.proofs.Putting.{put, not_put, no_room, room_there}
use Rattle.records.proofs.write.write_entry.Goals as goal

-- the length of the record of a word of so many symbols
record_length : (c : Codec) → Faithful c → (n : Numbers) (word : List ℕ) (m w : ℕ) → length word ≡ m → w ≡ c.width → length (record_bytes (entry_of c n word)) ≡ 16 + m * w
record_length c law n word m w e f =
    let j = length_joined c.bytes c.width law.wide word in
    let k : length word * c.width ≡ m * w = (λ i. e i * sym f i) in
    omega arith

-- the two length bytes hold the word's length
sized : {E : Type 0} (r : Result ℕ E) (P : Type 0) (v x : ℕ) → OkIff r P v → Some x ≡ result_ok r → P × (x ≡ v)
sized (Ok y) P v x h e = let f : x ≡ y = cc in (h.0, f ∙ h.1)
sized (Err d) P v x h e = absurd (let z : ◌≡◌ {A = ℕ} 0 1 = cc in let y : ⊥ = omega arith in y)

pub returns-in_err-next : goal.returns-in_err-next
returns-in_err-next g c =
    let symbol = g.S.Ordered.symbol in
    let codec = g.S.Written.codec in
    let word = map symbol c.args.word.now in
    let content = entry_of codec c.args.numbers word in
    let len = record_length codec g.met.S.Written.faithful c.args.numbers word (length c.args.word.now) c.width_of.result (length-map c.args.word.now symbol) c.width_of.ensures.value in
    let h = no_room (c.args.at + (16 + length c.args.word.now * c.width_of.result)) (length c.args.sheet.now) c.in_err-next.ensures in
    rw c.from_residual-in_err-next.ensures
    (not_put codec.width content c.args.at c.args.sheet.now
    (and_right (fits_size content) (leb (c.args.at + length (record_bytes content)) (length c.args.sheet.now)) (ap (λ (n : ℕ). leb (c.args.at + n) (length c.args.sheet.now)) len ∙ h)))

pub returns : goal.returns
returns g c =
    let symbol = g.S.Ordered.symbol in
    let codec = g.S.Written.codec in
    let law = g.met.S.Written.faithful in
    let word = map symbol c.args.word.now in
    let content = entry_of codec c.args.numbers word in
    let l = length-map c.args.word.now symbol in
    let size = sized c.try_from.result _ _ c.in_ok-size.size c.try_from.ensures c.in_ok-size.ensures.value in
    let small : length word < 2 ^ 16 = (let k = size.0 in omega arith) in
    let len = record_length codec law c.args.numbers word (length c.args.word.now) c.width_of.result l c.width_of.ensures.value in
    let h = room_there (c.args.at + (16 + length c.args.word.now * c.width_of.result)) (length c.args.sheet.now) c.in_ok-next.next c.in_ok-next.ensures in
    let proper : ProperEntry codec.width c.args.numbers (length word) (flat_map codec.bytes word) =
    record {
      weight = search rules;
      tag = search rules;
      left = search rules;
      right = search rules;
      size_fits = small;
      wide = length_joined codec.bytes codec.width law.wide word;
      bytes = bytes_joined codec.bytes law.small word;
    } in
    put codec.width content c.args.at c.in_ok-next.next c.args.sheet.now c.put_entry.new.rest proper
    (lt-ltb (length word) 65536 (omega arith)) (h.0 ∙ ap (λ (n : ℕ). c.args.at + n) (sym len)) (omega (arith, h.0, h.1))
    (c.put_entry.ensures ∙ ap (λ (n : ℕ). over 0 (head_bytes c.args.numbers n ++ flat_map codec.bytes word) (take (length c.args.sheet.now - c.args.at) (drop c.args.at c.args.sheet.now))) (size.1 ∙ sym l))
