use Rattle.std.proofs.Common.{◌≡◌, ℕ, ◌<◌, List, ◌++◌, length, get_or, string_bytes, sym, refl, ◌∙◌, arith}
use lib.Utf8.{encode}
use Rattle.std.proofs.lemmas.Slice.{pushed}
use Rattle.std.proofs.lemmas.Bool.{eqb-false}
use Rattle.script.proofs.Hex.{text_pushed, text_all}
use Rattle.script.proofs.text.hex.Goals as goal

pub loop-b-preserved : goal.loop-b-preserved
loop-b-preserved c =
    let was : List ℕ = string_bytes c.loop-b.out in
    let first : List ℕ = encode c.digit_char.result in
    let second : List ℕ = encode c.digit_char-in-loop-b.result in
    let one : string_bytes c.push.new.self ≡ was ++ first = pushed first refl c.in_ok-push.was c.push.ensures.bytes in
    let two : string_bytes c.push-in-loop-b.new.self ≡ (was ++ first) ++ second = pushed second one c.in_ok-push-2.was c.push-in-loop-b.ensures.bytes in
    let small : get_or c.args.bytes.now c.loop-b.b-index 0 < 256 = (let f = c.type_inv.bytes c.loop-b.b-index in omega arith) in
    two
    ∙ text_pushed c.args.bytes.now was first second c.loop-b.b-index c.digit_char.result c.digit_char-in-loop-b.result (omega arith) small c.loop-b.invariant
    c.digit_char.ensures c.digit_char-in-loop-b.ensures c.push.ensures.ascii c.push-in-loop-b.ensures.ascii

pub returns : goal.returns
returns c =
    let some : (length c.args.bytes.now ≡ 0 → ⊥) = eqb-false (length c.args.bytes.now) 0 (sym c.is_empty.ensures ∙ c.if-is_empty.false) in
    c.loop-b.invariant ∙ text_all c.args.bytes.now c.loop-b.b-index (omega arith) (omega arith)
