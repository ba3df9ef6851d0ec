use Rattle.std.proofs.Common.{ℕ, List, [], ◌∷◌, ◌++◌, refl, ap, ◌∙◌, arith}
use Rattle.kinds.specs.Bytes.{high_first, over}
use Rattle.kinds.proofs.Buffers.{over_two}
use Rattle.records.specs.Marks.{child_code}
use Rattle.records.proofs.Putting.{over_copied, high_two, high_four}
use Rattle.records.proofs.write.put_head.Goals as goal

-- each copy begins where the last one ended
pub returns : goal.returns
returns c =
    let s = c.args.rest.now in
    let n = c.args.numbers in
    let to_mark : List ℕ = 69 ∷ (child_code n.children ∷ []) in
    let to_weight : List ℕ = to_mark ++ high_first 4 n.weight in
    let to_tag : List ℕ = to_weight ++ high_first 4 n.tag in
    let to_left : List ℕ = to_tag ++ high_first 2 n.left in
    let to_right : List ℕ = to_left ++ high_first 2 n.right in
    let mark = over_two s 69 c.from.result (omega arith) ∙ ap (λ (x : ℕ). over 0 (69 ∷ (x ∷ [])) s) c.from.ensures in
    let weight = over_copied s to_mark (high_first 4 n.weight) _ c.copy_from_slice.new.self 2 4 mark refl refl (omega arith) (c.copy_from_slice.ensures.after ∙ c.to_be_bytes.ensures ∙ high_four n.weight) in
    let tag = over_copied s to_weight (high_first 4 n.tag) _ c.copy_from_slice-2.new.self 6 4 weight refl refl (omega arith) (c.copy_from_slice-2.ensures.after ∙ c.to_be_bytes-2.ensures ∙ high_four n.tag) in
    let left = over_copied s to_tag (high_first 2 n.left) _ c.copy_from_slice-3.new.self 10 2 tag refl refl (omega arith) (c.copy_from_slice-3.ensures.after ∙ c.to_be_bytes-3.ensures ∙ high_two n.left) in
    let right = over_copied s to_left (high_first 2 n.right) _ c.copy_from_slice-4.new.self 12 2 left refl refl (omega arith) (c.copy_from_slice-4.ensures.after ∙ c.to_be_bytes-4.ensures ∙ high_two n.right) in
    over_copied s to_right (high_first 2 c.args.size) _ c.copy_from_slice-5.new.self 14 2 right refl refl (omega arith) (c.copy_from_slice-5.ensures.after ∙ c.to_be_bytes-5.ensures ∙ high_two c.args.size)
