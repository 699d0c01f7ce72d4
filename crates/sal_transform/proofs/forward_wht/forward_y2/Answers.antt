use Rattle.std.proofs.Common.{◌∙◌, ◌≡◌, w32, refl, to_z, of_z}
use Rattle.sal_macroblock.specs.Sizes.{Within}
use Rattle.sal_transform.specs.Inverse.{down}
use Rattle.sal_transform.specs.Hadamard.{sum_0, sum_1, sum_2, sum_3}
use Rattle.sal_transform.specs.Forward.{forward_y2_of, half}
use Rattle.sal_transform.proofs.Signed.{same_16, all_16}
use Rattle.sal_transform.proofs.ForwardLemmas.{passed_13, passed_15, small_15}
use Rattle.sal_transform.proofs.forward_wht.forward_y2.Goals as goal

pub returns-clause-value : goal.returns-clause-value
unfolding forward_y2_of
returns-clause-value c =
    let b = c.args.block.now in
    let a0' : to_z w32 (of_z w32 c.column-a0.result.0) ≡ down sum_0 b 0 = passed_13 _ _ c.column-a0.ensures.y0 in
    let a1' : to_z w32 (of_z w32 c.column-a0.result.1) ≡ down sum_1 b 0 = passed_13 _ _ c.column-a0.ensures.y1 in
    let a2' : to_z w32 (of_z w32 c.column-a0.result.2) ≡ down sum_2 b 0 = passed_13 _ _ c.column-a0.ensures.y2 in
    let a3' : to_z w32 (of_z w32 c.column-a0.result.3) ≡ down sum_3 b 0 = passed_13 _ _ c.column-a0.ensures.y3 in
    let b0' : to_z w32 (of_z w32 c.column-b0.result.0) ≡ down sum_0 b 1 = passed_13 _ _ c.column-b0.ensures.y0 in
    let b1' : to_z w32 (of_z w32 c.column-b0.result.1) ≡ down sum_1 b 1 = passed_13 _ _ c.column-b0.ensures.y1 in
    let b2' : to_z w32 (of_z w32 c.column-b0.result.2) ≡ down sum_2 b 1 = passed_13 _ _ c.column-b0.ensures.y2 in
    let b3' : to_z w32 (of_z w32 c.column-b0.result.3) ≡ down sum_3 b 1 = passed_13 _ _ c.column-b0.ensures.y3 in
    let c0' : to_z w32 (of_z w32 c.column-c0.result.0) ≡ down sum_0 b 2 = passed_13 _ _ c.column-c0.ensures.y0 in
    let c1' : to_z w32 (of_z w32 c.column-c0.result.1) ≡ down sum_1 b 2 = passed_13 _ _ c.column-c0.ensures.y1 in
    let c2' : to_z w32 (of_z w32 c.column-c0.result.2) ≡ down sum_2 b 2 = passed_13 _ _ c.column-c0.ensures.y2 in
    let c3' : to_z w32 (of_z w32 c.column-c0.result.3) ≡ down sum_3 b 2 = passed_13 _ _ c.column-c0.ensures.y3 in
    let d0' : to_z w32 (of_z w32 c.column-d0.result.0) ≡ down sum_0 b 3 = passed_13 _ _ c.column-d0.ensures.y0 in
    let d1' : to_z w32 (of_z w32 c.column-d0.result.1) ≡ down sum_1 b 3 = passed_13 _ _ c.column-d0.ensures.y1 in
    let d2' : to_z w32 (of_z w32 c.column-d0.result.2) ≡ down sum_2 b 3 = passed_13 _ _ c.column-d0.ensures.y2 in
    let d3' : to_z w32 (of_z w32 c.column-d0.result.3) ≡ down sum_3 b 3 = passed_13 _ _ c.column-d0.ensures.y3 in
    let p0 : to_z w32 (of_z w32 c.half_row-p0.result.0) ≡ half (sum_0 (down sum_0 b 0) (down sum_0 b 1) (down sum_0 b 2) (down sum_0 b 3)) = passed_15 _ _ c.half_row-p0.ensures.y0 ∙ rw (a0', b0', c0', d0') refl in
    let p1 : to_z w32 (of_z w32 c.half_row-p0.result.1) ≡ half (sum_1 (down sum_0 b 0) (down sum_0 b 1) (down sum_0 b 2) (down sum_0 b 3)) = passed_15 _ _ c.half_row-p0.ensures.y1 ∙ rw (a0', b0', c0', d0') refl in
    let p2 : to_z w32 (of_z w32 c.half_row-p0.result.2) ≡ half (sum_2 (down sum_0 b 0) (down sum_0 b 1) (down sum_0 b 2) (down sum_0 b 3)) = passed_15 _ _ c.half_row-p0.ensures.y2 ∙ rw (a0', b0', c0', d0') refl in
    let p3 : to_z w32 (of_z w32 c.half_row-p0.result.3) ≡ half (sum_3 (down sum_0 b 0) (down sum_0 b 1) (down sum_0 b 2) (down sum_0 b 3)) = passed_15 _ _ c.half_row-p0.ensures.y3 ∙ rw (a0', b0', c0', d0') refl in
    let q0 : to_z w32 (of_z w32 c.half_row-q0.result.0) ≡ half (sum_0 (down sum_1 b 0) (down sum_1 b 1) (down sum_1 b 2) (down sum_1 b 3)) = passed_15 _ _ c.half_row-q0.ensures.y0 ∙ rw (a1', b1', c1', d1') refl in
    let q1 : to_z w32 (of_z w32 c.half_row-q0.result.1) ≡ half (sum_1 (down sum_1 b 0) (down sum_1 b 1) (down sum_1 b 2) (down sum_1 b 3)) = passed_15 _ _ c.half_row-q0.ensures.y1 ∙ rw (a1', b1', c1', d1') refl in
    let q2 : to_z w32 (of_z w32 c.half_row-q0.result.2) ≡ half (sum_2 (down sum_1 b 0) (down sum_1 b 1) (down sum_1 b 2) (down sum_1 b 3)) = passed_15 _ _ c.half_row-q0.ensures.y2 ∙ rw (a1', b1', c1', d1') refl in
    let q3 : to_z w32 (of_z w32 c.half_row-q0.result.3) ≡ half (sum_3 (down sum_1 b 0) (down sum_1 b 1) (down sum_1 b 2) (down sum_1 b 3)) = passed_15 _ _ c.half_row-q0.ensures.y3 ∙ rw (a1', b1', c1', d1') refl in
    let r0 : to_z w32 (of_z w32 c.half_row-r0.result.0) ≡ half (sum_0 (down sum_2 b 0) (down sum_2 b 1) (down sum_2 b 2) (down sum_2 b 3)) = passed_15 _ _ c.half_row-r0.ensures.y0 ∙ rw (a2', b2', c2', d2') refl in
    let r1 : to_z w32 (of_z w32 c.half_row-r0.result.1) ≡ half (sum_1 (down sum_2 b 0) (down sum_2 b 1) (down sum_2 b 2) (down sum_2 b 3)) = passed_15 _ _ c.half_row-r0.ensures.y1 ∙ rw (a2', b2', c2', d2') refl in
    let r2 : to_z w32 (of_z w32 c.half_row-r0.result.2) ≡ half (sum_2 (down sum_2 b 0) (down sum_2 b 1) (down sum_2 b 2) (down sum_2 b 3)) = passed_15 _ _ c.half_row-r0.ensures.y2 ∙ rw (a2', b2', c2', d2') refl in
    let r3 : to_z w32 (of_z w32 c.half_row-r0.result.3) ≡ half (sum_3 (down sum_2 b 0) (down sum_2 b 1) (down sum_2 b 2) (down sum_2 b 3)) = passed_15 _ _ c.half_row-r0.ensures.y3 ∙ rw (a2', b2', c2', d2') refl in
    let s0 : to_z w32 (of_z w32 c.half_row-s0.result.0) ≡ half (sum_0 (down sum_3 b 0) (down sum_3 b 1) (down sum_3 b 2) (down sum_3 b 3)) = passed_15 _ _ c.half_row-s0.ensures.y0 ∙ rw (a3', b3', c3', d3') refl in
    let s1 : to_z w32 (of_z w32 c.half_row-s0.result.1) ≡ half (sum_1 (down sum_3 b 0) (down sum_3 b 1) (down sum_3 b 2) (down sum_3 b 3)) = passed_15 _ _ c.half_row-s0.ensures.y1 ∙ rw (a3', b3', c3', d3') refl in
    let s2 : to_z w32 (of_z w32 c.half_row-s0.result.2) ≡ half (sum_2 (down sum_3 b 0) (down sum_3 b 1) (down sum_3 b 2) (down sum_3 b 3)) = passed_15 _ _ c.half_row-s0.ensures.y2 ∙ rw (a3', b3', c3', d3') refl in
    let s3 : to_z w32 (of_z w32 c.half_row-s0.result.3) ≡ half (sum_3 (down sum_3 b 0) (down sum_3 b 1) (down sum_3 b 2) (down sum_3 b 3)) = passed_15 _ _ c.half_row-s0.ensures.y3 ∙ rw (a3', b3', c3', d3') refl in
    same_16 p0 p1 p2 p3 q0 q1 q2 q3 r0 r1 r2 r3 s0 s1 s2 s3

pub returns-clause-small : goal.returns-clause-small
returns-clause-small c =
    all_16 (Within 16320) _ _ _ _ _ _ _ _ _ _ _ _ _ _ _ _
    (small_15 _ c.half_row-p0.ensures.y0.1)
    (small_15 _ c.half_row-p0.ensures.y1.1)
    (small_15 _ c.half_row-p0.ensures.y2.1)
    (small_15 _ c.half_row-p0.ensures.y3.1)
    (small_15 _ c.half_row-q0.ensures.y0.1)
    (small_15 _ c.half_row-q0.ensures.y1.1)
    (small_15 _ c.half_row-q0.ensures.y2.1)
    (small_15 _ c.half_row-q0.ensures.y3.1)
    (small_15 _ c.half_row-r0.ensures.y0.1)
    (small_15 _ c.half_row-r0.ensures.y1.1)
    (small_15 _ c.half_row-r0.ensures.y2.1)
    (small_15 _ c.half_row-r0.ensures.y3.1)
    (small_15 _ c.half_row-s0.ensures.y0.1)
    (small_15 _ c.half_row-s0.ensures.y1.1)
    (small_15 _ c.half_row-s0.ensures.y2.1)
    (small_15 _ c.half_row-s0.ensures.y3.1)
