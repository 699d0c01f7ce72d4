use Rattle.std.proofs.Common.{◌∙◌, ◌≡◌, w32, refl, to_z, of_z}
use Rattle.sal_macroblock.specs.Sizes.{Within}
use Rattle.sal_transform.specs.Forward.{forward_of, across, row_0, row_1, row_2, row_3, column_0, column_1, column_2, column_3}
use Rattle.sal_transform.proofs.Signed.{same_16, all_16}
use Rattle.sal_transform.proofs.ForwardLemmas.{passed_16, passed_15, small_15, kept_first, few_first}
use Rattle.sal_transform.proofs.forward_dct.forward.Goals as goal

pub returns-clause-value : goal.returns-clause-value
unfolding forward_of
returns-clause-value c =
    let b = c.args.block.now in
    let a0' : to_z w32 (of_z w32 c.row-a0.result.0) ≡ across row_0 b 0 = passed_16 _ _ c.row-a0.ensures.y0 in
    let a1' : to_z w32 (of_z w32 c.row-a0.result.1) ≡ across row_1 b 0 = passed_16 _ _ c.row-a0.ensures.y1 in
    let a2' : to_z w32 (of_z w32 c.row-a0.result.2) ≡ across row_2 b 0 = passed_16 _ _ c.row-a0.ensures.y2 in
    let a3' : to_z w32 (of_z w32 c.row-a0.result.3) ≡ across row_3 b 0 = passed_16 _ _ c.row-a0.ensures.y3 in
    let b0' : to_z w32 (of_z w32 c.row-b0.result.0) ≡ across row_0 b 1 = passed_16 _ _ c.row-b0.ensures.y0 in
    let b1' : to_z w32 (of_z w32 c.row-b0.result.1) ≡ across row_1 b 1 = passed_16 _ _ c.row-b0.ensures.y1 in
    let b2' : to_z w32 (of_z w32 c.row-b0.result.2) ≡ across row_2 b 1 = passed_16 _ _ c.row-b0.ensures.y2 in
    let b3' : to_z w32 (of_z w32 c.row-b0.result.3) ≡ across row_3 b 1 = passed_16 _ _ c.row-b0.ensures.y3 in
    let c0' : to_z w32 (of_z w32 c.row-c0.result.0) ≡ across row_0 b 2 = passed_16 _ _ c.row-c0.ensures.y0 in
    let c1' : to_z w32 (of_z w32 c.row-c0.result.1) ≡ across row_1 b 2 = passed_16 _ _ c.row-c0.ensures.y1 in
    let c2' : to_z w32 (of_z w32 c.row-c0.result.2) ≡ across row_2 b 2 = passed_16 _ _ c.row-c0.ensures.y2 in
    let c3' : to_z w32 (of_z w32 c.row-c0.result.3) ≡ across row_3 b 2 = passed_16 _ _ c.row-c0.ensures.y3 in
    let d0' : to_z w32 (of_z w32 c.row-d0.result.0) ≡ across row_0 b 3 = passed_16 _ _ c.row-d0.ensures.y0 in
    let d1' : to_z w32 (of_z w32 c.row-d0.result.1) ≡ across row_1 b 3 = passed_16 _ _ c.row-d0.ensures.y1 in
    let d2' : to_z w32 (of_z w32 c.row-d0.result.2) ≡ across row_2 b 3 = passed_16 _ _ c.row-d0.ensures.y2 in
    let d3' : to_z w32 (of_z w32 c.row-d0.result.3) ≡ across row_3 b 3 = passed_16 _ _ c.row-d0.ensures.y3 in
    let p0 : to_z w32 (of_z w32 c.column_pass-p0.result.0) ≡ column_0 (across row_0 b 0) (across row_0 b 1) (across row_0 b 2) (across row_0 b 3) = passed_15 _ _ c.column_pass-p0.ensures.y0 ∙ rw (a0', b0', c0', d0') refl in
    let p1 : to_z w32 (of_z w32 c.column_pass-p0.result.1) ≡ column_1 (across row_0 b 0) (across row_0 b 1) (across row_0 b 2) (across row_0 b 3) = passed_15 _ _ c.column_pass-p0.ensures.y1 ∙ rw (a0', b0', c0', d0') refl in
    let p2 : to_z w32 (of_z w32 c.column_pass-p0.result.2) ≡ column_2 (across row_0 b 0) (across row_0 b 1) (across row_0 b 2) (across row_0 b 3) = passed_15 _ _ c.column_pass-p0.ensures.y2 ∙ rw (a0', b0', c0', d0') refl in
    let p3 : to_z w32 (of_z w32 c.column_pass-p0.result.3) ≡ column_3 (across row_0 b 0) (across row_0 b 1) (across row_0 b 2) (across row_0 b 3) = passed_15 _ _ c.column_pass-p0.ensures.y3 ∙ rw (a0', b0', c0', d0') refl in
    let q0 : to_z w32 (of_z w32 c.column_pass-q0.result.0) ≡ column_0 (across row_1 b 0) (across row_1 b 1) (across row_1 b 2) (across row_1 b 3) = passed_15 _ _ c.column_pass-q0.ensures.y0 ∙ rw (a1', b1', c1', d1') refl in
    let q1 : to_z w32 (of_z w32 c.column_pass-q0.result.1) ≡ column_1 (across row_1 b 0) (across row_1 b 1) (across row_1 b 2) (across row_1 b 3) = passed_15 _ _ c.column_pass-q0.ensures.y1 ∙ rw (a1', b1', c1', d1') refl in
    let q2 : to_z w32 (of_z w32 c.column_pass-q0.result.2) ≡ column_2 (across row_1 b 0) (across row_1 b 1) (across row_1 b 2) (across row_1 b 3) = passed_15 _ _ c.column_pass-q0.ensures.y2 ∙ rw (a1', b1', c1', d1') refl in
    let q3 : to_z w32 (of_z w32 c.column_pass-q0.result.3) ≡ column_3 (across row_1 b 0) (across row_1 b 1) (across row_1 b 2) (across row_1 b 3) = passed_15 _ _ c.column_pass-q0.ensures.y3 ∙ rw (a1', b1', c1', d1') refl in
    let r0 : to_z w32 (of_z w32 c.column_pass-r0.result.0) ≡ column_0 (across row_2 b 0) (across row_2 b 1) (across row_2 b 2) (across row_2 b 3) = passed_15 _ _ c.column_pass-r0.ensures.y0 ∙ rw (a2', b2', c2', d2') refl in
    let r1 : to_z w32 (of_z w32 c.column_pass-r0.result.1) ≡ column_1 (across row_2 b 0) (across row_2 b 1) (across row_2 b 2) (across row_2 b 3) = passed_15 _ _ c.column_pass-r0.ensures.y1 ∙ rw (a2', b2', c2', d2') refl in
    let r2 : to_z w32 (of_z w32 c.column_pass-r0.result.2) ≡ column_2 (across row_2 b 0) (across row_2 b 1) (across row_2 b 2) (across row_2 b 3) = passed_15 _ _ c.column_pass-r0.ensures.y2 ∙ rw (a2', b2', c2', d2') refl in
    let r3 : to_z w32 (of_z w32 c.column_pass-r0.result.3) ≡ column_3 (across row_2 b 0) (across row_2 b 1) (across row_2 b 2) (across row_2 b 3) = passed_15 _ _ c.column_pass-r0.ensures.y3 ∙ rw (a2', b2', c2', d2') refl in
    let s0 : to_z w32 (of_z w32 c.column_pass-s0.result.0) ≡ column_0 (across row_3 b 0) (across row_3 b 1) (across row_3 b 2) (across row_3 b 3) = passed_15 _ _ c.column_pass-s0.ensures.y0 ∙ rw (a3', b3', c3', d3') refl in
    let s1 : to_z w32 (of_z w32 c.column_pass-s0.result.1) ≡ column_1 (across row_3 b 0) (across row_3 b 1) (across row_3 b 2) (across row_3 b 3) = passed_15 _ _ c.column_pass-s0.ensures.y1 ∙ rw (a3', b3', c3', d3') refl in
    let s2 : to_z w32 (of_z w32 c.column_pass-s0.result.2) ≡ column_2 (across row_3 b 0) (across row_3 b 1) (across row_3 b 2) (across row_3 b 3) = passed_15 _ _ c.column_pass-s0.ensures.y2 ∙ rw (a3', b3', c3', d3') refl in
    let s3 : to_z w32 (of_z w32 c.column_pass-s0.result.3) ≡ column_3 (across row_3 b 0) (across row_3 b 1) (across row_3 b 2) (across row_3 b 3) = passed_15 _ _ c.column_pass-s0.ensures.y3 ∙ rw (a3', b3', c3', d3') refl in
    same_16 p0 q0 r0 s0 p1 q1 r1 s1 p2 q2 r2 s2 p3 q3 r3 s3

pub returns-clause-small : goal.returns-clause-small
returns-clause-small c =
    all_16 (Within 16320) _ _ _ _ _ _ _ _ _ _ _ _ _ _ _ _
    (small_15 _ c.column_pass-p0.ensures.y0.1)
    (small_15 _ c.column_pass-q0.ensures.y0.1)
    (small_15 _ c.column_pass-r0.ensures.y0.1)
    (small_15 _ c.column_pass-s0.ensures.y0.1)
    (small_15 _ c.column_pass-p0.ensures.y1.1)
    (small_15 _ c.column_pass-q0.ensures.y1.1)
    (small_15 _ c.column_pass-r0.ensures.y1.1)
    (small_15 _ c.column_pass-s0.ensures.y1.1)
    (small_15 _ c.column_pass-p0.ensures.y2.1)
    (small_15 _ c.column_pass-q0.ensures.y2.1)
    (small_15 _ c.column_pass-r0.ensures.y2.1)
    (small_15 _ c.column_pass-s0.ensures.y2.1)
    (small_15 _ c.column_pass-p0.ensures.y3.1)
    (small_15 _ c.column_pass-q0.ensures.y3.1)
    (small_15 _ c.column_pass-r0.ensures.y3.1)
    (small_15 _ c.column_pass-s0.ensures.y3.1)

pub returns-clause-first : goal.returns-clause-first
returns-clause-first c = λ h. kept_first _ (c.column_pass-p0.ensures.first (few_first _ (c.row-a0.ensures.first h)) (few_first _ (c.row-b0.ensures.first h)) (few_first _ (c.row-c0.ensures.first h)) (few_first _ (c.row-d0.ensures.first h)))
