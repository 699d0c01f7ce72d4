use Rattle.std.proofs.Common.{◌≡◌, ℕ, ◌*◌, ◌<◌, ◌≤◌, ◌∙◌, true, length, refl, sym, ap, subst, arith, mod-lt}
use Rattle.sal_base.specs.Pictures.{blocks_of}
use Rattle.sal_bool.specs.Written.{written}
use Rattle.sal_macroblock.specs.Macroblocks.{HasFittingModes, is_intra}
use Rattle.sal_state.specs.States.{HasBlocks}
use Rattle.sal_frame.specs.Records.{Macroblock, segment_factors, info_of}
use Rattle.sal_frame.specs.Built.{blanks, references_or}
use Rattle.sal_encode.specs.Plans.{planned_all, record_of_plan}
use Rattle.sal_encode.proofs.FourFactors.{built_as}
use Rattle.sal_encode.proofs.NoneWritten.{none_planned}
use Rattle.sal_encode.proofs.PlanBuilt.{planned_many, one_more, all_done, row_below}
use Rattle.sal_encode.proofs.PlanParts.{at_place, below_4, key_of, plan_columns, plan_header, plan_notes, plan_built, plan_tokens}
use Rattle.sal_encode.proofs.picture.build_plan.Goals as goal

pub write-requires-clause-levels : goal.write-requires-clause-levels
write-requires-clause-levels c =
    let here = at_place c.args.state.now (c.args.width, c.args.height) c.args.plan.now _ _ _ _ _ _ c.requires.plan c.as_slice-modes.ensures c.as_slice-levels.ensures c.loop-k-test.true refl c.index-levels-k.is in here.fits.levels

pub new-block-requires : goal.new-block-requires
new-block-requires c =
    let here = at_place c.args.state.now (c.args.width, c.args.height) c.args.plan.now _ _ _ _ _ _ c.requires.plan c.as_slice-modes.ensures c.as_slice-levels.ensures c.loop-k-test.true refl c.index-levels-k.is in
    none_planned _ _ _ here.fits.levels c.in_ok-has_coefficients.ensures.planned

pub factors_in-requires : goal.factors_in-requires
factors_in-requires c =
    let here = at_place c.args.state.now (c.args.width, c.args.height) c.args.plan.now _ _ _ _ _ _ c.requires.plan c.as_slice-modes.ensures c.as_slice-levels.ensures c.loop-k-test.true refl c.index-levels-k.is in
    below_4 _ here.fits.mode.modes.segment

pub build-requires-clause-fitting : goal.build-requires-clause-fitting
build-requires-clause-fitting c =
    let here = at_place c.args.state.now (c.args.width, c.args.height) c.args.plan.now _ _ _ _ _ _ c.requires.plan c.as_slice-modes.ensures c.as_slice-levels.ensures c.loop-k-test.true refl c.index-levels-k.is in
    subst (λ (b : Macroblock). HasFittingModes b.mode) (sym c.new-block.ensures) here.fits.mode.modes

pub build-requires-clause-first : goal.build-requires-clause-first
build-requires-clause-first c none =
    let here = at_place c.args.state.now (c.args.width, c.args.height) c.args.plan.now _ _ _ _ _ _ c.requires.plan c.as_slice-modes.ensures c.as_slice-levels.ensures c.loop-k-test.true refl c.index-levels-k.is in
    let key = key_of c.args.state.now (c.args.width, c.args.height) c.args.plan.now _ c.requires.plan c.references-references.ensures.references none in
    subst (λ (b : Macroblock). is_intra b.mode.reference ≡ true) (sym c.new-block.ensures) (here.fits.mode.key key)

pub build-requires-clause-place : goal.build-requires-clause-place
build-requires-clause-place c =
    let columns = c.blocks_of-columns.result in
    let low : 1 ≤ columns = omega (arith, c.blocks_of-columns.ensures, c.requires.plan.sides.wide) in
    let count : length c.as_slice-modes.result.now ≡ columns * blocks_of c.args.height =
    ap length c.as_slice-modes.ensures ∙ (c.requires.plan.many_modes ∙ ap (λ n. n * blocks_of c.args.height) (sym c.blocks_of-columns.ensures)) in
    record {
      columns = columns;
      rows = blocks_of c.args.height;
      blocks = c.loop-k.invariant.blocks;
      in_columns = mod-lt c.loop-k.k {m = columns} low;
      in_rows = row_below c.loop-k.k columns (blocks_of c.args.height) low (omega (arith, c.loop-k-test.true, count));
    }

pub loop-k-preserved : goal.loop-k-preserved
loop-k-preserved c =
    let columns = c.blocks_of-columns.result in
    let p = c.args.plan.now in
    let here = at_place c.args.state.now (c.args.width, c.args.height) p _ _ _ _ _ _ c.requires.plan c.as_slice-modes.ensures c.as_slice-levels.ensures c.loop-k-test.true refl c.index-levels-k.is in
    let low : 1 ≤ columns = omega (arith, c.blocks_of-columns.ensures, c.requires.plan.sides.wide) in
    let many : length (planned_all p.modes p.levels) ≡ length p.modes = planned_many p.modes p.levels c.requires.plan.many_levels in
    let in_blocks : c.loop-k.k < length (planned_all p.modes p.levels) = omega (arith, here.in_plan, many) in
    let block = c.new-block.ensures ∙ c.in_ok-has_coefficients.ensures.planned in
    let factors = c.factors_in.ensures (segment_factors p.header) c.frame_factors-factors.ensures in
    one_more c.args.probs.now.coefficients columns (blocks_of c.args.height) (references_or (blanks columns (blocks_of c.args.height)) c.args.state.now.references) (record_of_plan (c.args.width, c.args.height) p) (planned_all p.modes p.levels) c.loop-k.k
    c.new-block.result _ _ _ _ _ _ _ _ _ _ _ c.info_of.result p.header
    in_blocks low (many ∙ (c.requires.plan.many_modes ∙ ap (λ n. n * blocks_of c.args.height) (sym c.blocks_of-columns.ensures)))
    (plan_header (c.args.width, c.args.height) p) (plan_columns (c.args.width, c.args.height) p columns c.blocks_of-columns.ensures) (here.is c.new-block.result) here.fits.mode.modes.segment c.loop-k.invariant
    c.in_ok-has_coefficients.ensures.columns (c.in_ok-has_coefficients.ensures.more columns c.loop-k.k _ refl)
    (built_as _ _ _ _ _ _ _ _ _ _ (c.build.ensures (blanks columns (blocks_of c.args.height))) (ap (λ o. references_or (blanks columns (blocks_of c.args.height)) o) c.references-references.ensures.references) factors block)
    (c.info_of.ensures ∙ ap info_of block) c.in_ok-push.ensures.items

pub returns : goal.returns
returns c =
    let columns = c.blocks_of-columns.result in
    let rows : ℕ = blocks_of c.args.height in
    let p = c.args.plan.now in
    let size : ℕ × ℕ = (c.args.width, c.args.height) in
    let many = planned_many p.modes p.levels c.requires.plan.many_levels in
    let long = ap length c.as_slice-modes.ensures in
    let all : length (planned_all p.modes p.levels) ≤ c.loop-k.k = omega (arith, c.loop-k-test.false, many, long) in
    let done = all_done c.args.probs.now.coefficients columns rows (references_or (blanks columns rows) c.args.state.now.references) (record_of_plan size p) (planned_all p.modes p.levels) c.loop-k.k
    _ _ _ _ _ all c.loop-k.invariant in
    let last : c.loop-k.k ≡ length p.modes = omega (arith, c.loop-k-test.false, c.loop-k.auto.k-end, long) in
    record {
      tokens = c.in_ok-tokens-2.ensures c.args.probs.now.coefficients columns c.loop-k.k ∙ (ap written done.0 ∙ plan_tokens c.args.state.now size p c.args.probs.now columns c.requires.probs c.blocks_of-columns.ensures);
      planes = done.1 ∙ plan_built c.args.state.now size p columns c.blocks_of-columns.ensures;
      infos = done.2 ∙ plan_notes size p;
      blocks = subst (λ n. HasBlocks n rows c.loop-k.planes) c.blocks_of-columns.ensures c.loop-k.invariant.blocks;
      count = c.loop-k.invariant.many ∙ (last ∙ c.requires.plan.many_modes);
      segments = c.loop-k.invariant.small;
    }
