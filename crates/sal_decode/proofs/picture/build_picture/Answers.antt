use Rattle.std.proofs.Common.{◌≡◌, ◌*◌, ◌/◌, ◌%◌, ◌≤◌, ◌<◌, ◌∙◌, List, get_or, map, take, refl, sym, ap, arith, mod-lt}
use Rattle.sal_transform.specs.Factors.{Factors}
use Rattle.sal_base.specs.Pictures.{blocks_of}
use Rattle.sal_header.specs.declared.header.Kept.{Kept}
use Rattle.sal_frame.specs.Records.{macroblock, segment_factors, info_of}
use Rattle.sal_frame.specs.Built.{one_built, all_built, blanks, references_or}
use Rattle.sal_decode.specs.Syntax.{record_of}
use Rattle.sal_decode.proofs.FourFactors.{built_as}
use Rattle.sal_decode.proofs.Going.{one_more, all_done, row_below, record_header, record_columns, record_blocks, record_built}
use Rattle.sal_decode.proofs.picture.build_picture.Goals as goal

pub build-requires-clause-place : goal.build-requires-clause-place
build-requires-clause-place c =
    let columns = c.blocks_of-columns.result in
    let low : 1 ≤ columns = omega (arith, c.blocks_of-columns.ensures, c.requires.sides.wide) in
    record {
      columns = columns;
      rows = blocks_of c.args.height;
      blocks = c.loop-k.invariant.blocks;
      in_columns = mod-lt c.loop-k.k {m = columns} low;
      in_rows = row_below c.loop-k.k columns (blocks_of c.args.height) low (omega (arith, c.loop-k-test.true, c.requires.count ∙ ap (λ n. n * blocks_of c.args.height) (sym c.blocks_of-columns.ensures)));
    }

pub loop-k-preserved : goal.loop-k-preserved
loop-k-preserved c =
    let columns = c.blocks_of-columns.result in
    let factors = c.factors_in.ensures (segment_factors c.args.header.now) c.frame_factors-factors.ensures in
    let low : 1 ≤ columns = omega (arith, c.blocks_of-columns.ensures, c.requires.sides.wide) in
    one_more c.args.bytes.now (take c.args.parts.now.count c.args.parts.now.at) c.args.probs.now.coefficients columns (blocks_of c.args.height) c.args.header.now c.as_slice-map.result.now c.args.modes.now
    (references_or (blanks columns (blocks_of c.args.height)) c.args.state.now.references) (record_of c.args.state.now c.args.bytes.now (c.args.width, c.args.height) (take c.args.parts.now.count c.args.parts.now.at) (c.args.header.now, c.args.modes.now)) c.loop-k.k
    _ _ _ _ _ _ _ _ _ _ c.in_segment-mode.result _ c.read-has_coefficients.new.coefficients c.read-has_coefficients.result c.info_of.result
    c.loop-k-test.true low (c.requires.count ∙ ap (λ n. n * blocks_of c.args.height) (sym c.blocks_of-columns.ensures))
    (record_header _ _ _ _ _) (record_columns _ _ _ _ _ ∙ sym c.blocks_of-columns.ensures) c.loop-k.invariant c.in_segment-mode.ensures.value c.in_segment-mode.ensures.fitting.segment
    (c.read-has_coefficients.ensures.reads c.args.bytes.now (take c.args.parts.now.count c.args.parts.now.at) columns c.loop-k.k c.loop-k.invariant.progress refl refl c.loop-k.invariant.holds)
    (built_as _ _ _ _ _ _ _ _ _ _ (c.build.ensures (blanks columns (blocks_of c.args.height))) (ap (λ o. references_or (blanks columns (blocks_of c.args.height)) o) c.references-references.ensures.references) factors c.new-block.ensures)
    (c.info_of.ensures ∙ ap info_of c.new-block.ensures) c.in_ok-push.ensures.items

pub returns-clause-built : goal.returns-clause-built
returns-clause-built c =
    let columns = c.blocks_of-columns.result in
    let done = all_done c.args.bytes.now (take c.args.parts.now.count c.args.parts.now.at) c.args.probs.now.coefficients columns (blocks_of c.args.height) c.args.header.now c.as_slice-map.result.now c.args.modes.now
    (references_or (blanks columns (blocks_of c.args.height)) c.args.state.now.references) (record_of c.args.state.now c.args.bytes.now (c.args.width, c.args.height) (take c.args.parts.now.count c.args.parts.now.at) (c.args.header.now, c.args.modes.now)) c.loop-k.k
    _ _ _ _ _ c.loop-k-test.false c.loop-k.invariant in
    let map_is = c.as_slice-map.ensures ∙ ap (λ (k : Kept). k.map) c.kept.ensures.kept in
    done.0 ∙ (ap (λ bs. all_built (references_or (blanks columns (blocks_of c.args.height)) c.args.state.now.references) (record_of c.args.state.now c.args.bytes.now (c.args.width, c.args.height) (take c.args.parts.now.count c.args.parts.now.at) (c.args.header.now, c.args.modes.now)) 0 bs (blanks columns (blocks_of c.args.height)))
    (record_blocks c.args.state.now c.args.bytes.now (c.args.width, c.args.height) _ c.args.header.now c.args.modes.now c.args.probs.now columns c.as_slice-map.result.now c.requires.probs c.blocks_of-columns.ensures map_is)
    ∙ record_built c.args.state.now c.args.bytes.now (c.args.width, c.args.height) _ c.args.header.now c.args.modes.now columns c.blocks_of-columns.ensures)

pub returns-clause-noted : goal.returns-clause-noted
returns-clause-noted c =
    let columns = c.blocks_of-columns.result in
    let done = all_done c.args.bytes.now (take c.args.parts.now.count c.args.parts.now.at) c.args.probs.now.coefficients columns (blocks_of c.args.height) c.args.header.now c.as_slice-map.result.now c.args.modes.now
    (references_or (blanks columns (blocks_of c.args.height)) c.args.state.now.references) (record_of c.args.state.now c.args.bytes.now (c.args.width, c.args.height) (take c.args.parts.now.count c.args.parts.now.at) (c.args.header.now, c.args.modes.now)) c.loop-k.k
    _ _ _ _ _ c.loop-k-test.false c.loop-k.invariant in
    let map_is = c.as_slice-map.ensures ∙ ap (λ (k : Kept). k.map) c.kept.ensures.kept in
    done.1 ∙ ap (λ bs. map info_of bs) (record_blocks c.args.state.now c.args.bytes.now (c.args.width, c.args.height) _ c.args.header.now c.args.modes.now c.args.probs.now columns c.as_slice-map.result.now c.requires.probs c.blocks_of-columns.ensures map_is)
