use Rattle.std.proofs.Common.{◌∙◌, rules, ◌/◌, ◌%◌, arith}
use mir.Syntax.{w16, w32}
use mir.Val.{SFits}
use Rattle.std.proofs.lemmas.Int.{to_z-of_z}
use Rattle.sal_inter.proofs.Blocks.{at_front}
use Rattle.sal_inter.proofs.Places.{span_passed}
use Rattle.sal_inter.proofs.Reading.{window_inter}
use Rattle.sal_inter.proofs.block.predict_block.Goals as goal

pub returns-clause-block : goal.returns-clause-block
returns-clause-block c = λ k h.
    let a = c.args in
    let column : SFits w16 a.vector.column = search rules in
    let row : SFits w16 a.vector.row = search rules in
    let across = span_passed _ _ a.width a.eighths _ _ c.of-across.result (to_z-of_z w32 a.x c.ranges.x) (to_z-of_z w16 a.vector.column column) c.of-across.ensures in
    let down = span_passed _ _ a.height a.eighths _ _ c.of-down.result (to_z-of_z w32 a.y c.ranges.y) (to_z-of_z w16 a.vector.row row) c.of-down.ensures in
    at_front c.predict.new.out _ k (omega (arith, c.predict.ensures.long))
    ∙ (c.predict.ensures.samples k h
    ∙ window_inter a.reference.now a.vector a.eighths a.x a.y a.width a.height (k / a.width) (k % a.width) c.of-across.result c.of-down.result c.predict.ensures.bytes across down)
