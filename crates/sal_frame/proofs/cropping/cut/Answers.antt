use Rattle.std.proofs.Common.{◌≡◌, ◌≤◌, ◌+◌, ◌-◌, ◌*◌, ◌++◌, length, ap, ◌∙◌, subst, arith}
use Rattle.sal_base.specs.Pictures.{plane}
use Rattle.sal_base.specs.Samples.{rows_cut}
use Rattle.sal_frame.proofs.RowsCut.{Onward, next_row, no_row, longer}
use Rattle.sal_frame.proofs.cropping.cut.Goals as goal

pub loop-row-preserved : goal.loop-row-preserved
loop-row-preserved c = (
  rw c.in_ok-extend_from_slice.ensures.items (next_row c.args.plane.now.width c.args.width c.as_slice-from.result.now _ c.loop-row.row c.args.height c.loop-row.samples.items c.loop-row-test.true c.loop-row.invariant.0),
  rw c.in_ok-extend_from_slice.ensures.items (longer c.loop-row.row c.args.plane.now.width c.args.width c.args.plane.now.height c.loop-row.samples.items c.as_slice-from.result.now (omega (arith, c.loop-row-test.true, c.requires.high)) c.requires.wide (ap length c.as_slice-from.ensures ∙ c.requires.samples) c.loop-row.invariant.1),
)

pub returns-clause-cut : goal.returns-clause-cut
returns-clause-cut c =
    let e : c.loop-row.row ≡ c.args.height = omega (arith, c.loop-row-test.false, c.loop-row.auto.row-end) in
    let all = no_row c.args.plane.now.width c.args.width c.as_slice-from.result.now (rows_cut c.args.plane.now.width c.args.width 0 c.args.height c.as_slice-from.result.now) c.args.height c.loop-row.samples.items (subst (λ r. Onward c.args.plane.now.width c.args.width c.as_slice-from.result.now (rows_cut c.args.plane.now.width c.args.width 0 c.args.height c.as_slice-from.result.now) c.loop-row.samples.items r (c.args.height - r)) e c.loop-row.invariant.0) in
    ap (plane c.args.width c.args.height) (c.from_vec.ensures ∙ (all ∙ ap (rows_cut c.args.plane.now.width c.args.width 0 c.args.height) c.as_slice-from.ensures))
