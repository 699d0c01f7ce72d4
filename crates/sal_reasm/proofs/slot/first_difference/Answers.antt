use Rattle.std.proofs.Common.{◌∙◌, sym, arith}
use Rattle.sal_reasm.proofs.Differences.{passed, found, none_between}
use Rattle.sal_reasm.proofs.slot.first_difference.Goals as goal

pub returns-then-kept-place : goal.returns-then-kept-place
returns-then-kept-place c = sym (sym c.loop-place.invariant ∙ found c.args.field c.loop-place.place c.args.kept.now c.args.new.now (omega (arith, c.min-place-end.ensures, c.loop-place-test.true)) (omega (arith, c.min-place-end.ensures, c.loop-place-test.true)) c.if-kept-place.true)

pub loop-place-preserved : goal.loop-place-preserved
loop-place-preserved c = sym (passed c.args.field c.loop-place.place c.args.kept.now c.args.new.now (omega (arith, c.min-place-end.ensures, c.loop-place-test.true)) (omega (arith, c.min-place-end.ensures, c.loop-place-test.true)) c.if-kept-place.false) ∙ c.loop-place.invariant

pub returns : goal.returns
returns c = sym (sym c.loop-place.invariant ∙ none_between c.args.field c.loop-place.place c.args.kept.now c.args.new.now (omega (arith, c.min-place-end.ensures, c.loop-place-test.false)))
