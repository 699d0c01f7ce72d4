use Rattle.std.proofs.Common.{◌∙◌, arith, ap, pos, get_or}
use Rattle.sal_bool.specs.Written.{steps}
use Rattle.sal_bool.specs.Pairs.{flagged_pairs}
use Rattle.sal_header.proofs.Values.{passed}
use Rattle.sal_bool.proofs.Putting.{refused, left_start, values_put, values_some, values_all, some_same}
use Rattle.sal_header.proofs.put.put_four_flagged.Goals as goal

pub loop-i-init : goal.loop-i-init
loop-i-init c = left_start _ _

pub loop-i-preserved : goal.loop-i-preserved
loop-i-preserved c = values_put (flagged_pairs c.args.n) c.args.values.now (pos 0) c.loop-i.i c.loop-i.encoder c.put_flagged.new.encoder (omega (arith, c.told-values, c.loop-i-test.true)) (c.in_ok-put_flagged.ensures.all ∙ ap (λ v. steps c.loop-i.encoder (flagged_pairs c.args.n v)) (passed (get_or c.args.values.now c.loop-i.i (pos 0)) (record { sfits = omega arith }))) c.loop-i.invariant

pub returns-in_err-put_flagged-clause-some : goal.returns-in_err-put_flagged-clause-some
returns-in_err-put_flagged-clause-some c =
    refused _ (values_some (flagged_pairs c.args.n) c.args.values.now (pos 0) c.loop-i.i c.loop-i.encoder _ (omega (arith, c.told-values, c.loop-i-test.true)) (some_same _ _ c.loop-i.encoder _ (ap (λ v. flagged_pairs c.args.n v) (passed (get_or c.args.values.now c.loop-i.i (pos 0)) (record { sfits = omega arith }))) c.in_err-put_flagged.ensures.some) c.loop-i.invariant)

pub returns-clause-all : goal.returns-clause-all
returns-clause-all c = values_all (flagged_pairs c.args.n) c.args.values.now c.loop-i.i c.loop-i.encoder (omega (arith, c.told-values, c.loop-i-test.false)) c.loop-i.invariant
