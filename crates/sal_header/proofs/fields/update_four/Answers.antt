use Rattle.std.proofs.Common.{arith}
use Rattle.sal_bool.specs.Syntax.{signed_literal}
use Rattle.sal_header.proofs.Values.{updated_none, updated_there, updated_not, updated_all, updated_same, passed}
use Rattle.sal_header.proofs.fields.update_four.Goals as goal
use Rattle.sal_header.proofs.fields.update_four.Goals.{then-flag, else-flag}

pub loop-i-init : goal.loop-i-init
loop-i-init c = updated_none (signed_literal c.args.n) c.args.values.now c.args.decoder.now

pub loop-i-preserved : goal.loop-i-preserved
loop-i-preserved c = elim c.if-flag.branch [
  | then-flag w ↦
      updated_same (signed_literal c.args.n) c.args.values.now _ _ _ _ _ _ w.values-is w.decoder-is
      (updated_there (signed_literal c.args.n) c.args.values.now c.loop-i.i _ _ _ _ _ _ _ _ (omega (arith, c.told-values, c.loop-i-test.true)) c.loop-i.invariant c.bit-flag.ensures.reads w.if-flag.true w.signed.ensures.reads (passed w.signed.result (record { sfits = w.signed.type_inv })))
  | else-flag w ↦
      updated_same (signed_literal c.args.n) c.args.values.now _ _ _ _ _ _ w.values-is w.decoder-is
      (updated_not (signed_literal c.args.n) c.args.values.now c.loop-i.i _ _ _ _ _ (omega (arith, c.told-values, c.loop-i-test.true)) c.loop-i.invariant c.bit-flag.ensures.reads w.if-flag.false)
]

pub returns : goal.returns
returns c = record { reads = updated_all (signed_literal c.args.n) c.args.values.now c.loop-i.i c.args.decoder.now c.loop-i.values c.loop-i.decoder (omega (arith, c.told-values, c.loop-i-test.false)) c.loop-i.invariant }
