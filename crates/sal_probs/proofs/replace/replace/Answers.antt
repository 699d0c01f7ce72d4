use Rattle.std.proofs.Common.{◌∙◌, arith}
use Rattle.std.proofs.lemmas.List.{length-set}
use Rattle.sal_probs.proofs.Replacing.{replaced_next, replaced_end}
use Rattle.sal_probs.proofs.replace.replace.Goals as goal

pub loop-i-preserved : goal.loop-i-preserved
loop-i-preserved c =
    let long = c.loop-i.invariant.long in
    record {
      long = length-set c.loop-i.values c.loop-i.i c.unwrap_or.result ∙ long;
      so_far = replaced_next c.loop-i.values c.args.updates.now c.loop-i.i _ _ (omega (arith, long, c.loop-i-test.true)) (omega (arith, c.requires, c.loop-i-test.true)) c.unwrap_or.ensures c.loop-i.invariant.so_far;
    }

pub returns : goal.returns
returns c =
    let long = c.loop-i.invariant.long in
    replaced_end c.loop-i.values c.args.updates.now c.loop-i.i _ (omega (arith, long, c.loop-i-test.false)) c.loop-i.invariant.so_far
