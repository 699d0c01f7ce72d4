use Rattle.std.proofs.Common.{rules, arith}
use Rattle.sal_io.proofs.Filling.{consumed_more, ended}
use Rattle.sal_io.proofs.whole.fill.Goals as goal

pub loop-filled-preserved : goal.loop-filled-preserved
loop-filled-preserved g c = record {
  fits = search rules;
  taken = consumed_more _ _ _ _ _ _ _ _ c.loop-filled.invariant.fits c.in-Got.ensures.bytes.1 c.loop-filled.invariant.taken c.in-Got.ensures.bytes.2;
  later = omega (arith, c.in-Got.ensures.cause.later);
  name = search rules;
  had = search rules;
  tells = search rules;
}

pub returns-in-End-clause-bytes : goal.returns-in-End-clause-bytes
returns-in-End-clause-bytes g c =
    let end = ended _ _ _ _ _ _ _ c.loop-filled.invariant.fits c.loop-filled.invariant.taken c.in-End.ensures.bytes.0 c.in-End.ensures.bytes.1 in
    (search rules, end.0, end.1)
