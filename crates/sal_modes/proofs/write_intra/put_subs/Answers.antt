use Rattle.std.proofs.Common.{refl}
use Rattle.sal_modes.specs.Written.{subs_pairs}
use Rattle.sal_modes.proofs.PuttingModes.{subs_more, subs_all}
use Rattle.sal_modes.proofs.write_intra.put_subs.Goals as goal

pub loop-k-preserved : goal.loop-k-preserved
loop-k-preserved c =
    subs_more c.args.key c.args.around.now c.args.modes.now c.loop-k.k _ c.sub_probabilities-row.result.now c.sub_way.result.now (subs_pairs c.args.key c.args.around.now c.args.modes.now 0 16) c.loop-k.encoder c.put_way.new.encoder c.args.encoder.now c.loop-k-test.true refl
    c.sub_probabilities-row.ensures.row c.sub_way.ensures.way c.in_ok-put_way.ensures c.loop-k.invariant

pub returns-clause-pairs : goal.returns-clause-pairs
returns-clause-pairs c = subs_all c.args.key c.args.around.now c.args.modes.now c.loop-k.k (subs_pairs c.args.key c.args.around.now c.args.modes.now 0 16) c.loop-k.encoder c.args.encoder.now c.loop-k-test.false c.loop-k.invariant
