use Rattle.sal_frame.proofs.Squared.{sub_is}
use Rattle.sal_frame.proofs.subs.sub_samples.Goals as goal

pub returns : goal.returns
returns c = sub_is c.args.mode c.sub_edge-around.result _ c.args.residue.now c.predict_sub-samples.result c.add_sub.new.samples c.add_sub.array_long c.add_sub.ensures c.predict_sub-samples.ensures c.sub_edge-around.ensures
