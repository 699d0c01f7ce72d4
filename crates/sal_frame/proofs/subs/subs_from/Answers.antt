use Rattle.std.proofs.Common.{◌≡◌, ◌∙◌, refl}
use Rattle.sal_frame.specs.Built.{subs_built}
use Rattle.sal_frame.proofs.SubSteps.{sub_more}
use Rattle.sal_frame.proofs.subs.subs_from.Goals as goal

pub loop-n-init : goal.loop-n-init
unfolding subs_built
loop-n-init c = record { long = refl; built = refl }

pub loop-n-preserved : goal.loop-n-preserved
loop-n-preserved c = record {
  long = c.put_rows.auto.samples ∙ c.loop-n.invariant.long;
  built = sub_more c.args.edge.now c.args.mode.now c.args.residues.now c.loop-n.n c.loop-n.samples _ _ c.loop-n.invariant.built c.sub_samples-sub.ensures c.put_rows.ensures;
}
