use Rattle.std.specs.Arc.{arc_value}
use Rattle.sal_sender.proofs.Sized.{well_begun}
use Rattle.sal_sender.proofs.sender.Sender.begin.Goals as goal

pub invariant_of-self-2 : goal.invariant_of-self-2
invariant_of-self-2 g c = (
  well_begun g.C.Codec.coding _ c.args.self.now (arc_value c.args.picture.now) c.plan-plan.result c.in_ok-queue.queue c.pass.new.self c.open_picture.result c.grow.new.outstanding.items c.count-count.result c.args.moment c.self.invariant.0 c.self.view_is c.plan-plan.ensures.plan c.open_picture.ensures c.requires.few c.count-count.ensures c.pass.ensures c.in_ok-queue.ensures c.requires.size,
  c.self.invariant.1,
)
