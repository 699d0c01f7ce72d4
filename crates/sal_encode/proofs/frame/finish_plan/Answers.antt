use Rattle.std.proofs.Common.{ℕ, ◌∙◌}
use Rattle.sal_encode.specs.Plans.{record_of_plan}
use Rattle.sal_encode.proofs.PlanParts.{plan_header}
use Rattle.sal_encode.proofs.FrameMade.{plan_width, plan_height}
use Rattle.sal_encode.proofs.frame.finish_plan.Goals as goal

pub returns-clause-decoded : goal.returns-clause-decoded
returns-clause-decoded c =
    let p = c.args.plan.now in
    let size : ℕ × ℕ = (c.args.width, c.args.height) in
    c.in_ok-decoded.ensures.decoded (record_of_plan size p) (plan_header size p) (plan_width size p) (plan_height size p) c.requires.built.planes (c.as_slice.ensures.value ∙ c.requires.built.infos) c.requires.probs
