use Rattle.sal_base.specs.Pictures.{blocks_of}
use Rattle.sal_frame.specs.Built.{blanks, references_or}
use Rattle.sal_encode.specs.Plans.{planned_all, record_of_plan}
use Rattle.sal_encode.proofs.PlanBuilt.{Going}
use Rattle.sal_encode.proofs.picture.build_plan.Given as goal

abbrev pub invariant-loop-k : goal.invariant-loop-k
invariant-loop-k l =
    Going l.probs.coefficients l.columns (blocks_of l.height) (references_or (blanks l.columns (blocks_of l.height)) l.state.references) (record_of_plan (l.width, l.height) l.plan) (planned_all l.plan.modes l.plan.levels) l.k l.tokens.encoder l.tokens.above.items l.tokens.left l.planes
    l.infos.items
