use Rattle.sal_intra.specs.Sub.{left_rows}
use Rattle.sal_intra.proofs.Rows.{same_16}
use Rattle.sal_intra.proofs.sub.left_rows.Goals as goal

pub returns : goal.returns
unfolding left_rows
returns c = same_16 c.above_average_of_two-a0.ensures c.above_average_of_two-a1.ensures c.above_average_of_two-a2.ensures c.above_average_of_two-a3.ensures c.above_average_of_three-b0.ensures c.above_average_of_three-b1.ensures c.above_average_of_three-b2.ensures c.above_average_of_three-b3.ensures c.above_average_of_two-a1.ensures c.above_average_of_two-a2.ensures c.above_average_of_two-a3.ensures c.above_average_of_three-b4.ensures c.above_average_of_three-b1.ensures c.above_average_of_three-b2.ensures c.above_average_of_three-b3.ensures c.above_average_of_three-b5.ensures
