use Rattle.sal_intra.specs.Sub.{up_rows}
use Rattle.sal_intra.proofs.Rows.{same_16}
use Rattle.sal_intra.proofs.sub.up_rows.Goals as goal

pub returns : goal.returns
unfolding up_rows
returns c = same_16 c.left_average_of_two-u0.ensures c.left_average_of_three-w0.ensures c.left_average_of_two-u1.ensures c.left_average_of_three-w1.ensures c.left_average_of_two-u1.ensures c.left_average_of_three-w1.ensures c.left_average_of_two-u2.ensures c.left_average_of_three-w2.ensures c.left_average_of_two-u2.ensures c.left_average_of_three-w2.ensures c.sample_left-l3.ensures c.sample_left-l3.ensures c.sample_left-l3.ensures c.sample_left-l3.ensures c.sample_left-l3.ensures c.sample_left-l3.ensures
