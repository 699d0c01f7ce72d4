use Rattle.sal_intra.specs.Sub.{right_rows}
use Rattle.sal_intra.proofs.Rows.{same_16}
use Rattle.sal_intra.proofs.sub.right_rows.Goals as goal

pub returns : goal.returns
unfolding right_rows
returns c = same_16 c.edge_average_of_two-d4.ensures c.edge_average_of_two-d5.ensures c.edge_average_of_two-d6.ensures c.edge_average_of_two-d7.ensures c.edge_average_of_three-e4.ensures c.edge_average_of_three-e5.ensures c.edge_average_of_three-e6.ensures c.edge_average_of_three-e7.ensures c.edge_average_of_three-e3.ensures c.edge_average_of_two-d4.ensures c.edge_average_of_two-d5.ensures c.edge_average_of_two-d6.ensures c.edge_average_of_three-e2.ensures c.edge_average_of_three-e4.ensures c.edge_average_of_three-e5.ensures c.edge_average_of_three-e6.ensures
