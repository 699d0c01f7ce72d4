use Rattle.sal_intra.specs.Sub.{down_rows}
use Rattle.sal_intra.proofs.Rows.{same_16}
use Rattle.sal_intra.proofs.sub.down_rows.Goals as goal

pub returns : goal.returns
unfolding down_rows
returns c = same_16 c.edge_average_of_two-d3.ensures c.edge_average_of_three-e4.ensures c.edge_average_of_three-e5.ensures c.edge_average_of_three-e6.ensures c.edge_average_of_two-d2.ensures c.edge_average_of_three-e3.ensures c.edge_average_of_two-d3.ensures c.edge_average_of_three-e4.ensures c.edge_average_of_two-d1.ensures c.edge_average_of_three-e2.ensures c.edge_average_of_two-d2.ensures c.edge_average_of_three-e3.ensures c.edge_average_of_two-d0.ensures c.edge_average_of_three-e1.ensures c.edge_average_of_two-d1.ensures c.edge_average_of_three-e2.ensures
