use Rattle.sal_modes.proofs.SplitLemmas.{vector_left, vector_above, vector_zero, vector_new}
use Rattle.sal_modes.proofs.split.sub_vector_of.Goals as goal

pub returns-then-leaf-eq0 : goal.returns-then-leaf-eq0
returns-then-leaf-eq0 c = record { reads = vector_left _ _ c.args.left c.args.above c.args.leaf _ c.if-leaf-eq0.true }

pub returns-then-leaf-eq1 : goal.returns-then-leaf-eq1
returns-then-leaf-eq1 c = record { reads = vector_above _ _ c.args.left c.args.above c.args.leaf _ c.if-leaf-eq1.true }

pub returns-then-leaf-eq2 : goal.returns-then-leaf-eq2
returns-then-leaf-eq2 c = record { reads = vector_zero _ _ c.args.left c.args.above c.args.leaf _ c.if-leaf-eq2.true }

pub returns-else-leaf-eq2 : goal.returns-else-leaf-eq2
returns-else-leaf-eq2 c = record { reads = vector_new _ c.args.best c.args.left c.args.above c.args.leaf _ _ _ _ c.if-leaf-eq0.false c.if-leaf-eq1.false c.if-leaf-eq2.false c.read_vector.ensures.reads c.plus.ensures }
