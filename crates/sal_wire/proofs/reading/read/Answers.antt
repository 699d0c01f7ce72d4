use Rattle.std.proofs.Common.{sym, ◌∙◌, arith}
use Rattle.sal_wire.proofs.Exact.{spells_again, came_spells, meets_rules}
use Rattle.sal_wire.proofs.reading.read.Goals as goal

pub returns-clause-spelled : goal.returns-clause-spelled
returns-clause-spelled c = λ d h. came_spells c.args.bytes.now (λ i. omega (arith, c.type_inv.bytes i)) d (sym c.datagram.ensures ∙ h)

pub returns-clause-again : goal.returns-clause-again
returns-clause-again c = λ d h. c.datagram.ensures ∙ spells_again c.args.bytes.now d h

pub returns-clause-meets : goal.returns-clause-meets
returns-clause-meets c =
    meets_rules c.args.bytes.now _ (λ d h. came_spells c.args.bytes.now (λ i. omega (arith, c.type_inv.bytes i)) d (sym c.datagram.ensures ∙ h))
