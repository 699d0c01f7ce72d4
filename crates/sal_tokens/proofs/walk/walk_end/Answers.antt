use Rattle.std.proofs.Common.{[], List, Bool, ap, sym, if◌then◌else◌}
use Rattle.std.proofs.lemmas.Bool.{le-ltb}
use Rattle.sal_tokens.specs.Written.{Branch, token_branches, row_at}
use Rattle.sal_tokens.proofs.Taking.{taken_none}
use Rattle.sal_tokens.proofs.walk.walk_end.Goals as goal

pub returns-else-position-lt16 : goal.returns-else-position-lt16
returns-else-position-lt16 g c =
    taken_none (g.S.Sink.after c.args.table.now) c.args.sink.now _
    (sym (ap (λ (b : Bool). let bs : List Branch = if b then token_branches (row_at c.args.kind c.args.position c.args.context) c.args.after_zero 0 else [] in bs) (le-ltb c.args.position 16 c.if-position-lt16.false)))
