use Rattle.sal_bool.proofs.Putting.{refused}
use Rattle.sal_header.proofs.MapPairs.{map_some, map_then_some}
use Rattle.sal_header.proofs.put.put_map.Goals as goal

pub returns-in_err-put_flag-clause-some : goal.returns-in_err-put_flag-clause-some
returns-in_err-put_flag-clause-some c = refused _ (map_some c.args.x c.args.encoder.now _ c.if-x-eq255.false c.in_err-put_flag.ensures.some)

pub returns-in_err-put_literal-clause-some : goal.returns-in_err-put_literal-clause-some
returns-in_err-put_literal-clause-some c = refused _ (map_then_some c.args.x c.args.encoder.now c.put_flag-2.new.encoder _ c.if-x-eq255.false c.in_ok-put_flag.ensures.all c.in_err-put_literal.ensures.some)
