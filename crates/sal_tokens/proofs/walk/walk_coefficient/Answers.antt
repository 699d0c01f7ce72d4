use Rattle.sal_tokens.proofs.Taking.{kept, one_taken}
use Rattle.sal_tokens.proofs.walk.walk_coefficient.Goals as goal

pub returns : goal.returns
returns g c =
    one_taken (g.S.Sink.after c.args.table.now) c.args.sink.now c.walk_token.new.sink c.walk_extra.new.sink c.walk_sign.new.sink c.args.row _ _ c.args.after_zero c.args.coefficient _ (kept c.args.coefficient c.requires.small) c.unsigned_abs-size.ensures.value c.token_of.ensures.token
    c.in_ok-walk_token.ensures c.in_ok-walk_extra.ensures c.in_ok-walk_sign.ensures
