use Rattle.std.proofs.Common.{◌∙◌, sym, arith}
use Rattle.sal_tokens.proofs.WrittenBits.{extra_none, is_category, token_large}
use Rattle.sal_tokens.proofs.Taking.{base_below, extra_is, taken_same, taken_none}
use Rattle.sal_tokens.proofs.walk.walk_extra.Goals as goal

pub returns-then-size-lt5 : goal.returns-then-size-lt5
returns-then-size-lt5 g c = taken_none (g.S.Sink.after c.args.table.now) c.args.sink.now _ (sym (extra_none c.args.size c.if-size-lt5.true))

pub overflow_sub-category : goal.overflow_sub-category
overflow_sub-category g c =
    let some = (is_category c.args.size c.if-size-lt5.false c.requires).some in
    let e = c.token_of.ensures.token ∙ token_large c.args.size c.if-size-lt5.false in
    omega (arith, some, e)

pub overflow_sub-extra : goal.overflow_sub-extra
overflow_sub-extra g c = base_below c.args.size c.token_of.result c.category_bases.result.now c.if-size-lt5.false c.requires c.token_of.ensures.token c.category_bases.ensures.digits

pub returns : goal.returns
returns g c =
    taken_same (g.S.Sink.after c.args.table.now) c.args.sink.now c.walk_number.new.sink _ _ c.walk_number.result
    (extra_is c.args.size c.token_of.result c.category_bases.result.now c.category_bits.result.now c.if-size-lt5.false c.requires c.token_of.ensures.token c.category_bases.ensures.digits c.category_bits.ensures.digits) c.walk_number.ensures
