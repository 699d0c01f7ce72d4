use Rattle.std.proofs.Common.{sym}
use Rattle.sal_tokens.proofs.WrittenBits.{token_plain, from_67, from_35, from_19, from_11, from_7, from_5}
use Rattle.sal_tokens.proofs.Taking.{token_category}
use Rattle.sal_tokens.proofs.walk.token_of.Goals as goal

pub returns-then-size-lt5-clause-token : goal.returns-then-size-lt5-clause-token
returns-then-size-lt5-clause-token c = sym (token_plain c.args.size c.if-size-lt5.true)

pub returns-then-size-lt7-clause-token : goal.returns-then-size-lt7-clause-token
returns-then-size-lt7-clause-token c = token_category c.args.size 1 c.if-size-lt5.false (from_5 c.args.size c.if-size-lt5.false c.if-size-lt7.true)

pub returns-then-size-lt11-clause-token : goal.returns-then-size-lt11-clause-token
returns-then-size-lt11-clause-token c = token_category c.args.size 2 c.if-size-lt5.false (from_7 c.args.size c.if-size-lt7.false c.if-size-lt11.true)

pub returns-then-size-lt19-clause-token : goal.returns-then-size-lt19-clause-token
returns-then-size-lt19-clause-token c = token_category c.args.size 3 c.if-size-lt5.false (from_11 c.args.size c.if-size-lt11.false c.if-size-lt19.true)

pub returns-then-size-lt35-clause-token : goal.returns-then-size-lt35-clause-token
returns-then-size-lt35-clause-token c = token_category c.args.size 4 c.if-size-lt5.false (from_19 c.args.size c.if-size-lt19.false c.if-size-lt35.true)

pub returns-then-size-lt67-clause-token : goal.returns-then-size-lt67-clause-token
returns-then-size-lt67-clause-token c = token_category c.args.size 5 c.if-size-lt5.false (from_35 c.args.size c.if-size-lt35.false c.if-size-lt67.true)

pub returns-else-size-lt67-clause-token : goal.returns-else-size-lt67-clause-token
returns-else-size-lt67-clause-token c = token_category c.args.size 6 c.if-size-lt5.false (from_67 c.args.size c.if-size-lt67.false)
