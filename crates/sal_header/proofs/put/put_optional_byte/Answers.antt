use Rattle.std.proofs.Common.{[], true}
use Rattle.sal_bool.specs.Pairs.{pair, literal_pairs}
use Rattle.sal_bool.proofs.Putting.{refused, none_put, optional_some, optional_bit_some, optional_none_some}
use Rattle.sal_header.proofs.put.put_optional_byte.Goals as goal

pub returns-in_err-put-in-Some-clause-some : goal.returns-in_err-put-in-Some-clause-some
returns-in_err-put-in-Some-clause-some c =
    refused _ (optional_some c.args.probability (literal_pairs 8) c.args.value c.in-Some.x c.args.encoder.now _ c.in-Some.is (none_put (pair c.args.probability true) [] c.args.encoder.now _ c.in_err-put-in-Some.ensures))

pub returns-in_err-put_literal-in-Some-clause-some : goal.returns-in_err-put_literal-in-Some-clause-some
returns-in_err-put_literal-in-Some-clause-some c =
    refused _ (optional_bit_some c.args.probability (literal_pairs 8) c.args.value c.in-Some.x c.args.encoder.now c.put.new.self _ c.ranges.probability.fits c.in-Some.is c.in_ok-put-in-Some.ensures c.in_err-put_literal-in-Some.ensures.some)

pub returns-in-None-clause-some : goal.returns-in-None-clause-some
returns-in-None-clause-some c = optional_none_some c.args.probability (literal_pairs 8) c.args.value c.args.encoder.now _ _ c.in-None.is c.put-in-None.ensures
