use Rattle.sal_bool.specs.Pairs.{literal_pairs, all_pairs}
use Rattle.sal_bool.proofs.Putting.{refused, optional_some, optional_then_some}
use Rattle.sal_header.proofs.put.put_optional_three.Goals as goal

pub returns-in_err-put_flag-in-Some-clause-some : goal.returns-in_err-put_flag-in-Some-clause-some
returns-in_err-put_flag-in-Some-clause-some c =
    refused _ (optional_some 128 (all_pairs (literal_pairs 8)) c.args.values.now _ c.args.encoder.now _ c.in-Some.is c.in_err-put_flag-in-Some.ensures.some)

pub returns-in_err-put_bytes-in-Some-clause-some : goal.returns-in_err-put_bytes-in-Some-clause-some
returns-in_err-put_bytes-in-Some-clause-some c =
    refused _ (optional_then_some 128 (all_pairs (literal_pairs 8)) c.args.values.now _ c.args.encoder.now c.put_flag.new.encoder _ c.in-Some.is c.in_ok-put_flag-in-Some.ensures.all c.in_err-put_bytes-in-Some.ensures.some)
