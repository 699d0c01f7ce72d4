use Rattle.std.proofs.Common.{ap, true}
use Rattle.sal_bool.specs.Pairs.{flag_pairs, signed_pairs}
use Rattle.sal_header.proofs.Values.{passed}
use Rattle.sal_bool.proofs.Putting.{refused, some_then, then_some, some_same}
use Rattle.sal_header.proofs.put.put_delta.Goals as goal

pub returns-in_err-put_flag-clause-some : goal.returns-in_err-put_flag-clause-some
returns-in_err-put_flag-clause-some c = refused _ (some_then (flag_pairs true) (signed_pairs 6 c.args.z) c.args.encoder.now _ c.in_err-put_flag.ensures.some)

pub returns-in_err-put_signed-clause-some : goal.returns-in_err-put_signed-clause-some
returns-in_err-put_signed-clause-some c =
    refused _ (then_some (flag_pairs true) (signed_pairs 6 c.args.z) c.args.encoder.now c.put_flag.new.encoder _ c.in_ok-put_flag.ensures.all (some_same _ _ c.put_flag.new.encoder _ (ap (λ z. signed_pairs 6 z) (passed c.args.z c.ranges.z)) c.in_err-put_signed.ensures.some))
