use Rattle.std.proofs.Common.{◌∙◌, ap, pos, unsigned_abs}
use Rattle.std.specs.Int.Signed.{lt_z}
use Rattle.sal_header.proofs.Values.{passed}
use Rattle.sal_bool.proofs.Putting.{refused, below_zero, signed_put, signed_some, sign_some}
use Rattle.sal_header.proofs.put.put_signed.Goals as goal

pub returns-in_err-put_literal-clause-some : goal.returns-in_err-put_literal-clause-some
returns-in_err-put_literal-clause-some c =
    let same = passed c.args.z c.ranges.z in
    refused _ (signed_some c.args.n c.unsigned_abs.result c.args.z c.args.encoder.now _ (c.unsigned_abs.ensures.value ∙ ap (λ x. unsigned_abs x) same) c.in_err-put_literal.ensures.some)

pub returns-in_err-put_flag-clause-some : goal.returns-in_err-put_flag-clause-some
returns-in_err-put_flag-clause-some c =
    let same = passed c.args.z c.ranges.z in
    refused _ (sign_some c.args.n c.unsigned_abs.result c.args.z _ c.args.encoder.now c.put_literal.new.encoder _ (c.unsigned_abs.ensures.value ∙ ap (λ x. unsigned_abs x) same) (ap (λ x. lt_z x (pos 0)) same ∙ below_zero c.args.z) c.in_ok-put_literal.ensures.all c.in_err-put_flag.ensures.some)

pub returns-clause-all : goal.returns-clause-all
returns-clause-all c =
    let same = passed c.args.z c.ranges.z in
    signed_put c.args.n c.unsigned_abs.result c.args.z _ c.args.encoder.now c.put_literal.new.encoder c.put_flag.new.encoder (c.unsigned_abs.ensures.value ∙ ap (λ x. unsigned_abs x) same) (ap (λ x. lt_z x (pos 0)) same ∙ below_zero c.args.z) c.in_ok-put_literal.ensures.all c.in_ok-put_flag.ensures.all
