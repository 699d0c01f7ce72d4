use Rattle.std.proofs.Common.{◌≡◌, ◌%◌, ◌∙◌, ap, arith, length, vec_len}
use Rattle.sal_bool.specs.Written.{value}
use Rattle.sal_bool.proofs.Sending.{carry_before_last, value_before_last, value_last, lent_back}
use Rattle.sal_bool.proofs.encoder.push.Goals as goal

pub carry-requires-clause-fits : goal.carry-requires-clause-fits
carry-requires-clause-fits c = carry_before_last c.args.out.now.items _ (c.args.byte % 256) _ (c.as_mut_slice.ensures.value ∙ c.in_ok-push.ensures.items) (omega arith) (c.requires.fits c.if-byte-ge256.true) (omega arith)

pub returns-then-byte-ge256-clause-value : goal.returns-then-byte-ge256-clause-value
returns-then-byte-ge256-clause-value c =
    let lent : length c.as_mut_slice.result.now ≡ length c.push.new.self.items = ap length c.as_mut_slice.ensures.value in
    let same : length c.carry.new.out ≡ vec_len c.push.new.self = omega (arith, c.carry.auto.out, lent) in
    ap value (lent_back (vec_len c.push.new.self) c.push.new.self.items c.carry.new.out same)
    ∙ (c.carry.ensures ∙ value_before_last c.args.out.now.items _ c.args.byte _ (c.as_mut_slice.ensures.value ∙ c.in_ok-push.ensures.items) (omega arith) c.if-byte-ge256.true c.requires.small)

pub returns-else-byte-ge256-clause-value : goal.returns-else-byte-ge256-clause-value
returns-else-byte-ge256-clause-value c = value_last c.args.out.now.items _ c.args.byte c.in_ok-push.ensures.items c.if-byte-ge256.false
