use Rattle.std.proofs.Common.{arith, ◌≡◌, ◌∙◌, ◌+◌, length-append, ap}
use Rattle.sal_decode.proofs.TokensRead.{one_opened, all_opened}
use Rattle.sal_decode.proofs.tokens.open.Goals as goal

pub loop-k-preserved : goal.loop-k-preserved
loop-k-preserved c =
    rw c.in_ok-push.ensures.items (record {
      count = length-append _ _ ∙ ap (λ n. n + 1) c.loop-k.invariant.count;
      fits = omega (arith, c.loop-k-test.true, c.requires.count, c.type_inv.parts);
      stand = λ p lt. one_opened c.args.bytes.now c.args.parts.now.at c.loop-k.k c.loop-k.decoders.items c.new.result p c.loop-k.invariant.count c.loop-k.invariant.stand c.new.ensures.exact lt;
    })

pub returns-clause-opened : goal.returns-clause-opened
returns-clause-opened c =
    let e : c.loop-k.k ≡ c.args.parts.now.count = omega (arith, c.loop-k-test.false, c.loop-k.auto.k-end) in
    all_opened c.args.bytes.now c.args.parts.now.at c.args.parts.now.count c.loop-k.decoders.items (omega (arith, c.loop-k.invariant.fits, e)) (c.loop-k.invariant.count ∙ e) (λ p lt. c.loop-k.invariant.stand p (omega (arith, lt, e)))
