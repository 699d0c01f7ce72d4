use Rattle.std.proofs.Common.{◌≡◌, ◌∙◌, ap, pos, sym, subst, to_z, of_z, w8}
use Rattle.std.specs.Prelude.{OnOk, OnErr}
use Rattle.sal_bool.specs.Written.{steps}
use Rattle.sal_bool.specs.Pairs.{Pairs}
use Rattle.sal_bool.specs.Put.{PutSome}
use Rattle.sal_header.proofs.Values.{passed}
use Rattle.sal_bool.proofs.Putting.{refused, flagged_zero, flagged_put, flagged_some, flagged_then_some}
use Rattle.sal_header.proofs.put.put_flagged.Goals as goal

pub returns-then-z-eq0-clause-all : goal.returns-then-z-eq0-clause-all
returns-then-z-eq0-clause-all c =
    let zero : c.args.z ≡ pos 0 = sym (passed c.args.z c.ranges.z) ∙ ap (λ n. to_z w8 n) c.if-z-eq0.true in
    let P : Pairs → Type 0 = λ qs. OnOk c.put_flag.result (c.put_flag.new.encoder ≡ steps c.args.encoder.now qs) in
    subst P (flagged_zero c.args.n c.args.z zero) c.put_flag.ensures.all

pub returns-then-z-eq0-clause-some : goal.returns-then-z-eq0-clause-some
returns-then-z-eq0-clause-some c =
    let zero : c.args.z ≡ pos 0 = sym (passed c.args.z c.ranges.z) ∙ ap (λ n. to_z w8 n) c.if-z-eq0.true in
    let P : Pairs → Type 0 = λ qs. OnErr c.put_flag.result (PutSome c.args.encoder.now qs c.put_flag.new.encoder) in
    subst P (flagged_zero c.args.n c.args.z zero) c.put_flag.ensures.some

pub returns-in_err-put_flag-clause-some : goal.returns-in_err-put_flag-clause-some
returns-in_err-put_flag-clause-some c = refused _ (flagged_some c.args.n c.args.z c.args.encoder.now _ (λ e. c.if-z-eq0.false (ap (λ z. of_z w8 z) e)) c.in_err-put_flag.ensures.some)

pub returns-in_err-put_signed-clause-some : goal.returns-in_err-put_signed-clause-some
returns-in_err-put_signed-clause-some c = refused _ (flagged_then_some c.args.n c.args.z _ c.args.encoder.now c.put_flag-2.new.encoder _ (passed c.args.z c.ranges.z) (λ e. c.if-z-eq0.false (ap (λ z. of_z w8 z) e)) c.in_ok-put_flag.ensures.all c.in_err-put_signed.ensures.some)

pub returns-clause-all : goal.returns-clause-all
returns-clause-all c = flagged_put c.args.n c.args.z _ c.args.encoder.now c.put_flag-2.new.encoder c.put_signed.new.encoder (passed c.args.z c.ranges.z) (λ e. c.if-z-eq0.false (ap (λ z. of_z w8 z) e)) c.in_ok-put_flag.ensures.all c.in_ok-put_signed.ensures.all
