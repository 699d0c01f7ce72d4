use Rattle.std.proofs.Common.{◌∙◌, ℕ, sym, ap, take, drop}
use Rattle.std.proofs.lemmas.List.{take_min, drop_min}
use Rattle.sal_decode_ffi.proofs.Frames.{one_more, stopped, all_answered}
use Rattle.sal_decode_ffi.proofs.answers.put_answers.Goals as goal

pub loop-size-preserved : goal.loop-size-preserved
loop-size-preserved c =
    let rest = c.loop-size.rest.now in
    one_more c.loop-size.state c.in-Some.next c.args.lengths.now c.loop-size.size-index rest _ _ c.loop-size.text.items _ _ c.loop-size-test.true
    (c.split_at.ensures.front ∙ (ap (λ (n : ℕ). take n rest) c.min.ensures ∙ take_min _ rest))
    (c.split_at.ensures.back ∙ (ap (λ (n : ℕ). drop n rest) c.min.ensures ∙ drop_min _ rest))
    c.in_ok-next.ensures.put (sym c.in-Some.is ∙ c.in_ok-next.ensures.next) c.loop-size.invariant

pub returns : goal.returns
returns c = all_answered _ c.args.lengths.now c.loop-size.size-index _ _ _ c.loop-size-test.false c.loop-size.invariant

pub returns-in_default : goal.returns-in_default
returns-in_default c =
    let rest = c.loop-size.rest.now in
    stopped c.loop-size.state c.args.lengths.now c.loop-size.size-index rest _ _ c.loop-size.text.items _ _ c.loop-size-test.true
    (c.split_at.ensures.front ∙ (ap (λ (n : ℕ). take n rest) c.min.ensures ∙ take_min _ rest))
    (c.split_at.ensures.back ∙ (ap (λ (n : ℕ). drop n rest) c.min.ensures ∙ drop_min _ rest))
    c.in_ok-next.ensures.put (sym c.in_default.is ∙ c.in_ok-next.ensures.next) c.loop-size.invariant
