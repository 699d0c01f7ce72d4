use Rattle.std.proofs.Common.{arith, refl, ◌∙◌, ◌+◌, ◌≤◌, length}
use Rattle.std.proofs.lemmas.List.{length-set, drop-set-lt}
use Rattle.sal_header.proofs.Placing.{next_placed, placed_past, placed_last, placed_start, inside_none, inside_more}
use Rattle.sal_header.proofs.places.put_sized.Goals as goal

pub loop-k-init : goal.loop-k-init
loop-k-init c = record { long = c.told-at; others = λ n le. refl; near = omega (arith, c.requires.near, c.requires.few); inside = λ le. (omega (arith, le, c.requires.table), inside_none (length c.args.bytes.now) c.args.at.now); parts = placed_start c.args.bytes.now c.args.table c.args.sized _ }

pub loop-k-preserved : goal.loop-k-preserved
loop-k-preserved c = record {
  long = length-set c.loop-k.at c.loop-k.k _ ∙ c.loop-k.invariant.long;
  others = λ n le. drop-set-lt n c.loop-k.at c.loop-k.k _ (omega (arith, le, c.loop-k-test.true)) ∙ c.loop-k.invariant.others n le;
  near = omega (arith, c.loop-k.invariant.near, c.number_at-size.ensures.small);
  inside = λ le.
      let before = c.loop-k.invariant.inside le in
      let here : c.loop-k.place + c.number_at-size.result ≤ length c.args.bytes.now = let a = before.0 in omega (arith, a, c.if-saturating_sub-size.false, c.saturating_sub.ensures) in
      (here, inside_more (length c.args.bytes.now) c.loop-k.k c.loop-k.place c.number_at-size.result c.loop-k.at (omega (arith, c.loop-k.invariant.long, c.requires.few, c.loop-k-test.true)) here before.1);
  parts = next_placed c.args.bytes.now c.args.table c.loop-k.k c.args.sized c.loop-k.place c.number_at-size.result c.loop-k.at _ c.loop-k-test.true (omega (arith, c.loop-k.invariant.long, c.requires.few, c.loop-k-test.true)) c.number_at-size.ensures.value (omega (arith, c.if-saturating_sub-size.false, c.saturating_sub.ensures)) c.loop-k.invariant.parts;
}

pub returns-then-saturating_sub-size-clause-fault : goal.returns-then-saturating_sub-size-clause-fault
returns-then-saturating_sub-size-clause-fault c = placed_past c.args.bytes.now c.args.table c.loop-k.k c.args.sized c.loop-k.place c.number_at-size.result _ _ c.loop-k-test.true c.number_at-size.ensures.value (omega (arith, c.if-saturating_sub-size.true, c.saturating_sub.ensures)) c.loop-k.invariant.parts

pub returns-clause-parts : goal.returns-clause-parts
returns-clause-parts c = placed_last c.args.bytes.now c.args.table c.loop-k.k c.args.sized c.loop-k.place c.loop-k.at _ c.loop-k-test.false c.loop-k.auto.k-end c.loop-k.invariant.parts

pub returns-clause-inside : goal.returns-clause-inside
returns-clause-inside c = λ le.
    let all = c.loop-k.invariant.inside le in
    (all.0, λ k lt. all.1 k (omega (arith, lt, c.loop-k-test.false)))
