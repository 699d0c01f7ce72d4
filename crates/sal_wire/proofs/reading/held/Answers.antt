use Rattle.std.proofs.Common.{◌≡◌, ◌+◌, ◌<◌, ℕ, List, length, inl, inr, ap, sym, ◌∙◌, subst, arith}
use Rattle.sal_base.specs.declared.name.Name.{Name}
use Rattle.sal_wire.proofs.HeldLemmas.{IsFar, none_yet, one_more, broken_here, length_held}
use Rattle.sal_wire.proofs.reading.held.Goals as goal
use Rattle.sal_wire.proofs.reading.held.Goals.{then-number-before-via-then-number-before, then-number-before-via-else-number-before+then-number-gt-MAX_FRAMES}

pub loop-i-init : goal.loop-i-init
loop-i-init c = subst (λ (x : List (ℕ × Name)). IsFar c.args.bytes.now 0 0 x) (sym c.new-held.ensures) (none_yet c.args.bytes.now)

pub returns-then-number-before : goal.returns-then-number-before
returns-then-number-before c =
    broken_here c.args.bytes.now c.loop-i.i c.args.count c.loop-i.before c.loop-i.held c.u32_at-number.result c.loop-i.invariant c.loop-i-test.true c.u32_at-number.ensures
    (elim c.then-number-before.branch [
      | then-number-before-via-then-number-before w ↦ inl w.if-number-before.true
      | then-number-before-via-else-number-before+then-number-gt-MAX_FRAMES w ↦ inr w.if-number-gt-MAX_FRAMES.true
    ])

pub push-requires : goal.push-requires
push-requires c =
    let long : length c.loop-i.held ≡ c.loop-i.i = ap (λ (x : List (ℕ × Name)). length x) c.loop-i.invariant.taken ∙ length_held c.loop-i.i 15 c.args.bytes.now in
    let inside : c.loop-i.i < c.args.count = c.loop-i-test.true in
    omega arith

pub loop-i-preserved : goal.loop-i-preserved
loop-i-preserved c =
    subst (λ (x : List (ℕ × Name)). IsFar c.args.bytes.now (c.loop-i.i + 1) c.u32_at-number.result x) (sym c.push.ensures)
    (one_more c.args.bytes.now c.loop-i.i c.loop-i.before c.loop-i.held c.u32_at-number.result c.name_at.result c.loop-i.invariant c.u32_at-number.ensures c.name_at.ensures c.if-number-before.false c.if-number-gt-MAX_FRAMES.false)
