use Rattle.std.proofs.Common.{ℕ, get_or, inl, inr, ◌⊎◌, ◌≡◌, ◌*◌, ◌+◌, ◌-◌, ◌%◌, ◌^◌, ◌<◌, ◌∙◌, ap, arith, length}
use Rattle.sal_bool.specs.Written.{value, written}
use Rattle.sal_bool.proofs.Finishing.{last_small, last_whole, last_carry, written_two, written_one, law_of}
use Rattle.sal_bool.proofs.Sending.{below_bytes}
use Rattle.sal_bool.proofs.encoder.Encoder.finish.Goals as goal
use Rattle.sal_bool.proofs.encoder.Encoder.finish.Goals.{else-count-eq0-via-then-count-eq0+else-len-gt1, else-count-eq0-via-else-count-eq0}

pub push-requires-clause-small : goal.push-requires-clause-small
push-requires-clause-small c =
    let positive : 0 < c.self.inside.range = omega (arith, c.self.invariant.0) in
    let whole = last_whole c.self.inside.bottom c.self.inside.count c.self.inside.range c.self.invariant.2 positive c.self.invariant.3 in
    let small = last_small c.self.inside.bottom c.self.inside.count c.self.inside.range c.self.invariant.2 positive c.self.invariant.3 in
    rw whole (omega (arith, small))

pub push-requires-clause-fits : goal.push-requires-clause-fits
push-requires-clause-fits c = λ le.
    let positive : 0 < c.self.inside.range = omega (arith, c.self.invariant.0) in
    let whole = last_whole c.self.inside.bottom c.self.inside.count c.self.inside.range c.self.invariant.2 positive c.self.invariant.3 in
    let below = below_bytes c.self.inside.out.items c.self.inside.bottom c.self.inside.count c.self.inside.range positive c.self.invariant.4 in
    last_carry (value c.self.inside.out.items) (256 ^ length c.self.inside.out.items) c.self.inside.bottom c.self.inside.count _ c.self.invariant.2 whole below le

pub returns-then-len-gt1-clause-bytes : goal.returns-then-len-gt1-clause-bytes
returns-then-len-gt1-clause-bytes c =
    let positive : 0 < c.self.inside.range = omega (arith, c.self.invariant.0) in
    let whole = last_whole c.self.inside.bottom c.self.inside.count c.self.inside.range c.self.invariant.2 positive c.self.invariant.3 in
    let small : (i : ℕ) → get_or c.push.new.out.items i 0 < 256 = c.in_ok-push.ensures.bytes in
    let some : 0 < length c.self.inside.out.items = omega (arith, c.in_ok-push.ensures.length, c.len.ensures) in
    c.from_vec.ensures ∙ (written_one c.self.inside.out.items c.push.new.out.items c.self.inside.bottom c.self.inside.count c.self.inside.range _ c.if-count-eq0.true some whole small c.in_ok-push.ensures.length c.in_ok-push.ensures.value
    ∙ ap written c.self.view_is)

pub returns-then-len-gt1-clause-law : goal.returns-then-len-gt1-clause-law
returns-then-len-gt1-clause-law c = λ xs fit e. law_of c.args.self c.from_vec.result (returns-then-len-gt1-clause-bytes c) xs fit e

bits_or_none : (c : goal.After-from_vec-2) → (0 < c.self.inside.count) ⊎ (length c.self.inside.out.items ≡ 0)
bits_or_none c =
    elim c.else-count-eq0.branch [
      | else-count-eq0-via-then-count-eq0+else-len-gt1 w ↦ inr (omega (arith, w.if-len-gt1.false, w.len.ensures, c.in_ok-push.ensures.length))
      | else-count-eq0-via-else-count-eq0 w ↦ inl (omega (arith, w.if-count-eq0.false))
    ]

pub returns-clause-bytes : goal.returns-clause-bytes
returns-clause-bytes c =
    let positive : 0 < c.self.inside.range = omega (arith, c.self.invariant.0) in
    let whole = last_whole c.self.inside.bottom c.self.inside.count c.self.inside.range c.self.invariant.2 positive c.self.invariant.3 in
    let small : (i : ℕ) → get_or c.push-2.new.out.items i 0 < 256 = c.in_ok-push-2.ensures.bytes in
    let long : length c.push-2.new.out.items ≡ length c.self.inside.out.items + 2 = omega (arith, c.in_ok-push.ensures.length, c.in_ok-push-2.ensures.length) in
    let spelt = c.in_ok-push-2.ensures.value ∙ ap (λ v. v * 256 + c.self.inside.bottom * 2 ^ (8 - c.self.inside.count) % 4294967296 % 256) c.in_ok-push.ensures.value in
    c.from_vec-2.ensures ∙ (written_two c.self.inside.out.items c.push-2.new.out.items c.self.inside.bottom c.self.inside.count c.self.inside.range _ c.self.invariant.2 (bits_or_none c) whole small long spelt
    ∙ ap written c.self.view_is)

pub returns-clause-law : goal.returns-clause-law
returns-clause-law c = λ xs fit e. law_of c.args.self c.from_vec-2.result (returns-clause-bytes c) xs fit e
