use Rattle.std.proofs.Common.{◌≡◌, ◌*◌, ◌%◌, ◌^◌, ◌≤◌, ◌+◌, ◌∙◌, ap, arith}
use Rattle.std.proofs.Math.Nat.{mod-eq_of_lt}
use Rattle.sal_bool.specs.Bits.{Interval, IsProper, next}
use Rattle.sal_bool.specs.Written.{standing}
use Rattle.sal_bool.proofs.Windows.{range_stepped}
use Rattle.sal_bool.proofs.Sending.{whole_raised, room_raised, put_small, put_fits, put_after, put_below}
use Rattle.sal_bool.proofs.encoder.Encoder.put.Goals as goal

pub send-requires-clause-small : goal.send-requires-clause-small
send-requires-clause-small c =
    put_small c.taken-bottom.result.0 c.taken-bottom.result.1 c.self.inside.count c.missing_doublings-shift.result c.taken-bottom.ensures.positive c.self.invariant.2 c.missing_doublings-shift.ensures.few (omega (arith, c.self.invariant.3))

pub send-requires-clause-fits : goal.send-requires-clause-fits
send-requires-clause-fits c =
    let i : Interval = standing c.self.inside.out.items c.self.inside.bottom c.self.inside.count c.self.inside.range in
    let proper : IsProper i = record { low = c.self.invariant.0; high = c.self.invariant.1 } in
    let whole = whole_raised c.taken-bottom.result.0 c.taken-bottom.result.1 c.self.inside.count c.missing_doublings-shift.result c.self.invariant.2 c.missing_doublings-shift.ensures.few (omega (arith, c.self.invariant.3)) in
    put_fits i c.args.probability c.args.bit c.self.inside.out.items c.taken-bottom.result.0 c.self.inside.count c.taken-bottom.result.1 c.missing_doublings-shift.result _
    (c.taken-bottom.ensures.taken c.self.inside.out.items c.self.inside.count) c.missing_doublings-shift.ensures.few c.missing_doublings-shift.ensures.full c.missing_doublings-shift.ensures.small
    whole proper c.ranges.probability.fits c.self.invariant.4

pub returns : goal.returns
returns c =
    let i : Interval = standing c.self.inside.out.items c.self.inside.bottom c.self.inside.count c.self.inside.range in
    let whole = whole_raised c.taken-bottom.result.0 c.taken-bottom.result.1 c.self.inside.count c.missing_doublings-shift.result c.self.invariant.2 c.missing_doublings-shift.ensures.few (omega (arith, c.self.invariant.3)) in
    let after = put_after i c.args.probability c.args.bit c.self.inside.out.items c.send.new.out.items c.taken-bottom.result.0 c.self.inside.count c.taken-bottom.result.1 c.missing_doublings-shift.result _ c.in_ok-bottom.bottom c.in_ok-bottom.count
    (c.taken-bottom.ensures.taken c.self.inside.out.items c.self.inside.count) c.missing_doublings-shift.ensures.few c.missing_doublings-shift.ensures.full c.missing_doublings-shift.ensures.small
    whole (c.in_ok-bottom.ensures.same (c.taken-bottom.result.1 * 2 ^ c.missing_doublings-shift.result)) in
    after ∙ ap (λ (j : Interval). next j c.args.probability c.args.bit) c.self.view_is

pub invariant_of-self-2 : goal.invariant_of-self-2
invariant_of-self-2 c =
    let b = c.taken-bottom.result.0 in
    let r = c.taken-bottom.result.1 in
    let s = c.missing_doublings-shift.result in
    let i : Interval = standing c.self.inside.out.items c.self.inside.bottom c.self.inside.count c.self.inside.range in
    let proper : IsProper i = record { low = c.self.invariant.0; high = c.self.invariant.1 } in
    let room : b + r ≤ 2 ^ (9 + c.self.inside.count) = omega (arith, c.self.invariant.3) in
    let whole = whole_raised b r c.self.inside.count s c.self.invariant.2 c.missing_doublings-shift.ensures.few room in
    let after = put_after i c.args.probability c.args.bit c.self.inside.out.items c.send.new.out.items b c.self.inside.count r s _ c.in_ok-bottom.bottom c.in_ok-bottom.count
    (c.taken-bottom.ensures.taken c.self.inside.out.items c.self.inside.count) c.missing_doublings-shift.ensures.few c.missing_doublings-shift.ensures.full c.missing_doublings-shift.ensures.small
    whole (c.in_ok-bottom.ensures.same (r * 2 ^ s)) in
    let ranged = range_stepped r s c.missing_doublings-shift.ensures.full c.missing_doublings-shift.ensures.small in
    let same : r * 2 ^ s % 4294967296 ≡ r * 2 ^ s = mod-eq_of_lt (omega (arith, c.missing_doublings-shift.ensures.small)) in
    let raised : b * 2 ^ s % 4294967296 + r * 2 ^ s ≤ 2 ^ (9 + (c.self.inside.count + s)) = rw whole (room_raised b r c.self.inside.count s room) in
    let kept = c.in_ok-bottom.ensures.small (r * 2 ^ s) (omega (arith, c.missing_doublings-shift.ensures.small)) raised in
    (ranged.0, ranged.1, c.in_ok-bottom.ensures.count, rw same kept, put_below i c.args.probability c.args.bit _ after proper c.ranges.probability.fits c.self.invariant.4)
