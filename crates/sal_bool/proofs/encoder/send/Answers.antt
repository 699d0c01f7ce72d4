use Rattle.std.proofs.Common.{◌≡◌, ◌*◌, ◌%◌, ◌^◌, ◌-◌, ◌∙◌, ap, arith, length}
use Rattle.std.proofs.lemmas.Nat.{shr_below, one_shl}
use Rattle.sal_bool.specs.Written.{value, standing}
use Rattle.sal_bool.proofs.Sending.{carry_of_byte, standing_sent, room_sent}
use Rattle.sal_bool.proofs.encoder.send.Goals as goal

pub push-requires-clause-small : goal.push-requires-clause-small
push-requires-clause-small c = shr_below c.args.bottom 9 c.args.count c.requires.small

pub push-requires-clause-fits : goal.push-requires-clause-fits
push-requires-clause-fits c = λ le. carry_of_byte (value c.args.out.now.items) (256 ^ length c.args.out.now.items) c.args.bottom c.args.count c.requires.fits le

pub returns-clause-same : goal.returns-clause-same
returns-clause-same c = λ range.
    let one : 1 * 2 ^ c.args.count % 4294967296 ≡ 2 ^ c.args.count = one_shl c.args.count 32 (omega arith) in
    ap (λ n. standing c.push.new.out.items (c.args.bottom % n) (c.args.count - 8) range) one
    ∙ standing_sent c.args.out.now.items c.push.new.out.items c.args.bottom c.args.count range c.if-count-lt8.false c.in_ok-push.ensures.value c.in_ok-push.ensures.length

pub returns-clause-small : goal.returns-clause-small
returns-clause-small c = λ range small room.
    let one : 1 * 2 ^ c.args.count % 4294967296 ≡ 2 ^ c.args.count = one_shl c.args.count 32 (omega arith) in
    rw one (room_sent c.args.bottom c.args.count range c.if-count-lt8.false small)
