use Rattle.std.proofs.Common.{◌≡◌, ℕ, ◌+◌, ◌-◌, ◌≤◌, arith, ap, subst, length, set}
use Rattle.sal_header.proofs.Placing.{parts_there, inside_more, all_joined, last_ends, none_left}
use Rattle.sal_header.specs.Tags.{AreInside}
use Rattle.sal_header.proofs.places.partitions.Goals as goal

pub returns-clause-count : goal.returns-clause-count
returns-clause-count c = c.count_of-count.ensures.count

pub returns-clause-parts : goal.returns-clause-parts
returns-clause-parts c =
    let n = c.count_of-count.ensures in
    parts_there c.args.bytes.now c.args.tag.now c.args.log2 c.count_of-count.result _ c.in_ok-place.place c.saturating_sub-2.result c.put_sized.new.at n.count n.some (ap (λ m. m + c.args.tag.now.size) c.head_length.ensures)
    (omega (arith, c.if-saturating_sub-sized.false, c.saturating_sub.ensures)) (omega (arith, n.few, n.some, c.in_ok-place.ensures.long)) c.saturating_sub-2.ensures c.in_ok-place.ensures.parts

pub returns-clause-inside : goal.returns-clause-inside
returns-clause-inside c = λ le.
    let n = c.count_of-count.ensures in
    let end = length c.args.bytes.now in
    let sized = c.count_of-count.result - 1 in
    let before = c.in_ok-place.ensures.inside (omega (arith, le, c.head_length.ensures)) in
    let last : c.in_ok-place.place + c.saturating_sub-2.result ≤ end = let a = before.0 in omega (arith, a, c.saturating_sub-2.ensures) in
    let count : sized + 1 ≡ c.count_of-count.result = omega (arith, n.some) in
    let P : ℕ → Type 0 = λ m. AreInside end (set c.put_sized.new.at sized (c.in_ok-place.place, c.saturating_sub-2.result)) m in
    subst P count (inside_more end sized c.in_ok-place.place c.saturating_sub-2.result c.put_sized.new.at (omega (arith, n.few, n.some, c.in_ok-place.ensures.long)) last before.1)

pub returns-clause-rest : goal.returns-clause-rest
returns-clause-rest c = all_joined c.args.bytes.now c.args.tag.now c.args.log2 _ (returns-clause-parts c)

pub returns-clause-end : goal.returns-clause-end
returns-clause-end c = λ le.
    let n = c.count_of-count.ensures in
    let before = c.in_ok-place.ensures.inside (omega (arith, le, c.head_length.ensures)) in
    last_ends c.put_sized.new.at c.count_of-count.result c.in_ok-place.place c.saturating_sub-2.result _ n.some (omega (arith, n.few, n.some, c.in_ok-place.ensures.long)) c.saturating_sub-2.ensures before.0

pub returns-clause-others : goal.returns-clause-others
returns-clause-others c =
    let n = c.count_of-count.ensures in
    none_left c.put_sized.new.at c.count_of-count.result c.in_ok-place.place c.saturating_sub-2.result n.some (c.in_ok-place.ensures.others c.count_of-count.result (omega (arith, n.some)))
