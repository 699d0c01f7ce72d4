use Rattle.std.proofs.Common.{◌≡◌, ◌≤◌, ℕ, arith, subst, sym, lit≤}
use Rattle.std.proofs.lemmas.List.Elements.{All-replicate}
use Rattle.sal_modes.specs.declared.near.Slots.{Slots}
use Rattle.sal_modes.specs.Near.{no_slots}
use Rattle.sal_modes.proofs.NearLemmas.{IsSmall, noted_small, counts_in}
use Rattle.sal_modes.proofs.near.near_vectors.Goals as goal

none_small : IsSmall 0 no_slots
none_small = record { filled = lit≤ tt; counts = All-replicate (λ c. c ≤ 0) 4 0 (lit≤ tt) }

small_along : (n : ℕ) (s t : Slots) → s ≡ t → IsSmall n t → IsSmall n s
small_along n s t e h = let P : Slots → Type 0 = λ x. IsSmall n x in subst P (sym e) h

pub noted-two-requires-clause-place : goal.noted-two-requires-clause-place
noted-two-requires-clause-place c = let h = (small_along 1 _ _ c.noted-one.ensures (noted_small c.args.bias.now c.args.above.now 2 0 no_slots (lit≤ tt) none_small)).filled in omega (arith, h)

pub noted-two-requires-clause-small : goal.noted-two-requires-clause-small
noted-two-requires-clause-small c = counts_in 1 _ (lit≤ tt) (small_along 1 _ _ c.noted-one.ensures (noted_small c.args.bias.now c.args.above.now 2 0 no_slots (lit≤ tt) none_small))

pub noted-three-requires-clause-place : goal.noted-three-requires-clause-place
noted-three-requires-clause-place c = let h = (small_along 2 _ _ c.noted-two.ensures (noted_small c.args.bias.now c.args.left.now 2 1 c.noted-one.result (lit≤ tt) (small_along 1 _ _ c.noted-one.ensures (noted_small c.args.bias.now c.args.above.now 2 0 no_slots (lit≤ tt) none_small)))).filled in omega (arith, h)

pub noted-three-requires-clause-small : goal.noted-three-requires-clause-small
noted-three-requires-clause-small c = counts_in 2 _ (lit≤ tt) (small_along 2 _ _ c.noted-two.ensures (noted_small c.args.bias.now c.args.left.now 2 1 c.noted-one.result (lit≤ tt) (small_along 1 _ _ c.noted-one.ensures (noted_small c.args.bias.now c.args.above.now 2 0 no_slots (lit≤ tt) none_small))))

pub joined-requires : goal.joined-requires
joined-requires c = counts_in 3 _ (lit≤ tt) (small_along 3 _ _ c.noted-three.ensures (noted_small c.args.bias.now c.args.corner.now 1 2 c.noted-two.result (lit≤ tt) (small_along 2 _ _ c.noted-two.ensures (noted_small c.args.bias.now c.args.left.now 2 1 c.noted-one.result (lit≤ tt) (small_along 1 _ _ c.noted-one.ensures (noted_small c.args.bias.now c.args.above.now 2 0 no_slots (lit≤ tt) none_small))))))
