use Rattle.std.proofs.Common.{refl}
use Rattle.sal_tokens.specs.Written.{macroblock_branches, after_macroblock}
use Rattle.sal_tokens.proofs.BlockSteps.{place_at}
use Rattle.sal_tokens.proofs.TakingBlocks.{going_start, going_more, going_all, going_leaves, sized_more, sized_all}
use Rattle.sal_tokens.proofs.write.walk_macroblock.Goals as goal

pub loop-place-init : goal.loop-place-init
loop-place-init g c = record {
  going = going_start (g.S.Sink.after c.args.table.now) c.args.coefficients.now c.places-place-items.result.now c.args.sink.now c.args.has_y2 c.args.above.now.0 c.args.left.now.0 c.places-place-items.ensures.places;
  sized = tt;
}

pub bit-requires : goal.bit-requires
bit-requires g c = (place_at _ _ _ c.places-place-items.ensures.fit c.loop-place-test.true).above

pub bit-requires-in-loop-place : goal.bit-requires-in-loop-place
bit-requires-in-loop-place g c = (place_at _ _ _ c.places-place-items.ensures.fit c.loop-place-test.true).left

pub block-block-requires : goal.block-block-requires
block-block-requires g c = (place_at _ _ _ c.places-place-items.ensures.fit c.loop-place-test.true).index

pub walk_block-requires-clause-kind : goal.walk_block-requires-clause-kind
walk_block-requires-clause-kind g c = (place_at _ _ _ c.places-place-items.ensures.fit c.loop-place-test.true).kind

pub set-requires : goal.set-requires
set-requires g c = (place_at _ _ _ c.places-place-items.ensures.fit c.loop-place-test.true).above

pub set-requires-in-loop-place : goal.set-requires-in-loop-place
set-requires-in-loop-place g c = (place_at _ _ _ c.places-place-items.ensures.fit c.loop-place-test.true).left

pub loop-place-preserved : goal.loop-place-preserved
loop-place-preserved g c = record {
  going =
      going_more (g.S.Sink.after c.args.table.now) c.args.coefficients.now c.places-place-items.result.now c.loop-place.place-index _ c.loop-place.sink c.walk_block.new.sink c.args.sink.now c.loop-place.has_coefficients _ c.in_ok-starts.starts c.loop-place.above.0 c.set.new.self.0 c.loop-place.left.0 c.set-in-loop-place.new.self.0 c.bit.result c.bit-in-loop-place.result c.block-block.result.now.0
      (macroblock_branches c.args.has_y2 c.args.above.now.0 c.args.left.now.0 c.args.coefficients.now)
      (after_macroblock c.args.has_y2 c.args.above.now.0 c.args.left.now.0 c.args.coefficients.now)
      c.loop-place-test.true c.bit.ensures c.bit-in-loop-place.ensures c.block-block.ensures.coefficients c.in_ok-starts.ensures.bits c.in_ok-starts.ensures.starts c.set.ensures c.set-in-loop-place.ensures refl c.loop-place.invariant.going;
  sized = sized_more c.args.coefficients.now c.places-place-items.result.now c.loop-place.place-index _ c.block-block.result.now.0 c.loop-place-test.true c.block-block.ensures.coefficients c.in_ok-starts.ensures.long c.block-block.ensures.small c.loop-place.invariant.sized;
}

pub returns-clause-bits : goal.returns-clause-bits
returns-clause-bits g c = going_all (g.S.Sink.after c.args.table.now) c.args.coefficients.now c.places-place-items.result.now c.loop-place.place-index c.loop-place.sink c.args.sink.now c.loop-place.has_coefficients c.loop-place.above.0 c.loop-place.left.0
    (macroblock_branches c.args.has_y2 c.args.above.now.0 c.args.left.now.0 c.args.coefficients.now)
    (after_macroblock c.args.has_y2 c.args.above.now.0 c.args.left.now.0 c.args.coefficients.now) c.loop-place-test.false c.loop-place.invariant.going

pub returns-clause-after : goal.returns-clause-after
returns-clause-after g c = going_leaves (g.S.Sink.after c.args.table.now) c.args.coefficients.now c.places-place-items.result.now c.loop-place.place-index c.loop-place.sink c.args.sink.now c.loop-place.has_coefficients c.loop-place.above.0 c.loop-place.left.0
    (macroblock_branches c.args.has_y2 c.args.above.now.0 c.args.left.now.0 c.args.coefficients.now)
    (after_macroblock c.args.has_y2 c.args.above.now.0 c.args.left.now.0 c.args.coefficients.now) c.loop-place-test.false c.loop-place.invariant.going

pub returns-clause-sized : goal.returns-clause-sized
returns-clause-sized g c = sized_all c.args.coefficients.now c.places-place-items.result.now c.loop-place.place-index c.args.has_y2 c.places-place-items.ensures.places c.loop-place-test.false c.loop-place.invariant.sized
