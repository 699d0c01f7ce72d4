use Rattle.std.proofs.Common.{◌∙◌, ℤ, List, false, ap}
use Rattle.sal_bool.specs.Syntax.{run}
use Rattle.sal_bool.proofs.Meaning.{exact_of}
use Rattle.sal_tokens.specs.Blocks.{tokens, places, blocks, macroblock}
use Rattle.sal_tokens.specs.declared.places.Place.{Place}
use Rattle.sal_tokens.proofs.BlockSteps.{place_at, block_read, blocks_end, none_more}
use Rattle.sal_tokens.proofs.macroblock.read_macroblock.Goals as goal

pub loop-place-init : goal.loop-place-init
unfolding macroblock
loop-place-init c = record {
  reads =
      ap (λ (ps : List Place). run (blocks c.args.probs.now.coefficients ps (tokens c.clear.new.self false c.args.above.now.0 c.args.left.now.0)) c.args.decoder.now) c.places-place-items.ensures.places
      ∙ ap (λ (zs : List (List ℤ)). run (blocks c.args.probs.now.coefficients (places c.args.has_y2) (tokens zs false c.args.above.now.0 c.args.left.now.0)) c.args.decoder.now) c.clear.ensures;
  none = λ _. c.clear.ensures;
}

pub bit-requires : goal.bit-requires
bit-requires c = (place_at _ _ _ c.places-place-items.ensures.fit c.loop-place-test.true).above

pub bit-requires-in-loop-place : goal.bit-requires-in-loop-place
bit-requires-in-loop-place c = (place_at _ _ _ c.places-place-items.ensures.fit c.loop-place-test.true).left

pub read_block-starts-requires-clause-kind : goal.read_block-starts-requires-clause-kind
read_block-starts-requires-clause-kind c = (place_at _ _ _ c.places-place-items.ensures.fit c.loop-place-test.true).kind

pub put-requires-clause-index : goal.put-requires-clause-index
put-requires-clause-index c = (place_at _ _ _ c.places-place-items.ensures.fit c.loop-place-test.true).index

pub set-requires : goal.set-requires
set-requires c = (place_at _ _ _ c.places-place-items.ensures.fit c.loop-place-test.true).above

pub set-requires-in-loop-place : goal.set-requires-in-loop-place
set-requires-in-loop-place c = (place_at _ _ _ c.places-place-items.ensures.fit c.loop-place-test.true).left

pub loop-place-preserved : goal.loop-place-preserved
loop-place-preserved c = record {
  reads =
      block_read _ _ _ _ _ _ _ _ _ _ _ _ _ _ _ _ _ _ c.loop-place-test.true c.bit.ensures c.bit-in-loop-place.ensures c.read_block-starts.ensures.reads c.put.ensures c.set.ensures c.set-in-loop-place.ensures c.loop-place.invariant.reads;
  none = λ e. (
      let place = place_at _ _ _ c.places-place-items.ensures.fit c.loop-place-test.true in
      none_more _ _ _ _ _ _ _ _ _ _ _ place.index e c.loop-place.invariant.none c.put.ensures c.read_block-starts.ensures.reads);
}

pub returns-clause-reads : goal.returns-clause-reads
returns-clause-reads c = blocks_end _ _ _ _ _ _ c.loop-place-test.false c.loop-place.invariant.reads

pub returns-clause-exact : goal.returns-clause-exact
returns-clause-exact c = exact_of (macroblock c.args.probs.now.coefficients c.args.has_y2 c.args.above.now.0 c.args.left.now.0) _ _ _ (returns-clause-reads c)
