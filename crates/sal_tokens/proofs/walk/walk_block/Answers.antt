use Rattle.std.proofs.Common.{◌≡◌, ◌∙◌, ◌==◌, ap, refl, arith, ℕ, ℤ, pos, min, get_or, to_z, of_z, w32, unsigned_abs}
use Rattle.sal_tokens.specs.Written.{block_branches, taken_all}
use Rattle.sal_tokens.proofs.Taking.{kept, one_branches, block_start, block_more, block_all}
use Rattle.sal_tokens.proofs.walk.walk_block.Goals as goal

pub loop-position-init : goal.loop-position-init
loop-position-init g c = record {
  low = c.requires.context;
  left = block_start (g.S.Sink.after c.args.table.now) c.args.sink.now c.args.kind c.args.context c.first_position-first.result c.args.block.now.0 c.first_position-first.ensures;
}

pub loop-position-preserved : goal.loop-position-preserved
loop-position-preserved g c =
    let f = g.S.Sink.after c.args.table.now in
    let z : ℤ = get_or c.args.block.now.0 c.loop-position.position (pos 0) in
    let few = c.end_of-end.ensures.long.0 in
    let long = c.end_of-end.ensures.long.1 in
    let end = c.end_of-end.ensures.end in
    let lt = c.loop-position-test.true in
    let same : to_z w32 (of_z w32 z) ≡ z = kept z (c.requires.small c.loop-position.position (pos 0) (omega (arith, long, lt))) in
    let size : c.unsigned_abs-size.result ≡ unsigned_abs z = c.unsigned_abs-size.ensures.value ∙ ap (λ (v : ℤ). unsigned_abs v) same in
    let least : c.min-context.result ≡ min 2 (unsigned_abs z) = c.min-context.ensures ∙ (ap (λ (n : ℕ). min n 2) size ∙ omega arith) in
    record {
      low = omega (arith, least);
      left =
          block_more f c.loop-position.sink c.walk_coefficient.new.sink c.args.sink.now c.args.kind c.first_position-first.result c.loop-position.position c.loop-position.context c.row_at-row.result c.min-context.result c.loop-position.after_zero (c.unsigned_abs-size.result == 0) c.args.block.now.0 z
          (block_branches c.args.kind c.args.context c.args.block.now.0) c.loop-position.auto.position (omega (arith, end, lt)) (omega (arith, few, lt)) refl c.row_at-row.ensures.row least (ap (λ (n : ℕ). n == 0) size)
          (c.in_ok-walk_coefficient.ensures ∙ ap (λ (v : ℤ). taken_all f c.loop-position.sink (one_branches c.row_at-row.result c.loop-position.after_zero v)) same) c.loop-position.invariant.left;
    }

pub returns-clause-bits : goal.returns-clause-bits
returns-clause-bits g c =
    block_all (g.S.Sink.after c.args.table.now) c.loop-position.sink c.walk_end.new.sink c.args.sink.now c.args.kind c.first_position-first.result c.loop-position.position c.end_of-end.result c.loop-position.context c.loop-position.after_zero c.args.block.now.0
    (block_branches c.args.kind c.args.context c.args.block.now.0) c.end_of-end.ensures.end c.loop-position-test.false (let e = c.end_of-end.ensures.end in let far = c.loop-position.auto.position-end in omega (arith, e, far)) c.end_of-end.ensures.long.0 c.in_ok-walk_end.ensures c.loop-position.invariant.left
