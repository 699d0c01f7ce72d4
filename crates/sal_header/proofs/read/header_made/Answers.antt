use Rattle.std.proofs.Common.{arith, sym, ap, ◌∙◌, ℤ}
use Rattle.sal_header.specs.declared.header.Header.{Header}
use Rattle.sal_probs.specs.declared.updates.Updates.{Updates}
use Rattle.sal_header.specs.Headers.{header_made}
use Rattle.sal_header.proofs.Values.{passed_five}
use Rattle.sal_header.proofs.read.header_made.Goals as goal

pub returns : goal.returns
unfolding header_made
returns c =
    let of_five : Updates → ℤ → ℤ → ℤ → ℤ → ℤ → Header = λ updates y_dc y2_dc y2_ac uv_dc uv_ac.
    record (header_made c.args.tag.now.key c.args.tag.now.shown c.args.colour c.args.clamping c.args.segments.now c.args.filtering.now c.args.log2 c.args.quantisers.now c.args.refreshing.now c.args.coefficients c.args.modes.now) { y_dc = y_dc; y2_dc = y2_dc; y2_ac = y2_ac; uv_dc = uv_dc; uv_ac = uv_ac; updates = updates } in
    let q = c.args.quantisers.now in
    sym (passed_five (of_five c.updates_made-updates.result) q.y_dc q.y2_dc q.y2_ac q.uv_dc q.uv_ac (record { sfits = omega arith }) (record { sfits = omega arith }) (record { sfits = omega arith }) (record { sfits = omega arith }) (record { sfits = omega arith })) ∙ ap (λ u. of_five u q.y_dc q.y2_dc q.y2_ac q.uv_dc q.uv_ac) c.updates_made-updates.ensures
