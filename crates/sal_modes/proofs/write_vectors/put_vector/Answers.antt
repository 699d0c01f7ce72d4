use Rattle.std.proofs.Common.{◌∙◌, ap, ℤ, ◌-ℤ◌, slice_range, arith}
use Rattle.std.proofs.lemmas.Int.{ints}
use Rattle.sal_bool.specs.Written.{steps}
use Rattle.sal_bool.proofs.Putting.{put_then, put_done}
use Rattle.sal_modes.specs.Written.{component_pairs, vector_pairs}
use Rattle.sal_modes.proofs.PuttingModes.{abs_within}
use Rattle.sal_modes.proofs.write_vectors.put_vector.Goals as goal

pub returns : goal.returns
unfolding vector_pairs
returns c =
    let ps = c.args.probabilities.now in
    let row : ℤ = c.args.vector.row -ℤ c.args.best.row in
    let column : ℤ = c.args.vector.column -ℤ c.args.best.column in
    let all = put_then (component_pairs (slice_range ps 0 19) row) _ c.args.encoder.now c.put_component.new.encoder _ (c.in_ok-put_component.ensures ∙ ap (λ (z : ℤ). steps c.args.encoder.now (component_pairs (slice_range ps 0 19) z)) (let h = abs_within row c.requires.row in omega (arith, ints, h)))
    (put_then (component_pairs (slice_range ps 19 38) column) _ c.put_component.new.encoder c.put_component-2.new.encoder _ (c.in_ok-put_component-2.ensures ∙ ap (λ (z : ℤ). steps c.put_component.new.encoder (component_pairs (slice_range ps 19 38) z)) (let h = abs_within column c.requires.column in omega (arith, ints, h)))
    (put_done c.put_component-2.new.encoder)) in
    all.puts
