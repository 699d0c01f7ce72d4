use Rattle.std.proofs.Common.{◌∙◌, refl, slice_range}
use Rattle.sal_tables.specs.Trees.{short_vector_entries}
use Rattle.sal_modes.proofs.PuttingModes.{put_same, leaf_taken, size_short, size_long}
use Rattle.sal_modes.proofs.write_vectors.put_size.Goals as goal

pub returns-then-size-lt8 : goal.returns-then-size-lt8
returns-then-size-lt8 c =
    put_same c.args.encoder.now c.put_way.new.encoder _ _ c.put_way.result
    (leaf_taken short_vector_entries (slice_range c.args.probabilities.now 2 9) (slice_range c.args.probabilities.now 2 9) c.args.size c.short_way.result.now refl c.short_way.ensures.way ∙ size_short c.args.probabilities.now c.args.size c.if-size-lt8.true) c.put_way.ensures

pub returns-else-size-lt8 : goal.returns-else-size-lt8
returns-else-size-lt8 c = put_same c.args.encoder.now c.put_long.new.encoder _ _ c.put_long.result (size_long c.args.probabilities.now c.args.size c.if-size-lt8.false) c.put_long.ensures
