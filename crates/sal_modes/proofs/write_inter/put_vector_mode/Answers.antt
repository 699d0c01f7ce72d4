use Rattle.sal_tables.specs.Trees.{vector_mode_entries}
use Rattle.sal_modes.specs.Modes.{mode_row}
use Rattle.sal_modes.specs.Written.{vector_number}
use Rattle.sal_modes.proofs.PuttingModes.{put_same, leaf_taken}
use Rattle.sal_modes.proofs.write_inter.put_vector_mode.Goals as goal

pub returns : goal.returns
returns c =
    put_same c.args.encoder.now c.put_way.new.encoder _ _ c.put_way.result
    (leaf_taken vector_mode_entries c.mode_row.result (mode_row c.args.counts.now) (vector_number c.args.y) c.vector_mode_way.result.now c.mode_row.ensures c.vector_mode_way.ensures.way) c.put_way.ensures
