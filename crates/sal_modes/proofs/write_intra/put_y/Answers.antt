use Rattle.std.proofs.Common.{◌∙◌, sym, ap, Bool}
use Rattle.sal_tables.specs.Tables.{key_y_probabilities_of}
use Rattle.sal_tables.specs.Trees.{key_y_entries, inter_y_entries}
use Rattle.sal_modes.specs.Written.{whole_number, y_pairs}
use Rattle.sal_modes.proofs.PuttingModes.{put_same, leaf_taken}
use Rattle.sal_modes.proofs.write_intra.put_y.Goals as goal

pub returns-then-key : goal.returns-then-key
returns-then-key c =
    put_same c.args.encoder.now c.put_way.new.encoder _ _ c.put_way.result
    (leaf_taken key_y_entries c.key_y_probabilities.result.now key_y_probabilities_of (whole_number c.args.y) c.key_y_way.result.now c.key_y_probabilities.ensures.digits c.key_y_way.ensures.way ∙ ap (λ (b : Bool). y_pairs b c.args.probs.now c.args.y) (sym c.if-key.true)) c.put_way.ensures

pub returns-else-key : goal.returns-else-key
returns-else-key c =
    put_same c.args.encoder.now c.put_way-else-key.new.encoder _ _ c.put_way-else-key.result
    (leaf_taken inter_y_entries c.y.result.now c.args.probs.now.y (whole_number c.args.y) c.inter_y_way.result.now c.y.ensures.value c.inter_y_way.ensures.way ∙ ap (λ (b : Bool). y_pairs b c.args.probs.now c.args.y) (sym c.if-key.false)) c.put_way-else-key.ensures
