use Rattle.std.proofs.Common.{◌∙◌, refl, sym, ap, Bool}
use Rattle.sal_tables.specs.Trees.{segment_entries}
use Rattle.sal_bool.specs.Pairs.{pairs_when, leaf_pairs}
use Rattle.sal_modes.proofs.PuttingModes.{put_same, leaf_taken}
use Rattle.sal_modes.proofs.write.put_segment_when.Goals as goal

pub returns-then-header : goal.returns-then-header
returns-then-header c =
    put_same c.args.encoder.now c.put_way.new.encoder _ _ c.put_way.result
    (leaf_taken segment_entries c.args.header.now.map c.args.header.now.map c.args.segment c.segment_way.result.now refl c.segment_way.ensures.way ∙ ap (λ (b : Bool). pairs_when b (leaf_pairs segment_entries c.args.header.now.map c.args.segment)) (sym c.if-header.true)) c.put_way.ensures
