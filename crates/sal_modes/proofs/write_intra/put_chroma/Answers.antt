use Rattle.std.proofs.Common.{◌∙◌, sym, ap, Bool}
use Rattle.sal_tables.specs.Tables.{key_chroma_probabilities_of}
use Rattle.sal_tables.specs.Trees.{chroma_entries}
use Rattle.sal_modes.specs.Written.{whole_number, chroma_pairs}
use Rattle.sal_modes.proofs.PuttingModes.{put_same, leaf_taken}
use Rattle.sal_modes.proofs.write_intra.put_chroma.Goals as goal

pub returns-then-key : goal.returns-then-key
returns-then-key c =
    put_same c.args.encoder.now c.put_way.new.encoder _ _ c.put_way.result
    (leaf_taken chroma_entries c.key_chroma_probabilities.result.now key_chroma_probabilities_of (whole_number c.args.chroma) c.chroma_way.result.now c.key_chroma_probabilities.ensures.digits c.chroma_way.ensures.way ∙ ap (λ (b : Bool). chroma_pairs b c.args.probs.now c.args.chroma) (sym c.if-key.true)) c.put_way.ensures

pub returns-else-key : goal.returns-else-key
returns-else-key c =
    put_same c.args.encoder.now c.put_way-else-key.new.encoder _ _ c.put_way-else-key.result
    (leaf_taken chroma_entries c.chroma.result.now c.args.probs.now.chroma (whole_number c.args.chroma) c.chroma_way-else-key.result.now c.chroma.ensures.value c.chroma_way-else-key.ensures.way ∙ ap (λ (b : Bool). chroma_pairs b c.args.probs.now c.args.chroma) (sym c.if-key.false)) c.put_way-else-key.ensures
