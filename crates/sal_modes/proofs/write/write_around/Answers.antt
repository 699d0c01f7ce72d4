use Rattle.std.proofs.Common.{◌∙◌, ap, Bool, [], ◌∷◌, not, if◌then◌else◌}
use Rattle.sal_tables.specs.Trees.{segment_entries}
use Rattle.sal_bool.specs.Pairs.{pair, pairs_when, leaf_pairs}
use Rattle.sal_bool.specs.Written.{steps}
use Rattle.sal_bool.proofs.Putting.{put_then, put_done}
use Rattle.sal_macroblock.specs.Macroblocks.{is_intra}
use Rattle.sal_modes.specs.Written.{intra_pairs, inter_pairs, mb_pairs}
use Rattle.sal_modes.proofs.write.write_around.Goals as goal

pub returns-clause-pairs : goal.returns-clause-pairs
unfolding mb_pairs
returns-clause-pairs c =
    let h = c.args.header.now in
    let m = c.args.mode.now in
    let all = put_then (pairs_when h.update_map (leaf_pairs segment_entries h.map m.segment)) _ c.args.encoder.now c.put_segment_when.new.encoder _ c.in_ok-put_segment_when.ensures
    (put_then (pairs_when h.skips (pair h.prob_skip m.skip ∷ [])) _ c.put_segment_when.new.encoder c.put_bit_when.new.encoder _ c.in_ok-put_bit_when.ensures
    (put_then (pairs_when (not h.key) (pair h.prob_intra (not (is_intra m.reference)) ∷ [])) _ c.put_bit_when.new.encoder c.put_bit_when-2.new.encoder _ (c.in_ok-put_bit_when-2.ensures ∙ ap (λ (b : Bool). steps c.put_bit_when.new.encoder (pairs_when (not h.key) (pair h.prob_intra b ∷ []))) c.is_inter.ensures)
    (put_then (if is_intra m.reference then intra_pairs h.key c.args.probs.now c.args.around.now m else inter_pairs h c.args.probs.now c.args.around.now m) _ c.put_bit_when-2.new.encoder c.write_modes.new.encoder _ c.in_ok-write_modes.ensures.pairs
    (put_done c.write_modes.new.encoder)))) in
    all.puts
