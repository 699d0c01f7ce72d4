use Rattle.std.proofs.Common.{◌∙◌, ap, arith, Bool, [], ◌∷◌, not}
use Rattle.sal_bool.specs.Pairs.{pair, pairs_when, leaf_pairs}
use Rattle.sal_bool.specs.Written.{steps}
use Rattle.sal_bool.proofs.Putting.{put_then, put_done}
use Rattle.sal_tables.specs.Trees.{vector_mode_entries}
use Rattle.sal_macroblock.specs.Macroblocks.{own_vector}
use Rattle.sal_modes.specs.declared.around.Near.{Near}
use Rattle.sal_modes.specs.Modes.{mode_row}
use Rattle.sal_modes.specs.Written.{is_last, is_alt, is_new, near_for, vector_number, vector_pairs, inter_pairs}
use Rattle.sal_modes.proofs.PuttingModes.{one_put}
use Rattle.sal_modes.proofs.write_inter.write_inter.Goals as goal

pub returns : goal.returns
unfolding inter_pairs
returns c =
    let m = c.args.mode.now in
    let h = c.args.header.now in
    let near : Near = near_for h c.args.around.now m.reference in
    let later = ap not c.is_last-later.ensures in
    let all = put_then (pair h.prob_last (not (is_last m.reference)) ∷ []) _ c.args.encoder.now c.put.new.self _ (one_put h.prob_last _ (not (is_last m.reference)) c.args.encoder.now c.put.new.self (omega arith) later c.in_ok-put.ensures)
    (put_then (pairs_when (not (is_last m.reference)) (pair h.prob_golden (is_alt m.reference) ∷ [])) _ c.put.new.self c.put_bit_when.new.encoder _
    (c.in_ok-put_bit_when.ensures ∙ (ap (λ (b : Bool). steps c.put.new.self (pairs_when b (pair h.prob_golden c.is_alt.result ∷ []))) later ∙ ap (λ (b : Bool). steps c.put.new.self (pairs_when (not (is_last m.reference)) (pair h.prob_golden b ∷ []))) c.is_alt.ensures))
    (put_then (leaf_pairs vector_mode_entries (mode_row near.counts) (vector_number m.y)) _ c.put_bit_when.new.encoder c.put_vector_mode.new.encoder _ (c.in_ok-put_vector_mode.ensures ∙ ap (λ (n : Near). steps c.put_bit_when.new.encoder (leaf_pairs vector_mode_entries (mode_row n.counts) (vector_number m.y))) c.near_for-near.ensures.value)
    (put_then (pairs_when (is_new m.y) (vector_pairs c.args.probs.now.vectors near.best (own_vector m))) _ c.put_vector_mode.new.encoder c.put_vector_when.new.encoder _
    (c.in_ok-put_vector_when.ensures ∙ ap (λ (n : Near). steps c.put_vector_mode.new.encoder (pairs_when (is_new m.y) (vector_pairs c.args.probs.now.vectors n.best (own_vector m)))) c.near_for-near.ensures.value) (put_done c.put_vector_when.new.encoder)))) in
    all.puts
