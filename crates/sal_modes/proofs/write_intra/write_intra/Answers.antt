use Rattle.sal_bool.specs.Pairs.{pairs_when}
use Rattle.sal_macroblock.specs.Macroblocks.{is_b}
use Rattle.sal_bool.proofs.Putting.{put_then, put_done}
use Rattle.sal_modes.specs.Written.{y_pairs, subs_pairs, chroma_pairs, intra_pairs}
use Rattle.sal_modes.proofs.write_intra.write_intra.Goals as goal

pub returns-clause-pairs : goal.returns-clause-pairs
unfolding intra_pairs
returns-clause-pairs c =
    let all = put_then (y_pairs c.args.key c.args.probs.now c.args.mode.now.y) _ c.args.encoder.now c.put_y.new.encoder _ c.in_ok-put_y.ensures
    (put_then (pairs_when (is_b c.args.mode.now.y) (subs_pairs c.args.key c.args.around.now c.args.mode.now.sub 0 16)) _ c.put_y.new.encoder c.put_subs_when.new.encoder _ c.in_ok-put_subs_when.ensures.pairs
    (put_then (chroma_pairs c.args.key c.args.probs.now c.args.mode.now.chroma) _ c.put_subs_when.new.encoder c.put_chroma.new.encoder _ c.in_ok-put_chroma.ensures (put_done c.put_chroma.new.encoder))) in
    all.puts
