use Rattle.sal_bool.specs.Pairs.{all_pairs}
use Rattle.sal_header.specs.Written.{delta_pairs, deltas_pairs}
use Rattle.sal_bool.proofs.Putting.{refused, put_then, put_done, some_then, then_some}
use Rattle.sal_header.proofs.write.put_deltas.Goals as goal

pub returns-in_err-put_four_deltas-clause-some : goal.returns-in_err-put_four_deltas-clause-some
unfolding deltas_pairs
returns-in_err-put_four_deltas-clause-some c =
    refused _ (some_then (all_pairs delta_pairs c.args.deltas.now.references) _ c.args.encoder.now _ c.in_err-put_four_deltas.ensures.some)

pub returns-in_err-put_four_deltas-2-clause-some : goal.returns-in_err-put_four_deltas-2-clause-some
unfolding deltas_pairs
returns-in_err-put_four_deltas-2-clause-some c =
    refused _ (then_some (all_pairs delta_pairs c.args.deltas.now.references) _ c.args.encoder.now c.put_four_deltas.new.encoder _ c.in_ok-put_four_deltas.ensures.all
    (some_then (all_pairs delta_pairs c.args.deltas.now.modes) _ c.put_four_deltas.new.encoder _ c.in_err-put_four_deltas-2.ensures.some))

pub returns-clause-all : goal.returns-clause-all
unfolding deltas_pairs
returns-clause-all c =
    let all = put_then (all_pairs delta_pairs c.args.deltas.now.references) _ c.args.encoder.now c.put_four_deltas.new.encoder _ c.in_ok-put_four_deltas.ensures.all
    (put_then (all_pairs delta_pairs c.args.deltas.now.modes) _ c.put_four_deltas.new.encoder c.put_four_deltas-2.new.encoder _ c.in_ok-put_four_deltas-2.ensures.all
    (put_done c.put_four_deltas-2.new.encoder)) in
    all.puts
