use Rattle.sal_bool.specs.Pairs.{flag_pairs, flagged_pairs, all_pairs}
use Rattle.sal_header.specs.Written.{data_pairs}
use Rattle.sal_bool.proofs.Putting.{refused, put_then, put_done, some_then, then_some}
use Rattle.sal_header.proofs.write.put_data.Goals as goal

pub returns-in_err-put_flag-clause-some : goal.returns-in_err-put_flag-clause-some
unfolding data_pairs
returns-in_err-put_flag-clause-some c =
    refused _ (some_then (flag_pairs c.args.values.now.absolute) _ c.args.encoder.now _ c.in_err-put_flag.ensures.some)

pub returns-in_err-put_four_flagged-clause-some : goal.returns-in_err-put_four_flagged-clause-some
unfolding data_pairs
returns-in_err-put_four_flagged-clause-some c =
    refused _ (then_some (flag_pairs c.args.values.now.absolute) _ c.args.encoder.now c.put_flag.new.encoder _ c.in_ok-put_flag.ensures.all
    (some_then (all_pairs (flagged_pairs 7) c.args.values.now.quantisers) _ c.put_flag.new.encoder _ c.in_err-put_four_flagged.ensures.some))

pub returns-in_err-put_four_flagged-2-clause-some : goal.returns-in_err-put_four_flagged-2-clause-some
unfolding data_pairs
returns-in_err-put_four_flagged-2-clause-some c =
    refused _ (then_some (flag_pairs c.args.values.now.absolute) _ c.args.encoder.now c.put_flag.new.encoder _ c.in_ok-put_flag.ensures.all
    (then_some (all_pairs (flagged_pairs 7) c.args.values.now.quantisers) _ c.put_flag.new.encoder c.put_four_flagged.new.encoder _ c.in_ok-put_four_flagged.ensures.all
    (some_then (all_pairs (flagged_pairs 6) c.args.values.now.levels) _ c.put_four_flagged.new.encoder _ c.in_err-put_four_flagged-2.ensures.some)))

pub returns-clause-all : goal.returns-clause-all
unfolding data_pairs
returns-clause-all c =
    let all = put_then (flag_pairs c.args.values.now.absolute) _ c.args.encoder.now c.put_flag.new.encoder _ c.in_ok-put_flag.ensures.all
    (put_then (all_pairs (flagged_pairs 7) c.args.values.now.quantisers) _ c.put_flag.new.encoder c.put_four_flagged.new.encoder _ c.in_ok-put_four_flagged.ensures.all
    (put_then (all_pairs (flagged_pairs 6) c.args.values.now.levels) _ c.put_four_flagged.new.encoder c.put_four_flagged-2.new.encoder _ c.in_ok-put_four_flagged-2.ensures.all
    (put_done c.put_four_flagged-2.new.encoder))) in
    all.puts
