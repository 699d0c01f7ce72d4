use Rattle.sal_bool.specs.Pairs.{flag_pairs, pairs_when, all_pairs}
use Rattle.sal_header.specs.Written.{data_pairs, map_pairs, segments_pairs}
use Rattle.sal_bool.proofs.Putting.{refused, put_then, put_done, some_then, then_some}
use Rattle.sal_header.proofs.write.put_segments.Goals as goal

pub returns-in_err-put_flag-clause-some : goal.returns-in_err-put_flag-clause-some
unfolding segments_pairs
returns-in_err-put_flag-clause-some c =
    refused _ (some_then (flag_pairs c.args.segments.now.on) _ c.args.encoder.now _ c.in_err-put_flag.ensures.some)

pub returns-in_err-put_flag_when-clause-some : goal.returns-in_err-put_flag_when-clause-some
unfolding segments_pairs
returns-in_err-put_flag_when-clause-some c =
    refused _ (then_some (flag_pairs c.args.segments.now.on) _ c.args.encoder.now c.put_flag.new.encoder _ c.in_ok-put_flag.ensures.all
    (some_then (pairs_when c.args.segments.now.on (flag_pairs c.args.segments.now.update_map)) _ c.put_flag.new.encoder _ c.in_err-put_flag_when.ensures.some))

pub returns-in_err-put_flag_when-2-clause-some : goal.returns-in_err-put_flag_when-2-clause-some
unfolding segments_pairs
returns-in_err-put_flag_when-2-clause-some c =
    refused _ (then_some (flag_pairs c.args.segments.now.on) _ c.args.encoder.now c.put_flag.new.encoder _ c.in_ok-put_flag.ensures.all
    (then_some (pairs_when c.args.segments.now.on (flag_pairs c.args.segments.now.update_map)) _ c.put_flag.new.encoder c.put_flag_when.new.encoder _ c.in_ok-put_flag_when.ensures.all
    (some_then (pairs_when c.args.segments.now.on (flag_pairs c.args.segments.now.update_data)) _ c.put_flag_when.new.encoder _ c.in_err-put_flag_when-2.ensures.some)))

pub returns-in_err-put_data_when-clause-some : goal.returns-in_err-put_data_when-clause-some
unfolding segments_pairs
returns-in_err-put_data_when-clause-some c =
    refused _ (then_some (flag_pairs c.args.segments.now.on) _ c.args.encoder.now c.put_flag.new.encoder _ c.in_ok-put_flag.ensures.all
    (then_some (pairs_when c.args.segments.now.on (flag_pairs c.args.segments.now.update_map)) _ c.put_flag.new.encoder c.put_flag_when.new.encoder _ c.in_ok-put_flag_when.ensures.all
    (then_some (pairs_when c.args.segments.now.on (flag_pairs c.args.segments.now.update_data)) _ c.put_flag_when.new.encoder c.put_flag_when-2.new.encoder _ c.in_ok-put_flag_when-2.ensures.all
    (some_then (pairs_when c.args.segments.now.update_data (data_pairs c.args.segments.now.«data»)) _ c.put_flag_when-2.new.encoder _ c.in_err-put_data_when.ensures.some))))

pub returns-in_err-put_map_when-clause-some : goal.returns-in_err-put_map_when-clause-some
unfolding segments_pairs
returns-in_err-put_map_when-clause-some c =
    refused _ (then_some (flag_pairs c.args.segments.now.on) _ c.args.encoder.now c.put_flag.new.encoder _ c.in_ok-put_flag.ensures.all
    (then_some (pairs_when c.args.segments.now.on (flag_pairs c.args.segments.now.update_map)) _ c.put_flag.new.encoder c.put_flag_when.new.encoder _ c.in_ok-put_flag_when.ensures.all
    (then_some (pairs_when c.args.segments.now.on (flag_pairs c.args.segments.now.update_data)) _ c.put_flag_when.new.encoder c.put_flag_when-2.new.encoder _ c.in_ok-put_flag_when-2.ensures.all
    (then_some (pairs_when c.args.segments.now.update_data (data_pairs c.args.segments.now.«data»)) _ c.put_flag_when-2.new.encoder c.put_data_when.new.encoder _ c.in_ok-put_data_when.ensures.all
    (some_then (pairs_when c.args.segments.now.update_map (all_pairs map_pairs c.args.segments.now.map)) _ c.put_data_when.new.encoder _ c.in_err-put_map_when.ensures.some)))))

pub returns-clause-all : goal.returns-clause-all
unfolding segments_pairs
returns-clause-all c =
    let all = put_then (flag_pairs c.args.segments.now.on) _ c.args.encoder.now c.put_flag.new.encoder _ c.in_ok-put_flag.ensures.all
    (put_then (pairs_when c.args.segments.now.on (flag_pairs c.args.segments.now.update_map)) _ c.put_flag.new.encoder c.put_flag_when.new.encoder _ c.in_ok-put_flag_when.ensures.all
    (put_then (pairs_when c.args.segments.now.on (flag_pairs c.args.segments.now.update_data)) _ c.put_flag_when.new.encoder c.put_flag_when-2.new.encoder _ c.in_ok-put_flag_when-2.ensures.all
    (put_then (pairs_when c.args.segments.now.update_data (data_pairs c.args.segments.now.«data»)) _ c.put_flag_when-2.new.encoder c.put_data_when.new.encoder _ c.in_ok-put_data_when.ensures.all
    (put_then (pairs_when c.args.segments.now.update_map (all_pairs map_pairs c.args.segments.now.map)) _ c.put_data_when.new.encoder c.put_map_when.new.encoder _ c.in_ok-put_map_when.ensures.all
    (put_done c.put_map_when.new.encoder))))) in
    all.puts
