use Rattle.sal_bool.specs.Pairs.{flag_pairs, literal_pairs, pairs_when}
use Rattle.sal_header.specs.Written.{deltas_pairs, filtering_pairs}
use Rattle.sal_bool.proofs.Putting.{refused, put_then, put_done, some_then, then_some}
use Rattle.sal_header.proofs.write.put_filtering.Goals as goal

pub returns-in_err-put_flag-clause-some : goal.returns-in_err-put_flag-clause-some
unfolding filtering_pairs
returns-in_err-put_flag-clause-some c =
    refused _ (some_then (flag_pairs c.args.filtering.now.simple) _ c.args.encoder.now _ c.in_err-put_flag.ensures.some)

pub returns-in_err-put_literal-clause-some : goal.returns-in_err-put_literal-clause-some
unfolding filtering_pairs
returns-in_err-put_literal-clause-some c =
    refused _ (then_some (flag_pairs c.args.filtering.now.simple) _ c.args.encoder.now c.put_flag.new.encoder _ c.in_ok-put_flag.ensures.all
    (some_then (literal_pairs 6 c.args.filtering.now.level) _ c.put_flag.new.encoder _ c.in_err-put_literal.ensures.some))

pub returns-in_err-put_literal-2-clause-some : goal.returns-in_err-put_literal-2-clause-some
unfolding filtering_pairs
returns-in_err-put_literal-2-clause-some c =
    refused _ (then_some (flag_pairs c.args.filtering.now.simple) _ c.args.encoder.now c.put_flag.new.encoder _ c.in_ok-put_flag.ensures.all
    (then_some (literal_pairs 6 c.args.filtering.now.level) _ c.put_flag.new.encoder c.put_literal.new.encoder _ c.in_ok-put_literal.ensures.all
    (some_then (literal_pairs 3 c.args.filtering.now.sharpness) _ c.put_literal.new.encoder _ c.in_err-put_literal-2.ensures.some)))

pub returns-in_err-put_flag-2-clause-some : goal.returns-in_err-put_flag-2-clause-some
unfolding filtering_pairs
returns-in_err-put_flag-2-clause-some c =
    refused _ (then_some (flag_pairs c.args.filtering.now.simple) _ c.args.encoder.now c.put_flag.new.encoder _ c.in_ok-put_flag.ensures.all
    (then_some (literal_pairs 6 c.args.filtering.now.level) _ c.put_flag.new.encoder c.put_literal.new.encoder _ c.in_ok-put_literal.ensures.all
    (then_some (literal_pairs 3 c.args.filtering.now.sharpness) _ c.put_literal.new.encoder c.put_literal-2.new.encoder _ c.in_ok-put_literal-2.ensures.all
    (some_then (flag_pairs c.args.filtering.now.on) _ c.put_literal-2.new.encoder _ c.in_err-put_flag-2.ensures.some))))

pub returns-in_err-put_flag_when-clause-some : goal.returns-in_err-put_flag_when-clause-some
unfolding filtering_pairs
returns-in_err-put_flag_when-clause-some c =
    refused _ (then_some (flag_pairs c.args.filtering.now.simple) _ c.args.encoder.now c.put_flag.new.encoder _ c.in_ok-put_flag.ensures.all
    (then_some (literal_pairs 6 c.args.filtering.now.level) _ c.put_flag.new.encoder c.put_literal.new.encoder _ c.in_ok-put_literal.ensures.all
    (then_some (literal_pairs 3 c.args.filtering.now.sharpness) _ c.put_literal.new.encoder c.put_literal-2.new.encoder _ c.in_ok-put_literal-2.ensures.all
    (then_some (flag_pairs c.args.filtering.now.on) _ c.put_literal-2.new.encoder c.put_flag-2.new.encoder _ c.in_ok-put_flag-2.ensures.all
    (some_then (pairs_when c.args.filtering.now.on (flag_pairs c.args.filtering.now.update)) _ c.put_flag-2.new.encoder _ c.in_err-put_flag_when.ensures.some)))))

pub returns-in_err-put_deltas_when-clause-some : goal.returns-in_err-put_deltas_when-clause-some
unfolding filtering_pairs
returns-in_err-put_deltas_when-clause-some c =
    refused _ (then_some (flag_pairs c.args.filtering.now.simple) _ c.args.encoder.now c.put_flag.new.encoder _ c.in_ok-put_flag.ensures.all
    (then_some (literal_pairs 6 c.args.filtering.now.level) _ c.put_flag.new.encoder c.put_literal.new.encoder _ c.in_ok-put_literal.ensures.all
    (then_some (literal_pairs 3 c.args.filtering.now.sharpness) _ c.put_literal.new.encoder c.put_literal-2.new.encoder _ c.in_ok-put_literal-2.ensures.all
    (then_some (flag_pairs c.args.filtering.now.on) _ c.put_literal-2.new.encoder c.put_flag-2.new.encoder _ c.in_ok-put_flag-2.ensures.all
    (then_some (pairs_when c.args.filtering.now.on (flag_pairs c.args.filtering.now.update)) _ c.put_flag-2.new.encoder c.put_flag_when.new.encoder _ c.in_ok-put_flag_when.ensures.all
    (some_then (pairs_when c.args.filtering.now.update (deltas_pairs c.args.filtering.now.deltas)) _ c.put_flag_when.new.encoder _ c.in_err-put_deltas_when.ensures.some))))))

pub returns-clause-all : goal.returns-clause-all
unfolding filtering_pairs
returns-clause-all c =
    let all = put_then (flag_pairs c.args.filtering.now.simple) _ c.args.encoder.now c.put_flag.new.encoder _ c.in_ok-put_flag.ensures.all
    (put_then (literal_pairs 6 c.args.filtering.now.level) _ c.put_flag.new.encoder c.put_literal.new.encoder _ c.in_ok-put_literal.ensures.all
    (put_then (literal_pairs 3 c.args.filtering.now.sharpness) _ c.put_literal.new.encoder c.put_literal-2.new.encoder _ c.in_ok-put_literal-2.ensures.all
    (put_then (flag_pairs c.args.filtering.now.on) _ c.put_literal-2.new.encoder c.put_flag-2.new.encoder _ c.in_ok-put_flag-2.ensures.all
    (put_then (pairs_when c.args.filtering.now.on (flag_pairs c.args.filtering.now.update)) _ c.put_flag-2.new.encoder c.put_flag_when.new.encoder _ c.in_ok-put_flag_when.ensures.all
    (put_then (pairs_when c.args.filtering.now.update (deltas_pairs c.args.filtering.now.deltas)) _ c.put_flag_when.new.encoder c.put_deltas_when.new.encoder _ c.in_ok-put_deltas_when.ensures.all
    (put_done c.put_deltas_when.new.encoder)))))) in
    all.puts
