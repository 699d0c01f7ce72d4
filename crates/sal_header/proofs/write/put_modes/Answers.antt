use Rattle.std.proofs.Common.{◌∙◌, ap, not}
use Rattle.sal_bool.specs.Written.{steps}
use Rattle.sal_bool.specs.Pairs.{flag_pairs, literal_pairs, pairs_when}
use Rattle.sal_header.specs.Written.{inter_modes_of, inter_modes_pairs, modes_pairs}
use Rattle.sal_bool.proofs.Putting.{refused, put_then, put_done, some_then, then_some, some_same}
use Rattle.sal_header.proofs.write.put_modes.Goals as goal

pub returns-in_err-put_flag-clause-some : goal.returns-in_err-put_flag-clause-some
unfolding modes_pairs
returns-in_err-put_flag-clause-some c =
    refused _ (some_then (flag_pairs c.args.header.now.skips) _ c.args.encoder.now _ c.in_err-put_flag.ensures.some)

pub returns-in_err-put_literal_when-clause-some : goal.returns-in_err-put_literal_when-clause-some
unfolding modes_pairs
returns-in_err-put_literal_when-clause-some c =
    refused _ (then_some (flag_pairs c.args.header.now.skips) _ c.args.encoder.now c.put_flag.new.encoder _ c.in_ok-put_flag.ensures.all
    (some_then (pairs_when c.args.header.now.skips (literal_pairs 8 c.args.header.now.prob_skip)) _ c.put_flag.new.encoder _ c.in_err-put_literal_when.ensures.some))

pub returns-in_err-put_inter_modes_when-clause-some : goal.returns-in_err-put_inter_modes_when-clause-some
unfolding modes_pairs
returns-in_err-put_inter_modes_when-clause-some c =
    refused _ (then_some (flag_pairs c.args.header.now.skips) _ c.args.encoder.now c.put_flag.new.encoder _ c.in_ok-put_flag.ensures.all
    (then_some (pairs_when c.args.header.now.skips (literal_pairs 8 c.args.header.now.prob_skip)) _ c.put_flag.new.encoder c.put_literal_when.new.encoder _ c.in_ok-put_literal_when.ensures.all
    (some_then (pairs_when (not c.args.header.now.key) (inter_modes_pairs (inter_modes_of c.args.header.now))) _ c.put_literal_when.new.encoder _ (some_same _ _ c.put_literal_when.new.encoder _ (ap (λ v. pairs_when (not c.args.header.now.key) (inter_modes_pairs v)) c.inter_modes_of.ensures) c.in_err-put_inter_modes_when.ensures.some))))

pub returns-clause-all : goal.returns-clause-all
unfolding modes_pairs
returns-clause-all c =
    let all = put_then (flag_pairs c.args.header.now.skips) _ c.args.encoder.now c.put_flag.new.encoder _ c.in_ok-put_flag.ensures.all
    (put_then (pairs_when c.args.header.now.skips (literal_pairs 8 c.args.header.now.prob_skip)) _ c.put_flag.new.encoder c.put_literal_when.new.encoder _ c.in_ok-put_literal_when.ensures.all
    (put_then (pairs_when (not c.args.header.now.key) (inter_modes_pairs (inter_modes_of c.args.header.now))) _ c.put_literal_when.new.encoder c.put_inter_modes_when.new.encoder _ (c.in_ok-put_inter_modes_when.ensures.all ∙ ap (λ v. steps c.put_literal_when.new.encoder (pairs_when (not c.args.header.now.key) (inter_modes_pairs v))) c.inter_modes_of.ensures)
    (put_done c.put_inter_modes_when.new.encoder))) in
    all.puts
