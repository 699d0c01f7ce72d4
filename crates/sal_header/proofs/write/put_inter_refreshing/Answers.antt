use Rattle.std.proofs.Common.{not}
use Rattle.sal_bool.specs.Pairs.{flag_pairs, literal_pairs, pairs_when}
use Rattle.sal_header.specs.Written.{inter_refreshing_pairs}
use Rattle.sal_bool.proofs.Putting.{refused, put_then, put_done, some_then, then_some}
use Rattle.sal_header.proofs.write.put_inter_refreshing.Goals as goal

pub returns-in_err-put_flag-clause-some : goal.returns-in_err-put_flag-clause-some
unfolding inter_refreshing_pairs
returns-in_err-put_flag-clause-some c =
    refused _ (some_then (flag_pairs c.args.refreshing.now.golden) _ c.args.encoder.now _ c.in_err-put_flag.ensures.some)

pub returns-in_err-put_flag-2-clause-some : goal.returns-in_err-put_flag-2-clause-some
unfolding inter_refreshing_pairs
returns-in_err-put_flag-2-clause-some c =
    refused _ (then_some (flag_pairs c.args.refreshing.now.golden) _ c.args.encoder.now c.put_flag.new.encoder _ c.in_ok-put_flag.ensures.all
    (some_then (flag_pairs c.args.refreshing.now.alt) _ c.put_flag.new.encoder _ c.in_err-put_flag-2.ensures.some))

pub returns-in_err-put_literal_when-clause-some : goal.returns-in_err-put_literal_when-clause-some
unfolding inter_refreshing_pairs
returns-in_err-put_literal_when-clause-some c =
    refused _ (then_some (flag_pairs c.args.refreshing.now.golden) _ c.args.encoder.now c.put_flag.new.encoder _ c.in_ok-put_flag.ensures.all
    (then_some (flag_pairs c.args.refreshing.now.alt) _ c.put_flag.new.encoder c.put_flag-2.new.encoder _ c.in_ok-put_flag-2.ensures.all
    (some_then (pairs_when (not c.args.refreshing.now.golden) (literal_pairs 2 c.args.refreshing.now.copy_golden)) _ c.put_flag-2.new.encoder _ c.in_err-put_literal_when.ensures.some)))

pub returns-in_err-put_literal_when-2-clause-some : goal.returns-in_err-put_literal_when-2-clause-some
unfolding inter_refreshing_pairs
returns-in_err-put_literal_when-2-clause-some c =
    refused _ (then_some (flag_pairs c.args.refreshing.now.golden) _ c.args.encoder.now c.put_flag.new.encoder _ c.in_ok-put_flag.ensures.all
    (then_some (flag_pairs c.args.refreshing.now.alt) _ c.put_flag.new.encoder c.put_flag-2.new.encoder _ c.in_ok-put_flag-2.ensures.all
    (then_some (pairs_when (not c.args.refreshing.now.golden) (literal_pairs 2 c.args.refreshing.now.copy_golden)) _ c.put_flag-2.new.encoder c.put_literal_when.new.encoder _ c.in_ok-put_literal_when.ensures.all
    (some_then (pairs_when (not c.args.refreshing.now.alt) (literal_pairs 2 c.args.refreshing.now.copy_alt)) _ c.put_literal_when.new.encoder _ c.in_err-put_literal_when-2.ensures.some))))

pub returns-in_err-put_flag-3-clause-some : goal.returns-in_err-put_flag-3-clause-some
unfolding inter_refreshing_pairs
returns-in_err-put_flag-3-clause-some c =
    refused _ (then_some (flag_pairs c.args.refreshing.now.golden) _ c.args.encoder.now c.put_flag.new.encoder _ c.in_ok-put_flag.ensures.all
    (then_some (flag_pairs c.args.refreshing.now.alt) _ c.put_flag.new.encoder c.put_flag-2.new.encoder _ c.in_ok-put_flag-2.ensures.all
    (then_some (pairs_when (not c.args.refreshing.now.golden) (literal_pairs 2 c.args.refreshing.now.copy_golden)) _ c.put_flag-2.new.encoder c.put_literal_when.new.encoder _ c.in_ok-put_literal_when.ensures.all
    (then_some (pairs_when (not c.args.refreshing.now.alt) (literal_pairs 2 c.args.refreshing.now.copy_alt)) _ c.put_literal_when.new.encoder c.put_literal_when-2.new.encoder _ c.in_ok-put_literal_when-2.ensures.all
    (some_then (flag_pairs c.args.refreshing.now.bias_golden) _ c.put_literal_when-2.new.encoder _ c.in_err-put_flag-3.ensures.some)))))

pub returns-in_err-put_flag-4-clause-some : goal.returns-in_err-put_flag-4-clause-some
unfolding inter_refreshing_pairs
returns-in_err-put_flag-4-clause-some c =
    refused _ (then_some (flag_pairs c.args.refreshing.now.golden) _ c.args.encoder.now c.put_flag.new.encoder _ c.in_ok-put_flag.ensures.all
    (then_some (flag_pairs c.args.refreshing.now.alt) _ c.put_flag.new.encoder c.put_flag-2.new.encoder _ c.in_ok-put_flag-2.ensures.all
    (then_some (pairs_when (not c.args.refreshing.now.golden) (literal_pairs 2 c.args.refreshing.now.copy_golden)) _ c.put_flag-2.new.encoder c.put_literal_when.new.encoder _ c.in_ok-put_literal_when.ensures.all
    (then_some (pairs_when (not c.args.refreshing.now.alt) (literal_pairs 2 c.args.refreshing.now.copy_alt)) _ c.put_literal_when.new.encoder c.put_literal_when-2.new.encoder _ c.in_ok-put_literal_when-2.ensures.all
    (then_some (flag_pairs c.args.refreshing.now.bias_golden) _ c.put_literal_when-2.new.encoder c.put_flag-3.new.encoder _ c.in_ok-put_flag-3.ensures.all
    (some_then (flag_pairs c.args.refreshing.now.bias_alt) _ c.put_flag-3.new.encoder _ c.in_err-put_flag-4.ensures.some))))))

pub returns-in_err-put_flag-5-clause-some : goal.returns-in_err-put_flag-5-clause-some
unfolding inter_refreshing_pairs
returns-in_err-put_flag-5-clause-some c =
    refused _ (then_some (flag_pairs c.args.refreshing.now.golden) _ c.args.encoder.now c.put_flag.new.encoder _ c.in_ok-put_flag.ensures.all
    (then_some (flag_pairs c.args.refreshing.now.alt) _ c.put_flag.new.encoder c.put_flag-2.new.encoder _ c.in_ok-put_flag-2.ensures.all
    (then_some (pairs_when (not c.args.refreshing.now.golden) (literal_pairs 2 c.args.refreshing.now.copy_golden)) _ c.put_flag-2.new.encoder c.put_literal_when.new.encoder _ c.in_ok-put_literal_when.ensures.all
    (then_some (pairs_when (not c.args.refreshing.now.alt) (literal_pairs 2 c.args.refreshing.now.copy_alt)) _ c.put_literal_when.new.encoder c.put_literal_when-2.new.encoder _ c.in_ok-put_literal_when-2.ensures.all
    (then_some (flag_pairs c.args.refreshing.now.bias_golden) _ c.put_literal_when-2.new.encoder c.put_flag-3.new.encoder _ c.in_ok-put_flag-3.ensures.all
    (then_some (flag_pairs c.args.refreshing.now.bias_alt) _ c.put_flag-3.new.encoder c.put_flag-4.new.encoder _ c.in_ok-put_flag-4.ensures.all
    (some_then (flag_pairs c.args.refreshing.now.entropy) _ c.put_flag-4.new.encoder _ c.in_err-put_flag-5.ensures.some)))))))

pub returns-in_err-put_flag-6-clause-some : goal.returns-in_err-put_flag-6-clause-some
unfolding inter_refreshing_pairs
returns-in_err-put_flag-6-clause-some c =
    refused _ (then_some (flag_pairs c.args.refreshing.now.golden) _ c.args.encoder.now c.put_flag.new.encoder _ c.in_ok-put_flag.ensures.all
    (then_some (flag_pairs c.args.refreshing.now.alt) _ c.put_flag.new.encoder c.put_flag-2.new.encoder _ c.in_ok-put_flag-2.ensures.all
    (then_some (pairs_when (not c.args.refreshing.now.golden) (literal_pairs 2 c.args.refreshing.now.copy_golden)) _ c.put_flag-2.new.encoder c.put_literal_when.new.encoder _ c.in_ok-put_literal_when.ensures.all
    (then_some (pairs_when (not c.args.refreshing.now.alt) (literal_pairs 2 c.args.refreshing.now.copy_alt)) _ c.put_literal_when.new.encoder c.put_literal_when-2.new.encoder _ c.in_ok-put_literal_when-2.ensures.all
    (then_some (flag_pairs c.args.refreshing.now.bias_golden) _ c.put_literal_when-2.new.encoder c.put_flag-3.new.encoder _ c.in_ok-put_flag-3.ensures.all
    (then_some (flag_pairs c.args.refreshing.now.bias_alt) _ c.put_flag-3.new.encoder c.put_flag-4.new.encoder _ c.in_ok-put_flag-4.ensures.all
    (then_some (flag_pairs c.args.refreshing.now.entropy) _ c.put_flag-4.new.encoder c.put_flag-5.new.encoder _ c.in_ok-put_flag-5.ensures.all
    (some_then (flag_pairs c.args.refreshing.now.last) _ c.put_flag-5.new.encoder _ c.in_err-put_flag-6.ensures.some))))))))

pub returns-clause-all : goal.returns-clause-all
unfolding inter_refreshing_pairs
returns-clause-all c =
    let all = put_then (flag_pairs c.args.refreshing.now.golden) _ c.args.encoder.now c.put_flag.new.encoder _ c.in_ok-put_flag.ensures.all
    (put_then (flag_pairs c.args.refreshing.now.alt) _ c.put_flag.new.encoder c.put_flag-2.new.encoder _ c.in_ok-put_flag-2.ensures.all
    (put_then (pairs_when (not c.args.refreshing.now.golden) (literal_pairs 2 c.args.refreshing.now.copy_golden)) _ c.put_flag-2.new.encoder c.put_literal_when.new.encoder _ c.in_ok-put_literal_when.ensures.all
    (put_then (pairs_when (not c.args.refreshing.now.alt) (literal_pairs 2 c.args.refreshing.now.copy_alt)) _ c.put_literal_when.new.encoder c.put_literal_when-2.new.encoder _ c.in_ok-put_literal_when-2.ensures.all
    (put_then (flag_pairs c.args.refreshing.now.bias_golden) _ c.put_literal_when-2.new.encoder c.put_flag-3.new.encoder _ c.in_ok-put_flag-3.ensures.all
    (put_then (flag_pairs c.args.refreshing.now.bias_alt) _ c.put_flag-3.new.encoder c.put_flag-4.new.encoder _ c.in_ok-put_flag-4.ensures.all
    (put_then (flag_pairs c.args.refreshing.now.entropy) _ c.put_flag-4.new.encoder c.put_flag-5.new.encoder _ c.in_ok-put_flag-5.ensures.all
    (put_then (flag_pairs c.args.refreshing.now.last) _ c.put_flag-5.new.encoder c.put_flag-6.new.encoder _ c.in_ok-put_flag-6.ensures.all
    (put_done c.put_flag-6.new.encoder)))))))) in
    all.puts
