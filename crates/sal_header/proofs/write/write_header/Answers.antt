use Rattle.std.proofs.Common.{◌∙◌, ap}
use Rattle.sal_bool.specs.Bits.{Interval}
use Rattle.sal_bool.specs.Written.{steps}
use Rattle.sal_header.specs.declared.header.Header.{Header}
use Rattle.sal_bool.specs.Pairs.{flag_pairs, literal_pairs, pairs_when}
use Rattle.sal_header.specs.Written.{segments_of, filtering_of, quantisers_of, refreshing_of, modes_of, segments_pairs, filtering_pairs, quantisers_pairs, refreshing_pairs, coefficients_pairs, modes_pairs, header_pairs}
use Rattle.sal_bool.proofs.Putting.{refused, put_then, put_done, some_then, then_some, some_same}
use Rattle.sal_header.proofs.ReadBack.{header_again, header_read}
use Rattle.sal_header.proofs.write.write_header.Goals as goal

pub returns-in_err-put_flag_when-clause-some : goal.returns-in_err-put_flag_when-clause-some
unfolding header_pairs
returns-in_err-put_flag_when-clause-some c =
    refused _ (some_then (pairs_when c.args.header.now.key (flag_pairs c.args.header.now.colour)) _ c.args.encoder.now _ c.in_err-put_flag_when.ensures.some)

pub returns-in_err-put_flag_when-2-clause-some : goal.returns-in_err-put_flag_when-2-clause-some
unfolding header_pairs
returns-in_err-put_flag_when-2-clause-some c =
    refused _ (then_some (pairs_when c.args.header.now.key (flag_pairs c.args.header.now.colour)) _ c.args.encoder.now c.put_flag_when.new.encoder _ c.in_ok-put_flag_when.ensures.all
    (some_then (pairs_when c.args.header.now.key (flag_pairs c.args.header.now.clamping)) _ c.put_flag_when.new.encoder _ c.in_err-put_flag_when-2.ensures.some))

pub returns-in_err-put_segments-clause-some : goal.returns-in_err-put_segments-clause-some
unfolding header_pairs
returns-in_err-put_segments-clause-some c =
    refused _ (then_some (pairs_when c.args.header.now.key (flag_pairs c.args.header.now.colour)) _ c.args.encoder.now c.put_flag_when.new.encoder _ c.in_ok-put_flag_when.ensures.all
    (then_some (pairs_when c.args.header.now.key (flag_pairs c.args.header.now.clamping)) _ c.put_flag_when.new.encoder c.put_flag_when-2.new.encoder _ c.in_ok-put_flag_when-2.ensures.all
    (some_then (segments_pairs (segments_of c.args.header.now)) _ c.put_flag_when-2.new.encoder _ (some_same _ _ c.put_flag_when-2.new.encoder _ (ap (λ v. segments_pairs v) c.segments_of.ensures) c.in_err-put_segments.ensures.some))))

pub returns-in_err-put_filtering-clause-some : goal.returns-in_err-put_filtering-clause-some
unfolding header_pairs
returns-in_err-put_filtering-clause-some c =
    refused _ (then_some (pairs_when c.args.header.now.key (flag_pairs c.args.header.now.colour)) _ c.args.encoder.now c.put_flag_when.new.encoder _ c.in_ok-put_flag_when.ensures.all
    (then_some (pairs_when c.args.header.now.key (flag_pairs c.args.header.now.clamping)) _ c.put_flag_when.new.encoder c.put_flag_when-2.new.encoder _ c.in_ok-put_flag_when-2.ensures.all
    (then_some (segments_pairs (segments_of c.args.header.now)) _ c.put_flag_when-2.new.encoder c.put_segments.new.encoder _ (c.in_ok-put_segments.ensures.all ∙ ap (λ v. steps c.put_flag_when-2.new.encoder (segments_pairs v)) c.segments_of.ensures)
    (some_then (filtering_pairs (filtering_of c.args.header.now)) _ c.put_segments.new.encoder _ (some_same _ _ c.put_segments.new.encoder _ (ap (λ v. filtering_pairs v) c.filtering_of.ensures) c.in_err-put_filtering.ensures.some)))))

pub returns-in_err-put_literal-clause-some : goal.returns-in_err-put_literal-clause-some
unfolding header_pairs
returns-in_err-put_literal-clause-some c =
    refused _ (then_some (pairs_when c.args.header.now.key (flag_pairs c.args.header.now.colour)) _ c.args.encoder.now c.put_flag_when.new.encoder _ c.in_ok-put_flag_when.ensures.all
    (then_some (pairs_when c.args.header.now.key (flag_pairs c.args.header.now.clamping)) _ c.put_flag_when.new.encoder c.put_flag_when-2.new.encoder _ c.in_ok-put_flag_when-2.ensures.all
    (then_some (segments_pairs (segments_of c.args.header.now)) _ c.put_flag_when-2.new.encoder c.put_segments.new.encoder _ (c.in_ok-put_segments.ensures.all ∙ ap (λ v. steps c.put_flag_when-2.new.encoder (segments_pairs v)) c.segments_of.ensures)
    (then_some (filtering_pairs (filtering_of c.args.header.now)) _ c.put_segments.new.encoder c.put_filtering.new.encoder _ (c.in_ok-put_filtering.ensures.all ∙ ap (λ v. steps c.put_segments.new.encoder (filtering_pairs v)) c.filtering_of.ensures)
    (some_then (literal_pairs 2 c.args.header.now.log2) _ c.put_filtering.new.encoder _ c.in_err-put_literal.ensures.some)))))

pub returns-in_err-put_quantisers-clause-some : goal.returns-in_err-put_quantisers-clause-some
unfolding header_pairs
returns-in_err-put_quantisers-clause-some c =
    refused _ (then_some (pairs_when c.args.header.now.key (flag_pairs c.args.header.now.colour)) _ c.args.encoder.now c.put_flag_when.new.encoder _ c.in_ok-put_flag_when.ensures.all
    (then_some (pairs_when c.args.header.now.key (flag_pairs c.args.header.now.clamping)) _ c.put_flag_when.new.encoder c.put_flag_when-2.new.encoder _ c.in_ok-put_flag_when-2.ensures.all
    (then_some (segments_pairs (segments_of c.args.header.now)) _ c.put_flag_when-2.new.encoder c.put_segments.new.encoder _ (c.in_ok-put_segments.ensures.all ∙ ap (λ v. steps c.put_flag_when-2.new.encoder (segments_pairs v)) c.segments_of.ensures)
    (then_some (filtering_pairs (filtering_of c.args.header.now)) _ c.put_segments.new.encoder c.put_filtering.new.encoder _ (c.in_ok-put_filtering.ensures.all ∙ ap (λ v. steps c.put_segments.new.encoder (filtering_pairs v)) c.filtering_of.ensures)
    (then_some (literal_pairs 2 c.args.header.now.log2) _ c.put_filtering.new.encoder c.put_literal.new.encoder _ c.in_ok-put_literal.ensures.all
    (some_then (quantisers_pairs (quantisers_of c.args.header.now)) _ c.put_literal.new.encoder _ (some_same _ _ c.put_literal.new.encoder _ (ap (λ v. quantisers_pairs v) c.quantisers_of.ensures) c.in_err-put_quantisers.ensures.some)))))))

pub returns-in_err-put_refreshing-clause-some : goal.returns-in_err-put_refreshing-clause-some
unfolding header_pairs
returns-in_err-put_refreshing-clause-some c =
    refused _ (then_some (pairs_when c.args.header.now.key (flag_pairs c.args.header.now.colour)) _ c.args.encoder.now c.put_flag_when.new.encoder _ c.in_ok-put_flag_when.ensures.all
    (then_some (pairs_when c.args.header.now.key (flag_pairs c.args.header.now.clamping)) _ c.put_flag_when.new.encoder c.put_flag_when-2.new.encoder _ c.in_ok-put_flag_when-2.ensures.all
    (then_some (segments_pairs (segments_of c.args.header.now)) _ c.put_flag_when-2.new.encoder c.put_segments.new.encoder _ (c.in_ok-put_segments.ensures.all ∙ ap (λ v. steps c.put_flag_when-2.new.encoder (segments_pairs v)) c.segments_of.ensures)
    (then_some (filtering_pairs (filtering_of c.args.header.now)) _ c.put_segments.new.encoder c.put_filtering.new.encoder _ (c.in_ok-put_filtering.ensures.all ∙ ap (λ v. steps c.put_segments.new.encoder (filtering_pairs v)) c.filtering_of.ensures)
    (then_some (literal_pairs 2 c.args.header.now.log2) _ c.put_filtering.new.encoder c.put_literal.new.encoder _ c.in_ok-put_literal.ensures.all
    (then_some (quantisers_pairs (quantisers_of c.args.header.now)) _ c.put_literal.new.encoder c.put_quantisers.new.encoder _ (c.in_ok-put_quantisers.ensures.all ∙ ap (λ v. steps c.put_literal.new.encoder (quantisers_pairs v)) c.quantisers_of.ensures)
    (some_then (refreshing_pairs c.args.header.now.key (refreshing_of c.args.header.now)) _ c.put_quantisers.new.encoder _ (some_same _ _ c.put_quantisers.new.encoder _ (ap (λ v. refreshing_pairs c.args.header.now.key v) c.refreshing_of.ensures) c.in_err-put_refreshing.ensures.some))))))))

pub returns-in_err-put_coefficients-clause-some : goal.returns-in_err-put_coefficients-clause-some
unfolding header_pairs
returns-in_err-put_coefficients-clause-some c =
    refused _ (then_some (pairs_when c.args.header.now.key (flag_pairs c.args.header.now.colour)) _ c.args.encoder.now c.put_flag_when.new.encoder _ c.in_ok-put_flag_when.ensures.all
    (then_some (pairs_when c.args.header.now.key (flag_pairs c.args.header.now.clamping)) _ c.put_flag_when.new.encoder c.put_flag_when-2.new.encoder _ c.in_ok-put_flag_when-2.ensures.all
    (then_some (segments_pairs (segments_of c.args.header.now)) _ c.put_flag_when-2.new.encoder c.put_segments.new.encoder _ (c.in_ok-put_segments.ensures.all ∙ ap (λ v. steps c.put_flag_when-2.new.encoder (segments_pairs v)) c.segments_of.ensures)
    (then_some (filtering_pairs (filtering_of c.args.header.now)) _ c.put_segments.new.encoder c.put_filtering.new.encoder _ (c.in_ok-put_filtering.ensures.all ∙ ap (λ v. steps c.put_segments.new.encoder (filtering_pairs v)) c.filtering_of.ensures)
    (then_some (literal_pairs 2 c.args.header.now.log2) _ c.put_filtering.new.encoder c.put_literal.new.encoder _ c.in_ok-put_literal.ensures.all
    (then_some (quantisers_pairs (quantisers_of c.args.header.now)) _ c.put_literal.new.encoder c.put_quantisers.new.encoder _ (c.in_ok-put_quantisers.ensures.all ∙ ap (λ v. steps c.put_literal.new.encoder (quantisers_pairs v)) c.quantisers_of.ensures)
    (then_some (refreshing_pairs c.args.header.now.key (refreshing_of c.args.header.now)) _ c.put_quantisers.new.encoder c.put_refreshing.new.encoder _ (c.in_ok-put_refreshing.ensures.all ∙ ap (λ v. steps c.put_quantisers.new.encoder (refreshing_pairs c.args.header.now.key v)) c.refreshing_of.ensures)
    (some_then (coefficients_pairs c.args.header.now.updates.coefficients) _ c.put_refreshing.new.encoder _ c.in_err-put_coefficients.ensures.some))))))))

pub returns-in_err-put_modes-clause-some : goal.returns-in_err-put_modes-clause-some
unfolding header_pairs
returns-in_err-put_modes-clause-some c =
    refused _ (then_some (pairs_when c.args.header.now.key (flag_pairs c.args.header.now.colour)) _ c.args.encoder.now c.put_flag_when.new.encoder _ c.in_ok-put_flag_when.ensures.all
    (then_some (pairs_when c.args.header.now.key (flag_pairs c.args.header.now.clamping)) _ c.put_flag_when.new.encoder c.put_flag_when-2.new.encoder _ c.in_ok-put_flag_when-2.ensures.all
    (then_some (segments_pairs (segments_of c.args.header.now)) _ c.put_flag_when-2.new.encoder c.put_segments.new.encoder _ (c.in_ok-put_segments.ensures.all ∙ ap (λ v. steps c.put_flag_when-2.new.encoder (segments_pairs v)) c.segments_of.ensures)
    (then_some (filtering_pairs (filtering_of c.args.header.now)) _ c.put_segments.new.encoder c.put_filtering.new.encoder _ (c.in_ok-put_filtering.ensures.all ∙ ap (λ v. steps c.put_segments.new.encoder (filtering_pairs v)) c.filtering_of.ensures)
    (then_some (literal_pairs 2 c.args.header.now.log2) _ c.put_filtering.new.encoder c.put_literal.new.encoder _ c.in_ok-put_literal.ensures.all
    (then_some (quantisers_pairs (quantisers_of c.args.header.now)) _ c.put_literal.new.encoder c.put_quantisers.new.encoder _ (c.in_ok-put_quantisers.ensures.all ∙ ap (λ v. steps c.put_literal.new.encoder (quantisers_pairs v)) c.quantisers_of.ensures)
    (then_some (refreshing_pairs c.args.header.now.key (refreshing_of c.args.header.now)) _ c.put_quantisers.new.encoder c.put_refreshing.new.encoder _ (c.in_ok-put_refreshing.ensures.all ∙ ap (λ v. steps c.put_quantisers.new.encoder (refreshing_pairs c.args.header.now.key v)) c.refreshing_of.ensures)
    (then_some (coefficients_pairs c.args.header.now.updates.coefficients) _ c.put_refreshing.new.encoder c.put_coefficients.new.encoder _ c.in_ok-put_coefficients.ensures.all
    (some_then (modes_pairs c.args.header.now.key (modes_of c.args.header.now)) _ c.put_coefficients.new.encoder _ c.in_err-put_modes.ensures.some)))))))))

pub returns-clause-pairs : goal.returns-clause-pairs
unfolding header_pairs
returns-clause-pairs c =
    let all = put_then (pairs_when c.args.header.now.key (flag_pairs c.args.header.now.colour)) _ c.args.encoder.now c.put_flag_when.new.encoder _ c.in_ok-put_flag_when.ensures.all
    (put_then (pairs_when c.args.header.now.key (flag_pairs c.args.header.now.clamping)) _ c.put_flag_when.new.encoder c.put_flag_when-2.new.encoder _ c.in_ok-put_flag_when-2.ensures.all
    (put_then (segments_pairs (segments_of c.args.header.now)) _ c.put_flag_when-2.new.encoder c.put_segments.new.encoder _ (c.in_ok-put_segments.ensures.all ∙ ap (λ v. steps c.put_flag_when-2.new.encoder (segments_pairs v)) c.segments_of.ensures)
    (put_then (filtering_pairs (filtering_of c.args.header.now)) _ c.put_segments.new.encoder c.put_filtering.new.encoder _ (c.in_ok-put_filtering.ensures.all ∙ ap (λ v. steps c.put_segments.new.encoder (filtering_pairs v)) c.filtering_of.ensures)
    (put_then (literal_pairs 2 c.args.header.now.log2) _ c.put_filtering.new.encoder c.put_literal.new.encoder _ c.in_ok-put_literal.ensures.all
    (put_then (quantisers_pairs (quantisers_of c.args.header.now)) _ c.put_literal.new.encoder c.put_quantisers.new.encoder _ (c.in_ok-put_quantisers.ensures.all ∙ ap (λ v. steps c.put_literal.new.encoder (quantisers_pairs v)) c.quantisers_of.ensures)
    (put_then (refreshing_pairs c.args.header.now.key (refreshing_of c.args.header.now)) _ c.put_quantisers.new.encoder c.put_refreshing.new.encoder _ (c.in_ok-put_refreshing.ensures.all ∙ ap (λ v. steps c.put_quantisers.new.encoder (refreshing_pairs c.args.header.now.key v)) c.refreshing_of.ensures)
    (put_then (coefficients_pairs c.args.header.now.updates.coefficients) _ c.put_refreshing.new.encoder c.put_coefficients.new.encoder _ c.in_ok-put_coefficients.ensures.all
    (put_then (modes_pairs c.args.header.now.key (modes_of c.args.header.now)) _ c.put_coefficients.new.encoder c.put_modes.new.encoder _ c.in_ok-put_modes.ensures.all
    (put_done c.put_modes.new.encoder))))))))) in
    all.puts

pub returns-clause-follows : goal.returns-clause-follows
returns-clause-follows c = λ kept w. header_again kept c.args.header.now w

pub returns-clause-read_back : goal.returns-clause-read_back
returns-clause-read_back c = λ before more a b e kept w. ap (λ (r : Header × Interval). r.0) (header_read kept c.args.header.now before more _ _ w a b e (returns-clause-pairs c))

pub returns-clause-read_to : goal.returns-clause-read_to
returns-clause-read_to c = λ before more a b e kept w. ap (λ (r : Header × Interval). r.1) (header_read kept c.args.header.now before more _ _ w a b e (returns-clause-pairs c))
