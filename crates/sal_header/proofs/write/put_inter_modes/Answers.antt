use Rattle.sal_bool.specs.Pairs.{literal_pairs, optional_pairs, all_pairs}
use Rattle.sal_header.specs.Written.{vectors_pairs, inter_modes_pairs}
use Rattle.sal_bool.proofs.Putting.{refused, put_then, put_done, some_then, then_some}
use Rattle.sal_header.proofs.write.put_inter_modes.Goals as goal

pub returns-in_err-put_literal-clause-some : goal.returns-in_err-put_literal-clause-some
unfolding inter_modes_pairs
returns-in_err-put_literal-clause-some c =
    refused _ (some_then (literal_pairs 8 c.args.modes.now.intra) _ c.args.encoder.now _ c.in_err-put_literal.ensures.some)

pub returns-in_err-put_literal-2-clause-some : goal.returns-in_err-put_literal-2-clause-some
unfolding inter_modes_pairs
returns-in_err-put_literal-2-clause-some c =
    refused _ (then_some (literal_pairs 8 c.args.modes.now.intra) _ c.args.encoder.now c.put_literal.new.encoder _ c.in_ok-put_literal.ensures.all
    (some_then (literal_pairs 8 c.args.modes.now.last) _ c.put_literal.new.encoder _ c.in_err-put_literal-2.ensures.some))

pub returns-in_err-put_literal-3-clause-some : goal.returns-in_err-put_literal-3-clause-some
unfolding inter_modes_pairs
returns-in_err-put_literal-3-clause-some c =
    refused _ (then_some (literal_pairs 8 c.args.modes.now.intra) _ c.args.encoder.now c.put_literal.new.encoder _ c.in_ok-put_literal.ensures.all
    (then_some (literal_pairs 8 c.args.modes.now.last) _ c.put_literal.new.encoder c.put_literal-2.new.encoder _ c.in_ok-put_literal-2.ensures.all
    (some_then (literal_pairs 8 c.args.modes.now.golden) _ c.put_literal-2.new.encoder _ c.in_err-put_literal-3.ensures.some)))

pub returns-in_err-put_optional_four-clause-some : goal.returns-in_err-put_optional_four-clause-some
unfolding inter_modes_pairs
returns-in_err-put_optional_four-clause-some c =
    refused _ (then_some (literal_pairs 8 c.args.modes.now.intra) _ c.args.encoder.now c.put_literal.new.encoder _ c.in_ok-put_literal.ensures.all
    (then_some (literal_pairs 8 c.args.modes.now.last) _ c.put_literal.new.encoder c.put_literal-2.new.encoder _ c.in_ok-put_literal-2.ensures.all
    (then_some (literal_pairs 8 c.args.modes.now.golden) _ c.put_literal-2.new.encoder c.put_literal-3.new.encoder _ c.in_ok-put_literal-3.ensures.all
    (some_then (optional_pairs 128 (all_pairs (literal_pairs 8)) c.args.modes.now.y) _ c.put_literal-3.new.encoder _ c.in_err-put_optional_four.ensures.some))))

pub returns-in_err-put_optional_three-clause-some : goal.returns-in_err-put_optional_three-clause-some
unfolding inter_modes_pairs
returns-in_err-put_optional_three-clause-some c =
    refused _ (then_some (literal_pairs 8 c.args.modes.now.intra) _ c.args.encoder.now c.put_literal.new.encoder _ c.in_ok-put_literal.ensures.all
    (then_some (literal_pairs 8 c.args.modes.now.last) _ c.put_literal.new.encoder c.put_literal-2.new.encoder _ c.in_ok-put_literal-2.ensures.all
    (then_some (literal_pairs 8 c.args.modes.now.golden) _ c.put_literal-2.new.encoder c.put_literal-3.new.encoder _ c.in_ok-put_literal-3.ensures.all
    (then_some (optional_pairs 128 (all_pairs (literal_pairs 8)) c.args.modes.now.y) _ c.put_literal-3.new.encoder c.put_optional_four.new.encoder _ c.in_ok-put_optional_four.ensures.all
    (some_then (optional_pairs 128 (all_pairs (literal_pairs 8)) c.args.modes.now.chroma) _ c.put_optional_four.new.encoder _ c.in_err-put_optional_three.ensures.some)))))

pub returns-in_err-put_vectors-clause-some : goal.returns-in_err-put_vectors-clause-some
unfolding inter_modes_pairs
returns-in_err-put_vectors-clause-some c =
    refused _ (then_some (literal_pairs 8 c.args.modes.now.intra) _ c.args.encoder.now c.put_literal.new.encoder _ c.in_ok-put_literal.ensures.all
    (then_some (literal_pairs 8 c.args.modes.now.last) _ c.put_literal.new.encoder c.put_literal-2.new.encoder _ c.in_ok-put_literal-2.ensures.all
    (then_some (literal_pairs 8 c.args.modes.now.golden) _ c.put_literal-2.new.encoder c.put_literal-3.new.encoder _ c.in_ok-put_literal-3.ensures.all
    (then_some (optional_pairs 128 (all_pairs (literal_pairs 8)) c.args.modes.now.y) _ c.put_literal-3.new.encoder c.put_optional_four.new.encoder _ c.in_ok-put_optional_four.ensures.all
    (then_some (optional_pairs 128 (all_pairs (literal_pairs 8)) c.args.modes.now.chroma) _ c.put_optional_four.new.encoder c.put_optional_three.new.encoder _ c.in_ok-put_optional_three.ensures.all
    (some_then (vectors_pairs c.args.modes.now.vectors) _ c.put_optional_three.new.encoder _ c.in_err-put_vectors.ensures.some))))))

pub returns-clause-all : goal.returns-clause-all
unfolding inter_modes_pairs
returns-clause-all c =
    let all = put_then (literal_pairs 8 c.args.modes.now.intra) _ c.args.encoder.now c.put_literal.new.encoder _ c.in_ok-put_literal.ensures.all
    (put_then (literal_pairs 8 c.args.modes.now.last) _ c.put_literal.new.encoder c.put_literal-2.new.encoder _ c.in_ok-put_literal-2.ensures.all
    (put_then (literal_pairs 8 c.args.modes.now.golden) _ c.put_literal-2.new.encoder c.put_literal-3.new.encoder _ c.in_ok-put_literal-3.ensures.all
    (put_then (optional_pairs 128 (all_pairs (literal_pairs 8)) c.args.modes.now.y) _ c.put_literal-3.new.encoder c.put_optional_four.new.encoder _ c.in_ok-put_optional_four.ensures.all
    (put_then (optional_pairs 128 (all_pairs (literal_pairs 8)) c.args.modes.now.chroma) _ c.put_optional_four.new.encoder c.put_optional_three.new.encoder _ c.in_ok-put_optional_three.ensures.all
    (put_then (vectors_pairs c.args.modes.now.vectors) _ c.put_optional_three.new.encoder c.put_vectors.new.encoder _ c.in_ok-put_vectors.ensures.all
    (put_done c.put_vectors.new.encoder)))))) in
    all.puts
