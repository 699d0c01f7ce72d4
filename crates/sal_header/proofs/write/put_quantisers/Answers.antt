use Rattle.std.proofs.Common.{◌∙◌, ap, arith}
use Rattle.sal_bool.specs.Written.{steps}
use Rattle.sal_bool.specs.Pairs.{literal_pairs, flagged_pairs}
use Rattle.sal_header.specs.Written.{quantisers_pairs}
use Rattle.sal_header.proofs.Values.{passed}
use Rattle.sal_bool.proofs.Putting.{refused, put_then, put_done, some_then, then_some, some_same}
use Rattle.sal_header.proofs.write.put_quantisers.Goals as goal

pub returns-in_err-put_literal-clause-some : goal.returns-in_err-put_literal-clause-some
unfolding quantisers_pairs
returns-in_err-put_literal-clause-some c =
    refused _ (some_then (literal_pairs 7 c.args.quantisers.now.y_ac) _ c.args.encoder.now _ c.in_err-put_literal.ensures.some)

pub returns-in_err-put_flagged-clause-some : goal.returns-in_err-put_flagged-clause-some
unfolding quantisers_pairs
returns-in_err-put_flagged-clause-some c =
    refused _ (then_some (literal_pairs 7 c.args.quantisers.now.y_ac) _ c.args.encoder.now c.put_literal.new.encoder _ c.in_ok-put_literal.ensures.all
    (some_then (flagged_pairs 4 c.args.quantisers.now.y_dc) _ c.put_literal.new.encoder _ (some_same _ _ c.put_literal.new.encoder _ (ap (λ v. flagged_pairs 4 v) (passed c.args.quantisers.now.y_dc (record { sfits = omega arith }))) c.in_err-put_flagged.ensures.some)))

pub returns-in_err-put_flagged-2-clause-some : goal.returns-in_err-put_flagged-2-clause-some
unfolding quantisers_pairs
returns-in_err-put_flagged-2-clause-some c =
    refused _ (then_some (literal_pairs 7 c.args.quantisers.now.y_ac) _ c.args.encoder.now c.put_literal.new.encoder _ c.in_ok-put_literal.ensures.all
    (then_some (flagged_pairs 4 c.args.quantisers.now.y_dc) _ c.put_literal.new.encoder c.put_flagged.new.encoder _ (c.in_ok-put_flagged.ensures.all ∙ ap (λ v. steps c.put_literal.new.encoder (flagged_pairs 4 v)) (passed c.args.quantisers.now.y_dc (record { sfits = omega arith })))
    (some_then (flagged_pairs 4 c.args.quantisers.now.y2_dc) _ c.put_flagged.new.encoder _ (some_same _ _ c.put_flagged.new.encoder _ (ap (λ v. flagged_pairs 4 v) (passed c.args.quantisers.now.y2_dc (record { sfits = omega arith }))) c.in_err-put_flagged-2.ensures.some))))

pub returns-in_err-put_flagged-3-clause-some : goal.returns-in_err-put_flagged-3-clause-some
unfolding quantisers_pairs
returns-in_err-put_flagged-3-clause-some c =
    refused _ (then_some (literal_pairs 7 c.args.quantisers.now.y_ac) _ c.args.encoder.now c.put_literal.new.encoder _ c.in_ok-put_literal.ensures.all
    (then_some (flagged_pairs 4 c.args.quantisers.now.y_dc) _ c.put_literal.new.encoder c.put_flagged.new.encoder _ (c.in_ok-put_flagged.ensures.all ∙ ap (λ v. steps c.put_literal.new.encoder (flagged_pairs 4 v)) (passed c.args.quantisers.now.y_dc (record { sfits = omega arith })))
    (then_some (flagged_pairs 4 c.args.quantisers.now.y2_dc) _ c.put_flagged.new.encoder c.put_flagged-2.new.encoder _ (c.in_ok-put_flagged-2.ensures.all ∙ ap (λ v. steps c.put_flagged.new.encoder (flagged_pairs 4 v)) (passed c.args.quantisers.now.y2_dc (record { sfits = omega arith })))
    (some_then (flagged_pairs 4 c.args.quantisers.now.y2_ac) _ c.put_flagged-2.new.encoder _ (some_same _ _ c.put_flagged-2.new.encoder _ (ap (λ v. flagged_pairs 4 v) (passed c.args.quantisers.now.y2_ac (record { sfits = omega arith }))) c.in_err-put_flagged-3.ensures.some)))))

pub returns-in_err-put_flagged-4-clause-some : goal.returns-in_err-put_flagged-4-clause-some
unfolding quantisers_pairs
returns-in_err-put_flagged-4-clause-some c =
    refused _ (then_some (literal_pairs 7 c.args.quantisers.now.y_ac) _ c.args.encoder.now c.put_literal.new.encoder _ c.in_ok-put_literal.ensures.all
    (then_some (flagged_pairs 4 c.args.quantisers.now.y_dc) _ c.put_literal.new.encoder c.put_flagged.new.encoder _ (c.in_ok-put_flagged.ensures.all ∙ ap (λ v. steps c.put_literal.new.encoder (flagged_pairs 4 v)) (passed c.args.quantisers.now.y_dc (record { sfits = omega arith })))
    (then_some (flagged_pairs 4 c.args.quantisers.now.y2_dc) _ c.put_flagged.new.encoder c.put_flagged-2.new.encoder _ (c.in_ok-put_flagged-2.ensures.all ∙ ap (λ v. steps c.put_flagged.new.encoder (flagged_pairs 4 v)) (passed c.args.quantisers.now.y2_dc (record { sfits = omega arith })))
    (then_some (flagged_pairs 4 c.args.quantisers.now.y2_ac) _ c.put_flagged-2.new.encoder c.put_flagged-3.new.encoder _ (c.in_ok-put_flagged-3.ensures.all ∙ ap (λ v. steps c.put_flagged-2.new.encoder (flagged_pairs 4 v)) (passed c.args.quantisers.now.y2_ac (record { sfits = omega arith })))
    (some_then (flagged_pairs 4 c.args.quantisers.now.uv_dc) _ c.put_flagged-3.new.encoder _ (some_same _ _ c.put_flagged-3.new.encoder _ (ap (λ v. flagged_pairs 4 v) (passed c.args.quantisers.now.uv_dc (record { sfits = omega arith }))) c.in_err-put_flagged-4.ensures.some))))))

pub returns-in_err-put_flagged-5-clause-some : goal.returns-in_err-put_flagged-5-clause-some
unfolding quantisers_pairs
returns-in_err-put_flagged-5-clause-some c =
    refused _ (then_some (literal_pairs 7 c.args.quantisers.now.y_ac) _ c.args.encoder.now c.put_literal.new.encoder _ c.in_ok-put_literal.ensures.all
    (then_some (flagged_pairs 4 c.args.quantisers.now.y_dc) _ c.put_literal.new.encoder c.put_flagged.new.encoder _ (c.in_ok-put_flagged.ensures.all ∙ ap (λ v. steps c.put_literal.new.encoder (flagged_pairs 4 v)) (passed c.args.quantisers.now.y_dc (record { sfits = omega arith })))
    (then_some (flagged_pairs 4 c.args.quantisers.now.y2_dc) _ c.put_flagged.new.encoder c.put_flagged-2.new.encoder _ (c.in_ok-put_flagged-2.ensures.all ∙ ap (λ v. steps c.put_flagged.new.encoder (flagged_pairs 4 v)) (passed c.args.quantisers.now.y2_dc (record { sfits = omega arith })))
    (then_some (flagged_pairs 4 c.args.quantisers.now.y2_ac) _ c.put_flagged-2.new.encoder c.put_flagged-3.new.encoder _ (c.in_ok-put_flagged-3.ensures.all ∙ ap (λ v. steps c.put_flagged-2.new.encoder (flagged_pairs 4 v)) (passed c.args.quantisers.now.y2_ac (record { sfits = omega arith })))
    (then_some (flagged_pairs 4 c.args.quantisers.now.uv_dc) _ c.put_flagged-3.new.encoder c.put_flagged-4.new.encoder _ (c.in_ok-put_flagged-4.ensures.all ∙ ap (λ v. steps c.put_flagged-3.new.encoder (flagged_pairs 4 v)) (passed c.args.quantisers.now.uv_dc (record { sfits = omega arith })))
    (some_then (flagged_pairs 4 c.args.quantisers.now.uv_ac) _ c.put_flagged-4.new.encoder _ (some_same _ _ c.put_flagged-4.new.encoder _ (ap (λ v. flagged_pairs 4 v) (passed c.args.quantisers.now.uv_ac (record { sfits = omega arith }))) c.in_err-put_flagged-5.ensures.some)))))))

pub returns-clause-all : goal.returns-clause-all
unfolding quantisers_pairs
returns-clause-all c =
    let all = put_then (literal_pairs 7 c.args.quantisers.now.y_ac) _ c.args.encoder.now c.put_literal.new.encoder _ c.in_ok-put_literal.ensures.all
    (put_then (flagged_pairs 4 c.args.quantisers.now.y_dc) _ c.put_literal.new.encoder c.put_flagged.new.encoder _ (c.in_ok-put_flagged.ensures.all ∙ ap (λ v. steps c.put_literal.new.encoder (flagged_pairs 4 v)) (passed c.args.quantisers.now.y_dc (record { sfits = omega arith })))
    (put_then (flagged_pairs 4 c.args.quantisers.now.y2_dc) _ c.put_flagged.new.encoder c.put_flagged-2.new.encoder _ (c.in_ok-put_flagged-2.ensures.all ∙ ap (λ v. steps c.put_flagged.new.encoder (flagged_pairs 4 v)) (passed c.args.quantisers.now.y2_dc (record { sfits = omega arith })))
    (put_then (flagged_pairs 4 c.args.quantisers.now.y2_ac) _ c.put_flagged-2.new.encoder c.put_flagged-3.new.encoder _ (c.in_ok-put_flagged-3.ensures.all ∙ ap (λ v. steps c.put_flagged-2.new.encoder (flagged_pairs 4 v)) (passed c.args.quantisers.now.y2_ac (record { sfits = omega arith })))
    (put_then (flagged_pairs 4 c.args.quantisers.now.uv_dc) _ c.put_flagged-3.new.encoder c.put_flagged-4.new.encoder _ (c.in_ok-put_flagged-4.ensures.all ∙ ap (λ v. steps c.put_flagged-3.new.encoder (flagged_pairs 4 v)) (passed c.args.quantisers.now.uv_dc (record { sfits = omega arith })))
    (put_then (flagged_pairs 4 c.args.quantisers.now.uv_ac) _ c.put_flagged-4.new.encoder c.put_flagged-5.new.encoder _ (c.in_ok-put_flagged-5.ensures.all ∙ ap (λ v. steps c.put_flagged-4.new.encoder (flagged_pairs 4 v)) (passed c.args.quantisers.now.uv_ac (record { sfits = omega arith })))
    (put_done c.put_flagged-5.new.encoder)))))) in
    all.puts
