use Rattle.std.proofs.Common.{◌≡◌, Ok, rules, arith, ◌∙◌, take, length, length-take-le}
use Rattle.sal_y4m.proofs.HeaderLemmas.{whole_gives, err_is, long_line, ended_line}
use Rattle.sal_y4m.proofs.reader.read_head.Goals as goal

pub returns-in_err-head-in-Whole-clause-told : goal.returns-in_err-head-in-Whole-clause-told
returns-in_err-head-in-Whole-clause-told g c =
    let line = c.in-Whole.ensures.told in
    let long : length (take c.in-Whole.count c.read_line.new.line) ≡ c.in-Whole.count = length-take-le c.in-Whole.count c.read_line.new.line (omega (arith, line.0)) in
    whole_gives _ _ _ _ c.line_head.result c.from_residual.result line.1 (omega (arith, c.read_line.ensures.len, long, line.0)) line.2 (search rules) c.line_head.ensures.value
    (c.in_err-head-in-Whole.was ∙ err_is c.from_residual.result _ c.from_residual.ensures.1)

pub returns-in_ok-head-in-Whole-clause-told : goal.returns-in_ok-head-in-Whole-clause-told
returns-in_ok-head-in-Whole-clause-told g c =
    let line = c.in-Whole.ensures.told in
    let long : length (take c.in-Whole.count c.read_line.new.line) ≡ c.in-Whole.count = length-take-le c.in-Whole.count c.read_line.new.line (omega (arith, line.0)) in
    whole_gives _ _ _ _ c.line_head.result (Ok c.in_ok-head-in-Whole.head) line.1 (omega (arith, c.read_line.ensures.len, long, line.0)) line.2 (search rules) c.line_head.ensures.value
    c.in_ok-head-in-Whole.was

pub returns-then-begins_header-clause-told : goal.returns-then-begins_header-clause-told
returns-then-begins_header-clause-told g c =
    long_line _ _ _ c.read_line.new.line (omega arith) (omega (arith, c.read_line.ensures.len)) c.in-Long.ensures.told (search rules)

pub returns-then-begins_header-2-clause-told : goal.returns-then-begins_header-2-clause-told
returns-then-begins_header-2-clause-told g c =
    let line = c.in-Ended.ensures.told in
    let long : length (take c.in-Ended.count c.read_line.new.line) ≡ c.in-Ended.count = length-take-le c.in-Ended.count c.read_line.new.line (omega (arith, line.0)) in
    ended_line _ _ _ _ _ long (omega (arith, c.read_line.ensures.len, line.0)) line.2.0 line.1 (search rules) c.counted-then-begins_header-2.ensures
