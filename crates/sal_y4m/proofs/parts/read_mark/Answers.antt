use Rattle.std.proofs.Common.{◌≡◌, rules, arith, take, length, length-take-le}
use Rattle.sal_y4m.proofs.PictureLemmas.{other_line, long_mark, ended_mark}
use Rattle.sal_y4m.proofs.parts.read_mark.Goals as goal

pub returns-else-is_mark-clause-told : goal.returns-else-is_mark-clause-told
returns-else-is_mark-clause-told g c =
    let line = c.in-Whole.ensures.told in
    let long : length (take c.in-Whole.count c.read_line.new.line) ≡ c.in-Whole.count = length-take-le c.in-Whole.count c.read_line.new.line (omega (arith, line.0)) in
    other_line _ _ _ _ (omega arith) line.1 (omega (arith, c.read_line.ensures.len, long, line.0)) line.2 (search rules)

pub returns-in-Long-clause-told : goal.returns-in-Long-clause-told
returns-in-Long-clause-told g c = long_mark _ _ _ c.read_line.new.line (omega arith) (omega (arith, c.read_line.ensures.len)) c.in-Long.ensures.told

pub returns-in-Ended-clause-told : goal.returns-in-Ended-clause-told
returns-in-Ended-clause-told g c =
    let line = c.in-Ended.ensures.told in
    let long : length (take c.in-Ended.count c.read_line.new.line) ≡ c.in-Ended.count = length-take-le c.in-Ended.count c.read_line.new.line (omega (arith, line.0)) in
    ended_mark _ c.in-Ended.count _ _ _ (omega arith) long (omega (arith, c.read_line.ensures.len, line.0)) line.2.0 line.1 c.counted-in-Ended.ensures
