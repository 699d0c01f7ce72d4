use Rattle.std.proofs.Common.{◌∙◌, ap}
use Rattle.sal_transform.specs.Forward.{part_4, part_16, column_0, column_1, column_2, column_3}
use Rattle.sal_transform.proofs.ForwardLemmas.{kept_15, small_15, small_30, turned_is, turned_back_is, column_small, plus, minus, plus_small, sum_of, difference_of, sum_small, difference_small, fits, first_small, kept_first}
use Rattle.sal_transform.proofs.forward_dct.column_pass.Goals as goal

pub part_4-requires-2 : goal.part_4-requires-2
part_4-requires-2 c =
    let h = c.requires in
    fits _ (difference_small _ _ (plus_small c.args.x0 c.args.x3 h.x0 h.x3) (plus_small c.args.x1 c.args.x2 h.x1 h.x2))

pub part_16-requires-2 : goal.part_16-requires-2
part_16-requires-2 c = small_30 _ c.turned_back.ensures.small

pub returns-clause-y0 : goal.returns-clause-y0
unfolding column_0
returns-clause-y0 c =
    let x = c.args in let h = c.requires in
    let a = plus x.x0 x.x3 h.x0 h.x3 in
    let b = plus x.x1 x.x2 h.x1 h.x2 in
    let left = plus_small x.x0 x.x3 h.x0 h.x3 in
    let right = plus_small x.x1 x.x2 h.x1 h.x2 in
    let small = c.part_4.ensures.small 16320 (sum_small _ _ left right) in
    (kept_15 _ small ∙ (c.part_4.ensures.value ∙ ap part_4 (sum_of _ _ _ _ a b left right)), small_15 _ small)

pub returns-clause-y1 : goal.returns-clause-y1
unfolding column_1
returns-clause-y1 c =
    let x = c.args in let h = c.requires in
    let small = c.part_16.ensures.small 16320 (column_small _ c.turned.ensures.small) in
    (kept_15 _ small ∙ (c.part_16.ensures.value ∙ ap part_16 (turned_is _ _ _ _ _ c.turned.ensures.value (minus x.x1 x.x2 h.x1 h.x2) (minus x.x0 x.x3 h.x0 h.x3) c.turned.ensures.small)), small_15 _ small)

pub returns-clause-y2 : goal.returns-clause-y2
unfolding column_2
returns-clause-y2 c =
    let x = c.args in let h = c.requires in
    let a = plus x.x0 x.x3 h.x0 h.x3 in
    let b = plus x.x1 x.x2 h.x1 h.x2 in
    let left = plus_small x.x0 x.x3 h.x0 h.x3 in
    let right = plus_small x.x1 x.x2 h.x1 h.x2 in
    let small = c.part_4-2.ensures.small 16320 (difference_small _ _ left right) in
    (kept_15 _ small ∙ (c.part_4-2.ensures.value ∙ ap part_4 (difference_of _ _ _ _ a b left right)), small_15 _ small)

pub returns-clause-y3 : goal.returns-clause-y3
unfolding column_3
returns-clause-y3 c =
    let x = c.args in let h = c.requires in
    let small = c.part_16-2.ensures.small 16320 (column_small _ c.turned_back.ensures.small) in
    (kept_15 _ small ∙ (c.part_16-2.ensures.value ∙ ap part_16 (turned_back_is _ _ _ _ _ c.turned_back.ensures.value (minus x.x1 x.x2 h.x1 h.x2) (minus x.x0 x.x3 h.x0 h.x3) c.turned_back.ensures.small)), small_15 _ small)

pub returns-clause-first : goal.returns-clause-first
returns-clause-first c =
    let x = c.args in let h = c.requires in
    λ h0 h1 h2 h3. kept_first _ (c.part_4.ensures.small 2040 (first_small x.x0 x.x1 x.x2 x.x3 _ _ (plus x.x0 x.x3 h.x0 h.x3) (plus x.x1 x.x2 h.x1 h.x2) h0 h1 h2 h3))
