use Rattle.std.proofs.Common.{◌∙◌, ap}
use Rattle.sal_transform.specs.Forward.{part_12, row_0, row_1, row_2, row_3}
use Rattle.sal_transform.proofs.ForwardLemmas.{kept_16, small_16, turned_is, turned_back_is, row_small, eightfold_is, eights_sum, eights_difference, kept_eights, few_eights, row_plus, row_minus, eights_first}
use Rattle.sal_transform.proofs.forward_dct.row_pass.Goals as goal

pub returns-clause-y0 : goal.returns-clause-y0
unfolding row_0
returns-clause-y0 c =
    let x = c.args in let h = c.requires in
    let a = eightfold_is _ _ _ c.eightfold-a.ensures.value (row_plus x.x0 x.x3 h.x0 h.x3) in
    let b = eightfold_is _ _ _ c.eightfold-b.ensures.value (row_plus x.x1 x.x2 h.x1 h.x2) in
    eights_sum _ _ _ _ a b c.eightfold-a.ensures.small c.eightfold-b.ensures.small

pub returns-clause-y1 : goal.returns-clause-y1
unfolding row_1
returns-clause-y1 c =
    let x = c.args in let h = c.requires in
    let inner = kept_eights _ _ (eightfold_is _ _ _ c.eightfold-c.ensures.value (row_minus x.x1 x.x2 h.x1 h.x2)) c.eightfold-c.ensures.small in
    let outer = kept_eights _ _ (eightfold_is _ _ _ c.eightfold-d.ensures.value (row_minus x.x0 x.x3 h.x0 h.x3)) c.eightfold-d.ensures.small in
    let few = c.turned.ensures.smaller (few_eights _ c.eightfold-c.ensures.small) (few_eights _ c.eightfold-d.ensures.small) in
    let small = c.part_12.ensures.small 65280 (row_small _ few) in
    (kept_16 _ small ∙ (c.part_12.ensures.value ∙ ap part_12 (turned_is _ _ _ _ _ c.turned.ensures.value inner outer c.turned.ensures.small)), small_16 _ small)

pub returns-clause-y2 : goal.returns-clause-y2
unfolding row_2
returns-clause-y2 c =
    let x = c.args in let h = c.requires in
    let a = eightfold_is _ _ _ c.eightfold-a.ensures.value (row_plus x.x0 x.x3 h.x0 h.x3) in
    let b = eightfold_is _ _ _ c.eightfold-b.ensures.value (row_plus x.x1 x.x2 h.x1 h.x2) in
    eights_difference _ _ _ _ a b c.eightfold-a.ensures.small c.eightfold-b.ensures.small

pub returns-clause-y3 : goal.returns-clause-y3
unfolding row_3
returns-clause-y3 c =
    let x = c.args in let h = c.requires in
    let inner = kept_eights _ _ (eightfold_is _ _ _ c.eightfold-c.ensures.value (row_minus x.x1 x.x2 h.x1 h.x2)) c.eightfold-c.ensures.small in
    let outer = kept_eights _ _ (eightfold_is _ _ _ c.eightfold-d.ensures.value (row_minus x.x0 x.x3 h.x0 h.x3)) c.eightfold-d.ensures.small in
    let few = c.turned_back.ensures.smaller (few_eights _ c.eightfold-c.ensures.small) (few_eights _ c.eightfold-d.ensures.small) in
    let small = c.part_12-2.ensures.small 65280 (row_small _ few) in
    (kept_16 _ small ∙ (c.part_12-2.ensures.value ∙ ap part_12 (turned_back_is _ _ _ _ _ c.turned_back.ensures.value inner outer c.turned_back.ensures.small)), small_16 _ small)

pub returns-clause-first : goal.returns-clause-first
returns-clause-first c =
    let x = c.args in let h = c.requires in
    λ h0 h1 h2 h3. (let a = eightfold_is _ _ _ c.eightfold-a.ensures.value (row_plus x.x0 x.x3 h.x0 h.x3) in
    let b = eightfold_is _ _ _ c.eightfold-b.ensures.value (row_plus x.x1 x.x2 h.x1 h.x2) in
    eights_first _ _ _ _ _ _ a b h0 h1 h2 h3)
