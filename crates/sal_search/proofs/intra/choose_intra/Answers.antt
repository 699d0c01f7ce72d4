use Rattle.std.proofs.Common.{◌∙◌, ap, sym, arith}
use Rattle.sal_macroblock.specs.declared.mode.MbMode.{MbMode}
use Rattle.sal_macroblock.specs.Macroblocks.{is_b}
use Rattle.sal_search.proofs.IntraLemmas.{parts_win, whole_wins, whole_is_not_b}
use Rattle.sal_search.proofs.intra.choose_intra.Goals as goal

pub returns-in-Some-clause-found : goal.returns-in-Some-clause-found
returns-in-Some-clause-found c =
    parts_win c.args.source.now c.args.edge.now _ c.args.q _ _ _ _ _ _ _ c.best_whole-best.ensures.candidate c.new-factors.ensures (omega (arith, c.from.ensures)) c.saturating_sub-limit.ensures c.in-Some.is c.subblocks_below.ensures.value c.in_parts-mode.ensures

pub returns-in-None-clause-found : goal.returns-in-None-clause-found
returns-in-None-clause-found c =
    whole_wins c.args.source.now c.args.edge.now _ c.args.q _ _ _ _ _ _ c.best_whole-best.ensures.candidate c.new-factors.ensures (omega (arith, c.from.ensures)) c.saturating_sub-limit.ensures c.in-None.is c.subblocks_below.ensures.value c.whole-mode.ensures

pub returns-in-None-clause-told : goal.returns-in-None-clause-told
returns-in-None-clause-told c = whole_is_not_b c.best_whole-best.result.mode c.best_whole-best.ensures.whole ∙ ap (λ (m : MbMode). is_b m.y) (sym c.whole-mode.ensures)
