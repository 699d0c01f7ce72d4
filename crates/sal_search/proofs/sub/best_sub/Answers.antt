use Rattle.sal_search.proofs.SubLemmas.{of_ten}
use Rattle.sal_search.proofs.sub.best_sub.Goals as goal

pub returns-clause-candidate : goal.returns-clause-candidate
returns-clause-candidate c =
    of_ten c.args.wanted.now c.args.around.now _ _ _ _ _ _ _ _ _ _ c.of_mode-best.ensures.candidate c.better-best.ensures.candidate c.better-best-2.ensures.candidate c.better-best-3.ensures.candidate
    c.better-best-4.ensures.candidate c.better-best-5.ensures.candidate c.better-best-6.ensures.candidate c.better-best-7.ensures.candidate c.better-best-8.ensures.candidate c.better.ensures.candidate
