use Rattle.std.proofs.Common.{ap}
use Rattle.sal_base.specs.declared.kinds.YMode.{YMode}
use Rattle.sal_search.specs.Costs.{Candidate}
use Rattle.sal_search.specs.Search.{best_chroma_of}
use Rattle.sal_search.proofs.SubLemmas.{of_four, compared}
use Rattle.sal_search.proofs.whole.best_chroma.Goals as goal

pub returns : goal.returns
unfolding best_chroma_of
returns c =
    ap (λ (t : Candidate YMode). t.choice)
    (of_four _ _ _ _ _ _ _ _ c.chroma-best.ensures.candidate
    (compared _ _ _ _ c.lesser-best.ensures c.chroma.ensures.candidate) (compared _ _ _ _ c.lesser-best-2.ensures c.chroma-2.ensures.candidate) (compared _ _ _ _ c.lesser.ensures c.chroma-3.ensures.candidate))
