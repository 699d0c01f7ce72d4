use Rattle.std.proofs.Common.{◌≡◌, ℕ, ◌<◌, ◌/◌, ◌%◌, get_or}
use Rattle.sal_intra.specs.Intra.{whole_sample, chroma_edge}
use Rattle.sal_intra.proofs.whole.predict_chroma.Given as goal

-- the samples so far are those of their places
abbrev pub invariant-loop-k : goal.invariant-loop-k
invariant-loop-k l = (j : ℕ) → j < l.k → get_or l.sample-items j 0 ≡ whole_sample l.mode (chroma_edge l.edge) (j / 8) (j % 8)
