use Rattle.std.proofs.Common.{◌≡◌, ◌<◌, ◌+◌, ◌/◌, ◌%◌, ℕ, get_or}
use Rattle.sal_encode.specs.Source.{nearest}
use Rattle.sal_encode.proofs.source.chroma_square.Given as goal

-- the samples so far are those of their places
abbrev pub invariant-loop-k : goal.invariant-loop-k
invariant-loop-k l = (j : ℕ) → j < l.k → get_or l.sample-items j 0 ≡ nearest l.plane (l.x + j % 8) (l.y + j / 8)
