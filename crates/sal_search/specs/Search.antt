-- The modes of an intra macroblock: the first candidates of least cost.
use Rattle.std.specs.Prelude.{ℕ, ◌+◌, ◌*◌, pos, [], ◌∷◌, replicate}
use Rattle.sal_base.specs.Samples.{block_of}
use Rattle.sal_base.specs.declared.kinds.YMode.{YMode}
use Rattle.sal_base.specs.declared.kinds.YMode.TheVariants.{DC, V, H, TM, B}
use Rattle.sal_macroblock.specs.declared.mode.MbMode.{MbMode}
use Rattle.sal_macroblock.specs.Macroblocks.{outside, implied}
use Rattle.sal_intra.specs.declared.edge.LumaEdge.{LumaEdge}
use Rattle.sal_intra.specs.declared.edge.ChromaEdge.{ChromaEdge}
use Rattle.sal_intra.specs.Intra.{whole_sample, luma_edge, chroma_edge}
use Rattle.sal_transform.specs.Factors.{Factors, factors_of}
use Rattle.sal_search.specs.declared.source.MbSource.{MbSource}
use Rattle.sal_search.specs.declared.subblocks.Subblocks.{Subblocks}
use Rattle.sal_search.specs.Costs.{sad, Candidate, candidate, first_least}
use Rattle.sal_search.specs.Subblocks.{subblocks}

-- the factors of a quantiser's index without deltas
abbrev pub plain_factors : ℕ → Factors
plain_factors q = factors_of q (pos 0) (pos 0) (pos 0) (pos 0) (pos 0)

-- a macroblock in a mode that takes it as a whole, and in mode B
abbrev pub whole : YMode → MbMode
whole m = record outside { y = m; sub = replicate 16 (implied m) }

abbrev pub in_parts : Subblocks → MbMode
in_parts s = record outside { y = B; sub = s.modes }

-- a mode with its sum of differences
abbrev pub whole_candidate : MbSource → LumaEdge → YMode → Candidate YMode
whole_candidate source e m = candidate m (sad source.y (block_of 16 256 (whole_sample m (luma_edge e))))

abbrev pub best_whole : MbSource → LumaEdge → Candidate YMode
best_whole source e =
    let of_mode = whole_candidate source e in
    first_least (of_mode DC) (of_mode V ∷ of_mode H ∷ of_mode TM ∷ [])

-- the same of a macroblock
abbrev pub of_whole : Candidate YMode → Candidate MbMode
of_whole c = candidate (whole c.choice) c.cost

abbrev pub of_parts : ℕ → Subblocks → Candidate MbMode
of_parts q s = candidate (in_parts s) (s.cost + 64 + 4 * q)

-- all candidates of a macroblock at a quantiser's index: DC, V, H and TM cost their differences, B those of its subblocks, 64 and 4 * q
unfoldable pub best_intra_of : MbSource → LumaEdge → ℕ → Candidate MbMode
best_intra_of source e q =
    let of_mode = λ (m : YMode). of_whole (whole_candidate source e m) in
    first_least (of_mode DC) (of_mode V ∷ of_mode H ∷ of_mode TM ∷ of_parts q (subblocks source.y e (plain_factors q) 16) ∷ [])

-- a chroma mode with the sum of differences in both planes
abbrev pub chroma_candidate : MbSource → ChromaEdge → ChromaEdge → YMode → Candidate YMode
chroma_candidate source u v m =
    candidate m (sad source.u (block_of 8 64 (whole_sample m (chroma_edge u))) + sad source.v (block_of 8 64 (whole_sample m (chroma_edge v))))

unfoldable pub best_chroma_of : MbSource → ChromaEdge → ChromaEdge → Candidate YMode
best_chroma_of source u v =
    let of_mode = chroma_candidate source u v in
    first_least (of_mode DC) (of_mode V ∷ of_mode H ∷ of_mode TM ∷ [])
