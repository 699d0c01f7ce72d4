-- The coefficients of a macroblock of a key frame: its source less its prediction, transformed and quantised. Sections are those of RFC 6386.
use Rattle.std.specs.Prelude.{ℕ, ◌+◌, ◌-◌, ◌*◌, ◌/◌, ◌%◌, nat_lt, ℤ, pos, ◌-ℤ◌, List, [], if◌then◌else◌, replicate, slice_index, slice_index_or, slice_set}
use Rattle.sal_base.specs.Samples.{listed, block_of}
use Rattle.sal_macroblock.specs.declared.mode.MbMode.{MbMode}
use Rattle.sal_macroblock.specs.Macroblocks.{is_b}
use Rattle.sal_intra.specs.declared.edge.LumaEdge.{LumaEdge}
use Rattle.sal_intra.specs.declared.edge.ChromaEdge.{ChromaEdge}
use Rattle.sal_intra.specs.Intra.{whole_sample, luma_edge, chroma_edge}
use Rattle.sal_transform.specs.Factors.{Factors}
use Rattle.sal_transform.specs.Forward.{forward_of, forward_y2_of, quantised}
use Rattle.sal_search.specs.declared.source.MbSource.{MbSource}
use Rattle.sal_search.specs.Subblocks.{subblocks}

-- the sample at this place of block k of a square that many blocks wide
abbrev pub place_in : ℕ → ℕ → ℕ → ℕ
place_in many k i = (4 * (k / many) + i / 4) * (4 * many) + (4 * (k % many) + i % 4)

-- block k of such a square, less its prediction
unfoldable pub block_differences : ℕ → List ℕ → List ℕ → ℕ → List ℤ
block_differences many wanted predicted k =
    listed 16 (λ i. pos (slice_index wanted (place_in many k i)) -ℤ pos (slice_index predicted (place_in many k i)))

-- its values
abbrev pub block_values : ℕ → List ℕ → List ℕ → ℕ → List ℤ
block_values many wanted predicted k = forward_of (block_differences many wanted predicted k)

-- block k of the luma of a macroblock that is predicted as a whole: its first value stands in Y2 (13 and 14.1)
unfoldable pub luma_block : Factors → List ℕ → List ℕ → ℕ → List ℤ
luma_block s wanted predicted k = quantised (slice_set (block_values 4 wanted predicted k) 0 (pos 0)) (pos s.y_dc) (pos s.y_ac)

-- the first values of the luma blocks
abbrev pub first_values : List ℕ → List ℕ → List ℤ
first_values wanted predicted = listed 16 (λ k. slice_index_or (block_values 4 wanted predicted k) 0 (pos 0))

unfoldable pub y2_block : Factors → List ℕ → List ℕ → List ℤ
y2_block s wanted predicted = quantised (forward_y2_of (first_values wanted predicted)) (pos s.y2_dc) (pos s.y2_ac)

-- block k of a chroma plane
unfoldable pub chroma_block : Factors → List ℕ → List ℕ → ℕ → List ℤ
chroma_block s wanted predicted k = quantised (block_values 2 wanted predicted k) (pos s.uv_dc) (pos s.uv_ac)

-- a prediction as a whole
abbrev pub luma_predicted : MbMode → LumaEdge → List ℕ
luma_predicted m e = block_of 16 256 (whole_sample m.y (luma_edge e))

abbrev pub chroma_predicted : MbMode → ChromaEdge → List ℕ
chroma_predicted m e = block_of 8 64 (whole_sample m.chroma (chroma_edge e))

-- luma and Y2 of a macroblock of this source and mode; in mode B those that the search of its subblocks gives, and no Y2 (13)
abbrev pub luma_part : Factors → MbSource → MbMode → LumaEdge → ℕ → List ℤ
luma_part s source m e k =
    if is_b m.y then slice_index_or (subblocks source.y e s 16).coefficients k [] else luma_block s source.y (luma_predicted m e) k

abbrev pub y2_part : Factors → MbSource → MbMode → LumaEdge → List ℤ
y2_part s source m e = if is_b m.y then replicate 16 (pos 0) else y2_block s source.y (luma_predicted m e)

-- block k of a macroblock: sixteen of luma, four of U, four of V, and Y2
unfoldable pub block_coefficients : Factors → MbSource → MbMode → LumaEdge → ChromaEdge → ChromaEdge → ℕ → List ℤ
block_coefficients s source m y u v k =
    if nat_lt k 16 then luma_part s source m y k
    else (if nat_lt k 20 then chroma_block s source.u (chroma_predicted m u) (k - 16)
    else (if nat_lt k 24 then chroma_block s source.v (chroma_predicted m v) (k - 20)
    else y2_part s source m y))

unfoldable pub coefficients_of : Factors → MbSource → MbMode → LumaEdge → ChromaEdge → ChromaEdge → List (List ℤ)
coefficients_of s source m y u v = listed 25 (block_coefficients s source m y u v)
