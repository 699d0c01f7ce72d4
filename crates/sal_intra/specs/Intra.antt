-- The predicted sample of a whole block at one place (RFC 6386, 12.2 and 12.3).
use Rattle.std.specs.Prelude.{ℕ, ◌+◌, ◌-◌, ◌*◌, ◌/◌, min, List, Bool, if◌then◌else◌, sum, take, slice_index}
use Rattle.sal_base.specs.declared.kinds.YMode.{YMode}
use Rattle.sal_base.specs.declared.kinds.YMode.TheVariants.{DC, V, H, TM}
use Rattle.sal_intra.specs.declared.edge.LumaEdge.{LumaEdge}
use Rattle.sal_intra.specs.declared.edge.ChromaEdge.{ChromaEdge}

-- left + above - corner, cut off at 0 and at 255
abbrev pub true_motion : ℕ → ℕ → ℕ → ℕ
true_motion left above corner = min 255 ((left + above) - corner)

-- an average, rounded half up
abbrev pub average : ℕ → ℕ → ℕ
average total count = (total + count / 2) / count

-- the average of the edges that are in the picture; 128 where there is none
abbrev pub edge_average : ℕ → List ℕ → List ℕ → Bool → Bool → ℕ
edge_average side above left has_above has_left =
    if has_above
    then (if has_left then average (sum above + sum left) (2 * side) else average (sum above) side)
    else (if has_left then average (sum left) side else 128)

-- what is around a square of this side
pub record Edge : Type 0 where
  pub side : ℕ
  pub above : List ℕ
  pub left : List ℕ
  pub corner : ℕ
  pub has_above : Bool
  pub has_left : Bool

abbrev pub luma_edge : LumaEdge → Edge
luma_edge e = record { side = 16; above = take 16 e.above; left = e.left; corner = e.corner; has_above = e.has_above; has_left = e.has_left }

abbrev pub chroma_edge : ChromaEdge → Edge
chroma_edge e = record { side = 8; above = e.above; left = e.left; corner = e.corner; has_above = e.has_above; has_left = e.has_left }

-- by mode: the average, the sample above in this column, the one left in this row, or both less the corner
abbrev pub by_mode : YMode → ℕ → ℕ → ℕ → ℕ → ℕ
by_mode DC dc above left corner = dc
by_mode V dc above left corner = above
by_mode H dc above left corner = left
by_mode TM dc above left corner = true_motion left above corner
by_mode _ dc above left corner = dc

abbrev pub dc_of : Edge → ℕ
dc_of e = edge_average e.side e.above e.left e.has_above e.has_left

-- the sample at a row and column
abbrev pub whole_sample : YMode → Edge → ℕ → ℕ → ℕ
whole_sample mode e row column = by_mode mode (dc_of e) (slice_index e.above column) (slice_index e.left row) e.corner
