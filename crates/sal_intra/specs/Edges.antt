-- The edge samples of a block in a plane that is built so far: 127 above the picture, 129 left of it (RFC 6386, 12.2 and 12.3).
use Rattle.std.specs.Prelude.{ℕ, ◌+◌, ◌-◌, ◌*◌, min, List, not, ◌==◌, ◌||◌, nat_le, if◌then◌else◌, slice_index}
use Rattle.sal_base.specs.Samples.{listed}
use Rattle.sal_intra.specs.declared.edge.LumaEdge.{LumaEdge}
use Rattle.sal_intra.specs.declared.edge.ChromaEdge.{ChromaEdge}
use Rattle.sal_intra.specs.declared.edge.SubEdge.{SubEdge}

abbrev pub sample_at : ℕ → List ℕ → ℕ → ℕ → ℕ
sample_at width samples x y = slice_index samples (y * width + x)

-- beyond the picture's right side the last sample above is repeated
abbrev pub above_at : ℕ → List ℕ → ℕ → ℕ → ℕ
above_at width samples x y = if y == 0 then 127 else sample_at width samples (min x (width - 1)) (y - 1)

abbrev pub left_at : ℕ → List ℕ → ℕ → ℕ → ℕ
left_at width samples x y = if x == 0 then 129 else sample_at width samples (x - 1) y

abbrev pub corner_at : ℕ → List ℕ → ℕ → ℕ → ℕ
corner_at width samples x y = if y == 0 then 127 else (if x == 0 then 129 else sample_at width samples (x - 1) (y - 1))

-- of the macroblock whose first sample is at column x, row y
unfoldable pub luma_edge_of : ℕ → List ℕ → ℕ → ℕ → LumaEdge
luma_edge_of width samples x y =
    record { above = listed 20 (λ i. above_at width samples (x + i) y); left = listed 16 (λ i. left_at width samples x (y + i)); corner = corner_at width samples x y; has_above = not (y == 0); has_left = not (x == 0) }

unfoldable pub chroma_edge_of : ℕ → List ℕ → ℕ → ℕ → ChromaEdge
chroma_edge_of width samples x y =
    record { above = listed 8 (λ i. above_at width samples (x + i) y); left = listed 8 (λ i. left_at width samples x (y + i)); corner = corner_at width samples x y; has_above = not (y == 0); has_left = not (x == 0) }

-- in a macroblock built so far, of the subblock at column x, row y; right of the macroblock all rows see the samples above it
abbrev pub inner_above : LumaEdge → List ℕ → ℕ → ℕ → ℕ
inner_above e built x y = if y == 0 || nat_le 16 x then slice_index e.above x else sample_at 16 built x (y - 1)

abbrev pub inner_left : LumaEdge → List ℕ → ℕ → ℕ → ℕ
inner_left e built x y = if x == 0 then slice_index e.left y else sample_at 16 built (x - 1) y

abbrev pub inner_corner : LumaEdge → List ℕ → ℕ → ℕ → ℕ
inner_corner e built x y =
    if y == 0 then (if x == 0 then e.corner else slice_index e.above (x - 1))
    else (if x == 0 then slice_index e.left (y - 1) else sample_at 16 built (x - 1) (y - 1))

unfoldable pub sub_edge_of : LumaEdge → List ℕ → ℕ → ℕ → SubEdge
sub_edge_of e built x y =
    record { above = listed 8 (λ i. inner_above e built (x + i) y); left = listed 4 (λ i. inner_left e built x (y + i)); corner = inner_corner e built x y }
