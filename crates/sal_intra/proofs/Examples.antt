-- Predicted blocks, computed; the values are an independent program's.
use Rattle.std.proofs.Common.{◌≡◌, ℕ, List, [], ◌∷◌, true, false, refl}
use Rattle.sal_base.specs.Samples.{block_of, listed_from}
use Rattle.sal_base.specs.declared.kinds.SubMode.TheVariants.{BDC, BTM, BVE, BHE, BLD, BRD, BVR, BVL, BHD, BHU}
use Rattle.sal_base.specs.declared.kinds.YMode.{YMode}
use Rattle.sal_base.specs.declared.kinds.YMode.TheVariants.{DC, V, H, TM}
use Rattle.sal_intra.specs.declared.edge.SubEdge.{SubEdge}
use Rattle.sal_intra.specs.declared.edge.LumaEdge.{LumaEdge}
use Rattle.sal_intra.specs.declared.edge.ChromaEdge.{ChromaEdge}
use Rattle.sal_intra.specs.Sub.{sub_sample, right_rows, left_rows, down_rows, up_rows}
use Rattle.sal_intra.specs.Intra.{whole_sample, luma_edge, chroma_edge}

around : SubEdge
around = record { above = 11 ∷ 200 ∷ 37 ∷ 90 ∷ 151 ∷ 62 ∷ 243 ∷ 5 ∷ []; left = 73 ∷ 140 ∷ 9 ∷ 222 ∷ []; corner = 101 }

bdc : block_of 4 16 (sub_sample BDC around) ≡ 98 ∷ 98 ∷ 98 ∷ 98 ∷ 98 ∷ 98 ∷ 98 ∷ 98 ∷ 98 ∷ 98 ∷ 98 ∷ 98 ∷ 98 ∷ 98 ∷ 98 ∷ 98 ∷ []
unfolding around sub_sample listed_from right_rows left_rows down_rows up_rows
bdc = refl

btm : block_of 4 16 (sub_sample BTM around) ≡ 0 ∷ 172 ∷ 9 ∷ 62 ∷ 50 ∷ 239 ∷ 76 ∷ 129 ∷ 0 ∷ 108 ∷ 0 ∷ 0 ∷ 132 ∷ 255 ∷ 158 ∷ 211 ∷ []
unfolding around sub_sample listed_from right_rows left_rows down_rows up_rows
btm = refl

bve : block_of 4 16 (sub_sample BVE around) ≡ 81 ∷ 112 ∷ 91 ∷ 92 ∷ 81 ∷ 112 ∷ 91 ∷ 92 ∷ 81 ∷ 112 ∷ 91 ∷ 92 ∷ 81 ∷ 112 ∷ 91 ∷ 92 ∷ []
unfolding around sub_sample listed_from right_rows left_rows down_rows up_rows
bve = refl

bhe : block_of 4 16 (sub_sample BHE around) ≡ 97 ∷ 97 ∷ 97 ∷ 97 ∷ 91 ∷ 91 ∷ 91 ∷ 91 ∷ 95 ∷ 95 ∷ 95 ∷ 95 ∷ 169 ∷ 169 ∷ 169 ∷ 169 ∷ []
unfolding around sub_sample listed_from right_rows left_rows down_rows up_rows
bhe = refl

bld : block_of 4 16 (sub_sample BLD around) ≡ 112 ∷ 91 ∷ 92 ∷ 114 ∷ 91 ∷ 92 ∷ 114 ∷ 130 ∷ 92 ∷ 114 ∷ 130 ∷ 138 ∷ 114 ∷ 130 ∷ 138 ∷ 65 ∷ []
unfolding around sub_sample listed_from right_rows left_rows down_rows up_rows
bld = refl

brd : block_of 4 16 (sub_sample BRD around) ≡ 72 ∷ 81 ∷ 112 ∷ 91 ∷ 97 ∷ 72 ∷ 81 ∷ 112 ∷ 91 ∷ 97 ∷ 72 ∷ 81 ∷ 95 ∷ 91 ∷ 97 ∷ 72 ∷ []
unfolding around sub_sample listed_from right_rows left_rows down_rows up_rows
brd = refl

bvr : block_of 4 16 (sub_sample BVR around) ≡ 56 ∷ 106 ∷ 119 ∷ 64 ∷ 72 ∷ 81 ∷ 112 ∷ 91 ∷ 97 ∷ 56 ∷ 106 ∷ 119 ∷ 91 ∷ 72 ∷ 81 ∷ 112 ∷ []
unfolding around sub_sample listed_from right_rows left_rows down_rows up_rows
bvr = refl

bvl : block_of 4 16 (sub_sample BVL around) ≡ 106 ∷ 119 ∷ 64 ∷ 121 ∷ 112 ∷ 91 ∷ 92 ∷ 114 ∷ 119 ∷ 64 ∷ 121 ∷ 130 ∷ 91 ∷ 92 ∷ 114 ∷ 138 ∷ []
unfolding around sub_sample listed_from right_rows left_rows down_rows up_rows
bvl = refl

bhd : block_of 4 16 (sub_sample BHD around) ≡ 87 ∷ 72 ∷ 81 ∷ 112 ∷ 107 ∷ 97 ∷ 87 ∷ 72 ∷ 75 ∷ 91 ∷ 107 ∷ 97 ∷ 116 ∷ 95 ∷ 75 ∷ 91 ∷ []
unfolding around sub_sample listed_from right_rows left_rows down_rows up_rows
bhd = refl

bhu : block_of 4 16 (sub_sample BHU around) ≡ 107 ∷ 91 ∷ 75 ∷ 95 ∷ 75 ∷ 95 ∷ 116 ∷ 169 ∷ 116 ∷ 169 ∷ 222 ∷ 222 ∷ 222 ∷ 222 ∷ 222 ∷ 222 ∷ []
unfolding around sub_sample listed_from right_rows left_rows down_rows up_rows
bhu = refl

-- five places of a luma macroblock: the first and last of the first row, one inside, the first and last of the last row
some_samples : YMode → LumaEdge → List ℕ
some_samples m e = whole_sample m (luma_edge e) 0 0 ∷ whole_sample m (luma_edge e) 0 15 ∷ whole_sample m (luma_edge e) 7 3 ∷ whole_sample m (luma_edge e) 15 0 ∷ whole_sample m (luma_edge e) 15 15 ∷ []

chroma_corner : ChromaEdge
chroma_corner = record { above = 127 ∷ 127 ∷ 127 ∷ 127 ∷ 127 ∷ 127 ∷ 127 ∷ 127 ∷ []; left = 129 ∷ 129 ∷ 129 ∷ 129 ∷ 129 ∷ 129 ∷ 129 ∷ 129 ∷ []; corner = 127; has_above = false; has_left = false }

luma_corner : LumaEdge
luma_corner = record { above = 127 ∷ 127 ∷ 127 ∷ 127 ∷ 127 ∷ 127 ∷ 127 ∷ 127 ∷ 127 ∷ 127 ∷ 127 ∷ 127 ∷ 127 ∷ 127 ∷ 127 ∷ 127 ∷ 127 ∷ 127 ∷ 127 ∷ 127 ∷ []; left = 129 ∷ 129 ∷ 129 ∷ 129 ∷ 129 ∷ 129 ∷ 129 ∷ 129 ∷ 129 ∷ 129 ∷ 129 ∷ 129 ∷ 129 ∷ 129 ∷ 129 ∷ 129 ∷ []; corner = 127; has_above = false; has_left = false }

chroma_corner_dc : block_of 8 64 (whole_sample DC (chroma_edge chroma_corner)) ≡ 128 ∷ 128 ∷ 128 ∷ 128 ∷ 128 ∷ 128 ∷ 128 ∷ 128 ∷ 128 ∷ 128 ∷ 128 ∷ 128 ∷ 128 ∷ 128 ∷ 128 ∷ 128 ∷ 128 ∷ 128 ∷ 128 ∷ 128 ∷ 128 ∷ 128 ∷ 128 ∷ 128 ∷ 128 ∷ 128 ∷ 128 ∷ 128 ∷ 128 ∷ 128 ∷ 128 ∷ 128 ∷ 128 ∷ 128 ∷ 128 ∷ 128 ∷ 128 ∷ 128 ∷ 128 ∷ 128 ∷ 128 ∷ 128 ∷ 128 ∷ 128 ∷ 128 ∷ 128 ∷ 128 ∷ 128 ∷ 128 ∷ 128 ∷ 128 ∷ 128 ∷ 128 ∷ 128 ∷ 128 ∷ 128 ∷ 128 ∷ 128 ∷ 128 ∷ 128 ∷ 128 ∷ 128 ∷ 128 ∷ 128 ∷ []
unfolding chroma_corner listed_from
chroma_corner_dc = refl

luma_corner_dc : some_samples DC luma_corner ≡ 128 ∷ 128 ∷ 128 ∷ 128 ∷ 128 ∷ []
unfolding some_samples luma_corner
luma_corner_dc = refl

chroma_corner_v : block_of 8 64 (whole_sample V (chroma_edge chroma_corner)) ≡ 127 ∷ 127 ∷ 127 ∷ 127 ∷ 127 ∷ 127 ∷ 127 ∷ 127 ∷ 127 ∷ 127 ∷ 127 ∷ 127 ∷ 127 ∷ 127 ∷ 127 ∷ 127 ∷ 127 ∷ 127 ∷ 127 ∷ 127 ∷ 127 ∷ 127 ∷ 127 ∷ 127 ∷ 127 ∷ 127 ∷ 127 ∷ 127 ∷ 127 ∷ 127 ∷ 127 ∷ 127 ∷ 127 ∷ 127 ∷ 127 ∷ 127 ∷ 127 ∷ 127 ∷ 127 ∷ 127 ∷ 127 ∷ 127 ∷ 127 ∷ 127 ∷ 127 ∷ 127 ∷ 127 ∷ 127 ∷ 127 ∷ 127 ∷ 127 ∷ 127 ∷ 127 ∷ 127 ∷ 127 ∷ 127 ∷ 127 ∷ 127 ∷ 127 ∷ 127 ∷ 127 ∷ 127 ∷ 127 ∷ 127 ∷ []
unfolding chroma_corner listed_from
chroma_corner_v = refl

luma_corner_v : some_samples V luma_corner ≡ 127 ∷ 127 ∷ 127 ∷ 127 ∷ 127 ∷ []
unfolding some_samples luma_corner
luma_corner_v = refl

chroma_corner_h : block_of 8 64 (whole_sample H (chroma_edge chroma_corner)) ≡ 129 ∷ 129 ∷ 129 ∷ 129 ∷ 129 ∷ 129 ∷ 129 ∷ 129 ∷ 129 ∷ 129 ∷ 129 ∷ 129 ∷ 129 ∷ 129 ∷ 129 ∷ 129 ∷ 129 ∷ 129 ∷ 129 ∷ 129 ∷ 129 ∷ 129 ∷ 129 ∷ 129 ∷ 129 ∷ 129 ∷ 129 ∷ 129 ∷ 129 ∷ 129 ∷ 129 ∷ 129 ∷ 129 ∷ 129 ∷ 129 ∷ 129 ∷ 129 ∷ 129 ∷ 129 ∷ 129 ∷ 129 ∷ 129 ∷ 129 ∷ 129 ∷ 129 ∷ 129 ∷ 129 ∷ 129 ∷ 129 ∷ 129 ∷ 129 ∷ 129 ∷ 129 ∷ 129 ∷ 129 ∷ 129 ∷ 129 ∷ 129 ∷ 129 ∷ 129 ∷ 129 ∷ 129 ∷ 129 ∷ 129 ∷ []
unfolding chroma_corner listed_from
chroma_corner_h = refl

luma_corner_h : some_samples H luma_corner ≡ 129 ∷ 129 ∷ 129 ∷ 129 ∷ 129 ∷ []
unfolding some_samples luma_corner
luma_corner_h = refl

chroma_corner_tm : block_of 8 64 (whole_sample TM (chroma_edge chroma_corner)) ≡ 129 ∷ 129 ∷ 129 ∷ 129 ∷ 129 ∷ 129 ∷ 129 ∷ 129 ∷ 129 ∷ 129 ∷ 129 ∷ 129 ∷ 129 ∷ 129 ∷ 129 ∷ 129 ∷ 129 ∷ 129 ∷ 129 ∷ 129 ∷ 129 ∷ 129 ∷ 129 ∷ 129 ∷ 129 ∷ 129 ∷ 129 ∷ 129 ∷ 129 ∷ 129 ∷ 129 ∷ 129 ∷ 129 ∷ 129 ∷ 129 ∷ 129 ∷ 129 ∷ 129 ∷ 129 ∷ 129 ∷ 129 ∷ 129 ∷ 129 ∷ 129 ∷ 129 ∷ 129 ∷ 129 ∷ 129 ∷ 129 ∷ 129 ∷ 129 ∷ 129 ∷ 129 ∷ 129 ∷ 129 ∷ 129 ∷ 129 ∷ 129 ∷ 129 ∷ 129 ∷ 129 ∷ 129 ∷ 129 ∷ 129 ∷ []
unfolding chroma_corner listed_from
chroma_corner_tm = refl

luma_corner_tm : some_samples TM luma_corner ≡ 129 ∷ 129 ∷ 129 ∷ 129 ∷ 129 ∷ []
unfolding some_samples luma_corner
luma_corner_tm = refl

chroma_row : ChromaEdge
chroma_row = record { above = 127 ∷ 127 ∷ 127 ∷ 127 ∷ 127 ∷ 127 ∷ 127 ∷ 127 ∷ []; left = 73 ∷ 140 ∷ 9 ∷ 222 ∷ 1 ∷ 255 ∷ 80 ∷ 81 ∷ []; corner = 127; has_above = false; has_left = true }

luma_row : LumaEdge
luma_row = record { above = 127 ∷ 127 ∷ 127 ∷ 127 ∷ 127 ∷ 127 ∷ 127 ∷ 127 ∷ 127 ∷ 127 ∷ 127 ∷ 127 ∷ 127 ∷ 127 ∷ 127 ∷ 127 ∷ 127 ∷ 127 ∷ 127 ∷ 127 ∷ []; left = 250 ∷ 239 ∷ 228 ∷ 217 ∷ 206 ∷ 195 ∷ 184 ∷ 173 ∷ 162 ∷ 151 ∷ 140 ∷ 129 ∷ 118 ∷ 107 ∷ 96 ∷ 85 ∷ []; corner = 127; has_above = false; has_left = true }

chroma_row_dc : block_of 8 64 (whole_sample DC (chroma_edge chroma_row)) ≡ 108 ∷ 108 ∷ 108 ∷ 108 ∷ 108 ∷ 108 ∷ 108 ∷ 108 ∷ 108 ∷ 108 ∷ 108 ∷ 108 ∷ 108 ∷ 108 ∷ 108 ∷ 108 ∷ 108 ∷ 108 ∷ 108 ∷ 108 ∷ 108 ∷ 108 ∷ 108 ∷ 108 ∷ 108 ∷ 108 ∷ 108 ∷ 108 ∷ 108 ∷ 108 ∷ 108 ∷ 108 ∷ 108 ∷ 108 ∷ 108 ∷ 108 ∷ 108 ∷ 108 ∷ 108 ∷ 108 ∷ 108 ∷ 108 ∷ 108 ∷ 108 ∷ 108 ∷ 108 ∷ 108 ∷ 108 ∷ 108 ∷ 108 ∷ 108 ∷ 108 ∷ 108 ∷ 108 ∷ 108 ∷ 108 ∷ 108 ∷ 108 ∷ 108 ∷ 108 ∷ 108 ∷ 108 ∷ 108 ∷ 108 ∷ []
unfolding chroma_row listed_from
chroma_row_dc = refl

luma_row_dc : some_samples DC luma_row ≡ 168 ∷ 168 ∷ 168 ∷ 168 ∷ 168 ∷ []
unfolding some_samples luma_row
luma_row_dc = refl

chroma_row_v : block_of 8 64 (whole_sample V (chroma_edge chroma_row)) ≡ 127 ∷ 127 ∷ 127 ∷ 127 ∷ 127 ∷ 127 ∷ 127 ∷ 127 ∷ 127 ∷ 127 ∷ 127 ∷ 127 ∷ 127 ∷ 127 ∷ 127 ∷ 127 ∷ 127 ∷ 127 ∷ 127 ∷ 127 ∷ 127 ∷ 127 ∷ 127 ∷ 127 ∷ 127 ∷ 127 ∷ 127 ∷ 127 ∷ 127 ∷ 127 ∷ 127 ∷ 127 ∷ 127 ∷ 127 ∷ 127 ∷ 127 ∷ 127 ∷ 127 ∷ 127 ∷ 127 ∷ 127 ∷ 127 ∷ 127 ∷ 127 ∷ 127 ∷ 127 ∷ 127 ∷ 127 ∷ 127 ∷ 127 ∷ 127 ∷ 127 ∷ 127 ∷ 127 ∷ 127 ∷ 127 ∷ 127 ∷ 127 ∷ 127 ∷ 127 ∷ 127 ∷ 127 ∷ 127 ∷ 127 ∷ []
unfolding chroma_row listed_from
chroma_row_v = refl

luma_row_v : some_samples V luma_row ≡ 127 ∷ 127 ∷ 127 ∷ 127 ∷ 127 ∷ []
unfolding some_samples luma_row
luma_row_v = refl

chroma_row_h : block_of 8 64 (whole_sample H (chroma_edge chroma_row)) ≡ 73 ∷ 73 ∷ 73 ∷ 73 ∷ 73 ∷ 73 ∷ 73 ∷ 73 ∷ 140 ∷ 140 ∷ 140 ∷ 140 ∷ 140 ∷ 140 ∷ 140 ∷ 140 ∷ 9 ∷ 9 ∷ 9 ∷ 9 ∷ 9 ∷ 9 ∷ 9 ∷ 9 ∷ 222 ∷ 222 ∷ 222 ∷ 222 ∷ 222 ∷ 222 ∷ 222 ∷ 222 ∷ 1 ∷ 1 ∷ 1 ∷ 1 ∷ 1 ∷ 1 ∷ 1 ∷ 1 ∷ 255 ∷ 255 ∷ 255 ∷ 255 ∷ 255 ∷ 255 ∷ 255 ∷ 255 ∷ 80 ∷ 80 ∷ 80 ∷ 80 ∷ 80 ∷ 80 ∷ 80 ∷ 80 ∷ 81 ∷ 81 ∷ 81 ∷ 81 ∷ 81 ∷ 81 ∷ 81 ∷ 81 ∷ []
unfolding chroma_row listed_from
chroma_row_h = refl

luma_row_h : some_samples H luma_row ≡ 250 ∷ 250 ∷ 173 ∷ 85 ∷ 85 ∷ []
unfolding some_samples luma_row
luma_row_h = refl

chroma_row_tm : block_of 8 64 (whole_sample TM (chroma_edge chroma_row)) ≡ 73 ∷ 73 ∷ 73 ∷ 73 ∷ 73 ∷ 73 ∷ 73 ∷ 73 ∷ 140 ∷ 140 ∷ 140 ∷ 140 ∷ 140 ∷ 140 ∷ 140 ∷ 140 ∷ 9 ∷ 9 ∷ 9 ∷ 9 ∷ 9 ∷ 9 ∷ 9 ∷ 9 ∷ 222 ∷ 222 ∷ 222 ∷ 222 ∷ 222 ∷ 222 ∷ 222 ∷ 222 ∷ 1 ∷ 1 ∷ 1 ∷ 1 ∷ 1 ∷ 1 ∷ 1 ∷ 1 ∷ 255 ∷ 255 ∷ 255 ∷ 255 ∷ 255 ∷ 255 ∷ 255 ∷ 255 ∷ 80 ∷ 80 ∷ 80 ∷ 80 ∷ 80 ∷ 80 ∷ 80 ∷ 80 ∷ 81 ∷ 81 ∷ 81 ∷ 81 ∷ 81 ∷ 81 ∷ 81 ∷ 81 ∷ []
unfolding chroma_row listed_from
chroma_row_tm = refl

luma_row_tm : some_samples TM luma_row ≡ 250 ∷ 250 ∷ 173 ∷ 85 ∷ 85 ∷ []
unfolding some_samples luma_row
luma_row_tm = refl

chroma_column : ChromaEdge
chroma_column = record { above = 11 ∷ 200 ∷ 37 ∷ 90 ∷ 151 ∷ 62 ∷ 243 ∷ 5 ∷ []; left = 129 ∷ 129 ∷ 129 ∷ 129 ∷ 129 ∷ 129 ∷ 129 ∷ 129 ∷ []; corner = 129; has_above = true; has_left = false }

luma_column : LumaEdge
luma_column = record { above = 11 ∷ 24 ∷ 37 ∷ 50 ∷ 63 ∷ 76 ∷ 89 ∷ 102 ∷ 115 ∷ 128 ∷ 141 ∷ 154 ∷ 167 ∷ 180 ∷ 193 ∷ 206 ∷ 219 ∷ 232 ∷ 245 ∷ 2 ∷ []; left = 129 ∷ 129 ∷ 129 ∷ 129 ∷ 129 ∷ 129 ∷ 129 ∷ 129 ∷ 129 ∷ 129 ∷ 129 ∷ 129 ∷ 129 ∷ 129 ∷ 129 ∷ 129 ∷ []; corner = 129; has_above = true; has_left = false }

chroma_column_dc : block_of 8 64 (whole_sample DC (chroma_edge chroma_column)) ≡ 100 ∷ 100 ∷ 100 ∷ 100 ∷ 100 ∷ 100 ∷ 100 ∷ 100 ∷ 100 ∷ 100 ∷ 100 ∷ 100 ∷ 100 ∷ 100 ∷ 100 ∷ 100 ∷ 100 ∷ 100 ∷ 100 ∷ 100 ∷ 100 ∷ 100 ∷ 100 ∷ 100 ∷ 100 ∷ 100 ∷ 100 ∷ 100 ∷ 100 ∷ 100 ∷ 100 ∷ 100 ∷ 100 ∷ 100 ∷ 100 ∷ 100 ∷ 100 ∷ 100 ∷ 100 ∷ 100 ∷ 100 ∷ 100 ∷ 100 ∷ 100 ∷ 100 ∷ 100 ∷ 100 ∷ 100 ∷ 100 ∷ 100 ∷ 100 ∷ 100 ∷ 100 ∷ 100 ∷ 100 ∷ 100 ∷ 100 ∷ 100 ∷ 100 ∷ 100 ∷ 100 ∷ 100 ∷ 100 ∷ 100 ∷ []
unfolding chroma_column listed_from
chroma_column_dc = refl

luma_column_dc : some_samples DC luma_column ≡ 109 ∷ 109 ∷ 109 ∷ 109 ∷ 109 ∷ []
unfolding some_samples luma_column
luma_column_dc = refl

chroma_column_v : block_of 8 64 (whole_sample V (chroma_edge chroma_column)) ≡ 11 ∷ 200 ∷ 37 ∷ 90 ∷ 151 ∷ 62 ∷ 243 ∷ 5 ∷ 11 ∷ 200 ∷ 37 ∷ 90 ∷ 151 ∷ 62 ∷ 243 ∷ 5 ∷ 11 ∷ 200 ∷ 37 ∷ 90 ∷ 151 ∷ 62 ∷ 243 ∷ 5 ∷ 11 ∷ 200 ∷ 37 ∷ 90 ∷ 151 ∷ 62 ∷ 243 ∷ 5 ∷ 11 ∷ 200 ∷ 37 ∷ 90 ∷ 151 ∷ 62 ∷ 243 ∷ 5 ∷ 11 ∷ 200 ∷ 37 ∷ 90 ∷ 151 ∷ 62 ∷ 243 ∷ 5 ∷ 11 ∷ 200 ∷ 37 ∷ 90 ∷ 151 ∷ 62 ∷ 243 ∷ 5 ∷ 11 ∷ 200 ∷ 37 ∷ 90 ∷ 151 ∷ 62 ∷ 243 ∷ 5 ∷ []
unfolding chroma_column listed_from
chroma_column_v = refl

luma_column_v : some_samples V luma_column ≡ 11 ∷ 206 ∷ 50 ∷ 11 ∷ 206 ∷ []
unfolding some_samples luma_column
luma_column_v = refl

chroma_column_h : block_of 8 64 (whole_sample H (chroma_edge chroma_column)) ≡ 129 ∷ 129 ∷ 129 ∷ 129 ∷ 129 ∷ 129 ∷ 129 ∷ 129 ∷ 129 ∷ 129 ∷ 129 ∷ 129 ∷ 129 ∷ 129 ∷ 129 ∷ 129 ∷ 129 ∷ 129 ∷ 129 ∷ 129 ∷ 129 ∷ 129 ∷ 129 ∷ 129 ∷ 129 ∷ 129 ∷ 129 ∷ 129 ∷ 129 ∷ 129 ∷ 129 ∷ 129 ∷ 129 ∷ 129 ∷ 129 ∷ 129 ∷ 129 ∷ 129 ∷ 129 ∷ 129 ∷ 129 ∷ 129 ∷ 129 ∷ 129 ∷ 129 ∷ 129 ∷ 129 ∷ 129 ∷ 129 ∷ 129 ∷ 129 ∷ 129 ∷ 129 ∷ 129 ∷ 129 ∷ 129 ∷ 129 ∷ 129 ∷ 129 ∷ 129 ∷ 129 ∷ 129 ∷ 129 ∷ 129 ∷ []
unfolding chroma_column listed_from
chroma_column_h = refl

luma_column_h : some_samples H luma_column ≡ 129 ∷ 129 ∷ 129 ∷ 129 ∷ 129 ∷ []
unfolding some_samples luma_column
luma_column_h = refl

chroma_column_tm : block_of 8 64 (whole_sample TM (chroma_edge chroma_column)) ≡ 11 ∷ 200 ∷ 37 ∷ 90 ∷ 151 ∷ 62 ∷ 243 ∷ 5 ∷ 11 ∷ 200 ∷ 37 ∷ 90 ∷ 151 ∷ 62 ∷ 243 ∷ 5 ∷ 11 ∷ 200 ∷ 37 ∷ 90 ∷ 151 ∷ 62 ∷ 243 ∷ 5 ∷ 11 ∷ 200 ∷ 37 ∷ 90 ∷ 151 ∷ 62 ∷ 243 ∷ 5 ∷ 11 ∷ 200 ∷ 37 ∷ 90 ∷ 151 ∷ 62 ∷ 243 ∷ 5 ∷ 11 ∷ 200 ∷ 37 ∷ 90 ∷ 151 ∷ 62 ∷ 243 ∷ 5 ∷ 11 ∷ 200 ∷ 37 ∷ 90 ∷ 151 ∷ 62 ∷ 243 ∷ 5 ∷ 11 ∷ 200 ∷ 37 ∷ 90 ∷ 151 ∷ 62 ∷ 243 ∷ 5 ∷ []
unfolding chroma_column listed_from
chroma_column_tm = refl

luma_column_tm : some_samples TM luma_column ≡ 11 ∷ 206 ∷ 50 ∷ 11 ∷ 206 ∷ []
unfolding some_samples luma_column
luma_column_tm = refl

chroma_inside : ChromaEdge
chroma_inside = record { above = 11 ∷ 200 ∷ 37 ∷ 90 ∷ 151 ∷ 62 ∷ 243 ∷ 5 ∷ []; left = 73 ∷ 140 ∷ 9 ∷ 222 ∷ 1 ∷ 255 ∷ 80 ∷ 81 ∷ []; corner = 101; has_above = true; has_left = true }

luma_inside : LumaEdge
luma_inside = record { above = 11 ∷ 24 ∷ 37 ∷ 50 ∷ 63 ∷ 76 ∷ 89 ∷ 102 ∷ 115 ∷ 128 ∷ 141 ∷ 154 ∷ 167 ∷ 180 ∷ 193 ∷ 206 ∷ 219 ∷ 232 ∷ 245 ∷ 2 ∷ []; left = 250 ∷ 239 ∷ 228 ∷ 217 ∷ 206 ∷ 195 ∷ 184 ∷ 173 ∷ 162 ∷ 151 ∷ 140 ∷ 129 ∷ 118 ∷ 107 ∷ 96 ∷ 85 ∷ []; corner = 101; has_above = true; has_left = true }

chroma_inside_dc : block_of 8 64 (whole_sample DC (chroma_edge chroma_inside)) ≡ 104 ∷ 104 ∷ 104 ∷ 104 ∷ 104 ∷ 104 ∷ 104 ∷ 104 ∷ 104 ∷ 104 ∷ 104 ∷ 104 ∷ 104 ∷ 104 ∷ 104 ∷ 104 ∷ 104 ∷ 104 ∷ 104 ∷ 104 ∷ 104 ∷ 104 ∷ 104 ∷ 104 ∷ 104 ∷ 104 ∷ 104 ∷ 104 ∷ 104 ∷ 104 ∷ 104 ∷ 104 ∷ 104 ∷ 104 ∷ 104 ∷ 104 ∷ 104 ∷ 104 ∷ 104 ∷ 104 ∷ 104 ∷ 104 ∷ 104 ∷ 104 ∷ 104 ∷ 104 ∷ 104 ∷ 104 ∷ 104 ∷ 104 ∷ 104 ∷ 104 ∷ 104 ∷ 104 ∷ 104 ∷ 104 ∷ 104 ∷ 104 ∷ 104 ∷ 104 ∷ 104 ∷ 104 ∷ 104 ∷ 104 ∷ []
unfolding chroma_inside listed_from
chroma_inside_dc = refl

luma_inside_dc : some_samples DC luma_inside ≡ 138 ∷ 138 ∷ 138 ∷ 138 ∷ 138 ∷ []
unfolding some_samples luma_inside
luma_inside_dc = refl

chroma_inside_v : block_of 8 64 (whole_sample V (chroma_edge chroma_inside)) ≡ 11 ∷ 200 ∷ 37 ∷ 90 ∷ 151 ∷ 62 ∷ 243 ∷ 5 ∷ 11 ∷ 200 ∷ 37 ∷ 90 ∷ 151 ∷ 62 ∷ 243 ∷ 5 ∷ 11 ∷ 200 ∷ 37 ∷ 90 ∷ 151 ∷ 62 ∷ 243 ∷ 5 ∷ 11 ∷ 200 ∷ 37 ∷ 90 ∷ 151 ∷ 62 ∷ 243 ∷ 5 ∷ 11 ∷ 200 ∷ 37 ∷ 90 ∷ 151 ∷ 62 ∷ 243 ∷ 5 ∷ 11 ∷ 200 ∷ 37 ∷ 90 ∷ 151 ∷ 62 ∷ 243 ∷ 5 ∷ 11 ∷ 200 ∷ 37 ∷ 90 ∷ 151 ∷ 62 ∷ 243 ∷ 5 ∷ 11 ∷ 200 ∷ 37 ∷ 90 ∷ 151 ∷ 62 ∷ 243 ∷ 5 ∷ []
unfolding chroma_inside listed_from
chroma_inside_v = refl

luma_inside_v : some_samples V luma_inside ≡ 11 ∷ 206 ∷ 50 ∷ 11 ∷ 206 ∷ []
unfolding some_samples luma_inside
luma_inside_v = refl

chroma_inside_h : block_of 8 64 (whole_sample H (chroma_edge chroma_inside)) ≡ 73 ∷ 73 ∷ 73 ∷ 73 ∷ 73 ∷ 73 ∷ 73 ∷ 73 ∷ 140 ∷ 140 ∷ 140 ∷ 140 ∷ 140 ∷ 140 ∷ 140 ∷ 140 ∷ 9 ∷ 9 ∷ 9 ∷ 9 ∷ 9 ∷ 9 ∷ 9 ∷ 9 ∷ 222 ∷ 222 ∷ 222 ∷ 222 ∷ 222 ∷ 222 ∷ 222 ∷ 222 ∷ 1 ∷ 1 ∷ 1 ∷ 1 ∷ 1 ∷ 1 ∷ 1 ∷ 1 ∷ 255 ∷ 255 ∷ 255 ∷ 255 ∷ 255 ∷ 255 ∷ 255 ∷ 255 ∷ 80 ∷ 80 ∷ 80 ∷ 80 ∷ 80 ∷ 80 ∷ 80 ∷ 80 ∷ 81 ∷ 81 ∷ 81 ∷ 81 ∷ 81 ∷ 81 ∷ 81 ∷ 81 ∷ []
unfolding chroma_inside listed_from
chroma_inside_h = refl

luma_inside_h : some_samples H luma_inside ≡ 250 ∷ 250 ∷ 173 ∷ 85 ∷ 85 ∷ []
unfolding some_samples luma_inside
luma_inside_h = refl

chroma_inside_tm : block_of 8 64 (whole_sample TM (chroma_edge chroma_inside)) ≡ 0 ∷ 172 ∷ 9 ∷ 62 ∷ 123 ∷ 34 ∷ 215 ∷ 0 ∷ 50 ∷ 239 ∷ 76 ∷ 129 ∷ 190 ∷ 101 ∷ 255 ∷ 44 ∷ 0 ∷ 108 ∷ 0 ∷ 0 ∷ 59 ∷ 0 ∷ 151 ∷ 0 ∷ 132 ∷ 255 ∷ 158 ∷ 211 ∷ 255 ∷ 183 ∷ 255 ∷ 126 ∷ 0 ∷ 100 ∷ 0 ∷ 0 ∷ 51 ∷ 0 ∷ 143 ∷ 0 ∷ 165 ∷ 255 ∷ 191 ∷ 244 ∷ 255 ∷ 216 ∷ 255 ∷ 159 ∷ 0 ∷ 179 ∷ 16 ∷ 69 ∷ 130 ∷ 41 ∷ 222 ∷ 0 ∷ 0 ∷ 180 ∷ 17 ∷ 70 ∷ 131 ∷ 42 ∷ 223 ∷ 0 ∷ []
unfolding chroma_inside listed_from
chroma_inside_tm = refl

luma_inside_tm : some_samples TM luma_inside ≡ 160 ∷ 255 ∷ 122 ∷ 0 ∷ 190 ∷ []
unfolding some_samples luma_inside
luma_inside_tm = refl
