-- A textured macroblock, computed; the values are an independent program's.
use Rattle.std.proofs.Common.{◌≡◌, ℕ, List, [], ◌∷◌, true, refl}
use Rattle.sal_base.specs.Samples.{listed_from, rows_put}
use Rattle.sal_base.specs.declared.kinds.YMode.TheVariants.{B}
use Rattle.sal_base.specs.declared.kinds.SubMode.TheVariants.{BDC, BTM, BVE, BLD, BVL}
use Rattle.sal_tables.specs.Tables.{zigzag_of, dc_steps_of, ac_steps_of}
use Rattle.sal_macroblock.specs.Macroblocks.{outside}
use Rattle.sal_intra.specs.declared.edge.LumaEdge.{LumaEdge}
use Rattle.sal_intra.specs.Edges.{sub_edge_of}
use Rattle.sal_intra.specs.Sub.{right_rows, left_rows, down_rows, up_rows, sub_sample}
use Rattle.sal_transform.specs.Inverse.{inverse_of, out_0, out_1, out_2, out_3, scaled, rounded}
use Rattle.sal_transform.specs.Factors.{factors_of, dequantised}
use Rattle.sal_transform.specs.Residue.{residue_of}
use Rattle.sal_transform.specs.Forward.{part_4, part_12, part_16, row_0, row_1, row_2, row_3, column_0, column_1, column_2, column_3, forward_of, quantised_value, quantised}
use Rattle.sal_search.specs.declared.source.MbSource.{MbSource}
use Rattle.sal_search.specs.Costs.{sad, candidate, first_least}
use Rattle.sal_search.specs.Subblocks.{sub_added, subblocks}
use Rattle.sal_search.specs.Search.{best_intra_of}

textured : List ℕ
textured = 40 ∷ 41 ∷ 42 ∷ 43 ∷ 44 ∷ 45 ∷ 46 ∷ 47 ∷ 48 ∷ 163 ∷ 160 ∷ 157 ∷ 154 ∷ 151 ∷ 148 ∷ 145 ∷ 42 ∷ 43 ∷ 44 ∷ 45 ∷ 46 ∷ 47 ∷ 48 ∷ 49 ∷ 50 ∷ 162 ∷ 159 ∷ 156 ∷ 153 ∷ 150 ∷ 147 ∷ 144 ∷ 44 ∷ 45 ∷ 46 ∷ 47 ∷ 48 ∷ 49 ∷ 50 ∷ 51 ∷ 164 ∷ 161 ∷ 158 ∷ 155 ∷ 152 ∷ 149 ∷ 146 ∷ 143 ∷ 46 ∷ 47 ∷ 48 ∷ 49 ∷ 50 ∷ 51 ∷ 52 ∷ 53 ∷ 163 ∷ 160 ∷ 157 ∷ 154 ∷ 151 ∷ 148 ∷ 145 ∷ 142 ∷ 48 ∷ 49 ∷ 50 ∷ 51 ∷ 52 ∷ 53 ∷ 54 ∷ 165 ∷ 162 ∷ 159 ∷ 156 ∷ 153 ∷ 150 ∷ 147 ∷ 144 ∷ 141 ∷ 50 ∷ 51 ∷ 52 ∷ 53 ∷ 54 ∷ 55 ∷ 56 ∷ 164 ∷ 161 ∷ 158 ∷ 155 ∷ 152 ∷ 149 ∷ 146 ∷ 143 ∷ 140 ∷ 52 ∷ 53 ∷ 54 ∷ 55 ∷ 56 ∷ 57 ∷ 166 ∷ 163 ∷ 160 ∷ 157 ∷ 154 ∷ 151 ∷ 148 ∷ 145 ∷ 142 ∷ 139 ∷ 54 ∷ 55 ∷ 56 ∷ 57 ∷ 58 ∷ 59 ∷ 165 ∷ 162 ∷ 159 ∷ 156 ∷ 153 ∷ 150 ∷ 147 ∷ 144 ∷ 141 ∷ 138 ∷ 56 ∷ 57 ∷ 58 ∷ 59 ∷ 60 ∷ 167 ∷ 164 ∷ 161 ∷ 158 ∷ 155 ∷ 152 ∷ 149 ∷ 146 ∷ 143 ∷ 140 ∷ 137 ∷ 58 ∷ 59 ∷ 60 ∷ 61 ∷ 62 ∷ 166 ∷ 163 ∷ 160 ∷ 157 ∷ 154 ∷ 151 ∷ 148 ∷ 145 ∷ 142 ∷ 139 ∷ 136 ∷ 60 ∷ 61 ∷ 62 ∷ 63 ∷ 168 ∷ 165 ∷ 162 ∷ 159 ∷ 156 ∷ 153 ∷ 150 ∷ 147 ∷ 144 ∷ 141 ∷ 138 ∷ 135 ∷ 62 ∷ 63 ∷ 64 ∷ 65 ∷ 167 ∷ 164 ∷ 161 ∷ 158 ∷ 155 ∷ 152 ∷ 149 ∷ 146 ∷ 143 ∷ 140 ∷ 137 ∷ 134 ∷ 64 ∷ 65 ∷ 66 ∷ 169 ∷ 166 ∷ 163 ∷ 160 ∷ 157 ∷ 154 ∷ 151 ∷ 148 ∷ 145 ∷ 142 ∷ 139 ∷ 136 ∷ 133 ∷ 66 ∷ 67 ∷ 68 ∷ 168 ∷ 165 ∷ 162 ∷ 159 ∷ 156 ∷ 153 ∷ 150 ∷ 147 ∷ 144 ∷ 141 ∷ 138 ∷ 135 ∷ 132 ∷ 68 ∷ 69 ∷ 170 ∷ 167 ∷ 164 ∷ 161 ∷ 158 ∷ 155 ∷ 152 ∷ 149 ∷ 146 ∷ 143 ∷ 140 ∷ 137 ∷ 134 ∷ 131 ∷ 70 ∷ 71 ∷ 169 ∷ 166 ∷ 163 ∷ 160 ∷ 157 ∷ 154 ∷ 151 ∷ 148 ∷ 145 ∷ 142 ∷ 139 ∷ 136 ∷ 133 ∷ 130 ∷ []

source : MbSource
source = record { y = textured; u = []; v = [] }

around : LumaEdge
around = record { above = 38 ∷ 39 ∷ 40 ∷ 41 ∷ 42 ∷ 43 ∷ 44 ∷ 45 ∷ 46 ∷ 166 ∷ 163 ∷ 160 ∷ 157 ∷ 154 ∷ 151 ∷ 148 ∷ 145 ∷ 142 ∷ 139 ∷ 136 ∷ []; left = 39 ∷ 41 ∷ 43 ∷ 45 ∷ 47 ∷ 49 ∷ 51 ∷ 53 ∷ 55 ∷ 57 ∷ 59 ∷ 61 ∷ 63 ∷ 65 ∷ 67 ∷ 69 ∷ []; corner = 37; has_above = true; has_left = true }

in_parts_20 : best_intra_of source around 20 ≡ candidate (record outside { y = B; sub = BTM ∷ BTM ∷ BVL ∷ BVL ∷ BTM ∷ BVL ∷ BVL ∷ BVL ∷ BTM ∷ BVL ∷ BVE ∷ BTM ∷ BVL ∷ BVL ∷ BVL ∷ BTM ∷ [] }) 1264
unfolding textured around source sad first_least sub_added subblocks best_intra_of outside listed_from rows_put sub_edge_of right_rows left_rows down_rows up_rows sub_sample factors_of dc_steps_of ac_steps_of zigzag_of forward_of row_0 row_1 row_2 row_3 column_0 column_1 column_2 column_3 part_4 part_12 part_16 quantised quantised_value dequantised residue_of inverse_of out_0 out_1 out_2 out_3 scaled rounded
in_parts_20 = refl

in_parts_127 : best_intra_of source around 127 ≡ candidate (record outside { y = B; sub = BTM ∷ BTM ∷ BVL ∷ BVL ∷ BTM ∷ BVL ∷ BVL ∷ BVL ∷ BTM ∷ BLD ∷ BVE ∷ BLD ∷ BVL ∷ BDC ∷ BVL ∷ BTM ∷ [] }) 1833
unfolding textured around source sad first_least sub_added subblocks best_intra_of outside listed_from rows_put sub_edge_of right_rows left_rows down_rows up_rows sub_sample factors_of dc_steps_of ac_steps_of zigzag_of forward_of row_0 row_1 row_2 row_3 column_0 column_1 column_2 column_3 part_4 part_12 part_16 quantised quantised_value dequantised residue_of inverse_of out_0 out_1 out_2 out_3 scaled rounded
in_parts_127 = refl
