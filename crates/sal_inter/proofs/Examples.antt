-- Interpolated blocks at a clamped edge by each filter, computed; the values are an independent program's.
use Rattle.std.proofs.Common.{◌≡◌, ◌+◌, pos, negsuc, [], ◌∷◌, true, false, refl}
use Rattle.sal_base.specs.Samples.{block_of, listed_from}
use Rattle.sal_base.specs.declared.picture.Plane.{Plane}
use Rattle.sal_tables.specs.Tables.{six_taps_of}
use Rattle.sal_inter.specs.Inter.{inter_sample, interpolated, six_sum, quarter}

source : Plane
source = record { width = 16; height = 16; samples = 131 ∷ 148 ∷ 123 ∷ 7 ∷ 83 ∷ 39 ∷ 153 ∷ 78 ∷ 226 ∷ 127 ∷ 127 ∷ 213 ∷ 10 ∷ 198 ∷ 135 ∷ 22 ∷ 158 ∷ 39 ∷ 221 ∷ 120 ∷ 74 ∷ 56 ∷ 24 ∷ 242 ∷ 103 ∷ 113 ∷ 161 ∷ 100 ∷ 210 ∷ 45 ∷ 59 ∷ 29 ∷ 71 ∷ 237 ∷ 248 ∷ 7 ∷ 201 ∷ 98 ∷ 214 ∷ 17 ∷ 63 ∷ 97 ∷ 81 ∷ 193 ∷ 238 ∷ 167 ∷ 138 ∷ 123 ∷ 141 ∷ 246 ∷ 39 ∷ 81 ∷ 255 ∷ 76 ∷ 46 ∷ 10 ∷ 218 ∷ 215 ∷ 0 ∷ 122 ∷ 206 ∷ 145 ∷ 8 ∷ 244 ∷ 229 ∷ 96 ∷ 140 ∷ 255 ∷ 22 ∷ 252 ∷ 175 ∷ 16 ∷ 110 ∷ 148 ∷ 133 ∷ 128 ∷ 87 ∷ 13 ∷ 11 ∷ 223 ∷ 178 ∷ 111 ∷ 183 ∷ 246 ∷ 69 ∷ 205 ∷ 92 ∷ 182 ∷ 63 ∷ 179 ∷ 224 ∷ 7 ∷ 73 ∷ 49 ∷ 19 ∷ 55 ∷ 93 ∷ 177 ∷ 104 ∷ 138 ∷ 51 ∷ 35 ∷ 239 ∷ 250 ∷ 157 ∷ 90 ∷ 98 ∷ 182 ∷ 13 ∷ 255 ∷ 90 ∷ 156 ∷ 207 ∷ 184 ∷ 189 ∷ 194 ∷ 165 ∷ 244 ∷ 89 ∷ 183 ∷ 46 ∷ 10 ∷ 74 ∷ 0 ∷ 188 ∷ 25 ∷ 59 ∷ 11 ∷ 19 ∷ 253 ∷ 170 ∷ 65 ∷ 45 ∷ 7 ∷ 203 ∷ 76 ∷ 58 ∷ 172 ∷ 157 ∷ 86 ∷ 210 ∷ 15 ∷ 195 ∷ 52 ∷ 248 ∷ 25 ∷ 249 ∷ 62 ∷ 50 ∷ 132 ∷ 237 ∷ 26 ∷ 216 ∷ 15 ∷ 53 ∷ 179 ∷ 118 ∷ 138 ∷ 33 ∷ 131 ∷ 2 ∷ 26 ∷ 118 ∷ 28 ∷ 124 ∷ 172 ∷ 127 ∷ 191 ∷ 172 ∷ 31 ∷ 65 ∷ 97 ∷ 221 ∷ 88 ∷ 0 ∷ 254 ∷ 199 ∷ 78 ∷ 164 ∷ 65 ∷ 103 ∷ 135 ∷ 116 ∷ 162 ∷ 173 ∷ 202 ∷ 107 ∷ 57 ∷ 143 ∷ 74 ∷ 210 ∷ 83 ∷ 217 ∷ 146 ∷ 59 ∷ 149 ∷ 88 ∷ 148 ∷ 69 ∷ 45 ∷ 35 ∷ 83 ∷ 135 ∷ 108 ∷ 98 ∷ 198 ∷ 239 ∷ 96 ∷ 108 ∷ 88 ∷ 76 ∷ 32 ∷ 212 ∷ 45 ∷ 61 ∷ 217 ∷ 202 ∷ 53 ∷ 77 ∷ 165 ∷ 176 ∷ 213 ∷ 54 ∷ 148 ∷ 97 ∷ 5 ∷ 171 ∷ 202 ∷ 117 ∷ 33 ∷ 35 ∷ 245 ∷ 136 ∷ 7 ∷ 3 ∷ 173 ∷ 210 ∷ 21 ∷ 233 ∷ 88 ∷ 162 ∷ 43 ∷ 93 ∷ 151 ∷ 196 ∷ 193 ∷ 122 ∷ 170 ∷ 97 ∷ 235 ∷ 90 ∷ 178 ∷ 93 ∷ 223 ∷ 54 ∷ 230 ∷ [] }

eighths_0 : block_of 4 16 (λ row column. inter_sample source (record { row = negsuc 15; column = pos 7 }) true (pos (column)) (pos (row))) ≡ 148 ∷ 131 ∷ 13 ∷ 78 ∷ 148 ∷ 131 ∷ 13 ∷ 78 ∷ 148 ∷ 131 ∷ 13 ∷ 78 ∷ 41 ∷ 209 ∷ 132 ∷ 78 ∷ []
unfolding source inter_sample interpolated six_sum six_taps_of listed_from
eighths_0 = refl

quarters_0 : block_of 4 16 (λ row column. inter_sample source (record { row = pos 9; column = negsuc 2 }) false (pos (12 + column)) (pos (12 + row))) ≡ 196 ∷ 144 ∷ 84 ∷ 200 ∷ 155 ∷ 125 ∷ 196 ∷ 68 ∷ 160 ∷ 126 ∷ 184 ∷ 82 ∷ 159 ∷ 126 ∷ 186 ∷ 80 ∷ []
unfolding source inter_sample interpolated six_sum six_taps_of listed_from
quarters_0 = refl

eighths_1 : block_of 4 16 (λ row column. inter_sample source (record { row = negsuc 14; column = pos 6 }) true (pos (column)) (pos (row))) ≡ 144 ∷ 139 ∷ 26 ∷ 65 ∷ 145 ∷ 139 ∷ 25 ∷ 65 ∷ 135 ∷ 142 ∷ 38 ∷ 66 ∷ 60 ∷ 190 ∷ 154 ∷ 84 ∷ []
unfolding source inter_sample interpolated six_sum six_taps_of listed_from
eighths_1 = refl

quarters_1 : block_of 4 16 (λ row column. inter_sample source (record { row = pos 8; column = pos 2 }) false (pos (12 + column)) (pos (12 + row))) ≡ 90 ∷ 122 ∷ 186 ∷ 68 ∷ 169 ∷ 136 ∷ 122 ∷ 252 ∷ 169 ∷ 136 ∷ 122 ∷ 252 ∷ 169 ∷ 136 ∷ 122 ∷ 252 ∷ []
unfolding source inter_sample interpolated six_sum six_taps_of listed_from
quarters_1 = refl

eighths_2 : block_of 4 16 (λ row column. inter_sample source (record { row = negsuc 13; column = pos 5 }) true (pos (column)) (pos (row))) ≡ 143 ∷ 141 ∷ 41 ∷ 55 ∷ 149 ∷ 141 ∷ 32 ∷ 54 ∷ 121 ∷ 139 ∷ 73 ∷ 60 ∷ 84 ∷ 191 ∷ 158 ∷ 93 ∷ []
unfolding source inter_sample interpolated six_sum six_taps_of listed_from
eighths_2 = refl

quarters_2 : block_of 4 16 (λ row column. inter_sample source (record { row = pos 7; column = pos 7 }) false (pos (12 + column)) (pos (12 + row))) ≡ 160 ∷ 126 ∷ 87 ∷ 95 ∷ 117 ∷ 171 ∷ 199 ∷ 194 ∷ 82 ∷ 182 ∷ 251 ∷ 237 ∷ 89 ∷ 180 ∷ 240 ∷ 228 ∷ []
unfolding source inter_sample interpolated six_sum six_taps_of listed_from
quarters_2 = refl

eighths_3 : block_of 4 16 (λ row column. inter_sample source (record { row = negsuc 12; column = pos 4 }) true (pos (column)) (pos (row))) ≡ 139 ∷ 151 ∷ 53 ∷ 41 ∷ 142 ∷ 152 ∷ 46 ∷ 39 ∷ 115 ∷ 137 ∷ 107 ∷ 55 ∷ 94 ∷ 174 ∷ 178 ∷ 85 ∷ []
unfolding source inter_sample interpolated six_sum six_taps_of listed_from
eighths_3 = refl

quarters_3 : block_of 4 16 (λ row column. inter_sample source (record { row = pos 6; column = pos 12 }) false (pos (12 + column)) (pos (12 + row))) ≡ 109 ∷ 109 ∷ 109 ∷ 109 ∷ 152 ∷ 152 ∷ 152 ∷ 152 ∷ 246 ∷ 246 ∷ 246 ∷ 246 ∷ 227 ∷ 227 ∷ 227 ∷ 227 ∷ []
unfolding source inter_sample interpolated six_sum six_taps_of listed_from
quarters_3 = refl

eighths_4 : block_of 4 16 (λ row column. inter_sample source (record { row = negsuc 11; column = pos 3 }) true (pos (column)) (pos (row))) ≡ 137 ∷ 145 ∷ 81 ∷ 29 ∷ 141 ∷ 155 ∷ 64 ∷ 19 ∷ 123 ∷ 104 ∷ 141 ∷ 68 ∷ 109 ∷ 177 ∷ 208 ∷ 79 ∷ []
unfolding source inter_sample interpolated six_sum six_taps_of listed_from
eighths_4 = refl

quarters_4 : block_of 4 16 (λ row column. inter_sample source (record { row = pos 5; column = pos 17 }) false (pos (12 + column)) (pos (12 + row))) ≡ 130 ∷ 130 ∷ 130 ∷ 130 ∷ 116 ∷ 115 ∷ 115 ∷ 115 ∷ 238 ∷ 241 ∷ 241 ∷ 241 ∷ 225 ∷ 228 ∷ 228 ∷ 228 ∷ []
unfolding source inter_sample interpolated six_sum six_taps_of listed_from
quarters_4 = refl

eighths_5 : block_of 4 16 (λ row column. inter_sample source (record { row = negsuc 10; column = pos 2 }) true (pos (column)) (pos (row))) ≡ 135 ∷ 150 ∷ 90 ∷ 20 ∷ 136 ∷ 155 ∷ 81 ∷ 14 ∷ 126 ∷ 90 ∷ 174 ∷ 77 ∷ 105 ∷ 194 ∷ 209 ∷ 58 ∷ []
unfolding source inter_sample interpolated six_sum six_taps_of listed_from
eighths_5 = refl

quarters_5 : block_of 4 16 (λ row column. inter_sample source (record { row = pos 4; column = pos 22 }) false (pos (12 + column)) (pos (12 + row))) ≡ 148 ∷ 148 ∷ 148 ∷ 148 ∷ 88 ∷ 88 ∷ 88 ∷ 88 ∷ 230 ∷ 230 ∷ 230 ∷ 230 ∷ 230 ∷ 230 ∷ 230 ∷ 230 ∷ []
unfolding source inter_sample interpolated six_sum six_taps_of listed_from
quarters_5 = refl

eighths_6 : block_of 4 16 (λ row column. inter_sample source (record { row = negsuc 9; column = pos 1 }) true (pos (column)) (pos (row))) ≡ 133 ∷ 146 ∷ 113 ∷ 10 ∷ 131 ∷ 158 ∷ 103 ∷ 0 ∷ 148 ∷ 58 ∷ 193 ∷ 96 ∷ 96 ∷ 197 ∷ 246 ∷ 37 ∷ []
unfolding source inter_sample interpolated six_sum six_taps_of listed_from
eighths_6 = refl

quarters_6 : block_of 4 16 (λ row column. inter_sample source (record { row = pos 3; column = pos 27 }) false (pos (12 + column)) (pos (12 + row))) ≡ 145 ∷ 145 ∷ 145 ∷ 145 ∷ 94 ∷ 94 ∷ 94 ∷ 94 ∷ 194 ∷ 194 ∷ 194 ∷ 194 ∷ 238 ∷ 238 ∷ 238 ∷ 238 ∷ []
unfolding source inter_sample interpolated six_sum six_taps_of listed_from
quarters_6 = refl

eighths_7 : block_of 4 16 (λ row column. inter_sample source (record { row = negsuc 8; column = pos 0 }) true (pos (column)) (pos (row))) ≡ 131 ∷ 148 ∷ 123 ∷ 7 ∷ 130 ∷ 153 ∷ 118 ∷ 2 ∷ 160 ∷ 39 ∷ 211 ∷ 116 ∷ 75 ∷ 219 ∷ 255 ∷ 14 ∷ []
unfolding source inter_sample interpolated six_sum six_taps_of listed_from
eighths_7 = refl

quarters_7 : block_of 4 16 (λ row column. inter_sample source (record { row = pos 2; column = pos 32 }) false (pos (12 + column)) (pos (12 + row))) ≡ 137 ∷ 137 ∷ 137 ∷ 137 ∷ 109 ∷ 109 ∷ 109 ∷ 109 ∷ 152 ∷ 152 ∷ 152 ∷ 152 ∷ 246 ∷ 246 ∷ 246 ∷ 246 ∷ []
unfolding source inter_sample interpolated six_sum six_taps_of listed_from
quarters_7 = refl

quarter_of_5 : quarter (pos 5) ≡ pos 1
quarter_of_5 = refl

quarter_of_6 : quarter (pos 6) ≡ pos 2
quarter_of_6 = refl

quarter_of_less_5 : quarter (negsuc 4) ≡ negsuc 0
quarter_of_less_5 = refl

quarter_of_less_6 : quarter (negsuc 5) ≡ negsuc 1
quarter_of_less_6 = refl

quarter_of_2 : quarter (pos 2) ≡ pos 1
quarter_of_2 = refl

quarter_of_less_2 : quarter (negsuc 1) ≡ negsuc 0
quarter_of_less_2 = refl

quarter_of_1 : quarter (pos 1) ≡ pos 0
quarter_of_1 = refl

quarter_of_less_1 : quarter (negsuc 0) ≡ pos 0
quarter_of_less_1 = refl
