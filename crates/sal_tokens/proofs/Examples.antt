-- Blocks read from bytes, computed; the values are an independent program's.
use Rattle.std.proofs.Common.{◌≡◌, pos, negsuc, [], ◌∷◌, true, false, refl}
use Rattle.sal_bool.specs.Bits.{start, widen, next}
use Rattle.sal_bool.specs.Syntax.{◌>>=◌, read, number, walk}
use Rattle.sal_tables.specs.Tables.{default_coefficients_of, default_rows, bands_of, category_bases_of, category_bits_of}
use Rattle.sal_tables.specs.Trees.{token_entries}
use Rattle.sal_tokens.specs.Coefficients.{token_row, token_size, coefficients, block}

block_0_0 : (read (189 ∷ 47 ∷ 248 ∷ 65 ∷ 36 ∷ 67 ∷ []) start (block default_coefficients_of 0 0)).0 ≡ (pos 0 ∷ pos 0 ∷ pos 0 ∷ pos 0 ∷ pos 0 ∷ pos 0 ∷ pos 0 ∷ pos 0 ∷ pos 0 ∷ pos 0 ∷ pos 0 ∷ pos 0 ∷ pos 0 ∷ pos 0 ∷ pos 0 ∷ pos 0 ∷ [], false)
unfolding read widen next ◌>>=◌ number walk default_coefficients_of default_rows bands_of category_bases_of category_bits_of token_entries token_row token_size coefficients block
block_0_0 = refl

block_0_1 : (read (139 ∷ 35 ∷ 187 ∷ 170 ∷ 23 ∷ 96 ∷ 194 ∷ 49 ∷ 192 ∷ 13 ∷ 110 ∷ 37 ∷ 118 ∷ []) start (block default_coefficients_of 0 1)).0 ≡ (pos 0 ∷ pos 0 ∷ pos 0 ∷ pos 0 ∷ pos 0 ∷ pos 0 ∷ pos 0 ∷ pos 0 ∷ pos 0 ∷ pos 0 ∷ pos 0 ∷ pos 0 ∷ pos 0 ∷ pos 0 ∷ pos 0 ∷ pos 0 ∷ [], false)
unfolding read widen next ◌>>=◌ number walk default_coefficients_of default_rows bands_of category_bases_of category_bits_of token_entries token_row token_size coefficients block
block_0_1 = refl

block_0_2 : (read (186 ∷ 143 ∷ 23 ∷ 227 ∷ 192 ∷ 193 ∷ 69 ∷ 70 ∷ 196 ∷ 67 ∷ 97 ∷ 184 ∷ 168 ∷ 173 ∷ 214 ∷ []) start (block default_coefficients_of 0 2)).0 ≡ (pos 0 ∷ pos 1 ∷ pos 0 ∷ pos 0 ∷ pos 0 ∷ pos 0 ∷ pos 0 ∷ pos 0 ∷ pos 0 ∷ pos 0 ∷ pos 0 ∷ pos 0 ∷ pos 0 ∷ pos 0 ∷ pos 0 ∷ pos 0 ∷ [], true)
unfolding read widen next ◌>>=◌ number walk default_coefficients_of default_rows bands_of category_bases_of category_bits_of token_entries token_row token_size coefficients block
block_0_2 = refl

block_1_0 : (read (237 ∷ 165 ∷ 127 ∷ 2 ∷ 223 ∷ 80 ∷ 203 ∷ 5 ∷ 212 ∷ 144 ∷ 205 ∷ 136 ∷ 230 ∷ 37 ∷ []) start (block default_coefficients_of 1 0)).0 ≡ (negsuc 0 ∷ pos 0 ∷ pos 0 ∷ pos 0 ∷ pos 0 ∷ pos 0 ∷ pos 0 ∷ pos 0 ∷ pos 0 ∷ pos 0 ∷ pos 0 ∷ pos 0 ∷ pos 0 ∷ pos 0 ∷ pos 0 ∷ pos 0 ∷ [], true)
unfolding read widen next ◌>>=◌ number walk default_coefficients_of default_rows bands_of category_bases_of category_bits_of token_entries token_row token_size coefficients block
block_1_0 = refl

block_1_1 : (read (160 ∷ 28 ∷ 231 ∷ 19 ∷ 106 ∷ 211 ∷ []) start (block default_coefficients_of 1 1)).0 ≡ (pos 1 ∷ pos 0 ∷ pos 0 ∷ pos 0 ∷ pos 0 ∷ pos 0 ∷ pos 0 ∷ pos 0 ∷ pos 0 ∷ pos 0 ∷ pos 0 ∷ pos 0 ∷ pos 0 ∷ pos 0 ∷ pos 0 ∷ pos 0 ∷ [], true)
unfolding read widen next ◌>>=◌ number walk default_coefficients_of default_rows bands_of category_bases_of category_bits_of token_entries token_row token_size coefficients block
block_1_1 = refl

block_1_2 : (read (152 ∷ 134 ∷ 223 ∷ 167 ∷ 229 ∷ 243 ∷ 91 ∷ []) start (block default_coefficients_of 1 2)).0 ≡ (negsuc 0 ∷ pos 0 ∷ pos 0 ∷ pos 0 ∷ pos 0 ∷ pos 0 ∷ pos 0 ∷ pos 0 ∷ pos 0 ∷ pos 0 ∷ pos 0 ∷ pos 0 ∷ pos 0 ∷ pos 0 ∷ pos 0 ∷ pos 0 ∷ [], true)
unfolding read widen next ◌>>=◌ number walk default_coefficients_of default_rows bands_of category_bases_of category_bits_of token_entries token_row token_size coefficients block
block_1_2 = refl

block_2_0 : (read (144 ∷ 42 ∷ 87 ∷ 254 ∷ 78 ∷ 13 ∷ 55 ∷ 65 ∷ 112 ∷ 99 ∷ 155 ∷ 251 ∷ []) start (block default_coefficients_of 2 0)).0 ≡ (pos 0 ∷ pos 0 ∷ pos 0 ∷ pos 0 ∷ pos 0 ∷ pos 0 ∷ pos 0 ∷ pos 0 ∷ pos 0 ∷ pos 0 ∷ pos 0 ∷ pos 0 ∷ pos 0 ∷ pos 0 ∷ pos 0 ∷ pos 0 ∷ [], false)
unfolding read widen next ◌>>=◌ number walk default_coefficients_of default_rows bands_of category_bases_of category_bits_of token_entries token_row token_size coefficients block
block_2_0 = refl

block_2_1 : (read (161 ∷ 187 ∷ 43 ∷ 99 ∷ 72 ∷ 136 ∷ 125 ∷ 8 ∷ 222 ∷ 249 ∷ 168 ∷ 78 ∷ 13 ∷ 78 ∷ 58 ∷ 17 ∷ 253 ∷ 120 ∷ 3 ∷ 56 ∷ []) start (block default_coefficients_of 2 1)).0 ≡ (pos 0 ∷ pos 0 ∷ pos 0 ∷ pos 0 ∷ pos 0 ∷ pos 0 ∷ pos 0 ∷ pos 0 ∷ pos 0 ∷ pos 0 ∷ pos 0 ∷ pos 0 ∷ pos 0 ∷ pos 0 ∷ pos 0 ∷ pos 0 ∷ [], false)
unfolding read widen next ◌>>=◌ number walk default_coefficients_of default_rows bands_of category_bases_of category_bits_of token_entries token_row token_size coefficients block
block_2_1 = refl

block_2_2 : (read (191 ∷ 207 ∷ 32 ∷ 52 ∷ 25 ∷ 102 ∷ 59 ∷ 120 ∷ 121 ∷ 232 ∷ 38 ∷ 3 ∷ 138 ∷ 130 ∷ 67 ∷ 33 ∷ 49 ∷ 177 ∷ 226 ∷ 2 ∷ 12 ∷ []) start (block default_coefficients_of 2 2)).0 ≡ (negsuc 0 ∷ pos 0 ∷ pos 0 ∷ pos 0 ∷ pos 0 ∷ pos 0 ∷ pos 0 ∷ pos 0 ∷ pos 0 ∷ pos 0 ∷ pos 0 ∷ pos 0 ∷ pos 0 ∷ pos 0 ∷ pos 0 ∷ pos 0 ∷ [], true)
unfolding read widen next ◌>>=◌ number walk default_coefficients_of default_rows bands_of category_bases_of category_bits_of token_entries token_row token_size coefficients block
block_2_2 = refl

block_3_0 : (read (138 ∷ 200 ∷ 212 ∷ 223 ∷ 65 ∷ 20 ∷ 41 ∷ 205 ∷ []) start (block default_coefficients_of 3 0)).0 ≡ (pos 0 ∷ pos 0 ∷ pos 0 ∷ pos 0 ∷ pos 0 ∷ pos 0 ∷ pos 0 ∷ pos 0 ∷ pos 0 ∷ pos 0 ∷ pos 0 ∷ pos 0 ∷ pos 0 ∷ pos 0 ∷ pos 0 ∷ pos 0 ∷ [], false)
unfolding read widen next ◌>>=◌ number walk default_coefficients_of default_rows bands_of category_bases_of category_bits_of token_entries token_row token_size coefficients block
block_3_0 = refl

block_3_1 : (read (169 ∷ 201 ∷ 197 ∷ 132 ∷ 130 ∷ 109 ∷ 178 ∷ 153 ∷ 122 ∷ 46 ∷ 11 ∷ 135 ∷ 0 ∷ 254 ∷ 59 ∷ 198 ∷ 201 ∷ 237 ∷ []) start (block default_coefficients_of 3 1)).0 ≡ (pos 1 ∷ pos 0 ∷ pos 0 ∷ pos 0 ∷ pos 0 ∷ pos 0 ∷ pos 0 ∷ pos 0 ∷ pos 0 ∷ pos 0 ∷ pos 0 ∷ pos 0 ∷ pos 0 ∷ pos 0 ∷ pos 0 ∷ pos 0 ∷ [], true)
unfolding read widen next ◌>>=◌ number walk default_coefficients_of default_rows bands_of category_bases_of category_bits_of token_entries token_row token_size coefficients block
block_3_1 = refl

block_3_2 : (read (181 ∷ 176 ∷ 90 ∷ 83 ∷ 201 ∷ 157 ∷ 159 ∷ 15 ∷ 252 ∷ 89 ∷ 90 ∷ 119 ∷ 171 ∷ 235 ∷ 134 ∷ 61 ∷ 61 ∷ 53 ∷ []) start (block default_coefficients_of 3 2)).0 ≡ (negsuc 0 ∷ negsuc 1 ∷ pos 2 ∷ pos 0 ∷ pos 0 ∷ pos 2 ∷ pos 1 ∷ pos 0 ∷ pos 0 ∷ pos 0 ∷ pos 0 ∷ pos 0 ∷ pos 0 ∷ pos 0 ∷ pos 0 ∷ pos 0 ∷ [], true)
unfolding read widen next ◌>>=◌ number walk default_coefficients_of default_rows bands_of category_bases_of category_bits_of token_entries token_row token_size coefficients block
block_3_2 = refl

-- each category's least and greatest coefficient, of either sign
large_0_1 : (read (254 ∷ 103 ∷ 219 ∷ 88 ∷ 63 ∷ 252 ∷ 92 ∷ 255 ∷ 127 ∷ 254 ∷ 13 ∷ 127 ∷ 243 ∷ 223 ∷ 255 ∷ 232 ∷ 243 ∷ 255 ∷ 191 ∷ 147 ∷ 255 ∷ 193 ∷ 3 ∷ 255 ∷ 191 ∷ 156 ∷ 255 ∷ 224 ∷ 157 ∷ 255 ∷ 255 ∷ 255 ∷ 255 ∷ 209 ∷ 118 ∷ 112 ∷ 8 ∷ 0 ∷ []) start (block default_coefficients_of 1 0)).0 ≡ (pos 4 ∷ pos 5 ∷ negsuc 5 ∷ pos 7 ∷ negsuc 9 ∷ pos 11 ∷ pos 18 ∷ negsuc 18 ∷ pos 34 ∷ pos 35 ∷ pos 66 ∷ negsuc 66 ∷ pos 2047 ∷ pos 1 ∷ negsuc 1 ∷ pos 3 ∷ [], true)
unfolding read widen next ◌>>=◌ number walk default_coefficients_of default_rows bands_of category_bases_of category_bits_of token_entries token_row token_size coefficients block
large_0_1 = refl

large_0_3 : (read (254 ∷ 10 ∷ 218 ∷ 219 ∷ 220 ∷ 239 ∷ 223 ∷ 254 ∷ 13 ∷ 127 ∷ 254 ∷ 123 ∷ 255 ∷ 244 ∷ 121 ∷ 255 ∷ 127 ∷ 39 ∷ 254 ∷ 8 ∷ 31 ∷ 247 ∷ 243 ∷ 159 ∷ 240 ∷ 78 ∷ 255 ∷ 255 ∷ 255 ∷ 255 ∷ 162 ∷ 216 ∷ 247 ∷ 244 ∷ 0 ∷ []) start (block default_coefficients_of 3 0)).0 ≡ (pos 4 ∷ pos 5 ∷ negsuc 5 ∷ pos 7 ∷ negsuc 9 ∷ pos 11 ∷ pos 18 ∷ negsuc 18 ∷ pos 34 ∷ pos 35 ∷ pos 66 ∷ negsuc 66 ∷ pos 2047 ∷ pos 1 ∷ negsuc 1 ∷ pos 3 ∷ [], true)
unfolding read widen next ◌>>=◌ number walk default_coefficients_of default_rows bands_of category_bases_of category_bits_of token_entries token_row token_size coefficients block
large_0_3 = refl

large_1_1 : (read (204 ∷ 255 ∷ 255 ∷ 255 ∷ 255 ∷ 255 ∷ 255 ∷ 226 ∷ 196 ∷ 234 ∷ []) start (block default_coefficients_of 1 0)).0 ≡ (pos 0 ∷ negsuc 2113 ∷ pos 0 ∷ pos 0 ∷ pos 0 ∷ pos 1 ∷ pos 0 ∷ pos 0 ∷ pos 0 ∷ pos 0 ∷ pos 0 ∷ pos 0 ∷ pos 0 ∷ pos 0 ∷ pos 0 ∷ negsuc 0 ∷ [], true)
unfolding read widen next ◌>>=◌ number walk default_coefficients_of default_rows bands_of category_bases_of category_bits_of token_entries token_row token_size coefficients block
large_1_1 = refl

large_1_3 : (read (206 ∷ 63 ∷ 255 ∷ 255 ∷ 255 ∷ 255 ∷ 255 ∷ 240 ∷ 134 ∷ 136 ∷ 224 ∷ []) start (block default_coefficients_of 3 0)).0 ≡ (pos 0 ∷ negsuc 2113 ∷ pos 0 ∷ pos 0 ∷ pos 0 ∷ pos 1 ∷ pos 0 ∷ pos 0 ∷ pos 0 ∷ pos 0 ∷ pos 0 ∷ pos 0 ∷ pos 0 ∷ pos 0 ∷ pos 0 ∷ negsuc 0 ∷ [], true)
unfolding read widen next ◌>>=◌ number walk default_coefficients_of default_rows bands_of category_bases_of category_bits_of token_entries token_row token_size coefficients block
large_1_3 = refl
