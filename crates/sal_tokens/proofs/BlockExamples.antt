-- Macroblocks of blocks read from bytes with their contexts, computed; the values are an independent program's.
use Rattle.std.proofs.Common.{◌≡◌, ◌-◌, ◌++◌, ℤ, pos, negsuc, List, [], ◌∷◌, true, false, refl, length, replicate}
use Rattle.sal_base.specs.Samples.{listed_from}
use Rattle.sal_bool.specs.Bits.{start, widen, next}
use Rattle.sal_bool.specs.Syntax.{◌>>=◌, read, number, walk}
use Rattle.sal_tables.specs.Tables.{default_coefficients_of, default_rows, bands_of, category_bases_of, category_bits_of}
use Rattle.sal_tables.specs.Trees.{token_entries}
use Rattle.sal_tokens.specs.Coefficients.{token_row, token_size, coefficients, block}
use Rattle.sal_macroblock.specs.Blocks.{no_coefficients}
use Rattle.sal_tokens.specs.Blocks.{places, blocks, macroblock, skipped}

-- sixteen coefficients of which the last are 0
abbrev padded : List ℤ → List ℤ
padded zs = zs ++ replicate (16 - length zs) (pos 0)

abbrev none : List ℤ
none = replicate 16 (pos 0)

with_y2 : (read (219 ∷ 188 ∷ 110 ∷ 135 ∷ 224 ∷ 247 ∷ 126 ∷ 202 ∷ 88 ∷ 52 ∷ 45 ∷ 219 ∷ 205 ∷ 57 ∷ 68 ∷ 143 ∷ 44 ∷ 92 ∷ 200 ∷ 176 ∷ 147 ∷ 223 ∷ 80 ∷ 148 ∷ []) start (macroblock default_coefficients_of true (false ∷ false ∷ false ∷ false ∷ false ∷ false ∷ false ∷ false ∷ false ∷ []) (false ∷ false ∷ false ∷ false ∷ false ∷ false ∷ false ∷ false ∷ false ∷ []))).0
    ≡ record {
      coefficients =
          none ∷ none ∷ none ∷ none ∷ none ∷ none ∷ none ∷ none ∷ none ∷ padded (pos 0 ∷ negsuc 0 ∷ []) ∷ padded (pos 0 ∷ negsuc 0 ∷ negsuc 0 ∷ negsuc 0 ∷ []) ∷ padded (pos 0 ∷ pos 0 ∷ negsuc 0 ∷ []) ∷ none ∷ padded (pos 0 ∷ negsuc 0 ∷ []) ∷ padded (pos 0 ∷ pos 0 ∷ pos 0 ∷ pos 1 ∷ []) ∷ padded (pos 0 ∷ negsuc 1 ∷ negsuc 0 ∷ []) ∷ padded (negsuc 0 ∷ []) ∷ none ∷ padded (negsuc 0 ∷ []) ∷ padded (pos 0 ∷ pos 0 ∷ pos 0 ∷ pos 0 ∷ pos 0 ∷ negsuc 0 ∷ []) ∷ none ∷ none ∷ padded (pos 1 ∷ []) ∷ none ∷ padded (pos 1 ∷ []) ∷ [];
      has_coefficients = true;
      above = false ∷ true ∷ true ∷ true ∷ true ∷ true ∷ true ∷ false ∷ true ∷ [];
      left = false ∷ false ∷ true ∷ true ∷ false ∷ true ∷ false ∷ false ∷ true ∷ [];
    }
unfolding read widen next ◌>>=◌ number walk default_coefficients_of default_rows bands_of category_bases_of category_bits_of token_entries token_row token_size coefficients block places blocks macroblock listed_from
with_y2 = refl

without_y2 : (read (131 ∷ 248 ∷ 220 ∷ 73 ∷ 216 ∷ 113 ∷ 217 ∷ 211 ∷ 27 ∷ 32 ∷ 40 ∷ 111 ∷ 248 ∷ 203 ∷ 55 ∷ 49 ∷ 40 ∷ 201 ∷ 3 ∷ 194 ∷ 253 ∷ 181 ∷ 212 ∷ 195 ∷ []) start (macroblock default_coefficients_of false (true ∷ false ∷ true ∷ true ∷ false ∷ true ∷ true ∷ false ∷ true ∷ []) (false ∷ true ∷ true ∷ false ∷ true ∷ true ∷ false ∷ true ∷ true ∷ []))).0
    ≡ record {
      coefficients =
          padded (pos 0 ∷ pos 0 ∷ negsuc 0 ∷ []) ∷ padded (pos 1 ∷ pos 0 ∷ negsuc 0 ∷ negsuc 0 ∷ []) ∷ padded (negsuc 2 ∷ negsuc 0 ∷ []) ∷ none ∷ padded (pos 1 ∷ negsuc 0 ∷ negsuc 0 ∷ []) ∷ padded (negsuc 1 ∷ pos 0 ∷ pos 0 ∷ pos 1 ∷ []) ∷ padded (negsuc 0 ∷ pos 0 ∷ negsuc 0 ∷ pos 0 ∷ pos 0 ∷ pos 0 ∷ pos 0 ∷ negsuc 0 ∷ []) ∷ none ∷ padded (pos 5 ∷ []) ∷ none ∷ none ∷ none ∷ none ∷ none ∷ none ∷ none ∷ none ∷ padded (pos 1 ∷ []) ∷ none ∷ none ∷ none ∷ none ∷ padded (negsuc 0 ∷ []) ∷ padded (pos 1 ∷ []) ∷ none ∷ [];
      has_coefficients = true;
      above = false ∷ false ∷ false ∷ false ∷ false ∷ false ∷ true ∷ true ∷ true ∷ [];
      left = false ∷ false ∷ false ∷ false ∷ true ∷ false ∷ false ∷ true ∷ true ∷ [];
    }
unfolding read widen next ◌>>=◌ number walk default_coefficients_of default_rows bands_of category_bases_of category_bits_of token_entries token_row token_size coefficients block places blocks macroblock listed_from
without_y2 = refl

-- skipped with Y2: all contexts are cleared
skipped_with_y2 : skipped true (true ∷ true ∷ true ∷ true ∷ true ∷ true ∷ true ∷ true ∷ true ∷ []) (false ∷ true ∷ false ∷ true ∷ false ∷ true ∷ false ∷ true ∷ true ∷ [])
    ≡ record { coefficients = no_coefficients; has_coefficients = false; above = replicate 9 false; left = replicate 9 false }
skipped_with_y2 = refl

-- skipped without Y2: that of Y2 stays
skipped_without_y2 : skipped false (true ∷ true ∷ true ∷ true ∷ true ∷ true ∷ true ∷ true ∷ true ∷ []) (false ∷ true ∷ false ∷ true ∷ false ∷ true ∷ false ∷ true ∷ false ∷ [])
    ≡ record { coefficients = no_coefficients; has_coefficients = false; above = replicate 8 false ++ true ∷ []; left = replicate 9 false }
skipped_without_y2 = refl
