-- The forward transforms and the quantiser, computed; the values are an independent program's.
use Rattle.std.proofs.Common.{◌≡◌, ℤ, pos, negsuc, List, [], ◌∷◌, refl}
use Rattle.sal_base.specs.Samples.{listed_from}
use Rattle.sal_tables.specs.Tables.{zigzag_of}
use Rattle.sal_transform.specs.Hadamard.{sum_0, sum_1, sum_2, sum_3}
use Rattle.sal_transform.specs.Forward.{part_4, part_12, part_16, row_0, row_1, row_2, row_3, column_0, column_1, column_2, column_3, forward_of, half, forward_y2_of, quantised_value, quantised}

first : List ℤ
first = negsuc 132 ∷ pos 0 ∷ pos 0 ∷ pos 0 ∷ pos 0 ∷ pos 0 ∷ pos 0 ∷ pos 0 ∷ pos 0 ∷ pos 0 ∷ pos 0 ∷ pos 0 ∷ pos 0 ∷ pos 0 ∷ pos 0 ∷ pos 0 ∷ []

full : List ℤ
full = pos 1382 ∷ pos 694 ∷ negsuc 1037 ∷ negsuc 763 ∷ pos 451 ∷ pos 1891 ∷ pos 262 ∷ negsuc 1213 ∷ negsuc 1250 ∷ pos 1851 ∷ negsuc 496 ∷ pos 1559 ∷ pos 617 ∷ pos 1029 ∷ negsuc 1616 ∷ negsuc 493 ∷ []

forward_first : forward_of first ≡ negsuc 65 ∷ negsuc 86 ∷ negsuc 65 ∷ negsuc 35 ∷ negsuc 86 ∷ negsuc 113 ∷ negsuc 86 ∷ negsuc 46 ∷ negsuc 65 ∷ negsuc 86 ∷ negsuc 65 ∷ negsuc 35 ∷ negsuc 35 ∷ negsuc 46 ∷ negsuc 35 ∷ negsuc 18 ∷ []
unfolding first forward_of row_0 row_1 row_2 row_3 column_0 column_1 column_2 column_3 part_4 part_12 part_16
forward_first = refl

forward_y2_first : forward_y2_of first ≡ negsuc 65 ∷ negsuc 65 ∷ negsuc 65 ∷ negsuc 65 ∷ negsuc 65 ∷ negsuc 65 ∷ negsuc 65 ∷ negsuc 65 ∷ negsuc 65 ∷ negsuc 65 ∷ negsuc 65 ∷ negsuc 65 ∷ negsuc 65 ∷ negsuc 65 ∷ negsuc 65 ∷ negsuc 65 ∷ []
unfolding first forward_y2_of sum_0 sum_1 sum_2 sum_3 half
forward_y2_first = refl

quantised_first : quantised first (pos 19) (pos 24) ≡ negsuc 6 ∷ pos 0 ∷ pos 0 ∷ pos 0 ∷ pos 0 ∷ pos 0 ∷ pos 0 ∷ pos 0 ∷ pos 0 ∷ pos 0 ∷ pos 0 ∷ pos 0 ∷ pos 0 ∷ pos 0 ∷ pos 0 ∷ pos 0 ∷ []
unfolding first quantised quantised_value zigzag_of listed_from
quantised_first = refl

forward_full : forward_of full ≡ pos 1431 ∷ pos 3641 ∷ negsuc 1143 ∷ negsuc 4886 ∷ pos 409 ∷ pos 2037 ∷ negsuc 341 ∷ pos 2056 ∷ negsuc 1620 ∷ pos 2984 ∷ pos 2818 ∷ pos 929 ∷ pos 378 ∷ negsuc 3333 ∷ pos 1290 ∷ negsuc 1720 ∷ []
unfolding full forward_of row_0 row_1 row_2 row_3 column_0 column_1 column_2 column_3 part_4 part_12 part_16
forward_full = refl

forward_y2_full : forward_y2_of full ≡ pos 1431 ∷ pos 5234 ∷ negsuc 1143 ∷ negsuc 3120 ∷ pos 234 ∷ pos 1939 ∷ negsuc 808 ∷ pos 3572 ∷ negsuc 1620 ∷ pos 2402 ∷ pos 2818 ∷ pos 2001 ∷ pos 506 ∷ negsuc 1816 ∷ pos 1061 ∷ negsuc 1621 ∷ []
unfolding full forward_y2_of sum_0 sum_1 sum_2 sum_3 half
forward_y2_full = refl

quantised_full : quantised full (pos 19) (pos 24) ≡ pos 73 ∷ pos 29 ∷ pos 19 ∷ negsuc 51 ∷ pos 79 ∷ negsuc 42 ∷ negsuc 31 ∷ pos 11 ∷ pos 77 ∷ pos 26 ∷ pos 43 ∷ negsuc 20 ∷ negsuc 49 ∷ pos 65 ∷ negsuc 66 ∷ negsuc 19 ∷ []
unfolding full quantised quantised_value zigzag_of listed_from
quantised_full = refl
