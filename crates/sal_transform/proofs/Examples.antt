-- Transforms, dequantisation and factors, computed; the values are an independent program's.
use Rattle.std.proofs.Common.{◌≡◌, ℤ, pos, negsuc, List, [], ◌∷◌, refl}
use Rattle.sal_base.specs.Samples.{listed_from}
use Rattle.sal_tables.specs.Tables.{zigzag_of, dc_steps_of, ac_steps_of}
use Rattle.sal_transform.specs.Inverse.{inverse_of, out_0, out_1, out_2, out_3, scaled, rounded}
use Rattle.sal_transform.specs.Hadamard.{inverse_y2_of, sum_0, sum_1, sum_2, sum_3, eighth}
use Rattle.sal_transform.specs.Factors.{factors_of, dequantised}

first : List ℤ
first = negsuc 132 ∷ pos 0 ∷ pos 0 ∷ pos 0 ∷ pos 0 ∷ pos 0 ∷ pos 0 ∷ pos 0 ∷ pos 0 ∷ pos 0 ∷ pos 0 ∷ pos 0 ∷ pos 0 ∷ pos 0 ∷ pos 0 ∷ pos 0 ∷ []

inverse_first : inverse_of first ≡ negsuc 16 ∷ negsuc 16 ∷ negsuc 16 ∷ negsuc 16 ∷ negsuc 16 ∷ negsuc 16 ∷ negsuc 16 ∷ negsuc 16 ∷ negsuc 16 ∷ negsuc 16 ∷ negsuc 16 ∷ negsuc 16 ∷ negsuc 16 ∷ negsuc 16 ∷ negsuc 16 ∷ negsuc 16 ∷ []
unfolding first inverse_of out_0 out_1 out_2 out_3 scaled rounded
inverse_first = refl

inverse_y2_first : inverse_y2_of first ≡ negsuc 16 ∷ negsuc 16 ∷ negsuc 16 ∷ negsuc 16 ∷ negsuc 16 ∷ negsuc 16 ∷ negsuc 16 ∷ negsuc 16 ∷ negsuc 16 ∷ negsuc 16 ∷ negsuc 16 ∷ negsuc 16 ∷ negsuc 16 ∷ negsuc 16 ∷ negsuc 16 ∷ negsuc 16 ∷ []
unfolding first inverse_y2_of sum_0 sum_1 sum_2 sum_3 eighth
inverse_y2_first = refl

dequantised_first_4_4 : dequantised first (pos 4) (pos 4) ≡ negsuc 531 ∷ pos 0 ∷ pos 0 ∷ pos 0 ∷ pos 0 ∷ pos 0 ∷ pos 0 ∷ pos 0 ∷ pos 0 ∷ pos 0 ∷ pos 0 ∷ pos 0 ∷ pos 0 ∷ pos 0 ∷ pos 0 ∷ pos 0 ∷ []
unfolding first dequantised zigzag_of listed_from
dequantised_first_4_4 = refl

dequantised_first_19_24 : dequantised first (pos 19) (pos 24) ≡ negsuc 2526 ∷ pos 0 ∷ pos 0 ∷ pos 0 ∷ pos 0 ∷ pos 0 ∷ pos 0 ∷ pos 0 ∷ pos 0 ∷ pos 0 ∷ pos 0 ∷ pos 0 ∷ pos 0 ∷ pos 0 ∷ pos 0 ∷ pos 0 ∷ []
unfolding first dequantised zigzag_of listed_from
dequantised_first_19_24 = refl

dequantised_first_314_440 : dequantised first (pos 314) (pos 440) ≡ negsuc 41761 ∷ pos 0 ∷ pos 0 ∷ pos 0 ∷ pos 0 ∷ pos 0 ∷ pos 0 ∷ pos 0 ∷ pos 0 ∷ pos 0 ∷ pos 0 ∷ pos 0 ∷ pos 0 ∷ pos 0 ∷ pos 0 ∷ pos 0 ∷ []
unfolding first dequantised zigzag_of listed_from
dequantised_first_314_440 = refl

full : List ℤ
full = negsuc 470 ∷ negsuc 241 ∷ pos 1291 ∷ negsuc 1411 ∷ pos 1366 ∷ negsuc 1625 ∷ pos 1225 ∷ pos 1953 ∷ pos 3 ∷ negsuc 190 ∷ negsuc 41 ∷ negsuc 527 ∷ negsuc 1734 ∷ pos 624 ∷ negsuc 128 ∷ pos 55 ∷ []

inverse_full : inverse_of full ≡ pos 75 ∷ negsuc 554 ∷ negsuc 44 ∷ pos 714 ∷ pos 309 ∷ negsuc 87 ∷ pos 181 ∷ pos 866 ∷ negsuc 229 ∷ negsuc 80 ∷ negsuc 913 ∷ negsuc 513 ∷ negsuc 283 ∷ pos 701 ∷ negsuc 958 ∷ negsuc 114 ∷ []
unfolding full inverse_of out_0 out_1 out_2 out_3 scaled rounded
inverse_full = refl

inverse_y2_full : inverse_y2_of full ≡ pos 18 ∷ negsuc 585 ∷ negsuc 209 ∷ pos 359 ∷ pos 503 ∷ negsuc 421 ∷ pos 407 ∷ pos 825 ∷ negsuc 521 ∷ pos 178 ∷ negsuc 1066 ∷ negsuc 376 ∷ negsuc 415 ∷ pos 533 ∷ negsuc 595 ∷ pos 429 ∷ []
unfolding full inverse_y2_of sum_0 sum_1 sum_2 sum_3 eighth
inverse_y2_full = refl

dequantised_full_4_4 : dequantised full (pos 4) (pos 4) ≡ negsuc 1883 ∷ negsuc 967 ∷ negsuc 6503 ∷ pos 4900 ∷ pos 5164 ∷ pos 5464 ∷ pos 7812 ∷ negsuc 6939 ∷ negsuc 5647 ∷ pos 12 ∷ negsuc 2111 ∷ pos 2496 ∷ negsuc 763 ∷ negsuc 167 ∷ negsuc 515 ∷ pos 220 ∷ []
unfolding full dequantised zigzag_of listed_from
dequantised_full_4_4 = refl

dequantised_full_19_24 : dequantised full (pos 19) (pos 24) ≡ negsuc 8948 ∷ negsuc 5807 ∷ negsuc 39023 ∷ pos 29400 ∷ pos 30984 ∷ pos 32784 ∷ pos 46872 ∷ negsuc 41639 ∷ negsuc 33887 ∷ pos 72 ∷ negsuc 12671 ∷ pos 14976 ∷ negsuc 4583 ∷ negsuc 1007 ∷ negsuc 3095 ∷ pos 1320 ∷ []
unfolding full dequantised zigzag_of listed_from
dequantised_full_19_24 = refl

dequantised_full_314_440 : dequantised full (pos 314) (pos 440) ≡ negsuc 147893 ∷ negsuc 106479 ∷ negsuc 715439 ∷ pos 539000 ∷ pos 568040 ∷ pos 601040 ∷ pos 859320 ∷ negsuc 763399 ∷ negsuc 621279 ∷ pos 1320 ∷ negsuc 232319 ∷ pos 274560 ∷ negsuc 84039 ∷ negsuc 18479 ∷ negsuc 56759 ∷ pos 24200 ∷ []
unfolding full dequantised zigzag_of listed_from
dequantised_full_314_440 = refl

factors_0 : factors_of 0 (pos 0) (pos 0) (pos 0) (pos 0) (pos 0) ≡ record { y_dc = 4; y_ac = 4; y2_dc = 8; y2_ac = 8; uv_dc = 4; uv_ac = 4 }
unfolding factors_of dc_steps_of ac_steps_of
factors_0 = refl

factors_127 : factors_of 127 (pos 0) (pos 0) (pos 0) (pos 0) (pos 0) ≡ record { y_dc = 157; y_ac = 284; y2_dc = 314; y2_ac = 440; uv_dc = 132; uv_ac = 284 }
unfolding factors_of dc_steps_of ac_steps_of
factors_127 = refl

factors_60 : factors_of 60 (negsuc 14) (pos 15) (pos 7) (negsuc 2) (pos 12) ≡ record { y_dc = 41; y_ac = 70; y2_dc = 140; y2_ac = 130; uv_dc = 52; uv_ac = 94 }
unfolding factors_of dc_steps_of ac_steps_of
factors_60 = refl

factors_3 : factors_of 3 (negsuc 14) (negsuc 14) (negsuc 14) (negsuc 14) (negsuc 14) ≡ record { y_dc = 4; y_ac = 7; y2_dc = 8; y2_ac = 8; uv_dc = 4; uv_ac = 4 }
unfolding factors_of dc_steps_of ac_steps_of
factors_3 = refl

factors_120 : factors_of 120 (pos 15) (pos 15) (pos 15) (pos 15) (pos 15) ≡ record { y_dc = 157; y_ac = 249; y2_dc = 314; y2_ac = 440; uv_dc = 132; uv_ac = 284 }
unfolding factors_of dc_steps_of ac_steps_of
factors_120 = refl

factors_116 : factors_of 116 (pos 0) (pos 0) (pos 0) (pos 0) (pos 0) ≡ record { y_dc = 130; y_ac = 229; y2_dc = 260; y2_ac = 354; uv_dc = 130; uv_ac = 229 }
unfolding factors_of dc_steps_of ac_steps_of
factors_116 = refl

factors_117 : factors_of 117 (pos 0) (pos 0) (pos 0) (pos 0) (pos 0) ≡ record { y_dc = 132; y_ac = 234; y2_dc = 264; y2_ac = 362; uv_dc = 132; uv_ac = 234 }
unfolding factors_of dc_steps_of ac_steps_of
factors_117 = refl
