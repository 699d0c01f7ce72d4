-- One place of an edge through each filter, computed; the values are an independent program's.
use Rattle.std.proofs.Common.{◌≡◌, ℕ, List, [], ◌∷◌, Bool, true, false, refl}
use Rattle.sal_filter.specs.Limits.{limits_of, interior_of, threshold_of}
use Rattle.sal_filter.specs.Edges.{place_filtered, simple, inner, outer, q0_adjustment, p0_adjustment, q1_adjustment, part}
use Rattle.sal_filter.specs.Filtered.{edge_of, place_put}

opened : Bool → Bool → Bool → ℕ → ℕ → List ℕ → List ℕ
opened key is_simple is_outer sharpness level xs = place_put (edge_of is_simple is_outer (limits_of key sharpness level)) 4 1 xs

row_0_simple_outer_20_key : opened true true true 0 20 (100 ∷ 100 ∷ 101 ∷ 103 ∷ 110 ∷ 111 ∷ 112 ∷ 112 ∷ []) ≡ 100 ∷ 100 ∷ 101 ∷ 104 ∷ 109 ∷ 111 ∷ 112 ∷ 112 ∷ []
unfolding opened place_put place_filtered simple inner outer q0_adjustment p0_adjustment q1_adjustment part limits_of interior_of threshold_of
row_0_simple_outer_20_key = refl

row_0_simple_outer_45_key : opened true true true 5 45 (100 ∷ 100 ∷ 101 ∷ 103 ∷ 110 ∷ 111 ∷ 112 ∷ 112 ∷ []) ≡ 100 ∷ 100 ∷ 101 ∷ 104 ∷ 109 ∷ 111 ∷ 112 ∷ 112 ∷ []
unfolding opened place_put place_filtered simple inner outer q0_adjustment p0_adjustment q1_adjustment part limits_of interior_of threshold_of
row_0_simple_outer_45_key = refl

row_0_simple_inner_20_key : opened true true false 0 20 (100 ∷ 100 ∷ 101 ∷ 103 ∷ 110 ∷ 111 ∷ 112 ∷ 112 ∷ []) ≡ 100 ∷ 100 ∷ 101 ∷ 104 ∷ 109 ∷ 111 ∷ 112 ∷ 112 ∷ []
unfolding opened place_put place_filtered simple inner outer q0_adjustment p0_adjustment q1_adjustment part limits_of interior_of threshold_of
row_0_simple_inner_20_key = refl

row_0_simple_inner_45_key : opened true true false 5 45 (100 ∷ 100 ∷ 101 ∷ 103 ∷ 110 ∷ 111 ∷ 112 ∷ 112 ∷ []) ≡ 100 ∷ 100 ∷ 101 ∷ 104 ∷ 109 ∷ 111 ∷ 112 ∷ 112 ∷ []
unfolding opened place_put place_filtered simple inner outer q0_adjustment p0_adjustment q1_adjustment part limits_of interior_of threshold_of
row_0_simple_inner_45_key = refl

row_0_normal_outer_20_key : opened true false true 0 20 (100 ∷ 100 ∷ 101 ∷ 103 ∷ 110 ∷ 111 ∷ 112 ∷ 112 ∷ []) ≡ 100 ∷ 100 ∷ 101 ∷ 104 ∷ 109 ∷ 111 ∷ 112 ∷ 112 ∷ []
unfolding opened place_put place_filtered simple inner outer q0_adjustment p0_adjustment q1_adjustment part limits_of interior_of threshold_of
row_0_normal_outer_20_key = refl

row_0_normal_outer_20_inter : opened false false true 0 20 (100 ∷ 100 ∷ 101 ∷ 103 ∷ 110 ∷ 111 ∷ 112 ∷ 112 ∷ []) ≡ 100 ∷ 101 ∷ 103 ∷ 105 ∷ 108 ∷ 109 ∷ 111 ∷ 112 ∷ []
unfolding opened place_put place_filtered simple inner outer q0_adjustment p0_adjustment q1_adjustment part limits_of interior_of threshold_of
row_0_normal_outer_20_inter = refl

row_0_normal_outer_45_key : opened true false true 5 45 (100 ∷ 100 ∷ 101 ∷ 103 ∷ 110 ∷ 111 ∷ 112 ∷ 112 ∷ []) ≡ 100 ∷ 101 ∷ 103 ∷ 105 ∷ 108 ∷ 109 ∷ 111 ∷ 112 ∷ []
unfolding opened place_put place_filtered simple inner outer q0_adjustment p0_adjustment q1_adjustment part limits_of interior_of threshold_of
row_0_normal_outer_45_key = refl

row_0_normal_inner_20_key : opened true false false 0 20 (100 ∷ 100 ∷ 101 ∷ 103 ∷ 110 ∷ 111 ∷ 112 ∷ 112 ∷ []) ≡ 100 ∷ 100 ∷ 101 ∷ 104 ∷ 109 ∷ 111 ∷ 112 ∷ 112 ∷ []
unfolding opened place_put place_filtered simple inner outer q0_adjustment p0_adjustment q1_adjustment part limits_of interior_of threshold_of
row_0_normal_inner_20_key = refl

row_0_normal_inner_20_inter : opened false false false 0 20 (100 ∷ 100 ∷ 101 ∷ 103 ∷ 110 ∷ 111 ∷ 112 ∷ 112 ∷ []) ≡ 100 ∷ 100 ∷ 103 ∷ 106 ∷ 107 ∷ 109 ∷ 112 ∷ 112 ∷ []
unfolding opened place_put place_filtered simple inner outer q0_adjustment p0_adjustment q1_adjustment part limits_of interior_of threshold_of
row_0_normal_inner_20_inter = refl

row_0_normal_inner_45_key : opened true false false 5 45 (100 ∷ 100 ∷ 101 ∷ 103 ∷ 110 ∷ 111 ∷ 112 ∷ 112 ∷ []) ≡ 100 ∷ 100 ∷ 103 ∷ 106 ∷ 107 ∷ 109 ∷ 112 ∷ 112 ∷ []
unfolding opened place_put place_filtered simple inner outer q0_adjustment p0_adjustment q1_adjustment part limits_of interior_of threshold_of
row_0_normal_inner_45_key = refl

row_1_simple_outer_20_key : opened true true true 0 20 (90 ∷ 92 ∷ 95 ∷ 100 ∷ 108 ∷ 104 ∷ 103 ∷ 101 ∷ []) ≡ 90 ∷ 92 ∷ 95 ∷ 102 ∷ 106 ∷ 104 ∷ 103 ∷ 101 ∷ []
unfolding opened place_put place_filtered simple inner outer q0_adjustment p0_adjustment q1_adjustment part limits_of interior_of threshold_of
row_1_simple_outer_20_key = refl

row_1_simple_outer_45_key : opened true true true 5 45 (90 ∷ 92 ∷ 95 ∷ 100 ∷ 108 ∷ 104 ∷ 103 ∷ 101 ∷ []) ≡ 90 ∷ 92 ∷ 95 ∷ 102 ∷ 106 ∷ 104 ∷ 103 ∷ 101 ∷ []
unfolding opened place_put place_filtered simple inner outer q0_adjustment p0_adjustment q1_adjustment part limits_of interior_of threshold_of
row_1_simple_outer_45_key = refl

row_1_simple_inner_20_key : opened true true false 0 20 (90 ∷ 92 ∷ 95 ∷ 100 ∷ 108 ∷ 104 ∷ 103 ∷ 101 ∷ []) ≡ 90 ∷ 92 ∷ 95 ∷ 102 ∷ 106 ∷ 104 ∷ 103 ∷ 101 ∷ []
unfolding opened place_put place_filtered simple inner outer q0_adjustment p0_adjustment q1_adjustment part limits_of interior_of threshold_of
row_1_simple_inner_20_key = refl

row_1_simple_inner_45_key : opened true true false 5 45 (90 ∷ 92 ∷ 95 ∷ 100 ∷ 108 ∷ 104 ∷ 103 ∷ 101 ∷ []) ≡ 90 ∷ 92 ∷ 95 ∷ 102 ∷ 106 ∷ 104 ∷ 103 ∷ 101 ∷ []
unfolding opened place_put place_filtered simple inner outer q0_adjustment p0_adjustment q1_adjustment part limits_of interior_of threshold_of
row_1_simple_inner_45_key = refl

row_1_normal_outer_20_key : opened true false true 0 20 (90 ∷ 92 ∷ 95 ∷ 100 ∷ 108 ∷ 104 ∷ 103 ∷ 101 ∷ []) ≡ 90 ∷ 92 ∷ 95 ∷ 102 ∷ 106 ∷ 104 ∷ 103 ∷ 101 ∷ []
unfolding opened place_put place_filtered simple inner outer q0_adjustment p0_adjustment q1_adjustment part limits_of interior_of threshold_of
row_1_normal_outer_20_key = refl

row_1_normal_outer_20_inter : opened false false true 0 20 (90 ∷ 92 ∷ 95 ∷ 100 ∷ 108 ∷ 104 ∷ 103 ∷ 101 ∷ []) ≡ 90 ∷ 92 ∷ 95 ∷ 102 ∷ 106 ∷ 104 ∷ 103 ∷ 101 ∷ []
unfolding opened place_put place_filtered simple inner outer q0_adjustment p0_adjustment q1_adjustment part limits_of interior_of threshold_of
row_1_normal_outer_20_inter = refl

row_1_normal_outer_45_key : opened true false true 5 45 (90 ∷ 92 ∷ 95 ∷ 100 ∷ 108 ∷ 104 ∷ 103 ∷ 101 ∷ []) ≡ 90 ∷ 92 ∷ 95 ∷ 100 ∷ 108 ∷ 104 ∷ 103 ∷ 101 ∷ []
unfolding opened place_put place_filtered simple inner outer q0_adjustment p0_adjustment q1_adjustment part limits_of interior_of threshold_of
row_1_normal_outer_45_key = refl

row_1_normal_inner_20_key : opened true false false 0 20 (90 ∷ 92 ∷ 95 ∷ 100 ∷ 108 ∷ 104 ∷ 103 ∷ 101 ∷ []) ≡ 90 ∷ 92 ∷ 95 ∷ 102 ∷ 106 ∷ 104 ∷ 103 ∷ 101 ∷ []
unfolding opened place_put place_filtered simple inner outer q0_adjustment p0_adjustment q1_adjustment part limits_of interior_of threshold_of
row_1_normal_inner_20_key = refl

row_1_normal_inner_20_inter : opened false false false 0 20 (90 ∷ 92 ∷ 95 ∷ 100 ∷ 108 ∷ 104 ∷ 103 ∷ 101 ∷ []) ≡ 90 ∷ 92 ∷ 95 ∷ 102 ∷ 106 ∷ 104 ∷ 103 ∷ 101 ∷ []
unfolding opened place_put place_filtered simple inner outer q0_adjustment p0_adjustment q1_adjustment part limits_of interior_of threshold_of
row_1_normal_inner_20_inter = refl

row_1_normal_inner_45_key : opened true false false 5 45 (90 ∷ 92 ∷ 95 ∷ 100 ∷ 108 ∷ 104 ∷ 103 ∷ 101 ∷ []) ≡ 90 ∷ 92 ∷ 95 ∷ 100 ∷ 108 ∷ 104 ∷ 103 ∷ 101 ∷ []
unfolding opened place_put place_filtered simple inner outer q0_adjustment p0_adjustment q1_adjustment part limits_of interior_of threshold_of
row_1_normal_inner_45_key = refl

row_2_simple_outer_20_key : opened true true true 0 20 (60 ∷ 60 ∷ 61 ∷ 62 ∷ 200 ∷ 201 ∷ 202 ∷ 202 ∷ []) ≡ 60 ∷ 60 ∷ 61 ∷ 62 ∷ 200 ∷ 201 ∷ 202 ∷ 202 ∷ []
unfolding opened place_put place_filtered simple inner outer q0_adjustment p0_adjustment q1_adjustment part limits_of interior_of threshold_of
row_2_simple_outer_20_key = refl

row_2_simple_outer_45_key : opened true true true 5 45 (60 ∷ 60 ∷ 61 ∷ 62 ∷ 200 ∷ 201 ∷ 202 ∷ 202 ∷ []) ≡ 60 ∷ 60 ∷ 61 ∷ 62 ∷ 200 ∷ 201 ∷ 202 ∷ 202 ∷ []
unfolding opened place_put place_filtered simple inner outer q0_adjustment p0_adjustment q1_adjustment part limits_of interior_of threshold_of
row_2_simple_outer_45_key = refl

row_2_simple_inner_20_key : opened true true false 0 20 (60 ∷ 60 ∷ 61 ∷ 62 ∷ 200 ∷ 201 ∷ 202 ∷ 202 ∷ []) ≡ 60 ∷ 60 ∷ 61 ∷ 62 ∷ 200 ∷ 201 ∷ 202 ∷ 202 ∷ []
unfolding opened place_put place_filtered simple inner outer q0_adjustment p0_adjustment q1_adjustment part limits_of interior_of threshold_of
row_2_simple_inner_20_key = refl

row_2_simple_inner_45_key : opened true true false 5 45 (60 ∷ 60 ∷ 61 ∷ 62 ∷ 200 ∷ 201 ∷ 202 ∷ 202 ∷ []) ≡ 60 ∷ 60 ∷ 61 ∷ 62 ∷ 200 ∷ 201 ∷ 202 ∷ 202 ∷ []
unfolding opened place_put place_filtered simple inner outer q0_adjustment p0_adjustment q1_adjustment part limits_of interior_of threshold_of
row_2_simple_inner_45_key = refl

row_2_normal_outer_20_key : opened true false true 0 20 (60 ∷ 60 ∷ 61 ∷ 62 ∷ 200 ∷ 201 ∷ 202 ∷ 202 ∷ []) ≡ 60 ∷ 60 ∷ 61 ∷ 62 ∷ 200 ∷ 201 ∷ 202 ∷ 202 ∷ []
unfolding opened place_put place_filtered simple inner outer q0_adjustment p0_adjustment q1_adjustment part limits_of interior_of threshold_of
row_2_normal_outer_20_key = refl

row_2_normal_outer_20_inter : opened false false true 0 20 (60 ∷ 60 ∷ 61 ∷ 62 ∷ 200 ∷ 201 ∷ 202 ∷ 202 ∷ []) ≡ 60 ∷ 60 ∷ 61 ∷ 62 ∷ 200 ∷ 201 ∷ 202 ∷ 202 ∷ []
unfolding opened place_put place_filtered simple inner outer q0_adjustment p0_adjustment q1_adjustment part limits_of interior_of threshold_of
row_2_normal_outer_20_inter = refl

row_2_normal_outer_45_key : opened true false true 5 45 (60 ∷ 60 ∷ 61 ∷ 62 ∷ 200 ∷ 201 ∷ 202 ∷ 202 ∷ []) ≡ 60 ∷ 60 ∷ 61 ∷ 62 ∷ 200 ∷ 201 ∷ 202 ∷ 202 ∷ []
unfolding opened place_put place_filtered simple inner outer q0_adjustment p0_adjustment q1_adjustment part limits_of interior_of threshold_of
row_2_normal_outer_45_key = refl

row_2_normal_inner_20_key : opened true false false 0 20 (60 ∷ 60 ∷ 61 ∷ 62 ∷ 200 ∷ 201 ∷ 202 ∷ 202 ∷ []) ≡ 60 ∷ 60 ∷ 61 ∷ 62 ∷ 200 ∷ 201 ∷ 202 ∷ 202 ∷ []
unfolding opened place_put place_filtered simple inner outer q0_adjustment p0_adjustment q1_adjustment part limits_of interior_of threshold_of
row_2_normal_inner_20_key = refl

row_2_normal_inner_20_inter : opened false false false 0 20 (60 ∷ 60 ∷ 61 ∷ 62 ∷ 200 ∷ 201 ∷ 202 ∷ 202 ∷ []) ≡ 60 ∷ 60 ∷ 61 ∷ 62 ∷ 200 ∷ 201 ∷ 202 ∷ 202 ∷ []
unfolding opened place_put place_filtered simple inner outer q0_adjustment p0_adjustment q1_adjustment part limits_of interior_of threshold_of
row_2_normal_inner_20_inter = refl

row_2_normal_inner_45_key : opened true false false 5 45 (60 ∷ 60 ∷ 61 ∷ 62 ∷ 200 ∷ 201 ∷ 202 ∷ 202 ∷ []) ≡ 60 ∷ 60 ∷ 61 ∷ 62 ∷ 200 ∷ 201 ∷ 202 ∷ 202 ∷ []
unfolding opened place_put place_filtered simple inner outer q0_adjustment p0_adjustment q1_adjustment part limits_of interior_of threshold_of
row_2_normal_inner_45_key = refl

row_3_simple_outer_20_key : opened true true true 0 20 (3 ∷ 3 ∷ 2 ∷ 0 ∷ 7 ∷ 9 ∷ 9 ∷ 9 ∷ []) ≡ 3 ∷ 3 ∷ 2 ∷ 2 ∷ 5 ∷ 9 ∷ 9 ∷ 9 ∷ []
unfolding opened place_put place_filtered simple inner outer q0_adjustment p0_adjustment q1_adjustment part limits_of interior_of threshold_of
row_3_simple_outer_20_key = refl

row_3_simple_outer_45_key : opened true true true 5 45 (3 ∷ 3 ∷ 2 ∷ 0 ∷ 7 ∷ 9 ∷ 9 ∷ 9 ∷ []) ≡ 3 ∷ 3 ∷ 2 ∷ 2 ∷ 5 ∷ 9 ∷ 9 ∷ 9 ∷ []
unfolding opened place_put place_filtered simple inner outer q0_adjustment p0_adjustment q1_adjustment part limits_of interior_of threshold_of
row_3_simple_outer_45_key = refl

row_3_simple_inner_20_key : opened true true false 0 20 (3 ∷ 3 ∷ 2 ∷ 0 ∷ 7 ∷ 9 ∷ 9 ∷ 9 ∷ []) ≡ 3 ∷ 3 ∷ 2 ∷ 2 ∷ 5 ∷ 9 ∷ 9 ∷ 9 ∷ []
unfolding opened place_put place_filtered simple inner outer q0_adjustment p0_adjustment q1_adjustment part limits_of interior_of threshold_of
row_3_simple_inner_20_key = refl

row_3_simple_inner_45_key : opened true true false 5 45 (3 ∷ 3 ∷ 2 ∷ 0 ∷ 7 ∷ 9 ∷ 9 ∷ 9 ∷ []) ≡ 3 ∷ 3 ∷ 2 ∷ 2 ∷ 5 ∷ 9 ∷ 9 ∷ 9 ∷ []
unfolding opened place_put place_filtered simple inner outer q0_adjustment p0_adjustment q1_adjustment part limits_of interior_of threshold_of
row_3_simple_inner_45_key = refl

row_3_normal_outer_20_key : opened true false true 0 20 (3 ∷ 3 ∷ 2 ∷ 0 ∷ 7 ∷ 9 ∷ 9 ∷ 9 ∷ []) ≡ 3 ∷ 3 ∷ 2 ∷ 2 ∷ 5 ∷ 9 ∷ 9 ∷ 9 ∷ []
unfolding opened place_put place_filtered simple inner outer q0_adjustment p0_adjustment q1_adjustment part limits_of interior_of threshold_of
row_3_normal_outer_20_key = refl

row_3_normal_outer_20_inter : opened false false true 0 20 (3 ∷ 3 ∷ 2 ∷ 0 ∷ 7 ∷ 9 ∷ 9 ∷ 9 ∷ []) ≡ 3 ∷ 4 ∷ 4 ∷ 3 ∷ 4 ∷ 7 ∷ 8 ∷ 9 ∷ []
unfolding opened place_put place_filtered simple inner outer q0_adjustment p0_adjustment q1_adjustment part limits_of interior_of threshold_of
row_3_normal_outer_20_inter = refl

row_3_normal_outer_45_key : opened true false true 5 45 (3 ∷ 3 ∷ 2 ∷ 0 ∷ 7 ∷ 9 ∷ 9 ∷ 9 ∷ []) ≡ 3 ∷ 4 ∷ 4 ∷ 3 ∷ 4 ∷ 7 ∷ 8 ∷ 9 ∷ []
unfolding opened place_put place_filtered simple inner outer q0_adjustment p0_adjustment q1_adjustment part limits_of interior_of threshold_of
row_3_normal_outer_45_key = refl

row_3_normal_inner_20_key : opened true false false 0 20 (3 ∷ 3 ∷ 2 ∷ 0 ∷ 7 ∷ 9 ∷ 9 ∷ 9 ∷ []) ≡ 3 ∷ 3 ∷ 2 ∷ 2 ∷ 5 ∷ 9 ∷ 9 ∷ 9 ∷ []
unfolding opened place_put place_filtered simple inner outer q0_adjustment p0_adjustment q1_adjustment part limits_of interior_of threshold_of
row_3_normal_inner_20_key = refl

row_3_normal_inner_20_inter : opened false false false 0 20 (3 ∷ 3 ∷ 2 ∷ 0 ∷ 7 ∷ 9 ∷ 9 ∷ 9 ∷ []) ≡ 3 ∷ 3 ∷ 4 ∷ 3 ∷ 4 ∷ 7 ∷ 9 ∷ 9 ∷ []
unfolding opened place_put place_filtered simple inner outer q0_adjustment p0_adjustment q1_adjustment part limits_of interior_of threshold_of
row_3_normal_inner_20_inter = refl

row_3_normal_inner_45_key : opened true false false 5 45 (3 ∷ 3 ∷ 2 ∷ 0 ∷ 7 ∷ 9 ∷ 9 ∷ 9 ∷ []) ≡ 3 ∷ 3 ∷ 4 ∷ 3 ∷ 4 ∷ 7 ∷ 9 ∷ 9 ∷ []
unfolding opened place_put place_filtered simple inner outer q0_adjustment p0_adjustment q1_adjustment part limits_of interior_of threshold_of
row_3_normal_inner_45_key = refl

row_4_simple_outer_20_key : opened true true true 0 20 (250 ∷ 250 ∷ 252 ∷ 255 ∷ 248 ∷ 247 ∷ 246 ∷ 246 ∷ []) ≡ 250 ∷ 250 ∷ 252 ∷ 253 ∷ 250 ∷ 247 ∷ 246 ∷ 246 ∷ []
unfolding opened place_put place_filtered simple inner outer q0_adjustment p0_adjustment q1_adjustment part limits_of interior_of threshold_of
row_4_simple_outer_20_key = refl

row_4_simple_outer_45_key : opened true true true 5 45 (250 ∷ 250 ∷ 252 ∷ 255 ∷ 248 ∷ 247 ∷ 246 ∷ 246 ∷ []) ≡ 250 ∷ 250 ∷ 252 ∷ 253 ∷ 250 ∷ 247 ∷ 246 ∷ 246 ∷ []
unfolding opened place_put place_filtered simple inner outer q0_adjustment p0_adjustment q1_adjustment part limits_of interior_of threshold_of
row_4_simple_outer_45_key = refl

row_4_simple_inner_20_key : opened true true false 0 20 (250 ∷ 250 ∷ 252 ∷ 255 ∷ 248 ∷ 247 ∷ 246 ∷ 246 ∷ []) ≡ 250 ∷ 250 ∷ 252 ∷ 253 ∷ 250 ∷ 247 ∷ 246 ∷ 246 ∷ []
unfolding opened place_put place_filtered simple inner outer q0_adjustment p0_adjustment q1_adjustment part limits_of interior_of threshold_of
row_4_simple_inner_20_key = refl

row_4_simple_inner_45_key : opened true true false 5 45 (250 ∷ 250 ∷ 252 ∷ 255 ∷ 248 ∷ 247 ∷ 246 ∷ 246 ∷ []) ≡ 250 ∷ 250 ∷ 252 ∷ 253 ∷ 250 ∷ 247 ∷ 246 ∷ 246 ∷ []
unfolding opened place_put place_filtered simple inner outer q0_adjustment p0_adjustment q1_adjustment part limits_of interior_of threshold_of
row_4_simple_inner_45_key = refl

row_4_normal_outer_20_key : opened true false true 0 20 (250 ∷ 250 ∷ 252 ∷ 255 ∷ 248 ∷ 247 ∷ 246 ∷ 246 ∷ []) ≡ 250 ∷ 250 ∷ 252 ∷ 253 ∷ 250 ∷ 247 ∷ 246 ∷ 246 ∷ []
unfolding opened place_put place_filtered simple inner outer q0_adjustment p0_adjustment q1_adjustment part limits_of interior_of threshold_of
row_4_normal_outer_20_key = refl

row_4_normal_outer_20_inter : opened false false true 0 20 (250 ∷ 250 ∷ 252 ∷ 255 ∷ 248 ∷ 247 ∷ 246 ∷ 246 ∷ []) ≡ 250 ∷ 250 ∷ 252 ∷ 253 ∷ 250 ∷ 247 ∷ 246 ∷ 246 ∷ []
unfolding opened place_put place_filtered simple inner outer q0_adjustment p0_adjustment q1_adjustment part limits_of interior_of threshold_of
row_4_normal_outer_20_inter = refl

row_4_normal_outer_45_key : opened true false true 5 45 (250 ∷ 250 ∷ 252 ∷ 255 ∷ 248 ∷ 247 ∷ 246 ∷ 246 ∷ []) ≡ 250 ∷ 250 ∷ 252 ∷ 253 ∷ 250 ∷ 247 ∷ 246 ∷ 246 ∷ []
unfolding opened place_put place_filtered simple inner outer q0_adjustment p0_adjustment q1_adjustment part limits_of interior_of threshold_of
row_4_normal_outer_45_key = refl

row_4_normal_inner_20_key : opened true false false 0 20 (250 ∷ 250 ∷ 252 ∷ 255 ∷ 248 ∷ 247 ∷ 246 ∷ 246 ∷ []) ≡ 250 ∷ 250 ∷ 252 ∷ 253 ∷ 250 ∷ 247 ∷ 246 ∷ 246 ∷ []
unfolding opened place_put place_filtered simple inner outer q0_adjustment p0_adjustment q1_adjustment part limits_of interior_of threshold_of
row_4_normal_inner_20_key = refl

row_4_normal_inner_20_inter : opened false false false 0 20 (250 ∷ 250 ∷ 252 ∷ 255 ∷ 248 ∷ 247 ∷ 246 ∷ 246 ∷ []) ≡ 250 ∷ 250 ∷ 252 ∷ 253 ∷ 250 ∷ 247 ∷ 246 ∷ 246 ∷ []
unfolding opened place_put place_filtered simple inner outer q0_adjustment p0_adjustment q1_adjustment part limits_of interior_of threshold_of
row_4_normal_inner_20_inter = refl

row_4_normal_inner_45_key : opened true false false 5 45 (250 ∷ 250 ∷ 252 ∷ 255 ∷ 248 ∷ 247 ∷ 246 ∷ 246 ∷ []) ≡ 250 ∷ 250 ∷ 252 ∷ 253 ∷ 250 ∷ 247 ∷ 246 ∷ 246 ∷ []
unfolding opened place_put place_filtered simple inner outer q0_adjustment p0_adjustment q1_adjustment part limits_of interior_of threshold_of
row_4_normal_inner_45_key = refl
