-- How many bits a header takes at most.
use Rattle.std.proofs.Common.{◌≡◌, ℕ, ◌*◌, ℤ, pos, List, Bool, true, false, not, refl, arith, length, replicate}
use Rattle.sal_bool.specs.Syntax.{literal, signed_literal, flagged, optional, each}
use Rattle.sal_bool.specs.Sizes.{TakesAtMost}
use Rattle.sal_bool.proofs.Bounds.{takes_more, takes_done, takes_then, takes_if, takes_one, takes_literal, takes_signed, takes_flagged, takes_optional, takes_each}
use Rattle.sal_tables.specs.Tables.{update_coefficients_of, update_vectors_of}
use Rattle.sal_header.specs.declared.header.Kept.{Kept}
use Rattle.sal_header.specs.declared.parts.SegmentData.{SegmentData}
use Rattle.sal_header.specs.declared.parts.Deltas.{Deltas}
use Rattle.sal_header.specs.Headers.{zeros, data_before, deltas_before, segment_data, segment_map, segments, filter_deltas, filtering, index_delta, quantisers, key_refreshing, inter_refreshing, refreshing, coefficient_updates, vector_probability, vector_value, vector_updates, bytes, inter_modes, no_inter_modes, modes, header_over, header_of}
use Rattle.sal_header.proofs.ReadBack.{many_coefficients, many_vectors}

data_bits : TakesAtMost segment_data 69
unfolding segment_data
data_bits =
    takes_then _ _ 1 68 (takes_one 128) (λ absolute.
    takes_then _ _ 36 32 (takes_each (flagged (signed_literal 7)) 9 (λ z. takes_flagged (signed_literal 7) z 8 (takes_signed 7)) zeros) (λ quantisers.
    takes_then _ _ 32 0 (takes_each (flagged (signed_literal 6)) 8 (λ z. takes_flagged (signed_literal 6) z 7 (takes_signed 6)) zeros) (λ levels.
    takes_done _ 0)))

map_bits : TakesAtMost segment_map 27
map_bits = takes_each (flagged (literal 8)) 9 (λ x. takes_flagged (literal 8) x 8 (takes_literal 8)) (replicate 3 255)

segments_bits : (before : SegmentData) → TakesAtMost (segments before) 99
unfolding segments
segments_bits before =
    takes_then _ _ 1 98 (takes_one 128) (λ on.
    takes_then _ _ 1 97 (takes_if on _ _ 1 (takes_one 128) (takes_done false 1)) (λ update_map.
    takes_then _ _ 1 96 (takes_if on _ _ 1 (takes_one 128) (takes_done false 1)) (λ update_data.
    takes_then _ _ 69 27 (takes_if update_data _ _ 69 data_bits (takes_done before 69)) (λ d.
    takes_then _ _ 27 0 (takes_if update_map _ _ 27 map_bits (takes_done (replicate 3 0) 27)) (λ m.
    takes_done _ 0)))))

four_deltas : (zs : List ℤ) → length zs ≡ 4 → TakesAtMost (each (flagged (signed_literal 6)) zs) 32
four_deltas zs e =
    takes_more _ (length zs * 8) 32 (omega (arith, e)) (takes_each (flagged (signed_literal 6)) 8 (λ z. takes_flagged (signed_literal 6) z 7 (takes_signed 6)) zs)

deltas_bits : (before : Deltas) → length before.references ≡ 4 → length before.modes ≡ 4 → TakesAtMost (filter_deltas before) 64
unfolding filter_deltas
deltas_bits before a b =
    takes_then _ _ 32 32 (four_deltas before.references a) (λ references.
    takes_then _ _ 32 0 (four_deltas before.modes b) (λ modes.
    takes_done _ 0))

filtering_bits : (before : Deltas) → length before.references ≡ 4 → length before.modes ≡ 4 → TakesAtMost (filtering before) 76
unfolding filtering
filtering_bits before a b =
    takes_then _ _ 1 75 (takes_one 128) (λ simple.
    takes_then _ _ 6 69 (takes_literal 6) (λ level.
    takes_then _ _ 3 66 (takes_literal 3) (λ sharpness.
    takes_then _ _ 1 65 (takes_one 128) (λ on.
    takes_then _ _ 1 64 (takes_if on _ _ 1 (takes_one 128) (takes_done false 1)) (λ update.
    takes_then _ _ 64 0 (takes_if update _ _ 64 (deltas_bits before a b) (takes_done before 64)) (λ deltas.
    takes_done _ 0))))))

index_bits : TakesAtMost index_delta 6
index_bits = takes_flagged (signed_literal 4) (pos 0) 5 (takes_signed 4)

quantisers_bits : TakesAtMost quantisers 37
unfolding quantisers
quantisers_bits =
    takes_then _ _ 7 30 (takes_literal 7) (λ y_ac.
    takes_then _ _ 6 24 index_bits (λ y_dc.
    takes_then _ _ 6 18 index_bits (λ y2_dc.
    takes_then _ _ 6 12 index_bits (λ y2_ac.
    takes_then _ _ 6 6 index_bits (λ uv_dc.
    takes_then _ _ 6 0 index_bits (λ uv_ac.
    takes_done _ 0))))))

refreshing_bits : (key : Bool) → TakesAtMost (refreshing key) 10
unfolding key_refreshing inter_refreshing
refreshing_bits true = takes_then _ _ 1 9 (takes_one 128) (λ entropy. takes_done _ 9)
refreshing_bits false =
    takes_then _ _ 1 9 (takes_one 128) (λ golden.
    takes_then _ _ 1 8 (takes_one 128) (λ alt.
    takes_then _ _ 2 6 (takes_if (not golden) _ _ 2 (takes_literal 2) (takes_done 0 2)) (λ copy_golden.
    takes_then _ _ 2 4 (takes_if (not alt) _ _ 2 (takes_literal 2) (takes_done 0 2)) (λ copy_alt.
    takes_then _ _ 1 3 (takes_one 128) (λ bias_golden.
    takes_then _ _ 1 2 (takes_one 128) (λ bias_alt.
    takes_then _ _ 1 1 (takes_one 128) (λ entropy.
    takes_then _ _ 1 0 (takes_one 128) (λ last.
    takes_done _ 0))))))))

coefficients_bits : TakesAtMost coefficient_updates 9504
unfolding coefficient_updates
coefficients_bits =
    let n = many_coefficients in
    takes_more _ (length update_coefficients_of * 9) 9504 (omega (arith, n)) (takes_each (λ p. optional p (literal 8)) 9 (λ p. takes_optional p (literal 8) 8 (takes_literal 8)) update_coefficients_of)

value_bits : TakesAtMost vector_value 7
value_bits = takes_then _ _ 7 0 (takes_literal 7) (λ x. takes_done (vector_probability x) 0)

vectors_bits : TakesAtMost vector_updates 304
unfolding vector_updates
vectors_bits =
    let n = many_vectors in
    takes_more _ (length update_vectors_of * 8) 304 (omega (arith, n)) (takes_each (λ p. optional p vector_value) 8 (λ p. takes_optional p vector_value 7 value_bits) update_vectors_of)

inter_bits : TakesAtMost inter_modes 386
unfolding inter_modes
inter_bits =
    takes_then _ _ 8 378 (takes_literal 8) (λ intra.
    takes_then _ _ 8 370 (takes_literal 8) (λ last.
    takes_then _ _ 8 362 (takes_literal 8) (λ golden.
    takes_then _ _ 33 329 (takes_optional 128 (bytes 4) 32 (takes_each (λ (x : ℕ). literal 8) 8 (λ x. takes_literal 8) (replicate 4 0))) (λ y.
    takes_then _ _ 25 304 (takes_optional 128 (bytes 3) 24 (takes_each (λ (x : ℕ). literal 8) 8 (λ x. takes_literal 8) (replicate 3 0))) (λ chroma.
    takes_then _ _ 304 0 vectors_bits (λ vectors.
    takes_done _ 0))))))

modes_bits : (key : Bool) → TakesAtMost (modes key) 395
unfolding modes
modes_bits key =
    takes_then _ _ 1 394 (takes_one 128) (λ skips.
    takes_then _ _ 8 386 (takes_if skips _ _ 8 (takes_literal 8) (takes_done 0 8)) (λ skip.
    takes_then _ _ 386 0 (takes_if (not key) _ _ 386 inter_bits (takes_done no_inter_modes 386)) (λ inter.
    takes_done _ 0)))

over_bits : (key shown : Bool) (before : SegmentData) (deltas : Deltas) → length deltas.references ≡ 4 → length deltas.modes ≡ 4 → TakesAtMost (header_over key shown before deltas) 10125
unfolding header_over
over_bits key shown before deltas a b =
    takes_then _ _ 1 10124 (takes_if key _ _ 1 (takes_one 128) (takes_done false 1)) (λ colour.
    takes_then _ _ 1 10123 (takes_if key _ _ 1 (takes_one 128) (takes_done false 1)) (λ clamping.
    takes_then _ _ 99 10024 (segments_bits before) (λ s.
    takes_then _ _ 76 9948 (filtering_bits deltas a b) (λ f.
    takes_then _ _ 2 9946 (takes_literal 2) (λ log2.
    takes_then _ _ 37 9909 quantisers_bits (λ q.
    takes_then _ _ 10 9899 (refreshing_bits key) (λ r.
    takes_then _ _ 9504 395 coefficients_bits (λ coefficients.
    takes_then _ _ 395 0 (modes_bits key) (λ m.
    takes_done _ 0)))))))))

-- a key frame begins with four deltas of each sort, and others with the four that are kept
four_before : (key : Bool) (kept : Kept) → length kept.ref_deltas ≡ 4 → length kept.mode_deltas ≡ 4 → (length (deltas_before key kept).references ≡ 4) × (length (deltas_before key kept).modes ≡ 4)
four_before true kept a b = (refl, refl)
four_before false kept a b = (a, b)

pub header_bits : (key shown : Bool) (kept : Kept) → length kept.ref_deltas ≡ 4 → length kept.mode_deltas ≡ 4 → TakesAtMost (header_of key shown kept) 10125
header_bits key shown kept a b =
    let four = four_before key kept a b in
    over_bits key shown (data_before key kept) (deltas_before key kept) four.0 four.1
