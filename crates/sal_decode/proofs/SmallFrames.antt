-- Frames of one macroblock decoded one after the other, computed; the values are an independent program's.
use Rattle.std.proofs.Common.{◌≡◌, ◌++◌, ℕ, List, pos, negsuc, [], ◌∷◌, true, false, Some, refl, slice_set, Ok}
use Rattle.sal_base.specs.declared.picture.Planes.{Planes}
use Rattle.sal_base.specs.Pictures.{plane}
use Rattle.sal_bool.specs.Written.{be_bytes}
use Rattle.sal_state.specs.States.{StateData}
use Rattle.sal_base.specs.Samples.{listed_from, rows_put, rows_cut}
use Rattle.sal_tables.specs.Tables.{update_coefficients_of, update_rows, update_vectors_of, default_coefficients_of, default_rows, default_vectors_of, inter_y_probabilities_of, inter_chroma_probabilities_of, key_y_probabilities_of, key_chroma_probabilities_of, inter_subblock_probabilities_of, subblock_probabilities_of, split_probabilities_of, vector_mode_probabilities_of, sub_vector_probabilities_of, bands_of, category_bases_of, category_bits_of, zigzag_of, dc_steps_of, ac_steps_of, six_taps_of}
use Rattle.sal_tables.specs.Trees.{segment_entries, key_y_entries, inter_y_entries, chroma_entries, subblock_entries, vector_mode_entries, split_entries, sub_vector_entries, short_vector_entries, token_entries}
use Rattle.sal_bool.specs.Bits.{widen, next}
use Rattle.sal_bool.specs.Syntax.{read, ◌>>=◌, number, literal, signed_literal, each, walk}
use Rattle.sal_probs.specs.Probabilities.{initial_table}
use Rattle.sal_header.specs.Tags.{tag_of, sides_of, first_part_of, parts_of, placed}
use Rattle.sal_header.specs.Headers.{header_over, header_made, segments, segment_data, filtering, filter_deltas, quantisers, key_refreshing, inter_refreshing, coefficient_updates, vector_updates, inter_modes, no_inter_modes, modes}
use Rattle.sal_macroblock.specs.Macroblocks.{outside}
use Rattle.sal_transform.specs.Hadamard.{inverse_y2_of, sum_0, sum_1, sum_2, sum_3, eighth}
use Rattle.sal_transform.specs.Residue.{residue_of, residue_after, firsts_of}
use Rattle.sal_transform.specs.Factors.{dequantised, factors_of}
use Rattle.sal_transform.specs.Inverse.{inverse_of, scaled, rounded, out_0, out_1, out_2, out_3}
use Rattle.sal_intra.specs.Edges.{luma_edge_of, chroma_edge_of, sub_edge_of}
use Rattle.sal_intra.specs.Sub.{sub_sample, right_rows, left_rows, down_rows, up_rows}
use Rattle.sal_inter.specs.Inter.{inter_sample, interpolated, six_sum}
use Rattle.sal_filter.specs.Edges.{place_filtered, simple, inner, outer, q0_adjustment, p0_adjustment, q1_adjustment, part}
use Rattle.sal_filter.specs.Limits.{level_of, limits_of, interior_of, threshold_of}
use Rattle.sal_filter.specs.Filtered.{filtered, all_filtered, mb_filtered, edge_filtered, place_put}
use Rattle.sal_modes.specs.IntraModes.{intra_mode, sub_modes, sub_row}
use Rattle.sal_modes.specs.SplitVectors.{split_vectors, sub_vector, parts}
use Rattle.sal_modes.specs.ReadVectors.{read_vector, component, long_size, bits_at}
use Rattle.sal_modes.specs.Near.{near_of, noted, put_motion}
use Rattle.sal_modes.specs.Modes.{mb_mode, inter_mode}
use Rattle.sal_tokens.specs.Blocks.{macroblock, blocks, places}
use Rattle.sal_tokens.specs.Coefficients.{block, coefficients, token_size, token_row}
use Rattle.sal_state.specs.States.{initial_state, initial_kept}
use Rattle.sal_frame.specs.Built.{built, all_built, one_built, luma_built, chroma_built, subs_built}
use Rattle.sal_frame.specs.Records.{segment_factors, filter_head, info_of}
use Rattle.sal_transform.specs.Residues.{chroma_residues_of, firsts, luma_residues_of}
use Rattle.sal_frame.specs.After.{decoded_of, state_after, picture_of, planes_of}
use Rattle.sal_decode.specs.Decode.{decode_of}
use Rattle.sal_decode.specs.Syntax.{frame_of, record_of}
use Rattle.sal_decode.specs.FirstPartition.{first_partition, mb_modes, with_segments}
use Rattle.sal_decode.specs.TokenPartitions.{macroblocks, tokens_of}

-- a key frame with segments, deltas of factors and of the filter, and a new coefficient probability
key_with_segments_bytes : List ℕ
key_with_segments_bytes = be_bytes 90 0x1005009d012a100010003e5107ff54251fd7964e4478f4e121e222e323e424c6535355b74246d005107d616b7a92376f3380bf90854ab3b4155cef1c8d4f10cce8fd5b74bbbb119413e2b994c8c44bfa6a0ee646dcde0e6553c0

key_with_segments_planes : Planes
key_with_segments_planes = record {
  y = plane 16 16 (
      be_bytes 16 0x80807f7e7d7c7c7d7e7f818284858686
      ++ be_bytes 16 0x808081828485858482817f7e7d7c7b7b
      ++ be_bytes 16 0x808081828485858482817f7e7d7c7b7b
      ++ be_bytes 16 0x80807f7e7d7c7c7d7e7f818284858686
      ++ be_bytes 16 0x90968e7e87837d798e8a8480777c848a
      ++ be_bytes 16 0x7c84817487837d798a86807c7c7e8284
      ++ be_bytes 16 0x6e7c7f7685827e7c84807a7684827f7c
      ++ be_bytes 16 0x7080888282817f7e807c767289847c77
      ++ be_bytes 16 0x808080807e7f81828686868686868686
      ++ be_bytes 16 0x808080807b7e82847b7b7b7b7b7b7b7b
      ++ be_bytes 16 0x80808080797d83877b7b7b7b7b7b7b7b
      ++ be_bytes 16 0x80808080797d83878686868686868686
      ++ be_bytes 16 0x80808080798787799087797087837d79
      ++ be_bytes 16 0x808080807d83837d8b857c7587837d79
      ++ be_bytes 16 0x80808080837d7d8383817f7d87837d79
      ++ be_bytes 16 0x80808080877979877e7f818287837d79);
  u = plane 8 8 (be_bytes 64 0x80808080808080808080808080808080808080808080808080808080808080808080808080808080808080808080808080808080808080808080808080808080);
  v = plane 8 8 (be_bytes 64 0x80808080808080808080808080808080808080808080808080808080808080808080808080808080808080808080808080808080808080808080808080808080);
}

key_with_segments_state : StateData
key_with_segments_state = record {
  kept = record { absolute = true; quantisers = pos 20 ∷ negsuc 2 ∷ pos 127 ∷ pos 40 ∷ []; levels = pos 10 ∷ pos 0 ∷ pos 63 ∷ pos 30 ∷ []; ref_deltas = pos 2 ∷ negsuc 2 ∷ pos 4 ∷ negsuc 4 ∷ []; mode_deltas = pos 6 ∷ negsuc 6 ∷ pos 8 ∷ negsuc 8 ∷ []; bias_golden = false; bias_alt = false; map = 3 ∷ []; probs = record { coefficients = slice_set default_coefficients_of 298 90; vectors = default_vectors_of; y = 112 ∷ 86 ∷ 140 ∷ 37 ∷ []; chroma = 162 ∷ 101 ∷ 204 ∷ [] } };
  references = Some (record { width = 16; height = 16; last = key_with_segments_planes; golden = key_with_segments_planes; alt = key_with_segments_planes });
}

key_with_segments : decode_of initial_state key_with_segments_bytes ≡ Ok (record { state = key_with_segments_state; picture = record { width = 16; height = 16; y = key_with_segments_planes.y; u = key_with_segments_planes.u; v = key_with_segments_planes.v }; shown = true })
unfolding decode_of frame_of record_of tag_of sides_of first_part_of parts_of placed first_partition read widen next ◌>>=◌ number literal signed_literal each walk update_coefficients_of update_rows update_vectors_of header_over header_made segments segment_data filtering filter_deltas quantisers key_refreshing inter_refreshing coefficient_updates vector_updates inter_modes no_inter_modes modes initial_state initial_kept initial_table default_coefficients_of default_rows default_vectors_of inter_y_probabilities_of inter_chroma_probabilities_of key_y_probabilities_of key_chroma_probabilities_of inter_subblock_probabilities_of subblock_probabilities_of split_probabilities_of vector_mode_probabilities_of sub_vector_probabilities_of mb_modes mb_mode intra_mode sub_modes sub_row inter_mode near_of noted put_motion read_vector component long_size bits_at split_vectors sub_vector parts outside segment_entries key_y_entries inter_y_entries chroma_entries subblock_entries vector_mode_entries split_entries sub_vector_entries short_vector_entries token_entries with_segments macroblocks tokens_of macroblock blocks places block coefficients token_size token_row bands_of category_bases_of category_bits_of listed_from built all_built one_built luma_built chroma_built subs_built luma_residues_of chroma_residues_of firsts residue_of residue_after firsts_of inverse_of inverse_y2_of dequantised zigzag_of scaled rounded out_0 out_1 out_2 out_3 sum_0 sum_1 sum_2 sum_3 eighth segment_factors factors_of dc_steps_of ac_steps_of luma_edge_of chroma_edge_of sub_edge_of sub_sample right_rows left_rows down_rows up_rows inter_sample interpolated six_sum six_taps_of rows_put filtered all_filtered mb_filtered edge_filtered place_put place_filtered simple inner outer q0_adjustment p0_adjustment q1_adjustment part level_of limits_of interior_of threshold_of filter_head info_of decoded_of state_after picture_of planes_of rows_cut key_with_segments_bytes key_with_segments_state key_with_segments_planes
key_with_segments = refl

-- segments as they were; the new picture becomes golden, last stays
golden_replaced_bytes : List ℕ
golden_replaced_bytes = be_bytes 69 0x510300850205c84760183534bc39dda167881e925a8b305117acb8ede0a1ac125a032c0406579efa4b31d957ad2913ebc37a1758e0e5523213b97b6eddce202cb48d0f8cca

golden_replaced_planes : Planes
golden_replaced_planes = record {
  y = plane 16 16 (
      be_bytes 16 0x8080807f8083898f94928c888a889684
      ++ be_bytes 16 0x8080807f7d7f858b908d88838188967c
      ++ be_bytes 16 0x8080807e797a7f858a88827e76889670
      ++ be_bytes 16 0x8080807d76767c8181807c786d889668
      ++ be_bytes 16 0x8080807e5d496162787776756e878b78
      ++ be_bytes 16 0x8080807f545e6b5e747474747e848d93
      ++ be_bytes 16 0x8080807f576b6a67747474746872828c
      ++ be_bytes 16 0x8080807d646a5d797474747362859991
      ++ be_bytes 16 0x8080807c6860626c757575756f68615b
      ++ be_bytes 16 0x8080807a6860626c757577797b7b7a78
      ++ be_bytes 16 0x8080807b6a62646e75757677797c8083
      ++ be_bytes 16 0x8080807c6b63656f7375757887929a9f
      ++ be_bytes 16 0x8080807d6c6466707275757788939996
      ++ be_bytes 16 0x8080807e6d6567717073757588939996
      ++ be_bytes 16 0x808080806f6769737171757588939996
      ++ be_bytes 16 0x808080806f6769737370737588939996);
  u = plane 8 8 (be_bytes 64 0x8080808080808080808080808080808080818282818080807f818383818080807e818585828080807d818686828080807d828888838080807d82888883808080);
  v = plane 8 8 (be_bytes 64 0x80808080808080808080808080808080808080808080808080808080808080808080808080808080808080808080808080808080808080808080808080808080);
}

golden_replaced_state : StateData
golden_replaced_state = record {
  kept = record { absolute = true; quantisers = pos 20 ∷ negsuc 2 ∷ pos 127 ∷ pos 40 ∷ []; levels = pos 10 ∷ pos 0 ∷ pos 63 ∷ pos 30 ∷ []; ref_deltas = pos 2 ∷ negsuc 2 ∷ pos 4 ∷ negsuc 4 ∷ []; mode_deltas = pos 6 ∷ negsuc 6 ∷ pos 8 ∷ negsuc 8 ∷ []; bias_golden = true; bias_alt = false; map = 3 ∷ []; probs = record { coefficients = slice_set default_coefficients_of 298 90; vectors = slice_set (slice_set default_vectors_of 3 1) 25 200; y = 100 ∷ 90 ∷ 80 ∷ 70 ∷ []; chroma = 162 ∷ 101 ∷ 204 ∷ [] } };
  references = Some (record { width = 16; height = 16; last = key_with_segments_planes; golden = golden_replaced_planes; alt = key_with_segments_planes });
}

golden_replaced : decode_of key_with_segments_state golden_replaced_bytes ≡ Ok (record { state = golden_replaced_state; picture = record { width = 16; height = 16; y = golden_replaced_planes.y; u = golden_replaced_planes.u; v = golden_replaced_planes.v }; shown = true })
unfolding decode_of frame_of record_of tag_of sides_of first_part_of parts_of placed first_partition read widen next ◌>>=◌ number literal signed_literal each walk update_coefficients_of update_rows update_vectors_of header_over header_made segments segment_data filtering filter_deltas quantisers key_refreshing inter_refreshing coefficient_updates vector_updates inter_modes no_inter_modes modes initial_state initial_kept initial_table default_coefficients_of default_rows default_vectors_of inter_y_probabilities_of inter_chroma_probabilities_of key_y_probabilities_of key_chroma_probabilities_of inter_subblock_probabilities_of subblock_probabilities_of split_probabilities_of vector_mode_probabilities_of sub_vector_probabilities_of mb_modes mb_mode intra_mode sub_modes sub_row inter_mode near_of noted put_motion read_vector component long_size bits_at split_vectors sub_vector parts outside segment_entries key_y_entries inter_y_entries chroma_entries subblock_entries vector_mode_entries split_entries sub_vector_entries short_vector_entries token_entries with_segments macroblocks tokens_of macroblock blocks places block coefficients token_size token_row bands_of category_bases_of category_bits_of listed_from built all_built one_built luma_built chroma_built subs_built luma_residues_of chroma_residues_of firsts residue_of residue_after firsts_of inverse_of inverse_y2_of dequantised zigzag_of scaled rounded out_0 out_1 out_2 out_3 sum_0 sum_1 sum_2 sum_3 eighth segment_factors factors_of dc_steps_of ac_steps_of luma_edge_of chroma_edge_of sub_edge_of sub_sample right_rows left_rows down_rows up_rows inter_sample interpolated six_sum six_taps_of rows_put filtered all_filtered mb_filtered edge_filtered place_put place_filtered simple inner outer q0_adjustment p0_adjustment q1_adjustment part level_of limits_of interior_of threshold_of filter_head info_of decoded_of state_after picture_of planes_of rows_cut key_with_segments_state golden_replaced_bytes golden_replaced_state key_with_segments_planes golden_replaced_planes
golden_replaced = refl

-- a vector into golden; then golden is the old last, alt the old golden; the probabilities of this frame aren't kept
from_golden_bytes : List ℕ
from_golden_bytes = be_bytes 76 0x310400a7c3e9e90ec023e35388da3c02000b5b80057b999b360e017a65f61c9ac7f46e00a6d46c102333e5ee7ffad6ae60f0581226abf27201ab69584fd3115f4ab89ffdc6c194d03b34b3db

from_golden_planes : Planes
from_golden_planes = record {
  y = plane 16 16 (
      be_bytes 16 0x80848a9194918b88898c938384848484
      ++ be_bytes 16 0x8083899093908a87888c938283838383
      ++ be_bytes 16 0x7c7e848b8f8b8680808d90777a797979
      ++ be_bytes 16 0x7a7c81878885807977908c6a6e6d6d6d
      ++ be_bytes 16 0x6e6c777b7f7d7b73708f8b676a6a6a6a
      ++ be_bytes 16 0x524f616478757573778b897f80808080
      ++ be_bytes 16 0x53686963767474757c818c9292929292
      ++ be_bytes 16 0x5c6c676f7474756f677c8c8f8f8f8f8f
      ++ be_bytes 16 0x666463797374756e627e847c84848484
      ++ be_bytes 16 0x6560646e757576766e655d5a5d5d5d5d
      ++ be_bytes 16 0x6561646f7575787b7c7e7f7e7d7c7c7c
      ++ be_bytes 16 0x676266707575767884898e918a8a8a8a
      ++ be_bytes 16 0x686367707475757b8b969d9f9f9f9f9f
      ++ be_bytes 16 0x696468717275757a8b95989595959595
      ++ be_bytes 16 0x6b666b71707474798b95999696969696
      ++ be_bytes 16 0x6c676c73717274798b95999696969696);
  u = plane 8 8 (be_bytes 64 0x80808080808080808080808080808080818181808080808083838180808080808484828080808080868682808080808087878380808080808888838080808080);
  v = plane 8 8 (be_bytes 64 0x80808080808080808080808080808080808080818181818180808081818182828080818182828383808081818283848480808182838485858080818283848585);
}

from_golden_state : StateData
from_golden_state = record {
  kept = record { absolute = false; quantisers = pos 1 ∷ pos 2 ∷ pos 3 ∷ negsuc 19 ∷ []; levels = pos 0 ∷ pos 0 ∷ pos 0 ∷ pos 9 ∷ []; ref_deltas = pos 2 ∷ negsuc 2 ∷ pos 4 ∷ negsuc 4 ∷ []; mode_deltas = pos 6 ∷ negsuc 6 ∷ pos 8 ∷ negsuc 8 ∷ []; bias_golden = true; bias_alt = true; map = 3 ∷ []; probs = record { coefficients = slice_set default_coefficients_of 298 90; vectors = slice_set (slice_set default_vectors_of 3 1) 25 200; y = 100 ∷ 90 ∷ 80 ∷ 70 ∷ []; chroma = 162 ∷ 101 ∷ 204 ∷ [] } };
  references = Some (record { width = 16; height = 16; last = from_golden_planes; golden = key_with_segments_planes; alt = golden_replaced_planes });
}

from_golden : decode_of golden_replaced_state from_golden_bytes ≡ Ok (record { state = from_golden_state; picture = record { width = 16; height = 16; y = from_golden_planes.y; u = from_golden_planes.u; v = from_golden_planes.v }; shown = true })
unfolding decode_of frame_of record_of tag_of sides_of first_part_of parts_of placed first_partition read widen next ◌>>=◌ number literal signed_literal each walk update_coefficients_of update_rows update_vectors_of header_over header_made segments segment_data filtering filter_deltas quantisers key_refreshing inter_refreshing coefficient_updates vector_updates inter_modes no_inter_modes modes initial_state initial_kept initial_table default_coefficients_of default_rows default_vectors_of inter_y_probabilities_of inter_chroma_probabilities_of key_y_probabilities_of key_chroma_probabilities_of inter_subblock_probabilities_of subblock_probabilities_of split_probabilities_of vector_mode_probabilities_of sub_vector_probabilities_of mb_modes mb_mode intra_mode sub_modes sub_row inter_mode near_of noted put_motion read_vector component long_size bits_at split_vectors sub_vector parts outside segment_entries key_y_entries inter_y_entries chroma_entries subblock_entries vector_mode_entries split_entries sub_vector_entries short_vector_entries token_entries with_segments macroblocks tokens_of macroblock blocks places block coefficients token_size token_row bands_of category_bases_of category_bits_of listed_from built all_built one_built luma_built chroma_built subs_built luma_residues_of chroma_residues_of firsts residue_of residue_after firsts_of inverse_of inverse_y2_of dequantised zigzag_of scaled rounded out_0 out_1 out_2 out_3 sum_0 sum_1 sum_2 sum_3 eighth segment_factors factors_of dc_steps_of ac_steps_of luma_edge_of chroma_edge_of sub_edge_of sub_sample right_rows left_rows down_rows up_rows inter_sample interpolated six_sum six_taps_of rows_put filtered all_filtered mb_filtered edge_filtered place_put place_filtered simple inner outer q0_adjustment p0_adjustment q1_adjustment part level_of limits_of interior_of threshold_of filter_head info_of decoded_of state_after picture_of planes_of rows_cut golden_replaced_state from_golden_bytes from_golden_state key_with_segments_planes golden_replaced_planes from_golden_planes
from_golden = refl

-- hidden, without segments, through the simple filter: parts of alt; then golden and alt have changed places
hidden_in_parts_bytes : List ℕ
hidden_in_parts_bytes = be_bytes 62 0x6102006800a00a600001f0f4d1896c987decf5a254007c1b72be204f6e1152da8913dfbad4491ea7ae42b8ed28c641ebeb9757cedb676e99ce5e2637ce88

hidden_in_parts_planes : Planes
hidden_in_parts_planes = record {
  y = plane 16 16 (
      be_bytes 16 0x8080807e7e80858f94938a8384869487
      ++ be_bytes 16 0x8080807e7b7a80878d8d857f7d84967e
      ++ be_bytes 16 0x8080807e7b7b7f838584817976819975
      ++ be_bytes 16 0x7f7f7f7b70666874797a7a757381937a
      ++ be_bytes 16 0x7e7e7e776b625e6e73767572727e8b85
      ++ be_bytes 16 0x7d7d7d766b60626b707574727073808f
      ++ be_bytes 16 0x7d7d7d756a60626d7474746c65708e96
      ++ be_bytes 16 0x807d7f786c62646f747578716c77837e
      ++ be_bytes 16 0x837e847a6e63656f74767e7c787d7b74
      ++ be_bytes 16 0x827f877a6e64667075757e8680736d6c
      ++ be_bytes 16 0x7c7f87776c6567717370767f83858787
      ++ be_bytes 16 0x7a7f85766d6a6c71716d6f7d8a929899
      ++ be_bytes 16 0x7d808277707272726f6c6c7b8c999d9d
      ++ be_bytes 16 0x80808079727575736e6d6b7a8b979794
      ++ be_bytes 16 0x8080807b737575726c6c6c798b979896
      ++ be_bytes 16 0x8080807b747375716b6a6c7a8b979896);
  u = plane 8 8 (be_bytes 64 0x808080808080808080818282808080807f818383818080807e818585818080807f838584818080807e838885818080807e848986828080807e84898682808080);
  v = plane 8 8 (be_bytes 64 0x80808080808080808080808080808080808080808080808080808080808080808080808080808080808080808080808080808080808080808080808080808080);
}

hidden_in_parts_state : StateData
hidden_in_parts_state = record {
  kept = record { absolute = false; quantisers = pos 1 ∷ pos 2 ∷ pos 3 ∷ negsuc 19 ∷ []; levels = pos 0 ∷ pos 0 ∷ pos 0 ∷ pos 9 ∷ []; ref_deltas = pos 2 ∷ negsuc 2 ∷ pos 4 ∷ negsuc 4 ∷ []; mode_deltas = pos 6 ∷ negsuc 6 ∷ pos 8 ∷ negsuc 8 ∷ []; bias_golden = false; bias_alt = true; map = 3 ∷ []; probs = record { coefficients = slice_set default_coefficients_of 298 90; vectors = slice_set (slice_set default_vectors_of 3 1) 25 200; y = 100 ∷ 90 ∷ 80 ∷ 70 ∷ []; chroma = 162 ∷ 101 ∷ 204 ∷ [] } };
  references = Some (record { width = 16; height = 16; last = from_golden_planes; golden = golden_replaced_planes; alt = key_with_segments_planes });
}

hidden_in_parts : decode_of from_golden_state hidden_in_parts_bytes ≡ Ok (record { state = hidden_in_parts_state; picture = record { width = 16; height = 16; y = hidden_in_parts_planes.y; u = hidden_in_parts_planes.u; v = hidden_in_parts_planes.v }; shown = false })
unfolding decode_of frame_of record_of tag_of sides_of first_part_of parts_of placed first_partition read widen next ◌>>=◌ number literal signed_literal each walk update_coefficients_of update_rows update_vectors_of header_over header_made segments segment_data filtering filter_deltas quantisers key_refreshing inter_refreshing coefficient_updates vector_updates inter_modes no_inter_modes modes initial_state initial_kept initial_table default_coefficients_of default_rows default_vectors_of inter_y_probabilities_of inter_chroma_probabilities_of key_y_probabilities_of key_chroma_probabilities_of inter_subblock_probabilities_of subblock_probabilities_of split_probabilities_of vector_mode_probabilities_of sub_vector_probabilities_of mb_modes mb_mode intra_mode sub_modes sub_row inter_mode near_of noted put_motion read_vector component long_size bits_at split_vectors sub_vector parts outside segment_entries key_y_entries inter_y_entries chroma_entries subblock_entries vector_mode_entries split_entries sub_vector_entries short_vector_entries token_entries with_segments macroblocks tokens_of macroblock blocks places block coefficients token_size token_row bands_of category_bases_of category_bits_of listed_from built all_built one_built luma_built chroma_built subs_built luma_residues_of chroma_residues_of firsts residue_of residue_after firsts_of inverse_of inverse_y2_of dequantised zigzag_of scaled rounded out_0 out_1 out_2 out_3 sum_0 sum_1 sum_2 sum_3 eighth segment_factors factors_of dc_steps_of ac_steps_of luma_edge_of chroma_edge_of sub_edge_of sub_sample right_rows left_rows down_rows up_rows inter_sample interpolated six_sum six_taps_of rows_put filtered all_filtered mb_filtered edge_filtered place_put place_filtered simple inner outer q0_adjustment p0_adjustment q1_adjustment part level_of limits_of interior_of threshold_of filter_head info_of decoded_of state_after picture_of planes_of rows_cut from_golden_state hidden_in_parts_bytes hidden_in_parts_state key_with_segments_planes golden_replaced_planes from_golden_planes hidden_in_parts_planes
hidden_in_parts = refl

-- the segment map is still there; skipped; a copy flag of 3 copies nothing
segments_again_bytes : List ℕ
segments_again_bytes = be_bytes 63 0x910200853589f36120336c19da0199ddf7075a3b56f600f4ab91cbd30ce0621e4804ad8c461f3d48da57da5648f0464bf9779441998123f642f11d2ed41882

segments_again_planes : Planes
segments_again_planes = record {
  y = plane 16 16 (
      be_bytes 16 0x80858c92938f8988898f908284848484
      ++ be_bytes 16 0x7d80878d8f8b858185908c797d7c7c7c
      ++ be_bytes 16 0x7b7e84898a857f797f92846c72707070
      ++ be_bytes 16 0x72747c80817f7a71789382646a696969
      ++ be_bytes 16 0x5557666d7a7776727a8e85787a7a7a7a
      ++ be_bytes 16 0x54636466777474767e858c8f8f8f8f8f
      ++ be_bytes 16 0x5e6e686e7574746f6f808e9191919191
      ++ be_bytes 16 0x6564687872757468678488848a898989
      ++ be_bytes 16 0x65606672747575726a68626063636363
      ++ be_bytes 16 0x646166707575797a7876747373727272
      ++ be_bytes 16 0x666268727575777b84888c8d87878787
      ++ be_bytes 16 0x676369717475767e8d959c9d9b9b9b9b
      ++ be_bytes 16 0x68646a727375757f8e97999898989898
      ++ be_bytes 16 0x6a666c717174747d8e96979595959595
      ++ be_bytes 16 0x6b676e727172747d8e96989696969696
      ++ be_bytes 16 0x6b676e737172747d8e96989696969696);
  u = plane 8 8 (be_bytes 64 0x80808080808080808080808080808080828281808080808083838180808080808585828080808080868682808080808087878380808080808888838080808080);
  v = plane 8 8 (be_bytes 64 0x80808080808080808080808080808080808080818181818180808081818182828080818182828383808081818283848480808182838485858080818283848585);
}

segments_again_state : StateData
segments_again_state = record {
  kept = record { absolute = false; quantisers = pos 1 ∷ pos 2 ∷ pos 3 ∷ negsuc 19 ∷ []; levels = pos 0 ∷ pos 0 ∷ pos 0 ∷ pos 9 ∷ []; ref_deltas = pos 2 ∷ negsuc 2 ∷ pos 4 ∷ negsuc 4 ∷ []; mode_deltas = pos 6 ∷ negsuc 6 ∷ pos 8 ∷ negsuc 8 ∷ []; bias_golden = false; bias_alt = true; map = 3 ∷ []; probs = record { coefficients = slice_set default_coefficients_of 298 90; vectors = slice_set (slice_set default_vectors_of 3 1) 25 200; y = 100 ∷ 90 ∷ 80 ∷ 70 ∷ []; chroma = 162 ∷ 101 ∷ 204 ∷ [] } };
  references = Some (record { width = 16; height = 16; last = segments_again_planes; golden = golden_replaced_planes; alt = segments_again_planes });
}

segments_again : decode_of hidden_in_parts_state segments_again_bytes ≡ Ok (record { state = segments_again_state; picture = record { width = 16; height = 16; y = segments_again_planes.y; u = segments_again_planes.u; v = segments_again_planes.v }; shown = true })
unfolding decode_of frame_of record_of tag_of sides_of first_part_of parts_of placed first_partition read widen next ◌>>=◌ number literal signed_literal each walk update_coefficients_of update_rows update_vectors_of header_over header_made segments segment_data filtering filter_deltas quantisers key_refreshing inter_refreshing coefficient_updates vector_updates inter_modes no_inter_modes modes initial_state initial_kept initial_table default_coefficients_of default_rows default_vectors_of inter_y_probabilities_of inter_chroma_probabilities_of key_y_probabilities_of key_chroma_probabilities_of inter_subblock_probabilities_of subblock_probabilities_of split_probabilities_of vector_mode_probabilities_of sub_vector_probabilities_of mb_modes mb_mode intra_mode sub_modes sub_row inter_mode near_of noted put_motion read_vector component long_size bits_at split_vectors sub_vector parts outside segment_entries key_y_entries inter_y_entries chroma_entries subblock_entries vector_mode_entries split_entries sub_vector_entries short_vector_entries token_entries with_segments macroblocks tokens_of macroblock blocks places block coefficients token_size token_row bands_of category_bases_of category_bits_of listed_from built all_built one_built luma_built chroma_built subs_built luma_residues_of chroma_residues_of firsts residue_of residue_after firsts_of inverse_of inverse_y2_of dequantised zigzag_of scaled rounded out_0 out_1 out_2 out_3 sum_0 sum_1 sum_2 sum_3 eighth segment_factors factors_of dc_steps_of ac_steps_of luma_edge_of chroma_edge_of sub_edge_of sub_sample right_rows left_rows down_rows up_rows inter_sample interpolated six_sum six_taps_of rows_put filtered all_filtered mb_filtered edge_filtered place_put place_filtered simple inner outer q0_adjustment p0_adjustment q1_adjustment part level_of limits_of interior_of threshold_of filter_head info_of decoded_of state_after picture_of planes_of rows_cut hidden_in_parts_state segments_again_bytes segments_again_state key_with_segments_planes golden_replaced_planes from_golden_planes hidden_in_parts_planes segments_again_planes
segments_again = refl

-- a key frame of another size: all is as in the beginning, and the map is of zeros
key_again_bytes : List ℕ
key_again_bytes = be_bytes 67 0x3002009d012a0900050020c0078003d01c03442d305eebb8a9ae00cc5cf2bc60aa6bcdf3ef6fe6cc35fac229a13ab6e69254f9598de0f59d0a0ac518ab869fd19f3554

key_again_planes : Planes
key_again_planes = record {
  y = plane 16 16 (
      be_bytes 16 0x817f7d7c7e7f7f7f7f7f7f7f7f7f7f7f
      ++ be_bytes 16 0x83817e7e7e7f7f7f7f7f7f7f7f7f7f7f
      ++ be_bytes 16 0x8584817f7f8181818080808080808080
      ++ be_bytes 16 0x85858681828282828181818181818181
      ++ be_bytes 16 0x82868b90898585838382828282828282
      ++ be_bytes 16 0x7f858c8f8b8686848483838383838383
      ++ be_bytes 16 0x7d828a8d8a8888868685858585858585
      ++ be_bytes 16 0x7d81878a898888878685858585858585
      ++ be_bytes 16 0x81828485858688888685858585858585
      ++ be_bytes 16 0x83838382828487878685858585858585
      ++ be_bytes 16 0x83838382818184868686868686868686
      ++ be_bytes 16 0x838383817f8082848686868686868686
      ++ be_bytes 16 0x828282807e7f81838585858586868686
      ++ be_bytes 16 0x828282807e7f81838585858586868686
      ++ be_bytes 16 0x828282807e7f81838585858586868686
      ++ be_bytes 16 0x828282807e7f81838585858586868686);
  u = plane 8 8 (be_bytes 64 0x80808080808080808080808080808080808080808080808080808080808080808080808080808080808080808080808080808080808080808080808080808080);
  v = plane 8 8 (be_bytes 64 0x80808080808080808080808080808080808080808080808080808080808080808080808080808080808080808080808080808080808080808080808080808080);
}

key_again_state : StateData
key_again_state = record {
  kept = record { absolute = false; quantisers = pos 0 ∷ pos 0 ∷ pos 0 ∷ pos 0 ∷ []; levels = pos 0 ∷ pos 0 ∷ pos 0 ∷ pos 0 ∷ []; ref_deltas = pos 0 ∷ pos 0 ∷ pos 0 ∷ pos 0 ∷ []; mode_deltas = pos 0 ∷ pos 0 ∷ pos 0 ∷ pos 0 ∷ []; bias_golden = false; bias_alt = false; map = 0 ∷ []; probs = initial_table };
  references = Some (record { width = 9; height = 5; last = key_again_planes; golden = key_again_planes; alt = key_again_planes });
}

key_again : decode_of segments_again_state key_again_bytes ≡ Ok (record { state = key_again_state; picture = record { width = 9; height = 5; y = plane 9 5 (be_bytes 45 0x817f7d7c7e7f7f7f7f83817e7e7e7f7f7f7f8584817f7f8181818085858681828282828182868b908985858383); u = plane 5 3 (be_bytes 15 0x808080808080808080808080808080); v = plane 5 3 (be_bytes 15 0x808080808080808080808080808080) }; shown = true })
unfolding decode_of frame_of record_of tag_of sides_of first_part_of parts_of placed first_partition read widen next ◌>>=◌ number literal signed_literal each walk update_coefficients_of update_rows update_vectors_of header_over header_made segments segment_data filtering filter_deltas quantisers key_refreshing inter_refreshing coefficient_updates vector_updates inter_modes no_inter_modes modes initial_state initial_kept initial_table default_coefficients_of default_rows default_vectors_of inter_y_probabilities_of inter_chroma_probabilities_of key_y_probabilities_of key_chroma_probabilities_of inter_subblock_probabilities_of subblock_probabilities_of split_probabilities_of vector_mode_probabilities_of sub_vector_probabilities_of mb_modes mb_mode intra_mode sub_modes sub_row inter_mode near_of noted put_motion read_vector component long_size bits_at split_vectors sub_vector parts outside segment_entries key_y_entries inter_y_entries chroma_entries subblock_entries vector_mode_entries split_entries sub_vector_entries short_vector_entries token_entries with_segments macroblocks tokens_of macroblock blocks places block coefficients token_size token_row bands_of category_bases_of category_bits_of listed_from built all_built one_built luma_built chroma_built subs_built luma_residues_of chroma_residues_of firsts residue_of residue_after firsts_of inverse_of inverse_y2_of dequantised zigzag_of scaled rounded out_0 out_1 out_2 out_3 sum_0 sum_1 sum_2 sum_3 eighth segment_factors factors_of dc_steps_of ac_steps_of luma_edge_of chroma_edge_of sub_edge_of sub_sample right_rows left_rows down_rows up_rows inter_sample interpolated six_sum six_taps_of rows_put filtered all_filtered mb_filtered edge_filtered place_put place_filtered simple inner outer q0_adjustment p0_adjustment q1_adjustment part level_of limits_of interior_of threshold_of filter_head info_of decoded_of state_after picture_of planes_of rows_cut segments_again_state key_again_bytes key_again_state key_with_segments_planes golden_replaced_planes from_golden_planes hidden_in_parts_planes segments_again_planes key_again_planes
key_again = refl
