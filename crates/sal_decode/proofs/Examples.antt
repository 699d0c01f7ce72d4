-- Faults, and frames without bytes, computed; the values are by hand.
use Rattle.std.proofs.Common.{◌≡◌, ◌++◌, ℕ, List, true, Some, refl, replicate, Ok, Err}
use Rattle.sal_base.specs.declared.coding.Fault.{Fault}
use Rattle.sal_base.specs.declared.coding.Fault.TheVariants.{Short, BadVersion, BadStart, ZeroSize, TooLarge, FirstPart, NoReference, Partition}
use Rattle.sal_base.specs.declared.picture.Planes.{Planes}
use Rattle.sal_base.specs.Pictures.{plane}
use Rattle.sal_bool.specs.Written.{be_bytes}
use Rattle.sal_state.specs.States.{StateData}
use Rattle.sal_base.specs.Samples.{listed_from, rows_put, rows_cut}
use Rattle.sal_tables.specs.Tables.{update_coefficients_of, update_rows, update_vectors_of, default_coefficients_of, default_rows, default_vectors_of, inter_y_probabilities_of, inter_chroma_probabilities_of, key_y_probabilities_of, key_chroma_probabilities_of, inter_subblock_probabilities_of, subblock_probabilities_of, split_probabilities_of, vector_mode_probabilities_of, sub_vector_probabilities_of, bands_of, category_bases_of, category_bits_of, zigzag_of, dc_steps_of, ac_steps_of, six_taps_of}
use Rattle.sal_tables.specs.Trees.{segment_entries, key_y_entries, inter_y_entries, chroma_entries, subblock_entries, vector_mode_entries, split_entries, sub_vector_entries, short_vector_entries, token_entries}
use Rattle.sal_bool.specs.Bits.{widen, next}
use Rattle.sal_bool.specs.Syntax.{read, ◌>>=◌, number, literal, signed_literal, each, walk}
use Rattle.sal_probs.specs.Probabilities.{initial_table}
use Rattle.sal_header.specs.Tags.{tag_of, sides_of, first_part_of, parts_of, placed}
use Rattle.sal_header.specs.Headers.{header_over, header_made, segments, segment_data, filtering, filter_deltas, quantisers, key_refreshing, inter_refreshing, coefficient_updates, vector_updates, inter_modes, no_inter_modes, modes}
use Rattle.sal_macroblock.specs.Macroblocks.{outside}
use Rattle.sal_transform.specs.Hadamard.{inverse_y2_of, sum_0, sum_1, sum_2, sum_3, eighth}
use Rattle.sal_transform.specs.Residue.{residue_of, residue_after, firsts_of}
use Rattle.sal_transform.specs.Factors.{dequantised, factors_of}
use Rattle.sal_transform.specs.Inverse.{inverse_of, scaled, rounded, out_0, out_1, out_2, out_3}
use Rattle.sal_intra.specs.Edges.{luma_edge_of, chroma_edge_of, sub_edge_of}
use Rattle.sal_intra.specs.Sub.{sub_sample, right_rows, left_rows, down_rows, up_rows}
use Rattle.sal_inter.specs.Inter.{inter_sample, interpolated, six_sum}
use Rattle.sal_filter.specs.Edges.{place_filtered, simple, inner, outer, q0_adjustment, p0_adjustment, q1_adjustment, part}
use Rattle.sal_filter.specs.Limits.{level_of, limits_of, interior_of, threshold_of}
use Rattle.sal_filter.specs.Filtered.{filtered, all_filtered, mb_filtered, edge_filtered, place_put}
use Rattle.sal_modes.specs.IntraModes.{intra_mode, sub_modes, sub_row}
use Rattle.sal_modes.specs.SplitVectors.{split_vectors, sub_vector, parts}
use Rattle.sal_modes.specs.ReadVectors.{read_vector, component, long_size, bits_at}
use Rattle.sal_modes.specs.Near.{near_of, noted, put_motion}
use Rattle.sal_modes.specs.Modes.{mb_mode, inter_mode}
use Rattle.sal_tokens.specs.Blocks.{macroblock, blocks, places}
use Rattle.sal_tokens.specs.Coefficients.{block, coefficients, token_size, token_row}
use Rattle.sal_state.specs.States.{initial_state, initial_kept}
use Rattle.sal_frame.specs.Built.{built, all_built, one_built, luma_built, chroma_built, subs_built}
use Rattle.sal_frame.specs.Records.{segment_factors, filter_head, info_of}
use Rattle.sal_transform.specs.Residues.{chroma_residues_of, firsts, luma_residues_of}
use Rattle.sal_frame.specs.After.{decoded_of, state_after, picture_of, planes_of}
use Rattle.sal_decode.specs.Decode.{decode_of}
use Rattle.sal_decode.specs.Syntax.{frame_of, record_of}
use Rattle.sal_decode.specs.FirstPartition.{first_partition, mb_modes, with_segments}
use Rattle.sal_decode.specs.TokenPartitions.{macroblocks, tokens_of}

IsFault : List ℕ → Fault → Type 0
IsFault bytes e = decode_of initial_state bytes ≡ Err e

-- the tag is cut off
short : IsFault (be_bytes 2 0x1000) Short
unfolding IsFault decode_of frame_of tag_of sides_of first_part_of initial_state
short = refl

-- the start of a key frame is cut off
short_start : IsFault (be_bytes 9 0x1000009d012a100010) Short
unfolding IsFault decode_of frame_of tag_of sides_of first_part_of initial_state
short_start = refl

-- version 1
version : IsFault (be_bytes 3 0x120000) (BadVersion 1)
unfolding IsFault decode_of frame_of tag_of sides_of first_part_of initial_state
version = refl

-- an inter frame on the initial state
no_reference : IsFault (be_bytes 3 0x110000) NoReference
unfolding IsFault decode_of frame_of tag_of sides_of first_part_of initial_state
no_reference = refl

-- and before its first partition is looked at
no_reference_before_first_part : IsFault (be_bytes 3 0x310100) NoReference
unfolding IsFault decode_of frame_of tag_of sides_of first_part_of initial_state
no_reference_before_first_part = refl

-- another start code
bad_start : IsFault (be_bytes 10 0x1000009d012b10001000) BadStart
unfolding IsFault decode_of frame_of tag_of sides_of first_part_of initial_state
bad_start = refl

-- no width
zero_size : IsFault (be_bytes 10 0x1000009d012a00001000) ZeroSize
unfolding IsFault decode_of frame_of tag_of sides_of first_part_of initial_state
zero_size = refl

-- no height
zero_height : IsFault (be_bytes 10 0x1000009d012a10000000) ZeroSize
unfolding IsFault decode_of frame_of tag_of sides_of first_part_of initial_state
zero_height = refl

-- too wide
too_wide : IsFault (be_bytes 10 0x1000009d012a01051000) (TooLarge 1281 16)
unfolding IsFault decode_of frame_of tag_of sides_of first_part_of initial_state
too_wide = refl

-- too high
too_high : IsFault (be_bytes 10 0x1000009d012a1000d102) (TooLarge 16 721)
unfolding IsFault decode_of frame_of tag_of sides_of first_part_of initial_state
too_high = refl

-- a first partition of 8 bytes of which none is there
first_part : IsFault (be_bytes 10 0x1001009d012a10001000) (FirstPart 8 0)
unfolding IsFault decode_of frame_of tag_of sides_of first_part_of initial_state
first_part = refl

-- four token partitions, and one byte of the table of their sizes is missing
sizes_missing : IsFault (be_bytes 25 0xf000009d012a10001000000200000000000100000200000000) (Partition 0)
unfolding IsFault decode_of frame_of record_of tag_of sides_of first_part_of parts_of placed first_partition read widen next ◌>>=◌ number literal signed_literal each walk update_coefficients_of update_rows update_vectors_of header_over header_made segments segment_data filtering filter_deltas quantisers key_refreshing inter_refreshing coefficient_updates vector_updates inter_modes no_inter_modes modes initial_state initial_kept initial_table default_coefficients_of default_rows default_vectors_of inter_y_probabilities_of inter_chroma_probabilities_of key_y_probabilities_of key_chroma_probabilities_of inter_subblock_probabilities_of subblock_probabilities_of split_probabilities_of vector_mode_probabilities_of sub_vector_probabilities_of mb_modes mb_mode intra_mode sub_modes sub_row inter_mode near_of noted put_motion read_vector component long_size bits_at split_vectors sub_vector parts outside segment_entries key_y_entries inter_y_entries chroma_entries subblock_entries vector_mode_entries split_entries sub_vector_entries short_vector_entries token_entries with_segments macroblocks tokens_of macroblock blocks places block coefficients token_size token_row bands_of category_bases_of category_bits_of listed_from
sizes_missing = refl

-- none of the first partition's byte is there
partition_0 : IsFault (be_bytes 26 0xf000009d012a1000100000020000000000010000020000000000) (Partition 0)
unfolding IsFault decode_of frame_of record_of tag_of sides_of first_part_of parts_of placed first_partition read widen next ◌>>=◌ number literal signed_literal each walk update_coefficients_of update_rows update_vectors_of header_over header_made segments segment_data filtering filter_deltas quantisers key_refreshing inter_refreshing coefficient_updates vector_updates inter_modes no_inter_modes modes initial_state initial_kept initial_table default_coefficients_of default_rows default_vectors_of inter_y_probabilities_of inter_chroma_probabilities_of key_y_probabilities_of key_chroma_probabilities_of inter_subblock_probabilities_of subblock_probabilities_of split_probabilities_of vector_mode_probabilities_of sub_vector_probabilities_of mb_modes mb_mode intra_mode sub_modes sub_row inter_mode near_of noted put_motion read_vector component long_size bits_at split_vectors sub_vector parts outside segment_entries key_y_entries inter_y_entries chroma_entries subblock_entries vector_mode_entries split_entries sub_vector_entries short_vector_entries token_entries with_segments macroblocks tokens_of macroblock blocks places block coefficients token_size token_row bands_of category_bases_of category_bits_of listed_from
partition_0 = refl

-- one of the second partition's two bytes is there
partition_1 : IsFault (be_bytes 28 0xf000009d012a10001000000200000000000100000200000500000000) (Partition 1)
unfolding IsFault decode_of frame_of record_of tag_of sides_of first_part_of parts_of placed first_partition read widen next ◌>>=◌ number literal signed_literal each walk update_coefficients_of update_rows update_vectors_of header_over header_made segments segment_data filtering filter_deltas quantisers key_refreshing inter_refreshing coefficient_updates vector_updates inter_modes no_inter_modes modes initial_state initial_kept initial_table default_coefficients_of default_rows default_vectors_of inter_y_probabilities_of inter_chroma_probabilities_of key_y_probabilities_of key_chroma_probabilities_of inter_subblock_probabilities_of subblock_probabilities_of split_probabilities_of vector_mode_probabilities_of sub_vector_probabilities_of mb_modes mb_mode intra_mode sub_modes sub_row inter_mode near_of noted put_motion read_vector component long_size bits_at split_vectors sub_vector parts outside segment_entries key_y_entries inter_y_entries chroma_entries subblock_entries vector_mode_entries split_entries sub_vector_entries short_vector_entries token_entries with_segments macroblocks tokens_of macroblock blocks places block coefficients token_size token_row bands_of category_bases_of category_bits_of listed_from
partition_1 = refl

-- none of the third partition's bytes is there
partition_2 : IsFault (be_bytes 29 0xf000009d012a1000100000020000000000010000020000000100000000) (Partition 2)
unfolding IsFault decode_of frame_of record_of tag_of sides_of first_part_of parts_of placed first_partition read widen next ◌>>=◌ number literal signed_literal each walk update_coefficients_of update_rows update_vectors_of header_over header_made segments segment_data filtering filter_deltas quantisers key_refreshing inter_refreshing coefficient_updates vector_updates inter_modes no_inter_modes modes initial_state initial_kept initial_table default_coefficients_of default_rows default_vectors_of inter_y_probabilities_of inter_chroma_probabilities_of key_y_probabilities_of key_chroma_probabilities_of inter_subblock_probabilities_of subblock_probabilities_of split_probabilities_of vector_mode_probabilities_of sub_vector_probabilities_of mb_modes mb_mode intra_mode sub_modes sub_row inter_mode near_of noted put_motion read_vector component long_size bits_at split_vectors sub_vector parts outside segment_entries key_y_entries inter_y_entries chroma_entries subblock_entries vector_mode_entries split_entries sub_vector_entries short_vector_entries token_entries with_segments macroblocks tokens_of macroblock blocks places block coefficients token_size token_row bands_of category_bases_of category_bits_of listed_from
partition_2 = refl

first_planes : Planes
first_planes = record { y = plane 16 16 (replicate 64 128 ++ replicate 192 129); u = plane 8 8 (replicate 64 128); v = plane 8 8 (replicate 64 128) }

first_state : StateData
first_state = record { kept = record initial_kept { map = replicate 1 0 }; references = Some (record { width = 16; height = 16; last = first_planes; golden = first_planes; alt = first_planes }) }

empty_key : List ℕ
empty_key = be_bytes 10 0x1000009d012a10001000

-- every bit is 0: the macroblock is in mode B, its subblocks in bDC
first : decode_of initial_state empty_key ≡ Ok (record { state = first_state; picture = record { width = 16; height = 16; y = first_planes.y; u = first_planes.u; v = first_planes.v }; shown = true })
unfolding first_state empty_key first_planes decode_of frame_of record_of tag_of sides_of first_part_of parts_of placed first_partition read widen next ◌>>=◌ number literal signed_literal each walk update_coefficients_of update_rows update_vectors_of header_over header_made segments segment_data filtering filter_deltas quantisers key_refreshing inter_refreshing coefficient_updates vector_updates inter_modes no_inter_modes modes initial_state initial_kept initial_table default_coefficients_of default_rows default_vectors_of inter_y_probabilities_of inter_chroma_probabilities_of key_y_probabilities_of key_chroma_probabilities_of inter_subblock_probabilities_of subblock_probabilities_of split_probabilities_of vector_mode_probabilities_of sub_vector_probabilities_of mb_modes mb_mode intra_mode sub_modes sub_row inter_mode near_of noted put_motion read_vector component long_size bits_at split_vectors sub_vector parts outside segment_entries key_y_entries inter_y_entries chroma_entries subblock_entries vector_mode_entries split_entries sub_vector_entries short_vector_entries token_entries with_segments macroblocks tokens_of macroblock blocks places block coefficients token_size token_row bands_of category_bases_of category_bits_of listed_from built all_built one_built luma_built chroma_built subs_built luma_residues_of chroma_residues_of firsts residue_of residue_after firsts_of inverse_of inverse_y2_of dequantised zigzag_of scaled rounded out_0 out_1 out_2 out_3 sum_0 sum_1 sum_2 sum_3 eighth segment_factors factors_of dc_steps_of ac_steps_of luma_edge_of chroma_edge_of sub_edge_of sub_sample right_rows left_rows down_rows up_rows inter_sample interpolated six_sum six_taps_of rows_put filtered all_filtered mb_filtered edge_filtered place_put place_filtered simple inner outer q0_adjustment p0_adjustment q1_adjustment part level_of limits_of interior_of threshold_of filter_head info_of decoded_of state_after picture_of planes_of rows_cut
first = refl

-- an inter frame whose every bit is 0 is intra in DC, and leaves the state as it was
second : decode_of first_state (be_bytes 3 0x110000)
    ≡ Ok (record { state = first_state; picture = record { width = 16; height = 16; y = plane 16 16 (replicate 256 128); u = plane 8 8 (replicate 64 128); v = plane 8 8 (replicate 64 128) }; shown = true })
unfolding first_state first_planes decode_of frame_of record_of tag_of sides_of first_part_of parts_of placed first_partition read widen next ◌>>=◌ number literal signed_literal each walk update_coefficients_of update_rows update_vectors_of header_over header_made segments segment_data filtering filter_deltas quantisers key_refreshing inter_refreshing coefficient_updates vector_updates inter_modes no_inter_modes modes initial_state initial_kept initial_table default_coefficients_of default_rows default_vectors_of inter_y_probabilities_of inter_chroma_probabilities_of key_y_probabilities_of key_chroma_probabilities_of inter_subblock_probabilities_of subblock_probabilities_of split_probabilities_of vector_mode_probabilities_of sub_vector_probabilities_of mb_modes mb_mode intra_mode sub_modes sub_row inter_mode near_of noted put_motion read_vector component long_size bits_at split_vectors sub_vector parts outside segment_entries key_y_entries inter_y_entries chroma_entries subblock_entries vector_mode_entries split_entries sub_vector_entries short_vector_entries token_entries with_segments macroblocks tokens_of macroblock blocks places block coefficients token_size token_row bands_of category_bases_of category_bits_of listed_from built all_built one_built luma_built chroma_built subs_built luma_residues_of chroma_residues_of firsts residue_of residue_after firsts_of inverse_of inverse_y2_of dequantised zigzag_of scaled rounded out_0 out_1 out_2 out_3 sum_0 sum_1 sum_2 sum_3 eighth segment_factors factors_of dc_steps_of ac_steps_of luma_edge_of chroma_edge_of sub_edge_of sub_sample right_rows left_rows down_rows up_rows inter_sample interpolated six_sum six_taps_of rows_put filtered all_filtered mb_filtered edge_filtered place_put place_filtered simple inner outer q0_adjustment p0_adjustment q1_adjustment part level_of limits_of interior_of threshold_of filter_head info_of decoded_of state_after picture_of planes_of rows_cut
second = refl
