-- A key frame and an inter frame of two by two macroblocks, computed part by part; the values are an independent program's.
use Rattle.std.proofs.Common.{◌≡◌, ◌++◌, ◌-◌, ℕ, ℤ, List, pos, negsuc, [], ◌∷◌, true, false, Some, None, refl, replicate, length, map, slice_set, Ok}
use Rattle.sal_base.specs.declared.picture.Planes.{Planes}
use Rattle.sal_base.specs.Pictures.{plane, cropped}
use Rattle.sal_base.specs.declared.kinds.YMode.TheVariants.{DC, V, H, TM, B, NEW, SPLIT}
use Rattle.sal_base.specs.declared.kinds.SubMode.TheVariants.{BDC, BTM, BVE, BRD, BVL}
use Rattle.sal_bool.specs.Written.{be_bytes}
use Rattle.sal_macroblock.specs.declared.mode.RefKind.TheVariants.{Intra, Last, Golden}
use Rattle.sal_macroblock.specs.Macroblocks.{vector}
use Rattle.sal_state.specs.States.{StateData}
use Rattle.sal_frame.specs.Records.{Record}
use Rattle.sal_base.specs.Samples.{listed_from, rows_put, rows_cut}
use Rattle.sal_tables.specs.Tables.{update_coefficients_of, update_rows, update_vectors_of, default_coefficients_of, default_rows, default_vectors_of, inter_y_probabilities_of, inter_chroma_probabilities_of, key_y_probabilities_of, key_chroma_probabilities_of, inter_subblock_probabilities_of, subblock_probabilities_of, split_probabilities_of, vector_mode_probabilities_of, sub_vector_probabilities_of, bands_of, category_bases_of, category_bits_of, zigzag_of, dc_steps_of, ac_steps_of, six_taps_of}
use Rattle.sal_tables.specs.Trees.{segment_entries, key_y_entries, inter_y_entries, chroma_entries, subblock_entries, vector_mode_entries, split_entries, sub_vector_entries, short_vector_entries, token_entries}
use Rattle.sal_bool.specs.Bits.{widen, next}
use Rattle.sal_bool.specs.Syntax.{read, ◌>>=◌, number, literal, signed_literal, each, walk}
use Rattle.sal_probs.specs.Probabilities.{initial_table}
use Rattle.sal_header.specs.Tags.{tag_of, sides_of, first_part_of, parts_of, placed}
use Rattle.sal_header.specs.Headers.{header_over, header_made, segments, segment_data, filtering, filter_deltas, quantisers, key_refreshing, inter_refreshing, coefficient_updates, vector_updates, inter_modes, no_inter_modes, modes}
use Rattle.sal_macroblock.specs.Macroblocks.{outside}
use Rattle.sal_transform.specs.Hadamard.{inverse_y2_of, sum_0, sum_1, sum_2, sum_3, eighth}
use Rattle.sal_transform.specs.Residue.{residue_of, residue_after, firsts_of}
use Rattle.sal_transform.specs.Factors.{dequantised, factors_of}
use Rattle.sal_transform.specs.Inverse.{inverse_of, scaled, rounded, out_0, out_1, out_2, out_3}
use Rattle.sal_intra.specs.Edges.{luma_edge_of, chroma_edge_of, sub_edge_of}
use Rattle.sal_intra.specs.Sub.{sub_sample, right_rows, left_rows, down_rows, up_rows}
use Rattle.sal_inter.specs.Inter.{inter_sample, interpolated, six_sum}
use Rattle.sal_filter.specs.Edges.{place_filtered, simple, inner, outer, q0_adjustment, p0_adjustment, q1_adjustment, part}
use Rattle.sal_filter.specs.Limits.{level_of, limits_of, interior_of, threshold_of}
use Rattle.sal_filter.specs.Filtered.{filtered, all_filtered, mb_filtered, edge_filtered, place_put}
use Rattle.sal_modes.specs.IntraModes.{intra_mode, sub_modes, sub_row}
use Rattle.sal_modes.specs.SplitVectors.{split_vectors, sub_vector, parts}
use Rattle.sal_modes.specs.ReadVectors.{read_vector, component, long_size, bits_at}
use Rattle.sal_modes.specs.Near.{near_of, noted, put_motion}
use Rattle.sal_modes.specs.Modes.{mb_mode, inter_mode}
use Rattle.sal_tokens.specs.Blocks.{macroblock, blocks, places}
use Rattle.sal_tokens.specs.Coefficients.{block, coefficients, token_size, token_row}
use Rattle.sal_state.specs.States.{initial_state, initial_kept}
use Rattle.sal_frame.specs.Built.{built, all_built, one_built, luma_built, chroma_built, subs_built}
use Rattle.sal_frame.specs.Records.{segment_factors, filter_head, info_of}
use Rattle.sal_transform.specs.Residues.{chroma_residues_of, firsts, luma_residues_of}
use Rattle.sal_decode.specs.Decode.{decode_of}
use Rattle.sal_decode.specs.Syntax.{frame_of, record_of}
use Rattle.sal_decode.specs.FirstPartition.{first_partition, mb_modes, with_segments}
use Rattle.sal_decode.specs.TokenPartitions.{macroblocks, tokens_of}

-- sixteen coefficients of which the last are 0
abbrev padded : List ℤ → List ℤ
padded zs = zs ++ replicate (16 - length zs) (pos 0)

abbrev none : List ℤ
none = replicate 16 (pos 0)

key_bytes : List ℕ
key_bytes = be_bytes 167 0x3004009d012a1a0012000441184c40014fdd35a79f2487f13d431d07440ea7bca8ef1fe8cd4b4efaec0c7c3c0000d99d1021bfe6155c0e546ddb24802ef293fcc3763b63935d9cbc626c09ae66281c2ebf3830311866dcbaee0e3b3352c8170c37f0f9627510ab25fbce80c7ea5301453edd844daf1500894613e3fc9aec649fd62d65a8f3ec14c2ca7bba8829e61192cf14ffa382dfcd3938dc16cec811d8c1fc5953750f2fe4

key_record : Record
key_record = record {
  header = record {
    key = true;
    shown = true;
    colour = false;
    clamping = false;
    segmentation = false;
    update_map = false;
    update_data = false;
    absolute = false;
    quantisers = pos 0 ∷ pos 0 ∷ pos 0 ∷ pos 0 ∷ [];
    levels = pos 0 ∷ pos 0 ∷ pos 0 ∷ pos 0 ∷ [];
    map = 0 ∷ 0 ∷ 0 ∷ [];
    simple = false;
    level = 17;
    sharpness = 0;
    deltas = false;
    update_deltas = false;
    ref_deltas = pos 0 ∷ pos 0 ∷ pos 0 ∷ pos 0 ∷ [];
    mode_deltas = pos 0 ∷ pos 0 ∷ pos 0 ∷ pos 0 ∷ [];
    log2 = 1;
    y_ac = 12;
    y_dc = pos 0;
    y2_dc = pos 0;
    y2_ac = pos 3;
    uv_dc = pos 0;
    uv_ac = pos 0;
    refresh_entropy = true;
    refresh_golden = false;
    refresh_alt = false;
    copy_golden = 0;
    copy_alt = 0;
    bias_golden = false;
    bias_alt = false;
    refresh_last = false;
    skips = true;
    prob_skip = 180;
    prob_intra = 0;
    prob_last = 0;
    prob_golden = 0;
    updates = record { coefficients = replicate 1056 None; vectors = replicate 38 None; y = None; chroma = None };
  };
  width = 26;
  height = 18;
  blocks = record {
    mode = record { segment = 0; skip = false; reference = Intra; y = B; sub = replicate 16 BDC; chroma = H; vectors = replicate 16 (vector (pos 0) (pos 0)) };
    coefficients = padded (pos 1 ∷ []) ∷ padded (negsuc 0 ∷ negsuc 0 ∷ pos 1 ∷ []) ∷ none ∷ none ∷ padded (negsuc 0 ∷ pos 1 ∷ pos 1 ∷ []) ∷ none ∷ none ∷ none ∷ padded (pos 1 ∷ pos 0 ∷ pos 1 ∷ []) ∷ none ∷ none ∷ none ∷ none ∷ none ∷ padded (negsuc 0 ∷ pos 0 ∷ negsuc 0 ∷ pos 0 ∷ pos 1 ∷ pos 0 ∷ pos 0 ∷ negsuc 0 ∷ negsuc 1 ∷ pos 1 ∷ []) ∷ none ∷ none ∷ none ∷ none ∷ none ∷ none ∷ none ∷ none ∷ none ∷ none ∷ [];
    has_coefficients = true;
  }
      ∷ record {
        mode = record { segment = 0; skip = true; reference = Intra; y = V; sub = replicate 16 BVE; chroma = V; vectors = replicate 16 (vector (pos 0) (pos 0)) };
        coefficients = none ∷ none ∷ none ∷ none ∷ none ∷ none ∷ none ∷ none ∷ none ∷ none ∷ none ∷ none ∷ none ∷ none ∷ none ∷ none ∷ none ∷ none ∷ none ∷ none ∷ none ∷ none ∷ none ∷ none ∷ none ∷ [];
        has_coefficients = false;
      }
      ∷ record {
        mode = record { segment = 0; skip = false; reference = Intra; y = TM; sub = replicate 16 BTM; chroma = DC; vectors = replicate 16 (vector (pos 0) (pos 0)) };
        coefficients = none ∷ none ∷ none ∷ none ∷ none ∷ none ∷ none ∷ none ∷ none ∷ padded (pos 0 ∷ negsuc 0 ∷ []) ∷ padded (pos 0 ∷ pos 0 ∷ pos 0 ∷ pos 0 ∷ negsuc 0 ∷ pos 0 ∷ pos 0 ∷ negsuc 0 ∷ pos 0 ∷ pos 0 ∷ pos 0 ∷ pos 0 ∷ pos 0 ∷ pos 0 ∷ pos 1 ∷ []) ∷ padded (pos 0 ∷ negsuc 1 ∷ []) ∷ none ∷ none ∷ none ∷ none ∷ none ∷ none ∷ none ∷ none ∷ none ∷ none ∷ none ∷ none ∷ none ∷ [];
        has_coefficients = true;
      }
      ∷ record {
        mode = record { segment = 0; skip = false; reference = Intra; y = B; sub = BVE ∷ BVE ∷ BDC ∷ BTM ∷ BVL ∷ BTM ∷ BTM ∷ BTM ∷ BRD ∷ BDC ∷ BTM ∷ BVE ∷ BTM ∷ BTM ∷ BVE ∷ BVE ∷ []; chroma = V; vectors = replicate 16 (vector (pos 0) (pos 0)) };
        coefficients = none ∷ none ∷ none ∷ none ∷ none ∷ none ∷ padded (negsuc 0 ∷ []) ∷ padded (pos 1 ∷ []) ∷ padded (negsuc 0 ∷ []) ∷ none ∷ padded (pos 2 ∷ []) ∷ padded (pos 2 ∷ pos 0 ∷ negsuc 0 ∷ pos 1 ∷ []) ∷ padded (pos 1 ∷ []) ∷ padded (negsuc 0 ∷ pos 0 ∷ negsuc 0 ∷ negsuc 0 ∷ []) ∷ padded (pos 1 ∷ negsuc 0 ∷ []) ∷ padded (pos 0 ∷ pos 0 ∷ pos 1 ∷ []) ∷ none ∷ none ∷ none ∷ none ∷ none ∷ none ∷ none ∷ none ∷ none ∷ [];
        has_coefficients = true;
      } ∷ [];
}

key_read : frame_of initial_state key_bytes ≡ Ok key_record
unfolding decode_of frame_of record_of tag_of sides_of first_part_of parts_of placed first_partition read widen next ◌>>=◌ number literal signed_literal each walk update_coefficients_of update_rows update_vectors_of header_over header_made segments segment_data filtering filter_deltas quantisers key_refreshing inter_refreshing coefficient_updates vector_updates inter_modes no_inter_modes modes initial_state initial_kept initial_table default_coefficients_of default_rows default_vectors_of inter_y_probabilities_of inter_chroma_probabilities_of key_y_probabilities_of key_chroma_probabilities_of inter_subblock_probabilities_of subblock_probabilities_of split_probabilities_of vector_mode_probabilities_of sub_vector_probabilities_of mb_modes mb_mode intra_mode sub_modes sub_row inter_mode near_of noted put_motion read_vector component long_size bits_at split_vectors sub_vector parts outside segment_entries key_y_entries inter_y_entries chroma_entries subblock_entries vector_mode_entries split_entries sub_vector_entries short_vector_entries token_entries with_segments macroblocks tokens_of macroblock blocks places block coefficients token_size token_row bands_of category_bases_of category_bits_of listed_from key_bytes key_record
key_read = refl

key_unfiltered : Planes
key_unfiltered = record {
  y = plane 32 32 (
      be_bytes 32 0x828282827f81838480808080808080807f7f7f7f7f7f7f7f7f7f7f7f7f7f7f7f
      ++ be_bytes 32 0x828282827e7f818380808080808080807f7f7f7f7f7f7f7f7f7f7f7f7f7f7f7f
      ++ be_bytes 32 0x828282827c7d7f8180808080808080807f7f7f7f7f7f7f7f7f7f7f7f7f7f7f7f
      ++ be_bytes 32 0x828282827a7c7e7f80808080808080807f7f7f7f7f7f7f7f7f7f7f7f7f7f7f7f
      ++ be_bytes 32 0x858482807d7d7d7d7f7f7f7f808080807f7f7f7f7f7f7f7f7f7f7f7f7f7f7f7f
      ++ be_bytes 32 0x8482807f7d7d7d7d7f7f7f7f808080807f7f7f7f7f7f7f7f7f7f7f7f7f7f7f7f
      ++ be_bytes 32 0x82807e7d7d7d7d7d7f7f7f7f808080807f7f7f7f7f7f7f7f7f7f7f7f7f7f7f7f
      ++ be_bytes 32 0x807f7d7b7d7d7d7d7f7f7f7f808080807f7f7f7f7f7f7f7f7f7f7f7f7f7f7f7f
      ++ be_bytes 32 0x838383837f7f7f7f7f7f7f7f808080807f7f7f7f7f7f7f7f7f7f7f7f7f7f7f7f
      ++ be_bytes 32 0x828282827f7f7f7f7f7f7f7f808080807f7f7f7f7f7f7f7f7f7f7f7f7f7f7f7f
      ++ be_bytes 32 0x808080807f7f7f7f7f7f7f7f808080807f7f7f7f7f7f7f7f7f7f7f7f7f7f7f7f
      ++ be_bytes 32 0x7e7e7e7e7f7f7f7f7f7f7f7f808080807f7f7f7f7f7f7f7f7f7f7f7f7f7f7f7f
      ++ be_bytes 32 0x8080808080808080787e807c7f7f7f7f7f7f7f7f7f7f7f7f7f7f7f7f7f7f7f7f
      ++ be_bytes 32 0x8080808080808080807e79737f7f7f7f7f7f7f7f7f7f7f7f7f7f7f7f7f7f7f7f
      ++ be_bytes 32 0x808080808080808087827f7f7f7f7f7f7f7f7f7f7f7f7f7f7f7f7f7f7f7f7f7f
      ++ be_bytes 32 0x80808080808080807a7a818b7f7f7f7f7f7f7f7f7f7f7f7f7f7f7f7f7f7f7f7f
      ++ be_bytes 32 0x80808080808080807a7a818b7f7f7f7f7f7f7f7f7f7f7f7f7f7f7f7f7f7f7f7f
      ++ be_bytes 32 0x80808080808080807a7a818b7f7f7f7f7f7f7f7f7f7f7f7f7f7f7f7f7f7f7f7f
      ++ be_bytes 32 0x80808080808080807a7a818b7f7f7f7f7f7f7f7f7f7f7f7f7f7f7f7f7f7f7f7f
      ++ be_bytes 32 0x80808080808080807a7a818b7f7f7f7f7f7f7f7f7f7f7f7f7f7f7f7f7f7f7f7f
      ++ be_bytes 32 0x80808080808080807a7a818b7f7f7f7f7f7f7f7f7f7f7f7f7d7d7d7d7f7f7f7f
      ++ be_bytes 32 0x80808080808080807a7a818b7f7f7f7f7f7f7f7f7f7f7f7f7d7d7d7d7f7f7f7f
      ++ be_bytes 32 0x80808080808080807a7a818b7f7f7f7f7f7f7f7f7f7f7f7f7d7d7d7d7f7f7f7f
      ++ be_bytes 32 0x80808080808080807a7a818b7f7f7f7f7f7f7f7f7f7f7f7f7d7d7d7d7f7f7f7f
      ++ be_bytes 32 0x808080807d7f8183757a848d7a7d81847e7d7d7d7e7e7e7e8080808082828282
      ++ be_bytes 32 0x808080807d7f8183757d85897a7d8184817e7d7d7e7e7e7e8080808080808080
      ++ be_bytes 32 0x808080807d7f81837f777d8d7a7d818482817e7d7e7e7e7e8080808082828282
      ++ be_bytes 32 0x808080807d7f81837f7a7e897a7d81848282817e7e7e7e7e8080808087878787
      ++ be_bytes 32 0x80808080808080807a7a818b7f7f7f7f7f7f7e7b757575757f818387888a8a88
      ++ be_bytes 32 0x80808080808080807a7a818b7f7f7f7f7f7f7e7b7a7a7a7a7f81838786888886
      ++ be_bytes 32 0x80808080808080807a7a818b7f7f7f7f7f7f7e7b7c7c7c7c7f81838784868684
      ++ be_bytes 32 0x80808080808080807a7a818b7f7f7f7f7f7f7e7b7a7a7a7a7f81838783858583);
  u = plane 16 16 (be_bytes 256 0x81818181818181817f7f7f7f7f7f7f7f81818181818181817f7f7f7f7f7f7f7f81818181818181817f7f7f7f7f7f7f7f81818181818181817f7f7f7f7f7f7f7f81818181818181817f7f7f7f7f7f7f7f81818181818181817f7f7f7f7f7f7f7f81818181818181817f7f7f7f7f7f7f7f81818181818181817f7f7f7f7f7f7f7f81818181818181817f7f7f7f7f7f7f7f81818181818181817f7f7f7f7f7f7f7f81818181818181817f7f7f7f7f7f7f7f81818181818181817f7f7f7f7f7f7f7f81818181818181817f7f7f7f7f7f7f7f81818181818181817f7f7f7f7f7f7f7f81818181818181817f7f7f7f7f7f7f7f81818181818181817f7f7f7f7f7f7f7f);
  v = plane 16 16 (be_bytes 256 0x81818181818181817f7f7f7f7f7f7f7f81818181818181817f7f7f7f7f7f7f7f81818181818181817f7f7f7f7f7f7f7f81818181818181817f7f7f7f7f7f7f7f81818181818181817f7f7f7f7f7f7f7f81818181818181817f7f7f7f7f7f7f7f81818181818181817f7f7f7f7f7f7f7f81818181818181817f7f7f7f7f7f7f7f81818181818181817f7f7f7f7f7f7f7f81818181818181817f7f7f7f7f7f7f7f81818181818181817f7f7f7f7f7f7f7f81818181818181817f7f7f7f7f7f7f7f81818181818181817f7f7f7f7f7f7f7f81818181818181817f7f7f7f7f7f7f7f81818181818181817f7f7f7f7f7f7f7f81818181818181817f7f7f7f7f7f7f7f);
}

key_built : built None key_record ≡ key_unfiltered
unfolding built all_built one_built luma_built chroma_built subs_built luma_residues_of chroma_residues_of firsts residue_of residue_after firsts_of inverse_of inverse_y2_of dequantised zigzag_of scaled rounded out_0 out_1 out_2 out_3 sum_0 sum_1 sum_2 sum_3 eighth segment_factors factors_of dc_steps_of ac_steps_of luma_edge_of chroma_edge_of sub_edge_of sub_sample right_rows left_rows down_rows up_rows inter_sample interpolated six_sum six_taps_of rows_put listed_from initial_state key_record key_unfiltered
key_built = refl

key_planes : Planes
key_planes = record {
  y = plane 32 32 (
      be_bytes 32 0x828282818081838281808080808080807f7f7f7f7f7f7f7f7f7f7f7f7f7f7f7f
      ++ be_bytes 32 0x828282807f7f818281808080808080807f7f7f7f7f7f7f7f7f7f7f7f7f7f7f7f
      ++ be_bytes 32 0x838281807e7e7f8080808080808080807f7f7f7f7f7f7f7f7f7f7f7f7f7f7f7f
      ++ be_bytes 32 0x838382807c7c7e7f7f7f8080808080807f7f7f7f7f7f7f7f7f7f7f7f7f7f7f7f
      ++ be_bytes 32 0x8483827f7d7c7e7e7f7f7f7f808080807f7f7f7f7f7f7f7f7f7f7f7f7f7f7f7f
      ++ be_bytes 32 0x8382807e7e7d7e7e7e7e7f7f808080807f7f7f7f7f7f7f7f7f7f7f7f7f7f7f7f
      ++ be_bytes 32 0x82817f7e7e7e7e7e7e7e7f7f808080807f7f7f7f7f7f7f7f7f7f7f7f7f7f7f7f
      ++ be_bytes 32 0x81807f7e7d7e7e7e7e7e7f7f808080807f7f7f7f7f7f7f7f7f7f7f7f7f7f7f7f
      ++ be_bytes 32 0x8281817f7e7e7f7f7f7f7f7f808080807f7f7f7f7f7f7f7f7f7f7f7f7f7f7f7f
      ++ be_bytes 32 0x828181807f7e7f7f7f7f7f7f808080807f7f7f7f7f7f7f7f7f7f7f7f7f7f7f7f
      ++ be_bytes 32 0x808080807f7f7f7f7f7f7f7f808080807f7f7f7f7f7f7f7f7f7f7f7f7f7f7f7f
      ++ be_bytes 32 0x7f7f7f7f7f7f7f7e7d7f807f808080807f7f7f7f7f7f7f7f7f7f7f7f7f7f7f7f
      ++ be_bytes 32 0x7f7f7f7f8080807e7d7e7f7d7e7f7f7f7f7f7f7f7f7f7f7f7f7f7f7f7f7f7f7f
      ++ be_bytes 32 0x8080808080808080807e79777b7f7f7f7f7f7f7f7f7f7f7f7f7f7f7f7f7f7f7f
      ++ be_bytes 32 0x808080808080808285827f7f7f7f7f7f7f7f7f7f7f7f7f7f7f7f7f7f7f7f7f7f
      ++ be_bytes 32 0x8080808080807f7e7d7c8186827f7f7f7f7f7f7f7f7f7f7f7f7f7f7f7f7f7f7f
      ++ be_bytes 32 0x8080808080807f7d7b7a8188837f7f7f7f7f7f7f7f7f7f7f7f7f7f7f7f7f7f7f
      ++ be_bytes 32 0x8080808080807f7e7c7b8187837f7f7f7f7f7f7f7f7f7f7f7f7f7f7f7f7f7f7f
      ++ be_bytes 32 0x8080808080807f7e7c7b8187837f7f7f7f7f7f7f7f7f7f7f7f7f7f7f7f7f7f7f
      ++ be_bytes 32 0x8080808080807f7e7c7b8187837f7f7f7f7f7f7f7f7f7f7f7f7e7f7f7f7f7f7f
      ++ be_bytes 32 0x8080808080807f7e7c7b8187837f7f7f7f7f7f7f7f7f7f7e7e7e7e7e7e7e7f7f
      ++ be_bytes 32 0x8080808080807f7e7c7b8187837f7f7f7f7f7f7f7f7f7f7e7e7d7e7e7e7e7f7f
      ++ be_bytes 32 0x808080808080807e7c7b8287837f80807f7f7f7f7f7f7f7e7e7e7f7f7f7f7f7f
      ++ be_bytes 32 0x808080807f80807e7b7a8287827e7f807f7f7e7e7f7f7f7e7e7e7f7f7f7f8080
      ++ be_bytes 32 0x8080807f7f7f807f7a7b8387817e8081807e7e7e7e7e7f7f7f7e808080808181
      ++ be_bytes 32 0x8080807f7e7f807e7a7d84847f7d8082817e7d7d7e7e7f7f7f7e7f7f7f7f8080
      ++ be_bytes 32 0x8080807f7f7f81837f777e86817e818382817e7d7e7e7f7f7f80818181818282
      ++ be_bytes 32 0x8080807f7f7f80807e7a7f84807e80828181807c7b7b7c7c7e80828385868787
      ++ be_bytes 32 0x808080807f80807f7d7b8086827e7f8081817f7b787878797e80838587898a88
      ++ be_bytes 32 0x808080807f807f7e7c7b8087837e7f7f807f7e7b7a7a7a7b7e80838687888886
      ++ be_bytes 32 0x8080808080807f7e7c7b8187837f7f7f7f7f7e7c7b7c7c7c7e81838585868684
      ++ be_bytes 32 0x8080808080807f7e7c7b8187837f7f7f7f7f7e7b7a7a7a7b7e81838585858583);
  u = plane 16 16 (be_bytes 256 0x818181818181808080807f7f7f7f7f7f818181818181808080807f7f7f7f7f7f818181818181808080807f7f7f7f7f7f818181818181808080807f7f7f7f7f7f818181818181808080807f7f7f7f7f7f818181818181808080807f7f7f7f7f7f818181818181808080807f7f7f7f7f7f818181818181808080807f7f7f7f7f7f818181818181808080807f7f7f7f7f7f818181818181808080807f7f7f7f7f7f818181818181808080807f7f7f7f7f7f818181818181808080807f7f7f7f7f7f818181818181808080807f7f7f7f7f7f818181818181808080807f7f7f7f7f7f818181818181808080807f7f7f7f7f7f818181818181808080807f7f7f7f7f7f);
  v = plane 16 16 (be_bytes 256 0x818181818181808080807f7f7f7f7f7f818181818181808080807f7f7f7f7f7f818181818181808080807f7f7f7f7f7f818181818181808080807f7f7f7f7f7f818181818181808080807f7f7f7f7f7f818181818181808080807f7f7f7f7f7f818181818181808080807f7f7f7f7f7f818181818181808080807f7f7f7f7f7f818181818181808080807f7f7f7f7f7f818181818181808080807f7f7f7f7f7f818181818181808080807f7f7f7f7f7f818181818181808080807f7f7f7f7f7f818181818181808080807f7f7f7f7f7f818181818181808080807f7f7f7f7f7f818181818181808080807f7f7f7f7f7f818181818181808080807f7f7f7f7f7f);
}

key_filtered : filtered (filter_head key_record.header) (map info_of key_record.blocks) key_unfiltered ≡ key_planes
unfolding filtered all_filtered mb_filtered edge_filtered place_put place_filtered simple inner outer q0_adjustment p0_adjustment q1_adjustment part level_of limits_of interior_of threshold_of filter_head info_of key_record key_unfiltered key_planes
key_filtered = refl

key_picture : cropped 26 18 key_planes ≡ record {
  width = 26;
  height = 18;
  y = plane 26 18 (
      be_bytes 26 0x828282818081838281808080808080807f7f7f7f7f7f7f7f7f7f
      ++ be_bytes 26 0x828282807f7f818281808080808080807f7f7f7f7f7f7f7f7f7f
      ++ be_bytes 26 0x838281807e7e7f8080808080808080807f7f7f7f7f7f7f7f7f7f
      ++ be_bytes 26 0x838382807c7c7e7f7f7f8080808080807f7f7f7f7f7f7f7f7f7f
      ++ be_bytes 26 0x8483827f7d7c7e7e7f7f7f7f808080807f7f7f7f7f7f7f7f7f7f
      ++ be_bytes 26 0x8382807e7e7d7e7e7e7e7f7f808080807f7f7f7f7f7f7f7f7f7f
      ++ be_bytes 26 0x82817f7e7e7e7e7e7e7e7f7f808080807f7f7f7f7f7f7f7f7f7f
      ++ be_bytes 26 0x81807f7e7d7e7e7e7e7e7f7f808080807f7f7f7f7f7f7f7f7f7f
      ++ be_bytes 26 0x8281817f7e7e7f7f7f7f7f7f808080807f7f7f7f7f7f7f7f7f7f
      ++ be_bytes 26 0x828181807f7e7f7f7f7f7f7f808080807f7f7f7f7f7f7f7f7f7f
      ++ be_bytes 26 0x808080807f7f7f7f7f7f7f7f808080807f7f7f7f7f7f7f7f7f7f
      ++ be_bytes 26 0x7f7f7f7f7f7f7f7e7d7f807f808080807f7f7f7f7f7f7f7f7f7f
      ++ be_bytes 26 0x7f7f7f7f8080807e7d7e7f7d7e7f7f7f7f7f7f7f7f7f7f7f7f7f
      ++ be_bytes 26 0x8080808080808080807e79777b7f7f7f7f7f7f7f7f7f7f7f7f7f
      ++ be_bytes 26 0x808080808080808285827f7f7f7f7f7f7f7f7f7f7f7f7f7f7f7f
      ++ be_bytes 26 0x8080808080807f7e7d7c8186827f7f7f7f7f7f7f7f7f7f7f7f7f
      ++ be_bytes 26 0x8080808080807f7d7b7a8188837f7f7f7f7f7f7f7f7f7f7f7f7f
      ++ be_bytes 26 0x8080808080807f7e7c7b8187837f7f7f7f7f7f7f7f7f7f7f7f7f);
  u = plane 13 9 (be_bytes 117 0x818181818181808080807f7f7f818181818181808080807f7f7f818181818181808080807f7f7f818181818181808080807f7f7f818181818181808080807f7f7f818181818181808080807f7f7f818181818181808080807f7f7f818181818181808080807f7f7f818181818181808080807f7f7f);
  v = plane 13 9 (be_bytes 117 0x818181818181808080807f7f7f818181818181808080807f7f7f818181818181808080807f7f7f818181818181808080807f7f7f818181818181808080807f7f7f818181818181808080807f7f7f818181818181808080807f7f7f818181818181808080807f7f7f818181818181808080807f7f7f);
}
unfolding key_planes rows_cut
key_picture = refl

key_state : StateData
key_state = record {
  kept = record { absolute = false; quantisers = pos 0 ∷ pos 0 ∷ pos 0 ∷ pos 0 ∷ []; levels = pos 0 ∷ pos 0 ∷ pos 0 ∷ pos 0 ∷ []; ref_deltas = pos 0 ∷ pos 0 ∷ pos 0 ∷ pos 0 ∷ []; mode_deltas = pos 0 ∷ pos 0 ∷ pos 0 ∷ pos 0 ∷ []; bias_golden = false; bias_alt = false; map = 0 ∷ 0 ∷ 0 ∷ 0 ∷ []; probs = initial_table };
  references = Some (record { width = 26; height = 18; last = key_planes; golden = key_planes; alt = key_planes });
}

inter_bytes : List ℕ
inter_bytes = be_bytes 316 0x5107001abc544c34243c741464240058ea6300833f3c42af9953534687bcb68f6ca2e57ff8356ba061f89cce1d102add8f61f1973bb08e138c7f4f6aec3c00003d00003e0000c93e355ae280f2a2d566f2952698d155eac36afc5609ced4907dcb21538bb1b1f3c6b87cde29499f5489958c63fed944f5e52c3d5e37cabe22b04a183c95242075497f0637dace1d462ef56f589f3e52a1e8c3be5d2ef2b5eaf7f45af9289bd1dd99e74956db7ba13c596fe4a1393ae32972b406c1a5e8fcb43f6d5740cdac8ce102ac6fcfe918ffef7b229e9cfbeb7e5ad6535f378d6fdcacaad8896fcf7806d4d4687326e088e556250e72ca50417f49e88013acf1f96bb78438c62743d8c6987b909916d493e43939b0efb9176934864ce11fd659b8d549b34c1e78870890190bee6851b734f74b9c207c646bbb90d24ba67138a9

inter_record : Record
inter_record = record {
  header = record {
    key = false;
    shown = true;
    colour = false;
    clamping = false;
    segmentation = false;
    update_map = false;
    update_data = false;
    absolute = false;
    quantisers = pos 0 ∷ pos 0 ∷ pos 0 ∷ pos 0 ∷ [];
    levels = pos 0 ∷ pos 0 ∷ pos 0 ∷ pos 0 ∷ [];
    map = 0 ∷ 0 ∷ 0 ∷ [];
    simple = false;
    level = 26;
    sharpness = 5;
    deltas = true;
    update_deltas = true;
    ref_deltas = pos 5 ∷ negsuc 3 ∷ pos 3 ∷ pos 2 ∷ [];
    mode_deltas = negsuc 2 ∷ pos 7 ∷ pos 1 ∷ pos 6 ∷ [];
    log2 = 2;
    y_ac = 9;
    y_dc = pos 0;
    y2_dc = pos 0;
    y2_ac = pos 0;
    uv_dc = pos 0;
    uv_ac = pos 0;
    refresh_entropy = true;
    refresh_golden = false;
    refresh_alt = false;
    copy_golden = 0;
    copy_alt = 0;
    bias_golden = true;
    bias_alt = false;
    refresh_last = true;
    skips = true;
    prob_skip = 180;
    prob_intra = 90;
    prob_last = 140;
    prob_golden = 128;
    updates = record { coefficients = slice_set (replicate 1056 None) 200 (Some 33); vectors = replicate 38 None; y = Some (60 ∷ 128 ∷ 128 ∷ 128 ∷ []); chroma = None };
  };
  width = 26;
  height = 18;
  blocks = record {
    mode = record { segment = 0; skip = true; reference = Intra; y = V; sub = replicate 16 BVE; chroma = DC; vectors = replicate 16 (vector (pos 0) (pos 0)) };
    coefficients = none ∷ none ∷ none ∷ none ∷ none ∷ none ∷ none ∷ none ∷ none ∷ none ∷ none ∷ none ∷ none ∷ none ∷ none ∷ none ∷ none ∷ none ∷ none ∷ none ∷ none ∷ none ∷ none ∷ none ∷ none ∷ [];
    has_coefficients = false;
  }
      ∷ record {
        mode = record { segment = 0; skip = false; reference = Last; y = SPLIT; sub = replicate 16 BDC; chroma = DC; vectors = replicate 16 (vector (pos 25) (pos 0)) };
        coefficients = padded (pos 0 ∷ pos 0 ∷ pos 0 ∷ pos 0 ∷ negsuc 0 ∷ []) ∷ none ∷ none ∷ none ∷ none ∷ padded (pos 2 ∷ pos 1 ∷ []) ∷ none ∷ none ∷ padded (negsuc 0 ∷ []) ∷ padded (negsuc 1 ∷ pos 1 ∷ pos 2 ∷ []) ∷ none ∷ none ∷ none ∷ padded (negsuc 0 ∷ []) ∷ padded (pos 4 ∷ pos 1 ∷ []) ∷ none ∷ none ∷ none ∷ none ∷ none ∷ none ∷ none ∷ none ∷ none ∷ none ∷ [];
        has_coefficients = true;
      }
      ∷ record {
        mode = record { segment = 0; skip = false; reference = Last; y = NEW; sub = replicate 16 BDC; chroma = DC; vectors = replicate 16 (vector (pos 99) (negsuc 42)) };
        coefficients = none ∷ none ∷ none ∷ none ∷ none ∷ none ∷ none ∷ none ∷ none ∷ none ∷ none ∷ none ∷ none ∷ none ∷ none ∷ none ∷ none ∷ none ∷ none ∷ none ∷ none ∷ none ∷ none ∷ none ∷ none ∷ [];
        has_coefficients = false;
      }
      ∷ record {
        mode = record { segment = 0; skip = false; reference = Golden; y = SPLIT; sub = replicate 16 BDC; chroma = DC; vectors = vector (pos 99) (negsuc 42) ∷ vector (pos 99) (negsuc 42) ∷ vector (pos 25) (pos 0) ∷ vector (pos 25) (pos 0) ∷ vector (negsuc 24) (pos 6) ∷ vector (negsuc 33) (negsuc 7) ∷ vector (pos 114) (negsuc 0) ∷ vector (pos 114) (negsuc 0) ∷ vector (pos 99) (negsuc 42) ∷ vector (negsuc 33) (negsuc 7) ∷ vector (negsuc 33) (negsuc 7) ∷ vector (negsuc 33) (negsuc 7) ∷ vector (negsuc 19) (pos 2) ∷ vector (negsuc 27) (pos 0) ∷ vector (negsuc 27) (pos 0) ∷ vector (negsuc 27) (pos 0) ∷ [] };
        coefficients = none ∷ padded (pos 0 ∷ negsuc 0 ∷ []) ∷ padded (negsuc 0 ∷ pos 1 ∷ pos 0 ∷ pos 0 ∷ pos 0 ∷ pos 1 ∷ pos 0 ∷ pos 0 ∷ negsuc 1 ∷ pos 1 ∷ []) ∷ padded (pos 0 ∷ pos 0 ∷ negsuc 0 ∷ pos 0 ∷ negsuc 0 ∷ []) ∷ none ∷ none ∷ none ∷ padded (pos 5 ∷ pos 0 ∷ negsuc 0 ∷ []) ∷ none ∷ none ∷ none ∷ none ∷ none ∷ none ∷ none ∷ none ∷ none ∷ none ∷ none ∷ none ∷ none ∷ none ∷ none ∷ none ∷ none ∷ [];
        has_coefficients = true;
      } ∷ [];
}

inter_read : frame_of key_state inter_bytes ≡ Ok inter_record
unfolding decode_of frame_of record_of tag_of sides_of first_part_of parts_of placed first_partition read widen next ◌>>=◌ number literal signed_literal each walk update_coefficients_of update_rows update_vectors_of header_over header_made segments segment_data filtering filter_deltas quantisers key_refreshing inter_refreshing coefficient_updates vector_updates inter_modes no_inter_modes modes initial_state initial_kept initial_table default_coefficients_of default_rows default_vectors_of inter_y_probabilities_of inter_chroma_probabilities_of key_y_probabilities_of key_chroma_probabilities_of inter_subblock_probabilities_of subblock_probabilities_of split_probabilities_of vector_mode_probabilities_of sub_vector_probabilities_of mb_modes mb_mode intra_mode sub_modes sub_row inter_mode near_of noted put_motion read_vector component long_size bits_at split_vectors sub_vector parts outside segment_entries key_y_entries inter_y_entries chroma_entries subblock_entries vector_mode_entries split_entries sub_vector_entries short_vector_entries token_entries with_segments macroblocks tokens_of macroblock blocks places block coefficients token_size token_row bands_of category_bases_of category_bits_of listed_from inter_bytes inter_record key_state key_planes
inter_read = refl

inter_unfiltered : Planes
inter_unfiltered = record {
  y = plane 32 32 (
      be_bytes 32 0x7f7f7f7f7f7f7f7f7f7f7f7f7f7f7f7f7c7e80827f7f7f7f7f7f7f7f7f7f7f7f
      ++ be_bytes 32 0x7f7f7f7f7f7f7f7f7f7f7f7f7f7f7f7f7e7e80807f7f7f7f7f7f7f7f7f7f7f7f
      ++ be_bytes 32 0x7f7f7f7f7f7f7f7f7f7f7f7f7f7f7f7f80807f7e7f7f7f7f7f7f7f7f7f7f7f7f
      ++ be_bytes 32 0x7f7f7f7f7f7f7f7f7f7f7f7f7f7f7f7f82807e7c7f7f7f7f7f7f7f7f7f7f7f7f
      ++ be_bytes 32 0x7f7f7f7f7f7f7f7f7f7f7f7f7f7f7f7f7f7f7f7f848381807f7f7f7f7f7f7f7f
      ++ be_bytes 32 0x7f7f7f7f7f7f7f7f7f7f7f7f7f7f7f7f7f7f7f7f848381807f7f7f7f7f7f7f7f
      ++ be_bytes 32 0x7f7f7f7f7f7f7f7f7f7f7f7f7f7f7f7f7f7f7f7f848381807f7f7f7f7f7f7f7f
      ++ be_bytes 32 0x7f7f7f7f7f7f7f7f7f7f7f7f7f7f7f7f7f7f7f7f848381807f7f7f7f7f7f7f7f
      ++ be_bytes 32 0x7f7f7f7f7f7f7f7f7f7f7f7f7f7f7f7f7e7e7e7e82817f7e7f7f7f7f7f7f7f7f
      ++ be_bytes 32 0x7f7f7f7f7f7f7f7f7f7f7f7f7f7f7f7f7e7e7e7e807f7d7c7f7f7f7f7f7f7f7f
      ++ be_bytes 32 0x7f7f7f7f7f7f7f7f7f7f7f7f7f7f7f7f7e7e7e7e7c7b79787f7f7f7f7f7f7f7f
      ++ be_bytes 32 0x7f7f7f7f7f7f7f7f7f7f7f7f7f7f7f7f7e7e7e7e7a7977767f7f7f7f7f7f7f7f
      ++ be_bytes 32 0x7f7f7f7f7f7f7f7f7f7f7f7f7f7f7f7f7f7f7f7f7e7e7e7e878684837f7f7f7f
      ++ be_bytes 32 0x7f7f7f7f7f7f7f7f7f7f7f7f7f7f7f7f7f7f7f7f7e7e7e7e878584837f7f7f7f
      ++ be_bytes 32 0x7f7f7f7f7f7f7f7f7f7f7f7f7f7f7f7f7f7f7f7f7e7e7e7d868583827e7e7f7f
      ++ be_bytes 32 0x7f7f7f7f7f7f7f7f7f7f7f7f7f7f7f7f7f7f7f7f7e7e7e7d868483827e7e7f7f
      ++ be_bytes 32 0x80808080808080808080808080808080807f7e7b7a8288847d7b7e827a7c7e80
      ++ be_bytes 32 0x80808080808080808080808080808080807f7e7b7a828884827c77777d7d8080
      ++ be_bytes 32 0x80808080808080808080808080808080807f7e7b7a82888487807c7c82828281
      ++ be_bytes 32 0x80808080808080808080808080808080807f7e7b7a8288847c797c808482817f
      ++ be_bytes 32 0x808080808080808080808080808080807f7f7f7f7f7f7f7f7d8083858a8a8a88
      ++ be_bytes 32 0x808080808080808080808080808080807f7f7f7f7f7f7f7f7d8083858c8c8c8a
      ++ be_bytes 32 0x808080808080808080808080808080807f7f7f7f7f7f7f7f7d8083858e8e8e8c
      ++ be_bytes 32 0x808080808080808080808080808080807f7f7f7f7f7f7f7f7d8083858f8f8f8d
      ++ be_bytes 32 0x80808080808080808080808080808080807f7e7b7f7f7f7f7f7f7f7f7f7f7f7f
      ++ be_bytes 32 0x80808080808080808080808080808080807f7e7b7f7f7f7f7f7f7f7f7f7f7f7f
      ++ be_bytes 32 0x80808080808080808080808080808080807f7e7b7f7f7f7f7f7f7f7f7f7f7f7f
      ++ be_bytes 32 0x80808080808080808080808080808080807f7e7b7f7f7f7f7f7f7f7e7f7f7f7f
      ++ be_bytes 32 0x808080808080808080808080808080807f7f7e7f7f7f7f7e7e7d7e7e7e7e7f7f
      ++ be_bytes 32 0x808080808080808080808080808080807f7e7e7e7f7f7f7e7e7e7f7f7f7f7f7f
      ++ be_bytes 32 0x808080808080808080808080808080807f7d7d7e7f7f7f7e7e7e7f7f7f7f8080
      ++ be_bytes 32 0x8080808080808080808080808080808082807d7d7e7e7f7f7f7e808080808181);
  u = plane 16 16 (be_bytes 256 0x808080808080808080807f7f7f7f7f7f808080808080808080807f7f7f7f7f7f808080808080808080807f7f7f7f7f7f808080808080808080807f7f7f7f7f7f808080808080808080807f7f7f7f7f7f808080808080808080807f7f7f7f7f7f808080808080808080807f7f7f7f7f7f808080808080808080807f7f7f7f7f7f8181818181818181818080807f7f7f7f8181818181818181818080807f7f7f7f8181818181818181818080807f7f7f7f8181818181818181818080807f7f7f7f8181818181818181808080807f7f7f7f8181818181818181808080807f7f7f7f8181818181818181808080807f7f7f7f8181818181818181808080807f7f7f7f);
  v = plane 16 16 (be_bytes 256 0x808080808080808080807f7f7f7f7f7f808080808080808080807f7f7f7f7f7f808080808080808080807f7f7f7f7f7f808080808080808080807f7f7f7f7f7f808080808080808080807f7f7f7f7f7f808080808080808080807f7f7f7f7f7f808080808080808080807f7f7f7f7f7f808080808080808080807f7f7f7f7f7f8181818181818181818080807f7f7f7f8181818181818181818080807f7f7f7f8181818181818181818080807f7f7f7f8181818181818181818080807f7f7f7f8181818181818181808080807f7f7f7f8181818181818181808080807f7f7f7f8181818181818181808080807f7f7f7f8181818181818181808080807f7f7f7f);
}

inter_built : built key_state.references inter_record ≡ inter_unfiltered
unfolding built all_built one_built luma_built chroma_built subs_built luma_residues_of chroma_residues_of firsts residue_of residue_after firsts_of inverse_of inverse_y2_of dequantised zigzag_of scaled rounded out_0 out_1 out_2 out_3 sum_0 sum_1 sum_2 sum_3 eighth segment_factors factors_of dc_steps_of ac_steps_of luma_edge_of chroma_edge_of sub_edge_of sub_sample right_rows left_rows down_rows up_rows inter_sample interpolated six_sum six_taps_of rows_put listed_from initial_state inter_record key_state inter_unfiltered key_planes
inter_built = refl

inter_planes : Planes
inter_planes = record {
  y = plane 32 32 (
      be_bytes 32 0x7f7f7f7f7f7f7f7f7f7f7f7f7f7e7e7d7e7f8181807f7f7f7f7f7f7f7f7f7f7f
      ++ be_bytes 32 0x7f7f7f7f7f7f7f7f7f7f7f7f7f7f7f7f7e7e80807f7f7f7f7f7f7f7f7f7f7f7f
      ++ be_bytes 32 0x7f7f7f7f7f7f7f7f7f7f7f7f7f7f7f7f8080807f8080807f7f7f7f7f7f7f7f7f
      ++ be_bytes 32 0x7f7f7f7f7f7f7f7f7f7f7f7f7f808081807f7f7e7f7f807f7f7f7f7f7f7f7f7f
      ++ be_bytes 32 0x7f7f7f7f7f7f7f7f7f7f7f7f7f7f7f7f7f7f7f7f808080807f7f7f7f7f7f7f7f
      ++ be_bytes 32 0x7f7f7f7f7f7f7f7f7f7f7f7f7f7f7f7f7f7f7f80818180807f7f7f7f7f7f7f7f
      ++ be_bytes 32 0x7f7f7f7f7f7f7f7f7f7f7f7f7f7f7f7f7f7f8081828281807f7f7f7f7f7f7f7f
      ++ be_bytes 32 0x7f7f7f7f7f7f7f7f7f7f7f7f7f7f7f7f7f7f80808181807f7f7f7f7f7f7f7f7f
      ++ be_bytes 32 0x7f7f7f7f7f7f7f7f7f7f7f7f7f7f7f7f7e7e7f808181807f7f7f7f7f7f7f7f7f
      ++ be_bytes 32 0x7f7f7f7f7f7f7f7f7f7f7f7f7f7f7f7f7e7e7f7f7f7e7e7d7e7e7f7f7f7f7f7f
      ++ be_bytes 32 0x7f7f7f7f7f7f7f7f7f7f7f7f7f7f7f7f7e7e7e7e7e7c7d7d7e7f80807f7f7f7f
      ++ be_bytes 32 0x7f7f7f7f7f7f7f7f7f7f7f7f7f7f7f7f7e7e7e7d7c7b7c7c7f8081807f7f7f7f
      ++ be_bytes 32 0x7f7f7f7f7f7f7f7f7f7f7f7f7f7f7f7f7f7f7f7e7d7c7d7e81818280807f7f7f
      ++ be_bytes 32 0x7f7f7f7f7f7f7f7f7f7f7f7f7f7f7f7f7f7f7f7d7c7e7f8082818380807f7f7f
      ++ be_bytes 32 0x7f7f7f7f7f7f7f7f7f7f7f7f7f7f7f7f7f7f7f7e7d7f8281838383807f7e7e7f
      ++ be_bytes 32 0x7f7f7f7f7f7f7f7f7f7f7f7f7f7f7f7f7f7f7f7d7c808382838283807f7e7e7f
      ++ be_bytes 32 0x80808080808080808080808080808080807f7e7d7c8085827d7b7e7f7d7c7f80
      ++ be_bytes 32 0x80808080808080808080808080808080807f7e7c7b818683827c77777d7d8180
      ++ be_bytes 32 0x80808080808080808080808080808080807f7e7d7c81868287807c7c82828483
      ++ be_bytes 32 0x80808080808080808080808080808080807f7e7c7c8185827c797c8183828482
      ++ be_bytes 32 0x808080808080808080808080808080807f7f7f7d7d8082807e80848788898785
      ++ be_bytes 32 0x808080808080808080808080808080807f7f7f7e7e7f807f7e808588898a8a88
      ++ be_bytes 32 0x808080808080808080808080808080807f7f7f7f7f7f7f7e7e808486898a8b8a
      ++ be_bytes 32 0x808080808080808080808080808080807f7f7f7e7f7f7f7e7e80838586888988
      ++ be_bytes 32 0x80808080808080808080808080808080807f7e7d7e7f7f7f7f7f818383848584
      ++ be_bytes 32 0x80808080808080808080808080808080807f7e7c7e7f7f7f7f7f808181818281
      ++ be_bytes 32 0x80808080808080808080808080808080807f7e7d7e7f7f7f7f7f7f7f7f7f7f7f
      ++ be_bytes 32 0x80808080808080808080808080808080807f7e7d7e7f7f7f7f7e7f7e7f7f7f7f
      ++ be_bytes 32 0x808080808080808080808080808080807f7f7e7e7f7f7f7e7e7e7e7e7e7e7f7f
      ++ be_bytes 32 0x808080808080808080808080808080807f7e7e7d7f7f7f7e7e7e7f7f7f7f7f7f
      ++ be_bytes 32 0x808080808080808080808080808080807f7d7d7e7f7f7f7e7e7e7f7f7f7f8080
      ++ be_bytes 32 0x80808080808080808080808080808181817f7d7d7e7e7f7f7f7e808080808181);
  u = plane 16 16 (be_bytes 256 0x808080808080808080807f7f7f7f7f7f808080808080808080807f7f7f7f7f7f808080808080808080807f7f7f7f7f7f808080808080808080807f7f7f7f7f7f808080808080808080807f7f7f7f7f7f808080808080808080807f7f7f7f7f7f808080808080808080807f7f7f7f7f7f808080808080808080807f7f7f7f7f7f8181818181818181818080807f7f7f7f8181818181818181818080807f7f7f7f8181818181818181818080807f7f7f7f8181818181818181818080807f7f7f7f8181818181818181808080807f7f7f7f8181818181818181808080807f7f7f7f8181818181818181808080807f7f7f7f8181818181818181808080807f7f7f7f);
  v = plane 16 16 (be_bytes 256 0x808080808080808080807f7f7f7f7f7f808080808080808080807f7f7f7f7f7f808080808080808080807f7f7f7f7f7f808080808080808080807f7f7f7f7f7f808080808080808080807f7f7f7f7f7f808080808080808080807f7f7f7f7f7f808080808080808080807f7f7f7f7f7f808080808080808080807f7f7f7f7f7f8181818181818181818080807f7f7f7f8181818181818181818080807f7f7f7f8181818181818181818080807f7f7f7f8181818181818181818080807f7f7f7f8181818181818181808080807f7f7f7f8181818181818181808080807f7f7f7f8181818181818181808080807f7f7f7f8181818181818181808080807f7f7f7f);
}

inter_filtered : filtered (filter_head inter_record.header) (map info_of inter_record.blocks) inter_unfiltered ≡ inter_planes
unfolding filtered all_filtered mb_filtered edge_filtered place_put place_filtered simple inner outer q0_adjustment p0_adjustment q1_adjustment part level_of limits_of interior_of threshold_of filter_head info_of inter_record inter_unfiltered inter_planes key_planes
inter_filtered = refl

inter_picture : cropped 26 18 inter_planes ≡ record {
  width = 26;
  height = 18;
  y = plane 26 18 (
      be_bytes 26 0x7f7f7f7f7f7f7f7f7f7f7f7f7f7e7e7d7e7f8181807f7f7f7f7f
      ++ be_bytes 26 0x7f7f7f7f7f7f7f7f7f7f7f7f7f7f7f7f7e7e80807f7f7f7f7f7f
      ++ be_bytes 26 0x7f7f7f7f7f7f7f7f7f7f7f7f7f7f7f7f8080807f8080807f7f7f
      ++ be_bytes 26 0x7f7f7f7f7f7f7f7f7f7f7f7f7f808081807f7f7e7f7f807f7f7f
      ++ be_bytes 26 0x7f7f7f7f7f7f7f7f7f7f7f7f7f7f7f7f7f7f7f7f808080807f7f
      ++ be_bytes 26 0x7f7f7f7f7f7f7f7f7f7f7f7f7f7f7f7f7f7f7f80818180807f7f
      ++ be_bytes 26 0x7f7f7f7f7f7f7f7f7f7f7f7f7f7f7f7f7f7f8081828281807f7f
      ++ be_bytes 26 0x7f7f7f7f7f7f7f7f7f7f7f7f7f7f7f7f7f7f80808181807f7f7f
      ++ be_bytes 26 0x7f7f7f7f7f7f7f7f7f7f7f7f7f7f7f7f7e7e7f808181807f7f7f
      ++ be_bytes 26 0x7f7f7f7f7f7f7f7f7f7f7f7f7f7f7f7f7e7e7f7f7f7e7e7d7e7e
      ++ be_bytes 26 0x7f7f7f7f7f7f7f7f7f7f7f7f7f7f7f7f7e7e7e7e7e7c7d7d7e7f
      ++ be_bytes 26 0x7f7f7f7f7f7f7f7f7f7f7f7f7f7f7f7f7e7e7e7d7c7b7c7c7f80
      ++ be_bytes 26 0x7f7f7f7f7f7f7f7f7f7f7f7f7f7f7f7f7f7f7f7e7d7c7d7e8181
      ++ be_bytes 26 0x7f7f7f7f7f7f7f7f7f7f7f7f7f7f7f7f7f7f7f7d7c7e7f808281
      ++ be_bytes 26 0x7f7f7f7f7f7f7f7f7f7f7f7f7f7f7f7f7f7f7f7e7d7f82818383
      ++ be_bytes 26 0x7f7f7f7f7f7f7f7f7f7f7f7f7f7f7f7f7f7f7f7d7c8083828382
      ++ be_bytes 26 0x80808080808080808080808080808080807f7e7d7c8085827d7b
      ++ be_bytes 26 0x80808080808080808080808080808080807f7e7c7b818683827c);
  u = plane 13 9 (be_bytes 117 0x808080808080808080807f7f7f808080808080808080807f7f7f808080808080808080807f7f7f808080808080808080807f7f7f808080808080808080807f7f7f808080808080808080807f7f7f808080808080808080807f7f7f808080808080808080807f7f7f8181818181818181818080807f);
  v = plane 13 9 (be_bytes 117 0x808080808080808080807f7f7f808080808080808080807f7f7f808080808080808080807f7f7f808080808080808080807f7f7f808080808080808080807f7f7f808080808080808080807f7f7f808080808080808080807f7f7f808080808080808080807f7f7f8181818181818181818080807f);
}
unfolding inter_planes rows_cut key_planes
inter_picture = refl
