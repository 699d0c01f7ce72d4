-- A frame of one macroblock, of value 128 throughout at quantiser index 40, as another program writes it.
use Rattle.std.proofs.Common.{◌≡◌, pos, [], ◌∷◌, true, false, refl, replicate}
use Rattle.sal_base.specs.Samples.{listed_from}
use Rattle.sal_bool.specs.Bits.{widen, next}
use Rattle.sal_bool.specs.Written.{written}
use Rattle.sal_bool.specs.Pairs.{number_pairs, literal_pairs, signed_pairs, flagged_pairs, all_pairs, each_pairs, way, leaf_pairs_from}
use Rattle.sal_tables.specs.Tables.{update_rows, update_coefficients_of, default_rows, default_coefficients_of, default_vectors_of, inter_y_probabilities_of, inter_chroma_probabilities_of, key_y_probabilities_of, key_chroma_probabilities_of}
use Rattle.sal_tables.specs.Trees.{key_y_entries, chroma_entries, segment_entries}
use Rattle.sal_probs.specs.Probabilities.{initial_table, no_updates}
use Rattle.sal_header.specs.Headers.{zeros}
use Rattle.sal_header.specs.Written.{data_pairs, segments_pairs, deltas_pairs, filtering_pairs, quantisers_pairs, inter_refreshing_pairs, coefficients_pairs, vectors_pairs, inter_modes_pairs, modes_pairs, header_pairs}
use Rattle.sal_macroblock.specs.Macroblocks.{outside}
use Rattle.sal_macroblock.specs.Blocks.{no_coefficients}
use Rattle.sal_modes.specs.Written.{subs_pairs, intra_pairs, inter_pairs, mb_pairs}
use Rattle.sal_tokens.specs.Blocks.{places}
use Rattle.sal_state.specs.States.{initial_kept, initial_state}
use Rattle.sal_encode.specs.declared.plan.Plan.{Plan}
use Rattle.sal_encode.specs.Plans.{planned_all}
use Rattle.sal_encode.specs.FrameBytes.{first_pairs, tokens_branches, plan_branches, first_bytes, token_bytes, plan_bytes}
use Rattle.sal_encode.specs.FrameBytes.{modes_pairs as plan_modes_pairs}

unfoldable pub grey : Plan
grey = record {
  header = record {
    key = true;
    shown = true;
    colour = false;
    clamping = false;
    segmentation = false;
    update_map = false;
    update_data = false;
    absolute = false;
    simple = false;
    deltas = false;
    update_deltas = false;
    refresh_entropy = true;
    refresh_golden = false;
    refresh_alt = false;
    bias_golden = false;
    bias_alt = false;
    refresh_last = false;
    skips = true;
    quantisers = zeros;
    levels = zeros;
    ref_deltas = zeros;
    mode_deltas = zeros;
    map = replicate 3 0;
    level = 10;
    sharpness = 0;
    log2 = 0;
    y_ac = 40;
    copy_golden = 0;
    copy_alt = 0;
    prob_skip = 1;
    prob_intra = 0;
    prob_last = 0;
    prob_golden = 0;
    y_dc = pos 0;
    y2_dc = pos 0;
    y2_ac = pos 0;
    uv_dc = pos 0;
    uv_ac = pos 0;
    updates = no_updates;
  };
  modes = record outside { skip = true } ∷ [];
  levels = no_coefficients ∷ [];
}

grey_bytes : plan_bytes initial_state (16, 16) grey ≡ 16 ∷ 1 ∷ 0 ∷ 157 ∷ 1 ∷ 42 ∷ 16 ∷ 0 ∷ 16 ∷ 0 ∷ 2 ∷ 128 ∷ 80 ∷ 8 ∷ 0 ∷ 24 ∷ 230 ∷ 96 ∷ 0 ∷ 0 ∷ []
unfolding grey widen next written number_pairs literal_pairs signed_pairs flagged_pairs all_pairs each_pairs way leaf_pairs_from update_rows update_coefficients_of default_rows default_coefficients_of default_vectors_of inter_y_probabilities_of inter_chroma_probabilities_of key_y_probabilities_of key_chroma_probabilities_of key_y_entries chroma_entries segment_entries initial_table no_updates data_pairs segments_pairs deltas_pairs filtering_pairs quantisers_pairs inter_refreshing_pairs coefficients_pairs vectors_pairs inter_modes_pairs modes_pairs header_pairs outside subs_pairs intra_pairs inter_pairs mb_pairs places initial_kept initial_state planned_all first_pairs tokens_branches plan_branches first_bytes token_bytes plan_bytes plan_modes_pairs listed_from
grey_bytes = refl
