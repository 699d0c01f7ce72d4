-- The plan of a picture of one macroblock, of value 128 throughout, at quantiser index 40: it is skipped.
use Rattle.std.proofs.Common.{◌≡◌, refl}
use Rattle.sal_base.specs.Samples.{listed_from, rows_put}
use Rattle.sal_base.specs.Picture.{flat_picture}
use Rattle.sal_tables.specs.Tables.{zigzag_of, dc_steps_of, ac_steps_of}
use Rattle.sal_probs.specs.Probabilities.{no_updates}
use Rattle.sal_macroblock.specs.Macroblocks.{outside}
use Rattle.sal_intra.specs.Edges.{luma_edge_of, chroma_edge_of, sub_edge_of}
use Rattle.sal_intra.specs.Sub.{right_rows, left_rows, down_rows, up_rows, sub_sample}
use Rattle.sal_transform.specs.Inverse.{inverse_of, out_0, out_1, out_2, out_3, scaled, rounded}
use Rattle.sal_transform.specs.Hadamard.{sum_0, sum_1, sum_2, sum_3}
use Rattle.sal_transform.specs.Factors.{factors_of, dequantised}
use Rattle.sal_transform.specs.Residue.{residue_of}
use Rattle.sal_transform.specs.Forward.{part_4, part_12, part_16, row_0, row_1, row_2, row_3, column_0, column_1, column_2, column_3, forward_of, half, forward_y2_of, quantised_value, quantised}
use Rattle.sal_search.specs.Costs.{sad, first_least}
use Rattle.sal_search.specs.Subblocks.{sub_added, subblocks}
use Rattle.sal_search.specs.Search.{best_intra_of, best_chroma_of}
use Rattle.sal_frame.specs.Built.{all_built, built}
use Rattle.sal_encode.specs.Plans.{planned_all, record_of_plan}
use Rattle.sal_encode.specs.Source.{source_at}
use Rattle.sal_encode.specs.Quantised.{block_differences, luma_block, y2_block, chroma_block, block_coefficients, coefficients_of}
use Rattle.sal_encode.specs.KeyPlan.{key_header, key_macroblock, key_front, key_plan}
use Rattle.sal_encode.proofs.Examples.{grey}

grey_plan : key_plan (flat_picture 16 16 128) 40 ≡ grey
unfolding grey key_header key_macroblock key_front key_plan source_at block_differences luma_block y2_block chroma_block block_coefficients coefficients_of planned_all record_of_plan all_built built listed_from rows_put zigzag_of dc_steps_of ac_steps_of no_updates outside luma_edge_of chroma_edge_of sub_edge_of right_rows left_rows down_rows up_rows sub_sample inverse_of out_0 out_1 out_2 out_3 scaled rounded sum_0 sum_1 sum_2 sum_3 factors_of dequantised residue_of part_4 part_12 part_16 row_0 row_1 row_2 row_3 column_0 column_1 column_2 column_3 forward_of half forward_y2_of quantised_value quantised sad first_least sub_added subblocks best_intra_of best_chroma_of
grey_plan = refl
