-- Modes read from bytes, computed; the values are an independent program's.
use Rattle.std.proofs.Common.{◌≡◌, pos, negsuc, [], ◌∷◌, Bool, true, false, refl, replicate}
use Rattle.sal_base.specs.Samples.{listed_from}
use Rattle.sal_macroblock.specs.declared.mode.RefKind.TheVariants.{Intra, Last, Golden, Alt}
use Rattle.sal_base.specs.declared.kinds.YMode.TheVariants.{DC, V, H, TM, B, NEAREST, NEAR, ZERO, NEW, SPLIT}
use Rattle.sal_base.specs.declared.kinds.SubMode.TheVariants.{BDC, BTM, BVE, BHE, BLD, BRD, BVR, BVL, BHU}
use Rattle.sal_bool.specs.Bits.{start, widen, next}
use Rattle.sal_bool.specs.Syntax.{◌>>=◌, read, walk}
use Rattle.sal_tables.specs.Tables.{default_vectors_of, inter_y_probabilities_of, inter_chroma_probabilities_of, key_y_probabilities_of, key_chroma_probabilities_of, subblock_probabilities_of, inter_subblock_probabilities_of, vector_mode_probabilities_of, split_probabilities_of, sub_vector_probabilities_of}
use Rattle.sal_tables.specs.Trees.{segment_entries, key_y_entries, inter_y_entries, chroma_entries, subblock_entries, vector_mode_entries, split_entries, sub_vector_entries, short_vector_entries}
use Rattle.sal_probs.specs.Probabilities.{initial_table, no_updates}
use Rattle.sal_header.specs.declared.header.Header.{Header}
use Rattle.sal_header.specs.Headers.{zeros}
use Rattle.sal_macroblock.specs.declared.mode.MbMode.{MbMode}
use Rattle.sal_macroblock.specs.Macroblocks.{vector, outside}
use Rattle.sal_modes.specs.Vectors.{bounds_of}
use Rattle.sal_modes.specs.Near.{near_of, noted, put_motion}
use Rattle.sal_modes.specs.IntraModes.{intra_mode, sub_modes, sub_row}
use Rattle.sal_modes.specs.ReadVectors.{bits_at, long_size, component, read_vector}
use Rattle.sal_modes.specs.SplitVectors.{parts, sub_vector, split_vectors}
use Rattle.sal_modes.specs.Modes.{mb_mode, inter_mode}

head : Bool → Header
head key = record {
  key = key;
  shown = true;
  colour = false;
  clamping = false;
  segmentation = false;
  update_map = false;
  update_data = false;
  absolute = false;
  quantisers = zeros;
  levels = zeros;
  map = 0 ∷ 0 ∷ 0 ∷ [];
  simple = false;
  level = 0;
  sharpness = 0;
  deltas = false;
  update_deltas = false;
  ref_deltas = zeros;
  mode_deltas = zeros;
  log2 = 0;
  y_ac = 0;
  y_dc = pos 0;
  y2_dc = pos 0;
  y2_ac = pos 0;
  uv_dc = pos 0;
  uv_ac = pos 0;
  refresh_golden = false;
  refresh_alt = false;
  copy_golden = 0;
  copy_alt = 0;
  bias_golden = false;
  bias_alt = false;
  refresh_entropy = false;
  refresh_last = false;
  skips = true;
  prob_skip = 200;
  prob_intra = 0;
  prob_last = 0;
  prob_golden = 0;
  updates = no_updates;
}

inter_head : Header
inter_head = record (head false) { update_map = true; map = 128 ∷ 90 ∷ 200 ∷ []; prob_skip = 100; prob_intra = 30; prob_last = 90; prob_golden = 120; bias_golden = true }

above_near : MbMode
above_near = record { segment = 2; skip = true; reference = Alt; y = NEW; sub = replicate 16 BDC; chroma = DC; vectors = replicate 16 (vector (negsuc 0) (pos 91)) }

left_near : MbMode
left_near = record { segment = 3; skip = false; reference = Last; y = SPLIT; sub = replicate 16 BDC; chroma = DC; vectors = vector (negsuc 0) (pos 90) ∷ vector (negsuc 0) (pos 90) ∷ vector (negsuc 5) (pos 93) ∷ vector (negsuc 5) (pos 93) ∷ vector (pos 0) (pos 0) ∷ vector (negsuc 0) (pos 90) ∷ vector (negsuc 0) (pos 90) ∷ vector (negsuc 0) (pos 90) ∷ vector (negsuc 3) (pos 82) ∷ vector (negsuc 3) (pos 82) ∷ vector (negsuc 0) (pos 90) ∷ vector (negsuc 0) (pos 90) ∷ vector (negsuc 0) (pos 91) ∷ vector (negsuc 3) (pos 82) ∷ vector (negsuc 0) (pos 90) ∷ vector (negsuc 0) (pos 90) ∷ [] }

-- NEAR, with vectors negated by sign bias
near : (read (62 ∷ 73 ∷ 80 ∷ 79 ∷ 105 ∷ 94 ∷ 114 ∷ 159 ∷ 57 ∷ 239 ∷ 77 ∷ 86 ∷ 135 ∷ 231 ∷ 254 ∷ 54 ∷ 115 ∷ 94 ∷ 233 ∷ 23 ∷ 212 ∷ 131 ∷ 163 ∷ 97 ∷ 117 ∷ 79 ∷ 103 ∷ 98 ∷ 23 ∷ 242 ∷ 116 ∷ 197 ∷ 195 ∷ 40 ∷ 193 ∷ 111 ∷ 120 ∷ 157 ∷ 136 ∷ 42 ∷ 248 ∷ 60 ∷ 139 ∷ 183 ∷ 64 ∷ 27 ∷ 120 ∷ 91 ∷ 117 ∷ 63 ∷ []) start (mb_mode inter_head initial_table (record { above = above_near; left = left_near; corner = above_near; bounds = bounds_of 10 9 3 4 }))).0 ≡ record { segment = 1; skip = false; reference = Golden; y = NEAR; sub = replicate 16 BDC; chroma = DC; vectors = replicate 16 (vector (pos 1) (negsuc 89)) }
unfolding head inter_head above_near left_near read widen next ◌>>=◌ walk listed_from initial_table default_vectors_of inter_y_probabilities_of inter_chroma_probabilities_of key_y_probabilities_of key_chroma_probabilities_of subblock_probabilities_of inter_subblock_probabilities_of vector_mode_probabilities_of split_probabilities_of sub_vector_probabilities_of segment_entries key_y_entries inter_y_entries chroma_entries subblock_entries vector_mode_entries split_entries sub_vector_entries short_vector_entries near_of noted put_motion mb_mode intra_mode inter_mode sub_modes sub_row bits_at long_size component read_vector parts sub_vector split_vectors outside
near = refl

above_new : MbMode
above_new = record { segment = 1; skip = false; reference = Last; y = SPLIT; sub = replicate 16 BDC; chroma = DC; vectors = vector (pos 0) (pos 0) ∷ vector (pos 0) (pos 0) ∷ vector (pos 0) (pos 0) ∷ vector (pos 0) (pos 0) ∷ vector (pos 52) (pos 15) ∷ vector (pos 52) (pos 15) ∷ vector (pos 52) (pos 15) ∷ vector (pos 52) (pos 15) ∷ vector (pos 52) (pos 15) ∷ vector (pos 52) (pos 15) ∷ vector (pos 52) (pos 15) ∷ vector (pos 52) (pos 15) ∷ vector (pos 52) (pos 15) ∷ vector (pos 52) (pos 15) ∷ vector (pos 52) (pos 15) ∷ vector (pos 52) (pos 15) ∷ [] }

left_new : MbMode
left_new = record { segment = 2; skip = false; reference = Golden; y = NEW; sub = replicate 16 BDC; chroma = DC; vectors = replicate 16 (vector (negsuc 77) (negsuc 11)) }

-- NEW
new : (read (91 ∷ 192 ∷ 242 ∷ 107 ∷ 119 ∷ 119 ∷ 64 ∷ 55 ∷ 147 ∷ 114 ∷ 175 ∷ 16 ∷ 250 ∷ 235 ∷ 188 ∷ 125 ∷ 52 ∷ 161 ∷ 183 ∷ 43 ∷ 40 ∷ 101 ∷ 154 ∷ 201 ∷ 197 ∷ 78 ∷ 34 ∷ 181 ∷ 68 ∷ 90 ∷ 255 ∷ 226 ∷ 218 ∷ 231 ∷ 136 ∷ 88 ∷ 12 ∷ 174 ∷ 59 ∷ 234 ∷ 144 ∷ 93 ∷ 239 ∷ 85 ∷ 18 ∷ 87 ∷ 217 ∷ 234 ∷ 147 ∷ 9 ∷ []) start (mb_mode inter_head initial_table (record { above = above_new; left = left_new; corner = above_new; bounds = bounds_of 10 9 3 4 }))).0 ≡ record { segment = 1; skip = true; reference = Last; y = NEW; sub = replicate 16 BDC; chroma = DC; vectors = replicate 16 (vector (pos 70) (pos 16)) }
unfolding head inter_head above_new left_new read widen next ◌>>=◌ walk listed_from initial_table default_vectors_of inter_y_probabilities_of inter_chroma_probabilities_of key_y_probabilities_of key_chroma_probabilities_of subblock_probabilities_of inter_subblock_probabilities_of vector_mode_probabilities_of split_probabilities_of sub_vector_probabilities_of segment_entries key_y_entries inter_y_entries chroma_entries subblock_entries vector_mode_entries split_entries sub_vector_entries short_vector_entries near_of noted put_motion mb_mode intra_mode inter_mode sub_modes sub_row bits_at long_size component read_vector parts sub_vector split_vectors outside
new = refl

above_key_subblocks_beside_whole : MbMode
above_key_subblocks_beside_whole = record { segment = 0; skip = false; reference = Intra; y = V; sub = replicate 16 BVE; chroma = DC; vectors = replicate 16 (vector (pos 0) (pos 0)) }

left_key_subblocks_beside_whole : MbMode
left_key_subblocks_beside_whole = record { segment = 0; skip = false; reference = Intra; y = TM; sub = replicate 16 BTM; chroma = V; vectors = replicate 16 (vector (pos 0) (pos 0)) }

-- a key frame: mode B beside macroblocks that aren't B
key_subblocks_beside_whole : (read (55 ∷ 77 ∷ 37 ∷ 41 ∷ 74 ∷ 37 ∷ 174 ∷ 22 ∷ 164 ∷ 51 ∷ 112 ∷ 112 ∷ 3 ∷ 85 ∷ 255 ∷ 181 ∷ 68 ∷ 205 ∷ 138 ∷ 73 ∷ 150 ∷ 120 ∷ 224 ∷ 11 ∷ 201 ∷ 111 ∷ 205 ∷ 238 ∷ 73 ∷ 109 ∷ 29 ∷ 8 ∷ 4 ∷ 3 ∷ 239 ∷ 145 ∷ 34 ∷ 109 ∷ 61 ∷ 193 ∷ 164 ∷ 64 ∷ 27 ∷ 73 ∷ 160 ∷ 30 ∷ 206 ∷ 249 ∷ 32 ∷ 56 ∷ []) start (mb_mode (head true) initial_table (record { above = above_key_subblocks_beside_whole; left = left_key_subblocks_beside_whole; corner = above_key_subblocks_beside_whole; bounds = bounds_of 10 9 3 4 }))).0 ≡ record { segment = 0; skip = false; reference = Intra; y = B; sub = BVE ∷ BDC ∷ BDC ∷ BTM ∷ BDC ∷ BDC ∷ BDC ∷ BDC ∷ BDC ∷ BTM ∷ BTM ∷ BTM ∷ BDC ∷ BDC ∷ BTM ∷ BTM ∷ []; chroma = H; vectors = replicate 16 (vector (pos 0) (pos 0)) }
unfolding head inter_head above_key_subblocks_beside_whole left_key_subblocks_beside_whole read widen next ◌>>=◌ walk listed_from initial_table default_vectors_of inter_y_probabilities_of inter_chroma_probabilities_of key_y_probabilities_of key_chroma_probabilities_of subblock_probabilities_of inter_subblock_probabilities_of vector_mode_probabilities_of split_probabilities_of sub_vector_probabilities_of segment_entries key_y_entries inter_y_entries chroma_entries subblock_entries vector_mode_entries split_entries sub_vector_entries short_vector_entries near_of noted put_motion mb_mode intra_mode inter_mode sub_modes sub_row bits_at long_size component read_vector parts sub_vector split_vectors outside
key_subblocks_beside_whole = refl

above_key_subblocks_beside_subblocks : MbMode
above_key_subblocks_beside_subblocks = record { segment = 0; skip = false; reference = Intra; y = B; sub = BTM ∷ BTM ∷ BDC ∷ BDC ∷ BTM ∷ BTM ∷ BDC ∷ BDC ∷ BLD ∷ BHU ∷ BLD ∷ BDC ∷ BTM ∷ BDC ∷ BDC ∷ BDC ∷ []; chroma = H; vectors = replicate 16 (vector (pos 0) (pos 0)) }

left_key_subblocks_beside_subblocks : MbMode
left_key_subblocks_beside_subblocks = record { segment = 0; skip = false; reference = Intra; y = B; sub = BDC ∷ BDC ∷ BDC ∷ BDC ∷ BDC ∷ BDC ∷ BDC ∷ BDC ∷ BDC ∷ BVL ∷ BDC ∷ BDC ∷ BDC ∷ BVL ∷ BRD ∷ BRD ∷ []; chroma = DC; vectors = replicate 16 (vector (pos 0) (pos 0)) }

-- a key frame: mode B beside mode B
key_subblocks_beside_subblocks : (read (27 ∷ 28 ∷ 100 ∷ 219 ∷ 78 ∷ 45 ∷ 161 ∷ 78 ∷ 71 ∷ 177 ∷ 64 ∷ 129 ∷ 56 ∷ 28 ∷ 199 ∷ 173 ∷ 167 ∷ 157 ∷ 207 ∷ 233 ∷ 237 ∷ 234 ∷ 137 ∷ 8 ∷ 199 ∷ 5 ∷ 26 ∷ 101 ∷ 105 ∷ 138 ∷ 102 ∷ 250 ∷ 158 ∷ 30 ∷ 117 ∷ 80 ∷ 83 ∷ 10 ∷ 157 ∷ 229 ∷ 116 ∷ 145 ∷ 92 ∷ 155 ∷ 138 ∷ 233 ∷ 0 ∷ 216 ∷ 236 ∷ 91 ∷ []) start (mb_mode (head true) initial_table (record { above = above_key_subblocks_beside_subblocks; left = left_key_subblocks_beside_subblocks; corner = above_key_subblocks_beside_subblocks; bounds = bounds_of 10 9 3 4 }))).0 ≡ record { segment = 0; skip = false; reference = Intra; y = B; sub = BDC ∷ BDC ∷ BDC ∷ BDC ∷ BDC ∷ BDC ∷ BDC ∷ BDC ∷ BVE ∷ BVR ∷ BVE ∷ BLD ∷ BVL ∷ BDC ∷ BTM ∷ BLD ∷ []; chroma = DC; vectors = replicate 16 (vector (pos 0) (pos 0)) }
unfolding head inter_head above_key_subblocks_beside_subblocks left_key_subblocks_beside_subblocks read widen next ◌>>=◌ walk listed_from initial_table default_vectors_of inter_y_probabilities_of inter_chroma_probabilities_of key_y_probabilities_of key_chroma_probabilities_of subblock_probabilities_of inter_subblock_probabilities_of vector_mode_probabilities_of split_probabilities_of sub_vector_probabilities_of segment_entries key_y_entries inter_y_entries chroma_entries subblock_entries vector_mode_entries split_entries sub_vector_entries short_vector_entries near_of noted put_motion mb_mode intra_mode inter_mode sub_modes sub_row bits_at long_size component read_vector parts sub_vector split_vectors outside
key_subblocks_beside_subblocks = refl

above_subblocks_of_an_inter_frame : MbMode
above_subblocks_of_an_inter_frame = record { segment = 2; skip = false; reference = Alt; y = NEW; sub = replicate 16 BDC; chroma = DC; vectors = replicate 16 (vector (pos 5) (negsuc 201)) }

left_subblocks_of_an_inter_frame : MbMode
left_subblocks_of_an_inter_frame = record { segment = 3; skip = true; reference = Golden; y = NEAREST; sub = replicate 16 BDC; chroma = DC; vectors = replicate 16 (vector (negsuc 4) (pos 202)) }

-- an inter frame: mode B
subblocks_of_an_inter_frame : (read (20 ∷ 127 ∷ 28 ∷ 214 ∷ 5 ∷ 153 ∷ 254 ∷ 142 ∷ 200 ∷ 14 ∷ 7 ∷ 215 ∷ 229 ∷ 242 ∷ 202 ∷ 16 ∷ 172 ∷ 168 ∷ 110 ∷ 202 ∷ 225 ∷ 131 ∷ 234 ∷ 167 ∷ 24 ∷ 160 ∷ 177 ∷ 243 ∷ 134 ∷ 73 ∷ 202 ∷ 164 ∷ 210 ∷ 103 ∷ 30 ∷ 100 ∷ 151 ∷ 254 ∷ 134 ∷ 12 ∷ 208 ∷ 117 ∷ 87 ∷ 146 ∷ 178 ∷ 96 ∷ 132 ∷ 247 ∷ 25 ∷ 100 ∷ []) start (mb_mode inter_head initial_table (record { above = above_subblocks_of_an_inter_frame; left = left_subblocks_of_an_inter_frame; corner = above_subblocks_of_an_inter_frame; bounds = bounds_of 10 9 3 4 }))).0 ≡ record { segment = 0; skip = true; reference = Intra; y = B; sub = BVE ∷ BVL ∷ BDC ∷ BVE ∷ BDC ∷ BDC ∷ BHE ∷ BDC ∷ BVE ∷ BDC ∷ BDC ∷ BDC ∷ BTM ∷ BTM ∷ BDC ∷ BRD ∷ []; chroma = DC; vectors = replicate 16 (vector (pos 0) (pos 0)) }
unfolding head inter_head above_subblocks_of_an_inter_frame left_subblocks_of_an_inter_frame read widen next ◌>>=◌ walk listed_from initial_table default_vectors_of inter_y_probabilities_of inter_chroma_probabilities_of key_y_probabilities_of key_chroma_probabilities_of subblock_probabilities_of inter_subblock_probabilities_of vector_mode_probabilities_of split_probabilities_of sub_vector_probabilities_of segment_entries key_y_entries inter_y_entries chroma_entries subblock_entries vector_mode_entries split_entries sub_vector_entries short_vector_entries near_of noted put_motion mb_mode intra_mode inter_mode sub_modes sub_row bits_at long_size component read_vector parts sub_vector split_vectors outside
subblocks_of_an_inter_frame = refl

above_left_and_right : MbMode
above_left_and_right = record { segment = 1; skip = true; reference = Alt; y = NEW; sub = replicate 16 BDC; chroma = DC; vectors = replicate 16 (vector (pos 0) (pos 26)) }

left_left_and_right : MbMode
left_left_and_right = record { segment = 1; skip = false; reference = Alt; y = SPLIT; sub = replicate 16 BDC; chroma = DC; vectors = replicate 16 (vector (negsuc 4) (pos 24)) }

-- two parts, left and right
left_and_right : (read (164 ∷ 40 ∷ 214 ∷ 210 ∷ 36 ∷ 179 ∷ 146 ∷ 120 ∷ 135 ∷ 26 ∷ 34 ∷ 204 ∷ 45 ∷ 13 ∷ 16 ∷ 65 ∷ 43 ∷ 24 ∷ 232 ∷ 189 ∷ 254 ∷ 225 ∷ 93 ∷ 214 ∷ 117 ∷ 30 ∷ 41 ∷ 191 ∷ 128 ∷ 205 ∷ 181 ∷ 3 ∷ 5 ∷ 179 ∷ 3 ∷ 128 ∷ 238 ∷ 166 ∷ 239 ∷ 144 ∷ 251 ∷ 5 ∷ 91 ∷ 137 ∷ 19 ∷ 144 ∷ 147 ∷ 100 ∷ 105 ∷ 134 ∷ []) start (mb_mode inter_head initial_table (record { above = above_left_and_right; left = left_left_and_right; corner = above_left_and_right; bounds = bounds_of 10 9 3 4 }))).0 ≡ record { segment = 2; skip = false; reference = Alt; y = SPLIT; sub = replicate 16 BDC; chroma = DC; vectors = vector (negsuc 4) (pos 24) ∷ vector (negsuc 4) (pos 24) ∷ vector (pos 0) (pos 26) ∷ vector (pos 0) (pos 26) ∷ vector (negsuc 4) (pos 24) ∷ vector (negsuc 4) (pos 24) ∷ vector (pos 0) (pos 26) ∷ vector (pos 0) (pos 26) ∷ vector (negsuc 4) (pos 24) ∷ vector (negsuc 4) (pos 24) ∷ vector (pos 0) (pos 26) ∷ vector (pos 0) (pos 26) ∷ vector (negsuc 4) (pos 24) ∷ vector (negsuc 4) (pos 24) ∷ vector (pos 0) (pos 26) ∷ vector (pos 0) (pos 26) ∷ [] }
unfolding head inter_head above_left_and_right left_left_and_right read widen next ◌>>=◌ walk listed_from initial_table default_vectors_of inter_y_probabilities_of inter_chroma_probabilities_of key_y_probabilities_of key_chroma_probabilities_of subblock_probabilities_of inter_subblock_probabilities_of vector_mode_probabilities_of split_probabilities_of sub_vector_probabilities_of segment_entries key_y_entries inter_y_entries chroma_entries subblock_entries vector_mode_entries split_entries sub_vector_entries short_vector_entries near_of noted put_motion mb_mode intra_mode inter_mode sub_modes sub_row bits_at long_size component read_vector parts sub_vector split_vectors outside
left_and_right = refl

above_sixteenths : MbMode
above_sixteenths = record { segment = 2; skip = true; reference = Alt; y = SPLIT; sub = replicate 16 BDC; chroma = DC; vectors = vector (pos 0) (pos 0) ∷ vector (pos 0) (pos 0) ∷ vector (pos 0) (pos 0) ∷ vector (pos 0) (pos 0) ∷ vector (pos 0) (negsuc 156) ∷ vector (pos 0) (negsuc 156) ∷ vector (pos 0) (negsuc 156) ∷ vector (pos 0) (negsuc 156) ∷ vector (pos 0) (pos 0) ∷ vector (pos 0) (pos 0) ∷ vector (pos 0) (pos 0) ∷ vector (pos 0) (negsuc 156) ∷ vector (pos 0) (pos 0) ∷ vector (pos 0) (pos 0) ∷ vector (pos 0) (pos 0) ∷ vector (pos 3) (pos 1) ∷ [] }

left_sixteenths : MbMode
left_sixteenths = record { segment = 2; skip = false; reference = Last; y = NEW; sub = replicate 16 BDC; chroma = DC; vectors = replicate 16 (vector (pos 0) (pos 5)) }

-- sixteen parts
sixteenths : (read (65 ∷ 93 ∷ 195 ∷ 150 ∷ 182 ∷ 170 ∷ 86 ∷ 130 ∷ 92 ∷ 2 ∷ 199 ∷ 118 ∷ 249 ∷ 129 ∷ 226 ∷ 202 ∷ 176 ∷ 9 ∷ 58 ∷ 50 ∷ 38 ∷ 8 ∷ 239 ∷ 207 ∷ 182 ∷ 160 ∷ 114 ∷ 10 ∷ 126 ∷ 11 ∷ 27 ∷ 85 ∷ 169 ∷ 81 ∷ 67 ∷ 205 ∷ 201 ∷ 41 ∷ 31 ∷ 156 ∷ 239 ∷ 232 ∷ 73 ∷ 230 ∷ 43 ∷ 102 ∷ 180 ∷ 47 ∷ 196 ∷ 71 ∷ []) start (mb_mode inter_head initial_table (record { above = above_sixteenths; left = left_sixteenths; corner = above_sixteenths; bounds = bounds_of 10 9 3 4 }))).0 ≡ record { segment = 1; skip = false; reference = Golden; y = SPLIT; sub = replicate 16 BDC; chroma = DC; vectors = vector (negsuc 5) (negsuc 6) ∷ vector (pos 0) (pos 0) ∷ vector (pos 0) (pos 0) ∷ vector (pos 0) (pos 0) ∷ vector (pos 0) (pos 5) ∷ vector (pos 0) (pos 5) ∷ vector (pos 0) (pos 5) ∷ vector (pos 0) (pos 5) ∷ vector (pos 0) (pos 5) ∷ vector (pos 0) (pos 5) ∷ vector (pos 0) (pos 5) ∷ vector (pos 0) (pos 5) ∷ vector (pos 0) (pos 5) ∷ vector (pos 0) (pos 5) ∷ vector (negsuc 45) (negsuc 2) ∷ vector (negsuc 45) (negsuc 2) ∷ [] }
unfolding head inter_head above_sixteenths left_sixteenths read widen next ◌>>=◌ walk listed_from initial_table default_vectors_of inter_y_probabilities_of inter_chroma_probabilities_of key_y_probabilities_of key_chroma_probabilities_of subblock_probabilities_of inter_subblock_probabilities_of vector_mode_probabilities_of split_probabilities_of sub_vector_probabilities_of segment_entries key_y_entries inter_y_entries chroma_entries subblock_entries vector_mode_entries split_entries sub_vector_entries short_vector_entries near_of noted put_motion mb_mode intra_mode inter_mode sub_modes sub_row bits_at long_size component read_vector parts sub_vector split_vectors outside
sixteenths = refl

above_sixteenths_beside_intra : MbMode
above_sixteenths_beside_intra = record { segment = 2; skip = true; reference = Alt; y = ZERO; sub = replicate 16 BDC; chroma = DC; vectors = replicate 16 (vector (pos 0) (pos 0)) }

left_sixteenths_beside_intra : MbMode
left_sixteenths_beside_intra = record { segment = 2; skip = true; reference = Intra; y = DC; sub = replicate 16 BDC; chroma = V; vectors = replicate 16 (vector (pos 0) (pos 0)) }

-- sixteen parts, beside an intra macroblock
sixteenths_beside_intra : (read (141 ∷ 164 ∷ 254 ∷ 199 ∷ 34 ∷ 8 ∷ 147 ∷ 148 ∷ 109 ∷ 247 ∷ 185 ∷ 240 ∷ 135 ∷ 114 ∷ 41 ∷ 201 ∷ 13 ∷ 218 ∷ 250 ∷ 198 ∷ 121 ∷ 0 ∷ 144 ∷ 43 ∷ 253 ∷ 64 ∷ 177 ∷ 150 ∷ 161 ∷ 207 ∷ 65 ∷ 101 ∷ 17 ∷ 214 ∷ 68 ∷ 6 ∷ 223 ∷ 9 ∷ 175 ∷ 120 ∷ 176 ∷ 103 ∷ 12 ∷ 18 ∷ 111 ∷ 177 ∷ 47 ∷ 195 ∷ 0 ∷ 18 ∷ []) start (mb_mode inter_head initial_table (record { above = above_sixteenths_beside_intra; left = left_sixteenths_beside_intra; corner = above_sixteenths_beside_intra; bounds = bounds_of 10 9 3 4 }))).0 ≡ record { segment = 2; skip = false; reference = Last; y = SPLIT; sub = replicate 16 BDC; chroma = DC; vectors = vector (pos 0) (pos 0) ∷ vector (pos 0) (negsuc 0) ∷ vector (pos 0) (negsuc 0) ∷ vector (pos 0) (negsuc 0) ∷ vector (pos 0) (pos 0) ∷ vector (pos 584) (pos 122) ∷ vector (pos 0) (negsuc 0) ∷ vector (pos 0) (negsuc 0) ∷ vector (pos 0) (pos 0) ∷ vector (pos 584) (pos 122) ∷ vector (pos 584) (pos 122) ∷ vector (pos 584) (pos 122) ∷ vector (pos 0) (pos 0) ∷ vector (pos 584) (pos 122) ∷ vector (pos 584) (pos 122) ∷ vector (pos 584) (pos 122) ∷ [] }
unfolding head inter_head above_sixteenths_beside_intra left_sixteenths_beside_intra read widen next ◌>>=◌ walk listed_from initial_table default_vectors_of inter_y_probabilities_of inter_chroma_probabilities_of key_y_probabilities_of key_chroma_probabilities_of subblock_probabilities_of inter_subblock_probabilities_of vector_mode_probabilities_of split_probabilities_of sub_vector_probabilities_of segment_entries key_y_entries inter_y_entries chroma_entries subblock_entries vector_mode_entries split_entries sub_vector_entries short_vector_entries near_of noted put_motion mb_mode intra_mode inter_mode sub_modes sub_row bits_at long_size component read_vector parts sub_vector split_vectors outside
sixteenths_beside_intra = refl

above_quarters : MbMode
above_quarters = record { segment = 2; skip = false; reference = Alt; y = SPLIT; sub = replicate 16 BDC; chroma = DC; vectors = vector (negsuc 32) (negsuc 152) ∷ vector (negsuc 32) (negsuc 152) ∷ vector (negsuc 32) (negsuc 152) ∷ vector (negsuc 32) (negsuc 152) ∷ vector (negsuc 32) (negsuc 152) ∷ vector (negsuc 32) (negsuc 152) ∷ vector (negsuc 32) (negsuc 152) ∷ vector (negsuc 32) (negsuc 152) ∷ vector (negsuc 18) (negsuc 139) ∷ vector (negsuc 18) (negsuc 139) ∷ vector (negsuc 18) (negsuc 139) ∷ vector (negsuc 18) (negsuc 139) ∷ vector (negsuc 18) (negsuc 139) ∷ vector (negsuc 18) (negsuc 139) ∷ vector (negsuc 18) (negsuc 139) ∷ vector (negsuc 18) (negsuc 139) ∷ [] }

left_quarters : MbMode
left_quarters = record { segment = 2; skip = true; reference = Alt; y = SPLIT; sub = replicate 16 BDC; chroma = DC; vectors = vector (negsuc 20) (negsuc 141) ∷ vector (negsuc 18) (negsuc 139) ∷ vector (negsuc 18) (negsuc 139) ∷ vector (negsuc 18) (negsuc 139) ∷ vector (negsuc 20) (negsuc 141) ∷ vector (negsuc 18) (negsuc 137) ∷ vector (negsuc 18) (negsuc 139) ∷ vector (negsuc 3) (negsuc 2) ∷ vector (pos 19) (pos 141) ∷ vector (negsuc 39) (negsuc 158) ∷ vector (negsuc 39) (negsuc 158) ∷ vector (negsuc 18) (negsuc 143) ∷ vector (negsuc 18) (negsuc 138) ∷ vector (negsuc 18) (negsuc 138) ∷ vector (negsuc 18) (negsuc 138) ∷ vector (negsuc 18) (negsuc 138) ∷ [] }

-- four parts
quarters : (read (188 ∷ 215 ∷ 250 ∷ 17 ∷ 110 ∷ 219 ∷ 152 ∷ 77 ∷ 108 ∷ 185 ∷ 165 ∷ 228 ∷ 136 ∷ 226 ∷ 220 ∷ 219 ∷ 40 ∷ 13 ∷ 224 ∷ 24 ∷ 251 ∷ 125 ∷ 18 ∷ 254 ∷ 130 ∷ 79 ∷ 28 ∷ 141 ∷ 78 ∷ 121 ∷ []) start (mb_mode inter_head initial_table (record { above = above_quarters; left = left_quarters; corner = above_quarters; bounds = bounds_of 10 9 3 4 }))).0 ≡ record { segment = 2; skip = true; reference = Last; y = SPLIT; sub = replicate 16 BDC; chroma = DC; vectors = vector (negsuc 18) (negsuc 139) ∷ vector (negsuc 18) (negsuc 139) ∷ vector (negsuc 18) (negsuc 138) ∷ vector (negsuc 18) (negsuc 138) ∷ vector (negsuc 18) (negsuc 139) ∷ vector (negsuc 18) (negsuc 139) ∷ vector (negsuc 18) (negsuc 138) ∷ vector (negsuc 18) (negsuc 138) ∷ vector (negsuc 18) (negsuc 143) ∷ vector (negsuc 18) (negsuc 143) ∷ vector (negsuc 18) (negsuc 141) ∷ vector (negsuc 18) (negsuc 141) ∷ vector (negsuc 18) (negsuc 143) ∷ vector (negsuc 18) (negsuc 143) ∷ vector (negsuc 18) (negsuc 141) ∷ vector (negsuc 18) (negsuc 141) ∷ [] }
unfolding head inter_head read widen next ◌>>=◌ walk listed_from initial_table default_vectors_of inter_y_probabilities_of inter_chroma_probabilities_of key_y_probabilities_of key_chroma_probabilities_of subblock_probabilities_of inter_subblock_probabilities_of vector_mode_probabilities_of split_probabilities_of sub_vector_probabilities_of segment_entries key_y_entries inter_y_entries chroma_entries subblock_entries vector_mode_entries split_entries sub_vector_entries short_vector_entries near_of noted put_motion mb_mode intra_mode inter_mode sub_modes sub_row bits_at long_size component read_vector parts sub_vector split_vectors outside above_quarters left_quarters
quarters = refl

above_top_and_bottom : MbMode
above_top_and_bottom = record { segment = 2; skip = false; reference = Last; y = NEAREST; sub = replicate 16 BDC; chroma = DC; vectors = replicate 16 (vector (negsuc 0) (pos 15)) }

left_top_and_bottom : MbMode
left_top_and_bottom = record { segment = 0; skip = false; reference = Golden; y = SPLIT; sub = replicate 16 BDC; chroma = DC; vectors = replicate 16 (vector (pos 1) (negsuc 14)) }

-- two parts, top and bottom
top_and_bottom : (read (226 ∷ 135 ∷ 140 ∷ 30 ∷ 109 ∷ 151 ∷ 210 ∷ 0 ∷ 127 ∷ 149 ∷ 128 ∷ 13 ∷ 173 ∷ 22 ∷ 247 ∷ 193 ∷ 184 ∷ 145 ∷ 106 ∷ 175 ∷ 207 ∷ 77 ∷ 178 ∷ 147 ∷ 53 ∷ 249 ∷ 124 ∷ 70 ∷ 98 ∷ 42 ∷ []) start (mb_mode inter_head initial_table (record { above = above_top_and_bottom; left = left_top_and_bottom; corner = above_top_and_bottom; bounds = bounds_of 10 9 3 4 }))).0 ≡ record { segment = 2; skip = true; reference = Alt; y = SPLIT; sub = replicate 16 BDC; chroma = DC; vectors = vector (pos 62) (pos 17) ∷ vector (pos 62) (pos 17) ∷ vector (pos 62) (pos 17) ∷ vector (pos 62) (pos 17) ∷ vector (pos 62) (pos 17) ∷ vector (pos 62) (pos 17) ∷ vector (pos 62) (pos 17) ∷ vector (pos 62) (pos 17) ∷ vector (pos 1) (negsuc 14) ∷ vector (pos 1) (negsuc 14) ∷ vector (pos 1) (negsuc 14) ∷ vector (pos 1) (negsuc 14) ∷ vector (pos 1) (negsuc 14) ∷ vector (pos 1) (negsuc 14) ∷ vector (pos 1) (negsuc 14) ∷ vector (pos 1) (negsuc 14) ∷ [] }
unfolding head inter_head read widen next ◌>>=◌ walk listed_from initial_table default_vectors_of inter_y_probabilities_of inter_chroma_probabilities_of key_y_probabilities_of key_chroma_probabilities_of subblock_probabilities_of inter_subblock_probabilities_of vector_mode_probabilities_of split_probabilities_of sub_vector_probabilities_of segment_entries key_y_entries inter_y_entries chroma_entries subblock_entries vector_mode_entries split_entries sub_vector_entries short_vector_entries near_of noted put_motion mb_mode intra_mode inter_mode sub_modes sub_row bits_at long_size component read_vector parts sub_vector split_vectors outside above_top_and_bottom left_top_and_bottom
top_and_bottom = refl
