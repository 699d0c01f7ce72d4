-- Parts of what a frame means, computed; the values are by hand.
use Rattle.std.proofs.Common.{◌≡◌, ℕ, List, pos, negsuc, [], ◌∷◌, Bool, true, false, refl, replicate, Some}
use Rattle.sal_base.specs.declared.kinds.YMode.{YMode}
use Rattle.sal_base.specs.declared.kinds.YMode.TheVariants.{DC, B, NEW, SPLIT}
use Rattle.sal_base.specs.declared.picture.Planes.{Planes}
use Rattle.sal_base.specs.Pictures.{plane}
use Rattle.sal_tables.specs.Tables.{dc_steps_of, ac_steps_of}
use Rattle.sal_probs.specs.Probabilities.{no_updates}
use Rattle.sal_header.specs.declared.header.Header.{Header}
use Rattle.sal_header.specs.Headers.{zeros}
use Rattle.sal_macroblock.specs.declared.mode.MbMode.{MbMode}
use Rattle.sal_macroblock.specs.Macroblocks.{vector, outside}
use Rattle.sal_transform.specs.Factors.{factors_of}
use Rattle.sal_state.specs.States.{References}
use Rattle.sal_frame.specs.Records.{Macroblock, Record, quantiser_of, segment_factors, info_of}
use Rattle.sal_frame.specs.Residues.{residue_at}
use Rattle.sal_frame.specs.Built.{sum_cut, luma_vector, chroma_vector}
use Rattle.sal_frame.specs.After.{references_after, map_after}

plain : Header
plain = record {
  key = false;
  shown = true;
  colour = false;
  clamping = false;
  segmentation = false;
  update_map = false;
  update_data = false;
  absolute = false;
  quantisers = pos 3 ∷ negsuc 2 ∷ pos 20 ∷ negsuc 99 ∷ [];
  levels = zeros;
  map = replicate 3 0;
  simple = false;
  level = 0;
  sharpness = 0;
  deltas = false;
  update_deltas = false;
  ref_deltas = zeros;
  mode_deltas = zeros;
  log2 = 0;
  y_ac = 110;
  y_dc = pos 0;
  y2_dc = pos 0;
  y2_ac = pos 0;
  uv_dc = pos 15;
  uv_ac = negsuc 14;
  refresh_entropy = false;
  refresh_golden = false;
  refresh_alt = false;
  copy_golden = 0;
  copy_alt = 0;
  bias_golden = false;
  bias_alt = false;
  refresh_last = false;
  skips = false;
  prob_skip = 0;
  prob_intra = 0;
  prob_last = 0;
  prob_golden = 0;
  updates = no_updates;
}

of_four : Header → List ℕ
of_four h = quantiser_of h 0 ∷ quantiser_of h 1 ∷ quantiser_of h 2 ∷ quantiser_of h 3 ∷ []

-- without segments the frame's; absolute; on top of the frame's
index_alone : of_four plain ≡ 110 ∷ 110 ∷ 110 ∷ 110 ∷ []
unfolding of_four plain
index_alone = refl

index_absolute : of_four (record plain { segmentation = true; absolute = true }) ≡ 3 ∷ 0 ∷ 20 ∷ 0 ∷ []
unfolding of_four plain
index_absolute = refl

index_on_top : of_four (record plain { segmentation = true }) ≡ 113 ∷ 107 ∷ 127 ∷ 10 ∷ []
unfolding of_four plain
index_on_top = refl

-- index 110: the first factor of Y2 doubled, its others by 155 / 100, the first of chroma cut off at 132
some_factors : segment_factors plain 0 ≡ record { y_dc = 116; y_ac = 205; y2_dc = 232; y2_ac = 317; uv_dc = 132; uv_ac = 152 }
unfolding plain segment_factors factors_of dc_steps_of ac_steps_of
some_factors = refl

-- cut off at either side
sums : (sum_cut 250 (pos 5) ∷ sum_cut 250 (pos 6) ∷ sum_cut 3 (negsuc 2) ∷ sum_cut 3 (negsuc 3) ∷ []) ≡ 255 ∷ 255 ∷ 0 ∷ 0 ∷ []
sums = refl

-- the second block of a row of two, its third row and last column
by_place : residue_at 2 (replicate 16 (pos 1) ∷ (pos 0 ∷ pos 1 ∷ pos 2 ∷ pos 3 ∷ pos 4 ∷ pos 5 ∷ pos 6 ∷ pos 7 ∷ pos 8 ∷ pos 9 ∷ pos 10 ∷ pos 11 ∷ pos 12 ∷ pos 13 ∷ pos 14 ∷ pos 15 ∷ []) ∷ []) 2 7 ≡ pos 11
by_place = refl

-- vectors by block: rows 0, 4, 8 and 12 of columns 0, 10, 20 and 30
in_parts : MbMode
in_parts = record outside {
  y = SPLIT;
  vectors = vector (pos 0) (pos 0) ∷ vector (pos 0) (pos 10) ∷ vector (pos 0) (pos 20) ∷ vector (pos 0) (pos 30)
      ∷ vector (pos 4) (pos 0) ∷ vector (pos 4) (pos 10) ∷ vector (pos 4) (pos 20) ∷ vector (pos 4) (pos 30)
      ∷ vector (negsuc 7) (pos 0) ∷ vector (negsuc 7) (pos 10) ∷ vector (negsuc 7) (pos 20) ∷ vector (negsuc 7) (pos 30)
      ∷ vector (pos 12) (pos 0) ∷ vector (pos 12) (pos 10) ∷ vector (pos 12) (pos 20) ∷ vector (pos 12) (pos 30) ∷ [];
}

luma_by_block : luma_vector in_parts 9 15 ≡ vector (negsuc 7) (pos 30)
unfolding in_parts outside
luma_by_block = refl

-- rows -8 and 12 twice, columns 20 and 30 twice
chroma_by_quarter : chroma_vector in_parts 7 4 ≡ vector (pos 2) (pos 25)
unfolding in_parts outside
chroma_by_quarter = refl

-- not in parts: the macroblock's own, that of its last block
chroma_alone : chroma_vector (record in_parts { y = NEW }) 0 0 ≡ vector (pos 12) (pos 30)
unfolding in_parts outside
chroma_alone = refl

inner_of : YMode → Bool → Bool → Bool
inner_of y skip has_coefficients = (info_of (record { mode = record outside { y = y; skip = skip }; coefficients = []; has_coefficients = has_coefficients })).inner

-- skipped, no coefficients, some coefficients; then modes of subblocks and of parts without coefficients
inner_edges : (inner_of DC true false ∷ inner_of DC false false ∷ inner_of NEW false true ∷ inner_of B true false ∷ inner_of SPLIT false false ∷ []) ≡ false ∷ false ∷ true ∷ true ∷ true ∷ []
unfolding inner_of info_of outside
inner_edges = refl

flat : ℕ → Planes
flat n = record { y = plane 1 1 (n ∷ []); u = plane 1 1 (n ∷ []); v = plane 1 1 (n ∷ []) }

frame : Header → Record
frame h = record { header = h; width = 1; height = 1; blocks = [] }

before : References
before = record { width = 1; height = 1; last = flat 1; golden = flat 2; alt = flat 3 }

references : ℕ → ℕ → ℕ → References
references last golden alt = record { width = 1; height = 1; last = flat last; golden = flat golden; alt = flat alt }

-- nothing but a new last
last_alone : references_after (frame (record plain { refresh_last = true })) (flat 9) (Some before) ≡ references 9 2 3
unfolding frame plain before references flat
last_alone = refl

-- both copy flags 2: golden and alt change places
both_copied : references_after (frame (record plain { copy_golden = 2; copy_alt = 2 })) (flat 9) (Some before) ≡ references 1 3 2
unfolding frame plain before references flat
both_copied = refl

-- both 1: the last before the frame, though it is replaced
both_from_last : references_after (frame (record plain { copy_golden = 1; copy_alt = 1; refresh_last = true })) (flat 9) (Some before) ≡ references 9 1 1
unfolding frame plain before references flat
both_from_last = refl

-- 3 copies nothing; a refreshed reference isn't copied to
none_copied : references_after (frame (record plain { copy_golden = 3; refresh_alt = true; copy_alt = 1 })) (flat 9) (Some before) ≡ references 1 2 9
unfolding frame plain before references flat
none_copied = refl

-- a key frame replaces all
all_replaced : references_after (frame (record plain { key = true })) (flat 9) (Some before) ≡ references 9 9 9
unfolding frame plain before references flat
all_replaced = refl

in_segment : ℕ → Macroblock
in_segment k = record { mode = record outside { segment = k }; coefficients = []; has_coefficients = false }

three : Header → Record
three h = record (frame h) { blocks = in_segment 3 ∷ in_segment 1 ∷ in_segment 2 ∷ [] }

-- a new map, the old one, and zeros after a key frame
map_updated : map_after (three (record plain { update_map = true })) (1 ∷ 1 ∷ 1 ∷ []) ≡ 3 ∷ 1 ∷ 2 ∷ []
unfolding three in_segment frame plain outside
map_updated = refl

map_kept : map_after (three plain) (1 ∷ 2 ∷ 1 ∷ []) ≡ 1 ∷ 2 ∷ 1 ∷ []
unfolding three in_segment frame plain
map_kept = refl

map_cleared : map_after (three (record plain { key = true })) (1 ∷ 2 ∷ 1 ∷ []) ≡ 0 ∷ 0 ∷ 0 ∷ []
unfolding three in_segment frame plain
map_cleared = refl
