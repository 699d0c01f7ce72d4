-- Examples, computed.
use Rattle.std.proofs.Common.{◌≡◌, pos, [], ◌∷◌, true, false, refl, Ok, Err, replicate}
use Rattle.sal_base.specs.declared.coding.Fault.TheVariants.{Short, BadVersion, BadStart, ZeroSize, TooLarge, Partition}
use Rattle.sal_bool.specs.Bits.{start, widen, next}
use Rattle.sal_bool.specs.Syntax.{◌>>=◌, read, number, literal, signed_literal, each}
use Rattle.sal_tables.specs.Tables.{update_coefficients_of, update_rows}
use Rattle.sal_probs.specs.Probabilities.{no_updates}
use Rattle.sal_header.specs.declared.header.Header.{Header}
use Rattle.sal_header.specs.declared.header.Kept.{Kept}
use Rattle.sal_header.specs.declared.tag.Tag.{Tag}
use Rattle.sal_header.specs.Tags.{sides_of, tag_of, parts_of, placed}
use Rattle.sal_header.specs.Headers.{zeros, segment_data, segments, filter_deltas, filtering, quantisers, key_refreshing, coefficient_updates, vector_probability, no_inter_modes, modes, header_over, header_of, header_made}

key_tag : tag_of (0x10 ∷ 0x01 ∷ 0x00 ∷ 0x9d ∷ 0x01 ∷ 0x2a ∷ 0x10 ∷ 0x00 ∷ 0x10 ∷ 0x00 ∷ []) ≡ Ok (record { key = true; shown = true; size = 8; width = 16; height = 16 })
unfolding tag_of sides_of
key_tag = refl

short_tag : tag_of (0x10 ∷ 0x01 ∷ 0x00 ∷ []) ≡ Err Short
unfolding tag_of sides_of
short_tag = refl

version_tag : tag_of (0x12 ∷ 0x00 ∷ 0x00 ∷ []) ≡ Err (BadVersion 1)
unfolding tag_of sides_of
version_tag = refl

start_tag : tag_of (0x10 ∷ 0x00 ∷ 0x00 ∷ 0x9d ∷ 0x01 ∷ 0x2b ∷ 0x10 ∷ 0x00 ∷ 0x10 ∷ 0x00 ∷ []) ≡ Err BadStart
unfolding tag_of sides_of
start_tag = refl

no_side : tag_of (0x10 ∷ 0x00 ∷ 0x00 ∷ 0x9d ∷ 0x01 ∷ 0x2a ∷ 0x00 ∷ 0x00 ∷ 0x10 ∷ 0x00 ∷ []) ≡ Err ZeroSize
unfolding tag_of sides_of
no_side = refl

large_tag : tag_of (0x10 ∷ 0x00 ∷ 0x00 ∷ 0x9d ∷ 0x01 ∷ 0x2a ∷ 0x01 ∷ 0x05 ∷ 0x10 ∷ 0x00 ∷ []) ≡ Err (TooLarge 1281 16)
unfolding tag_of sides_of
large_tag = refl

inter : Tag
inter = record { key = false; shown = true; size = 1; width = 0; height = 0 }

two_parts : parts_of (0 ∷ 0 ∷ 0 ∷ 9 ∷ 1 ∷ 0 ∷ 0 ∷ 7 ∷ []) inter 1 ≡ Ok ((7, 1) ∷ (8, 0) ∷ [])
unfolding inter parts_of placed
two_parts = refl

second_part_out : parts_of (0 ∷ 0 ∷ 0 ∷ 9 ∷ 1 ∷ 0 ∷ 0 ∷ 3 ∷ 0 ∷ 0 ∷ 2 ∷ 0 ∷ 0 ∷ 5 ∷ 6 ∷ []) inter 2 ≡ Err (Partition 1)
unfolding inter parts_of placed
second_part_out = refl

plain : Header
plain = record {
  key = true;
  shown = true;
  colour = false;
  clamping = false;
  segmentation = false;
  update_map = false;
  update_data = false;
  absolute = false;
  quantisers = zeros;
  levels = zeros;
  map = replicate 3 0;
  simple = false;
  level = 0;
  sharpness = 0;
  deltas = false;
  update_deltas = false;
  ref_deltas = zeros;
  mode_deltas = zeros;
  log2 = 0;
  y_ac = 0;
  y_dc = pos 0;
  y2_dc = pos 0;
  y2_ac = pos 0;
  uv_dc = pos 0;
  uv_ac = pos 0;
  refresh_golden = false;
  refresh_alt = false;
  copy_golden = 0;
  copy_alt = 0;
  bias_golden = false;
  bias_alt = false;
  refresh_entropy = false;
  refresh_last = false;
  skips = false;
  prob_skip = 0;
  prob_intra = 0;
  prob_last = 0;
  prob_golden = 0;
  updates = no_updates;
}

-- over an empty partition everything is 0, whatever was kept
empty_header : (kept : Kept) → (read [] start (header_of true true kept)).0 ≡ plain
unfolding plain read widen next ◌>>=◌ number literal signed_literal each update_coefficients_of update_rows header_over header_made segments segment_data filtering filter_deltas quantisers key_refreshing coefficient_updates modes no_inter_modes no_updates
empty_header kept = refl

smallest : vector_probability 0 ≡ 1
smallest = refl

greatest : vector_probability 127 ≡ 254
greatest = refl
