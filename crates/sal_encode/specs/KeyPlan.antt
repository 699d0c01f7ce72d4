-- The plan of a picture as a key frame, at a quantiser's index. Sections are those of RFC 6386.
use Rattle.std.specs.Prelude.{ℕ, suc, zero, ◌*◌, ◌/◌, ◌%◌, min, max, ℤ, pos, List, [], ◌∷◌, ◌++◌, Bool, true, false, not, None, replicate, count_by, length}
use Rattle.std.specs.List.{list_all}
use Rattle.std.specs.Ordering.{int_eq}
use Rattle.sal_base.specs.declared.picture.Planes.{Planes}
use Rattle.sal_base.specs.declared.picture.Picture.{Picture}
use Rattle.sal_base.specs.Pictures.{blocks_of}
use Rattle.sal_probs.specs.Probabilities.{no_updates}
use Rattle.sal_header.specs.declared.header.Header.{Header}
use Rattle.sal_header.specs.Headers.{zeros}
use Rattle.sal_macroblock.specs.declared.mode.MbMode.{MbMode}
use Rattle.sal_intra.specs.Edges.{luma_edge_of, chroma_edge_of}
use Rattle.sal_search.specs.declared.source.MbSource.{MbSource}
use Rattle.sal_search.specs.Search.{plain_factors, best_intra_of, best_chroma_of}
use Rattle.sal_frame.specs.Built.{built}
use Rattle.sal_encode.specs.declared.plan.Plan.{Plan}
use Rattle.sal_encode.specs.Plans.{record_of_plan}
use Rattle.sal_encode.specs.Source.{source_at}
use Rattle.sal_encode.specs.Quantised.{coefficients_of}

-- a shown key frame of one partition, without segments, deltas or updates, whose probabilities stay; the filter's level is a quarter of the
-- quantiser's index, and each macroblock says whether it is skipped (9 and 19.2)
unfoldable pub key_header : ℕ → ℕ → Header
key_header q prob_skip = record {
  key = true;
  shown = true;
  colour = false;
  clamping = false;
  segmentation = false;
  update_map = false;
  update_data = false;
  absolute = false;
  simple = false;
  deltas = false;
  update_deltas = false;
  refresh_entropy = true;
  refresh_golden = false;
  refresh_alt = false;
  bias_golden = false;
  bias_alt = false;
  refresh_last = false;
  skips = true;
  quantisers = zeros;
  levels = zeros;
  ref_deltas = zeros;
  mode_deltas = zeros;
  map = replicate 3 0;
  level = q / 4;
  sharpness = 0;
  log2 = 0;
  y_ac = q;
  copy_golden = 0;
  copy_alt = 0;
  prob_skip = prob_skip;
  prob_intra = 0;
  prob_last = 0;
  prob_golden = 0;
  y_dc = pos 0;
  y2_dc = pos 0;
  y2_ac = pos 0;
  uv_dc = pos 0;
  uv_ac = pos 0;
  updates = no_updates;
}

-- whether all coefficients of a macroblock are 0
abbrev pub are_zero : List (List ℤ) → Bool
are_zero ls = list_all (λ zs. list_all (λ (z : ℤ). int_eq z (pos 0)) zs) ls

-- a macroblock's modes and coefficients
abbrev pub Planned : Type 0
Planned = MbMode × List (List ℤ)

-- it is skipped exactly where its coefficients are all 0 (11.1)
abbrev pub with_skip : MbMode → List (List ℤ) → Planned
with_skip m ls = (record m { skip = are_zero ls }, ls)

-- the macroblock at this column and row, on planes that are built up to it: the first luma and chroma modes of least cost
unfoldable pub key_macroblock : ℕ → MbSource → Planes → ℕ → ℕ → Planned
key_macroblock q source p column row =
    let y = luma_edge_of p.y.width p.y.samples (16 * column) (16 * row) in
    let u = chroma_edge_of p.u.width p.u.samples (8 * column) (8 * row) in
    let v = chroma_edge_of p.v.width p.v.samples (8 * column) (8 * row) in
    let best : MbMode = record (best_intra_of source y q).choice { chroma = (best_chroma_of source u v).choice } in
    with_skip best (coefficients_of (plain_factors q) source best y u v)

-- a plan of a picture's first macroblocks, before prob_skip is known
abbrev pub front_plan : ℕ → List MbMode → List (List (List ℤ)) → Plan
front_plan q ms ls = record { header = key_header q 0; modes = ms; levels = ls }

-- and with one macroblock more
abbrev pub one_more : Plan → Planned → Plan
one_more p b = record p { modes = p.modes ++ b.0 ∷ []; levels = p.levels ++ b.1 ∷ [] }

-- the first n macroblocks, in raster order, each on those before it as they are built, unfiltered
unfoldable pub key_front : Picture → ℕ → ℕ → Plan
key_front picture q zero = front_plan q [] []
key_front picture q (suc n) =
    let before = key_front picture q n in
    let column = n % blocks_of picture.width in
    let row = n / blocks_of picture.width in
    one_more before (key_macroblock q (source_at picture column row) (built None (record_of_plan (picture.width, picture.height) before)) column row)

-- a part of a total as a probability
abbrev pub share : ℕ → ℕ → ℕ
share n total = max 1 (min 255 (256 * n / total))

-- the probability that a macroblock isn't skipped (9.11)
abbrev pub skip_share : List MbMode → ℕ
skip_share ms = share (count_by (λ (m : MbMode). not m.skip) ms) (length ms)

-- all of it
unfoldable pub key_plan : Picture → ℕ → Plan
key_plan picture q =
    let all = key_front picture q (blocks_of picture.width * blocks_of picture.height) in
    record all { header = key_header q (skip_share all.modes) }
