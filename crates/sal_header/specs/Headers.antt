-- The fields of a frame's header, in the order of their bits. Sections are those of RFC 6386; the order is that of 19.2.
use Rattle.std.specs.Prelude.{ℕ, ◌*◌, ◌≤◌, ℤ, pos, List, Bool, false, not, ◌==◌, Option, None, if◌then◌else◌, replicate}
use Rattle.sal_bool.specs.Syntax.{Syntax, Done, ◌>>=◌, flag, literal, signed_literal, when, flagged, optional, each}
use Rattle.sal_tables.specs.Tables.{update_coefficients_of, update_vectors_of}
use Rattle.sal_header.specs.declared.header.Header.{Header}
use Rattle.sal_header.specs.declared.header.Kept.{Kept}
use Rattle.sal_header.specs.declared.parts.SegmentData.{SegmentData}
use Rattle.sal_header.specs.declared.parts.Segments.{Segments}
use Rattle.sal_header.specs.declared.parts.Deltas.{Deltas}
use Rattle.sal_header.specs.declared.parts.Filtering.{Filtering}
use Rattle.sal_header.specs.declared.parts.Quantisers.{Quantisers}
use Rattle.sal_header.specs.declared.parts.Refreshing.{Refreshing}
use Rattle.sal_header.specs.declared.parts.InterModes.{InterModes}
use Rattle.sal_header.specs.declared.parts.Modes.{Modes}

abbrev pub zeros : List ℤ
zeros = replicate 4 (pos 0)

abbrev pub no_data : SegmentData
no_data = record { absolute = false; quantisers = zeros; levels = zeros }

abbrev pub kept_data : Kept → SegmentData
kept_data kept = record { absolute = kept.absolute; quantisers = kept.quantisers; levels = kept.levels }

abbrev pub no_deltas : Deltas
no_deltas = record { references = zeros; modes = zeros }

abbrev pub kept_deltas : Kept → Deltas
kept_deltas kept = record { references = kept.ref_deltas; modes = kept.mode_deltas }

-- the segments' data that a frame begins with: none in a key frame, else the state's (9.3)
abbrev pub data_before : Bool → Kept → SegmentData
data_before key kept = if key then no_data else kept_data kept

-- the filter's deltas that a frame begins with: none in a key frame, else the state's (9.4)
abbrev pub deltas_before : Bool → Kept → Deltas
deltas_before key kept = if key then no_deltas else kept_deltas kept

-- what is said of the segments: absolute or not, quantisers and levels; those unflagged are 0 (9.3)
unfoldable pub segment_data : Syntax SegmentData
segment_data = do
  absolute ← flag
  quantisers ← each (flagged (signed_literal 7)) zeros
  levels ← each (flagged (signed_literal 6)) zeros
  Done (record { absolute = absolute; quantisers = quantisers; levels = levels })

-- the probabilities of the segment map; those unflagged are 255 (9.3)
abbrev pub segment_map : Syntax (List ℕ)
segment_map = each (flagged (literal 8)) (replicate 3 255)

-- segments (9.3)
unfoldable pub segments : SegmentData → Syntax Segments
segments before = do
  on ← flag
  update_map ← when on flag false
  update_data ← when on flag false
  d ← when update_data segment_data before
  m ← when update_map segment_map (replicate 3 0)
  Done (record { on = on; update_map = update_map; update_data = update_data; «data» = d; map = m })

-- the filter's deltas by reference and by mode; those unflagged stay as they were (9.4)
unfoldable pub filter_deltas : Deltas → Syntax Deltas
filter_deltas before = do
  references ← each (flagged (signed_literal 6)) before.references
  modes ← each (flagged (signed_literal 6)) before.modes
  Done (record { references = references; modes = modes })

-- the loop filter (9.4)
unfoldable pub filtering : Deltas → Syntax Filtering
filtering before = do
  simple ← flag
  level ← literal 6
  sharpness ← literal 3
  on ← flag
  update ← when on flag false
  deltas ← when update (filter_deltas before) before
  Done (record { simple = simple; level = level; sharpness = sharpness; on = on; update = update; deltas = deltas })

-- a delta of the quantiser's index; unflagged it is 0 (9.6)
abbrev pub index_delta : Syntax ℤ
index_delta = flagged (signed_literal 4) (pos 0)

-- the quantiser's index and its deltas (9.6)
unfoldable pub quantisers : Syntax Quantisers
quantisers = do
  y_ac ← literal 7
  y_dc ← index_delta
  y2_dc ← index_delta
  y2_ac ← index_delta
  uv_dc ← index_delta
  uv_ac ← index_delta
  Done (record { y_ac = y_ac; y_dc = y_dc; y2_dc = y2_dc; y2_ac = y2_ac; uv_dc = uv_dc; uv_ac = uv_ac })

-- a key frame replaces every reference; of its probabilities it says whether they stay (9.11)
unfoldable pub key_refreshing : Syntax Refreshing
key_refreshing = do
  entropy ← flag
  Done (record { golden = false; alt = false; copy_golden = 0; copy_alt = 0; bias_golden = false; bias_alt = false; entropy = entropy; last = false })

-- which references an inter frame replaces, and how, and whether its probabilities stay (9.7, 9.10 and 9.11)
unfoldable pub inter_refreshing : Syntax Refreshing
inter_refreshing = do
  golden ← flag
  alt ← flag
  copy_golden ← when (not golden) (literal 2) 0
  copy_alt ← when (not alt) (literal 2) 0
  bias_golden ← flag
  bias_alt ← flag
  entropy ← flag
  last ← flag
  Done (record { golden = golden; alt = alt; copy_golden = copy_golden; copy_alt = copy_alt; bias_golden = bias_golden; bias_alt = bias_alt; entropy = entropy; last = last })

abbrev pub refreshing : Bool → Syntax Refreshing
refreshing key = if key then key_refreshing else inter_refreshing

-- new coefficient probabilities (13.4)
unfoldable pub coefficient_updates : Syntax (List (Option ℕ))
coefficient_updates = each (λ p. optional p (literal 8)) update_coefficients_of

-- seven bits say an even probability, but 0 says 1 (17.2)
abbrev pub vector_probability : ℕ → ℕ
vector_probability x = if x == 0 then 1 else 2 * x

abbrev pub vector_value : Syntax ℕ
vector_value = literal 7 >>= λ x. Done (vector_probability x)

-- new vector probabilities (17.2)
unfoldable pub vector_updates : Syntax (List (Option ℕ))
vector_updates = each (λ p. optional p vector_value) update_vectors_of

-- n bytes
abbrev pub bytes : ℕ → Syntax (List ℕ)
bytes n = each (λ (x : ℕ). literal 8) (replicate n 0)

-- the probabilities of an inter frame's modes and vectors (9.10, 16.2 and 17.2)
unfoldable pub inter_modes : Syntax InterModes
inter_modes = do
  intra ← literal 8
  last ← literal 8
  golden ← literal 8
  y ← optional 128 (bytes 4)
  chroma ← optional 128 (bytes 3)
  vectors ← vector_updates
  Done (record { intra = intra; last = last; golden = golden; y = y; chroma = chroma; vectors = vectors })

unfoldable pub no_inter_modes : InterModes
no_inter_modes = record { intra = 0; last = 0; golden = 0; y = None; chroma = None; vectors = replicate 38 None }

-- the probabilities of macroblocks' modes (9.10 and 9.11)
unfoldable pub modes : Bool → Syntax Modes
modes key = do
  skips ← flag
  skip ← when skips (literal 8) 0
  inter ← when (not key) inter_modes no_inter_modes
  Done (record { skips = skips; skip = skip; inter = inter })

-- a header of its parts
unfoldable pub header_made : Bool → Bool → Bool → Bool → Segments → Filtering → ℕ → Quantisers → Refreshing → List (Option ℕ) → Modes → Header
header_made key shown colour clamping s f log2 q r coefficients m =
    record {
      key = key;
      shown = shown;
      colour = colour;
      clamping = clamping;
      segmentation = s.on;
      update_map = s.update_map;
      update_data = s.update_data;
      absolute = s.«data».absolute;
      quantisers = s.«data».quantisers;
      levels = s.«data».levels;
      map = s.map;
      simple = f.simple;
      level = f.level;
      sharpness = f.sharpness;
      deltas = f.on;
      update_deltas = f.update;
      ref_deltas = f.deltas.references;
      mode_deltas = f.deltas.modes;
      log2 = log2;
      y_ac = q.y_ac;
      y_dc = q.y_dc;
      y2_dc = q.y2_dc;
      y2_ac = q.y2_ac;
      uv_dc = q.uv_dc;
      uv_ac = q.uv_ac;
      refresh_golden = r.golden;
      refresh_alt = r.alt;
      copy_golden = r.copy_golden;
      copy_alt = r.copy_alt;
      bias_golden = r.bias_golden;
      bias_alt = r.bias_alt;
      refresh_entropy = r.entropy;
      refresh_last = r.last;
      skips = m.skips;
      prob_skip = m.skip;
      prob_intra = m.inter.intra;
      prob_last = m.inter.last;
      prob_golden = m.inter.golden;
      updates = record { coefficients = coefficients; vectors = m.inter.vectors; y = m.inter.y; chroma = m.inter.chroma };
    }

-- a whole header (19.2), over what a frame begins with
unfoldable pub header_over : Bool → Bool → SegmentData → Deltas → Syntax Header
header_over key shown data_kept deltas_kept = do
  colour ← when key flag false
  clamping ← when key flag false
  s ← segments data_kept
  f ← filtering deltas_kept
  log2 ← literal 2
  q ← quantisers
  r ← refreshing key
  coefficients ← coefficient_updates
  m ← modes key
  Done (header_made key shown colour clamping s f log2 q r coefficients m)

-- a frame's header, over what the state keeps
abbrev pub header_of : Bool → Bool → Kept → Syntax Header
header_of key shown kept = header_over key shown (data_before key kept) (deltas_before key kept)

-- the numbers of a header that are read from fewer bits than a byte has
pub record IsInRange (h : Header) : Type 0 where
  pub log2 : h.log2 ≤ 3
  pub level : h.level ≤ 63
  pub sharpness : h.sharpness ≤ 7
  pub y_ac : h.y_ac ≤ 127
