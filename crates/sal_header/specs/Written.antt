-- The pairs of a probability and a bit that a header is written as, and which headers can be written. Sections are those of RFC 6386.
use Rattle.std.specs.Prelude.{◌≡◌, ◌⊎◌, ℕ, ◌/◌, ◌%◌, ◌^◌, ◌<◌, ◌≤◌, ℤ, List, [], ◌++◌, Bool, true, false, not, ◌==◌, Option, if◌then◌else◌, replicate, length, unsigned_abs, IfSome}
use Rattle.sal_base.specs.Lists.{Each}
use Rattle.sal_bool.specs.Pairs.{Pairs, flag_pairs, literal_pairs, signed_pairs, flagged_pairs, pairs_when, all_pairs, each_pairs, optional_pairs}
use Rattle.sal_tables.specs.Tables.{update_coefficients_of, update_vectors_of}
use Rattle.sal_header.specs.declared.header.Header.{Header}
use Rattle.sal_header.specs.declared.header.Kept.{Kept}
use Rattle.sal_header.specs.declared.parts.SegmentData.{SegmentData}
use Rattle.sal_header.specs.declared.parts.Segments.{Segments}
use Rattle.sal_header.specs.declared.parts.Deltas.{Deltas}
use Rattle.sal_header.specs.declared.parts.Filtering.{Filtering}
use Rattle.sal_header.specs.declared.parts.Quantisers.{Quantisers}
use Rattle.sal_header.specs.declared.parts.Refreshing.{Refreshing}
use Rattle.sal_header.specs.declared.parts.InterModes.{InterModes}
use Rattle.sal_header.specs.declared.parts.Modes.{Modes}
use Rattle.sal_header.specs.Headers.{data_before, deltas_before, no_inter_modes}

-- the parts of a header
abbrev pub segments_of : Header → Segments
segments_of h = record { on = h.segmentation; update_map = h.update_map; update_data = h.update_data; «data» = record { absolute = h.absolute; quantisers = h.quantisers; levels = h.levels }; map = h.map }

abbrev pub filtering_of : Header → Filtering
filtering_of h = record { simple = h.simple; level = h.level; sharpness = h.sharpness; on = h.deltas; update = h.update_deltas; deltas = record { references = h.ref_deltas; modes = h.mode_deltas } }

abbrev pub quantisers_of : Header → Quantisers
quantisers_of h = record { y_ac = h.y_ac; y_dc = h.y_dc; y2_dc = h.y2_dc; y2_ac = h.y2_ac; uv_dc = h.uv_dc; uv_ac = h.uv_ac }

abbrev pub refreshing_of : Header → Refreshing
refreshing_of h = record { golden = h.refresh_golden; alt = h.refresh_alt; copy_golden = h.copy_golden; copy_alt = h.copy_alt; bias_golden = h.bias_golden; bias_alt = h.bias_alt; entropy = h.refresh_entropy; last = h.refresh_last }

abbrev pub inter_modes_of : Header → InterModes
inter_modes_of h = record { intra = h.prob_intra; last = h.prob_last; golden = h.prob_golden; y = h.updates.y; chroma = h.updates.chroma; vectors = h.updates.vectors }

abbrev pub modes_of : Header → Modes
modes_of h = record { skips = h.skips; skip = h.prob_skip; inter = inter_modes_of h }

-- segments' data, each with its flag exactly where it isn't 0 (9.3)
unfoldable pub data_pairs : SegmentData → Pairs
data_pairs d = flag_pairs d.absolute ++ (all_pairs (flagged_pairs 7) d.quantisers ++ (all_pairs (flagged_pairs 6) d.levels ++ []))

-- a probability of the map has its flag exactly where it isn't 255 (9.3)
abbrev pub map_pairs : ℕ → Pairs
map_pairs y = if y == 255 then flag_pairs false else flag_pairs true ++ literal_pairs 8 y

unfoldable pub segments_pairs : Segments → Pairs
segments_pairs s =
    flag_pairs s.on ++ (pairs_when s.on (flag_pairs s.update_map) ++ (pairs_when s.on (flag_pairs s.update_data)
    ++ (pairs_when s.update_data (data_pairs s.«data») ++ (pairs_when s.update_map (all_pairs map_pairs s.map) ++ []))))

-- a delta of the filter always has its flag (9.4)
abbrev pub delta_pairs : ℤ → Pairs
delta_pairs y = flag_pairs true ++ signed_pairs 6 y

unfoldable pub deltas_pairs : Deltas → Pairs
deltas_pairs d = all_pairs delta_pairs d.references ++ (all_pairs delta_pairs d.modes ++ [])

unfoldable pub filtering_pairs : Filtering → Pairs
filtering_pairs f =
    flag_pairs f.simple ++ (literal_pairs 6 f.level ++ (literal_pairs 3 f.sharpness ++ (flag_pairs f.on ++ (pairs_when f.on (flag_pairs f.update)
    ++ (pairs_when f.update (deltas_pairs f.deltas) ++ [])))))

unfoldable pub quantisers_pairs : Quantisers → Pairs
quantisers_pairs q =
    literal_pairs 7 q.y_ac ++ (flagged_pairs 4 q.y_dc ++ (flagged_pairs 4 q.y2_dc ++ (flagged_pairs 4 q.y2_ac ++ (flagged_pairs 4 q.uv_dc ++ (flagged_pairs 4 q.uv_ac ++ [])))))

unfoldable pub inter_refreshing_pairs : Refreshing → Pairs
inter_refreshing_pairs r =
    flag_pairs r.golden ++ (flag_pairs r.alt ++ (pairs_when (not r.golden) (literal_pairs 2 r.copy_golden) ++ (pairs_when (not r.alt) (literal_pairs 2 r.copy_alt)
    ++ (flag_pairs r.bias_golden ++ (flag_pairs r.bias_alt ++ (flag_pairs r.entropy ++ (flag_pairs r.last ++ [])))))))

abbrev pub refreshing_pairs : Bool → Refreshing → Pairs
refreshing_pairs key r = if key then flag_pairs r.entropy else inter_refreshing_pairs r

unfoldable pub coefficients_pairs : List (Option ℕ) → Pairs
coefficients_pairs us = each_pairs (λ p u. optional_pairs p (literal_pairs 8) u) update_coefficients_of us

-- seven bits of a vector probability (17.2)
abbrev pub vector_pairs : ℕ → Pairs
vector_pairs x = literal_pairs 7 (x / 2)

unfoldable pub vectors_pairs : List (Option ℕ) → Pairs
vectors_pairs us = each_pairs (λ p u. optional_pairs p vector_pairs u) update_vectors_of us

unfoldable pub inter_modes_pairs : InterModes → Pairs
inter_modes_pairs m =
    literal_pairs 8 m.intra ++ (literal_pairs 8 m.last ++ (literal_pairs 8 m.golden
    ++ (optional_pairs 128 (all_pairs (literal_pairs 8)) m.y ++ (optional_pairs 128 (all_pairs (literal_pairs 8)) m.chroma ++ (vectors_pairs m.vectors ++ [])))))

unfoldable pub modes_pairs : Bool → Modes → Pairs
modes_pairs key m = flag_pairs m.skips ++ (pairs_when m.skips (literal_pairs 8 m.skip) ++ (pairs_when (not key) (inter_modes_pairs m.inter) ++ []))

-- a whole header (19.2)
unfoldable pub header_pairs : Header → Pairs
header_pairs h =
    pairs_when h.key (flag_pairs h.colour) ++ (pairs_when h.key (flag_pairs h.clamping) ++ (segments_pairs (segments_of h) ++ (filtering_pairs (filtering_of h) ++ (literal_pairs 2 h.log2
    ++ (quantisers_pairs (quantisers_of h) ++ (refreshing_pairs h.key (refreshing_of h) ++ (coefficients_pairs h.updates.coefficients ++ (modes_pairs h.key (modes_of h) ++ []))))))))

-- n values that each fit
abbrev pub AreEach : {Y : Type 0} → (Y → Type 0) → ℕ → List Y → Type 0
AreEach P n ys = (length ys ≡ n) × Each P ys

-- a number of n bits, and a signed one
abbrev pub IsBelow : ℕ → ℕ → Type 0
IsBelow n x = x < 2 ^ n

abbrev pub IsShort : ℕ → ℤ → Type 0
IsShort n z = unsigned_abs z < 2 ^ n

pub record IsData (d : SegmentData) : Type 0 where
  pub quantisers : AreEach (IsShort 7) 4 d.quantisers
  pub levels : AreEach (IsShort 6) 4 d.levels

-- segments that can be written where a frame begins with this data: what isn't written is as it is read (9.3)
pub record AreSegments (before : SegmentData) (s : Segments) : Type 0 where
  pub no_flags : s.on ≡ false → (s.update_map ≡ false) × (s.update_data ≡ false)
  pub new_data : s.update_data ≡ true → IsData s.«data»
  pub old_data : s.update_data ≡ false → s.«data» ≡ before
  pub new_map : s.update_map ≡ true → AreEach (IsBelow 8) 3 s.map
  pub no_map : s.update_map ≡ false → s.map ≡ replicate 3 0

pub record AreDeltas (d : Deltas) : Type 0 where
  pub references : AreEach (IsShort 6) 4 d.references
  pub modes : AreEach (IsShort 6) 4 d.modes

-- a filter that can be written where a frame begins with these deltas (9.4)
pub record IsFiltering (before : Deltas) (f : Filtering) : Type 0 where
  pub level : f.level < 2 ^ 6
  pub sharpness : f.sharpness < 2 ^ 3
  pub no_update : f.on ≡ false → f.update ≡ false
  pub new_deltas : f.update ≡ true → AreDeltas f.deltas
  pub places : f.update ≡ true → (length before.references ≡ 4) × (length before.modes ≡ 4)
  pub old_deltas : f.update ≡ false → f.deltas ≡ before

pub record AreQuantisers (q : Quantisers) : Type 0 where
  pub y_ac : q.y_ac < 2 ^ 7
  pub y_dc : IsShort 4 q.y_dc
  pub y2_dc : IsShort 4 q.y2_dc
  pub y2_ac : IsShort 4 q.y2_ac
  pub uv_dc : IsShort 4 q.uv_dc
  pub uv_ac : IsShort 4 q.uv_ac

-- a key frame replaces every reference, and no copy is written where the reference is replaced (9.7)
pub record IsRefreshing (key : Bool) (r : Refreshing) : Type 0 where
  pub in_key : key ≡ true → (let none : Refreshing = record r { golden = false; alt = false; copy_golden = 0; copy_alt = 0; bias_golden = false; bias_alt = false; last = false } in r ≡ none)
  pub copies : (r.copy_golden < 2 ^ 2) × (r.copy_alt < 2 ^ 2)
  pub no_copy_golden : r.golden ≡ true → r.copy_golden ≡ 0
  pub no_copy_alt : r.alt ≡ true → r.copy_alt ≡ 0

-- 1, or an even number from 2 to 254 (17.2)
abbrev pub IsVectorProbability : ℕ → Type 0
IsVectorProbability x = (x ≡ 1) ⊎ ((x % 2 ≡ 0) × (2 ≤ x) × (x ≤ 254))

pub record AreInterModes (m : InterModes) : Type 0 where
  pub numbers : (m.intra < 2 ^ 8) × (m.last < 2 ^ 8) × (m.golden < 2 ^ 8)
  pub y : IfSome m.y (AreEach (IsBelow 8) 4)
  pub chroma : IfSome m.chroma (AreEach (IsBelow 8) 3)
  pub vectors : AreEach (λ (u : Option ℕ). IfSome u IsVectorProbability) 38 m.vectors

-- probabilities of modes that can be written (9.10, 9.11, 16.2 and 17.2)
pub record AreModes (key : Bool) (m : Modes) : Type 0 where
  pub skip : m.skip < 2 ^ 8
  pub no_skip : m.skips ≡ false → m.skip ≡ 0
  pub inter : key ≡ false → AreInterModes m.inter
  pub in_key : key ≡ true → m.inter ≡ no_inter_modes

-- a header that can be written: its fields are in range, and those that aren't written have the value that they are read
-- with over what the state keeps
pub record IsWritable (kept : Kept) (h : Header) : Type 0 where
  pub no_colour : h.key ≡ false → (h.colour ≡ false) × (h.clamping ≡ false)
  pub segments : AreSegments (data_before h.key kept) (segments_of h)
  pub filtering : IsFiltering (deltas_before h.key kept) (filtering_of h)
  pub log2 : h.log2 < 2 ^ 2
  pub quantisers : AreQuantisers (quantisers_of h)
  pub refreshing : IsRefreshing h.key (refreshing_of h)
  pub coefficients : AreEach (λ (u : Option ℕ). IfSome u (IsBelow 8)) 1056 h.updates.coefficients
  pub modes : AreModes h.key (modes_of h)
