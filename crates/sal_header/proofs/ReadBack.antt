-- A header's fields are read as they were written.
use Rattle.std.proofs.Common.{◌≡◌, ℕ, ◌*◌, ◌^◌, ◌<◌, ℤ, pos, List, [], ◌++◌, Bool, true, false, not, refl, if◌then◌else◌, replicate, length, Option, IfSome, subst, sym, ap, arith, ◌∙◌, ◌==◌, ◌/◌, inl, inr}
use Rattle.std.proofs.lemmas.Bool.{eqb-true, ne_eqb}
use Rattle.sal_bool.specs.Bits.{Interval, start}
use Rattle.sal_bool.specs.Written.{written, steps, AreFit}
use Rattle.sal_bool.specs.Syntax.{Follows, flag, literal, signed_literal, when, flagged, optional, read}
use Rattle.sal_bool.specs.Pairs.{flag_pairs, literal_pairs, signed_pairs, flagged_pairs, all_pairs, optional_pairs}
use Rattle.sal_bool.proofs.Meaning.{follows_then}
use Rattle.sal_bool.proofs.Writing.{follows_done, follows_end, follows_made, follows_one, follows_literal, follows_signed, follows_flagged, follows_optional}
use Rattle.sal_tables.specs.Tables.{update_coefficients_of, update_vectors_of, update_rows}
use Rattle.sal_bool.proofs.ReadBack.{follows_when, follows_all, follows_same, follows_places, of_some, read_among}
use Rattle.sal_header.specs.declared.header.Kept.{Kept}
use Rattle.sal_header.specs.declared.header.Header.{Header}
use Rattle.sal_header.specs.declared.parts.SegmentData.{SegmentData}
use Rattle.sal_header.specs.declared.parts.Segments.{Segments}
use Rattle.sal_header.specs.declared.parts.Deltas.{Deltas}
use Rattle.sal_header.specs.declared.parts.Filtering.{Filtering}
use Rattle.sal_header.specs.declared.parts.Quantisers.{Quantisers}
use Rattle.sal_header.specs.declared.parts.Refreshing.{Refreshing}
use Rattle.sal_header.specs.declared.parts.InterModes.{InterModes}
use Rattle.sal_header.specs.declared.parts.Modes.{Modes}
use Rattle.sal_header.specs.Headers.{data_before, deltas_before, segment_data, segment_map, segments, filter_deltas, filtering, quantisers, key_refreshing, inter_refreshing, refreshing, coefficient_updates, vector_probability, vector_value, vector_updates, bytes, inter_modes, no_inter_modes, modes, header_over, header_of, header_made}
use Rattle.sal_header.specs.Written.{segments_of, filtering_of, quantisers_of, refreshing_of, modes_of, data_pairs, map_pairs, segments_pairs, delta_pairs, deltas_pairs, filtering_pairs, quantisers_pairs, inter_refreshing_pairs, refreshing_pairs, coefficients_pairs, vector_pairs, vectors_pairs, inter_modes_pairs, modes_pairs, header_pairs, AreEach, IsBelow, IsShort, IsData, AreSegments, AreDeltas, IsFiltering, AreQuantisers, IsRefreshing, IsVectorProbability, AreInterModes, AreModes, IsWritable}

-- segments
data_again : (d : SegmentData) → IsData d → Follows segment_data (data_pairs d) d
unfolding segment_data data_pairs
data_again d h =
    follows_then _ _ _ _ _ _ (follows_one 128 d.absolute)
    (follows_then _ _ _ _ _ _ (follows_same (flagged (signed_literal 7)) (flagged_pairs 7) (IsShort 7) (pos 0) (follows_flagged 7) 4 d.quantisers h.quantisers.0 h.quantisers.1)
    (follows_then _ _ _ _ _ _ (follows_same (flagged (signed_literal 6)) (flagged_pairs 6) (IsShort 6) (pos 0) (follows_flagged 6) 4 d.levels h.levels.0 h.levels.1)
    (follows_done d)))

follows_map : (y : ℕ) → IsBelow 8 y → Follows (flagged (literal 8) 255) (map_pairs y) y
follows_map y h = by_flag (y == 255) refl
  where
    by_flag : (b : Bool) → y == 255 ≡ b → Follows (flagged (literal 8) 255) (if b then flag_pairs false else flag_pairs true ++ literal_pairs 8 y) y
    by_flag true f = follows_then flag (λ b. when b (literal 8) 255) (flag_pairs false) [] false y (follows_one 128 false) (follows_end 255 y (sym (eqb-true y 255 f)))
    by_flag false f = follows_then flag (λ b. when b (literal 8) 255) (flag_pairs true) (literal_pairs 8 y) true y (follows_one 128 true) (follows_literal 8 y h)

map_again : (ys : List ℕ) → AreEach (IsBelow 8) 3 ys → Follows segment_map (all_pairs map_pairs ys) ys
map_again ys h = follows_same (flagged (literal 8)) map_pairs (IsBelow 8) 255 follows_map 3 ys h.0 h.1

segments_again : (before : SegmentData) (s : Segments) → AreSegments before s → Follows (segments before) (segments_pairs s) s
unfolding segments segments_pairs
segments_again before s h =
    follows_then _ _ _ _ _ _ (follows_one 128 s.on)
    (follows_then _ _ _ _ _ _ (follows_when s.on flag false s.update_map (flag_pairs s.update_map) (λ e. follows_one 128 s.update_map) (λ e. (h.no_flags e).0))
    (follows_then _ _ _ _ _ _ (follows_when s.on flag false s.update_data (flag_pairs s.update_data) (λ e. follows_one 128 s.update_data) (λ e. (h.no_flags e).1))
    (follows_then _ _ _ _ _ _ (follows_when s.update_data segment_data before s.«data» (data_pairs s.«data») (λ e. data_again s.«data» (h.new_data e)) h.old_data)
    (follows_then _ _ _ _ _ _ (follows_when s.update_map segment_map (replicate 3 0) s.map (all_pairs map_pairs s.map) (λ e. map_again s.map (h.new_map e)) h.no_map)
    (follows_done s)))))

-- the filter
follows_delta : (x y : ℤ) → IsShort 6 y → Follows (flagged (signed_literal 6) x) (delta_pairs y) y
follows_delta x y h = follows_then flag (λ b. when b (signed_literal 6) x) (flag_pairs true) (signed_pairs 6 y) true y (follows_one 128 true) (follows_signed 6 y h)

deltas_again : (before d : Deltas) → length before.references ≡ 4 → length before.modes ≡ 4 → AreDeltas d → Follows (filter_deltas before) (deltas_pairs d) d
unfolding filter_deltas deltas_pairs
deltas_again before d a b h =
    follows_then _ _ _ _ _ _ (follows_all (flagged (signed_literal 6)) delta_pairs (IsShort 6) follows_delta before.references d.references (h.references.0 ∙ sym a) h.references.1)
    (follows_then _ _ _ _ _ _ (follows_all (flagged (signed_literal 6)) delta_pairs (IsShort 6) follows_delta before.modes d.modes (h.modes.0 ∙ sym b) h.modes.1)
    (follows_done d))

filtering_again : (before : Deltas) (f : Filtering) → IsFiltering before f → Follows (filtering before) (filtering_pairs f) f
unfolding filtering filtering_pairs
filtering_again before f h =
    follows_then _ _ _ _ _ _ (follows_one 128 f.simple)
    (follows_then _ _ _ _ _ _ (follows_literal 6 f.level h.level)
    (follows_then _ _ _ _ _ _ (follows_literal 3 f.sharpness h.sharpness)
    (follows_then _ _ _ _ _ _ (follows_one 128 f.on)
    (follows_then _ _ _ _ _ _ (follows_when f.on flag false f.update (flag_pairs f.update) (λ e. follows_one 128 f.update) h.no_update)
    (follows_then _ _ _ _ _ _ (follows_when f.update (filter_deltas before) before f.deltas (deltas_pairs f.deltas) (λ e. deltas_again before f.deltas (h.places e).0 (h.places e).1 (h.new_deltas e)) h.old_deltas)
    (follows_done f))))))

quantisers_again : (q : Quantisers) → AreQuantisers q → Follows quantisers (quantisers_pairs q) q
unfolding quantisers quantisers_pairs
quantisers_again q r =
    follows_then _ _ _ _ _ _ (follows_literal 7 q.y_ac r.y_ac)
    (follows_then _ _ _ _ _ _ (follows_flagged 4 q.y_dc r.y_dc)
    (follows_then _ _ _ _ _ _ (follows_flagged 4 q.y2_dc r.y2_dc)
    (follows_then _ _ _ _ _ _ (follows_flagged 4 q.y2_ac r.y2_ac)
    (follows_then _ _ _ _ _ _ (follows_flagged 4 q.uv_dc r.uv_dc)
    (follows_then _ _ _ _ _ _ (follows_flagged 4 q.uv_ac r.uv_ac)
    (follows_done q))))))

-- references
flipped : (b : Bool) → not b ≡ false → b ≡ true
flipped true h = refl
flipped false h = cc

upright : (b : Bool) → not b ≡ true → b ≡ false
upright true h = cc
upright false h = refl

refreshing_again : (key : Bool) (r : Refreshing) → IsRefreshing key r → Follows (refreshing key) (refreshing_pairs key r) r
unfolding key_refreshing inter_refreshing inter_refreshing_pairs
refreshing_again true r h =
    let none : Refreshing = record r { golden = false; alt = false; copy_golden = 0; copy_alt = 0; bias_golden = false; bias_alt = false; last = false } in
    follows_then flag _ (flag_pairs r.entropy) [] r.entropy r (follows_one 128 r.entropy) (follows_end none r (sym (h.in_key refl)))
refreshing_again false r h =
    follows_then _ _ _ _ _ _ (follows_one 128 r.golden)
    (follows_then _ _ _ _ _ _ (follows_one 128 r.alt)
    (follows_then _ _ _ _ _ _ (follows_when (not r.golden) (literal 2) 0 r.copy_golden (literal_pairs 2 r.copy_golden) (λ e. follows_literal 2 r.copy_golden h.copies.0) (λ e. h.no_copy_golden (flipped r.golden e)))
    (follows_then _ _ _ _ _ _ (follows_when (not r.alt) (literal 2) 0 r.copy_alt (literal_pairs 2 r.copy_alt) (λ e. follows_literal 2 r.copy_alt h.copies.1) (λ e. h.no_copy_alt (flipped r.alt e)))
    (follows_then _ _ _ _ _ _ (follows_one 128 r.bias_golden)
    (follows_then _ _ _ _ _ _ (follows_one 128 r.bias_alt)
    (follows_then _ _ _ _ _ _ (follows_one 128 r.entropy)
    (follows_then _ _ _ _ _ _ (follows_one 128 r.last)
    (follows_done r))))))))

-- new probabilities
follows_byte : (p : ℕ) (u : Option ℕ) → IfSome u (IsBelow 8) → Follows (optional p (literal 8)) (optional_pairs p (literal_pairs 8) u) u
follows_byte p u h = follows_optional p (literal 8) (literal_pairs 8) u (λ x e. follows_literal 8 x (of_some (IsBelow 8) u x e h))

pub many_coefficients : length update_coefficients_of ≡ 1056
unfolding update_coefficients_of update_rows
many_coefficients = refl

pub many_vectors : length update_vectors_of ≡ 38
unfolding update_vectors_of
many_vectors = refl

coefficients_again : (us : List (Option ℕ)) → AreEach (λ (u : Option ℕ). IfSome u (IsBelow 8)) 1056 us → Follows coefficient_updates (coefficients_pairs us) us
unfolding coefficient_updates coefficients_pairs
coefficients_again us h = follows_places (λ p. optional p (literal 8)) (λ p u. optional_pairs p (literal_pairs 8) u) (λ (u : Option ℕ). IfSome u (IsBelow 8)) follows_byte update_coefficients_of us (h.0 ∙ sym many_coefficients) h.1

half : (x : ℕ) → IsVectorProbability x → (x / 2 < 2 ^ 7) × (vector_probability (x / 2) ≡ x)
half x (inl e) = (omega arith, ap (λ (n : ℕ). vector_probability (n / 2)) e ∙ sym e)
half x (inr h) =
    let more : (x / 2 ≡ 0) → ⊥ = λ (z : x / 2 ≡ 0). let a = h.1 in omega (arith, z, a) in
    let twice : 2 * (x / 2) ≡ x = let a = h.0 in omega (arith, a) in
    let b = h.2 in
    (omega (arith, b), ap (λ (t : Bool). if t then 1 else 2 * (x / 2)) (ne_eqb (x / 2) 0 more) ∙ twice)

follows_value : (x : ℕ) → IsVectorProbability x → Follows vector_value (vector_pairs x) x
follows_value x h =
    let two = half x h in
    let P : ℕ → Type 0 = λ n. Follows vector_value (vector_pairs x) n in
    subst P two.1 (follows_made (literal 7) (λ y. vector_probability y) (vector_pairs x) (x / 2) (follows_literal 7 (x / 2) two.0))

follows_vector : (p : ℕ) (u : Option ℕ) → IfSome u IsVectorProbability → Follows (optional p vector_value) (optional_pairs p vector_pairs u) u
follows_vector p u h = follows_optional p vector_value vector_pairs u (λ x e. follows_value x (of_some IsVectorProbability u x e h))

vectors_again : (us : List (Option ℕ)) → AreEach (λ (u : Option ℕ). IfSome u IsVectorProbability) 38 us → Follows vector_updates (vectors_pairs us) us
unfolding vector_updates vectors_pairs
vectors_again us h = follows_places (λ p. optional p vector_value) (λ p u. optional_pairs p vector_pairs u) (λ (u : Option ℕ). IfSome u IsVectorProbability) follows_vector update_vectors_of us (h.0 ∙ sym many_vectors) h.1

follows_bytes : (n : ℕ) (o : Option (List ℕ)) → IfSome o (AreEach (IsBelow 8) n) → Follows (optional 128 (bytes n)) (optional_pairs 128 (all_pairs (literal_pairs 8)) o) o
follows_bytes n o h = follows_optional 128 (bytes n) (all_pairs (literal_pairs 8)) o (λ ys e. let fit = of_some (AreEach (IsBelow 8) n) o ys e h in follows_same (λ (x : ℕ). literal 8) (literal_pairs 8) (IsBelow 8) 0 (follows_literal 8) n ys fit.0 fit.1)

inter_again : (m : InterModes) → AreInterModes m → Follows inter_modes (inter_modes_pairs m) m
unfolding inter_modes inter_modes_pairs
inter_again m h =
    follows_then _ _ _ _ _ _ (follows_literal 8 m.intra h.numbers.0)
    (follows_then _ _ _ _ _ _ (follows_literal 8 m.last h.numbers.1)
    (follows_then _ _ _ _ _ _ (follows_literal 8 m.golden h.numbers.2)
    (follows_then _ _ _ _ _ _ (follows_bytes 4 m.y h.y)
    (follows_then _ _ _ _ _ _ (follows_bytes 3 m.chroma h.chroma)
    (follows_then _ _ _ _ _ _ (vectors_again m.vectors h.vectors)
    (follows_done m))))))

modes_again : (key : Bool) (m : Modes) → AreModes key m → Follows (modes key) (modes_pairs key m) m
unfolding modes modes_pairs
modes_again key m h =
    follows_then _ _ _ _ _ _ (follows_one 128 m.skips)
    (follows_then _ _ _ _ _ _ (follows_when m.skips (literal 8) 0 m.skip (literal_pairs 8 m.skip) (λ e. follows_literal 8 m.skip h.skip) h.no_skip)
    (follows_then _ _ _ _ _ _ (follows_when (not key) inter_modes no_inter_modes m.inter (inter_modes_pairs m.inter) (λ e. inter_again m.inter (h.inter (upright key e))) (λ e. h.in_key (flipped key e)))
    (follows_done m)))

-- a header's pairs lead to that header
pub header_again : (kept : Kept) (h : Header) → IsWritable kept h → Follows (header_of h.key h.shown kept) (header_pairs h) h
unfolding header_over header_pairs header_made
header_again kept h w =
    follows_then _ _ _ _ _ _ (follows_when h.key flag false h.colour (flag_pairs h.colour) (λ e. follows_one 128 h.colour) (λ e. (w.no_colour e).0))
    (follows_then _ _ _ _ _ _ (follows_when h.key flag false h.clamping (flag_pairs h.clamping) (λ e. follows_one 128 h.clamping) (λ e. (w.no_colour e).1))
    (follows_then _ _ _ _ _ _ (segments_again (data_before h.key kept) (segments_of h) w.segments)
    (follows_then _ _ _ _ _ _ (filtering_again (deltas_before h.key kept) (filtering_of h) w.filtering)
    (follows_then _ _ _ _ _ _ (follows_literal 2 h.log2 w.log2)
    (follows_then _ _ _ _ _ _ (quantisers_again (quantisers_of h) w.quantisers)
    (follows_then _ _ _ _ _ _ (refreshing_again h.key (refreshing_of h) w.refreshing)
    (follows_then _ _ _ _ _ _ (coefficients_again h.updates.coefficients w.coefficients)
    (follows_then _ _ _ _ _ _ (modes_again h.key (modes_of h) w.modes)
    (follows_done h)))))))))

-- a header among other bits is read where it was written, up to where it ends
pub header_read : (kept : Kept) (h : Header) (before more : List (ℕ × Bool)) (i j : Interval) → IsWritable kept h → AreFit before → AreFit more → i ≡ steps start before → j ≡ steps i (header_pairs h)
    → read (written (steps j more)) i (header_of h.key h.shown kept) ≡ (h, j)
header_read kept h before more i j w a b e f =
    let s = header_of h.key h.shown kept in
    let P : Interval → Type 0 = λ k. read (written (steps (steps k (header_pairs h)) more)) k s ≡ (h, steps k (header_pairs h)) in
    let Q : Interval → Type 0 = λ k. read (written (steps k more)) i s ≡ (h, k) in
    subst Q (sym f) (subst P (sym e) (read_among s (header_pairs h) h before more (header_again kept h w) a b))
