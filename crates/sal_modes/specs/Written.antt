-- The pairs that the modes of a macroblock are written as, and which modes can be written. A macroblock in parts isn't written.
-- Sections are those of RFC 6386.
use Rattle.std.specs.Prelude.{◌≡◌, ◌≤◌, ℕ, suc, zero, ◌+◌, ℤ, ◌-ℤ◌, List, [], ◌∷◌, ◌++◌, Bool, true, false, not, ◌==◌, ◌&&◌, nat_lt, if◌then◌else◌, take, unsigned_abs, slice_index, slice_index_or, slice_range}
use Rattle.sal_base.specs.declared.kinds.Vector.{Vector}
use Rattle.sal_base.specs.declared.kinds.YMode.{YMode}
use Rattle.sal_base.specs.declared.kinds.YMode.TheVariants.{V, H, TM, B, NEAREST, NEAR, NEW, SPLIT}
use Rattle.sal_base.specs.declared.kinds.SubMode.{SubMode}
use Rattle.sal_base.specs.declared.kinds.SubMode.TheVariants.{BDC}
use Rattle.sal_bool.specs.Pairs.{Pairs, pair, bit_in, is_negative, leaf_pairs, pairs_when}
use Rattle.sal_tables.specs.Tables.{key_y_probabilities_of, key_chroma_probabilities_of}
use Rattle.sal_tables.specs.Trees.{segment_entries, key_y_entries, inter_y_entries, chroma_entries, subblock_entries, vector_mode_entries, short_vector_entries}
use Rattle.sal_probs.specs.Probabilities.{Table}
use Rattle.sal_header.specs.declared.header.Header.{Header}
use Rattle.sal_macroblock.specs.declared.mode.RefKind.{RefKind}
use Rattle.sal_macroblock.specs.declared.mode.RefKind.TheVariants.{Last, Alt}
use Rattle.sal_macroblock.specs.declared.mode.MbMode.{MbMode}
use Rattle.sal_macroblock.specs.Macroblocks.{zero_vector, own_vector, is_intra, is_b, is_split, HasFittingModes}
use Rattle.sal_modes.specs.declared.around.Near.{Near}
use Rattle.sal_modes.specs.Near.{near_of}
use Rattle.sal_modes.specs.Around.{Around}
use Rattle.sal_modes.specs.IntraModes.{sub_number, sub_probabilities}
use Rattle.sal_modes.specs.Modes.{mode_row, bias_for}

-- each place of a way is below n
abbrev pub are_below : ℕ → Pairs → Bool
are_below n [] = true
are_below n (x ∷ xs) = nat_lt x.0 n && are_below n xs

-- the leaf of a mode in the Y and chroma trees
abbrev pub whole_number : YMode → ℕ
whole_number V = 1
whole_number H = 2
whole_number TM = 3
whole_number B = 4
whole_number _ = 0

-- the leaf of a mode in the vector mode's tree
abbrev pub vector_number : YMode → ℕ
vector_number NEAREST = 1
vector_number NEAR = 2
vector_number NEW = 3
vector_number SPLIT = 4
vector_number _ = 0

-- the modes of the last n of sixteen subblocks, each by those before it; k are before them (11.3)
unfoldable pub subs_pairs : Bool → Around → List SubMode → ℕ → ℕ → Pairs
subs_pairs key a subs k zero = []
subs_pairs key a subs k (suc n) = leaf_pairs subblock_entries (sub_probabilities key a (take k subs)) (sub_number (slice_index_or subs k BDC)) ++ subs_pairs key a subs (k + 1) n

-- the Y mode, and the chroma mode: at fixed probabilities in a key frame (11.2 and 16.2)
abbrev pub y_pairs : Bool → Table → YMode → Pairs
y_pairs key probs y = if key then leaf_pairs key_y_entries key_y_probabilities_of (whole_number y) else leaf_pairs inter_y_entries probs.y (whole_number y)

abbrev pub chroma_pairs : Bool → Table → YMode → Pairs
chroma_pairs key probs chroma = leaf_pairs chroma_entries (if key then key_chroma_probabilities_of else probs.chroma) (whole_number chroma)

-- an intra macroblock (11.2 to 11.4 and 16.2)
unfoldable pub intra_pairs : Bool → Table → Around → MbMode → Pairs
intra_pairs key probs a m =
    y_pairs key probs m.y ++ (pairs_when (is_b m.y) (subs_pairs key a m.sub 0 16) ++ (chroma_pairs key probs m.chroma ++ []))

-- these bits of a number, each at the probability of its place (17.2)
unfoldable pub bits_at_pairs : List ℕ → List ℕ → ℕ → Pairs
bits_at_pairs ps [] x = []
bits_at_pairs ps (i ∷ is) x = pair (slice_index ps (9 + i)) (bit_in x i) ∷ bits_at_pairs ps is x

-- a size above 7, by its bits; bit 3 isn't written where no higher one is set (17.2)
unfoldable pub long_pairs : List ℕ → ℕ → Pairs
long_pairs ps x = bits_at_pairs ps (0 ∷ 1 ∷ 2 ∷ 9 ∷ 8 ∷ 7 ∷ 6 ∷ 5 ∷ 4 ∷ []) x ++ (if nat_lt x 16 then [] else bits_at_pairs ps (3 ∷ []) x)

-- a size: short up to 7 (17.2)
unfoldable pub size_pairs : List ℕ → ℕ → Pairs
size_pairs ps x = if nat_lt x 8 then leaf_pairs short_vector_entries (slice_range ps 2 9) x else long_pairs ps x

-- a component: whether its size is long, its size, and its sign unless it is 0 (17.2)
unfoldable pub component_pairs : List ℕ → ℤ → Pairs
component_pairs ps z =
    (pair (slice_index ps 0) (not (nat_lt (unsigned_abs z) 8)) ∷ [])
    ++ (size_pairs ps (unsigned_abs z) ++ (pairs_when (not (unsigned_abs z == 0)) (pair (slice_index ps 1) (is_negative z) ∷ []) ++ []))

-- how far a vector is from another, row before column (17.1)
unfoldable pub vector_pairs : List ℕ → Vector → Vector → Pairs
vector_pairs ps best v = component_pairs (slice_range ps 0 19) (v.row -ℤ best.row) ++ (component_pairs (slice_range ps 19 38) (v.column -ℤ best.column) ++ [])

abbrev pub is_new : YMode → Bool
is_new NEW = true
is_new _ = false

abbrev pub is_last : RefKind → Bool
is_last Last = true
is_last _ = false

abbrev pub is_alt : RefKind → Bool
is_alt Alt = true
is_alt _ = false

-- what is suggested to a macroblock of this reference
abbrev pub near_for : Header → Around → RefKind → Near
near_for h a r = near_of a.above a.left a.corner (bias_for h r) a.bounds

-- an inter macroblock: its reference, its vector mode, and for NEW how far its vector is from best (16.2, 16.3 and 17)
unfoldable pub inter_pairs : Header → Table → Around → MbMode → Pairs
inter_pairs h probs a m =
    (pair h.prob_last (not (is_last m.reference)) ∷ []) ++ (pairs_when (not (is_last m.reference)) (pair h.prob_golden (is_alt m.reference) ∷ [])
    ++ (leaf_pairs vector_mode_entries (mode_row (near_for h a m.reference).counts) (vector_number m.y)
    ++ (pairs_when (is_new m.y) (vector_pairs probs.vectors (near_for h a m.reference).best (own_vector m)) ++ [])))

-- a macroblock: its segment where the map is updated, whether it is skipped, whether it is inter, and its modes (19.3)
unfoldable pub mb_pairs : Header → Table → Around → MbMode → Pairs
mb_pairs h probs a m =
    pairs_when h.update_map (leaf_pairs segment_entries h.map m.segment) ++ (pairs_when h.skips (pair h.prob_skip m.skip ∷ [])
    ++ (pairs_when (not h.key) (pair h.prob_intra (not (is_intra m.reference)) ∷ [])
    ++ ((if is_intra m.reference then intra_pairs h.key probs a m else inter_pairs h probs a m) ++ [])))

-- what is read of it: its segment only where the map is updated (10)
abbrev pub as_read : Header → MbMode → MbMode
as_read h m = record m { segment = if h.update_map then m.segment else 0 }

-- the vector that a mode gives: NEW's is within 1,023 of best in each component (16.3 and 17)
abbrev pub IsVectorOf : Near → YMode → Vector → Type 0
IsVectorOf near NEAREST v = v ≡ near.nearest
IsVectorOf near NEAR v = v ≡ near.near
IsVectorOf near NEW v = (unsigned_abs (v.row -ℤ near.best.row) ≤ 1023) × (unsigned_abs (v.column -ℤ near.best.column) ≤ 1023)
IsVectorOf near _ v = v ≡ zero_vector

-- modes that can be written here: those that can be read, but for the macroblocks in parts
pub record IsWritable (h : Header) (a : Around) (m : MbMode) : Type 0 where
  pub modes : HasFittingModes m
  pub whole : is_split m.y ≡ false
  pub unskipped : h.skips ≡ false → m.skip ≡ false
  pub key : h.key ≡ true → is_intra m.reference ≡ true
  pub vector : is_intra m.reference ≡ false → IsVectorOf (near_for h a m.reference) m.y (own_vector m)
