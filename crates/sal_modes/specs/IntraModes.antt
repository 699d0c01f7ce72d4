-- The modes of an intra macroblock, in the order of their bits. Sections are those of RFC 6386.
use Rattle.std.specs.Prelude.{ℕ, suc, zero, ◌+◌, ◌*◌, List, [], ◌∷◌, ◌++◌, Bool, false, if◌then◌else◌, length, replicate, slice_index_or, slice_range}
use Rattle.sal_base.specs.declared.kinds.YMode.{YMode}
use Rattle.sal_base.specs.declared.kinds.YMode.TheVariants.{DC, V, H, TM, B}
use Rattle.sal_base.specs.declared.kinds.SubMode.{SubMode}
use Rattle.sal_base.specs.declared.kinds.SubMode.TheVariants.{BDC, BTM, BVE, BHE, BLD, BRD, BVR, BVL, BHD, BHU}
use Rattle.sal_bool.specs.Syntax.{Syntax, Done, ◌>>=◌, leaf}
use Rattle.sal_tables.specs.Tables.{key_y_probabilities_of, key_chroma_probabilities_of, subblock_probabilities_of, inter_subblock_probabilities_of}
use Rattle.sal_tables.specs.Trees.{key_y_entries, inter_y_entries, chroma_entries, subblock_entries}
use Rattle.sal_probs.specs.Probabilities.{Table}
use Rattle.sal_macroblock.specs.declared.mode.RefKind.TheVariants.{Intra}
use Rattle.sal_macroblock.specs.declared.mode.MbMode.{MbMode}
use Rattle.sal_macroblock.specs.Macroblocks.{zero_vector, is_b, implied}
use Rattle.sal_modes.specs.Around.{Around, above_of, left_of}

-- the mode that a leaf of the Y and chroma trees stands for
abbrev pub whole_mode : ℕ → YMode
whole_mode l = slice_index_or (DC ∷ V ∷ H ∷ TM ∷ B ∷ []) l DC

-- subblock modes by their numbers
abbrev pub sub_mode : ℕ → SubMode
sub_mode l = slice_index_or (BDC ∷ BTM ∷ BVE ∷ BHE ∷ BLD ∷ BRD ∷ BVR ∷ BVL ∷ BHD ∷ BHU ∷ []) l BDC

abbrev pub sub_number : SubMode → ℕ
sub_number BDC = 0
sub_number BTM = 1
sub_number BVE = 2
sub_number BHE = 3
sub_number BLD = 4
sub_number BRD = 5
sub_number BVR = 6
sub_number BVL = 7
sub_number BHD = 8
sub_number BHU = 9

-- a key frame's probabilities of a subblock mode, by the modes above and left of it (11.3)
unfoldable pub sub_row : SubMode → SubMode → List ℕ
sub_row above left = let at = (sub_number above * 10 + sub_number left) * 9 in slice_range subblock_probabilities_of at (at + 9)

-- those of the subblock after the ones so far; in an inter frame they are fixed (11.3 and 16.2)
abbrev pub sub_probabilities : Bool → Around → List SubMode → List ℕ
sub_probabilities key a subs =
    if key then sub_row (above_of BDC a.above.sub subs (length subs)) (left_of BDC a.left.sub subs (length subs)) else inter_subblock_probabilities_of

-- n more subblock modes after those so far (11.2)
unfoldable pub sub_modes : Bool → Around → ℕ → List SubMode → Syntax (List SubMode)
sub_modes key a zero subs = Done subs
sub_modes key a (suc n) subs = leaf subblock_entries (sub_probabilities key a subs) >>= λ l. sub_modes key a n (subs ++ sub_mode l ∷ [])

-- the Y mode: at fixed probabilities in a key frame, else at those in use (11.2 and 16.2)
abbrev pub y_mode : Bool → Table → Syntax ℕ
y_mode key probs = if key then leaf key_y_entries key_y_probabilities_of else leaf inter_y_entries probs.y

-- the chroma mode, alike (11.2 and 16.2)
abbrev pub chroma_mode : Bool → Table → Syntax ℕ
chroma_mode key probs = leaf chroma_entries (if key then key_chroma_probabilities_of else probs.chroma)

-- an intra macroblock of a key frame or of an inter frame (11.2 to 11.4 and 16.2)
unfoldable pub intra_mode : Bool → Table → Around → Syntax MbMode
intra_mode key probs a = do
  y ← y_mode key probs
  subs ← (if is_b (whole_mode y) then sub_modes key a 16 [] else Done (replicate 16 (implied (whole_mode y))))
  chroma ← chroma_mode key probs
  Done (record { segment = 0; skip = false; reference = Intra; y = whole_mode y; sub = subs; chroma = whole_mode chroma; vectors = replicate 16 zero_vector })
