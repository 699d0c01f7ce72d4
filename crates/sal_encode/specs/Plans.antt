-- Plans: which can be written, and the record of all that they say. Sections are those of RFC 6386.
use Rattle.std.specs.Prelude.{◌≡◌, ◌<◌, ℕ, ◌*◌, ℤ, List, [], ◌∷◌, Bool, true, false, not, ◌&&◌, ◌||◌, Ok, map, take, length, slice_index_or}
use Rattle.sal_base.specs.Picture.{AreSides}
use Rattle.sal_base.specs.Pictures.{blocks_of}
use Rattle.sal_header.specs.declared.header.Header.{Header}
use Rattle.sal_header.specs.Written.{IsWritable}
use Rattle.sal_macroblock.specs.declared.mode.MbMode.{MbMode}
use Rattle.sal_macroblock.specs.Macroblocks.{outside, has_y2, is_b}
use Rattle.sal_macroblock.specs.Blocks.{no_coefficients}
use Rattle.sal_modes.specs.Around.{Around}
use Rattle.sal_modes.specs.Written.{as_read, IsWritable as IsWritableMode}
use Rattle.sal_tokens.specs.declared.places.Place.{Place}
use Rattle.sal_tokens.specs.Blocks.{places}
use Rattle.sal_tokens.specs.Written.{is_some_block, AreWritable, IsSized}
use Rattle.sal_state.specs.States.{StateData}
use Rattle.sal_frame.specs.Records.{Macroblock, macroblock, Record}
use Rattle.sal_decode.specs.FirstPartition.{around, segment_of}
use Rattle.sal_decode.specs.Syntax.{size_kept}
use Rattle.sal_encode.specs.declared.plan.Plan.{Plan}

-- whether the first token of one of these blocks isn't the end
abbrev pub some_block : List (List ℤ) → List Place → Bool
some_block ls [] = false
some_block ls (p ∷ ps) = is_some_block p.kind (slice_index_or ls p.index []) || some_block ls ps

-- a macroblock of these modes and coefficients
abbrev pub planned : MbMode → List (List ℤ) → Macroblock
planned m ls = macroblock m ls (not m.skip && some_block ls (places (has_y2 m.y)))

unfoldable pub planned_all : List MbMode → List (List (List ℤ)) → List Macroblock
planned_all [] ls = []
planned_all (m ∷ ms) [] = []
planned_all (m ∷ ms) (l ∷ ls) = planned m l ∷ planned_all ms ls

-- the record of a plan for a picture of this size
unfoldable pub record_of_plan : ℕ × ℕ → Plan → Record
record_of_plan size p = record { header = p.header; width = size.0; height = size.1; blocks = planned_all p.modes p.levels }

-- the coefficients of a macroblock of these modes: sixteen to a block, each of a size that a token can have; none in a block that
-- isn't written (11.1 and 13)
pub record AreLevels (m : MbMode) (ls : List (List ℤ)) : Type 0 where
  pub blocks : AreWritable (has_y2 m.y) ls
  pub sized : (k : ℕ) → k < 25 → IsSized (slice_index_or ls k [])
  pub skipped : m.skip ≡ true → ls ≡ no_coefficients

-- macroblock k, where this is around it and the state's segment map is this one: its modes can be written, and it stands in the
-- segment that is written, implied or kept (9.3)
pub record IsMacroblock (h : Header) (segments : List ℕ) (a : Around) (k : ℕ) (m : MbMode) (ls : List (List ℤ)) : Type 0 where
  pub mode : IsWritableMode h a m
  pub subblocks : is_b m.y ≡ true → length m.sub ≡ 16
  pub segment : m.segment ≡ segment_of h segments k m
  pub levels : AreLevels m ls

-- the first k macroblocks, as they are read
abbrev pub read_before : Header → List MbMode → ℕ → List MbMode
read_before h ms k = take k (map (as_read h) ms)

-- a plan that can be written from this state for a picture of this size: one token partition; each field in range, and none that
-- says more than its bits do (9 and 19). An inter frame has the size of the references
pub record IsPlan (s : StateData) (size : ℕ × ℕ) (p : Plan) : Type 0 where
  pub sides : AreSides size.0 size.1
  pub kept_size : p.header.key ≡ false → size_kept s.references ≡ Ok size
  pub header : IsWritable s.kept p.header
  pub one_partition : p.header.log2 ≡ 0
  pub many_modes : length p.modes ≡ blocks_of size.0 * blocks_of size.1
  pub many_levels : length p.levels ≡ length p.modes
  pub macroblocks : (k : ℕ) → k < length p.modes
      → IsMacroblock p.header s.kept.map (around (blocks_of size.0) (blocks_of size.1) (read_before p.header p.modes k)) k (slice_index_or p.modes k outside) (slice_index_or p.levels k [])
