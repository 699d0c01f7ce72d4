-- The data of a state: all that a frame is decoded from. Sections are those of RFC 6386.
use Rattle.std.specs.Prelude.{◌≡◌, ℕ, ◌*◌, ◌≤◌, ◌<◌, [], false, Option, None, length, IfSome, All}
use Rattle.sal_base.specs.declared.picture.Planes.{Planes}
use Rattle.sal_base.specs.Picture.{AreSides, IsPlane}
use Rattle.sal_base.specs.Pictures.{blocks_of}
use Rattle.sal_probs.specs.Probabilities.{initial_table}
use Rattle.sal_header.specs.declared.header.Kept.{Kept}
use Rattle.sal_header.specs.Headers.{zeros}

-- the three references, planes of whole macroblocks, and the size of their pictures (9.7)
pub record References : Type 0 where
  pub width : ℕ
  pub height : ℕ
  pub last : Planes
  pub golden : Planes
  pub alt : Planes

-- what is kept for later headers and macroblocks, and the references, of which there are none before the first key frame
pub record StateData : Type 0 where
  pub kept : Kept
  pub references : Option References

-- what a key frame begins with: default probabilities, all else 0 (9.3, 9.4, 9.7 and 9.11); of no size, so without a map
unfoldable pub initial_kept : Kept
initial_kept = record { absolute = false; quantisers = zeros; levels = zeros; ref_deltas = zeros; mode_deltas = zeros; bias_golden = false; bias_alt = false; map = []; probs = initial_table }

-- the state before any frame
unfoldable pub initial_state : StateData
initial_state = record { kept = initial_kept; references = None }

-- planes of so many macroblocks a side
pub record HasBlocks (columns rows : ℕ) (p : Planes) : Type 0 where
  pub y : IsPlane (16 * columns) (16 * rows) p.y
  pub u : IsPlane (8 * columns) (8 * rows) p.u
  pub v : IsPlane (8 * columns) (8 * rows) p.v

-- planes of whole macroblocks, of which there is one at least
pub record AreWhole (p : Planes) : Type 0 where
  pub columns : ℕ
  pub rows : ℕ
  pub some_columns : 1 ≤ columns
  pub some_rows : 1 ≤ rows
  pub blocks : HasBlocks columns rows p

-- the size is within the limits, and all three references have its macroblocks
pub record AreReferences (r : References) : Type 0 where
  pub sides : AreSides r.width r.height
  pub last : HasBlocks (blocks_of r.width) (blocks_of r.height) r.last
  pub golden : HasBlocks (blocks_of r.width) (blocks_of r.height) r.golden
  pub alt : HasBlocks (blocks_of r.width) (blocks_of r.height) r.alt

-- references are of one size, the segment map has an entry for each of its macroblocks, and each names one of four segments; before the
-- first key frame nothing is kept but what a key frame begins with
pub record IsState (s : StateData) : Type 0 where
  pub first : s.references ≡ None → s.kept ≡ initial_kept
  pub references : IfSome s.references AreReferences
  pub segments : All (λ segment. segment < 4) s.kept.map
  pub map : IfSome s.references (λ r. length s.kept.map ≡ blocks_of r.width * blocks_of r.height)
