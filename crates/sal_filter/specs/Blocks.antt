-- What a macroblock's filtering makes of one plane: the edges of a square, in the samples of its plane.
use Rattle.std.specs.Prelude.{◌≡◌, ℕ, suc, zero, ◌+◌, ◌-◌, ◌*◌, ◌/◌, ◌%◌, ◌≤◌, ◌<◌, List, Bool, length, nat_lt, if◌then◌else◌}
use Rattle.sal_base.specs.declared.picture.Planes.{Planes}
use Rattle.sal_base.specs.Picture.{IsPlane}
use Rattle.sal_filter.specs.declared.edge.Edge.{Edge}
use Rattle.sal_filter.specs.declared.block.Square.{Square}
use Rattle.sal_filter.specs.Filtered.{edge_filtered}

-- its side is a multiple of 8 and not 0, it stands in the plane, and where it isn't at the plane's side there are four samples at least before it
pub record Fits (s : Square) (samples : List ℕ) : Type 0 where
  pub some : 0 < s.side
  pub eights : s.side % 8 ≡ 0
  pub columns : s.x + s.side ≤ s.width
  pub rows : (s.y + s.side) * s.width ≤ length samples
  pub left : 0 < s.x → 4 ≤ s.x
  pub top : 0 < s.y → 4 ≤ s.y

-- its vertical edge this far from its left side
abbrev pub vertical_edge : Edge → Square → ℕ → List ℕ → List ℕ
vertical_edge e s offset samples = edge_filtered e (s.y * s.width + s.x + offset) 1 s.width s.side samples

-- its horizontal edge this far down
abbrev pub horizontal_edge : Edge → Square → ℕ → List ℕ → List ℕ
horizontal_edge e s offset samples = edge_filtered e ((s.y + offset) * s.width + s.x) s.width 1 s.side samples

-- f at 4, 8 and so on, n times
unfoldable pub fourths : (ℕ → List ℕ → List ℕ) → ℕ → List ℕ → List ℕ
fourths f zero samples = samples
fourths f (suc n) samples = f (4 * suc n) (fourths f n samples)

-- its left edge and inner vertical edges
abbrev pub vertical_edges : Edge → Edge → Bool → Square → List ℕ → List ℕ
vertical_edges o i within s samples =
    let left = if nat_lt 0 s.x then vertical_edge o s 0 samples else samples in
    if within then fourths (vertical_edge i s) (s.side / 4 - 1) left else left

-- its top edge and inner horizontal edges
abbrev pub horizontal_edges : Edge → Edge → Bool → Square → List ℕ → List ℕ
horizontal_edges o i within s samples =
    let top = if nat_lt 0 s.y then horizontal_edge o s 0 samples else samples in
    if within then fourths (horizontal_edge i s) (s.side / 4 - 1) top else top

unfoldable pub square_filtered : Edge → Edge → Bool → Square → List ℕ → List ℕ
square_filtered o i within s samples = horizontal_edges o i within s (vertical_edges o i within s samples)

-- the square of this side at this column and row of squares
abbrev pub square_at : ℕ → ℕ → ℕ → ℕ → Square
square_at width side column row = record { width = width; side = side; x = side * column; y = side * row }

-- the sides of planes, by those of luma
pub record HasSides (width height : ℕ) (p : Planes) : Type 0 where
  pub y : IsPlane width height p.y
  pub u : IsPlane (width / 2) (height / 2) p.u
  pub v : IsPlane (width / 2) (height / 2) p.v
