-- Pictures cut out of whole macroblocks.
use Rattle.std.specs.Prelude.{ℕ, ◌+◌, ◌/◌, List}
use Rattle.sal_base.specs.declared.picture.Plane.{Plane}
use Rattle.sal_base.specs.declared.picture.Planes.{Planes}
use Rattle.sal_base.specs.declared.picture.Picture.{Picture}
use Rattle.sal_base.specs.Picture.{half, plane_of}
use Rattle.sal_base.specs.Samples.{rows_cut}

abbrev pub plane : ℕ → ℕ → List ℕ → Plane
plane width height samples = record { width = width; height = height; samples = samples }

-- how many macroblocks a side takes
abbrev pub blocks_of : ℕ → ℕ
blocks_of side = (side + 15) / 16

-- the first columns and rows of a plane
abbrev pub cut : ℕ → ℕ → Plane → Plane
cut width height p = plane width height (rows_cut p.width width 0 height p.samples)

-- a picture of this size out of whole macroblocks
abbrev pub cropped : ℕ → ℕ → Planes → Picture
cropped width height p =
    record { width = width; height = height; y = cut width height p.y; u = cut (half width) (half height) p.u; v = cut (half width) (half height) p.v }

-- a plane of zeros
abbrev pub blank : ℕ → ℕ → Plane
blank width height = plane_of width height 0
