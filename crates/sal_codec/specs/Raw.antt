-- The samples of a picture as one list.
use Rattle.std.specs.Prelude.{◌≡◌, ℕ, ◌+◌, ◌*◌, List, ◌++◌, length, take, drop}
use Rattle.sal_base.specs.Picture.{half, AreSides}
use Rattle.sal_base.specs.Pictures.{plane}
use Rattle.sal_base.specs.declared.picture.Picture.{Picture}
use Rattle.sal_codec.specs.declared.raw.RawPicture.{RawPicture}

-- how many samples of luma a picture has
abbrev pub luma_count : ℕ → ℕ → ℕ
luma_count width height = width * height

-- how many samples each chroma plane has
abbrev pub chroma_count : ℕ → ℕ → ℕ
chroma_count width height = half width * half height

-- how many samples there are: Y, U and V
abbrev pub sample_count : ℕ → ℕ → ℕ
sample_count width height = luma_count width height + chroma_count width height + chroma_count width height

-- all samples of a picture: Y, then U, then V
abbrev pub samples_of : Picture → List ℕ
samples_of p = (p.y.samples ++ p.u.samples) ++ p.v.samples

abbrev pub raw_of : Picture → RawPicture
raw_of p = record { width = p.width; height = p.height; samples = samples_of p }

-- the sides are within the limits, and there are as many samples as they say
pub record IsRaw (r : RawPicture) : Type 0 where
  pub sides : AreSides r.width r.height
  pub samples : length r.samples ≡ sample_count r.width r.height

-- the samples cut into the planes of a picture
abbrev pub picture_of : RawPicture → Picture
picture_of r = record {
  width = r.width;
  height = r.height;
  y = plane r.width r.height (take (luma_count r.width r.height) r.samples);
  u = plane (half r.width) (half r.height) (take (chroma_count r.width r.height) (drop (luma_count r.width r.height) r.samples));
  v = plane (half r.width) (half r.height) (drop (chroma_count r.width r.height) (drop (luma_count r.width r.height) r.samples));
}
