-- The codec without compression: key frames are the samples, inter frames their differences from the picture before.
use Rattle.std.specs.Prelude.{◌≡◌, ℕ, ◌+◌, ◌-◌, ◌%◌, List, [], ◌∷◌, ◌++◌, length, drop, replicate, Option, Some, None, Result, Ok, Err, true, nat_lt, nat_eq, ◌||◌, if◌then◌else◌}
use lib.Lanes.{zip2}
use Rattle.byteorder.specs.Endian.{big_bytes, big_number}
use Rattle.sha2.specs.Sha256.{sha256}
use Rattle.sal_base.specs.declared.picture.Picture.{Picture}
use Rattle.sal_base.specs.declared.coding.Kind.{Kind}
use Rattle.sal_base.specs.declared.coding.Kind.TheVariants.{Key, Inter}
use Rattle.sal_base.specs.declared.coding.Fault.{Fault}
use Rattle.sal_base.specs.declared.coding.Fault.TheVariants.{Short, BadStart, ZeroSize, TooLarge, NoReference, Partition}
use Rattle.sal_base.specs.declared.coding.Encoding.{Encoding}
use Rattle.sal_base.specs.declared.coding.Encoding.TheVariants.{Frame}
use Rattle.sal_base.specs.declared.coding.Decoded.{Decoded}
use Rattle.sal_codec.specs.declared.raw.RawPicture.{RawPicture}
use Rattle.sal_codec.specs.Coding.{Coding}
use Rattle.sal_codec.specs.Raw.{IsRaw, raw_of, picture_of, sample_count}

-- a number of 16 bits, high byte first
unfoldable pub pair : ℕ → List ℕ
pair n = big_bytes 2 n

-- a sample less another, and with it again, modulo 256
abbrev pub less : ℕ → ℕ → ℕ
less x s = (x + (256 - s)) % 256

abbrev pub plus : ℕ → ℕ → ℕ
plus d s = (d + s) % 256

-- each sample less the one at its place in the source
unfoldable pub differences : List ℕ → List ℕ → List ℕ
differences samples source = zip2 less samples source

-- the samples that have these differences from a source
unfoldable pub sums : List ℕ → List ℕ → List ℕ
sums ds source = zip2 plus ds source

-- the width and the height, of 16 bits each
abbrev pub sides_of : ℕ → ℕ → List ℕ
sides_of width height = pair width ++ pair height

-- a key frame: 0, the sides and all samples
abbrev pub key_bytes : RawPicture → List ℕ
key_bytes r = (0 ∷ sides_of r.width r.height) ++ r.samples

-- the picture that has these differences from a source
abbrev pub moved : RawPicture → List ℕ → RawPicture
moved source ds = record { width = source.width; height = source.height; samples = sums ds source.samples }

-- the frame of a picture: only from a state with a picture there are inter frames, 1 and the differences of all samples
abbrev pub frame_of : RawPicture → Option RawPicture → Kind → List ℕ
frame_of r s Key = key_bytes r
frame_of r None Inter = key_bytes r
frame_of r (Some source) Inter = 1 ∷ differences r.samples source.samples

-- the picture that this frame leads to
abbrev pub led_to : RawPicture → Option RawPicture → Kind → RawPicture
led_to r s Key = r
led_to r None Inter = r
led_to r (Some source) Inter = moved source (differences r.samples source.samples)

abbrev pub encode : Option RawPicture → Picture → ℕ → Kind → Encoding (Option RawPicture)
encode s p q k = Frame (frame_of (raw_of p) s k) (Some (led_to (raw_of p) s k)) (picture_of (led_to (raw_of p) s k))

-- what is wrong with a key frame's sides
abbrev pub side_fault : ℕ → ℕ → Option Fault
side_fault width height =
    if nat_eq width 0 || nat_eq height 0 then Some ZeroSize
    else if nat_lt 1280 width || nat_lt 720 height then Some (TooLarge width height)
    else None

-- what is wrong with n samples for a picture with these sides
abbrev pub count_fault : ℕ → ℕ → ℕ → Option Fault
count_fault width height n =
    if nat_lt n (sample_count width height) then Some Short
    else if nat_lt (sample_count width height) n then Some (Partition 0)
    else None

-- the fault, or what comes where there is none
abbrev pub unless : Option Fault → Result RawPicture Fault → Result RawPicture Fault
unless (Some f) next = Err f
unless None next = next

-- the samples behind these sides
abbrev pub sized : ℕ → ℕ → List ℕ → Result RawPicture Fault
sized width height samples =
    unless (side_fault width height) (unless (count_fault width height (length samples)) (Ok (record { width = width; height = height; samples = samples })))

-- what a key frame has after its first byte
unfoldable pub key_of : List ℕ → Result RawPicture Fault
key_of rest = if nat_lt (length rest) 4 then Err Short else sized (big_number 2 rest) (big_number 2 (drop 2 rest)) (drop 4 rest)

-- what an inter frame has after its first byte
unfoldable pub inter_of : Option RawPicture → List ℕ → Result RawPicture Fault
inter_of None rest = Err NoReference
inter_of (Some source) rest = unless (count_fault source.width source.height (length rest)) (Ok (moved source rest))

-- what a frame has, by its first byte
unfoldable pub raw_of_frame : Option RawPicture → List ℕ → Result RawPicture Fault
raw_of_frame s [] = Err Short
raw_of_frame s (first ∷ rest) = if nat_eq first 0 then key_of rest else if nat_eq first 1 then inter_of s rest else Err BadStart

-- the picture is the next state, and is shown
abbrev pub shows : Result RawPicture Fault → Result (Decoded (Option RawPicture)) Fault
shows (Ok r) = Ok (record { state = Some r; picture = picture_of r; shown = true })
shows (Err f) = Err f

abbrev pub decode : Option RawPicture → List ℕ → Result (Decoded (Option RawPicture)) Fault
decode s bytes = shows (raw_of_frame s bytes)

-- SHA-256 over the width, the height and all samples; zeros for the initial state
abbrev pub digest : Option RawPicture → List ℕ
digest None = replicate 32 0
digest (Some r) = sha256 (sides_of r.width r.height ++ r.samples)

-- the state is a picture of this size
pub record Shows (columns rows : ℕ) (r : RawPicture) : Type 0 where
  pub whole : IsRaw r
  pub width : r.width ≡ columns
  pub height : r.height ≡ rows

abbrev pub Takes : Option RawPicture → ℕ → ℕ → Type 0
Takes None width height = ⊥
Takes (Some r) width height = Shows width height r

-- the codec: its state is the picture shown last, or none
abbrev pub plain : Coding (Option RawPicture)
plain = record { initial = None; encode = encode; decode = decode; digest = digest; takes = Takes }
