-- The pictures of a clip that a session takes, and how a run ends that asks for one more.
use Rattle.std.specs.Prelude.{ℕ, ◌+◌, ◌/◌, min, List, length, take, Option, Some, None, nat_lt, nat_le, if◌then◌else◌}
use Rattle.sal_base.specs.declared.picture.Picture.{Picture}
use Rattle.sal_y4m.specs.declared.head.Head.{Head}
use Rattle.sal_y4m.specs.declared.fault.Flaw.{Flaw}
use Rattle.sal_y4m.specs.Grammar.{picture_at, picture_flaw, samples_of}
use Rattle.sal_run.specs.Front.{front, is_empty}

-- how a run ends, where nothing outside fails and there is memory
pub data End : Type 0 where
  Done : End
  BadInput : (flaw : Flaw) → End
  BadScript : (line : ℕ) → End
  TooMany : End
  TooLong : End

-- a session has at most so many pictures, and so many bytes of samples
abbrev pub most_pictures : ℕ
most_pictures = 1048575

abbrev pub most_samples : ℕ
most_samples = 1073741824

-- so many pictures of this size are within both
abbrev pub fitting : Head → ℕ
fitting head = most_samples / samples_of head.width head.height

abbrev pub most : Head → ℕ
most head = min most_pictures (fitting head)

-- how a run ends that comes to one picture more
abbrev pub over : Head → End
over head = if nat_le most_pictures (fitting head) then TooMany else TooLong

-- the pictures that a session takes, and why it takes no more, or None where the input ends after them
pub record Clip : Type 0 where
  pub pictures : List Picture
  pub fault : Option End

-- the clip after a header: at most one picture is looked at beyond those that a session takes
abbrev pub clip_of : Head → List Picture × List ℕ → Clip
clip_of head found = record {
  pictures = take (most head) found.0;
  fault = if nat_lt (most head) (length found.0) then Some (over head) else if is_empty found.1 then None else Some (BadInput (picture_flaw found.1));
}

abbrev pub clip_at : Head → List ℕ → Clip
clip_at head bytes = clip_of head (front (picture_at head) (most head + 1) bytes)
