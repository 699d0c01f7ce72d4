-- What decoding keeps of the token partitions while it goes over the macroblocks.
use Rattle.std.specs.Prelude.{◌≡◌, ◌<◌, ℕ, ℤ, List, [], Bool, true, map, length, slice_index_or}
use Rattle.sal_bool.specs.Bits.{Interval, start}
use Rattle.sal_bool.specs.Reading.{Reading, StandsFor, opened}
use Rattle.sal_macroblock.specs.declared.mode.MbMode.{MbMode}
use Rattle.sal_macroblock.specs.Macroblocks.{is_intra}
use Rattle.sal_tokens.specs.declared.contexts.Contexts.{Contexts}
use Rattle.sal_tokens.specs.Blocks.{Tokens}
use Rattle.sal_decode.specs.TokenPartitions.{Progress, part_bytes, progress_after}

-- a decoder at the first bit of each partition
pub record AreOpened (bytes : List ℕ) (parts : List (ℕ × ℕ)) (decoders : List Reading) : Type 0 where
  pub count : length decoders ≡ length parts
  pub stand : (p : ℕ) → p < length parts → StandsFor (part_bytes bytes parts p) start (slice_index_or decoders p (opened []))

-- a decoder of each partition as far as it has been read, and the contexts above each column and left
pub record Holds (bytes : List ℕ) (parts : List (ℕ × ℕ)) (columns : ℕ) (r : Progress) (decoders : List Reading) (above : List Contexts) (left : Contexts) : Type 0 where
  pub count : length decoders ≡ length parts
  pub places : length r.read_to ≡ length parts
  pub stand : (p : ℕ) → p < length parts → StandsFor (part_bytes bytes parts p) (slice_index_or r.read_to p start) (slice_index_or decoders p (opened []))
  pub columns_are : length above ≡ columns
  pub above_is : r.above ≡ map (λ (c : Contexts). c.0) above
  pub left_is : r.left ≡ left.0

-- these coefficients and this are the tokens of macroblock k, and the rest stands after them
pub record HasRead (bytes : List ℕ) (parts : List (ℕ × ℕ)) (columns k : ℕ) (r : Progress) (t : Tokens × Interval) (coefficients : List (List ℤ)) (has_coefficients : Bool) (decoders : List Reading) (above : List Contexts) (left : Contexts) : Type 0 where
  pub coefficients_are : coefficients ≡ t.0.coefficients
  pub has_coefficients_are : has_coefficients ≡ t.0.has_coefficients
  pub holds : Holds bytes parts columns (progress_after (length parts) columns k r t) decoders above left

-- predicted from samples of its own picture
abbrev pub IsIntraKind : MbMode → Type 0
IsIntraKind m = is_intra m.reference ≡ true
