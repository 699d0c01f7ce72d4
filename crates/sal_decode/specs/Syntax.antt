-- All that a frame's bytes say, or their first fault (RFC 6386, 9 and 19).
use Rattle.std.specs.Prelude.{ℕ, List, Option, Some, None, Result, Ok, Err, if◌then◌else◌, length}
use Rattle.sal_base.specs.declared.coding.Fault.{Fault}
use Rattle.sal_base.specs.declared.coding.Fault.TheVariants.{NoReference}
use Rattle.sal_base.specs.Pictures.{blocks_of}
use Rattle.sal_bool.specs.Bits.{start}
use Rattle.sal_bool.specs.Syntax.{read}
use Rattle.sal_probs.specs.Probabilities.{used}
use Rattle.sal_header.specs.declared.tag.Tag.{Tag}
use Rattle.sal_header.specs.declared.header.Header.{Header}
use Rattle.sal_header.specs.Tags.{tag_of, first_part_of, parts_of}
use Rattle.sal_macroblock.specs.declared.mode.MbMode.{MbMode}
use Rattle.sal_state.specs.States.{References, StateData}
use Rattle.sal_frame.specs.Records.{Record}
use Rattle.sal_decode.specs.FirstPartition.{first_partition, with_segments}
use Rattle.sal_decode.specs.TokenPartitions.{macroblocks, begun}

-- one test after the other, up to the first fault
infixl 20 ◌>>=◌
abbrev pub ◌>>=◌ : {X Y : Type 0} → Result X Fault → (X → Result Y Fault) → Result Y Fault
Ok x >>= f = f x
Err e >>= f = Err e

abbrev pub size_kept : Option References → Result (ℕ × ℕ) Fault
size_kept (Some r) = Ok (r.width, r.height)
size_kept None = Err NoReference

-- the size of the picture: a key frame's own, an inter frame's that of the references (9.1)
abbrev pub size_of : StateData → Tag → Result (ℕ × ℕ) Fault
size_of s tag = if tag.key then Ok (tag.width, tag.height) else size_kept s.references

-- the record of a frame, out of its header and modes and its token partitions
unfoldable pub record_of : StateData → List ℕ → ℕ × ℕ → List (ℕ × ℕ) → Header × List MbMode → Record
record_of s bytes size parts x =
    let columns = blocks_of size.0 in
    let probs = used x.0.key s.kept.probs x.0.updates in
    record {
      header = x.0;
      width = size.0;
      height = size.1;
      blocks = macroblocks bytes parts probs.coefficients columns 0 (with_segments x.0 s.kept.map 0 x.1) (begun (length parts) columns);
    }

-- all that a frame's bytes say, or their first fault: tag, size, first partition, token partitions (9 and 19)
unfoldable pub frame_of : StateData → List ℕ → Result Record Fault
frame_of s bytes = do
  tag ← tag_of bytes
  size ← size_of s tag
  part ← first_part_of bytes tag
  let x = (read part start (first_partition tag s.kept (blocks_of size.0) (blocks_of size.1))).0
  parts ← parts_of bytes tag x.0.log2
  Ok (record_of s bytes size parts x)
