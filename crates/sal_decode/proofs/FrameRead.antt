-- A frame read test by test, up to its first fault.
use Rattle.std.proofs.Common.{◌≡◌, ℕ, suc, zero, ◌*◌, ◌^◌, ◌≤◌, ◌∙◌, List, [], Bool, false, Option, IfSome, Result, Ok, Err, refl, sym, ap, subst, arith}
use Rattle.sal_base.specs.declared.coding.Fault.{Fault}
use Rattle.sal_base.specs.Pictures.{blocks_of}
use Rattle.sal_bool.specs.Bits.{start}
use Rattle.sal_bool.specs.Reading.{Reading, StandsFor}
use Rattle.sal_bool.specs.Syntax.{read, run}
use Rattle.sal_probs.specs.Probabilities.{used}
use Rattle.sal_header.specs.declared.tag.Tag.{Tag}
use Rattle.sal_header.specs.declared.header.Header.{Header}
use Rattle.sal_header.specs.Tags.{tag_of, first_part_of, parts_of}
use Rattle.sal_header.specs.Headers.{header_of}
use Rattle.sal_macroblock.specs.declared.mode.MbMode.{MbMode}
use Rattle.sal_state.specs.States.{References, StateData}
use Rattle.sal_frame.specs.Records.{Record}
use Rattle.sal_decode.specs.FirstPartition.{mb_modes, first_partition}
use Rattle.sal_decode.specs.Syntax.{size_of, frame_of, record_of, ◌>>=◌}
use Rattle.sal_decode.proofs.HeadRead.{first_read}

-- what follows after each test
module _ (s : StateData) (bytes : List ℕ) where
  abbrev with_parts : ℕ × ℕ → Header × List MbMode → List (ℕ × ℕ) → Result Record Fault
  with_parts size x parts = Ok (record_of s bytes size parts x)

  abbrev with_modes : Tag → ℕ × ℕ → Header × List MbMode → Result Record Fault
  with_modes tag size x = parts_of bytes tag x.0.log2 >>= with_parts size x

  abbrev with_part : Tag → ℕ × ℕ → List ℕ → Result Record Fault
  with_part tag size part = with_modes tag size (read part start (first_partition tag s.kept (blocks_of size.0) (blocks_of size.1))).0

  abbrev with_size : Tag → ℕ × ℕ → Result Record Fault
  with_size tag size = first_part_of bytes tag >>= with_part tag size

  abbrev with_tag : Tag → Result Record Fault
  with_tag tag = size_of s tag >>= with_size tag

  from_tag : frame_of s bytes ≡ tag_of bytes >>= with_tag
  unfolding frame_of
  from_tag = refl

  pub tag_fails : (f : Fault) → tag_of bytes ≡ Err f → frame_of s bytes ≡ Err f
  tag_fails f e = from_tag ∙ ap (λ x. x >>= with_tag) e

  to_size : (tag : Tag) → tag_of bytes ≡ Ok tag → frame_of s bytes ≡ size_of s tag >>= with_size tag
  to_size tag e = from_tag ∙ ap (λ x. x >>= with_tag) e

  pub size_fails : (tag : Tag) (f : Fault) → tag_of bytes ≡ Ok tag → size_of s tag ≡ Err f → frame_of s bytes ≡ Err f
  size_fails tag f e e2 = to_size tag e ∙ ap (λ x. x >>= with_size tag) e2

  to_part : (tag : Tag) (size : ℕ × ℕ) → tag_of bytes ≡ Ok tag → size_of s tag ≡ Ok size → frame_of s bytes ≡ first_part_of bytes tag >>= with_part tag size
  to_part tag size e e2 = to_size tag e ∙ ap (λ x. x >>= with_size tag) e2

  pub part_fails : (tag : Tag) (size : ℕ × ℕ) (f : Fault) → tag_of bytes ≡ Ok tag → size_of s tag ≡ Ok size → first_part_of bytes tag ≡ Err f → frame_of s bytes ≡ Err f
  part_fails tag size f e e2 e3 = to_part tag size e e2 ∙ ap (λ x. x >>= with_part tag size) e3

  module _ (tag : Tag) (width height : ℕ) (part : List ℕ) (d d' : Reading) (h : Header) (e : tag_of bytes ≡ Ok tag) (e2 : size_of s tag ≡ Ok (width, height)) (e3 : first_part_of bytes tag ≡ Ok part)
      (stands : StandsFor part start d) (header_read : run (header_of tag.key tag.shown s.kept) d ≡ (h, d')) where
    abbrev modes_run : List MbMode × Reading
    modes_run = run (mb_modes h (used h.key s.kept.probs h.updates) (blocks_of width) (blocks_of height) (blocks_of width * blocks_of height) []) d'

    to_modes : (ms : List MbMode) (d'' : Reading) → modes_run ≡ (ms, d'') → frame_of s bytes ≡ with_modes tag (width, height) (h, ms)
    to_modes ms d'' f =
        to_part tag (width, height) e e2
        ∙ (ap (λ x. x >>= with_part tag (width, height)) e3
        ∙ ap (λ x. with_modes tag (width, height) x) (first_read part tag s.kept (blocks_of width) (blocks_of height) d d' d'' h ms stands header_read f))

    pub parts_fail : (f : Fault) → parts_of bytes tag h.log2 ≡ Err f → frame_of s bytes ≡ Err f
    parts_fail f e4 = to_modes modes_run.0 modes_run.1 refl ∙ ap (λ x. x >>= with_parts (width, height) (h, modes_run.0)) e4

    pub frame_read : (parts : List (ℕ × ℕ)) (ms : List MbMode) (d'' : Reading) → parts_of bytes tag h.log2 ≡ Ok parts → modes_run ≡ (ms, d'') → frame_of s bytes ≡ Ok (record_of s bytes (width, height) parts (h, ms))
    frame_read parts ms d'' e4 f = to_modes ms d'' f ∙ ap (λ x. x >>= with_parts (width, height) (h, ms)) e4

-- of a power of two
pub few_parts : (count log2 : ℕ) → log2 ≤ 3 → count ≡ 2 ^ log2 → (1 ≤ count) × (count ≤ 8)
few_parts count zero le e = (omega (arith, e), omega (arith, e))
few_parts count (suc zero) le e = (omega (arith, e), omega (arith, e))
few_parts count (suc (suc zero)) le e = (omega (arith, e), omega (arith, e))
few_parts count (suc (suc (suc zero))) le e = (omega (arith, e), omega (arith, e))
few_parts count (suc (suc (suc (suc n)))) le e = absurd (omega (arith, le))

-- what holds of the tag's kind holds of the header's
pub same_kind : (o : Option References) (key tag_key : Bool) (width height : ℕ) → key ≡ tag_key → IfSome o (λ r. tag_key ≡ false → (width ≡ r.width) × (height ≡ r.height))
    → IfSome o (λ r. key ≡ false → (width ≡ r.width) × (height ≡ r.height))
same_kind o key tag_key width height e h = subst (λ k. IfSome o (λ r. k ≡ false → (width ≡ r.width) × (height ≡ r.height))) (sym e) h
