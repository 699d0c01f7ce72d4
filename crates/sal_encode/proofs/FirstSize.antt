-- How long the first partition can be.
use Rattle.std.proofs.Common.{◌≡◌, ℕ, ◌*◌, ◌≤◌, List, [], ◌∷◌, ◌++◌, length, arith}
use Rattle.std.proofs.lemmas.List.{length-append}
use Rattle.sal_base.specs.Pictures.{blocks_of}
use Rattle.sal_bool.proofs.Bounds.{written_few, follows_few}
use Rattle.sal_probs.specs.Probabilities.{Table}
use Rattle.sal_header.specs.declared.header.Header.{Header}
use Rattle.sal_header.specs.Headers.{header_of}
use Rattle.sal_header.specs.Written.{header_pairs}
use Rattle.sal_header.proofs.ReadBack.{header_again}
use Rattle.sal_header.proofs.HeaderBits.{header_bits}
use Rattle.sal_macroblock.specs.declared.mode.MbMode.{MbMode}
use Rattle.sal_modes.specs.Written.{mb_pairs, as_read}
use Rattle.sal_modes.proofs.ModeBounds.{mb_short}
use Rattle.sal_state.specs.States.{StateData}
use Rattle.sal_decode.specs.FirstPartition.{around}
use Rattle.sal_encode.specs.declared.plan.Plan.{Plan}
use Rattle.sal_encode.specs.Plans.{IsPlan}
use Rattle.sal_encode.specs.FrameBytes.{probs_of, modes_pairs, first_pairs, first_bytes}
use Rattle.sal_encode.proofs.FrameSize.{many_blocks}

modes_few : (h : Header) (probs : Table) (columns rows : ℕ) (before ms : List MbMode) → length (modes_pairs h probs columns rows before ms) ≤ 310 * length ms
unfolding modes_pairs
modes_few h probs columns rows before [] = omega arith
modes_few h probs columns rows before (m ∷ ms) =
    let here = mb_short h probs (around columns rows before) m in
    let later = modes_few h probs columns rows (before ++ as_read h m ∷ []) ms in
    let long = length-append (mb_pairs h probs (around columns rows before) m) (modes_pairs h probs columns rows (before ++ as_read h m ∷ []) ms) in
    omega (arith, here, later, long)

pub first_few : (s : StateData) (size : ℕ × ℕ) (p : Plan) → IsPlan s size p → length s.kept.ref_deltas ≡ 4 → length s.kept.mode_deltas ≡ 4 → length (first_bytes s size p) ≤ 985361
unfolding first_bytes first_pairs
first_few s size p valid references modes =
    let h = p.header in
    let head = follows_few (header_of h.key h.shown s.kept) (header_pairs h) h 10125 (header_bits h.key h.shown s.kept references modes) (header_again s.kept h valid.header) in
    let rest = modes_few h (probs_of s p) (blocks_of size.0) (blocks_of size.1) [] p.modes in
    let long = length-append (header_pairs h) (modes_pairs h (probs_of s p) (blocks_of size.0) (blocks_of size.1) [] p.modes) in
    let many = valid.many_modes in
    let blocks = many_blocks size.0 size.1 valid.sides.not_wider valid.sides.not_higher in
    let bytes = written_few (header_pairs h ++ modes_pairs h (probs_of s p) (blocks_of size.0) (blocks_of size.1) [] p.modes) in
    omega (arith, head, rest, long, many, blocks, bytes)
