-- The bytes of a plan: tag, first partition, token partition (RFC 6386, 9.1, 9.2 and 9.5).
use Rattle.std.specs.Prelude.{ℕ, suc, zero, ◌+◌, ◌*◌, ◌/◌, ◌%◌, ℤ, List, [], ◌∷◌, ◌++◌, Bool, if◌then◌else◌, ◌==◌, length, replicate, slice_index_or, slice_set}
use Rattle.sal_base.specs.Pictures.{blocks_of}
use Rattle.sal_bool.specs.Bits.{start}
use Rattle.sal_bool.specs.Syntax.{bit_of}
use Rattle.sal_bool.specs.Written.{steps, written}
use Rattle.sal_bool.specs.Pairs.{Pairs}
use Rattle.sal_probs.specs.Probabilities.{Table, used}
use Rattle.sal_header.specs.declared.header.Header.{Header}
use Rattle.sal_header.specs.Written.{header_pairs}
use Rattle.sal_macroblock.specs.declared.mode.MbMode.{MbMode}
use Rattle.sal_macroblock.specs.Macroblocks.{has_y2}
use Rattle.sal_modes.specs.Written.{mb_pairs, as_read}
use Rattle.sal_tokens.specs.Blocks.{Tokens, skipped, no_contexts}
use Rattle.sal_tokens.specs.Written.{Branch, pairs_of, macroblock_branches, after_macroblock}
use Rattle.sal_state.specs.States.{StateData}
use Rattle.sal_frame.specs.Records.{Macroblock}
use Rattle.sal_decode.specs.FirstPartition.{around}
use Rattle.sal_encode.specs.declared.plan.Plan.{Plan}
use Rattle.sal_encode.specs.Plans.{planned_all}

-- the probabilities that a plan is written with
abbrev pub probs_of : StateData → Plan → Table
probs_of s p = used p.header.key s.kept.probs p.header.updates

-- the modes of macroblocks that come after these, as they are read (19.3)
unfoldable pub modes_pairs : Header → Table → ℕ → ℕ → List MbMode → List MbMode → Pairs
modes_pairs h probs columns rows before [] = []
modes_pairs h probs columns rows before (m ∷ ms) = mb_pairs h probs (around columns rows before) m ++ modes_pairs h probs columns rows (before ++ as_read h m ∷ []) ms

-- the first partition: the header, then the modes of all macroblocks
unfoldable pub first_pairs : StateData → ℕ × ℕ → Plan → Pairs
first_pairs s size p = header_pairs p.header ++ modes_pairs p.header (probs_of s p) (blocks_of size.0) (blocks_of size.1) [] p.modes

-- the bits of a macroblock's tokens, of which a skipped one has none
abbrev pub mb_branches : MbMode → List (List ℤ) → List Bool → List Bool → List Branch
mb_branches m ls above left = if m.skip then [] else macroblock_branches (has_y2 m.y) above left ls

-- its tokens, with the contexts that it leaves
abbrev pub mb_tokens : MbMode → List (List ℤ) → List Bool → List Bool → Tokens
mb_tokens m ls above left = if m.skip then skipped (has_y2 m.y) above left else after_macroblock (has_y2 m.y) above left ls

-- the token partition: macroblocks from the k-th on, over the contexts above each column and left (13.3)
unfoldable pub tokens_branches : ℕ → ℕ → List (List Bool) → List Bool → List Macroblock → List Branch
tokens_branches columns k above left [] = []
tokens_branches columns k above left (b ∷ bs) =
    let over = slice_index_or above (k % columns) no_contexts in
    let beside = if k % columns == 0 then no_contexts else left in
    let t = mb_tokens b.mode b.coefficients over beside in
    mb_branches b.mode b.coefficients over beside ++ tokens_branches columns (k + 1) (slice_set above (k % columns) t.above) t.left bs

-- all of it
unfoldable pub plan_branches : ℕ × ℕ → Plan → List Branch
plan_branches size p = let columns = blocks_of size.0 in tokens_branches columns 0 (replicate columns no_contexts) no_contexts (planned_all p.modes p.levels)

-- n bytes of a number, lowest first
abbrev pub low_bytes : ℕ → ℕ → List ℕ
low_bytes zero x = []
low_bytes (suc n) x = x % 256 ∷ low_bytes n (x / 256)

-- the tag: whether it is an inter frame, version 0, show_frame, and the size of the first partition; then the start code and the
-- sides of a key frame, unscaled (9.1)
abbrev pub head_bytes : Bool → Bool → ℕ → ℕ × ℕ → List ℕ
head_bytes key shown first size =
    low_bytes 3 ((if key then 0 else 1) + 16 * bit_of shown + 32 * first)
    ++ (if key then 0x9d ∷ 0x01 ∷ 0x2a ∷ (low_bytes 2 size.0 ++ low_bytes 2 size.1) else [])

unfoldable pub first_bytes : StateData → ℕ × ℕ → Plan → List ℕ
first_bytes s size p = written (steps start (first_pairs s size p))

unfoldable pub token_bytes : StateData → ℕ × ℕ → Plan → List ℕ
token_bytes s size p = written (steps start (pairs_of (probs_of s p).coefficients (plan_branches size p)))

-- the bytes of a plan
unfoldable pub plan_bytes : StateData → ℕ × ℕ → Plan → List ℕ
plan_bytes s size p =
    let first = first_bytes s size p in
    head_bytes p.header.key p.header.shown (length first) size ++ (first ++ token_bytes s size p)
