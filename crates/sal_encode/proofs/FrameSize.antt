-- A frame has some bytes, and not too many.
use Rattle.std.proofs.Common.{◌≡◌, ℕ, suc, ◌+◌, ◌*◌, ◌/◌, ◌<◌, ◌≤◌, ℤ, List, [], ◌∷◌, ◌++◌, Bool, true, false, if◌then◌else◌, ◌==◌, length, replicate, arith, slice_index_or, slice_set, ◌%◌}
use Rattle.std.proofs.lemmas.Nat.{mul-le}
use Rattle.std.proofs.lemmas.List.{length-append, length-map}
use Rattle.sal_base.specs.Pictures.{blocks_of}
use Rattle.sal_bool.proofs.Bounds.{written_few, follows_few}
use Rattle.sal_macroblock.specs.declared.mode.MbMode.{MbMode}
use Rattle.sal_macroblock.specs.Macroblocks.{outside, has_y2}
use Rattle.sal_tokens.specs.Blocks.{Tokens, macroblock, no_contexts}
use Rattle.sal_tokens.specs.Written.{Branch, pair_of, pairs_of, after_macroblock, macroblock_branches, macroblock_pairs}
use Rattle.sal_tokens.proofs.TokenBits.{macroblock_bits}
use Rattle.sal_tokens.proofs.WrittenMacroblocks.{macroblock_again}
use Rattle.sal_state.specs.States.{StateData}
use Rattle.sal_encode.specs.declared.plan.Plan.{Plan}
use Rattle.sal_encode.specs.Plans.{planned_all, AreLevels, IsPlan}
use Rattle.sal_encode.specs.FrameBytes.{probs_of, mb_branches, mb_tokens, tokens_branches, plan_branches, head_bytes, first_bytes, token_bytes, plan_bytes}
use Rattle.sal_encode.proofs.TokensAgain.{sized}

-- a macroblock's tokens
mb_few : (m : MbMode) (ls : List (List ℤ)) (above left : List Bool) → AreLevels m ls → length (mb_branches m ls above left) ≤ 13600
mb_few m ls above left h = by_skip m.skip
  where
    by_skip : (skip : Bool) → length (if skip then [] else macroblock_branches (has_y2 m.y) above left ls) ≤ 13600
    by_skip true = omega arith
    by_skip false =
        let few = follows_few (macroblock [] (has_y2 m.y) above left) (macroblock_pairs [] (has_y2 m.y) above left ls) (after_macroblock (has_y2 m.y) above left ls) 13600 (macroblock_bits [] (has_y2 m.y) above left)
        (macroblock_again [] (has_y2 m.y) above left ls h.blocks (sized m ls h)) in
        let same = length-map (macroblock_branches (has_y2 m.y) above left ls) (pair_of []) in
        omega (arith, few, same)

all_few : (columns : ℕ) (ms : List MbMode) (ls : List (List (List ℤ))) (k : ℕ) (above : List (List Bool)) (left : List Bool)
    → length ls ≡ length ms → ((j : ℕ) → j < length ms → AreLevels (slice_index_or ms j outside) (slice_index_or ls j []))
    → length (tokens_branches columns k above left (planned_all ms ls)) ≤ 13600 * length ms
unfolding tokens_branches planned_all
all_few columns [] [] k above left many levels = omega arith
all_few columns [] (l ∷ ls) k above left many levels = absurd (omega (arith, many))
all_few columns (m ∷ ms) [] k above left many levels = absurd (omega (arith, many))
all_few columns (m ∷ ms) (l ∷ ls) k above left many levels =
    let over : List Bool = slice_index_or above (k % columns) no_contexts in
    let beside : List Bool = if k % columns == 0 then no_contexts else left in
    let t : Tokens = mb_tokens m l over beside in
    let here = mb_few m l over beside (levels 0 (omega arith)) in
    let later = all_few columns ms ls (k + 1) (slice_set above (k % columns) t.above) t.left (omega (arith, many)) (λ j lt. levels (suc j) (omega (arith, lt))) in
    let long = length-append (mb_branches m l over beside) (tokens_branches columns (k + 1) (slice_set above (k % columns) t.above) t.left (planned_all ms ls)) in
    omega (arith, here, later, long)

head_short : (key shown : Bool) (n : ℕ) (size : ℕ × ℕ) → (3 ≤ length (head_bytes key shown n size)) × (length (head_bytes key shown n size) ≤ 10)
head_short true shown n size = (omega arith, omega arith)
head_short false shown n size = (omega arith, omega arith)

pub many_blocks : (w h : ℕ) → w ≤ 1280 → h ≤ 720 → blocks_of w * blocks_of h ≤ 3600
many_blocks w h a b = mul-le ((w + 15) / 16) ((h + 15) / 16) 80 45 (omega (arith, a)) (omega (arith, b))

-- the token partition
tokens_few : (s : StateData) (size : ℕ × ℕ) (p : Plan) → IsPlan s size p → length (token_bytes s size p) ≤ 42840002
unfolding token_bytes plan_branches
tokens_few s size p valid =
    let columns : ℕ = blocks_of size.0 in
    let branches : List Branch = tokens_branches columns 0 (replicate columns no_contexts) no_contexts (planned_all p.modes p.levels) in
    let few = all_few columns p.modes p.levels 0 (replicate columns no_contexts) no_contexts valid.many_levels (λ j lt. (valid.macroblocks j lt).levels) in
    let many = valid.many_modes in
    let blocks = many_blocks size.0 size.1 valid.sides.not_wider valid.sides.not_higher in
    let pairs : length (pairs_of (probs_of s p).coefficients branches) ≡ length branches = length-map branches (pair_of (probs_of s p).coefficients) in
    let bytes = written_few (pairs_of (probs_of s p).coefficients branches) in
    omega (arith, few, many, blocks, pairs, bytes)

pub frame_few : (s : StateData) (size : ℕ × ℕ) (p : Plan) → IsPlan s size p → length (first_bytes s size p) < 524288
    → (0 < length (plan_bytes s size p)) × (length (plan_bytes s size p) ≤ 43364299)
unfolding plan_bytes
frame_few s size p valid fits =
    let first : List ℕ = first_bytes s size p in
    let tokens : List ℕ = token_bytes s size p in
    let head : List ℕ = head_bytes p.header.key p.header.shown (length first) size in
    let few = tokens_few s size p valid in
    let short = head_short p.header.key p.header.shown (length first) size in
    let least = short.0 in
    let most = short.1 in
    let long = length-append head (first ++ tokens) in
    let longer = length-append first tokens in
    (omega (arith, least, long), omega (arith, few, most, long, longer, fits))
