-- What encoding keeps of a plan's macroblocks while it goes over them, and what it has of them afterwards.
use Rattle.std.specs.Prelude.{◌≡◌, ◌≤◌, ◌<◌, ◌+◌, ◌*◌, ℕ, ℤ, List, [], All, map, length, slice_index_or}
use Rattle.sal_base.specs.declared.picture.Plane.{Plane}
use Rattle.sal_base.specs.Pictures.{blocks_of}
use Rattle.sal_bool.specs.Bits.{Interval}
use Rattle.sal_bool.specs.Written.{steps}
use Rattle.sal_filter.specs.declared.head.MbInfo.{MbInfo}
use Rattle.sal_tokens.specs.declared.contexts.Contexts.{Contexts}
use Rattle.sal_tokens.specs.Written.{pairs_of}
use Rattle.sal_state.specs.States.{StateData, HasBlocks}
use Rattle.sal_frame.specs.Records.{Macroblock, info_of}
use Rattle.sal_frame.specs.Built.{built}
use Rattle.sal_encode.specs.declared.plan.Plan.{Plan}
use Rattle.sal_encode.specs.declared.picture.Built.{Built}
use Rattle.sal_encode.specs.Plans.{record_of_plan}
use Rattle.sal_encode.specs.FrameBytes.{tokens_branches, token_bytes}

-- the interval with the macroblocks from the k-th on, over the contexts above each column and left
unfoldable pub with_tokens : List ℕ → ℕ → ℕ → Interval → List Contexts → Contexts → List Macroblock → Interval
with_tokens probabilities columns k i above left bs = steps i (pairs_of probabilities (tokens_branches columns k (map (λ (c : Contexts). c.0) above) left.0 bs))

-- the token partition, the unfiltered planes, and what the loop filter needs of the macroblocks
pub record IsBuilt (s : StateData) (size : ℕ × ℕ) (p : Plan) (b : Built) : Type 0 where
  pub tokens : b.tokens ≡ token_bytes s size p
  pub planes : b.planes ≡ built s.references (record_of_plan size p)
  pub infos : b.infos.items ≡ map info_of (record_of_plan size p).blocks
  pub blocks : HasBlocks (blocks_of size.0) (blocks_of size.1) b.planes
  pub count : length b.infos.items ≡ blocks_of size.0 * blocks_of size.1
  pub segments : All (λ (info : MbInfo). info.mode.segment ≤ 3) b.infos.items

-- a plane with a sample at least
pub record HasSample (p : Plane) : Type 0 where
  pub wide : 1 ≤ p.width
  pub high : 1 ≤ p.height
  pub long : length p.samples ≡ p.width * p.height

-- of these blocks of a macroblock the n from the first on are now those of f, the others as before
pub record ArePut (first n : ℕ) (f : ℕ → List ℤ) (before now : List (List ℤ)) : Type 0 where
  pub long : length now ≡ length before
  pub there : (j : ℕ) → j < n → slice_index_or now (first + j) [] ≡ f j
  pub below : (j : ℕ) → j < first → slice_index_or now j [] ≡ slice_index_or before j []
  pub above : (j : ℕ) → first + n ≤ j → slice_index_or now j [] ≡ slice_index_or before j []

-- the blocks of a macroblock with these luma blocks and this Y2, and no chroma yet
pub record HasLuma (luma : ℕ → List ℤ) (y2 : List ℤ) (now : List (List ℤ)) : Type 0 where
  pub long : length now ≡ 25
  pub there : (k : ℕ) → k < 16 → slice_index_or now k [] ≡ luma k
  pub last : slice_index_or now 24 [] ≡ y2
