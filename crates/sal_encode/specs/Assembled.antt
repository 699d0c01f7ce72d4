-- What a plan is made into: a frame, with the state that it leads to and its picture.
use Rattle.std.specs.Prelude.{ℕ, if◌then◌else◌, length, nat_le}
use Rattle.sal_base.specs.declared.coding.Encoding.{Encoding}
use Rattle.sal_base.specs.declared.coding.Encoding.TheVariants.{Frame, Oversize}
use Rattle.sal_state.specs.States.{StateData}
use Rattle.sal_frame.specs.After.{state_after, picture_of}
use Rattle.sal_encode.specs.declared.plan.Plan.{Plan}
use Rattle.sal_encode.specs.Plans.{record_of_plan}
use Rattle.sal_encode.specs.FrameBytes.{first_bytes, plan_bytes}

-- no frame where the first partition is larger than its 19 bits of size can say; else target and reconstruction are what the plan's
-- record leads to, whatever its bytes are (RFC 6386, 9.1)
unfoldable pub assembled : StateData → ℕ × ℕ → Plan → Encoding StateData
assembled s size p =
    let first = length (first_bytes s size p) in
    if nat_le 524288 first then Oversize first
    else Frame (plan_bytes s size p) (state_after s (record_of_plan size p)) (picture_of s (record_of_plan size p))
