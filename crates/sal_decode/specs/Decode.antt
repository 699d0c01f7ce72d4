-- Decoding: the next state, the picture and whether it is shown, or the first fault (RFC 6386, 9).
use Rattle.std.specs.Prelude.{ℕ, List, Result, Ok}
use Rattle.sal_base.specs.declared.coding.Fault.{Fault}
use Rattle.sal_base.specs.declared.coding.Decoded.{Decoded}
use Rattle.sal_state.specs.States.{StateData}
use Rattle.sal_frame.specs.After.{decoded_of}
use Rattle.sal_decode.specs.Syntax.{frame_of, ◌>>=◌}

-- what a frame's bytes lead to from a state
unfoldable pub decode_of : StateData → List ℕ → Result (Decoded StateData) Fault
decode_of s bytes = frame_of s bytes >>= λ f. Ok (decoded_of s f)
