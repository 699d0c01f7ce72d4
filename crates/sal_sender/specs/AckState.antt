-- What the sender keeps of the acknowledgements, and how that stands for the calls so far.
use Rattle.std.specs.Prelude.{◌≡◌, ℕ, max, nat_lt, if◌then◌else◌}
use Rattle.sal_sender.specs.declared.ack_state.AckState.{AckState}
use Rattle.sal_sender.specs.Past.{Past, now}
use Rattle.sal_sender.specs.Acks.{heard, average, heard_at}

-- it is what the calls so far left
pub record IsAckState (t : AckState) (past : Past) : Type 0 where
  pub heard_is : t.heard ≡ heard past
  pub average_is : t.average ≡ average past
  pub heard_at_is : t.heard_at ≡ heard_at past
  pub moment_is : t.moment ≡ now past

-- one more acknowledgement
abbrev pub with_ack : ℕ → ℕ → ℕ → AckState → AckState
with_ack serial gap moment t =
    if nat_lt t.heard serial
    then record { heard = serial; average = gap; heard_at = max t.moment moment; moment = max t.moment moment }
    else record { heard = t.heard; average = t.average; heard_at = t.heard_at; moment = max t.moment moment }
