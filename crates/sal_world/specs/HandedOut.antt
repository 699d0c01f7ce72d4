-- What an event hands out.
use Rattle.std.specs.Prelude.{ℕ, List, Option}
use Rattle.std.specs.Option.{option_map}
use Rattle.std.specs.Prelude.{option_and_then}
use Rattle.sal_codec.specs.Coding.{Coding}
use Rattle.sal_sender.specs.Past.{Past}
use Rattle.sal_sender.specs.Choosing.{first_in}
use Rattle.sal_sender.specs.Answers.{waiting_jobs}
use Rattle.sal_sender.specs.JobWork.{JobWork}
use Rattle.sal_sender.specs.Stands.{work_of}
use Rattle.sal_receiver.specs.Past.{ReceiverCall}
use Rattle.sal_receiver.specs.Ready.{ready_source, frame, target_name}
use Rattle.sal_receiver.specs.Ready.{ready_answer}
use Rattle.sal_receiver.specs.Handed.{HandedFrame}

module _ {S : Type 0} (codec : Coding S) where
  -- the job that is handed out next
  abbrev pub next_job : Past → Option (JobWork S)
  next_job past = option_map (work_of codec past) (first_in (waiting_jobs past))

  -- the frame of a number, from the state from which it is ready
  abbrev pub frame_from : List (ReceiverCall S) → ℕ → S → HandedFrame S
  frame_from past n source = record { number = n; target = target_name past n; source = source; bytes = frame past n }

  abbrev pub frame_at : List (ReceiverCall S) → ℕ → Option (HandedFrame S)
  frame_at past n = option_map (frame_from past n) (ready_source codec past n)

  -- the frame that is handed out next
  abbrev pub next_frame : List (ReceiverCall S) → Option (HandedFrame S)
  next_frame past = option_and_then (frame_at past) (ready_answer codec past)
