-- The lines of what happened: what a journal says of the events of a world.
use Rattle.std.specs.Prelude.{ℕ, ◌+◌, ◌-◌, ◌^◌, min, max, Bool, true, false, List, [], ◌∷◌, ◌++◌, length, Option, Some, None, Result, Ok}
use Rattle.std.specs.Option.{option_map, option_to_list}
use Rattle.sal_base.specs.declared.coding.Encoding.{Encoding}
use Rattle.sal_base.specs.declared.coding.Encoding.TheVariants as made
use Rattle.sal_codec.specs.Coding.{Coding}
use Rattle.sal_sender.specs.declared.outcome.Gave.{Gave}
use Rattle.sal_sender.specs.declared.outcome.Gave.TheVariants as gave
use Rattle.sal_sender.specs.declared.answers.Next.{Next as Start}
use Rattle.sal_sender.specs.declared.answers.Next.TheVariants.{Started, NotChosen, Full, Memory as StartMemory}
use Rattle.sal_sender.specs.declared.answers.Reported.{Reported}
use Rattle.sal_sender.specs.declared.answers.Reported.TheVariants.{Stranger, Late, Kept}
use Rattle.sal_sender.specs.declared.answers.HeardAck.{HeardAck}
use Rattle.sal_sender.specs.declared.answers.HeardAck.TheVariants.{Heard, Ignored}
use Rattle.sal_sender.specs.declared.answers.Ignore.TheVariants.{Old}
use Rattle.sal_sender.specs.Past.{pictures}
use Rattle.sal_chain.specs.Held.{name_in}
use Rattle.sal_sender.specs.JobWork.{JobWork, encoded}
use Rattle.sal_sender.specs.Stands.{work_at}
use Rattle.sal_sender.specs.OneThread.{Session}
use Rattle.sal_sender.specs.Answers.{next_answer, report_answer}
use Rattle.sal_receiver.specs.declared.answers.Delivered.{Delivered}
use Rattle.sal_receiver.specs.declared.answers.Delivered.TheVariants.{Taken}
use Rattle.sal_receiver.specs.declared.answers.Done.{Done}
use Rattle.sal_receiver.specs.declared.answers.Done.TheVariants.{Older, Show}
use Rattle.sal_receiver.specs.Handed.{HandedFrame}
use Rattle.sal_world.specs.declared.diary.Line.{Line}
use Rattle.sal_world.specs.declared.diary.Line.TheVariants as lines
use Rattle.sal_world.specs.declared.diary.ReportSize.{ReportSize}
use Rattle.sal_world.specs.declared.diary.ReportSize.TheVariants.{Frame, Oversize}
use Rattle.sal_world.specs.declared.event.ChooseAnswer.{ChooseAnswer}
use Rattle.sal_world.specs.declared.event.ChooseAnswer.TheVariants as chose
use Rattle.sal_world.specs.declared.event.Unsent.{Unsent}
use Rattle.sal_world.specs.World.{WorldEvent, Starts, TakesJob, Reports, Chooses, Delivers, Hears, TakesReady, Decodes, Passes, WorldPast, after}
use Rattle.sal_world.specs.HandedOut.{next_job, next_frame}
use Rattle.sal_world.specs.Answers.{choose_answer, delivery_answer, hear_answer, done_answer}

-- ---- the line of each answer, where it has one

-- of a picture that is started, with the number that it gets
abbrev pub start_line : ℕ → Start → Option Line
start_line number (Started jobs) = Some (lines.Next number)
start_line number (NotChosen n) = None
start_line number Full = None
start_line number StartMemory = None

abbrev pub choice_line : ChooseAnswer → Option Line
choice_line (chose.Sent choice) = Some (lines.Choose choice.number choice.job choice.source choice.count)
choice_line (chose.Nothing budget sizes) = Some (lines.Nothing budget sizes)
choice_line chose.NoPicture = None
choice_line (chose.Waiting id) = None
choice_line chose.Memory = None

abbrev pub down_line : ℕ → Result Delivered Unsent → Option Line
down_line which (Ok (Taken ack)) = Some (lines.Down which)
down_line which _ = None

abbrev pub up_line : ℕ → Result HeardAck Unsent → Option Line
up_line which (Ok (Heard numbers)) = Some (lines.Up which true)
up_line which (Ok (Ignored Old)) = Some (lines.Up which false)
up_line which _ = None

abbrev pub decoded_line : Done → Option Line
decoded_line (Show n picture) = Some (lines.Decoded n true)
decoded_line (Older n greater) = Some (lines.Decoded n false)
decoded_line _ = None

module _ {S : Type 0} where
  abbrev pub take_line : Option (JobWork S) → Option Line
  take_line job = option_map (λ work. lines.Take work.id work.role) job

  abbrev pub ready_line : Option (HandedFrame S) → Option Line
  ready_line frame = option_map (λ handed. lines.Ready handed.number) frame

module _ {S : Type 0} (codec : Coding S) where
  -- how large what the codec made is; a length that 32 bits can't say is the greatest that they can
  abbrev pub size_made : Encoding S → ReportSize
  size_made (made.Frame bytes target recon) = Frame (min (2 ^ 32 - 1) (length bytes)) (record { 0 = name_in codec target })
  size_made (made.Oversize first) = Oversize first

  abbrev pub report_of : Bool → Option (JobWork S) → Option Line
  report_of late job = option_map (λ work. lines.Report work.id (size_made (encoded codec work)) late) job

  abbrev pub reported_line : Reported → Option (JobWork S) → Option Line
  reported_line Kept job = report_of false job
  reported_line Late job = report_of true job
  reported_line Stranger job = None

  -- of a job; one for which there was no memory has no line
  abbrev pub report_line : Gave → Reported → Option (JobWork S) → Option Line
  report_line gave.NoMemory answer job = None
  report_line _ answer job = reported_line answer job

module _ {S : Type 0} (codec : Coding S) (session : Session) where
  -- the line of an event in a world
  abbrev pub event_line : WorldPast S → WorldEvent → Option Line
  event_line w (Starts picture) = start_line (length (pictures w.sender) + 1) (next_answer w.sender)
  event_line w TakesJob = take_line (next_job codec w.sender)
  event_line w (Reports job outcome) = report_line codec outcome (report_answer w.sender job) (work_at codec w.sender job)
  event_line w Chooses = choice_line (choose_answer codec session w)
  event_line w (Delivers which) = down_line which (delivery_answer codec session w which)
  event_line w (Hears which) = up_line which (hear_answer codec session w which)
  event_line w TakesReady = ready_line (next_frame codec w.receiver)
  event_line w (Decodes n ran) = decoded_line (done_answer codec session w n ran)
  event_line w (Passes moment) = Some (lines.Moment (max moment w.moment))

  -- the lines of these events, which stand with the newest first
  unfoldable pub history_lines : List WorldEvent → List Line
  history_lines [] = []
  history_lines (event ∷ before) = history_lines before ++ option_to_list (event_line (after codec session before) event)
