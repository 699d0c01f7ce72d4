-- What the events of a journal are as lines, and which of them a journal can have.
use Rattle.std.specs.Prelude.{◌≡◌, ℕ, ◌<◌, ◌≤◌, ◌^◌, List, ◌∷◌, ◌++◌, length, take, replicate, IfSome}
use Rattle.std.specs.Option.{option_to_list}
use Rattle.hex.specs.Hex.{IsBytes}
use Rattle.sal_base.specs.declared.name.Name.{Name}
use Rattle.sal_base.specs.Picture.{AreSides}
use Rattle.sal_y4m.specs.declared.head.Head.{Head as HeadData}
use Rattle.sal_sender.specs.declared.choice.Size.{Size}
use Rattle.sal_sender.specs.declared.choice.Size.TheVariants as sizes
use Rattle.sal_world.specs.declared.diary.ReportSize.{ReportSize}
use Rattle.sal_world.specs.declared.diary.ReportSize.TheVariants as reported
use Rattle.sal_world.specs.declared.diary.Line.{Line}
use Rattle.sal_world.specs.declared.diary.Line.TheVariants as lines
use Rattle.sal_world.specs.LineText.{line_words, line_text}
use Rattle.sal_journal.specs.declared.event.JournalEvent.{JournalEvent}
use Rattle.sal_journal.specs.declared.event.JournalEvent.TheVariants.{Moment, Next, Take, Report, Choose, Nothing, Down, Up, Ready, Decoded}

-- the line of an event
abbrev pub line_of : JournalEvent → Line
line_of (Moment moment) = lines.Moment moment
line_of (Next number) = lines.Next number
line_of (Take job role) = lines.Take job role
line_of (Report job size late) = lines.Report job size late
line_of (Choose number job source count) = lines.Choose number job source count
line_of (Nothing budget size other) = lines.Nothing budget (size ∷ option_to_list other)
line_of (Down number) = lines.Down number
line_of (Up number heard) = lines.Up number heard
line_of (Ready number) = lines.Ready number
line_of (Decoded number shown) = lines.Decoded number shown

abbrev pub event_words : JournalEvent → List (List ℕ)
event_words event = line_words (line_of event)

abbrev pub event_text : JournalEvent → List ℕ
event_text event = line_text (line_of event)

-- ---- what fits its fields

abbrev pub IsSmall : ℕ → Type 0
IsSmall n = n < 2 ^ 32

-- of a name the first 8 bytes are written, and the others are zeros
abbrev pub IsWrittenName : Name → Type 0
IsWrittenName name = IsBytes (take 8 name.0) × (length (take 8 name.0) ≡ 8) × (name.0 ≡ take 8 name.0 ++ replicate 8 0)

abbrev pub IsSize : Size → Type 0
IsSize (sizes.Datagrams count) = IsSmall count
IsSize (sizes.Oversize first) = IsSmall first
IsSize sizes.NoMemory = Unit {0}

abbrev pub IsFrameSize : ReportSize → Type 0
IsFrameSize (reported.Frame length name) = IsSmall length × IsWrittenName name
IsFrameSize (reported.Oversize first) = IsSmall first

abbrev pub IsEvent : JournalEvent → Type 0
IsEvent (Moment moment) = moment < 2 ^ 64
IsEvent (Next number) = IsSmall number
IsEvent (Take job role) = IsSmall job
IsEvent (Report job size late) = IsSmall job × IsFrameSize size
IsEvent (Choose number job source count) = IsSmall number × IsSmall job × IsSmall source × IsSmall count
IsEvent (Nothing budget size other) = IsSmall budget × IsSize size × IfSome other IsSize
IsEvent (Down number) = IsSmall number
IsEvent (Up number heard) = number < 2 ^ 64
IsEvent (Ready number) = IsSmall number
IsEvent (Decoded number shown) = IsSmall number

-- a head whose rate has no zero and fits, and whose sides are within the limits
pub record IsJournalHead (head : HeadData) : Type 0 where
  pub sides : AreSides head.width head.height
  pub pictures : (1 ≤ head.rate.0) × IsSmall head.rate.0
  pub seconds : (1 ≤ head.rate.1) × IsSmall head.rate.1
