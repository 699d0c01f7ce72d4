-- What a journal says.
use Rattle.std.specs.Prelude.{◌≡◌, ℕ, ◌+◌, List, [], ◌∷◌, length, map, Option, Some, None, Result, Ok, Err, nat_le, ◌==◌, ◌&&◌, if◌then◌else◌, codes}
use Rattle.std.specs.List.{slice_split, join_with_byte, AllByRecursion}
use Rattle.std.specs.Str.{bytes_eq}
use Rattle.sal_io.specs.Told.{◌>>=◌}
use Rattle.sal_y4m.specs.declared.head.Head.{Head}
use Rattle.sal_journal.specs.declared.event.JournalEvent.{JournalEvent}
use Rattle.sal_world.specs.LineText.{journal_text}
use Rattle.sal_journal.specs.Events.{line_of, IsEvent, IsJournalHead}
use Rattle.sal_journal.specs.Words.{words_in, next_word}
use Rattle.sal_journal.specs.Parsing.{small_and, last_number, event_of}

-- ---- the first line

-- a head, where its sides are within the limits and its rate has no zero
abbrev pub whole_head : ℕ → ℕ → ℕ → ℕ → Option Head
whole_head width height pictures seconds =
    if nat_le 1 width && nat_le width 1280 && nat_le 1 height && nat_le height 720 && nat_le 1 pictures && nat_le 1 seconds
    then Some (record { width = width; height = height; rate = (pictures, seconds) })
    else None

-- the words behind the first
abbrev pub head_behind : List (List ℕ) → Option Head
head_behind words = do
  version ← next_word words
  width ← (if bytes_eq version.0 (codes "1") then small_and version.1 else None)
  height ← small_and width.1
  pictures ← small_and height.1
  seconds ← last_number 32 pictures.1
  whole_head width.0 height.0 pictures.0 seconds

abbrev pub head_of : List ℕ → Option Head
head_of text = do
  word ← next_word (words_in text)
  if bytes_eq word.0 (codes "salsify") then head_behind word.1 else None

-- ---- the lines, which newlines end

abbrev pub lines_in : List ℕ → List (List ℕ)
lines_in text = slice_split (λ byte. byte == 10) text

-- one event before others
abbrev pub with_event : JournalEvent → Result (List JournalEvent) ℕ → Result (List JournalEvent) ℕ
with_event event (Ok events) = Ok (event ∷ events)
with_event event (Err line) = Err line

abbrev pub one_event : ℕ → Option JournalEvent → Result (List JournalEvent) ℕ → Result (List JournalEvent) ℕ
one_event number None more = Err number
one_event number (Some event) more = with_event event more

-- the events of lines up to the end, behind which nothing comes, or the number of the first line that isn't in the grammar or
-- comes behind the end; the last line is what no newline ends, and is never in the grammar
abbrev pub events_in : ℕ → List (List ℕ) → Result (List JournalEvent) ℕ
events_in number [] = Err number
events_in number (line ∷ more) =
    if length more == 0 then Err number
    else if bytes_eq line (codes "end") then (if length (join_with_byte 10 more) == 0 then Ok [] else Err (number + 1))
    else one_event number (event_of line) (events_in (number + 1) more)

-- a head and what happened
pub record Told : Type 0 where
  pub head : Head
  pub events : List JournalEvent

abbrev pub with_head : Option Head → Result (List JournalEvent) ℕ → Result Told ℕ
with_head None more = Err 1
with_head (Some head) (Ok events) = Ok (record { head = head; events = events })
with_head (Some head) (Err line) = Err line

-- what a journal says, or the number from 1 of the first line that isn't in the grammar
abbrev pub told_by : List (List ℕ) → Result Told ℕ
told_by [] = Err 1
told_by (line ∷ more) = if length more == 0 then Err 1 else with_head (head_of line) (events_in 2 more)

abbrev pub journal_of : List ℕ → Result Told ℕ
journal_of text = told_by (lines_in text)

-- this text is written of what was told, which a journal can have
pub record IsJournal (text : List ℕ) (told : Told) : Type 0 where
  pub text_is : text ≡ journal_text told.head (map line_of told.events)
  pub whole : IsJournalHead told.head
  pub fits : AllByRecursion IsEvent told.events
