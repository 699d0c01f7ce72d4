-- What a line says, by its words.
use Rattle.std.specs.Prelude.{ℕ, List, length, ◌==◌, Bool, true, false, Option, Some, None, if◌then◌else◌, codes}
use Rattle.std.specs.Str.{bytes_eq}
use Rattle.sal_io.specs.Told.{◌>>=◌}
use Rattle.sal_sender.specs.declared.choice.Size.{Size}
use Rattle.sal_world.specs.declared.diary.ReportSize.TheVariants.{Frame, Oversize}
use Rattle.sal_journal.specs.declared.event.JournalEvent.{JournalEvent}
use Rattle.sal_journal.specs.declared.event.JournalEvent.TheVariants.{Moment, Next, Take, Report, Choose, Nothing, Down, Up, Ready, Decoded}
use Rattle.sal_journal.specs.Words.{words_in, next_word, last_word, number_of, either_of, role_of, size_of, name_of}

-- a number of 32 bits, and the words after it
abbrev pub small_and : List (List ℕ) → Option (ℕ × List (List ℕ))
small_and words = do
  word ← next_word words
  number ← number_of 32 word.0
  Some (number, word.1)

abbrev pub last_number : ℕ → List (List ℕ) → Option ℕ
last_number bits words = last_word words >>= number_of bits

abbrev pub last_of_two : List ℕ → List ℕ → List (List ℕ) → Option Bool
last_of_two first second words = last_word words >>= either_of first second

abbrev pub take_of : List (List ℕ) → Option JournalEvent
take_of words = do
  job ← small_and words
  word ← last_word job.1
  role ← role_of word
  Some (Take job.0 role)

-- nothing more, or the word `late` alone
abbrev pub late_of : List (List ℕ) → Option Bool
late_of words = if length words == 0 then Some false else (last_word words >>= λ word. if bytes_eq word (codes "late") then Some true else None)

abbrev pub frame_of : ℕ → List (List ℕ) → Option JournalEvent
frame_of job words = do
  length ← small_and words
  word ← next_word length.1
  name ← name_of word.0
  late ← late_of word.1
  Some (Report job (Frame length.0 name) late)

abbrev pub oversize_of : ℕ → List (List ℕ) → Option JournalEvent
oversize_of job words = do
  first ← small_and words
  late ← late_of first.1
  Some (Report job (Oversize first.0) late)

abbrev pub report_of : List (List ℕ) → Option JournalEvent
report_of words = do
  job ← small_and words
  kind ← next_word job.1
  (if bytes_eq kind.0 (codes "frame") then frame_of job.0 kind.1
      else if bytes_eq kind.0 (codes "oversize") then oversize_of job.0 kind.1
      else None)

abbrev pub choose_of : List (List ℕ) → Option JournalEvent
choose_of words = do
  number ← small_and words
  job ← small_and number.1
  source ← small_and job.1
  count ← last_number 32 source.1
  Some (Choose number.0 job.0 source.0 count)

-- nothing more, or one size
abbrev pub other_of : List (List ℕ) → Option (Option Size)
other_of words = if length words == 0 then Some None else (last_word words >>= size_of >>= λ size. Some (Some size))

abbrev pub nothing_of : List (List ℕ) → Option JournalEvent
nothing_of words = do
  budget ← small_and words
  word ← next_word budget.1
  size ← size_of word.0
  other ← other_of word.1
  Some (Nothing budget.0 size other)

abbrev pub down_of : List (List ℕ) → Option JournalEvent
down_of words = do
  number ← small_and words
  word ← last_word number.1
  if bytes_eq word (codes "taken") then Some (Down number.0) else None

abbrev pub up_of : List (List ℕ) → Option JournalEvent
up_of words = do
  word ← next_word words
  number ← number_of 64 word.0
  heard ← last_of_two (codes "heard") (codes "old") word.1
  Some (Up number heard)

abbrev pub decoded_of : List (List ℕ) → Option JournalEvent
decoded_of words = do
  number ← small_and words
  shown ← last_of_two (codes "shown") (codes "older") number.1
  Some (Decoded number.0 shown)

-- the event that begins with this word
abbrev pub event_behind : List ℕ → List (List ℕ) → Option JournalEvent
event_behind word words =
    if bytes_eq word (codes "down") then down_of words
    else if bytes_eq word (codes "up") then up_of words
    else if bytes_eq word (codes "take") then take_of words
    else if bytes_eq word (codes "report") then report_of words
    else if bytes_eq word (codes "ready") then last_number 32 words >>= (λ number. Some (Ready number))
    else if bytes_eq word (codes "decoded") then decoded_of words
    else if bytes_eq word (codes "next") then last_number 32 words >>= (λ number. Some (Next number))
    else if bytes_eq word (codes "choose") then choose_of words
    else if bytes_eq word (codes "nothing") then nothing_of words
    else if bytes_eq word (codes "moment") then last_number 64 words >>= (λ moment. Some (Moment moment))
    else None

-- the event of a line without its newline
abbrev pub event_of : List ℕ → Option JournalEvent
event_of text = next_word (words_in text) >>= λ word. event_behind word.0 word.1
