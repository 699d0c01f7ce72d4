-- What reading a journal answers.
use Rattle.std.specs.Prelude.{◌≡◌, ℕ, ◌+◌, ◌<◌, ◌≤◌, List, [], length, Result, Ok, Err}
use Rattle.sal_journal.specs.declared.fault.JournalFault.{JournalFault}
use Rattle.sal_journal.specs.declared.fault.JournalFault.TheVariants.{Bad, ReadFault, TooLong, Memory}
use Rattle.sal_journal.specs.declared.reading.LineRead.{LineRead}
use Rattle.sal_journal.specs.declared.reading.LineRead.TheVariants.{Event, End, Other, Behind}
use Rattle.sal_world.specs.LineText.{most_journal}
use Rattle.sal_journal.specs.Reading.{Told, events_in, with_event, lines_in, journal_of}

-- what the first line of what is left is
abbrev pub LineIs : List ℕ → LineRead → Type 0
LineIs text (Event event after) = ((number : ℕ) → events_in number (lines_in text) ≡ with_event event (events_in (number + 1) (lines_in after.now))) × (length after.now < length text)
LineIs text End = (number : ℕ) → events_in number (lines_in text) ≡ Ok []
LineIs text Other = (number : ℕ) → events_in number (lines_in text) ≡ Err number
LineIs text Behind = (number : ℕ) → events_in number (lines_in text) ≡ Err (number + 1)

-- the answer to what there is to answer
abbrev pub Answers : {A : Type 0} → Result A ℕ → Result A JournalFault → Type 0
Answers said (Ok x) = said ≡ Ok x
Answers said (Err (Bad line)) = said ≡ Err line
Answers said (Err ReadFault) = ⊥
Answers said (Err TooLong) = ⊥
Answers said (Err Memory) = Unit {0}

-- what is answered of all that a source had left
abbrev pub JournalGives : List ℕ → Result Told JournalFault → Type 0
JournalGives text (Ok told) = (length text ≤ most_journal) × (journal_of text ≡ Ok told)
JournalGives text (Err (Bad line)) = (length text ≤ most_journal) × (journal_of text ≡ Err line)
JournalGives text (Err ReadFault) = Unit {0}
JournalGives text (Err TooLong) = most_journal < length text
JournalGives text (Err Memory) = Unit {0}
