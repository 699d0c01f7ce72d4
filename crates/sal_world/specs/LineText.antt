-- The lines of a journal as text.
use Rattle.std.specs.Prelude.{ℕ, ◌+◌, ◌≤◌, ◌<◌, List, [], ◌∷◌, ◌++◌, length, take, map, Bool, true, false, Option, Result, Ok, Err, codes, decimal}
use Rattle.std.specs.List.{flat_map, join_with_byte}
use Rattle.hex.specs.Hex.{encode_lower}
use Rattle.std.specs.Io.KnownBytes.{Appends, Keeps}
use Rattle.sal_base.specs.declared.name.Name.{Name}
use Rattle.sal_y4m.specs.declared.head.Head.{Head as HeadData}
use Rattle.sal_sender.specs.declared.choice.JobRole.{JobRole}
use Rattle.sal_sender.specs.declared.choice.JobRole.TheVariants.{Coarse, Spare, Fine}
use Rattle.sal_sender.specs.declared.choice.Size.{Size}
use Rattle.sal_sender.specs.declared.choice.Size.TheVariants as sizes
use Rattle.sal_world.specs.declared.diary.ReportSize.{ReportSize}
use Rattle.sal_world.specs.declared.diary.ReportSize.TheVariants as reported
use Rattle.sal_world.specs.declared.diary.DiaryFault.{DiaryFault}
use Rattle.sal_world.specs.declared.diary.DiaryFault.TheVariants.{Failed, TooLong, Memory}
use Rattle.sal_world.specs.declared.diary.Line.{Line}
use Rattle.sal_world.specs.declared.diary.Line.TheVariants.{Head, Moment, Next, Take, Report, Choose, Nothing, Down, Up, Ready, Decoded, Sender, Heard, Lost, GivenUp, End}

-- ---- words

-- the 16 lower-case hexadecimal digits of a name's first 8 bytes
abbrev pub name_word : Name → List ℕ
name_word name = encode_lower (take 8 name.0)

abbrev pub role_word : JobRole → List ℕ
role_word Coarse = codes "coarse"
role_word Spare = codes "spare"
role_word Fine = codes "fine"

-- datagrams; the bytes of a first partition that is too long, behind a minus; a minus alone where there was no memory
abbrev pub size_word : Size → List ℕ
size_word (sizes.Datagrams count) = decimal count
size_word (sizes.Oversize first) = codes "-" ++ decimal first
size_word sizes.NoMemory = codes "-"

abbrev pub frame_words : ReportSize → List (List ℕ)
frame_words (reported.Frame length name) = codes "frame" ∷ decimal length ∷ name_word name ∷ []
frame_words (reported.Oversize first) = codes "oversize" ∷ decimal first ∷ []

abbrev pub late_words : Bool → List (List ℕ)
late_words true = codes "late" ∷ []
late_words false = []

abbrev pub heard_word : Bool → List ℕ
heard_word true = codes "heard"
heard_word false = codes "old"

abbrev pub shown_word : Bool → List ℕ
shown_word true = codes "shown"
shown_word false = codes "older"

abbrev pub given_up_words : Bool → List (List ℕ)
given_up_words true = codes "givenup" ∷ codes "late" ∷ []
given_up_words false = codes "again" ∷ []

-- the sides and the rate, behind the number of the version
abbrev pub head_words : HeadData → List (List ℕ)
head_words head = codes "1" ∷ decimal head.width ∷ decimal head.height ∷ decimal head.rate.0 ∷ decimal head.rate.1 ∷ []

-- the bytes of a datagram, where there are any
abbrev pub bytes_words : List ℕ → List (List ℕ)
bytes_words [] = []
bytes_words (b ∷ bytes) = encode_lower (b ∷ bytes) ∷ []

-- ---- lines

abbrev pub line_words : Line → List (List ℕ)
line_words (Head head) = codes "salsify" ∷ head_words head
line_words (Moment moment) = codes "moment" ∷ decimal moment ∷ []
line_words (Next number) = codes "next" ∷ decimal number ∷ []
line_words (Take job role) = codes "take" ∷ decimal job ∷ role_word role ∷ []
line_words (Report job size late) = codes "report" ∷ decimal job ∷ (frame_words size ++ late_words late)
line_words (Choose number job source count) = codes "choose" ∷ decimal number ∷ decimal job ∷ decimal source ∷ decimal count ∷ []
line_words (Nothing budget candidates) = codes "nothing" ∷ decimal budget ∷ map size_word candidates
line_words (Down number) = codes "down" ∷ decimal number ∷ codes "taken" ∷ []
line_words (Up number heard) = codes "up" ∷ decimal number ∷ heard_word heard ∷ []
line_words (Ready number) = codes "ready" ∷ decimal number ∷ []
line_words (Decoded number shown) = codes "decoded" ∷ decimal number ∷ shown_word shown ∷ []
line_words (Sender head) = codes "sender" ∷ head_words head
line_words (Heard bytes) = codes "heard" ∷ bytes_words bytes
line_words (Lost serial) = codes "lost" ∷ decimal serial ∷ []
line_words (GivenUp job late) = codes "report" ∷ decimal job ∷ given_up_words late
line_words End = codes "end" ∷ []

-- words with single spaces between them
abbrev pub spaced : List (List ℕ) → List ℕ
spaced = join_with_byte 32

-- a line with its newline
abbrev pub line_text : Line → List ℕ
line_text line = spaced (line_words line) ++ codes "\n"

abbrev pub lines_text : List Line → List ℕ
lines_text = flat_map line_text

-- a journal: the head of a session of both ends, what happened, and the end
abbrev pub journal_text : HeadData → List Line → List ℕ
journal_text head lines = line_text (Head head) ++ (lines_text lines ++ line_text End)

-- ---- what writing a line does

-- a journal has at most so many bytes
abbrev pub most_journal : ℕ
most_journal = 1073741824

-- the line is written, or a front of it where that fails, or nothing
abbrev pub WritesLine : Option (List ℕ) → Option (List ℕ) → Result (Unit {0}) DiaryFault → List ℕ → Type 0
WritesLine old new (Ok x) line = Appends old new line
WritesLine old new (Err Failed) line = (n : ℕ) × (n ≤ length line) × Appends old new (take n line)
WritesLine old new (Err TooLong) line = Keeps old new
WritesLine old new (Err Memory) line = Keeps old new

-- the line is too long exactly where it would pass the limit; want of memory may come before that is known
abbrev pub KeepsLimit : List ℕ → List ℕ → Result (Unit {0}) DiaryFault → Type 0
KeepsLimit text line (Ok x) = length text + length line ≤ most_journal
KeepsLimit text line (Err Failed) = length text + length line ≤ most_journal
KeepsLimit text line (Err TooLong) = most_journal < length text + length line
KeepsLimit text line (Err Memory) = Unit {0}
