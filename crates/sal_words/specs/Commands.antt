-- What the words of the program ask for.
use Rattle.std.specs.Prelude.{◌≡◌, ℕ, List, [], ◌∷◌, Option, Some, None, Result, Ok, Err, if◌then◌else◌, codes}
use Rattle.std.specs.Str.{bytes_eq}
use Rattle.sal_words.specs.declared.address.Address.{Address}
use Rattle.sal_words.specs.declared.command.Command.{Command}
use Rattle.sal_words.specs.declared.command.Command.TheVariants as command
use Rattle.sal_words.specs.declared.command.WordsFault.{WordsFault}
use Rattle.sal_words.specs.declared.command.WordsFault.TheVariants.{Usage, Memory}
use Rattle.sal_words.specs.declared.verb.Verb.{Verb}
use Rattle.sal_words.specs.declared.verb.Verb.TheVariants as verb
use Rattle.sal_words.specs.Words.{Text, ◌>>=◌, Said, said, value_of}
use Rattle.sal_words.specs.Numbers.{number_within, address_of}

-- a command with its words and numbers
pub data Asked : Type 0 where
  -- `loop` of IN, SCRIPT, OUT and JOURNAL, with so many threads
  loop_of : Text → Text → Text → Text → ℕ → Asked
  -- `send` of IN, of ADDRESS and what it says, and of JOURNAL
  send_of : Text → Text → Address → Text → Asked
  -- `receive` of ADDRESS and what it says, and of OUT
  receive_of : Text → Address → Text → Asked
  -- `check` of JOURNAL, IN and OUT
  check_of : Text → Text → Text → Asked
  -- `generate` of START, COUNT, W and H
  generate_of : ℕ → ℕ → ℕ → ℕ → Asked

-- two, three and four names, and no more
abbrev pub two : List Text → (Text → Text → Option Asked) → Option Asked
two (a ∷ b ∷ []) f = f a b
two names f = None

abbrev pub three : List Text → (Text → Text → Text → Option Asked) → Option Asked
three (a ∷ b ∷ c ∷ []) f = f a b c
three names f = None

abbrev pub four : List Text → (Text → Text → Text → Text → Option Asked) → Option Asked
four (a ∷ b ∷ c ∷ d ∷ []) f = f a b c d
four names f = None

abbrev pub threads_option : Text
threads_option = codes "threads"

-- 0 to 64 threads, and 2 where no number is given
abbrev pub threads_in : Option Text → Option ℕ
threads_in None = Some 2
threads_in (Some text) = number_within 0 64 text

-- the command that a word names
abbrev pub verb_of : Text → Option Verb
verb_of word =
    if bytes_eq word (codes "loop") then Some verb.Loop
    else if bytes_eq word (codes "send") then Some verb.Send
    else if bytes_eq word (codes "receive") then Some verb.Receive
    else if bytes_eq word (codes "check") then Some verb.Check
    else if bytes_eq word (codes "generate") then Some verb.Generate
    else None

-- the options of a command
abbrev pub options_of : Verb → List Text
options_of verb.Loop = threads_option ∷ []
options_of other = []

-- `loop IN SCRIPT OUT JOURNAL [--threads N]`
abbrev pub loop_asked : Said → Option Asked
loop_asked s = four s.names (λ input script output journal.
    threads_in (value_of threads_option s.options) >>= λ threads. Some (loop_of input script output journal threads))

-- `send IN ADDRESS JOURNAL`
abbrev pub send_asked : Said → Option Asked
send_asked s = three s.names (λ input address journal. address_of address >>= λ to. Some (send_of input address to journal))

-- `receive ADDRESS OUT`
abbrev pub receive_asked : Said → Option Asked
receive_asked s = two s.names (λ address output. address_of address >>= λ at. Some (receive_of address at output))

-- `check JOURNAL IN OUT`
abbrev pub check_asked : Said → Option Asked
check_asked s = three s.names (λ journal input output. Some (check_of journal input output))

-- `generate START COUNT W H`: a start below 2 to the 64, 1 to 10,000 pictures, and sides of 1 to 1,280 and 1 to 720
abbrev pub generate_asked : Said → Option Asked
generate_asked s = four s.names (λ start count width height. do
  start ← number_within 0 18446744073709551615 start
  count ← number_within 1 10000 count
  width ← number_within 1 1280 width
  height ← number_within 1 720 height
  Some (generate_of start count width height))

abbrev pub asked_by : Verb → Said → Option Asked
asked_by verb.Loop s = loop_asked s
asked_by verb.Send s = send_asked s
asked_by verb.Receive s = receive_asked s
asked_by verb.Check s = check_asked s
asked_by verb.Generate s = generate_asked s

-- what the words after a command's ask for
abbrev pub asked_after : Verb → Option Said → Option Asked
asked_after v more = more >>= asked_by v

-- what the words after the program's name ask for; None where they aren't in the grammar
abbrev pub asked : List Text → Option Asked
asked [] = None
asked (word ∷ rest) = verb_of word >>= λ v. asked_after v (said (options_of v) rest)

-- what a command asks for
abbrev pub asks : Command → Asked
asks (command.Loop input script output journal threads) = loop_of input.now script.now output.now journal.now threads
asks (command.Send input address to journal) = send_of input.now address.now to journal.now
asks (command.Receive address at output) = receive_of address.now at output.now
asks (command.Check journal input output) = check_of journal.now input.now output.now
asks (command.Generate start count width height) = generate_of start count width height

-- words were read so: a command is what they ask for, and Usage comes exactly where they ask for none
abbrev pub Answers : Option Asked → Result Command WordsFault → Type 0
Answers wanted (Ok c) = wanted ≡ Some (asks c)
Answers wanted (Err Usage) = wanted ≡ None
Answers wanted (Err Memory) = Unit {0}

-- the words that are opened, in the order of the words: they name files or an address
abbrev pub opened : Asked → List Text
opened (loop_of input script output journal threads) = input ∷ script ∷ output ∷ journal ∷ []
opened (send_of input address to journal) = input ∷ address ∷ journal ∷ []
opened (receive_of address at output) = address ∷ output ∷ []
opened (check_of journal input output) = journal ∷ input ∷ output ∷ []
opened (generate_of start count width height) = []
