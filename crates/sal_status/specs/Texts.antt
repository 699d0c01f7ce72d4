-- The text that is printed of each status.
use Rattle.std.specs.Prelude.{ℕ, List, [], ◌++◌, get_or, codes, decimal}
use Rattle.sal_y4m.specs.Words.{word_of}
use Rattle.sal_status.specs.declared.status.Named.{Named}
use Rattle.sal_status.specs.declared.status.Named.TheVariants.{Word, Screen}
use Rattle.sal_run.specs.declared.end.Summary.{Summary}
use Rattle.sal_status.specs.declared.status.Shows.{Shows}
use Rattle.sal_status.specs.declared.status.Shows.TheVariants as shows
use Rattle.sal_status.specs.declared.status.Status.{Status}
use Rattle.sal_status.specs.declared.status.Status.TheVariants as status

-- the bytes of a word, or of the word `screen`; the words are those after the program's name
abbrev pub name_of : List (List ℕ) → Named → List ℕ
name_of words (Word index) = get_or words index []
name_of words Screen = codes "screen"

-- a text and what it is about, on a line
abbrev pub about : List ℕ → List ℕ → List ℕ
about text rest = text ++ (rest ++ codes "\n")

-- the six lines of what a run counted, by their digits
abbrev pub six_lines : List ℕ → List ℕ → List ℕ → List ℕ → List ℕ → List ℕ → List ℕ
six_lines pictures chosen nothing keys datagrams shown =
    codes "pictures " ++ (pictures ++ (codes "\nchosen " ++ (chosen ++ (codes "\nnothing " ++ (nothing ++ (codes "\nkeys " ++ (keys ++
    (codes "\ndatagrams " ++ (datagrams ++ (codes "\nshown " ++ (shown ++ codes "\n")))))))))))

abbrev pub summary_text : Summary → List ℕ
summary_text s = six_lines (decimal s.pictures) (decimal s.chosen) (decimal s.nothing) (decimal s.keys) (decimal s.datagrams) (decimal s.shown)

-- what a run of both ends counted
abbrev pub counts_of : Shows → Summary
counts_of (shows.Loop summary) = summary

-- the line of an input that isn't in the grammar, by the digits of the place and the word of the fault
abbrev pub bad_input : List ℕ → List ℕ → List ℕ → List ℕ
bad_input name place why = codes "bad input " ++ (name ++ (codes " at byte " ++ (place ++ (codes ": " ++ (why ++ codes "\n")))))

-- the line of a script that has a bad line, by its digits
abbrev pub bad_script : List ℕ → List ℕ
bad_script line = about (codes "bad script at line ") line

-- the text of a status, of the words after the program's name
abbrev pub text_of : List (List ℕ) → Status → List ℕ
text_of words (status.Ok shows) = summary_text (counts_of shows)
text_of words status.Usage = codes "usage: salsify loop, send, receive, check or generate\n"
text_of words (status.BadInput named place why) = bad_input (name_of words named) (decimal place) (word_of why)
text_of words (status.BadScript line) = bad_script (decimal line)
text_of words (status.ReadFault named) = about (codes "read fault ") (name_of words named)
text_of words (status.WriteFault named) = about (codes "write fault ") (name_of words named)
text_of words (status.OpenFault named) = about (codes "open fault ") (name_of words named)
text_of words status.TooLong = codes "too long\n"
text_of words status.TooMany = codes "too many\n"
text_of words status.Memory = codes "no memory\n"
