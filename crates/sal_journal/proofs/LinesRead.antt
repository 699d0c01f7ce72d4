-- The lines of a journal, one after the other.
use Rattle.std.proofs.Common.{◌≡◌, ℕ, ◌+◌, ◌<◌, ◌≤◌, true, false, if◌then◌else◌, List, [], ◌∷◌, ◌++◌, length, Some, None, Result, Ok, Err, codes, bytes_eq, ◌==◌, refl, sym, ap, ◌∙◌, subst, arith, append_assoc, append-nil}
use Rattle.std.proofs.lemmas.List.Splits.{join_with_byte-slice_split}
use Rattle.sal_y4m.specs.declared.head.Head.{Head as HeadData}
use Rattle.sal_journal.specs.declared.event.JournalEvent.{JournalEvent}
use Rattle.sal_journal.specs.declared.fault.JournalFault.{JournalFault}
use Rattle.sal_journal.specs.declared.fault.JournalFault.TheVariants.{Bad, ReadFault, TooLong, Memory}
use Rattle.sal_journal.specs.Parsing.{event_of}
use Rattle.sal_journal.specs.Reading.{lines_in, with_event, one_event, events_in, head_of, with_head, Told, told_by, journal_of}
use Rattle.sal_journal.specs.Answers.{Answers}
use Rattle.sal_journal.proofs.WordLemmas.{some_part}

-- the line before others
line_before : (number : ℕ) (line after : List ℕ) → events_in number (line ∷ lines_in after) ≡ (if bytes_eq line (codes "end") then (if length after == 0 then Ok [] else Err (number + 1)) else one_event number (event_of line) (events_in (number + 1) (lines_in after)))
line_before number line after = rw (some_part 10 after, join_with_byte-slice_split 10 after) refl

pub unended : (text line : List ℕ) (number : ℕ) → lines_in text ≡ line ∷ [] → events_in number (lines_in text) ≡ Err number
unended text line number is = ap (λ (ls : List (List ℕ)). events_in number ls) is

pub last_end : (text line after : List ℕ) (number : ℕ) → lines_in text ≡ line ∷ lines_in after → bytes_eq line (codes "end") ≡ true → (length after == 0) ≡ true → events_in number (lines_in text) ≡ Ok []
last_end text line after number is is_end none = ap (λ (ls : List (List ℕ)). events_in number ls) is ∙ line_before number line after ∙ rw (is_end, none) refl

pub early_end : (text line after : List ℕ) (number : ℕ) → lines_in text ≡ line ∷ lines_in after → bytes_eq line (codes "end") ≡ true → (length after == 0) ≡ false → events_in number (lines_in text) ≡ Err (number + 1)
early_end text line after number is is_end some = ap (λ (ls : List (List ℕ)). events_in number ls) is ∙ line_before number line after ∙ rw (is_end, some) refl

pub says_none : (text line after : List ℕ) (number : ℕ) → lines_in text ≡ line ∷ lines_in after → bytes_eq line (codes "end") ≡ false → None ≡ event_of line → events_in number (lines_in text) ≡ Err number
says_none text line after number is other says = ap (λ (ls : List (List ℕ)). events_in number ls) is ∙ line_before number line after ∙ rw (other, sym says) refl

pub says_some : (text line after : List ℕ) (event : JournalEvent) (number : ℕ) → lines_in text ≡ line ∷ lines_in after → bytes_eq line (codes "end") ≡ false → Some event ≡ event_of line → events_in number (lines_in text) ≡ with_event event (events_in (number + 1) (lines_in after))
says_some text line after event number is other says = ap (λ (ls : List (List ℕ)). events_in number ls) is ∙ line_before number line after ∙ rw (other, sym says) refl

-- ---- all lines

abbrev pub events_onto : List JournalEvent → Result (List JournalEvent) ℕ → Result (List JournalEvent) ℕ
events_onto before (Ok more) = Ok (before ++ more)
events_onto before (Err line) = Err line

onto_none : (r : Result (List JournalEvent) ℕ) → r ≡ events_onto [] r
onto_none (Ok more) = refl
onto_none (Err line) = refl

onto_one : (before : List JournalEvent) (event : JournalEvent) (r : Result (List JournalEvent) ℕ) → events_onto before (with_event event r) ≡ events_onto (before ++ event ∷ []) r
onto_one before event (Ok more) = ap (λ (es : List JournalEvent). Ok es) (sym (append_assoc before (event ∷ []) more))
onto_one before event (Err line) = refl

-- what was read so far, with what is left, is all
pub record Onward (text : List ℕ) (events : List JournalEvent) (number : ℕ) (rest : List ℕ) : Type 0 where
  pub kept : events_in 2 (lines_in text) ≡ events_onto events (events_in number (lines_in rest))
  pub counted : number + length rest ≤ length text + 2

pub onward_first : (text : List ℕ) (events : List JournalEvent) → events ≡ [] → Onward text events 2 text
onward_first text events none = record { kept = onto_none (events_in 2 (lines_in text)) ∙ ap (λ (es : List JournalEvent). events_onto es (events_in 2 (lines_in text))) (sym none); counted = omega arith }

pub onward_next : (text : List ℕ) (events now : List JournalEvent) (event : JournalEvent) (number : ℕ) (rest after : List ℕ) → Onward text events number rest
    → ((n : ℕ) → events_in n (lines_in rest) ≡ with_event event (events_in (n + 1) (lines_in after))) → length after < length rest → now ≡ events ++ event ∷ [] → Onward text now (number + 1) after
onward_next text events now event number rest after h step shorter is = record {
  kept =
      h.kept ∙ ap (λ (r : Result (List JournalEvent) ℕ). events_onto events r) (step number) ∙ onto_one events event (events_in (number + 1) (lines_in after))
      ∙ ap (λ (es : List JournalEvent). events_onto es (events_in (number + 1) (lines_in after))) (sym is);
  counted = omega (arith, h.counted, shorter);
}

pub onward_end : (text : List ℕ) (events : List JournalEvent) (number : ℕ) (rest : List ℕ) → Onward text events number rest → ((n : ℕ) → events_in n (lines_in rest) ≡ Ok []) → events_in 2 (lines_in text) ≡ Ok events
onward_end text events number rest h step = h.kept ∙ ap (λ (r : Result (List JournalEvent) ℕ). events_onto events r) (step number) ∙ ap (λ (es : List JournalEvent). Ok es) (append-nil events)

pub onward_bad : (text : List ℕ) (events : List JournalEvent) (number line : ℕ) (rest : List ℕ) → Onward text events number rest → events_in number (lines_in rest) ≡ Err line → events_in 2 (lines_in text) ≡ Err line
onward_bad text events number line rest h bad = h.kept ∙ ap (λ (r : Result (List JournalEvent) ℕ). events_onto events r) bad

-- ---- the whole

pub unheaded : (text line : List ℕ) → lines_in text ≡ line ∷ [] → journal_of text ≡ Err 1
unheaded text line is = ap told_by is

told_before : (line after : List ℕ) → told_by (line ∷ lines_in after) ≡ with_head (head_of line) (events_in 2 (lines_in after))
told_before line after = rw (some_part 10 after) refl

pub no_head : (text line after : List ℕ) → lines_in text ≡ line ∷ lines_in after → None ≡ head_of line → journal_of text ≡ Err 1
no_head text line after is says = ap told_by is ∙ told_before line after ∙ rw (sym says) refl

pub behind_head : (text line after : List ℕ) (head : HeadData) (r : Result (List JournalEvent) ℕ) → lines_in text ≡ line ∷ lines_in after → Some head ≡ head_of line → events_in 2 (lines_in after) ≡ r → journal_of text ≡ with_head (Some head) r
behind_head text line after head r is says more = ap told_by is ∙ told_before line after ∙ rw (sym says, more) refl

pub faults_behind : (said : Result (List JournalEvent) ℕ) (head : HeadData) (fault : JournalFault) → Answers said (Err fault) → Answers (with_head (Some head) said) (Err fault)
faults_behind said head (Bad line) h = rw h refl
faults_behind said head ReadFault h = h
faults_behind said head TooLong h = h
faults_behind said head Memory h = tt

pub faults_of : (text line after : List ℕ) (head : HeadData) (fault : JournalFault) → lines_in text ≡ line ∷ lines_in after → Some head ≡ head_of line → Answers (events_in 2 (lines_in after)) (Err fault) → Answers (journal_of text) (Err fault)
faults_of text line after head fault is says h = subst (λ (r : Result Told ℕ). Answers r (Err fault)) (sym (behind_head text line after head (events_in 2 (lines_in after)) is says refl)) (faults_behind (events_in 2 (lines_in after)) head fault h)
