-- What a whole run gives, from what reading its script, its header and its lines gave.
use Rattle.std.proofs.Common.{◌≡◌, ℕ, inl, inr, true, false, List, [], Option, Some, None, IfSome, sym, ap, ◌∙◌, subst}
use Rattle.std.specs.Prelude.{Bool, Result, Ok, Err, ◌⊎◌}
use Rattle.sal_codec.specs.Coding.{Coding}
use Rattle.sal_io.specs.Told.{ReadsAs}
use Rattle.sal_y4m.specs.declared.head.Head.{Head}
use Rattle.sal_y4m.specs.declared.fault.Why.{Why}
use Rattle.sal_y4m.specs.declared.fault.Flaw.{Flaw}
use Rattle.sal_y4m.specs.declared.fault.Why.TheVariants.{Missing}
use Rattle.sal_y4m.specs.Grammar.{header_at, header_flaw}
use Rattle.sal_y4m.specs.Answers.{HeaderUnread, Counts, IsAt, IsBad}
use Rattle.sal_script.specs.Numbered.{Numbered}
use Rattle.sal_script.specs.Script.{script_of}
use Rattle.sal_world.specs.declared.diary.DiaryFault.{DiaryFault}
use Rattle.sal_run.specs.declared.end.Summary.{Summary}
use Rattle.sal_run.specs.Summary.{summary_of}
use Rattle.sal_run.specs.declared.end.RunEnd.{RunEnd}
use Rattle.sal_run.specs.declared.end.RunEnd.TheVariants as run
use Rattle.sal_run.specs.declared.end.Which.TheVariants.{Out, Journal, Pictures, Script}
use Rattle.sal_run.specs.Clip.{End, Done, BadInput, BadScript, TooMany, TooLong}
use Rattle.sal_run.specs.Loop.{out_text, clip_run, input_end, input_out, script_end, script_out, loop_end, loop_out}
use Rattle.sal_run.specs.Ends.{UpToNext, Cut, PartlyOrNot}
use Rattle.sal_run.specs.Ends.{Ends as LinesEnd, RunGives as LinesGave, AtEnd as LinesAtEnd}
use Rattle.sal_app.specs.declared.stop.Stop.{Stop}
use Rattle.sal_app.specs.declared.stop.Stop.TheVariants as stop
use Rattle.sal_app.specs.Stops.{of_run, IsNothing, LinesGive, HeadGives}
use Rattle.sal_run.proofs.Places.{carries_on}
use Rattle.sal_app.specs.Ends.{OfRun, Told, Ends, EndsBad, SoFarOrNot, UpToNextOrNot, RunGives, AtEnd}

-- ---- where all is told

loop_is : {S : Type 0} (codec : Coding S) (i s body : List ℕ) (head : Head) (lines : List Numbered) → header_at i ≡ Some (head, body) → script_of s ≡ Ok lines → loop_end codec i s ≡ (clip_run codec head body lines).1
unfolding loop_end
loop_is codec i s body head lines p q = ap (script_end codec i) q ∙ ap (λ (h : Option (Head × List ℕ)). input_end codec i h lines) p

out_is : {S : Type 0} (codec : Coding S) (i s body : List ℕ) (head : Head) (lines : List Numbered) → header_at i ≡ Some (head, body) → script_of s ≡ Ok lines → loop_out codec i s ≡ out_text head (clip_run codec head body lines).0.world
unfolding loop_out
out_is codec i s body head lines p q = ap (script_out codec i) q ∙ ap (λ (h : Option (Head × List ℕ)). input_out codec h lines) p

held_is : (out : Option (List ℕ)) (a b : List ℕ) → b ≡ a → IfSome out (λ o. o ≡ a) → IfSome out (λ o. o ≡ b)
held_is None a b e is = tt
held_is (Some o) a b e is = is ∙ sym e

-- the lines over the pictures ended so
with_lines : {S : Type 0} (codec : Coding S) (end : End) (head : Head) (lines : List Numbered) (i i' s o : Option (List ℕ)) → ReadsAs header_at i i' head → IfSome s (λ s. script_of s ≡ Ok lines)
    → IfSome i' (λ body. LinesEnd codec head lines end body o) → Ends codec end i s o
with_lines codec end head lines None i' s o p q ends = tt
with_lines codec end head lines (Some i) None s o p q ends = absurd p
with_lines codec end head lines (Some i) (Some body) None o p q ends = tt
with_lines codec end head lines (Some i) (Some body) (Some s) o p q ends =
    (loop_is codec i s body head lines p q ∙ ends.0, held_is o _ _ (out_is codec i s body head lines p q) ends.1)

-- this holds of the bytes after the header and of what OUT holds
abbrev pub Both : Option (List ℕ) → Option (List ℕ) → (List ℕ → List ℕ → Type 0) → Type 0
Both input out P = IfSome input (λ i. IfSome out (P i))

with_told : (P : Head → List Numbered → List ℕ → List ℕ → Type 0) (head : Head) (lines : List Numbered) (i i' s o : Option (List ℕ)) → ReadsAs header_at i i' head → IfSome s (λ s. script_of s ≡ Ok lines)
    → Both i' o (P head lines) → Told i s o (λ i s o. OfRun (λ head lines body. P head lines body o) i s)
with_told P head lines i i' s None p q told = tt
with_told P head lines None i' s (Some o) p q told = tt
with_told P head lines (Some i) None s (Some o) p q told = absurd p
with_told P head lines (Some i) (Some body) None (Some o) p q told = tt
with_told P head lines (Some i) (Some body) (Some s) (Some o) p q told = (head, (lines, (body, p, q, told)))

abbrev pub OrNothing : (List ℕ → List ℕ → List ℕ → Type 0) → List ℕ → List ℕ → List ℕ → Type 0
OrNothing P i s o = (o ≡ []) ⊎ P i s o

-- the header was read, and OUT holds what events make it hold
header_read : {S : Type 0} (codec : Coding S) (left i s o : Option (List ℕ)) → Told i s o (λ i s o. OfRun (λ head lines body. UpToNext codec head lines body o) i s) → Told i s o (UpToNextOrNot codec left)
header_read codec left i s None told = tt
header_read codec left None s (Some o) told = tt
header_read codec left (Some i) None (Some o) told = tt
header_read codec left (Some i) (Some s) (Some o) told = inr told

-- the header wasn't read
header_unread : {S : Type 0} (codec : Coding S) (left i s o : Option (List ℕ)) → IsNothing o → HeaderUnread i left → Told i s o (UpToNextOrNot codec left)
header_unread codec left i s None none unread = tt
header_unread codec left None s (Some o) none unread = tt
header_unread codec left (Some i) None (Some o) none unread = tt
header_unread codec left (Some i) (Some s) (Some o) none unread = inl (none, unread)

nothing : (P : List ℕ → List ℕ → List ℕ → Type 0) (i s o : Option (List ℕ)) → IsNothing o → Told i s o (OrNothing P)
nothing P i s None none = tt
nothing P None s (Some o) none = tt
nothing P (Some i) None (Some o) none = tt
nothing P (Some i) (Some s) (Some o) none = inl none

-- OUT holds nothing, or what some events make it hold
partly_or_not : {S : Type 0} (codec : Coding S) (head : Head) (lines : List Numbered) (i i' s o : Option (List ℕ)) → ReadsAs header_at i i' head → IfSome s (λ s. script_of s ≡ Ok lines)
    → Both i' o (PartlyOrNot codec head lines) → Told i s o (SoFarOrNot codec)
partly_or_not codec head lines i i' s None p q told = tt
partly_or_not codec head lines None i' s (Some o) p q told = tt
partly_or_not codec head lines (Some i) None s (Some o) p q told = absurd p
partly_or_not codec head lines (Some i) (Some body) None (Some o) p q told = tt
partly_or_not codec head lines (Some i) (Some body) (Some s) (Some o) p q (inl none) = inl none
partly_or_not codec head lines (Some i) (Some body) (Some s) (Some o) p q (inr part) = inr (head, (lines, (body, p, q, part)))

-- ---- the run

abbrev none_left : Flaw
none_left = record { left = 0; why = Missing }

-- a diary that gives no fault
abbrev pub none_given : DiaryFault → Bool
none_given fault = false

well_ended : {S : Type 0} (codec : Coding S) (head : Head) (lines : List Numbered) (before : ℕ) (summary : Summary) (i o : Option (List ℕ)) → LinesGave codec head lines none_given before (run.Ok summary) i o → IfSome i (λ body. LinesEnd codec head lines Done body o)
well_ended codec head lines before summary None o gave = tt
well_ended codec head lines before summary (Some i) o gave = gave.0

counted_of : {S : Type 0} (codec : Coding S) (head : Head) (lines : List Numbered) (before : ℕ) (summary : Summary) (i i' s o : Option (List ℕ)) → ReadsAs header_at i i' head → IfSome s (λ s. script_of s ≡ Ok lines) → LinesGave codec head lines none_given before (run.Ok summary) i' o
    → IfSome i (λ i. IfSome s (OfRun (λ head lines body. summary ≡ summary_of (clip_run codec head body lines).0.world) i))
counted_of codec head lines before summary None i' s o p q gave = tt
counted_of codec head lines before summary (Some i) None s o p q gave = absurd p
counted_of codec head lines before summary (Some i) (Some body) None o p q gave = tt
counted_of codec head lines before summary (Some i) (Some body) (Some s) o p q gave = (head, (lines, (body, p, q, gave.1)))

-- a flaw of the pictures, where it stands in the whole of IN
bad_lines : {S : Type 0} (codec : Coding S) (head : Head) (lines : List Numbered) (before place : ℕ) (why : Why) (i i' s o : Option (List ℕ)) → Counts 0 before i i' → ReadsAs header_at i i' head → IfSome s (λ s. script_of s ≡ Ok lines)
    → LinesGave codec head lines none_given before (run.BadInput place why) i' o → EndsBad codec place why i s o
bad_lines codec head lines before place why None i' s o c p q gave = (none_left, (tt, tt))
bad_lines codec head lines before place why (Some i) None s o c p q gave = absurd p
bad_lines codec head lines before place why (Some i) (Some body) s o c p q gave =
    (gave.0, (with_lines codec (BadInput gave.0) head lines (Some i) (Some body) s o p q gave.1.0, (carries_on 0 before (Some i) (Some body) c gave.0 place why gave.1.1).1))

run_gives : {S : Type 0} (codec : Coding S) (end : RunEnd) (head : Head) (lines : List Numbered) (before : ℕ) (i i' left s o : Option (List ℕ)) → Counts 0 before i i' → ReadsAs header_at i i' head → IfSome s (λ s. script_of s ≡ Ok lines)
    → LinesGave codec head lines none_given before end i' o → RunGives codec (of_run end) i left s o
run_gives codec (run.Ok summary) head lines before i i' left s o c p q gave =
    (with_lines codec Done head lines i i' s o p q (well_ended codec head lines before summary i' o gave), counted_of codec head lines before summary i i' s o p q gave)
run_gives codec (run.BadInput place why) head lines before i i' left s o c p q gave = bad_lines codec head lines before place why i i' s o c p q gave
run_gives codec (run.BadScript line) head lines before i i' left s o c p q gave = with_lines codec (BadScript line) head lines i i' s o p q gave
run_gives codec run.TooMany head lines before i i' left s o c p q gave = with_lines codec TooMany head lines i i' s o p q gave
run_gives codec run.TooLong head lines before i i' left s o c p q (inl gave) = with_lines codec TooLong head lines i i' s o p q gave
run_gives codec run.TooLong head lines before i i' left s o c p q (inr failed) = let never : false ≡ true = failed.0 in absurd cc
run_gives codec run.ReadFault head lines before i i' left s o c p q gave = header_read codec left i s o (with_told (UpToNext codec) head lines i i' s o p q gave)
run_gives codec (run.WriteFault Out) head lines before i i' left s o c p q gave = with_told (Cut codec) head lines i i' s o p q gave
run_gives codec (run.WriteFault Journal) head lines before i i' left s o c p q gave = let never : false ≡ true = gave.0 in absurd cc
run_gives codec (run.WriteFault Pictures) head lines before i i' left s o c p q gave = absurd gave
run_gives codec (run.WriteFault Script) head lines before i i' left s o c p q gave = absurd gave
run_gives codec run.Memory head lines before i i' left s o c p q gave = partly_or_not codec head lines i i' s o p q gave

-- the lines were run
pub ran : {S : Type 0} (codec : Coding S) (end : RunEnd) (r : Result Summary Stop) (head : Head) (lines : List Numbered) (before : ℕ) (i i' left s s' o : Option (List ℕ)) → r ≡ of_run end → Counts 0 before i i'
    → HeadGives 0 i i' head (Ok tt) → LinesGive s s' (Ok lines) → LinesGave codec head lines none_given before end i' o → RunGives codec r i left s o
ran codec end r head lines before i i' left s s' o e c p q gave = subst (λ x. RunGives codec x i left s o) (sym e) (run_gives codec end head lines before i i' left s o c p q.0 gave)

run_at_end : (end : RunEnd) (left : Option (List ℕ)) → LinesAtEnd end left → AtEnd (of_run end) left
run_at_end (run.Ok summary) left at_end = at_end
run_at_end (run.BadInput place why) left at_end = tt
run_at_end (run.BadScript line) left at_end = tt
run_at_end run.TooMany left at_end = tt
run_at_end run.TooLong left at_end = tt
run_at_end run.ReadFault left at_end = tt
run_at_end (run.WriteFault which) left at_end = tt
run_at_end run.Memory left at_end = tt

pub ran_to_end : (end : RunEnd) (r : Result Summary Stop) (left : Option (List ℕ)) → r ≡ of_run end → LinesAtEnd end left → AtEnd r left
ran_to_end end r left e at_end = subst (λ x. AtEnd x left) (sym e) (run_at_end end left at_end)

-- the script was read to its end, however the run ends
pub script_to_end : (r : Result Summary Stop) (lines : List Numbered) (s s' : Option (List ℕ)) → LinesGive s s' (Ok lines) → AtEnd r s'
script_to_end (Ok x) lines s s' q = q.1
script_to_end (Err why) lines s s' q = tt

-- ---- the script and the header

no_script : {S : Type 0} (codec : Coding S) (i s : List ℕ) (n : ℕ) → script_of s ≡ Err n → (loop_end codec i s ≡ BadScript n) × (loop_out codec i s ≡ [])
unfolding loop_end loop_out
no_script codec i s n q = (ap (script_end codec i) q, ap (script_out codec i) q)

bad_script : {S : Type 0} (codec : Coding S) (n : ℕ) (i s o : Option (List ℕ)) → IsNothing o → IfSome s (λ s. script_of s ≡ Err n) → Ends codec (BadScript n) i s o
bad_script codec n None s o none q = tt
bad_script codec n (Some i) None o none q = tt
bad_script codec n (Some i) (Some s) o none q = let is = no_script codec i s n q in (is.0, held_is o [] _ is.1 none)

-- the script wasn't read, or isn't one
pub script_stops : {S : Type 0} (codec : Coding S) (why : Stop) (i left s s' o : Option (List ℕ)) → IsNothing o → LinesGive s s' (Err why) → RunGives codec (Err why) i left s o
script_stops codec (stop.BadScript n) i left s s' o none q = bad_script codec n i s o none q
script_stops codec stop.ScriptFault i left s s' o none q = none
script_stops codec stop.Memory i left s s' o none q = nothing _ i s o none
script_stops codec (stop.BadInput place why) i left s s' o none q = absurd q
script_stops codec stop.InputFault i left s s' o none q = absurd q
script_stops codec stop.WriteFault i left s s' o none q = absurd q
script_stops codec stop.TooLong i left s s' o none q = absurd q
script_stops codec stop.TooMany i left s s' o none q = absurd q

no_header : {S : Type 0} (codec : Coding S) (i s : List ℕ) (lines : List Numbered) → header_at i ≡ None → script_of s ≡ Ok lines → (loop_end codec i s ≡ BadInput (header_flaw i)) × (loop_out codec i s ≡ [])
unfolding loop_end loop_out
no_header codec i s lines p q =
    (ap (script_end codec i) q ∙ ap (λ (h : Option (Head × List ℕ)). input_end codec i h lines) p, ap (script_out codec i) q ∙ ap (λ (h : Option (Head × List ℕ)). input_out codec h lines) p)

bad_header : {S : Type 0} (codec : Coding S) (place : ℕ) (why : Why) (lines : List Numbered) (i s o : Option (List ℕ)) → IsNothing o → IsBad header_at header_flaw 0 i place why
    → IfSome s (λ s. script_of s ≡ Ok lines) → EndsBad codec place why i s o
bad_header codec place why lines None s o none p q = (none_left, (tt, tt))
bad_header codec place why lines (Some i) None o none p q = (header_flaw i, (tt, p.1))
bad_header codec place why lines (Some i) (Some s) o none p q =
    let is = no_header codec i s lines p.0 q in
    (header_flaw i, ((is.0, held_is o [] _ is.1 none), p.1))

-- the header wasn't read, or isn't one
pub head_stops : {S : Type 0} (codec : Coding S) (why : Stop) (head : Head) (lines : List Numbered) (i i' s s' o : Option (List ℕ)) → IsNothing o → HeadGives 0 i i' head (Err why) → LinesGive s s' (Ok lines) → RunGives codec (Err why) i i' s o
head_stops codec (stop.BadInput place why) head lines i i' s s' o none p q = bad_header codec place why lines i s o none p q.0
head_stops codec stop.InputFault head lines i i' s s' o none p q = header_unread codec i' i s o none p
head_stops codec (stop.BadScript n) head lines i i' s s' o none p q = absurd p
head_stops codec stop.ScriptFault head lines i i' s s' o none p q = absurd p
head_stops codec stop.WriteFault head lines i i' s s' o none p q = absurd p
head_stops codec stop.TooLong head lines i i' s s' o none p q = absurd p
head_stops codec stop.TooMany head lines i i' s s' o none p q = absurd p
head_stops codec stop.Memory head lines i i' s s' o none p q = absurd p
