-- What the top call answers for `loop`, with the cause of each status and what OUT then holds.
use Rattle.std.specs.Prelude.{◌≡◌, ◌⊎◌, ℕ, List, [], ◌∷◌, ◌++◌, Option, Some, Result, Ok, Err, codes}
use Rattle.std.specs.List.{AllByRecursion}
use Rattle.sal_io.specs.Past.{Past}
use Rattle.sal_io.specs.Past.Past.{In, Out}
use Rattle.sal_io.specs.Calls.{Rose}
use Rattle.sal_status.specs.declared.status.Named.{Named}
use Rattle.sal_status.specs.declared.status.Named.TheVariants.{Word}
use Rattle.sal_status.specs.declared.status.Status.{Status}
use Rattle.sal_status.specs.declared.status.Status.TheVariants as status
use Rattle.sal_status.specs.declared.status.Shows.TheVariants.{Loop}
use Rattle.sal_run.specs.declared.end.Summary.{Summary}
use Rattle.sal_app.specs.declared.stop.Stop.{Stop}
use Rattle.sal_app.specs.declared.stop.Stop.TheVariants as stop
use Rattle.sal_io.specs.declared.answers.ShelfFault.{ShelfFault}
use Rattle.sal_io.specs.declared.answers.ShelfFault.TheVariants as shelf
use Rattle.sal_codec.specs.Plain.{plain}
use Rattle.sal_y4m.specs.declared.head.Head.{Head}
use Rattle.sal_y4m.specs.declared.fault.Why.{Why}
use Rattle.sal_y4m.specs.Grammar.{header_at}
use Rattle.sal_y4m.specs.Answers.{IsAt}
use Rattle.sal_script.specs.Numbered.{Numbered}
use Rattle.sal_script.specs.Script.{script_of}
use Rattle.sal_run.specs.Clip.{End, Done, BadInput, BadScript, TooMany, TooLong}
use Rattle.sal_run.specs.Loop.{loop_end}
use Rattle.sal_run.specs.Ends.{KeepsPromises, LeavesNothing}
use Rattle.sal_app.specs.Stops.{IsNothing}
use Rattle.sal_app.specs.Ends.{Told, Ends, EndsBad, EndsWell, SoFarOrNot, UpToNextOrNot, CutOff}

-- what is known of IN, SCRIPT and OUT as they were shut: what the sources had left, what the sink holds, and the counts
-- of faults
pub record Files : Type 0 where
  pub input_left : Option (List ℕ)
  pub input_faults : ℕ
  pub script_left : Option (List ℕ)
  pub script_faults : ℕ
  pub held : Option (List ℕ)
  pub out_faults : ℕ

module _ (input script output : List ℕ) (holds : List ℕ → Option (List ℕ)) (before after : List Past) where
  -- all three were opened, and shut in this order
  abbrev pub Shut : Files → Type 0
  Shut f = after ≡ ((before ++ In input (holds input) f.input_left f.input_faults ∷ []) ++ In script (holds script) f.script_left f.script_faults ∷ []) ++ Out output f.held f.out_faults ∷ []

  -- of the bytes of IN, SCRIPT and OUT, where the shelf tells what it has under the first two names and OUT what it holds
  abbrev pub Of : Files → (List ℕ → List ℕ → List ℕ → Type 0) → Type 0
  Of f P = Told (holds input) (holds script) f.held P

  -- the run ended so, and OUT holds what it then holds
  abbrev pub EndedWith : Files → End → Type 0
  EndedWith f end = Ends plain end (holds input) (holds script) f.held

  -- the same, and all were opened and shut
  abbrev pub Ended : End → Type 0
  Ended end = (f : Files) × Shut f × EndedWith f end

  -- none was opened; or IN alone, from which nothing was read; or IN and SCRIPT
  abbrev pub ShutNone : Type 0
  ShutNone = after ≡ before

  abbrev pub ShutInput : Type 0
  ShutInput = after ≡ before ++ In input (holds input) (holds input) 0 ∷ []

  abbrev pub ShutBoth : Type 0
  ShutBoth = after ≡ (before ++ In input (holds input) (holds input) 0 ∷ []) ++ In script (holds script) (holds script) 0 ∷ []

  -- the first word, in the order of opening, whose object isn't among those opened and shut
  abbrev pub FirstUnopened : Named → Type 0
  FirstUnopened name = ((name ≡ Word 1) × ShutNone) ⊎ (((name ≡ Word 2) × ShutInput) ⊎ ((name ≡ Word 3) × ShutBoth))

  -- each status with its cause; the counts of the shelf were these before and after
  abbrev pub LoopAnswers : ℕ → ℕ → Status → Type 0
  -- all lines were run, and IN and SCRIPT were read to their ends
  LoopAnswers faults faults' (status.Ok (Loop summary)) =
      (f : Files) × Shut f × EndsWell plain summary (holds input) (holds script) f.held × IsNothing f.input_left × IsNothing f.script_left
  LoopAnswers faults faults' status.Usage = ⊥
  LoopAnswers faults faults' (status.BadInput name place why) = (name ≡ Word 1) × ((f : Files) × (Shut f × EndsBad plain place why (holds input) (holds script) f.held))
  LoopAnswers faults faults' (status.BadScript line) = Ended (BadScript line)
  LoopAnswers faults faults' status.TooLong = Ended TooLong
  LoopAnswers faults faults' status.TooMany = Ended TooMany
  -- the count of that source rose from 0; OUT holds nothing, where the header of IN wasn't read, or what events make it hold after
  -- which a picture is started next, those of the lines up to a `rest`, or all
  LoopAnswers faults faults' (status.ReadFault name) =
      (f : Files) × Shut f × (((name ≡ Word 1) × Rose 0 f.input_faults × Of f (UpToNextOrNot plain f.input_left)) ⊎ ((name ≡ Word 2) × Rose 0 f.script_faults × IsNothing f.held))
  -- the count of OUT rose from 0, and it holds a front of what some events make it hold
  LoopAnswers faults faults' (status.WriteFault name) = (f : Files) × Shut f × (name ≡ Word 3) × Rose 0 f.out_faults × Of f (CutOff plain)
  LoopAnswers faults faults' (status.OpenFault name) = Rose faults faults' × FirstUnopened name
  -- what was opened was shut, and OUT holds what the events before make it hold, or nothing
  LoopAnswers faults faults' status.Memory = ShutNone ⊎ (ShutInput ⊎ (ShutBoth ⊎ ((f : Files) × Shut f × Of f (SoFarOrNot plain))))

-- what the end of a run is as a status
abbrev pub StatusOf : Result Summary Stop → Status → Type 0
StatusOf (Ok summary) s = s ≡ status.Ok (Loop summary)
StatusOf (Err (stop.BadInput place why)) s = s ≡ status.BadInput (Word 1) place why
StatusOf (Err (stop.BadScript line)) s = s ≡ status.BadScript line
StatusOf (Err stop.InputFault) s = s ≡ status.ReadFault (Word 1)
StatusOf (Err stop.ScriptFault) s = s ≡ status.ReadFault (Word 2)
StatusOf (Err stop.WriteFault) s = s ≡ status.WriteFault (Word 3)
StatusOf (Err stop.TooLong) s = s ≡ status.TooLong
StatusOf (Err stop.TooMany) s = s ≡ status.TooMany
StatusOf (Err stop.Memory) s = s ≡ status.Memory

-- what a file that wasn't opened is as a status
abbrev pub Unopened : ShelfFault → Named → Status → Type 0
Unopened shelf.Failed name s = s ≡ status.OpenFault name
Unopened shelf.Memory name s = s ≡ status.Memory

-- `loop` and three names
abbrev pub IsLoop : List (List ℕ) → (List ℕ → List ℕ → List ℕ → Type 0) → Type 0
IsLoop (command ∷ input ∷ script ∷ output ∷ []) P = (command ≡ codes "loop") × P input script output
IsLoop words P = ⊥

-- what the top call answers: Usage exactly where the words aren't `loop` and three names, with all as it was; else the
-- answers of `loop`
abbrev pub Answers : List (List ℕ) → (List ℕ → Option (List ℕ)) → List Past → List Past → ℕ → ℕ → Status → Type 0
Answers words holds before after faults faults' s =
    IsLoop words (λ input script output. LoopAnswers input script output holds before after faults faults' s)
    ⊎ ((IsLoop words (λ input script output. Unit {0}) → ⊥) × (s ≡ status.Usage) × (after ≡ before) × (faults' ≡ faults))

-- how a run over the bytes of IN ends as a status
abbrev pub IsStatusOf : List ℕ → End → Status → Type 0
IsStatusOf i Done s = (summary : Summary) × (s ≡ status.Ok (Loop summary))
IsStatusOf i (BadInput flaw) s = (place : ℕ) × ((why : Why) × ((s ≡ status.BadInput (Word 1) place why) × IsAt 0 i flaw place why))
IsStatusOf i (BadScript line) s = s ≡ status.BadScript line
IsStatusOf i TooLong s = s ≡ status.TooLong
IsStatusOf i TooMany s = s ≡ status.TooMany

abbrev pub faults_of : Past → ℕ
faults_of (In name had left faults) = faults
faults_of (Out name held faults) = faults

-- the counts of the shelf and of all that was opened stood still
pub record IsQuiet (before after : List Past) (faults faults' : ℕ) : Type 0 where
  pub shelf_quiet : Rose faults faults' → ⊥
  pub files_quiet : (news : List Past) → after ≡ before ++ news → AllByRecursion (λ past. faults_of past ≡ 0) news

-- completeness: where the words are `loop` and three names, the shelf tells what it has under the first two, and no
-- count rose, the answer is how the run ends, or Memory
abbrev pub IsComplete : List (List ℕ) → (List ℕ → Option (List ℕ)) → List Past → List Past → ℕ → ℕ → ℕ → ℕ → Status → Type 0
IsComplete words holds before after faults faults' screen screen' s =
    (i o : List ℕ) → IsLoop words (λ input script output. (holds input ≡ Some i) × (holds script ≡ Some o)) → IsQuiet before after faults faults' → (Rose screen screen' → ⊥)
    → IsStatusOf i (loop_end plain i o) s ⊎ (s ≡ status.Memory)

-- where the words are `loop` and three names and the shelf tells what it has under the first two: the run of these lines over
-- the pictures after this header keeps all promises of both ends, after any of its events, and leaves nothing that is ready
abbrev pub Promises : List (List ℕ) → (List ℕ → Option (List ℕ)) → Type 0
Promises words holds =
    (i s : List ℕ) → IsLoop words (λ input script output. (holds input ≡ Some i) × (holds script ≡ Some s))
    → (head : Head) (lines : List Numbered) (body : List ℕ) → header_at i ≡ Some (head, body) → script_of s ≡ Ok lines → KeepsPromises plain head lines body × LeavesNothing plain head lines body
