-- What a run of `loop` gives, by how it ends: of the bytes that IN and SCRIPT had, and of those that OUT then holds.
use Rattle.std.specs.Prelude.{◌≡◌, ◌⊎◌, ℕ, List, [], Option, Some, IfSome, Result, Ok, Err}
use Rattle.sal_run.specs.declared.end.Summary.{Summary}
use Rattle.sal_codec.specs.Coding.{Coding}
use Rattle.sal_y4m.specs.declared.head.Head.{Head}
use Rattle.sal_y4m.specs.Grammar.{header_at}
use Rattle.sal_y4m.specs.declared.fault.Flaw.{Flaw}
use Rattle.sal_y4m.specs.declared.fault.Why.{Why}
use Rattle.sal_y4m.specs.Answers.{HeaderUnread, IsAt}
use Rattle.sal_script.specs.Numbered.{Numbered}
use Rattle.sal_script.specs.Script.{script_of}
use Rattle.sal_run.specs.Clip.{End, Done, BadInput, BadScript, TooMany, TooLong}
use Rattle.sal_run.specs.Summary.{summary_of}
use Rattle.sal_run.specs.Loop.{clip_run, loop_end, loop_out}
use Rattle.sal_run.specs.Ends.{Partly, UpToNext, Cut}
use Rattle.sal_app.specs.declared.stop.Stop.{Stop}
use Rattle.sal_app.specs.declared.stop.Stop.TheVariants as stop
use Rattle.sal_app.specs.Stops.{IsNothing}

-- IN begins with a header, SCRIPT says lines, and this holds of the header, the lines and the bytes after the header
abbrev pub OfRun : (Head → List Numbered → List ℕ → Type 0) → List ℕ → List ℕ → Type 0
OfRun P i s =
    (head : Head) × ((lines : List Numbered) × ((body : List ℕ) × (header_at i ≡ Some (head, body)) × (script_of s ≡ Ok lines) × P head lines body))

-- these hold where all three are told
abbrev pub Told : Option (List ℕ) → Option (List ℕ) → Option (List ℕ) → (List ℕ → List ℕ → List ℕ → Type 0) → Type 0
Told input script out P = IfSome out (λ o. IfSome input (λ i. IfSome script (λ s. P i s o)))

module _ {S : Type 0} (codec : Coding S) where
  -- the run ended so, where IN and SCRIPT are told, and OUT, where it is told too, holds what it then holds
  abbrev pub Ends : End → Option (List ℕ) → Option (List ℕ) → Option (List ℕ) → Type 0
  Ends end input script out = IfSome input (λ i. IfSome script (λ s. (loop_end codec i s ≡ end) × IfSome out (λ o. o ≡ loop_out codec i s)))

  -- the run ended at a flaw of IN, of this place and for this reason
  abbrev pub EndsBad : ℕ → Why → Option (List ℕ) → Option (List ℕ) → Option (List ℕ) → Type 0
  EndsBad place why input script out = (flaw : Flaw) × (Ends (BadInput flaw) input script out × IfSome input (λ i. IsAt 0 i flaw place why))

  -- the run ended well, and this is what it counted
  abbrev pub EndsWell : Summary → Option (List ℕ) → Option (List ℕ) → Option (List ℕ) → Type 0
  EndsWell summary input script out =
      Ends Done input script out × IfSome input (λ i. IfSome script (OfRun (λ head lines body. summary ≡ summary_of (clip_run codec head body lines).0.world) i))

  -- OUT holds the header and the pictures shown by the events before, or nothing
  abbrev pub SoFarOrNot : List ℕ → List ℕ → List ℕ → Type 0
  SoFarOrNot i s o = (o ≡ []) ⊎ OfRun (λ head lines body. Partly codec head lines body o) i s

  -- OUT holds nothing, and IN, of which this is left, wasn't read past its header line; or it holds the header and the pictures shown
  -- by events after which a picture is started next, by those of the lines up to a `rest`, or by all
  abbrev pub UpToNextOrNot : Option (List ℕ) → List ℕ → List ℕ → List ℕ → Type 0
  UpToNextOrNot left i s o = ((o ≡ []) × HeaderUnread (Some i) left) ⊎ OfRun (λ head lines body. UpToNext codec head lines body o) i s

  -- OUT holds a front of what some events make it hold
  abbrev pub CutOff : List ℕ → List ℕ → List ℕ → Type 0
  CutOff i s o = OfRun (λ head lines body. Cut codec head lines body o) i s

  -- what a run gives, of what IN had left before and after
  abbrev pub RunGives : Result Summary Stop → Option (List ℕ) → Option (List ℕ) → Option (List ℕ) → Option (List ℕ) → Type 0
  RunGives (Ok summary) i left s o = EndsWell summary i s o
  RunGives (Err (stop.BadInput place why)) i left s o = EndsBad place why i s o
  RunGives (Err (stop.BadScript line)) i left s o = Ends (BadScript line) i s o
  RunGives (Err stop.TooMany) i left s o = Ends TooMany i s o
  RunGives (Err stop.TooLong) i left s o = Ends TooLong i s o
  RunGives (Err stop.InputFault) i left s o = Told i s o (UpToNextOrNot left)
  RunGives (Err stop.ScriptFault) i left s o = IsNothing o
  RunGives (Err stop.WriteFault) i left s o = Told i s o CutOff
  RunGives (Err stop.Memory) i left s o = Told i s o SoFarOrNot

-- what was read is read to its end where all went well
abbrev pub AtEnd : Result Summary Stop → Option (List ℕ) → Type 0
AtEnd (Ok x) left = IsNothing left
AtEnd (Err why) left = Unit {0}
