-- What the parts of a run stop it with.
use Rattle.std.specs.Prelude.{◌≡◌, ℕ, List, [], Option, IfSome, Result, Ok, Err}
use Rattle.sal_io.specs.Told.{ReadsAs}
use Rattle.sal_y4m.specs.declared.head.Head.{Head}
use Rattle.sal_y4m.specs.declared.fault.Y4mFault.{Y4mFault}
use Rattle.sal_y4m.specs.declared.fault.Y4mFault.TheVariants as y4m
use Rattle.sal_y4m.specs.Grammar.{header_at, header_flaw}
use Rattle.sal_y4m.specs.Answers.{HeaderUnread, IsBad}
use Rattle.sal_script.specs.declared.fault.ScriptFault.{ScriptFault}
use Rattle.sal_script.specs.declared.fault.ScriptFault.TheVariants as script
use Rattle.sal_script.specs.Numbered.{Numbered}
use Rattle.sal_script.specs.Script.{script_of}
use Rattle.sal_run.specs.declared.end.Summary.{Summary}
use Rattle.sal_run.specs.declared.end.RunEnd.{RunEnd}
use Rattle.sal_run.specs.declared.end.RunEnd.TheVariants as run
use Rattle.sal_app.specs.declared.stop.Stop.{Stop}
use Rattle.sal_app.specs.declared.stop.Stop.TheVariants as stop

-- why a run stops at a fault of its script, or of its input
abbrev pub of_script : ScriptFault → Stop
of_script (script.Bad line) = stop.BadScript line
of_script script.ReadFault = stop.ScriptFault
of_script script.Memory = stop.Memory

abbrev pub of_input : Y4mFault → Stop
of_input (y4m.Bad place why) = stop.BadInput place why
of_input y4m.ReadFault = stop.InputFault
of_input y4m.Memory = stop.Memory

-- how a run over lines ends, of which nothing is written down
abbrev pub of_run : RunEnd → Result Summary Stop
of_run (run.Ok summary) = Ok summary
of_run (run.BadInput place why) = Err (stop.BadInput place why)
of_run (run.BadScript line) = Err (stop.BadScript line)
of_run run.ReadFault = Err stop.InputFault
of_run (run.WriteFault which) = Err stop.WriteFault
of_run run.TooLong = Err stop.TooLong
of_run run.TooMany = Err stop.TooMany
of_run run.Memory = Err stop.Memory

abbrev pub IsNothing : Option (List ℕ) → Type 0
IsNothing left = IfSome left (λ xs. xs ≡ [])

-- the script that was left says these lines, and was read to its end; or its first bad line is this one
abbrev pub LinesGive : Option (List ℕ) → Option (List ℕ) → Result (List Numbered) Stop → Type 0
LinesGive left left' (Ok lines) = IfSome left (λ s. script_of s ≡ Ok lines) × IsNothing left'
LinesGive left left' (Err (stop.BadScript line)) = IfSome left (λ s. script_of s ≡ Err line)
LinesGive left left' (Err stop.ScriptFault) = Unit {0}
LinesGive left left' (Err stop.Memory) = Unit {0}
LinesGive left left' (Err (stop.BadInput place why)) = ⊥
LinesGive left left' (Err stop.InputFault) = ⊥
LinesGive left left' (Err stop.WriteFault) = ⊥
LinesGive left left' (Err stop.TooLong) = ⊥
LinesGive left left' (Err stop.TooMany) = ⊥

-- what was left, after so many bytes, begins with this header; or with none; or its line wasn't read whole
abbrev pub HeadGives : ℕ → Option (List ℕ) → Option (List ℕ) → Head → Result (Unit {0}) Stop → Type 0
HeadGives before left left' head (Ok x) = ReadsAs header_at left left' head
HeadGives before left left' head (Err (stop.BadInput place why)) = IsBad header_at header_flaw before left place why
HeadGives before left left' head (Err stop.InputFault) = HeaderUnread left left'
HeadGives before left left' head (Err (stop.BadScript line)) = ⊥
HeadGives before left left' head (Err stop.ScriptFault) = ⊥
HeadGives before left left' head (Err stop.WriteFault) = ⊥
HeadGives before left left' head (Err stop.TooLong) = ⊥
HeadGives before left left' head (Err stop.TooMany) = ⊥
HeadGives before left left' head (Err stop.Memory) = ⊥
