-- What reading a script answers.
use Rattle.std.specs.Prelude.{◌≡◌, ◌⊎◌, ℕ, List, [], Option, IfSome, Result, Ok, Err}
use Rattle.sal_io.specs.Calls.{Rose}
use Rattle.sal_script.specs.declared.fault.ScriptFault.{ScriptFault}
use Rattle.sal_script.specs.declared.fault.ScriptFault.TheVariants.{Bad, ReadFault, Memory}
use Rattle.sal_script.specs.Numbered.{Numbered}
use Rattle.sal_script.specs.Script.{script_of, IsAllSaid, IsFirstBad}

-- what was left is the script that is answered, all of which was read; or its first bad line is
abbrev pub ScriptGives : Option (List ℕ) → Option (List ℕ) → Result (List Numbered) ScriptFault → Type 0
ScriptGives old new (Ok lines) = IfSome old (λ script. script_of script ≡ Ok lines) × IfSome new (λ left. left ≡ [])
ScriptGives old new (Err (Bad number)) = IfSome old (λ script. script_of script ≡ Err number)
ScriptGives old new (Err Memory) = Unit {0}
ScriptGives old new (Err ReadFault) = Unit {0}

-- what a script says, as an answer
abbrev pub answer_of : Result (List Numbered) ℕ → Result (List Numbered) ScriptFault
answer_of (Ok lines) = Ok lines
answer_of (Err number) = Err (Bad number)

-- completeness: where the count of faults stands still, the answer is what the script says, or want of memory
abbrev pub IsComplete : Option (List ℕ) → ℕ → ℕ → Result (List Numbered) ScriptFault → Type 0
IsComplete old before now result =
    (Rose before now → ⊥) → IfSome old (λ script. (result ≡ answer_of (script_of script)) ⊎ (result ≡ Err Memory))

-- what an answer says of the lines of a script, one by one
abbrev pub SaysOf : List ℕ → Result (List Numbered) ScriptFault → Type 0
SaysOf script (Ok lines) = IsAllSaid script lines
SaysOf script (Err (Bad number)) = IsFirstBad script number
SaysOf script (Err Memory) = Unit {0}
SaysOf script (Err ReadFault) = Unit {0}
