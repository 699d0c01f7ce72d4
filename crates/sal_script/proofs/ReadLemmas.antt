-- What reading a script answers, by what was read.
use Rattle.std.proofs.Common.{◌≡◌, ℕ, ◌<◌, List, [], ◌++◌, length, Option, Some, None, IfSome, Result, Ok, Err, inl, inr, refl, sym, ap, ◌∙◌, subst}
use Rattle.std.specs.Prelude.{◌⊎◌}
use Rattle.std.specs.Io.KnownBytes.{Consumes}
use Rattle.sal_script.specs.declared.fault.ScriptFault.{ScriptFault}
use Rattle.sal_script.specs.declared.fault.ScriptFault.TheVariants.{Bad, ReadFault, Memory}
use Rattle.sal_script.specs.Numbered.{Numbered}
use Rattle.sal_script.specs.Script.{most_script, script_of}
use Rattle.sal_script.specs.Steps.{Parses}
use Rattle.sal_script.specs.Reads.{ScriptGives, answer_of}
use Rattle.sal_script.proofs.CutLemmas.{cut_off}

same : (s text left : List ℕ) → most_script < length text → s ≡ text ++ left → script_of s ≡ script_of text
same s text left long e =
    let both = cut_off text left long in
    ap script_of e ∙ both.second ∙ sym both.first

given_more : (old new : Option (List ℕ)) (text : List ℕ) (r : Result (List Numbered) ScriptFault) → most_script < length text → Consumes old new text → Parses text r → ScriptGives old new r
given_more old new text (Ok lines) long took said = absurd (let both = cut_off text [] long in let e : Ok lines ≡ Err both.line = sym said ∙ both.first in cc)
given_more None new text (Err (Bad number)) long took said = tt
given_more (Some s) None text (Err (Bad number)) long took said = absurd took
given_more (Some s) (Some left) text (Err (Bad number)) long took said = same s text left long took ∙ said
given_more old new text (Err Memory) long took said = tt
given_more old new text (Err ReadFault) long took said = tt

-- more than a script may have was read
pub more_given : (old new : Option (List ℕ)) (text lent : List ℕ) (r : Result (List Numbered) ScriptFault) → most_script < length text → Consumes old new text → lent ≡ text → Parses lent r → ScriptGives old new r
more_given old new text lent r long took e said = given_more old new text r long took (subst (λ (t : List ℕ). Parses t r) e said)

-- what was parsed is all that there is to answer
pub completed : (old new : Option (List ℕ)) (text : List ℕ) (r : Result (List Numbered) ScriptFault) → Parses text r → ScriptGives old new r → IfSome old (λ script. (r ≡ answer_of (script_of script)) ⊎ (r ≡ Err Memory))
completed None new text r said given = tt
completed (Some s) new text (Ok lines) said given = inl (sym (ap answer_of given.0))
completed (Some s) new text (Err (Bad number)) said given = inl (sym (ap answer_of given))
completed (Some s) new text (Err Memory) said given = inr refl
completed (Some s) new text (Err ReadFault) said given = absurd said
