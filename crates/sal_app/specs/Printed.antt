-- What is printed, and what the top call answers after it.
use Rattle.std.specs.Prelude.{◌≡◌, ◌⊎◌, ◌≤◌, ℕ, List, length, take, Option}
use Rattle.std.specs.Io.KnownBytes.{Appends}
use Rattle.sal_io.specs.Past.{Past}
use Rattle.sal_io.specs.Calls.{Rose}
use Rattle.sal_io.specs.declared.whole.Put.{Put}
use Rattle.sal_io.specs.declared.whole.Put.TheVariants as put
use Rattle.sal_status.specs.declared.status.Named.TheVariants.{Screen}
use Rattle.sal_status.specs.declared.status.Status.{Status}
use Rattle.sal_status.specs.declared.status.Status.TheVariants as status
use Rattle.sal_status.specs.Texts.{text_of}
use Rattle.sal_app.specs.Top.{Answers}

-- where a text isn't printed whole, Ok becomes a fault of the screen, and no other status changes
abbrev pub unprinted : Status → Status
unprinted (status.Ok shows) = status.WriteFault Screen
unprinted s = s

abbrev pub after_printing : Put → Status → Status
after_printing put.Done s = s
after_printing put.Failed s = unprinted s

-- the screen has the status's text after what it held before; or its count rose, and it has a front of the text
abbrev pub Printed : List (List ℕ) → Status → Option (List ℕ) → Option (List ℕ) → ℕ → ℕ → Status → Type 0
Printed words s old new faults faults' answer =
    ((answer ≡ s) × Appends old new (text_of words s))
    ⊎ ((answer ≡ unprinted s) × Rose faults faults' × ((n : ℕ) × (n ≤ length (text_of words s)) × Appends old new (take n (text_of words s))))

-- the words were served, with the cause of the status that came of it, and its text was printed
abbrev pub Serves : List (List ℕ) → (List ℕ → Option (List ℕ)) → List Past → List Past → ℕ → ℕ → Option (List ℕ) → Option (List ℕ) → ℕ → ℕ → Status → Type 0
Serves words holds before after faults faults' old new screen screen' answer =
    (s : Status) × (Answers words holds before after faults faults' s × Printed words s old new screen screen' answer)
