-- Which calls on an object in memory fail: those whose numbers are listed.
use Rattle.std.specs.Prelude.{ℕ, ◌+◌, ◌-◌, ◌^◌, ◌≡◌, min, Bool, true, false, List, length, ◌==◌, if◌then◌else◌, Result, Ok, Err}
use Rattle.std.specs.List.{list_any}
use Rattle.sal_io.specs.declared.answers.Took.{Took}
use Rattle.sal_io.specs.declared.answers.Took.TheVariants as took
use Rattle.sal_io.specs.declared.answers.Wrote.{Wrote}
use Rattle.sal_io.specs.declared.answers.Wrote.TheVariants as wrote
use Rattle.sal_io.specs.declared.answers.ShelfFault.{ShelfFault}
use Rattle.sal_io.specs.declared.answers.ShelfFault.TheVariants as shelf_fault

-- one more, up to the greatest u64: the number of the call after so many
abbrev pub next_call : ℕ → ℕ
next_call calls = min (calls + 1) (2 ^ 64 - 1)

-- the call with this number is listed
abbrev pub is_to_fail : List ℕ → ℕ → Bool
is_to_fail failing call = list_any (λ number. number == call) failing

-- the faults after a call that failed or didn't
abbrev pub faults_after : Bool → ℕ → ℕ
faults_after failed faults = if failed then min (faults + 1) (2 ^ 64 - 1) else faults

abbrev pub took_failed : Took → Bool
took_failed (took.Got n) = false
took_failed took.End = false
took_failed took.Failed = true

abbrev pub wrote_failed : Wrote → Bool
wrote_failed (wrote.Wrote n) = false
wrote_failed wrote.Failed = true

abbrev pub shelf_failed : {A : Type 0} → Result A ShelfFault → Bool
shelf_failed (Ok x) = false
shelf_failed (Err shelf_fault.Failed) = true
shelf_failed (Err shelf_fault.Memory) = false

-- a read takes as many bytes as there are and as the buffer has room for
abbrev pub TakesMost : List ℕ → Took → List ℕ → Type 0
TakesMost left (took.Got n) buf = n ≡ min (length left) (length buf)
TakesMost left took.End buf = Unit {0}
TakesMost left took.Failed buf = Unit {0}

-- a write that is to fail fails, and any other fails for want of memory alone
abbrev pub WriteFailsAs : Bool → Wrote → Type 0
WriteFailsAs listed (wrote.Wrote n) = listed ≡ false
WriteFailsAs listed wrote.Failed = Unit {0}

-- a write that didn't fail takes all bytes
abbrev pub WritesWhole : Wrote → List ℕ → Type 0
WritesWhole (wrote.Wrote n) bytes = n ≡ length bytes
WritesWhole wrote.Failed bytes = Unit {0}
