-- What the calls of sources, sinks and shelves do.
use Rattle.std.specs.Prelude.{◌≡◌, ℕ, ◌+◌, ◌-◌, ◌^◌, ◌<◌, ◌≤◌, min, List, [], length, take, Option, IfSome, Result, OnErr}
use Rattle.std.specs.Io.KnownBytes.{Consumes, Appends, Keeps, IsAtEnd}
use Rattle.sal_io.specs.Told.{TakesUpTo}
use Rattle.sal_io.specs.declared.answers.Took.{Took}
use Rattle.sal_io.specs.declared.answers.Took.TheVariants as took
use Rattle.sal_io.specs.declared.answers.Wrote.{Wrote}
use Rattle.sal_io.specs.declared.answers.Wrote.TheVariants as wrote
use Rattle.sal_io.specs.declared.contents.Contents.{Contents}
use Rattle.sal_io.specs.declared.contents.Contents.TheVariants as contents
use Rattle.sal_io.specs.declared.whole.Filled.{Filled}
use Rattle.sal_io.specs.declared.whole.Filled.TheVariants as filled
use Rattle.sal_io.specs.declared.whole.Put.{Put}
use Rattle.sal_io.specs.declared.whole.Put.TheVariants as puts

-- a count is greater than before, or stands at its end
abbrev pub Rose : ℕ → ℕ → Type 0
Rose before now = min (before + 1) (2 ^ 64 - 1) ≤ now

-- a count rose, and didn't fall
pub record IsRaised (before now : ℕ) : Type 0 where
  pub later : before ≤ now
  pub rose : Rose before now

-- a count doesn't fall, and rose where the answer is this one
pub record HasCause {A : Type 0} (fault : A) (before now : ℕ) (answer : A) : Type 0 where
  pub later : before ≤ now
  pub rose : answer ≡ fault → Rose before now

-- a count doesn't fall, and rose where the answer is an error
pub record ErrHasCause {T E : Type 0} (before now : ℕ) (result : Result T E) : Type 0 where
  pub later : before ≤ now
  pub failed : OnErr result (Rose before now)

-- what a read does to the bytes that are left
abbrev pub ReadGives : Option (List ℕ) → Option (List ℕ) → Took → List ℕ → Type 0
ReadGives old new (took.Got n) buf = (0 < n) × (n ≤ length buf) × Consumes old new (take n buf)
ReadGives old new took.End buf = IsAtEnd old × Keeps old new
ReadGives old new took.Failed buf = Keeps old new

-- what a write does to the bytes that a sink holds
abbrev pub WriteGives : Option (List ℕ) → Option (List ℕ) → Wrote → List ℕ → Type 0
WriteGives old new (wrote.Wrote n) bytes = (0 < n) × (n ≤ length bytes) × Appends old new (take n bytes)
WriteGives old new wrote.Failed bytes = Keeps old new

-- a source that was opened under a name whose bytes are these, where told
pub record IsOpened (wanted : List ℕ) (bytes : Option (List ℕ)) (name : List ℕ) (had left : Option (List ℕ)) (faults : ℕ) : Type 0 where
  pub name_is : name ≡ wanted
  pub had_is : had ≡ bytes
  pub left_is : left ≡ bytes
  pub no_faults : faults ≡ 0

-- a sink that was created under a name holds nothing, where it tells
pub record IsCreated (wanted : List ℕ) (name : List ℕ) (held : Option (List ℕ)) (faults : ℕ) : Type 0 where
  pub name_is : name ≡ wanted
  pub empty : IfSome held (λ bytes. bytes ≡ [])
  pub no_faults : faults ≡ 0

-- what filling a buffer does to the bytes that are left
abbrev pub FillGives : Option (List ℕ) → Option (List ℕ) → Filled → List ℕ → Type 0
FillGives old new filled.Full buf = Consumes old new buf
FillGives old new (filled.Short n) buf = (n < length buf) × IfSome old (λ xs. xs ≡ take n buf) × Consumes old new (take n buf)
FillGives old new filled.Failed buf = (n : ℕ) × (n < length buf) × Consumes old new (take n buf)

-- what putting bytes does to the bytes that a sink holds
abbrev pub PutGives : Option (List ℕ) → Option (List ℕ) → Put → List ℕ → Type 0
PutGives old new puts.Done bytes = Appends old new bytes
PutGives old new puts.Failed bytes = (n : ℕ) × (n ≤ length bytes) × Appends old new (take n bytes)

-- what reading all does to the bytes that are left: all of them, no more than the limit, or more than it; where the
-- source fails, no more than the limit were taken
abbrev pub AllGives : Option (List ℕ) → Option (List ℕ) → Contents → ℕ → Type 0
AllGives old new (contents.All bytes) most = (length bytes ≤ most) × IfSome old (λ xs. xs ≡ bytes) × Consumes old new bytes
AllGives old new (contents.More bytes) most = (most < length bytes) × Consumes old new bytes
AllGives old new contents.Failed most = TakesUpTo most old new
AllGives old new contents.Memory most = Unit {0}
