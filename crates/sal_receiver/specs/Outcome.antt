-- What came of a decoding, as code has it.
use Rattle.std.specs.Prelude.{◌≡◌, ◌-◌}
use Rattle.sal_base.specs.declared.limits.TheConstants.{WINDOW}
use Rattle.sal_codec.specs.Coding.{Coding}
use Rattle.sal_receiver.specs.declared.decoding.DecodeOutcome.{DecodeOutcome}
use Rattle.sal_receiver.specs.declared.decoding.DecodeOutcome.TheVariants.{Frame, Fault, NoMemory}
use Rattle.sal_receiver.specs.Past.{Sound, Faulty}
use Rattle.sal_receiver.specs.Past.{DecodeResult as Came, NoMemory as Nothing}

-- what came: shares stand for their state
abbrev pub outcome_unshared : {S : Type 0} → DecodeOutcome S → Came S
outcome_unshared (Frame shares digest picture) = Sound shares.state picture
outcome_unshared (Fault fault) = Faulty fault
outcome_unshared NoMemory = Nothing

-- there is a share for each other number of the window, and the digest is the state's
abbrev pub IsShared : {S : Type 0} → Coding S → DecodeOutcome S → Type 0
IsShared codec (Frame shares digest picture) = (shares.others ≡ WINDOW - 1) × (digest ≡ codec.digest shares.state)
IsShared codec (Fault fault) = Unit {0}
IsShared codec NoMemory = Unit {0}
