-- A job and its report, as what they say.
use Rattle.std.specs.Prelude.{◌≡◌, ℕ, List}
use Rattle.std.specs.Arc.{arc_value}
use Rattle.std.specs.declared.sync.Arc.{Arc}
use Rattle.sal_base.specs.declared.name.Name.{Name}
use Rattle.sal_base.specs.declared.picture.Picture.{Picture}
use Rattle.sal_base.specs.declared.coding.Kind.{Kind}
use Rattle.sal_base.specs.declared.coding.Encoding.{Encoding}
use Rattle.sal_base.specs.declared.coding.Encoding.TheVariants.{Frame as FrameOf, Oversize as OversizeOf}
use Rattle.sal_codec.specs.Coding.{Coding}
use Rattle.sal_sender.specs.declared.outcome.Gave.{Gave}
use Rattle.sal_sender.specs.declared.outcome.Gave.TheVariants.{Frame as GaveFrame, Oversize as GaveOversize, NoMemory as GaveNoMemory}
use Rattle.sal_sender.specs.declared.choice.JobRole.{JobRole}
use Rattle.sal_sender.specs.declared.outcome.Outcome.{Outcome}
use Rattle.sal_sender.specs.declared.outcome.Outcome.TheVariants.{Frame, Oversize, NoMemory}
use Rattle.sal_chain.specs.Held.{name_in}

-- a job's work: a picture that is to be encoded from a state
pub record JobWork (S : Type 0) : Type 0 where
  pub id : ℕ
  pub picture : ℕ
  pub role : JobRole
  pub q : ℕ
  pub kind : Kind
  pub source : S
  pub samples : Picture

-- a report: the job, and what it gave
pub record JobReport (S : Type 0) : Type 0 where
  pub work : JobWork S
  pub gave : Gave

-- what an outcome is
abbrev pub gave_of : {T : Type 0} → Outcome T → Gave
gave_of (Frame bytes target recon) = GaveFrame
gave_of (Oversize first) = GaveOversize
gave_of NoMemory = GaveNoMemory

-- what the codec makes of a job
abbrev pub encoded : {S : Type 0} → Coding S → JobWork S → Encoding S
encoded codec work = codec.encode work.source work.samples work.q work.kind

-- what a job gives where there is memory
abbrev pub given : {S : Type 0} → Encoding S → Gave
given (FrameOf bytes target recon) = GaveFrame
given (OversizeOf first) = GaveOversize

-- an outcome is this encoding, or want of memory
abbrev pub IsOutcome : {S Z : Type 0} → Encoding S → Outcome (Arc S Z) → Type 0
IsOutcome made (Frame bytes target recon) = made ≡ FrameOf bytes (arc_value target) recon
IsOutcome made (Oversize first) = made ≡ OversizeOf first
IsOutcome made NoMemory = Unit {0}

-- the digest is that of the frame's state
abbrev pub IsTargetDigest : {S Z : Type 0} → Coding S → List ℕ → Outcome (Arc S Z) → Type 0
IsTargetDigest codec digest (Frame bytes target recon) = digest ≡ codec.digest (arc_value target)
IsTargetDigest codec digest (Oversize first) = Unit {0}
IsTargetDigest codec digest NoMemory = Unit {0}

-- the name is that of the frame's state
abbrev pub IsTargetName : {S Z : Type 0} → Coding S → Name → Outcome (Arc S Z) → Type 0
IsTargetName codec name (Frame bytes target recon) = name.0 ≡ name_in codec (arc_value target)
IsTargetName codec name (Oversize first) = Unit {0}
IsTargetName codec name NoMemory = Unit {0}
