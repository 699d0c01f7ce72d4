-- Which report is chosen.
use Rattle.std.proofs.Common.{◌≡◌, ◌⊎◌, inl, inr, refl, sym, ℕ, List, subst, ap, ◌∙◌}
use Rattle.std.specs.Arc.{arc_value}
use Rattle.std.specs.declared.sync.Arc.{Arc}
use Rattle.sal_base.specs.declared.picture.Picture.{Picture}
use Rattle.sal_base.specs.declared.coding.Encoding.{Encoding}
use Rattle.sal_base.specs.declared.coding.Encoding.TheVariants.{Frame as FrameOf}
use Rattle.sal_codec.specs.Coding.{Coding, MayEncode, IsLawful, IsSound, name_of}
use Rattle.sal_sender.specs.declared.outcome.Gave.TheVariants.{NoMemory as GaveNoMemory}
use Rattle.sal_sender.specs.declared.outcome.Outcome.{Outcome}
use Rattle.sal_base.specs.declared.name.Name.{Name}
use Rattle.sal_sender.specs.declared.outcome.Outcome.TheVariants.{Frame, Oversize, NoMemory}
use Rattle.sal_sender.specs.JobWork.{JobWork, IsOutcome, IsTargetDigest, IsTargetName, encoded, gave_of, given}

-- what the codec keeps of a frame that was reported
pub frame_sound : {S Z : Type 0} (codec : Coding S) (work : JobWork S) (gave : Outcome (Arc S Z)) (bytes : List ℕ) (target : Arc S Z) (recon : Picture) → IsLawful codec → MayEncode codec work.source work.samples work.q work.kind → IsOutcome (encoded codec work) gave → gave ≡ Frame bytes target recon → IsSound codec work.source work.samples bytes (arc_value target) recon
frame_sound codec work gave bytes target recon law may made is =
    let frame : encoded codec work ≡ FrameOf bytes (arc_value target) recon = subst (λ o. IsOutcome (encoded codec work) o) is made in
    law.sound work.source work.samples work.q work.kind bytes (arc_value target) recon may frame

-- a name by the digest of the frame's state is that state's
pub named_by : {S Z : Type 0} (codec : Coding S) (name : Name) (digest : List ℕ) (o : Outcome (Arc S Z)) → name.0 ≡ name_of digest → IsTargetDigest codec digest o → IsTargetName codec name o
named_by codec name digest (Frame bytes target recon) is own = is ∙ ap name_of own
named_by codec name digest (Oversize first) is own = tt
named_by codec name digest NoMemory is own = tt

-- a job gives what its encoding says, but for want of memory
pub given_or_none : {S Z : Type 0} (encoding : Encoding S) (o : Outcome (Arc S Z)) → IsOutcome encoding o → (gave_of o ≡ GaveNoMemory) ⊎ (gave_of o ≡ given encoding)
given_or_none encoding (Frame bytes target recon) is = inr (sym (ap given is))
given_or_none encoding (Oversize first) is = inr (sym (ap given is))
given_or_none encoding NoMemory is = inl refl
