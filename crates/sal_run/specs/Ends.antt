-- What a run gives, by how it ends: of the bytes that its input had left, and of those that its output then holds.
use Rattle.std.specs.Prelude.{◌≡◌, ◌⊎◌, ℕ, List, [], ◌∷◌, ◌++◌, take, Bool, true, Option, IfSome}
use Rattle.sal_base.specs.declared.picture.Picture.{Picture}
use Rattle.sal_codec.specs.Coding.{Coding}
use Rattle.sal_y4m.specs.declared.head.Head.{Head}
use Rattle.sal_y4m.specs.declared.fault.Flaw.{Flaw}
use Rattle.sal_script.specs.declared.line.ScriptLine.TheVariants.{Rest}
use Rattle.sal_script.specs.Numbered.{Numbered}
use Rattle.sal_world.specs.World.{WorldEvent, Starts, after}
use Rattle.sal_world.specs.Promises.{NamesDifferIn, Promises, NothingIsLeft, AllIsServed}
use Rattle.sal_world.specs.declared.diary.DiaryFault.{DiaryFault}
use Rattle.sal_world.specs.declared.diary.DiaryFault.TheVariants as diary
use Rattle.sal_run.specs.declared.end.Which.TheVariants.{Out, Journal, Pictures, Script}
use Rattle.sal_run.specs.declared.end.RunEnd.{RunEnd}
use Rattle.sal_run.specs.declared.end.RunEnd.TheVariants as run
use Rattle.sal_run.specs.Clip.{End, Done, BadInput, BadScript, TooMany, TooLong}
use Rattle.sal_run.specs.Place.{IsPlaced}
use Rattle.sal_run.specs.Summary.{summary_of}
use Rattle.sal_run.specs.Loop.{session_of, out_text, clip_run}

-- no event came after these, or the next one started a picture
abbrev pub IsAtNext : List WorldEvent → Type 0
IsAtNext later = (later ≡ []) ⊎ ((picture : Picture) × ((more : List WorldEvent) × (later ≡ more ++ Starts picture ∷ [])))

-- these events are all those of the lines up to a `rest`, where the events of lines are these
abbrev pub IsAtRest : (List Numbered → List WorldEvent) → List Numbered → List WorldEvent → Type 0
IsAtRest events lines before =
    (first : List Numbered) × ((number : ℕ) × ((others : List Numbered) × (lines ≡ first ++ (number, Rest) ∷ others) × (before ≡ events (first ++ (number, Rest) ∷ []))))

module _ {S : Type 0} (codec : Coding S) (head : Head) (lines : List Numbered) where
  -- the run ended so, and the output holds the header and all pictures shown
  abbrev pub Ends : End → List ℕ → Option (List ℕ) → Type 0
  Ends end i out = ((clip_run codec head i lines).1 ≡ end) × IfSome out (λ o. o ≡ out_text head (clip_run codec head i lines).0.world)

  -- these events, the newest first, are the last ones and those before them of the run
  abbrev pub AreEvents : List ℕ → List WorldEvent → List WorldEvent → Type 0
  AreEvents i later before = (clip_run codec head i lines).0.events ≡ later ++ before

  -- what the output holds after these events
  abbrev pub text_after : List WorldEvent → List ℕ
  text_after events = out_text head (after codec (session_of head) events)

  -- the output holds the header and the pictures shown by the events before
  abbrev pub Partly : List ℕ → List ℕ → Type 0
  Partly i o = (later : List WorldEvent) × ((before : List WorldEvent) × AreEvents i later before × (o ≡ text_after before))

  -- the same, of the events before a picture is started, of all events of the lines up to a `rest`, or of all
  abbrev pub UpToNext : List ℕ → List ℕ → Type 0
  UpToNext i o =
      (later : List WorldEvent) × ((before : List WorldEvent) × AreEvents i later before × (IsAtNext later ⊎ IsAtRest (λ ls. (clip_run codec head i ls).0.events) lines before) × (o ≡ text_after before))

  -- the output holds a front of that
  abbrev pub Cut : List ℕ → List ℕ → Type 0
  Cut i o = (n : ℕ) × ((whole : List ℕ) × Partly i whole × (o ≡ take n whole))

  -- the same, or nothing
  abbrev pub PartlyOrNot : List ℕ → List ℕ → Type 0
  PartlyOrNot i o = (o ≡ []) ⊎ Partly i o

  -- these hold where both are told
  abbrev pub ToldBoth : Option (List ℕ) → Option (List ℕ) → (List ℕ → List ℕ → Type 0) → Type 0
  ToldBoth input out P = IfSome input (λ i. IfSome out (P i))

  -- the diary gave this fault, and the output holds what the events before make it hold, or nothing
  abbrev pub DiaryFailed : (DiaryFault → Bool) → DiaryFault → Option (List ℕ) → Option (List ℕ) → Type 0
  DiaryFailed gives fault i o = (gives fault ≡ true) × ToldBoth i o PartlyOrNot

  -- what a run gives, after so many bytes of its input, with a diary that gives these faults
  abbrev pub RunGives : (DiaryFault → Bool) → ℕ → RunEnd → Option (List ℕ) → Option (List ℕ) → Type 0
  RunGives gives before (run.Ok summary) i o = IfSome i (λ i. Ends Done i o × (summary ≡ summary_of (clip_run codec head i lines).0.world))
  RunGives gives before (run.BadInput place why) i o = IfSome i (λ i. (flaw : Flaw) × (Ends (BadInput flaw) i o × IsPlaced before i flaw place why))
  RunGives gives before (run.BadScript line) i o = IfSome i (λ i. Ends (BadScript line) i o)
  RunGives gives before run.TooMany i o = IfSome i (λ i. Ends TooMany i o)
  RunGives gives before run.TooLong i o = IfSome i (λ i. Ends TooLong i o) ⊎ DiaryFailed gives diary.TooLong i o
  RunGives gives before run.ReadFault i o = ToldBoth i o UpToNext
  RunGives gives before (run.WriteFault Out) i o = ToldBoth i o Cut
  RunGives gives before (run.WriteFault Journal) i o = DiaryFailed gives diary.Failed i o
  RunGives gives before (run.WriteFault Pictures) i o = ⊥
  RunGives gives before (run.WriteFault Script) i o = ⊥
  RunGives gives before run.Memory i o = ToldBoth i o PartlyOrNot

  -- the world of the run is that after its events, and after any of them all promises of both ends hold
  pub record KeepsPromises (i : List ℕ) : Type 0 where
    pub world : (clip_run codec head i lines).0.world ≡ after codec (session_of head) (clip_run codec head i lines).0.events
    pub holds : (later before : List WorldEvent) → AreEvents i later before → Promises codec (session_of head) (after codec (session_of head) before)

-- the run of these lines leaves no frame that waits to be decoded or is out; where names differ, each frame that was ready was then
-- shown, or a number at least as great was shown before
pub record LeavesNothing {S : Type 0} (codec : Coding S) (head : Head) (lines : List Numbered) (bytes : List ℕ) : Type 0 where
  pub left : NothingIsLeft codec (clip_run codec head bytes lines).0.world.receiver
  pub served : NamesDifferIn codec (clip_run codec head bytes lines).0.world → AllIsServed codec (clip_run codec head bytes lines).0.world.receiver

-- what was read is read to its end where all went well
abbrev pub AtEnd : RunEnd → Option (List ℕ) → Type 0
AtEnd (run.Ok summary) left = IfSome left (λ xs. xs ≡ [])
AtEnd _ left = Unit {0}
