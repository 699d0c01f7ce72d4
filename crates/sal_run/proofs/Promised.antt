-- Every run keeps the promises.
use Rattle.std.proofs.Common.{ℕ, ◌<◌, ◌≤◌, ◌^◌, List, [], ◌∷◌, ◌++◌, Option, Some, None, IfSome, sym, subst, arith}
use Rattle.sal_base.specs.Lists.{Each}
use Rattle.sal_codec.specs.Coding.{Coding, IsLawful}
use Rattle.sal_y4m.specs.declared.head.Head.{Head}
use Rattle.sal_y4m.specs.Head.{IsHead}
use Rattle.sal_script.specs.declared.line.ScriptLine.{ScriptLine}
use Rattle.sal_script.specs.declared.line.ScriptLine.TheVariants.{Next, NextLate, Down, Up, DownAll, UpAll, Wait, Rest}
use Rattle.sal_script.specs.Numbered.{Numbered}
use Rattle.sal_sender.specs.OneThread.{Session}
use Rattle.sal_world.specs.Promises.{IsSession, IsOfSize}
use Rattle.sal_world.specs.Script.{Run, begun, line}
use Rattle.sal_world.proofs.Played.{IsRun, IsRunIn, line_run, begun_run}
use Rattle.sal_world.proofs.Kept.{all_interleavings}
use Rattle.sal_run.specs.Clip.{End, Clip, clip_at}
use Rattle.sal_run.specs.Loop.{session_of, after_rest, after_line, in_line, ended, clip_run}
use Rattle.sal_run.specs.Ends.{KeepsPromises}
use Rattle.sal_run.proofs.Sizes.{clip_sizes}

later_each : {X : Type 0} (P : X → Type 0) (later before : List X) → Each P (later ++ before) → Each P before
later_each P [] before p = p
later_each P (x ∷ later) before p = later_each P later before p.1

module _ {S : Type 0} (codec : Coding S) (session : Session) where
  abbrev IsEnded : Run S × End → Type 0
  IsEnded e = IsRun codec session e.0

  rest_ended : (fault : Option End) (more : Run S → Run S × End) → ((r : Run S) → IsRun codec session r → IsEnded (more r)) → (r : Run S) → IsRun codec session r → IsEnded (after_rest fault more r)
  rest_ended None more f r is = f r is
  rest_ended (Some end) more f r is = is

  line_ended : (fault : Option End) (said : ScriptLine) (more : Run S → Run S × End) → ((r : Run S) → IsRun codec session r → IsEnded (more r)) → (r : Run S) → IsRun codec session r → IsEnded (after_line fault said more r)
  line_ended fault Rest more f r is = rest_ended fault more f r is
  line_ended fault Next more f r is = f r is
  line_ended fault NextLate more f r is = f r is
  line_ended fault (Down k) more f r is = f r is
  line_ended fault (Up k) more f r is = f r is
  line_ended fault DownAll more f r is = f r is
  line_ended fault UpAll more f r is = f r is
  line_ended fault (Wait time) more f r is = f r is

  in_line_ended : (fault : Option End) (numbered : Numbered) (more : Run S → Run S × End) → ((r : Run S) → IsRun codec session r → IsEnded (more r)) → (r : Run S) → IsRun codec session r → (o : Option (Run S)) → IsRunIn codec session o → IsEnded (in_line fault numbered more r o)
  in_line_ended fault numbered more f r is None of = is
  in_line_ended fault numbered more f r is (Some s) of = line_ended fault numbered.1 more f s of

  pub ended_run : (fault : Option End) (lines : List Numbered) (r : Run S) → IsRun codec session r → IsEnded (ended codec session fault lines r)
  ended_run fault [] r is = is
  ended_run fault (numbered ∷ more) r is = in_line_ended fault numbered (ended codec session fault more) (λ s of. ended_run fault more s of) r is (line codec session numbered.1 r) (line_run codec session numbered.1 r is)

-- the session of a head
pub session_is : (head : Head) → IsHead head → head.rate.0 < 2 ^ 32 → head.rate.1 < 2 ^ 32 → IsSession (session_of head)
session_is head legal pictures seconds = record { number = omega arith; head = legal; pictures = pictures; seconds = seconds }

pub kept_promises : {S : Type 0} (codec : Coding S) → IsLawful codec → (head : Head) (lines : List Numbered) (bytes : List ℕ) → IsSession (session_of head) → KeepsPromises codec head lines bytes
kept_promises {S = S} codec law head lines bytes is_session =
    let session : Session = session_of head in
    let clip : Clip = clip_at head bytes in
    let is : IsRun codec session (clip_run codec head bytes lines).0 = ended_run codec session clip.fault lines (begun clip.pictures) (begun_run codec session clip.pictures (clip_sizes head is_session.head.sides bytes)) in
    record {
      world = is.world;
      holds = λ later before e. all_interleavings codec session law is_session before (later_each (IsOfSize session) later before (subst (Each (IsOfSize session)) e is.sizes));
    }

-- what holds of all bytes holds where they are told
pub where_told : (o : Option (List ℕ)) (P : List ℕ → Type 0) → ((bytes : List ℕ) → P bytes) → IfSome o P
where_told None P f = tt
where_told (Some bytes) P f = f bytes
