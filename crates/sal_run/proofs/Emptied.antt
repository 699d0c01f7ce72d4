-- No ready frame is left after a run over a clip.
use Rattle.std.proofs.Common.{ℕ, List, [], ◌∷◌, Option, Some, None, refl, subst, sym}
use Rattle.sal_codec.specs.Coding.{Coding}
use Rattle.sal_y4m.specs.declared.head.Head.{Head}
use Rattle.sal_script.specs.declared.line.ScriptLine.{ScriptLine}
use Rattle.sal_script.specs.declared.line.ScriptLine.TheVariants.{Next, NextLate, Down, Up, DownAll, UpAll, Wait, Rest}
use Rattle.sal_script.specs.Numbered.{Numbered}
use Rattle.sal_sender.specs.OneThread.{Session}
use Rattle.sal_world.specs.Promises.{NamesDifferIn}
use Rattle.sal_world.specs.Script.{Run, line}
use Rattle.sal_world.proofs.Emptied.{IsEmpty, IsEmptyIn, line_empty, begun_empty, served_so}
use Rattle.sal_run.specs.Clip.{End, clip_at}
use Rattle.sal_run.specs.Loop.{session_of, after_rest, after_line, in_line, ended, clip_run}
use Rattle.sal_run.specs.Ends.{KeepsPromises, LeavesNothing}

module _ {S : Type 0} (codec : Coding S) (session : Session) where
  rest_empty : (fault : Option End) (more : Run S → Run S × End) (r : Run S) → IsEmpty codec session r → ((s : Run S) → IsEmpty codec session s → IsEmpty codec session (more s).0) → IsEmpty codec session (after_rest fault more r).0
  rest_empty None more r is keeps = keeps r is
  rest_empty (Some end) more r is keeps = is

  more_empty : (fault : Option End) (said : ScriptLine) (more : Run S → Run S × End) (r : Run S) → IsEmpty codec session r → ((s : Run S) → IsEmpty codec session s → IsEmpty codec session (more s).0) → IsEmpty codec session (after_line fault said more r).0
  more_empty fault Next more r is keeps = keeps r is
  more_empty fault NextLate more r is keeps = keeps r is
  more_empty fault (Down k) more r is keeps = keeps r is
  more_empty fault (Up k) more r is keeps = keeps r is
  more_empty fault DownAll more r is keeps = keeps r is
  more_empty fault UpAll more r is keeps = keeps r is
  more_empty fault (Wait time) more r is keeps = keeps r is
  more_empty fault Rest more r is keeps = rest_empty fault more r is keeps

  in_empty : (fault : Option End) (numbered : Numbered) (more : Run S → Run S × End) (r : Run S) (o : Option (Run S)) → IsEmpty codec session r → IsEmptyIn codec session o → ((s : Run S) → IsEmpty codec session s → IsEmpty codec session (more s).0) → IsEmpty codec session (in_line fault numbered more r o).0
  in_empty fault numbered more r None is of keeps = is
  in_empty fault numbered more r (Some s) is of keeps = more_empty fault numbered.1 more s of keeps

  ended_empty : (fault : Option End) (lines : List Numbered) (r : Run S) → IsEmpty codec session r → IsEmpty codec session (ended codec session fault lines r).0
  ended_empty fault [] r is = is
  ended_empty fault (numbered ∷ more) r is =
      in_empty fault numbered (ended codec session fault more) r (line codec session numbered.1 r) is (line_empty codec session numbered.1 r is) (λ s of. ended_empty fault more s of)

module _ {S : Type 0} (codec : Coding S) where
  pub leaves_nothing : (head : Head) (lines : List Numbered) (bytes : List ℕ) → KeepsPromises codec head lines bytes → LeavesNothing codec head lines bytes
  leaves_nothing head lines bytes keeps =
      let run : Run S = (clip_run codec head bytes lines).0 in
      let left = ended_empty codec (session_of head) (clip_at head bytes).fault lines _ (begun_empty codec (session_of head) (clip_at head bytes).pictures) in
      record {
        left = left;
        served = λ names. served_so codec (session_of head) run.world.receiver
            (subst (λ w. Rattle.sal_receiver.specs.Promises.ReadyIsServed codec w.receiver) (sym keeps.world) ((keeps.holds [] run.events refl).named (subst (NamesDifferIn codec) keeps.world names)).served) left;
      }
