-- Where a run stands, and how a step of it stops.
use Rattle.std.specs.Prelude.{◌≡◌, ◌≤◌, ℕ, List, [], ◌++◌, length, take, Bool, true, Option, IfSome, Result, Ok, Err}
use Rattle.std.specs.Io.KnownBytes.{Appends}
use Rattle.sal_codec.specs.Coding.{Coding}
use Rattle.sal_y4m.specs.declared.head.Head.{Head}
use Rattle.sal_y4m.specs.Grammar.{picture_text}
use Rattle.sal_receiver.specs.declared.answers.Done.{Done}
use Rattle.sal_receiver.specs.declared.answers.Done.TheVariants.{Show}
use Rattle.sal_run.specs.CountedParts.{CountedParts}
use Rattle.sal_run.specs.Counts.{counts_of}
use Rattle.sal_world.specs.World.{WorldEvent, after}
use Rattle.sal_world.specs.Stands.{Stands}
use Rattle.sal_world.specs.Script.{Run, downs_in, ups_in}
use Rattle.sal_world.specs.declared.diary.DiaryFault.{DiaryFault}
use Rattle.sal_run.specs.declared.stop.RunStop.{RunStop}
use Rattle.sal_run.specs.declared.stop.RunStop.TheVariants.{Out, Diary, Memory}
use Rattle.sal_run.specs.Loop.{session_of, out_text}
use Rattle.sal_run.specs.Marks.{Marks}
use Rattle.sal_run.specs.Named.{AreNamed}

-- the text of the picture that is shown, if one is
abbrev pub text_of : Done → List ℕ
text_of (Show number picture) = picture_text picture
text_of _ = []

-- a text was written, or a front of it, or the diary gave a fault before
abbrev pub Shows : (DiaryFault → Bool) → Option (List ℕ) → Option (List ℕ) → List ℕ → Result (Unit {0}) RunStop → Type 0
Shows gives old new text (Ok x) = Appends old new text
Shows gives old new text (Err Out) = (n : ℕ) × (n ≤ length text) × Appends old new (take n text)
Shows gives old new text (Err (Diary fault)) = (gives fault ≡ true) × (new ≡ old)
Shows gives old new text (Err _) = ⊥

-- a text was written, or a front of it
abbrev pub Opened : Option (List ℕ) → Option (List ℕ) → List ℕ → Result (Unit {0}) RunStop → Type 0
Opened old new text (Ok x) = Appends old new text
Opened old new text (Err Out) = (n : ℕ) × (n ≤ length text) × Appends old new (take n text)
Opened old new text (Err _) = ⊥

-- a line was given, or this is the fault that the diary gave
abbrev pub IsNoted : (DiaryFault → Bool) → Result (Unit {0}) RunStop → Type 0
IsNoted gives (Ok x) = Unit {0}
IsNoted gives (Err (Diary fault)) = gives fault ≡ true
IsNoted gives (Err _) = ⊥

module _ {S : Type 0} (codec : Coding S) (head : Head) where
  -- the world stands for the events of a run, the counts are those of its answers, and the output holds the header and the pictures shown
  pub record IsRunning (b : CountedParts S) (held : Option (List ℕ)) (r : Run S) : Type 0 where
    pub stands : Stands codec (session_of head) b.world r.events
    pub counts : b.counts ≡ counts_of r.world
    pub world : r.world ≡ after codec (session_of head) r.events
    pub shown : IfSome held (λ o. o ≡ out_text head r.world)

  -- the output holds what some of these events make it hold, before the others
  abbrev pub PartlyOf : List WorldEvent → List ℕ → Type 0
  PartlyOf events o = (later : List WorldEvent) × ((before : List WorldEvent) × (events ≡ later ++ before) × (o ≡ out_text head (after codec (session_of head) before)))

  -- the output holds a front of that
  abbrev pub CutOf : List WorldEvent → List ℕ → Type 0
  CutOf events o = (n : ℕ) × ((whole : List ℕ) × PartlyOf events whole × (o ≡ take n whole))

  -- how a step stops that these events are of: at want of memory, at a fault of the diary or at one of the output
  abbrev pub Stopped : (DiaryFault → Bool) → Option (List ℕ) → List WorldEvent → RunStop → Type 0
  Stopped gives held events Out = IfSome held (CutOf events)
  Stopped gives held events (Diary fault) = (gives fault ≡ true) × IfSome held (PartlyOf events)
  Stopped gives held events Memory = IfSome held (PartlyOf events)
  Stopped gives held events _ = ⊥

  -- a step made this of a run, or stopped
  abbrev pub Goes : {X : Type 0} → (DiaryFault → Bool) → CountedParts S → Option (List ℕ) → Run S → Result X RunStop → Type 0
  Goes gives b held r (Ok x) = IsRunning b held r
  Goes gives b held r (Err stop) = Stopped gives held r.events stop

  -- the same, with the numbers that the events named
  pub record IsAt (b : CountedParts S) (downs ups : Marks) (held : Option (List ℕ)) (r : Run S) : Type 0 where
    pub running : IsRunning b held r
    pub downs_are : AreNamed downs_in r.events downs
    pub ups_are : AreNamed ups_in r.events ups

  abbrev pub Comes : {X : Type 0} → (DiaryFault → Bool) → CountedParts S → Marks → Marks → Option (List ℕ) → Run S → Result X RunStop → Type 0
  Comes gives b downs ups held r (Ok x) = IsAt b downs ups held r
  Comes gives b downs ups held r (Err stop) = Stopped gives held r.events stop
