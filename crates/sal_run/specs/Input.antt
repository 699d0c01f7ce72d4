-- What is left of an input, and of a run over it.
use Rattle.std.specs.Prelude.{◌≡◌, ◌≢◌, ◌⊎◌, ◌<◌, ℕ, ◌+◌, List, [], ◌∷◌, ◌++◌, length, take, Bool, true, false, Option, Some, None, IfSome, Result, Ok, Err, nat_lt, if◌then◌else◌}
use Rattle.sal_base.specs.declared.picture.Picture.{Picture}
use Rattle.sal_codec.specs.Coding.{Coding}
use Rattle.sal_io.specs.Told.{ReadsAs}
use Rattle.sal_y4m.specs.declared.head.Head.{Head}
use Rattle.sal_y4m.specs.declared.fault.Flaw.{Flaw}
use Rattle.sal_y4m.specs.declared.fault.Why.{Why}
use Rattle.sal_y4m.specs.Grammar.{picture_at, picture_flaw}
use Rattle.sal_script.specs.declared.line.ScriptLine.{ScriptLine}
use Rattle.sal_script.specs.declared.line.ScriptLine.TheVariants.{Next, NextLate}
use Rattle.sal_script.specs.Numbered.{Numbered}
use Rattle.sal_run.specs.CountedParts.{CountedParts}
use Rattle.sal_world.specs.World.{WorldEvent, after}
use Rattle.sal_world.specs.Script.{Run}
use Rattle.sal_world.specs.declared.diary.DiaryFault.{DiaryFault}
use Rattle.sal_run.specs.declared.stop.RunStop.{RunStop}
use Rattle.sal_run.specs.declared.stop.RunStop.TheVariants as stop
use Rattle.sal_run.specs.Front.{front, is_empty}
use Rattle.sal_run.specs.Clip.{End, BadInput, BadScript, TooMany, TooLong, over, Clip}
use Rattle.sal_run.specs.Place.{IsPlaced}
use Rattle.sal_run.specs.Loop.{session_of, out_text, ended}
use Rattle.sal_run.specs.Ends.{IsAtNext, IsAtRest}
use Rattle.sal_run.specs.Marks.{Marks}
use Rattle.sal_run.specs.Running.{PartlyOf, CutOf, IsAt}

-- what is left of a clip, of which a session takes so many pictures more
abbrev pub clip_within : Head → ℕ → List Picture × List ℕ → Clip
clip_within head m found = record {
  pictures = take m found.0;
  fault = if nat_lt m (length found.0) then Some (over head) else if is_empty found.1 then None else Some (BadInput (picture_flaw found.1));
}

abbrev pub clip_in : Head → ℕ → List ℕ → Clip
clip_in head m bytes = clip_within head m (front (picture_at head) (m + 1) bytes)

abbrev pub IsNothing : Option (List ℕ) → Type 0
IsNothing left = IfSome left (λ xs. xs ≡ [])

-- what is left, after so many bytes, is no picture, and not nothing: what is wrong with it, and where
abbrev pub IsBroken : Head → ℕ → Option (List ℕ) → ℕ → Why → Type 0
IsBroken head before left place why = IfSome left (λ xs. (xs ≢ []) × ((picture_at head xs ≡ None) × IsPlaced before xs (picture_flaw xs) place why))

-- a picture stands there that is one too many
abbrev pub IsOver : End → Head → ℕ → Option (List ℕ) → Option (List ℕ) → Type 0
IsOver end head m left left' = (over head ≡ end) × (m ≡ 0) × ((p : Picture) × ReadsAs (picture_at head) left left' p)

-- why a run stops that comes to one picture more
abbrev pub IsOverStop : Head → RunStop → Type 0
IsOverStop head stop.TooMany = over head ≡ TooMany
IsOverStop head stop.TooLong = over head ≡ TooLong
IsOverStop head _ = ⊥

-- the next picture, after so many bytes, of so many that a session takes more, or the end of the input, or why the run stops
abbrev pub TakeGives : Head → ℕ → ℕ → Option (List ℕ) → Option (List ℕ) → Result (Option Picture) RunStop → Type 0
TakeGives head before m left left' (Ok (Some p)) = (0 < m) × ReadsAs (picture_at head) left left' p
TakeGives head before m left left' (Ok None) = IsNothing left × IsNothing left'
TakeGives head before m left left' (Err (stop.BadInput place why)) = IsBroken head before left place why
TakeGives head before m left left' (Err stop.TooMany) = IsOver TooMany head m left left'
TakeGives head before m left left' (Err stop.TooLong) = IsOver TooLong head m left left'
TakeGives head before m left left' (Err stop.ReadFault) = Unit {0}
TakeGives head before m left left' (Err stop.Memory) = Unit {0}
TakeGives head before m left left' (Err _) = ⊥

-- what reading all that is left comes to, after so many bytes, where a session takes so many pictures more
abbrev pub FinishGives : Head → ℕ → ℕ → Option (List ℕ) → Option (List ℕ) → Result (Unit {0}) RunStop → Type 0
FinishGives head before m left left' (Ok x) = IfSome left (λ l. (clip_in head m l).fault ≡ None) × IsNothing left'
FinishGives head before m left left' (Err (stop.BadInput place why)) = IfSome left (λ l. (flaw : Flaw) × ((clip_in head m l).fault ≡ Some (BadInput flaw)) × IsPlaced before l flaw place why)
FinishGives head before m left left' (Err stop.TooMany) = IfSome left (λ l. (clip_in head m l).fault ≡ Some TooMany)
FinishGives head before m left left' (Err stop.TooLong) = IfSome left (λ l. (clip_in head m l).fault ≡ Some TooLong)
FinishGives head before m left left' (Err stop.ReadFault) = Unit {0}
FinishGives head before m left left' (Err stop.Memory) = Unit {0}
FinishGives head before m left left' (Err _) = ⊥

-- the line that starts a picture, whose fine job comes late or not
abbrev pub next_said : Bool → ScriptLine
next_said false = Next
next_said true = NextLate

-- these hold where both are told
abbrev pub Told2 : Option (List ℕ) → Option (List ℕ) → (List ℕ → List ℕ → Type 0) → Type 0
Told2 a b P = IfSome a (λ i. IfSome b (P i))

module _ {S : Type 0} (codec : Coding S) (head : Head) where
  -- where a run ends, and how, over what is left of the input and of the lines
  abbrev pub onward : ℕ → List ℕ → List Numbered → Run S → Run S × End
  onward m bytes lines r = ended codec (session_of head) (clip_in head m bytes).fault lines (record r { left = (clip_in head m bytes).pictures })

  -- the run ends so, and the output holds the header and all pictures shown
  abbrev pub EndsAs : Option (List ℕ) → End → Run S × End → Type 0
  EndsAs held end t = (t.1 ≡ end) × IfSome held (λ o. o ≡ out_text head t.0.world)

  -- the output holds what the events of these lines before a picture is started make it hold, those up to a `rest`, or all
  abbrev pub ToNextOf : (List Numbered → List WorldEvent) → List Numbered → List ℕ → Type 0
  ToNextOf events lines o =
      (later : List WorldEvent) × ((before : List WorldEvent) × (events lines ≡ later ++ before) × (IsAtNext later ⊎ IsAtRest events lines before) × (o ≡ out_text head (after codec (session_of head) before)))

  -- why a run of these lines stops, after so many bytes of its input, of what was left of it and where lines lead
  abbrev pub Halts : (DiaryFault → Bool) → ℕ → Option (List ℕ) → Option (List ℕ) → (List Numbered → List ℕ → Run S × End) → List Numbered → RunStop → Type 0
  Halts gives before left held final lines (stop.BadInput place why) = IfSome left (λ l. (flaw : Flaw) × (EndsAs held (BadInput flaw) (final lines l) × IsPlaced before l flaw place why))
  Halts gives before left held final lines (stop.BadScript line) = IfSome left (λ l. EndsAs held (BadScript line) (final lines l))
  Halts gives before left held final lines stop.TooMany = IfSome left (λ l. EndsAs held TooMany (final lines l))
  Halts gives before left held final lines stop.TooLong = IfSome left (λ l. EndsAs held TooLong (final lines l))
  Halts gives before left held final lines stop.ReadFault = Told2 left held (λ l o. ToNextOf (λ ls. (final ls l).0.events) lines o)
  Halts gives before left held final lines stop.Out = Told2 left held (λ l o. CutOf codec head (final lines l).0.events o)
  Halts gives before left held final lines (stop.Diary fault) = (gives fault ≡ true) × Told2 left held (λ l o. PartlyOf codec head (final lines l).0.events o)
  Halts gives before left held final lines stop.Memory = Told2 left held (λ l o. PartlyOf codec head (final lines l).0.events o)

  -- this line was run, and the run goes on with those that come after it, whatever they are, or it stops
  abbrev pub LineGoes : {X : Type 0} → (DiaryFault → Bool) → ℕ → Numbered → ℕ → ℕ → Option (List ℕ) → Option (List ℕ) → CountedParts S → Marks → Marks → Option (List ℕ) → Run S → Result X RunStop → Type 0
  LineGoes gives before numbered m m' left left' b downs ups held r (Ok x) =
      (s : Run S) × (IsAt codec head b downs ups held s × Told2 left left' (λ l l'. (more : List Numbered) → onward m l (numbered ∷ more) r ≡ onward m' l' more s))
  LineGoes gives before numbered m m' left left' b downs ups held r (Err why) = (more : List Numbered) → Halts gives before left held (λ ls l. onward m l ls r) (numbered ∷ more) why

  -- all these lines were run, or the run stops
  abbrev pub LinesGo : (DiaryFault → Bool) → ℕ → List Numbered → ℕ → ℕ → Option (List ℕ) → Option (List ℕ) → CountedParts S → Marks → Marks → Option (List ℕ) → Run S → Result (Unit {0}) RunStop → Type 0
  LinesGo gives before lines m m' left left' b downs ups held r (Ok x) = (s : Run S) × (IsAt codec head b downs ups held s × Told2 left left' (λ l l'. onward m l lines r ≡ onward m' l' [] s))
  LinesGo gives before lines m m' left left' b downs ups held r (Err why) = Halts gives before left held (λ ls l. onward m l ls r) lines why
