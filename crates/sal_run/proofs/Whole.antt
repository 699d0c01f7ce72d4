-- How a whole run ends.
use Rattle.std.proofs.Common.{◌≡◌, ℕ, zero, suc, ◌+◌, ◌<◌, ◌≤◌, Bool, true, false, List, [], ◌∷◌, ◌++◌, length, take, drop, get_or, Option, Some, None, Result, Ok, Err, IfSome, IfErr, OnOk, is_some, refl, ap, sym, ◌∙◌, subst, arith, append-nil, append_assoc, inl, inr}
use Rattle.std.specs.Result.{IsErrAnd}
use Rattle.std.proofs.lemmas.List.{at_drop_more, at_drop_all, take-append-drop}
use Rattle.std.proofs.Math.Seq.{take-add}
use Rattle.std.specs.Io.KnownBytes.{Appends}
use Rattle.sal_base.specs.declared.picture.Picture.{Picture}
use Rattle.sal_codec.specs.Coding.{Coding}
use Rattle.sal_y4m.specs.declared.head.Head.{Head}
use Rattle.sal_y4m.specs.declared.fault.Flaw.{Flaw}
use Rattle.sal_y4m.specs.Grammar.{picture_at, picture_flaw, head_text}
use Rattle.sal_script.specs.declared.line.ScriptLine.TheVariants.{Rest}
use Rattle.sal_script.specs.Numbered.{Numbered}
use Rattle.sal_run.specs.CountedParts.{CountedParts}
use Rattle.sal_run.specs.declared.counted.Counts.{Counts}
use Rattle.sal_run.specs.declared.end.Summary.{Summary}
use Rattle.sal_run.specs.Summary.{summary_of}
use Rattle.sal_run.specs.Counts.{no_counts, summary_with}
use Rattle.sal_world.specs.World.{WorldEvent, WorldPast, start, sent, after}
use Rattle.sal_world.specs.Stands.{Stands}
use Rattle.sal_world.specs.Script.{Run, begun, downs_in, ups_in}
use Rattle.sal_world.specs.declared.diary.DiaryFault.{DiaryFault}
use Rattle.sal_world.specs.declared.diary.DiaryFault.TheVariants as diary
use Rattle.sal_run.specs.declared.stop.RunStop.{RunStop}
use Rattle.sal_run.specs.declared.stop.RunStop.TheVariants as stop
use Rattle.sal_io.specs.Calls.{HasCause}
use Rattle.sal_run.specs.declared.end.RunEnd.TheVariants as run
use Rattle.sal_run.specs.declared.end.Which.TheVariants.{Out, Journal}
use Rattle.sal_run.specs.Stops.{end_of, run_end}
use Rattle.sal_run.specs.Clip.{End, Done, BadInput, BadScript, TooMany, TooLong, Clip, most}
use Rattle.sal_run.specs.Loop.{session_of, out_text, or_end, clip_run}
use Rattle.sal_run.specs.Ends.{AtEnd, ToldBoth, PartlyOrNot, Ends, RunGives}
use Rattle.sal_run.specs.Marks.{Marks}
use Rattle.sal_run.specs.Named.{AreNamed}
use Rattle.sal_run.specs.Running.{Opened, IsNoted, IsRunning, PartlyOf, CutOf, IsAt}
use Rattle.sal_run.specs.Place.{Carries}
use Rattle.sal_run.specs.Input.{clip_in, TakeGives, FinishGives, Told2, onward, EndsAs, ToNextOf, Halts, LineGoes, LinesGo}
use Rattle.sal_run.proofs.Clips.{clip_some, clip_end, clip_broken, clip_over}

not_told : false ≡ true → ⊥
not_told e = absurd cc

-- the line at a place, and those after it
pub drop_at : (all : List Numbered) (i : ℕ) (d : Numbered) → i < length all → drop i all ≡ get_or all i d ∷ drop (i + 1) all
drop_at all i d lt = at_drop_more (λ (xs : List Numbered). xs) all i d lt

pub drop_end : (all : List Numbered) (i : ℕ) → length all ≤ i → drop i all ≡ []
drop_end all i le = at_drop_all (λ (xs : List Numbered). xs) all i le

-- the lines before a place, and those from there on
split_at : (all : List Numbered) (i : ℕ) → take i all ++ drop i all ≡ all
split_at all i = take-append-drop i all

take_all : (all : List Numbered) (i : ℕ) → drop i all ≡ [] → take i all ≡ all
take_all all i e = sym (append-nil (take i all)) ∙ (ap (λ (xs : List Numbered). take i all ++ xs) (sym e) ∙ split_at all i)

take_more : (all : List Numbered) (numbered : Numbered) (i : ℕ) → drop i all ≡ numbered ∷ drop (i + 1) all → take (i + 1) all ≡ take i all ++ numbered ∷ []
take_more all numbered i e = take-add i 1 all ∙ ap (λ (xs : List Numbered). take i all ++ take 1 xs) e

module _ {S : Type 0} (codec : Coding S) (head : Head) where
  -- ---- the lines, one after the other

  pub record LinesLeft (m0 : ℕ) (left0 : Option (List ℕ)) (all : List Numbered) (r : Run S) (at m : ℕ) (left : Option (List ℕ)) (b : CountedParts S) (d u : Marks) (held : Option (List ℕ)) : Type 0 where
    pub now : Run S
    pub here : IsAt codec head b d u held now
    pub told : Told2 left0 left (λ l0 l. (more : List Numbered) → onward codec head m0 l0 (take at all ++ more) r ≡ onward codec head m l more now)

  same_told : (m : ℕ) (left : Option (List ℕ)) (r : Run S) → Told2 left left (λ l0 l. (more : List Numbered) → onward codec head m l0 more r ≡ onward codec head m l more r)
  same_told m None r = tt
  same_told m (Some l) r = λ more. refl

  pub lines_first : (m : ℕ) (left : Option (List ℕ)) (all : List Numbered) (r : Run S) (b : CountedParts S) (d u : Marks) (held : Option (List ℕ)) → IsAt codec head b d u held r → LinesLeft m left all r 0 m left b d u held
  lines_first m left all r b d u held at = record { now = r; here = at; told = same_told m left r }

  -- the lines so far, with one more
  one_more : (all : List Numbered) (numbered : Numbered) (at : ℕ) (more : List Numbered) → drop at all ≡ numbered ∷ drop (at + 1) all → take (at + 1) all ++ more ≡ take at all ++ numbered ∷ more
  one_more all numbered at more e = ap (λ (xs : List Numbered). xs ++ more) (take_more all numbered at e) ∙ append_assoc (take at all) (numbered ∷ []) more

  then_told : (m0 m m' : ℕ) (left0 left left' : Option (List ℕ)) (all : List Numbered) (numbered : Numbered) (at : ℕ) (r now s : Run S) → is_some left ≡ is_some left0 → drop at all ≡ numbered ∷ drop (at + 1) all
      → Told2 left0 left (λ l0 l. (more : List Numbered) → onward codec head m0 l0 (take at all ++ more) r ≡ onward codec head m l more now) → Told2 left left' (λ l l'. (more : List Numbered) → onward codec head m l (numbered ∷ more) now ≡ onward codec head m' l' more s)
      → Told2 left0 left' (λ l0 l'. (more : List Numbered) → onward codec head m0 l0 (take (at + 1) all ++ more) r ≡ onward codec head m' l' more s)
  then_told m0 m m' None left left' all numbered at r now s tells e a b = tt
  then_told m0 m m' (Some l0) left None all numbered at r now s tells e a b = tt
  then_told m0 m m' (Some l0) None (Some l') all numbered at r now s tells e a b = absurd (not_told tells)
  then_told m0 m m' (Some l0) (Some l) (Some l') all numbered at r now s tells e a b =
      λ more. ap (λ (ls : List Numbered). onward codec head m0 l0 ls r) (one_more all numbered at more e) ∙ (a (numbered ∷ more) ∙ b more)

  whole_told : (m0 m : ℕ) (left0 left : Option (List ℕ)) (first all : List Numbered) (r now : Run S) → first ≡ all → Told2 left0 left (λ l0 l. (more : List Numbered) → onward codec head m0 l0 (first ++ more) r ≡ onward codec head m l more now) → Told2 left0 left (λ l0 l. onward codec head m0 l0 all r ≡ onward codec head m l [] now)
  whole_told m0 m None left first all r now e a = tt
  whole_told m0 m (Some l0) None first all r now e a = tt
  whole_told m0 m (Some l0) (Some l) first all r now e a = ap (λ (ls : List Numbered). onward codec head m0 l0 ls r) (sym (append-nil first ∙ e)) ∙ a []

  -- what a read fault leaves, seen from the start of the lines
  next_from : (final0 final : List Numbered → Run S × End) (first lines all : List Numbered) (o : List ℕ) → all ≡ first ++ lines → ((more : List Numbered) → final0 (first ++ more) ≡ final more) → ToNextOf codec head (λ ls. (final ls).0.events) lines o → ToNextOf codec head (λ ls. (final0 ls).0.events) all o
  next_from final0 final first lines all o e same (later, (before, events, inl at, shown)) =
      (later, (before, ap (λ (t : Run S × End). t.0.events) (ap final0 e ∙ same lines) ∙ events, inl at, shown))
  next_from final0 final first lines all o e same (later, (before, events, inr (front, (n, (others, split, own))), shown)) = (
    later,
    (
      before,
      ap (λ (t : Run S × End). t.0.events) (ap final0 e ∙ same lines) ∙ events,
      inr (
        first ++ front,
        (
          n,
          (
            others,
            e ∙ (ap (λ (xs : List Numbered). first ++ xs) split ∙ sym (append_assoc first front ((n, Rest) ∷ others))),
            own ∙ ap (λ (t : Run S × End). t.0.events) (sym (ap final0 (append_assoc first front ((n, Rest) ∷ [])) ∙ same (front ++ (n, Rest) ∷ []))),
          ),
        ),
      ),
      shown,
    ),
  )

  module _ (gives : DiaryFault → Bool) (before0 : ℕ) where
    -- what stops the run from here stops it from the start
    pub halts_from : (before : ℕ) (left0 left held : Option (List ℕ)) (final0 final : List Numbered → List ℕ → Run S × End) (first lines all : List Numbered) (why : RunStop) → all ≡ first ++ lines → is_some left ≡ is_some left0 → Carries before0 left0 before left
        → Told2 left0 left (λ l0 l. (more : List Numbered) → final0 (first ++ more) l0 ≡ final more l) → Halts codec head gives before left held final lines why → Halts codec head gives before0 left0 held final0 all why
    halts_from before None left held final0 final first lines all (stop.BadInput place w) e tells of same p = tt
    halts_from before None left held final0 final first lines all (stop.BadScript line) e tells of same p = tt
    halts_from before None left held final0 final first lines all stop.TooMany e tells of same p = tt
    halts_from before None left held final0 final first lines all stop.TooLong e tells of same p = tt
    halts_from before None left held final0 final first lines all stop.ReadFault e tells of same p = tt
    halts_from before None left held final0 final first lines all stop.Out e tells of same p = tt
    halts_from before None left held final0 final first lines all (stop.Diary fault) e tells of same p = (p.0, tt)
    halts_from before None left held final0 final first lines all stop.Memory e tells of same p = tt
    halts_from before (Some l0) None held final0 final first lines all why e tells of same p = absurd (not_told tells)
    halts_from before (Some l0) (Some l) held final0 final first lines all (stop.BadInput place w) e tells of same p = (p.0, (subst (λ (t : Run S × End). EndsAs codec head held (BadInput p.0) t) (sym (ap (λ ls. final0 ls l0) e ∙ same lines)) p.1.0, of p.0 place w p.1.1))
    halts_from before (Some l0) (Some l) held final0 final first lines all (stop.BadScript line) e tells of same p = subst (λ (t : Run S × End). EndsAs codec head held (BadScript line) t) (sym (ap (λ ls. final0 ls l0) e ∙ same lines)) p
    halts_from before (Some l0) (Some l) held final0 final first lines all stop.TooMany e tells of same p = subst (λ (t : Run S × End). EndsAs codec head held TooMany t) (sym (ap (λ ls. final0 ls l0) e ∙ same lines)) p
    halts_from before (Some l0) (Some l) held final0 final first lines all stop.TooLong e tells of same p = subst (λ (t : Run S × End). EndsAs codec head held TooLong t) (sym (ap (λ ls. final0 ls l0) e ∙ same lines)) p
    halts_from before (Some l0) (Some l) None final0 final first lines all stop.ReadFault e tells of same p = tt
    halts_from before (Some l0) (Some l) (Some o) final0 final first lines all stop.ReadFault e tells of same p = next_from (λ ls. final0 ls l0) (λ ls. final ls l) first lines all o e same p
    halts_from before (Some l0) (Some l) held final0 final first lines all stop.Out e tells of same p = subst (λ (t : Run S × End). IfSome held (λ o. CutOf codec head t.0.events o)) (sym (ap (λ ls. final0 ls l0) e ∙ same lines)) p
    halts_from before (Some l0) (Some l) held final0 final first lines all (stop.Diary fault) e tells of same p = (p.0, subst (λ (t : Run S × End). IfSome held (λ o. PartlyOf codec head t.0.events o)) (sym (ap (λ ls. final0 ls l0) e ∙ same lines)) p.1)
    halts_from before (Some l0) (Some l) held final0 final first lines all stop.Memory e tells of same p = subst (λ (t : Run S × End). IfSome held (λ o. PartlyOf codec head t.0.events o)) (sym (ap (λ ls. final0 ls l0) e ∙ same lines)) p

    pub lines_exit : (all : List Numbered) (m m' : ℕ) (left left' : Option (List ℕ)) (b : CountedParts S) (d u : Marks) (held : Option (List ℕ)) (r : Run S) (result : Result (Unit {0}) RunStop) (why : RunStop) → IsErrAnd result (λ e. e ≡ why)
        → Halts codec head gives before0 left held (λ ls l. onward codec head m l ls r) all why → LinesGo codec head gives before0 all m m' left left' b d u held r result
    lines_exit all m m' left left' b d u held r (Ok x) why h p = absurd h
    lines_exit all m m' left left' b d u held r (Err e) why h p = subst (λ s. Halts codec head gives before0 left held (λ ls l. onward codec head m l ls r) all s) (sym h) p

    pub lines_last : (m0 m : ℕ) (left0 left : Option (List ℕ)) (all : List Numbered) (r : Run S) (at : ℕ) (b : CountedParts S) (d u : Marks) (held : Option (List ℕ)) (now : LinesLeft m0 left0 all r at m left b d u held) → drop at all ≡ []
        → (s : Run S) × (IsAt codec head b d u held s × Told2 left0 left (λ l0 l. onward codec head m0 l0 all r ≡ onward codec head m l [] s))
    lines_last m0 m left0 left all r at b d u held now e = (now.now, (now.here, whole_told m0 m left0 left (take at all) all r now.now (take_all all at e) now.told))

    -- a line whose contract speaks of the reader's head
    abbrev LineDid : ℕ → Head → Numbered → ℕ → ℕ → Option (List ℕ) → Option (List ℕ) → CountedParts S → Marks → Marks → Option (List ℕ) → CountedParts S → Marks → Marks → Option (List ℕ) → Result (Unit {0}) RunStop → Type 0
    LineDid before h numbered m m' left left' b0 d0 u0 held0 b d u held result = (q : Run S) → IsAt codec h b0 d0 u0 held0 q → LineGoes codec h gives before numbered m m' left left' b d u held q result

    pub line_err : (before : ℕ) (h : Head) (m0 m m' : ℕ) (left0 left left' : Option (List ℕ)) (all : List Numbered) (numbered : Numbered) (r : Run S) (at : ℕ) (b0 b : CountedParts S) (d0 u0 d u : Marks) (held0 held : Option (List ℕ)) (result : Result (Unit {0}) RunStop) (why : RunStop)
        (now : LinesLeft m0 left0 all r at m left b0 d0 u0 held0) → h ≡ head → result ≡ Err why → is_some left ≡ is_some left0 → Carries before0 left0 before left → drop at all ≡ numbered ∷ drop (at + 1) all
        → LineDid before h numbered m m' left left' b0 d0 u0 held0 b d u held result → Halts codec head gives before0 left0 held (λ ls l. onward codec head m0 l ls r) all why
    line_err before h m0 m m' left0 left left' all numbered r at b0 b d0 u0 d u held0 held result why now same was tells of e did =
        let own : LineDid before head numbered m m' left left' b0 d0 u0 held0 b d u held result = subst (λ x. LineDid before x numbered m m' left left' b0 d0 u0 held0 b d u held result) same did in
        let stopped : Result (Unit {0}) RunStop = Err why in
        let goes : LineGoes codec head gives before numbered m m' left left' b d u held now.now stopped = subst (λ (x : Result (Unit {0}) RunStop). LineGoes codec head gives before numbered m m' left left' b d u held now.now x) was (own now.now now.here) in
        halts_from before left0 left held (λ ls l. onward codec head m0 l ls r) (λ ls l. onward codec head m l ls now.now) (take at all) (numbered ∷ drop (at + 1) all) all why (sym (split_at all at) ∙ ap (λ (xs : List Numbered). take at all ++ xs) e) tells of now.told (goes (drop (at + 1) all))

    pub line_ok : (before : ℕ) (h : Head) (m0 m m' : ℕ) (left0 left left' : Option (List ℕ)) (all : List Numbered) (numbered : Numbered) (r : Run S) (at : ℕ) (b0 b : CountedParts S) (d0 u0 d u : Marks) (held0 held : Option (List ℕ)) (result : Result (Unit {0}) RunStop) (x : Unit {0})
        (now : LinesLeft m0 left0 all r at m left b0 d0 u0 held0) → h ≡ head → result ≡ Ok x → is_some left ≡ is_some left0 → drop at all ≡ numbered ∷ drop (at + 1) all
        → LineDid before h numbered m m' left left' b0 d0 u0 held0 b d u held result → LinesLeft m0 left0 all r (at + 1) m' left' b d u held
    line_ok before h m0 m m' left0 left left' all numbered r at b0 b d0 u0 d u held0 held result x now same was tells e did =
        let own : LineDid before head numbered m m' left left' b0 d0 u0 held0 b d u held result = subst (λ x. LineDid before x numbered m m' left left' b0 d0 u0 held0 b d u held result) same did in
        let goes : LineGoes codec head gives before numbered m m' left left' b d u held now.now (Ok x) = subst (λ (x : Result (Unit {0}) RunStop). LineGoes codec head gives before numbered m m' left left' b d u held now.now x) was (own now.now now.here) in
        record { now = goes.0; here = goes.1.0; told = then_told m0 m m' left0 left left' all numbered at r now.now goes.0 tells e now.told goes.1.1 }

-- ---- the rest of the input

abbrev pub SameFault : Head → ℕ → Option (List ℕ) → ℕ → Option (List ℕ) → Type 0
SameFault head m0 left0 m left = Told2 left0 left (λ l0 l. (clip_in head m l).fault ≡ (clip_in head m0 l0).fault)

pub fault_first : (head : Head) (m : ℕ) (left : Option (List ℕ)) → SameFault head m left m left
fault_first head m None = tt
fault_first head m (Some l) = refl

pub fault_next : (head : Head) (before m0 m m' : ℕ) (left0 left left' : Option (List ℕ)) (found : Option Picture) (p : Picture) → is_some left ≡ is_some left0 → found ≡ Some p → TakeGives head before m left left' (Ok found) → m' + 1 ≡ m → SameFault head m0 left0 m left → SameFault head m0 left0 m' left'
fault_next head before m0 m m' None left left' found p tells e t count same = tt
fault_next head before m0 m m' (Some l0) left None found p tells e t count same = tt
fault_next head before m0 m m' (Some l0) None (Some l') found p tells e t count same = absurd (not_told tells)
fault_next head before m0 m m' (Some l0) (Some l) (Some l') None p tells e t count same = absurd cc
fault_next head before m0 zero m' (Some l0) (Some l) (Some l') (Some f) p tells e t count same = absurd (omega (arith, count))
fault_next head before m0 (suc m) m' (Some l0) (Some l) (Some l') (Some f) p tells e t count same =
    let own : picture_at head l ≡ Some (f, l') = t.1 in
    let k : m ≡ m' = omega (arith, count) in
    let P : ℕ → Type 0 = λ n. (clip_in head n l').fault ≡ (clip_in head m0 l0).fault in
    subst P k (sym (ap (λ (c : Clip). c.fault) (clip_some head m l l' f own)) ∙ same)

pub fault_stops : (head : Head) (before0 before m0 m : ℕ) (left0 left left' : Option (List ℕ)) (why : RunStop) → is_some left ≡ is_some left0 → Carries before0 left0 before left → TakeGives head before m left left' (Err why) → SameFault head m0 left0 m left → FinishGives head before0 m0 left0 left' (Err why)
fault_stops head before0 before m0 m left0 left left' (stop.BadScript line) tells of t same = absurd t
fault_stops head before0 before m0 m left0 left left' stop.Out tells of t same = absurd t
fault_stops head before0 before m0 m left0 left left' (stop.Diary fault) tells of t same = absurd t
fault_stops head before0 before m0 m left0 left left' stop.ReadFault tells of t same = tt
fault_stops head before0 before m0 m left0 left left' stop.Memory tells of t same = tt
fault_stops head before0 before m0 m None left left' (stop.BadInput place why) tells of t same = tt
fault_stops head before0 before m0 m None left left' stop.TooMany tells of t same = tt
fault_stops head before0 before m0 m None left left' stop.TooLong tells of t same = tt
fault_stops head before0 before m0 m (Some l0) None left' (stop.BadInput place why) tells of t same = absurd (not_told tells)
fault_stops head before0 before m0 m (Some l0) None left' stop.TooMany tells of t same = absurd (not_told tells)
fault_stops head before0 before m0 m (Some l0) None left' stop.TooLong tells of t same = absurd (not_told tells)
fault_stops head before0 before m0 m (Some l0) (Some l) left' (stop.BadInput place why) tells of t same =
    let flaw = picture_flaw l in
    (flaw, sym same ∙ ap (λ (c : Clip). c.fault) (clip_broken head m l t.0 t.1.0), of flaw place why t.1.1)
fault_stops head before0 before m0 m (Some l0) (Some l) None stop.TooMany tells of t same = absurd t.2.1
fault_stops head before0 before m0 m (Some l0) (Some l) (Some l') stop.TooMany tells of t same = sym same ∙ (ap (λ (c : Clip). c.fault) (clip_over head m l l' t.2.0 t.1 t.2.1) ∙ ap (λ (e : End). Some e) t.0)
fault_stops head before0 before m0 m (Some l0) (Some l) None stop.TooLong tells of t same = absurd t.2.1
fault_stops head before0 before m0 m (Some l0) (Some l) (Some l') stop.TooLong tells of t same = sym same ∙ (ap (λ (c : Clip). c.fault) (clip_over head m l l' t.2.0 t.1 t.2.1) ∙ ap (λ (e : End). Some e) t.0)

pub fault_none : (head : Head) (before0 before m0 m : ℕ) (left0 left left' : Option (List ℕ)) (found : Option Picture) → is_some left ≡ is_some left0 → found ≡ None → TakeGives head before m left left' (Ok found) → SameFault head m0 left0 m left → FinishGives head before0 m0 left0 left' (Ok tt)
fault_none head before0 before m0 m left0 left left' (Some f) tells e t same = absurd cc
fault_none head before0 before m0 m None left left' None tells e t same = (tt, t.1)
fault_none head before0 before m0 m (Some l0) None left' None tells e t same = absurd (not_told tells)
fault_none head before0 before m0 m (Some l0) (Some l) left' None tells e t same = (sym same ∙ ap (λ (c : Clip). c.fault) (clip_end head m l t.0), t.1)

pub finish_exit : (head : Head) (before0 m : ℕ) (left left' : Option (List ℕ)) (result : Result (Unit {0}) RunStop) (why : RunStop) → IsErrAnd result (λ e. e ≡ why) → FinishGives head before0 m left left' (Err why) → FinishGives head before0 m left left' result
finish_exit head before0 m left left' (Ok x) why h p = absurd h
finish_exit head before0 m left left' (Err e) why h p = subst (λ s. FinishGives head before0 m left left' (Err s)) (sym h) p

-- ---- a whole run

module _ {S : Type 0} (codec : Coding S) (head : Head) (lines : List Numbered) (gives : DiaryFault → Bool) (before0 : ℕ) where
  abbrev run_by : List Numbered → List ℕ → Run S × End
  run_by ls i = clip_run codec head i ls

  abbrev run_of : List ℕ → Run S × End
  run_of i = run_by lines i

  part_either : (i o : Option (List ℕ)) → Told2 i o (λ l p. PartlyOf codec head (run_of l).0.events p) → ToldBoth codec head lines i o (PartlyOrNot codec head lines)
  part_either None o h = tt
  part_either (Some l) None h = tt
  part_either (Some l) (Some p) h = inr h

  nothing_either : (i o : Option (List ℕ)) → IfSome o (λ xs. xs ≡ []) → ToldBoth codec head lines i o (PartlyOrNot codec head lines)
  nothing_either None o h = tt
  nothing_either (Some l) None h = tt
  nothing_either (Some l) (Some p) h = inl h

  -- what a run gives that stops
  pub halts_gives : (i o : Option (List ℕ)) (why : RunStop) → Halts codec head gives before0 i o run_by lines why → RunGives codec head lines gives before0 (end_of why) i o
  halts_gives i o (stop.BadInput place w) h = h
  halts_gives i o (stop.BadScript line) h = h
  halts_gives i o stop.TooMany h = h
  halts_gives i o stop.TooLong h = inl h
  halts_gives i o stop.ReadFault h = h
  halts_gives i o stop.Out h = h
  halts_gives i o (stop.Diary diary.Failed) h = (h.0, part_either i o h.1)
  halts_gives i o (stop.Diary diary.TooLong) h = inr (h.0, part_either i o h.1)
  halts_gives i o (stop.Diary diary.Memory) h = part_either i o h.1
  halts_gives i o stop.Memory h = part_either i o h

  -- before the header is written
  pub nothing_memory : (i o : Option (List ℕ)) (why : RunStop) → why ≡ stop.Memory → IfSome o (λ xs. xs ≡ []) → RunGives codec head lines gives before0 (end_of why) i o
  nothing_memory i o why e h = subst (λ (s : RunStop). RunGives codec head lines gives before0 (end_of s) i o) (sym e) (nothing_either i o h)

  start_text : out_text {S = S} head start ≡ head_text head
  start_text = append-nil (head_text head)

  first_text : out_text head (after codec (session_of head) []) ≡ head_text head
  unfolding after
  first_text = start_text

  -- the header was written, and no event came
  header_either : (i old new : Option (List ℕ)) → is_some new ≡ is_some old → IfSome old (λ xs. xs ≡ []) → Appends old new (head_text head) → ToldBoth codec head lines i new (PartlyOrNot codec head lines)
  header_either None old new tells none w = tt
  header_either (Some l) old None tells none w = tt
  header_either (Some l) None (Some o) tells none w = absurd (not_told (sym tells))
  header_either (Some l) (Some z) (Some o) tells none w =
      inr ((clip_run codec head l lines).0.events, ([], sym (append-nil _), w ∙ (ap (λ (xs : List ℕ). xs ++ head_text head) none ∙ sym first_text)))

  pub header_noted : (i old new : Option (List ℕ)) (why : RunStop) → IsNoted gives (Err why) → is_some new ≡ is_some old → IfSome old (λ xs. xs ≡ []) → Appends old new (head_text head) → RunGives codec head lines gives before0 (end_of why) i new
  header_noted i old new (stop.BadInput place why) n tells none w = absurd n
  header_noted i old new (stop.BadScript line) n tells none w = absurd n
  header_noted i old new stop.TooMany n tells none w = absurd n
  header_noted i old new stop.TooLong n tells none w = absurd n
  header_noted i old new stop.ReadFault n tells none w = absurd n
  header_noted i old new stop.Out n tells none w = absurd n
  header_noted i old new (stop.Diary diary.Failed) n tells none w = (n, header_either i old new tells none w)
  header_noted i old new (stop.Diary diary.TooLong) n tells none w = inr (n, header_either i old new tells none w)
  header_noted i old new (stop.Diary diary.Memory) n tells none w = header_either i old new tells none w
  header_noted i old new stop.Memory n tells none w = absurd n

  -- the header wasn't written whole
  pub header_cut : (i old new : Option (List ℕ)) → is_some new ≡ is_some old → IfSome old (λ xs. xs ≡ []) → ((n : ℕ) × (n ≤ length (head_text head)) × Appends old new (take n (head_text head))) → RunGives codec head lines gives before0 (end_of stop.Out) i new
  header_cut None old new tells none w = tt
  header_cut (Some l) old None tells none w = tt
  header_cut (Some l) None (Some o) tells none w = absurd (not_told (sym tells))
  header_cut (Some l) (Some z) (Some o) tells none w =
      (w.0, (head_text head, ((run_of l).0.events, ([], sym (append-nil (run_of l).0.events), sym first_text)), w.2 ∙ ap (λ (xs : List ℕ). xs ++ take w.0 (head_text head)) none))

  -- a session in which nothing happened, and whose header is written
  pub begun_here : (b : CountedParts S) (d u : Marks) (old new : Option (List ℕ)) → Stands codec (session_of head) b.world [] → b.counts ≡ no_counts → d ≡ record { marks = []; known = 0 } → u ≡ record { marks = []; known = 0 } → is_some new ≡ is_some old → IfSome old (λ xs. xs ≡ []) → Appends old new (head_text head) → IsAt codec head b d u new (begun [])
  unfolding after
  begun_here b d u old new stands counts no_downs no_ups tells none w = record {
    running = record { stands = stands; counts = counts; world = refl; shown = header_shown old new tells none w };
    downs_are = subst (λ (m : Marks). AreNamed downs_in [] m) (sym no_downs) (record { marked = λ k. refl; known = λ k low high. absurd (omega (arith, low, high)) });
    ups_are = subst (λ (m : Marks). AreNamed ups_in [] m) (sym no_ups) (record { marked = λ k. refl; known = λ k low high. absurd (omega (arith, low, high)) });
  }
    where
      header_shown : (old new : Option (List ℕ)) → is_some new ≡ is_some old → IfSome old (λ xs. xs ≡ []) → Appends old new (head_text head) → IfSome new (λ o. o ≡ out_text {S = S} head start)
      header_shown old None tells none w = tt
      header_shown None (Some o) tells none w = absurd (not_told (sym tells))
      header_shown (Some z) (Some o) tells none w = w ∙ (ap (λ (xs : List ℕ). xs ++ head_text head) none ∙ sym start_text)

  -- all lines were run: how the input ends decides
  end_at : (m : ℕ) (l : List ℕ) (s : Run S) (fault : Option End) → (clip_in head m l).fault ≡ fault → onward codec head m l [] s ≡ (record s { left = (clip_in head m l).pictures }, or_end fault Done)
  end_at m l s fault e = ap (λ (f : Option End). let t : Run S × End = (record s { left = (clip_in head m l).pictures }, or_end f Done) in t) e

  ends_whole : (held : Option (List ℕ)) (t : Run S × End) (q s : Run S) (end : End) → t ≡ (q, end) → q.world ≡ s.world → IfSome held (λ o. o ≡ out_text head s.world) → EndsAs codec head held end t
  ends_whole None t q s end e same shown = (ap (λ (x : Run S × End). x.1) e, tt)
  ends_whole (Some o) t q s end e same shown = (ap (λ (x : Run S × End). x.1) e, shown ∙ sym (ap (λ (x : Run S × End). out_text head x.0.world) e ∙ ap (λ w. out_text head w) same))

  pub finish_halts : (before m : ℕ) (i left left' held : Option (List ℕ)) (s : Run S) (b : CountedParts S) (why : RunStop) → is_some left ≡ is_some i → Carries before0 i before left → IsRunning codec head b held s → Told2 i left (λ i l. run_of i ≡ onward codec head m l [] s) → FinishGives head before m left left' (Err why) → RunGives codec head lines gives before0 (end_of why) i held
  finish_halts before m i left left' held s b why tells of is told f = halts_gives i held why (finished i left why tells of told f)
    where
      finished : (i left : Option (List ℕ)) (why : RunStop) → is_some left ≡ is_some i → Carries before0 i before left → Told2 i left (λ i l. run_of i ≡ onward codec head m l [] s) → FinishGives head before m left left' (Err why) → Halts codec head gives before0 i held run_by lines why
      finished i left (stop.BadScript line) tells of told f = absurd f
      finished i left stop.Out tells of told f = absurd f
      finished i left (stop.Diary fault) tells of told f = absurd f
      finished None left (stop.BadInput place w) tells of told f = tt
      finished None left stop.TooMany tells of told f = tt
      finished None left stop.TooLong tells of told f = tt
      finished None left stop.ReadFault tells of told f = tt
      finished None left stop.Memory tells of told f = tt
      finished (Some j) None why tells of told f = absurd (not_told tells)
      finished (Some j) (Some l) (stop.BadInput place w) tells of told f = (f.0, (ends_whole held (run_of j) _ s (BadInput f.0) (told ∙ end_at m l s (Some (BadInput f.0)) f.1) refl is.shown, of f.0 place w f.2))
      finished (Some j) (Some l) stop.TooMany tells of told f = ends_whole held (run_of j) _ s TooMany (told ∙ end_at m l s (Some TooMany) f) refl is.shown
      finished (Some j) (Some l) stop.TooLong tells of told f = ends_whole held (run_of j) _ s TooLong (told ∙ end_at m l s (Some TooLong) f) refl is.shown
      finished (Some j) (Some l) stop.ReadFault tells of told f = read_failed held (ap (λ (t : Run S × End). t.0.events) told) is.shown
        where
          read_failed : (held : Option (List ℕ)) → (run_of j).0.events ≡ s.events → IfSome held (λ o. o ≡ out_text head s.world) → IfSome held (λ o. ToNextOf codec head (λ ls. (run_by ls j).0.events) lines o)
          read_failed None e shown = tt
          read_failed (Some o) e shown = ([], (s.events, e, inl (inl refl), shown ∙ ap (λ w. out_text head w) is.world))
      finished (Some j) (Some l) stop.Memory tells of told f = memory_lacked held (ap (λ (t : Run S × End). t.0.events) told) is.shown
        where
          memory_lacked : (held : Option (List ℕ)) → (run_of j).0.events ≡ s.events → IfSome held (λ o. o ≡ out_text head s.world) → IfSome held (λ o. PartlyOf codec head (run_of j).0.events o)
          memory_lacked None e shown = tt
          memory_lacked (Some o) e shown = ([], (s.events, e, shown ∙ ap (λ w. out_text head w) is.world))

  -- what was counted is what the run comes to
  pub summary_is : (held : Option (List ℕ)) (s : Run S) (b : CountedParts S) (summary : Summary) → IsRunning codec head b held s
      → ((head : Head) (events : List WorldEvent) → Stands codec (session_of head) b.world events → summary ≡ summary_with b.counts (length (sent (after codec (session_of head) events)))) → summary ≡ summary_of s.world
  summary_is held s b summary is said =
      said head s.events is.stands
      ∙ (ap (λ (w : WorldPast S). summary_with b.counts (length (sent w))) (sym is.world) ∙ ap (λ (c : Counts). summary_with c (length (sent s.world))) is.counts)

  -- the input was read to its end
  pub done_gives : (before m : ℕ) (i left left' held : Option (List ℕ)) (s : Run S) (b : CountedParts S) (summary : Summary) → is_some left ≡ is_some i → IsRunning codec head b held s → Told2 i left (λ i l. run_of i ≡ onward codec head m l [] s) → FinishGives head before m left left' (Ok tt) → summary ≡ summary_of s.world
      → IfSome i (λ i. Ends codec head lines Done i held × (summary ≡ summary_of (run_of i).0.world))
  done_gives before m None left left' held s b summary tells is told f counted = tt
  done_gives before m (Some j) None left' held s b summary tells is told f counted = absurd (not_told tells)
  done_gives before m (Some j) (Some l) left' held s b summary tells is told f counted =
      let at : run_of j ≡ (record s { left = (clip_in head m l).pictures }, Done) = told ∙ end_at m l s None f.0 in
      (ends_whole held (run_of j) _ s Done at refl is.shown, counted ∙ ap (λ (t : Run S × End). summary_of t.0.world) (sym at))

  -- the last line wasn't given
  pub last_noted : (m : ℕ) (i left held : Option (List ℕ)) (s : Run S) (b : CountedParts S) (why : RunStop) → is_some left ≡ is_some i → IsRunning codec head b held s → Told2 i left (λ i l. run_of i ≡ onward codec head m l [] s) → IsNoted gives (Err why) → RunGives codec head lines gives before0 (end_of why) i held
  last_noted m i left held s b why tells is told n = halts_gives i held why (noted i left why tells told n)
    where
      part : (held : Option (List ℕ)) (j : List ℕ) → (run_of j).0.events ≡ s.events → IfSome held (λ o. o ≡ out_text head s.world) → IfSome held (λ o. PartlyOf codec head (run_of j).0.events o)
      part None j e shown = tt
      part (Some o) j e shown = ([], (s.events, e, shown ∙ ap (λ w. out_text head w) is.world))

      noted : (i left : Option (List ℕ)) (why : RunStop) → is_some left ≡ is_some i → Told2 i left (λ i l. run_of i ≡ onward codec head m l [] s) → IsNoted gives (Err why) → Halts codec head gives before0 i held run_by lines why
      noted i left (stop.BadInput place w) tells told n = absurd n
      noted i left (stop.BadScript line) tells told n = absurd n
      noted i left stop.TooMany tells told n = absurd n
      noted i left stop.TooLong tells told n = absurd n
      noted i left stop.ReadFault tells told n = absurd n
      noted i left stop.Out tells told n = absurd n
      noted None left (stop.Diary fault) tells told n = (n, tt)
      noted (Some j) None (stop.Diary fault) tells told n = absurd (not_told tells)
      noted (Some j) (Some l) (stop.Diary fault) tells told n = (n, part held j (ap (λ (t : Run S × End). t.0.events) told) is.shown)
      noted i left stop.Memory tells told n = absurd n

  -- ---- the same by the facts that the calls give

  pub told_start : (m m' : ℕ) (i left : Option (List ℕ)) (all : List Numbered) (s : Run S) → m ≡ most head → all ≡ lines → Told2 i left (λ i l. onward codec head m i all (begun []) ≡ onward codec head m' l [] s) → Told2 i left (λ i l. run_of i ≡ onward codec head m' l [] s)
  told_start m m' i left all s e same told =
      subst (λ (ls : List Numbered). Told2 i left (λ i l. onward codec head (most head) i ls (begun []) ≡ onward codec head m' l [] s)) same
      (subst (λ (k : ℕ). Told2 i left (λ i l. onward codec head k i all (begun []) ≡ onward codec head m' l [] s)) e told)

  pub run_exit : (i o : Option (List ℕ)) (result : Result Summary RunStop) (why : RunStop) → IsErrAnd result (λ e. e ≡ why) → RunGives codec head lines gives before0 (end_of why) i o → RunGives codec head lines gives before0 (run_end result) i o
  run_exit i o (Ok x) why h p = absurd h
  run_exit i o (Err e) why h p = subst (λ (s : RunStop). RunGives codec head lines gives before0 (end_of s) i o) (sym h) p

  -- a line stopped the run
  pub lines_gives : (m : ℕ) (i o : Option (List ℕ)) (all : List Numbered) (result : Result Summary RunStop) (why : RunStop) → m ≡ most head → all ≡ lines → IsErrAnd result (λ e. e ≡ why) → Halts codec head gives before0 i o (λ ls l. onward codec head m l ls (begun [])) all why → RunGives codec head lines gives before0 (run_end result) i o
  lines_gives m i o all result why e same h p =
      run_exit i o result why h
      (halts_gives i o why (subst (λ (xs : List Numbered). Halts codec head gives before0 i o (λ ls l. onward codec head (most head) l ls (begun [])) xs why) same (subst (λ (k : ℕ). Halts codec head gives before0 i o (λ ls l. onward codec head k l ls (begun [])) all why) e p)))

  -- the rest of the input stopped the run
  pub finish_gives : (before : ℕ) (h : Head) (m m' : ℕ) (i left left' held : Option (List ℕ)) (all : List Numbered) (b : CountedParts S) (d u : Marks) (result : Result Summary RunStop) (why : RunStop) → h ≡ head → m ≡ most head → all ≡ lines → is_some left ≡ is_some i
      → ((s : Run S) × (IsAt codec head b d u held s × Told2 i left (λ i l. onward codec head m i all (begun []) ≡ onward codec head m' l [] s))) → IsErrAnd result (λ e. e ≡ why) → Carries before0 i before left → FinishGives h before m' left left' (Err why) → RunGives codec head lines gives before0 (run_end result) i held
  finish_gives before h m m' i left left' held all b d u result why same_head e same tells s is of f =
      run_exit i held result why is
      (finish_halts before m' i left left' held s.0 b why tells of s.1.0.running (told_start m m' i left all s.0 e same s.1.1) (subst (λ x. FinishGives x before m' left left' (Err why)) same_head f))

  -- the last line stopped the run
  pub note_stops : (m m' : ℕ) (i left held : Option (List ℕ)) (all : List Numbered) (b : CountedParts S) (d u : Marks) (result : Result Summary RunStop) (why : RunStop) → m ≡ most head → all ≡ lines → is_some left ≡ is_some i
      → ((s : Run S) × (IsAt codec head b d u held s × Told2 i left (λ i l. onward codec head m i all (begun []) ≡ onward codec head m' l [] s))) → IsErrAnd result (λ e. e ≡ why) → IsNoted gives (Err why) → RunGives codec head lines gives before0 (run_end result) i held
  note_stops m m' i left held all b d u result why e same tells s is n =
      run_exit i held result why is (last_noted m' i left held s.0 b why tells s.1.0.running (told_start m m' i left all s.0 e same s.1.1) n)

  -- all went well
  pub well_gives : (before : ℕ) (h : Head) (m m' : ℕ) (i left left' held : Option (List ℕ)) (all : List Numbered) (b : CountedParts S) (d u : Marks) (summary : Summary) → h ≡ head → m ≡ most head → all ≡ lines → is_some left ≡ is_some i
      → ((s : Run S) × (IsAt codec head b d u held s × Told2 i left (λ i l. onward codec head m i all (begun []) ≡ onward codec head m' l [] s))) → FinishGives h before m' left left' (Ok tt)
      → ((head : Head) (events : List WorldEvent) → Stands codec (session_of head) b.world events → summary ≡ summary_with b.counts (length (sent (after codec (session_of head) events)))) → RunGives codec head lines gives before0 (run.Ok summary) i held
  well_gives before h m m' i left left' held all b d u summary same_head e same tells s f said =
      done_gives before m' i left left' held s.0 b summary tells s.1.0.running (told_start m m' i left all s.0 e same s.1.1) (subst (λ x. FinishGives x before m' left left' (Ok tt)) same_head f) (summary_is held s.0 b summary s.1.0.running said)

-- ---- causes

pub read_cause : (a b : ℕ) (why : RunStop) → HasCause {A = Result Summary RunStop} (Err stop.ReadFault) a b (Err why) → HasCause run.ReadFault a b (end_of why)
read_cause a b why h = record { later = h.later; rose = λ e. h.rose (ap (λ (s : RunStop). Err s) (is_read why e)) }
  where
    is_read : (why : RunStop) → end_of why ≡ run.ReadFault → why ≡ stop.ReadFault
    is_read (stop.BadInput place w) e = absurd cc
    is_read (stop.BadScript line) e = absurd cc
    is_read stop.TooMany e = absurd cc
    is_read stop.TooLong e = absurd cc
    is_read stop.ReadFault e = refl
    is_read stop.Out e = absurd cc
    is_read (stop.Diary diary.Failed) e = absurd cc
    is_read (stop.Diary diary.TooLong) e = absurd cc
    is_read (stop.Diary diary.Memory) e = absurd cc
    is_read stop.Memory e = absurd cc

pub out_cause : (a b : ℕ) (why : RunStop) → HasCause {A = Result Summary RunStop} (Err stop.Out) a b (Err why) → HasCause (run.WriteFault Out) a b (end_of why)
out_cause a b why h = record { later = h.later; rose = λ e. h.rose (ap (λ (s : RunStop). Err s) (is_out why e)) }
  where
    is_out : (why : RunStop) → end_of why ≡ run.WriteFault Out → why ≡ stop.Out
    is_out (stop.BadInput place w) e = absurd cc
    is_out (stop.BadScript line) e = absurd cc
    is_out stop.TooMany e = absurd cc
    is_out stop.TooLong e = absurd cc
    is_out stop.ReadFault e = absurd cc
    is_out stop.Out e = refl
    is_out (stop.Diary diary.Failed) e = absurd cc
    is_out (stop.Diary diary.TooLong) e = absurd cc
    is_out (stop.Diary diary.Memory) e = absurd cc
    is_out stop.Memory e = absurd cc

pub journal_cause : (a b : ℕ) (why : RunStop) → HasCause {A = Result Summary RunStop} (Err (stop.Diary diary.Failed)) a b (Err why) → HasCause (run.WriteFault Journal) a b (end_of why)
journal_cause a b why h = record { later = h.later; rose = λ e. h.rose (ap (λ (s : RunStop). Err s) (is_journal why e)) }
  where
    is_journal : (why : RunStop) → end_of why ≡ run.WriteFault Journal → why ≡ stop.Diary diary.Failed
    is_journal (stop.BadInput place w) e = absurd cc
    is_journal (stop.BadScript line) e = absurd cc
    is_journal stop.TooMany e = absurd cc
    is_journal stop.TooLong e = absurd cc
    is_journal stop.ReadFault e = absurd cc
    is_journal stop.Out e = absurd cc
    is_journal (stop.Diary diary.Failed) e = refl
    is_journal (stop.Diary diary.TooLong) e = absurd cc
    is_journal (stop.Diary diary.Memory) e = absurd cc
    is_journal stop.Memory e = absurd cc

pub end_at_stop : (why : RunStop) (left : Option (List ℕ)) → AtEnd (end_of why) left
end_at_stop (stop.BadInput place w) left = tt
end_at_stop (stop.BadScript line) left = tt
end_at_stop stop.TooMany left = tt
end_at_stop stop.TooLong left = tt
end_at_stop stop.ReadFault left = tt
end_at_stop stop.Out left = tt
end_at_stop (stop.Diary diary.Failed) left = tt
end_at_stop (stop.Diary diary.TooLong) left = tt
end_at_stop (stop.Diary diary.Memory) left = tt
end_at_stop stop.Memory left = tt

-- ---- exits

pub if_err : {X : Type 0} (P : RunStop → Type 0) (result : Result X RunStop) (why : RunStop) → IsErrAnd result (λ e. e ≡ why) → P why → IfErr result P
if_err P (Ok x) why h p = absurd h
if_err P (Err e) why h p = subst P (sym h) p

pub on_ok : {X : Type 0} (A : Type 0) (result : Result X RunStop) → A → OnOk result A
on_ok A (Ok x) a = a
on_ok A (Err e) a = tt

pub open_stops : {S : Type 0} (codec : Coding S) (head : Head) (lines : List Numbered) (gives : DiaryFault → Bool) (before0 : ℕ) (i old new : Option (List ℕ)) (why : RunStop) → is_some new ≡ is_some old → IfSome old (λ xs. xs ≡ []) → Opened old new (head_text head) (Err why) → RunGives codec head lines gives before0 (end_of why) i new
open_stops codec head lines gives before0 i old new (stop.BadInput place w) tells none p = absurd p
open_stops codec head lines gives before0 i old new (stop.BadScript line) tells none p = absurd p
open_stops codec head lines gives before0 i old new stop.TooMany tells none p = absurd p
open_stops codec head lines gives before0 i old new stop.TooLong tells none p = absurd p
open_stops codec head lines gives before0 i old new stop.ReadFault tells none p = absurd p
open_stops codec head lines gives before0 i old new stop.Out tells none p = header_cut codec head lines gives before0 i old new tells none p
open_stops codec head lines gives before0 i old new (stop.Diary fault) tells none p = absurd p
open_stops codec head lines gives before0 i old new stop.Memory tells none p = absurd p
