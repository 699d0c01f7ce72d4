-- The pictures of a `rest`, one after the other.
use Rattle.std.proofs.Common.{◌≡◌, ℕ, zero, suc, ◌+◌, ◌*◌, ◌/◌, ◌≤◌, Bool, true, false, List, [], ◌∷◌, ◌++◌, Option, Some, None, Result, Ok, Err, IfSome, is_some, refl, ap, sym, ◌∙◌, subst, arith, append_assoc, inl, inr}
use Rattle.std.specs.Result.{IsErrAnd}
use Rattle.sal_base.specs.declared.picture.Picture.{Picture}
use Rattle.sal_codec.specs.Coding.{Coding}
use Rattle.sal_io.specs.Calls.{HasCause}
use Rattle.sal_y4m.specs.declared.head.Head.{Head}
use Rattle.sal_y4m.specs.Grammar.{picture_at, picture_flaw}
use Rattle.sal_script.specs.declared.line.ScriptLine.TheVariants.{Rest}
use Rattle.sal_script.specs.Numbered.{Numbered}
use Rattle.sal_run.specs.CountedParts.{CountedParts}
use Rattle.sal_world.specs.World.{WorldEvent, after}
use Rattle.sal_world.specs.World.{Starts}
use Rattle.sal_world.specs.Script.{Run, with_event, next_picture, rest}
use Rattle.sal_world.specs.declared.diary.DiaryFault.{DiaryFault}
use Rattle.sal_run.specs.declared.stop.RunStop.{RunStop}
use Rattle.sal_run.specs.declared.stop.RunStop.TheVariants as stop
use Rattle.sal_run.specs.Clip.{End, BadInput, TooMany, TooLong, over, Clip}
use Rattle.sal_run.specs.Loop.{session_of, out_text}
use Rattle.sal_run.specs.Marks.{Marks}
use Rattle.sal_run.specs.Turns.{is_late, exchange, one_turn}
use Rattle.sal_run.specs.Running.{IsRunning, Stopped, IsAt}
use Rattle.sal_run.specs.Place.{Carries}
use Rattle.sal_run.specs.Input.{clip_in, TakeGives, Told2, onward, EndsAs, ToNextOf, Halts}
use Rattle.sal_run.proofs.Grow.{Grows, grows_none, grows_then, grows_event, chosen_kept}
use Rattle.sal_run.proofs.Steps.{stopped_later}
use Rattle.sal_run.proofs.Clips.{clip_some, clip_end, clip_broken, clip_over}
use Rattle.sal_run.proofs.Onward.{Follows, follows_none, follows_then, follows_lines, left_same, some_is, end_of_lines, run_from, ends_here, part_of, stopped_part, stopped_untold, rest_grows, turn_next, wait_grows}

not_told : false ≡ true → ⊥
not_told e = absurd cc

module _ {S : Type 0} (codec : Coding S) (head : Head) where
  -- ---- the loop of a rest

  abbrev time_of : ℕ
  time_of = (1000000 * head.rate.1) / head.rate.0

  abbrev rest_of : List Picture → Run S → Run S
  rest_of ps r = rest codec (session_of head) ps r

  abbrev empty : Run S → Run S
  empty r = record r { left = [] }

  -- what is left of the clip, from here, leads where all of it leads from the start
  pub record IsRest (m0 : ℕ) (l0 : List ℕ) (r : Run S) (m : ℕ) (l : List ℕ) (now : Run S) : Type 0 where
    pub run : rest_of (clip_in head m l).pictures now ≡ rest_of (clip_in head m0 l0).pictures (empty r)
    pub fault : (clip_in head m l).fault ≡ (clip_in head m0 l0).fault

  pub record RestLeft (m0 : ℕ) (left0 : Option (List ℕ)) (r : Run S) (m : ℕ) (left : Option (List ℕ)) (b : CountedParts S) (d u : Marks) (held : Option (List ℕ)) : Type 0 where
    pub now : Run S
    pub here : IsAt codec head b d u held now
    pub told : Told2 left0 left (λ l0 l. IsRest m0 l0 r m l now)

  told_first : (m : ℕ) (left : Option (List ℕ)) (r : Run S) → Told2 left left (λ l0 l. IsRest m l0 r m l (empty r))
  told_first m None r = tt
  told_first m (Some l) r = record { run = refl; fault = refl }

  pub rest_first : (m : ℕ) (left : Option (List ℕ)) (r : Run S) (b : CountedParts S) (d u : Marks) (held : Option (List ℕ)) → IsAt codec head b d u held r → RestLeft m left r m left b d u held
  rest_first m left r b d u held at = record {
    now = empty r;
    here = record { running = record { stands = at.running.stands; counts = at.running.counts; world = at.running.world; shown = at.running.shown }; downs_are = at.downs_are; ups_are = at.ups_are };
    told = told_first m left r;
  }

  told_next : (before : ℕ) (m0 : ℕ) (left0 : Option (List ℕ)) (r : Run S) (m m' : ℕ) (left left' : Option (List ℕ)) (now : Run S) (found : Option Picture) (p : Picture) → is_some left ≡ is_some left0 → found ≡ Some p → TakeGives head before m left left' (Ok found) → m' + 1 ≡ m
      → Told2 left0 left (λ l0 l. IsRest m0 l0 r m l now) → Told2 left0 left' (λ l0 l. IsRest m0 l0 r m' l (one_turn codec (session_of head) time_of p now))
  told_next before m0 None r m m' left left' now found p tells e t count told = tt
  told_next before m0 (Some l0) r m m' left None now found p tells e t count told = tt
  told_next before m0 (Some l0) r m m' None (Some l') now found p tells e t count told = absurd (not_told tells)
  told_next before m0 (Some l0) r m m' (Some l) (Some l') now None p tells e t count told = absurd cc
  told_next before m0 (Some l0) r zero m' (Some l) (Some l') now (Some f) p tells e t count told = absurd (omega (arith, count))
  told_next before m0 (Some l0) r (suc m) m' (Some l) (Some l') now (Some f) p tells e t count told =
      let own : picture_at head l ≡ Some (p, l') = t.1 ∙ ap (λ (y : Picture). let o : Option (Picture × List ℕ) = Some (y, l') in o) (some_is f p e) in
      let clip : clip_in head (suc m) l ≡ record { pictures = p ∷ (clip_in head m l').pictures; fault = (clip_in head m l').fault } = clip_some head m l l' p own in
      let same : m ≡ m' = omega (arith, count) in
      let P : ℕ → Type 0 = λ k. IsRest m0 l0 r k l' (one_turn codec (session_of head) time_of p now) in
      subst P same (record {
        run = sym (ap (λ (c : Clip). rest_of c.pictures now) clip) ∙ told.run;
        fault = sym (ap (λ (c : Clip). c.fault) clip) ∙ told.fault;
      })

  pub rest_next : (before : ℕ) (m0 : ℕ) (left0 : Option (List ℕ)) (r : Run S) (m m' : ℕ) (left left' : Option (List ℕ)) (b0 b : CountedParts S) (d0 u0 d u : Marks) (held0 held : Option (List ℕ)) (found : Option Picture) (p : Picture) (time : ℕ) (now : RestLeft m0 left0 r m left b0 d0 u0 held0) → is_some left ≡ is_some left0
      → found ≡ Some p → TakeGives head before m left left' (Ok found) → m' + 1 ≡ m → time ≡ time_of → IsAt codec head b d u held (one_turn codec (session_of head) time p now.now) → RestLeft m0 left0 r m' left' b d u held
  rest_next before m0 left0 r m m' left left' b0 b d0 u0 d u held0 held found p time now tells e t count same at = record {
    now = one_turn codec (session_of head) time_of p now.now;
    here = subst (λ (k : ℕ). IsAt codec head b d u held (one_turn codec (session_of head) k p now.now)) same at;
    told = told_next before m0 left0 r m m' left left' now.now found p tells e t count now.told;
  }

  -- where a rest leads
  rest_final : (n : ℕ) (more : List Numbered) (ps : List Picture) (fault : Option End) (r : Run S) → Follows (rest_of ps (empty r)) (run_from codec head (record { pictures = ps; fault = fault }) ((n, Rest) ∷ more) r).0
  rest_final n more ps None r = follows_lines codec head None more (rest_of ps (empty r))
  rest_final n more ps (Some end) r = follows_none (rest_of ps (empty r))

  rest_ends : (n : ℕ) (more : List Numbered) (ps : List Picture) (fault : Option End) (end : End) (r : Run S) → fault ≡ Some end → run_from codec head (record { pictures = ps; fault = fault }) ((n, Rest) ∷ more) r ≡ (rest_of ps (empty r), end)
  rest_ends n more ps None end r e = absurd cc
  rest_ends n more ps (Some x) end r e = ap (λ (y : End). (rest_of ps (empty r), y)) (some_is x end e)

  rest_goes_on : (n : ℕ) (more : List Numbered) (ps : List Picture) (fault : Option End) (r : Run S) → fault ≡ None → run_from codec head (record { pictures = ps; fault = fault }) ((n, Rest) ∷ more) r ≡ end_of_lines codec head None more (rest_of ps (empty r))
  rest_goes_on n more ps None r e = refl
  rest_goes_on n more ps (Some x) r e = absurd cc

  -- no picture is left, so that all of the rest was done
  all_done : (m0 : ℕ) (l0 : List ℕ) (r : Run S) (m : ℕ) (l : List ℕ) (now : Run S) (fault : Option End) → IsRest m0 l0 r m l now → clip_in head m l ≡ record { pictures = []; fault = fault } → (now ≡ rest_of (clip_in head m0 l0).pictures (empty r)) × ((clip_in head m0 l0).fault ≡ fault)
  all_done m0 l0 r m l now fault told clip = (sym (ap (λ (c : Clip). rest_of c.pictures now) clip) ∙ told.run, sym told.fault ∙ ap (λ (c : Clip). c.fault) clip)

  now_left : (m0 : ℕ) (l0 : List ℕ) (r now : Run S) → now ≡ rest_of (clip_in head m0 l0).pictures (empty r) → now.left ≡ []
  now_left m0 l0 r now e = ap (λ (x : Run S). x.left) e ∙ (rest_grows codec head (clip_in head m0 l0).pictures (empty r)).left

  told_end : (before : ℕ) (n m0 m m' : ℕ) (left0 left left' : Option (List ℕ)) (r now : Run S) (found : Option Picture) → is_some left ≡ is_some left0 → found ≡ None → TakeGives head before m left left' (Ok found)
      → Told2 left0 left (λ l0 l. IsRest m0 l0 r m l now) → Told2 left0 left' (λ l0 l'. (more : List Numbered) → onward codec head m0 l0 ((n, Rest) ∷ more) r ≡ onward codec head m' l' more now)
  told_end before n m0 m m' None left left' r now found tells e t told = tt
  told_end before n m0 m m' (Some l0) left None r now found tells e t told = tt
  told_end before n m0 m m' (Some l0) None (Some l') r now found tells e t told = absurd (not_told tells)
  told_end before n m0 m m' (Some l0) (Some l) (Some l') r now (Some f) tells e t told = absurd cc
  told_end before n m0 m m' (Some l0) (Some l) (Some l') r now None tells e t told =
      let done = all_done m0 l0 r m l now None told (clip_end head m l t.0) in
      λ more.
      rest_goes_on n more (clip_in head m0 l0).pictures (clip_in head m0 l0).fault r done.1
      ∙ (ap (λ (x : Run S). end_of_lines codec head None more x) (sym (left_same now [] (now_left m0 l0 r now done.0) ∙ done.0)) ∙ sym (ap (λ (c : Clip). run_from codec head c more now) (clip_end head m' l' t.1)))

  pub rest_end : (before : ℕ) (n m0 m m' : ℕ) (left0 left left' : Option (List ℕ)) (r : Run S) (b : CountedParts S) (d u : Marks) (held : Option (List ℕ)) (found : Option Picture) (now : RestLeft m0 left0 r m left b d u held) → is_some left ≡ is_some left0 → found ≡ None → TakeGives head before m left left' (Ok found)
      → (s : Run S) × (IsAt codec head b d u held s × Told2 left0 left' (λ l0 l'. (more : List Numbered) → onward codec head m0 l0 ((n, Rest) ∷ more) r ≡ onward codec head m' l' more s))
  rest_end before n m0 m m' left0 left left' r b d u held found now tells e t = (now.now, (now.here, told_end before n m0 m m' left0 left left' r now.now found tells e t now.told))

  ends_in : (n m0 m : ℕ) (more : List Numbered) (l0 l : List ℕ) (r now : Run S) (held : Option (List ℕ)) (end end' : End) → IsRest m0 l0 r m l now → clip_in head m l ≡ record { pictures = []; fault = Some end' } → end' ≡ end → IfSome held (λ o. o ≡ out_text head now.world)
      → EndsAs codec head held end (onward codec head m0 l0 ((n, Rest) ∷ more) r)
  ends_in n m0 m more l0 l r now held end end' told clip same shown =
      let done = all_done m0 l0 r m l now (Some end') told clip in
      ends_here codec head held now now (onward codec head m0 l0 ((n, Rest) ∷ more) r) end
      (rest_ends n more (clip_in head m0 l0).pictures (clip_in head m0 l0).fault end r (done.1 ∙ ap (λ (x : End). Some x) same) ∙ ap (λ (x : Run S). let t : Run S × End = (x, end) in t) (sym done.0)) refl shown

  fault_case : (n : ℕ) (more : List Numbered) (ps : List Picture) (r now : Run S) (fault : Option End) (o : List ℕ) → now ≡ rest_of ps (empty r) → o ≡ out_text head (after codec (session_of head) now.events)
      → ToNextOf codec head (λ ls. (run_from codec head (record { pictures = ps; fault = fault }) ls r).0.events) ((n, Rest) ∷ more) o
  fault_case n more ps r now None o e shown =
      let f : Follows (rest_of ps (empty r)) (end_of_lines codec head None more (rest_of ps (empty r))).0 = follows_lines codec head None more (rest_of ps (empty r)) in
      let same : now.events ≡ (rest_of ps (empty r)).events = ap (λ (x : Run S). x.events) e in
      (f.later, (now.events, f.events ∙ ap (λ es. f.later ++ es) (sym same), inr ([], (n, (more, refl, same))), shown))
  fault_case n more ps r now (Some end) o e shown = ([], (now.events, ap (λ (x : Run S). x.events) (sym e), inl (inl refl), shown))

  read_case : (n m0 m : ℕ) (more : List Numbered) (l0 l : List ℕ) (r now : Run S) (o : List ℕ) (c : Clip) (ps : List Picture) → c ≡ clip_in head m l → c.pictures ≡ ps → IsRest m0 l0 r m l now → o ≡ out_text head (after codec (session_of head) now.events)
      → ToNextOf codec head (λ ls. (onward codec head m0 l0 ls r).0.events) ((n, Rest) ∷ more) o
  read_case n m0 m more l0 l r now o c [] own e told shown =
      let done : now ≡ rest_of (clip_in head m0 l0).pictures (empty r) = sym (ap (λ (qs : List Picture). rest_of qs now) (sym (ap (λ (x : Clip). x.pictures) own) ∙ e)) ∙ told.run in
      fault_case n more (clip_in head m0 l0).pictures r now (clip_in head m0 l0).fault o done shown
  read_case n m0 m more l0 l r now o c (p ∷ ps) own e told shown =
      let first : Run S = with_event codec (session_of head) (Starts p) now in
      let s : Run S = next_picture codec (session_of head) (is_late false) p now in
      let turn : Run S = one_turn codec (session_of head) time_of p now in
      let all : Run S = rest_of (clip_in head m0 l0).pictures (empty r) in
      let run : rest_of ps turn ≡ all = sym (ap (λ (qs : List Picture). rest_of qs now) (sym (ap (λ (x : Clip). x.pictures) own) ∙ e)) ∙ told.run in
      let g1 : Grows first s = chosen_kept codec (session_of head) (λ t. Grows first t) (λ x u t a. grows_event codec (session_of head) first x t a) (is_late false) first (grows_none first) in
      let g2 : Grows first turn = grows_then first s turn g1 (turn_next codec head time_of p now) in
      let g3 : Grows first (rest_of ps turn) = grows_then first turn (rest_of ps turn) g2 (rest_grows codec head ps turn) in
      let g : Grows first all = subst (λ (x : Run S). Grows first x) run g3 in
      let f : Follows all (onward codec head m0 l0 ((n, Rest) ∷ more) r).0 = rest_final n more (clip_in head m0 l0).pictures (clip_in head m0 l0).fault r in
      let events : (onward codec head m0 l0 ((n, Rest) ∷ more) r).0.events ≡ ((f.later ++ g.later) ++ Starts p ∷ []) ++ now.events =
      f.events ∙ (ap (λ es. f.later ++ es) g.events ∙ (sym (append_assoc f.later g.later (Starts p ∷ now.events)) ∙ sym (append_assoc (f.later ++ g.later) (Starts p ∷ []) now.events))) in
      ((f.later ++ g.later) ++ Starts p ∷ [], (now.events, events, inl (inr (p, (f.later ++ g.later, refl))), shown))

  read_told : (n m0 m : ℕ) (more : List Numbered) (l0 l : List ℕ) (r now : Run S) (b : CountedParts S) (held : Option (List ℕ)) → IsRest m0 l0 r m l now → IsRunning codec head b held now → IfSome held (λ o. ToNextOf codec head (λ ls. (onward codec head m0 l0 ls r).0.events) ((n, Rest) ∷ more) o)
  read_told n m0 m more l0 l r now b None told is = tt
  read_told n m0 m more l0 l r now b (Some o) told is = read_case n m0 m more l0 l r now o (clip_in head m l) (clip_in head m l).pictures refl refl told (is.shown ∙ ap (λ w. out_text head w) is.world)

  now_follows : (n m0 m : ℕ) (more : List Numbered) (l0 l : List ℕ) (r now : Run S) → IsRest m0 l0 r m l now → Follows now (onward codec head m0 l0 ((n, Rest) ∷ more) r).0
  now_follows n m0 m more l0 l r now told =
      let all : Run S = rest_of (clip_in head m0 l0).pictures (empty r) in
      let g : Grows now all = subst (λ (x : Run S). Grows now x) told.run (rest_grows codec head (clip_in head m l).pictures now) in
      follows_then now all _ (record { later = g.later; events = g.events }) (rest_final n more (clip_in head m0 l0).pictures (clip_in head m0 l0).fault r)

  module _ (gives : DiaryFault → Bool) (before0 : ℕ) where
    take_stops : (before : ℕ) (n m0 m : ℕ) (more : List Numbered) (left0 left left' : Option (List ℕ)) (r now : Run S) (b : CountedParts S) (held : Option (List ℕ)) (why : RunStop) → is_some left ≡ is_some left0 → Carries before0 left0 before left → TakeGives head before m left left' (Err why) → IsRunning codec head b held now
        → Told2 left0 left (λ l0 l. IsRest m0 l0 r m l now) → Halts codec head gives before0 left0 held (λ ls l. onward codec head m0 l ls r) ((n, Rest) ∷ more) why
    take_stops before n m0 m more left0 left left' r now b held (stop.BadScript line) tells of t is told = absurd t
    take_stops before n m0 m more left0 left left' r now b held stop.Out tells of t is told = absurd t
    take_stops before n m0 m more left0 left left' r now b held (stop.Diary fault) tells of t is told = absurd t
    take_stops before n m0 m more None left left' r now b held (stop.BadInput place why) tells of t is told = tt
    take_stops before n m0 m more None left left' r now b held stop.TooMany tells of t is told = tt
    take_stops before n m0 m more None left left' r now b held stop.TooLong tells of t is told = tt
    take_stops before n m0 m more None left left' r now b held stop.ReadFault tells of t is told = tt
    take_stops before n m0 m more None left left' r now b held stop.Memory tells of t is told = tt
    take_stops before n m0 m more (Some l0) None left' r now b held (stop.BadInput place why) tells of t is told = absurd (not_told tells)
    take_stops before n m0 m more (Some l0) None left' r now b held stop.TooMany tells of t is told = absurd (not_told tells)
    take_stops before n m0 m more (Some l0) None left' r now b held stop.TooLong tells of t is told = absurd (not_told tells)
    take_stops before n m0 m more (Some l0) None left' r now b held stop.ReadFault tells of t is told = absurd (not_told tells)
    take_stops before n m0 m more (Some l0) None left' r now b held stop.Memory tells of t is told = absurd (not_told tells)
    take_stops before n m0 m more (Some l0) (Some l) left' r now b held (stop.BadInput place why) tells of t is told =
        let flaw = picture_flaw l in
        (flaw, (ends_in n m0 m more l0 l r now held (BadInput flaw) (BadInput flaw) told (clip_broken head m l t.0 t.1.0) refl is.shown, of flaw place why t.1.1))
    take_stops before n m0 m more (Some l0) (Some l) None r now b held stop.TooMany tells of t is told = absurd t.2.1
    take_stops before n m0 m more (Some l0) (Some l) (Some l') r now b held stop.TooMany tells of t is told = ends_in n m0 m more l0 l r now held TooMany (over head) told (clip_over head m l l' t.2.0 t.1 t.2.1) t.0 is.shown
    take_stops before n m0 m more (Some l0) (Some l) None r now b held stop.TooLong tells of t is told = absurd t.2.1
    take_stops before n m0 m more (Some l0) (Some l) (Some l') r now b held stop.TooLong tells of t is told = ends_in n m0 m more l0 l r now held TooLong (over head) told (clip_over head m l l' t.2.0 t.1 t.2.1) t.0 is.shown
    take_stops before n m0 m more (Some l0) (Some l) left' r now b held stop.ReadFault tells of t is told = read_told n m0 m more l0 l r now b held told is
    take_stops before n m0 m more (Some l0) (Some l) left' r now b held stop.Memory tells of t is told = part_of codec head held b now _ is (now_follows n m0 m more l0 l r now told)

    pub rest_take_exit : (before : ℕ) (n m0 m : ℕ) (more : List Numbered) (left0 left left' : Option (List ℕ)) (r : Run S) (b : CountedParts S) (d u : Marks) (held : Option (List ℕ)) (why : RunStop) (now : RestLeft m0 left0 r m left b d u held) → is_some left ≡ is_some left0 → Carries before0 left0 before left → TakeGives head before m left left' (Err why)
        → Halts codec head gives before0 left0 held (λ ls l. onward codec head m0 l ls r) ((n, Rest) ∷ more) why
    rest_take_exit before n m0 m more left0 left left' r b d u held why now tells of t = take_stops before n m0 m more left0 left left' r now.now b held why tells of t now.here.running now.told

    turn_stops : (before : ℕ) (n m0 m m' : ℕ) (more : List Numbered) (left0 left left' : Option (List ℕ)) (r now : Run S) (held : Option (List ℕ)) (found : Option Picture) (p : Picture) (why : RunStop) → is_some left' ≡ is_some left → is_some left ≡ is_some left0 → found ≡ Some p → TakeGives head before m left left' (Ok found) → m' + 1 ≡ m
        → Told2 left0 left (λ l0 l. IsRest m0 l0 r m l now) → Stopped codec head gives held (one_turn codec (session_of head) time_of p now).events why → Halts codec head gives before0 left0 held (λ ls l. onward codec head m0 l ls r) ((n, Rest) ∷ more) why
    turn_stops before n m0 m m' more None left left' r now held found p why tells' tells e t count told p0 = stopped_untold codec head gives before0 held _ why (λ ls l. onward codec head m0 l ls r) ((n, Rest) ∷ more) p0
    turn_stops before n m0 m m' more (Some l0) None left' r now held found p why tells' tells e t count told p0 = absurd (not_told tells)
    turn_stops before n m0 m m' more (Some l0) (Some l) None r now held found p why tells' tells e t count told p0 = absurd (not_told tells')
    turn_stops before n m0 m m' more (Some l0) (Some l) (Some l') r now held found p why tells' tells e t count told p0 =
        let next : IsRest m0 l0 r m' l' (one_turn codec (session_of head) time_of p now) = told_next before m0 (Some l0) r m m' (Some l) (Some l') now found p tells e t count told in
        let f = now_follows n m0 m' more l0 l' r (one_turn codec (session_of head) time_of p now) next in
        stopped_part codec head gives before0 (Some l0) held (one_turn codec (session_of head) time_of p now).events f.later l0 why (λ ls l. onward codec head m0 l ls r) ((n, Rest) ∷ more) refl f.events p0

    -- what stops before the time passes
    pub exchange_stops : (held : Option (List ℕ)) (p : Picture) (time : ℕ) (q : Run S) (why : RunStop) → Stopped codec head gives held (exchange codec (session_of head) p q).events why → Stopped codec head gives held (one_turn codec (session_of head) time p q).events why
    exchange_stops held p time q why p0 =
        let g : Grows (exchange codec (session_of head) p q) (one_turn codec (session_of head) time p q) = wait_grows codec head time (exchange codec (session_of head) p q) in
        stopped_later codec head gives held (exchange codec (session_of head) p q).events (one_turn codec (session_of head) time p q).events g.later why g.events p0

    -- no step of a run is stopped by the input
    pub unread : {X : Type 0} (held : Option (List ℕ)) (events : List WorldEvent) (result : Result X RunStop) (why : RunStop) (n m : ℕ) → n ≤ m → IsErrAnd result (λ e. e ≡ why) → Stopped codec head gives held events why → HasCause (Err stop.ReadFault) n m result
    unread held events (Ok x) why n m le h p = absurd h
    unread held events (Err e) why n m le h p = record { later = le; rose = λ q. let same : why ≡ stop.ReadFault = cc in absurd (subst (λ (s : RunStop). Stopped codec head gives held events s) same p) }

    pub rest_turn_exit : (before : ℕ) (n m0 m m' : ℕ) (more : List Numbered) (left0 left left' : Option (List ℕ)) (r : Run S) (b : CountedParts S) (d u : Marks) (held0 held : Option (List ℕ)) (found : Option Picture) (p : Picture) (time : ℕ) (why : RunStop) (now : RestLeft m0 left0 r m left b d u held0)
        → is_some left' ≡ is_some left → is_some left ≡ is_some left0 → found ≡ Some p → TakeGives head before m left left' (Ok found) → m' + 1 ≡ m → time ≡ time_of → Stopped codec head gives held (one_turn codec (session_of head) time p now.now).events why
        → Halts codec head gives before0 left0 held (λ ls l. onward codec head m0 l ls r) ((n, Rest) ∷ more) why
    rest_turn_exit before n m0 m m' more left0 left left' r b d u held0 held found p time why now tells' tells e t count same p0 =
        turn_stops before n m0 m m' more left0 left left' r now.now held found p why tells' tells e t count now.told (subst (λ (k : ℕ). Stopped codec head gives held (one_turn codec (session_of head) k p now.now).events why) same p0)
