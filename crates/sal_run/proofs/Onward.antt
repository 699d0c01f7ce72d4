-- What one line makes of a run over an input.
use Rattle.std.proofs.Common.{◌≡◌, ℕ, zero, suc, ◌+◌, Bool, true, false, List, [], ◌∷◌, ◌++◌, length, Option, Some, None, Result, Ok, Err, IfSome, refl, ap, sym, ◌∙◌, subst, arith, append_assoc, inl, inr}
use Rattle.std.specs.Result.{IsErrAnd}
use Rattle.sal_base.specs.declared.picture.Picture.{Picture}
use Rattle.sal_codec.specs.Coding.{Coding}
use Rattle.sal_y4m.specs.declared.head.Head.{Head}
use Rattle.sal_y4m.specs.Grammar.{picture_at, picture_flaw}
use Rattle.sal_script.specs.declared.line.ScriptLine.{ScriptLine}
use Rattle.sal_script.specs.declared.line.ScriptLine.TheVariants.{Next, NextLate, Down, Up, DownAll, UpAll, Wait, Rest}
use Rattle.sal_script.specs.Numbered.{Numbered}
use Rattle.sal_sender.specs.Jobs.{Job}
use Rattle.sal_sender.specs.Choosing.{is_fine}
use Rattle.sal_run.specs.CountedParts.{CountedParts}
use Rattle.sal_world.specs.World.{WorldEvent, sent, acks, after}
use Rattle.sal_world.specs.World.{Starts}
use Rattle.sal_world.specs.Script.{Run, with_event, next_picture, down, up, down_all, up_all, wait, rest, is_number, line}
use Rattle.sal_world.specs.declared.diary.DiaryFault.{DiaryFault}
use Rattle.sal_run.specs.declared.stop.RunStop.{RunStop}
use Rattle.sal_run.specs.declared.stop.RunStop.TheVariants as stop
use Rattle.sal_run.specs.Clip.{End, BadInput, BadScript, TooMany, TooLong, over, Clip}
use Rattle.sal_run.specs.Loop.{session_of, out_text, or_end, ended}
use Rattle.sal_run.specs.Marks.{Marks}
use Rattle.sal_run.specs.Turns.{is_late, exchange, one_turn}
use Rattle.sal_run.specs.Running.{IsRunning, PartlyOf, Stopped, IsAt, Comes}
use Rattle.sal_run.specs.Input.{clip_in, TakeGives, next_said, onward, EndsAs, ToNextOf, Halts, LineGoes}
use Rattle.sal_run.proofs.Grow.{Grows, grows_none, grows_then, grows_event, shot_kept, chosen_kept, down_kept, up_kept, down_all_kept, up_all_kept, wait_kept, rest_kept}
use Rattle.sal_run.proofs.Steps.{stopped_later}
use Rattle.sal_run.proofs.Clips.{clip_some, clip_end, clip_broken, clip_over}

-- the events of a run come after those of another
pub record Follows {S : Type 0} (r s : Run S) : Type 0 where
  pub later : List WorldEvent
  pub events : s.events ≡ later ++ r.events

pub follows_none : {S : Type 0} (r : Run S) → Follows r r
follows_none r = record { later = []; events = refl }

pub follows_then : {S : Type 0} (r s t : Run S) → Follows r s → Follows s t → Follows r t
follows_then r s t a b = record { later = b.later ++ a.later; events = b.events ∙ (ap (λ es. b.later ++ es) a.events ∙ sym (append_assoc b.later a.later r.events)) }

follows_grown : {S : Type 0} (r s : Run S) → Grows r s → Follows r s
follows_grown r s g = record { later = g.later; events = g.events }

pub left_same : {S : Type 0} (s : Run S) (ps : List Picture) → s.left ≡ ps → record s { left = ps } ≡ s
left_same s ps e = ap (λ (x : List Picture). record s { left = x }) (sym e)

pub some_is : {A : Type 0} (x y : A) → Some x ≡ Some y → x ≡ y
some_is x y e = cc

pub some_fact : {X : Type 0} (A : Type 0) (found : Option X) (p : X) → found ≡ Some p → IfSome found (λ x. A) → A
some_fact A None p e h = absurd cc
some_fact A (Some q) p e h = h

pub some_has : {X : Type 0} (P : X → Type 0) (found : Option X) (p : X) → found ≡ Some p → IfSome found P → P p
some_has P None p e h = absurd cc
some_has P (Some q) p e h = subst P (some_is q p e) h

pub number_is : (b found : Bool) (k k' n n' : ℕ) → found ≡ is_number k' n' → found ≡ b → k' ≡ k → n' ≡ n → is_number k n ≡ b
number_is b found k k' n n' e h same_k same_n = ap (λ (x : ℕ). is_number x n) (sym same_k) ∙ (ap (λ (x : ℕ). is_number k' x) (sym same_n) ∙ (sym e ∙ h))

module _ {S : Type 0} (codec : Coding S) (head : Head) where
  step_grows : (r : Run S) (e : WorldEvent) (s : Run S) → Grows r s → Grows r (with_event codec (session_of head) e s)
  step_grows r e s g = grows_event codec (session_of head) r e s g

  pub shot_grows : (late : Job → Bool) (picture : Picture) (r : Run S) → Grows r (next_picture codec (session_of head) late picture r)
  shot_grows late picture r = shot_kept codec (session_of head) (λ s. Grows r s) (λ e s g. step_grows r e s g) late picture r (grows_none r)

  pub down_grows : (k : ℕ) (r : Run S) → Grows r (down codec (session_of head) k r)
  down_grows k r = down_kept codec (session_of head) (λ s. Grows r s) (λ e s g. step_grows r e s g) k r (grows_none r)

  pub up_grows : (k : ℕ) (r : Run S) → Grows r (up codec (session_of head) k r)
  up_grows k r = up_kept codec (session_of head) (λ s. Grows r s) (λ e s g. step_grows r e s g) k r (grows_none r)

  pub down_all_grows : (r : Run S) → Grows r (down_all codec (session_of head) r)
  down_all_grows r = down_all_kept codec (session_of head) (λ s. Grows r s) (λ e s g. step_grows r e s g) r (grows_none r)

  pub up_all_grows : (r : Run S) → Grows r (up_all codec (session_of head) r)
  up_all_grows r = up_all_kept codec (session_of head) (λ s. Grows r s) (λ e s g. step_grows r e s g) r (grows_none r)

  pub wait_grows : (time : ℕ) (r : Run S) → Grows r (wait codec (session_of head) time r)
  wait_grows time r = wait_kept codec (session_of head) (λ s. Grows r s) (λ e s g. step_grows r e s g) time r (grows_none r)

  pub rest_grows : (pictures : List Picture) (r : Run S) → Grows r (rest codec (session_of head) pictures r)
  rest_grows pictures r = rest_kept codec (session_of head) (λ s. Grows r s) (λ e s g. step_grows r e s g) pictures r (grows_none r)

  -- ---- one turn of a rest

  pub exchange_next : (picture : Picture) (r : Run S) → Grows (next_picture codec (session_of head) (is_late false) picture r) (exchange codec (session_of head) picture r)
  exchange_next picture r =
      let s : Run S = next_picture codec (session_of head) (is_late false) picture r in
      grows_then s (down_all codec (session_of head) s) _ (down_all_grows s) (up_all_grows (down_all codec (session_of head) s))

  pub turn_next : (time : ℕ) (picture : Picture) (r : Run S) → Grows (next_picture codec (session_of head) (is_late false) picture r) (one_turn codec (session_of head) time picture r)
  turn_next time picture r =
      let s : Run S = exchange codec (session_of head) picture r in
      grows_then (next_picture codec (session_of head) (is_late false) picture r) s _ (exchange_next picture r) (wait_grows time s)

  -- ---- all lines

  abbrev pub end_of_lines : Option End → List Numbered → Run S → Run S × End
  end_of_lines fault lines r = ended codec (session_of head) fault lines r

  next_follows : (late : Job → Bool) (fault : Option End) (more : List Numbered) (p : Picture) (ps : List Picture) (r : Run S) → ((t : Run S) → Follows t (end_of_lines fault more t).0) → Follows r (end_of_lines fault more (next_picture codec (session_of head) late p (record r { left = ps }))).0
  next_follows late fault more p ps r all =
      let q : Run S = record r { left = ps } in
      let s : Run S = next_picture codec (session_of head) late p q in
      let g : Grows q s = shot_grows late p q in
      follows_then r s _ (record { later = g.later; events = g.events }) (all s)

  down_step : (b : Bool) (fault : Option End) (n k : ℕ) (more : List Numbered) (r s : Run S) → Follows r s → ((t : Run S) → Follows t (end_of_lines fault more t).0) → is_number k (length (sent r.world)) ≡ b → s ≡ down codec (session_of head) k r → Follows r (end_of_lines fault ((n, Down k) ∷ more) r).0
  down_step true fault n k more r s a all e same = rw e (subst (λ x. Follows r (end_of_lines fault more x).0) same (follows_then r s _ a (all s)))
  down_step false fault n k more r s a all e same = rw e (follows_none r)

  up_step : (b : Bool) (fault : Option End) (n k : ℕ) (more : List Numbered) (r s : Run S) → Follows r s → ((t : Run S) → Follows t (end_of_lines fault more t).0) → is_number k (length (acks r.world)) ≡ b → s ≡ up codec (session_of head) k r → Follows r (end_of_lines fault ((n, Up k) ∷ more) r).0
  up_step true fault n k more r s a all e same = rw e (subst (λ x. Follows r (end_of_lines fault more x).0) same (follows_then r s _ a (all s)))
  up_step false fault n k more r s a all e same = rw e (follows_none r)

  next_case : (fault : Option End) (n : ℕ) (more : List Numbered) (r : Run S) (ps : List Picture) → r.left ≡ ps → ((t : Run S) → Follows t (end_of_lines fault more t).0) → Follows r (end_of_lines fault ((n, Next) ∷ more) r).0
  next_case fault n more r [] e all = rw e (follows_none (record r { left = [] }))
  next_case fault n more r (p ∷ ps) e all = rw e (next_follows (λ job. false) fault more p ps (record r { left = p ∷ ps }) all)

  late_case : (fault : Option End) (n : ℕ) (more : List Numbered) (r : Run S) (ps : List Picture) → r.left ≡ ps → ((t : Run S) → Follows t (end_of_lines fault more t).0) → Follows r (end_of_lines fault ((n, NextLate) ∷ more) r).0
  late_case fault n more r [] e all = rw e (follows_none (record r { left = [] }))
  late_case fault n more r (p ∷ ps) e all = rw e (next_follows is_fine fault more p ps (record r { left = p ∷ ps }) all)

  -- the events of all lines come after those before
  pub follows_lines : (fault : Option End) (lines : List Numbered) (r : Run S) → Follows r (end_of_lines fault lines r).0
  follows_lines fault [] r = follows_none r
  follows_lines fault ((n, Next) ∷ more) r = next_case fault n more r r.left refl (λ t. follows_lines fault more t)
  follows_lines fault ((n, NextLate) ∷ more) r = late_case fault n more r r.left refl (λ t. follows_lines fault more t)
  follows_lines fault ((n, Down k) ∷ more) r = down_step (is_number k (length (sent r.world))) fault n k more r (down codec (session_of head) k r) (follows_grown r _ (down_grows k r)) (λ t. follows_lines fault more t) refl refl
  follows_lines fault ((n, Up k) ∷ more) r = up_step (is_number k (length (acks r.world))) fault n k more r (up codec (session_of head) k r) (follows_grown r _ (up_grows k r)) (λ t. follows_lines fault more t) refl refl
  follows_lines fault ((n, DownAll) ∷ more) r = follows_then r _ _ (follows_grown r _ (down_all_grows r)) (follows_lines fault more (down_all codec (session_of head) r))
  follows_lines fault ((n, UpAll) ∷ more) r = follows_then r _ _ (follows_grown r _ (up_all_grows r)) (follows_lines fault more (up_all codec (session_of head) r))
  follows_lines fault ((n, Wait time) ∷ more) r = follows_then r _ _ (follows_grown r _ (wait_grows time r)) (follows_lines fault more (wait codec (session_of head) time r))
  follows_lines None ((n, Rest) ∷ more) r =
      let q : Run S = record r { left = [] } in
      let g : Grows q (rest codec (session_of head) r.left q) = rest_grows r.left q in
      follows_then r (rest codec (session_of head) r.left q) _ (record { later = g.later; events = g.events }) (follows_lines None more (rest codec (session_of head) r.left q))
  follows_lines (Some end) ((n, Rest) ∷ more) r =
      let q : Run S = record r { left = [] } in
      let g : Grows q (rest codec (session_of head) r.left q) = rest_grows r.left q in
      record { later = g.later; events = g.events }

  -- ---- what is left of an input

  abbrev pub run_from : Clip → List Numbered → Run S → Run S × End
  run_from c lines r = ended codec (session_of head) c.fault lines (record r { left = c.pictures })

  -- where no picture is left
  next_ends : (late : Bool) (n : ℕ) (more : List Numbered) (r : Run S) (fault : Option End) → run_from (record { pictures = []; fault = fault }) ((n, next_said late) ∷ more) r ≡ (record r { left = [] }, or_end fault (BadScript n))
  next_ends false n more r fault = refl
  next_ends true n more r fault = refl

  next_run : (late : Bool) (n : ℕ) (more : List Numbered) (r : Run S) (p : Picture) (ps : List Picture) (fault : Option End)
      → run_from (record { pictures = p ∷ ps; fault = fault }) ((n, next_said late) ∷ more) r ≡ end_of_lines fault more (next_picture codec (session_of head) (is_late late) p (record r { left = ps }))
  next_run false n more r p ps fault = refl
  next_run true n more r p ps fault = refl

  -- nothing happened any more
  pub ends_here : (held : Option (List ℕ)) (r q : Run S) (t : Run S × End) (end : End) → t ≡ (q, end) → q.world ≡ r.world → IfSome held (λ o. o ≡ out_text head r.world) → EndsAs codec head held end t
  ends_here None r q t end e same shown = (ap (λ (x : Run S × End). x.1) e, tt)
  ends_here (Some o) r q t end e same shown = (ap (λ (x : Run S × End). x.1) e, shown ∙ sym (ap (λ (x : Run S × End). out_text head x.0.world) e ∙ ap (λ w. out_text head w) same))

  pub part_of : (held : Option (List ℕ)) (b : CountedParts S) (r s : Run S) → IsRunning codec head b held r → Follows r s → IfSome held (PartlyOf codec head s.events)
  part_of None b r s is f = tt
  part_of (Some o) b r s is f = (f.later, (r.events, f.events, is.shown ∙ ap (λ w. out_text head w) is.world))

  -- the next thing that happens is that a picture is started, or nothing does
  to_next : (late : Bool) (n : ℕ) (more : List Numbered) (r : Run S) (c : Clip) (ps : List Picture) (o : List ℕ) → c.pictures ≡ ps → o ≡ out_text head (after codec (session_of head) r.events) → ToNextOf codec head (λ ls. (run_from c ls r).0.events) ((n, next_said late) ∷ more) o
  to_next late n more r c [] o e shown =
      let same : c ≡ record { pictures = []; fault = c.fault } = ap (λ (xs : List Picture). let d : Clip = record { pictures = xs; fault = c.fault } in d) e in
      let ends : run_from c ((n, next_said late) ∷ more) r ≡ (record r { left = [] }, or_end c.fault (BadScript n)) = ap (λ (d : Clip). run_from d ((n, next_said late) ∷ more) r) same ∙ next_ends late n more r c.fault in
      ([], (r.events, ap (λ (t : Run S × End). t.0.events) ends, inl (inl refl), shown))
  to_next late n more r c (p ∷ ps) o e shown =
      let same : c ≡ record { pictures = p ∷ ps; fault = c.fault } = ap (λ (xs : List Picture). let d : Clip = record { pictures = xs; fault = c.fault } in d) e in
      let q : Run S = record r { left = ps } in
      let first : Run S = with_event codec (session_of head) (Starts p) q in
      let s : Run S = next_picture codec (session_of head) (is_late late) p q in
      let g : Grows first s = chosen_kept codec (session_of head) (λ t. Grows first t) (λ e u t a. step_grows first e t a) (is_late late) first (grows_none first) in
      let f : Follows s (end_of_lines c.fault more s).0 = follows_lines c.fault more s in
      let events : (end_of_lines c.fault more s).0.events ≡ ((f.later ++ g.later) ++ Starts p ∷ []) ++ r.events =
      f.events ∙ (ap (λ es. f.later ++ es) g.events ∙ (sym (append_assoc f.later g.later (Starts p ∷ r.events)) ∙ sym (append_assoc (f.later ++ g.later) (Starts p ∷ []) r.events))) in
      let runs : run_from c ((n, next_said late) ∷ more) r ≡ end_of_lines c.fault more s = ap (λ (d : Clip). run_from d ((n, next_said late) ∷ more) r) same ∙ next_run late n more r p ps c.fault in
      ((f.later ++ g.later) ++ Starts p ∷ [], (r.events, ap (λ (t : Run S × End). t.0.events) runs ∙ events, inl (inr (p, (f.later ++ g.later, refl))), shown))

  to_next_told : (late : Bool) (n : ℕ) (more : List Numbered) (b : CountedParts S) (held : Option (List ℕ)) (r : Run S) (c : Clip) → IsRunning codec head b held r → IfSome held (λ o. ToNextOf codec head (λ ls. (run_from c ls r).0.events) ((n, next_said late) ∷ more) o)
  to_next_told late n more b None r c is = tt
  to_next_told late n more b (Some o) r c is = to_next late n more r c c.pictures o refl (is.shown ∙ ap (λ w. out_text head w) is.world)

  module _ (gives : DiaryFault → Bool) (before0 : ℕ) where
    pub line_exit : {X : Type 0} (numbered : Numbered) (m m' : ℕ) (left left' : Option (List ℕ)) (b : CountedParts S) (d u : Marks) (held : Option (List ℕ)) (r : Run S) (result : Result X RunStop) (why : RunStop) → IsErrAnd result (λ e. e ≡ why)
        → ((more : List Numbered) → Halts codec head gives before0 left held (λ ls l. onward codec head m l ls r) (numbered ∷ more) why) → LineGoes codec head gives before0 numbered m m' left left' b d u held r result
    line_exit numbered m m' left left' b d u held r (Ok x) why h p = absurd h
    line_exit numbered m m' left left' b d u held r (Err e) why h p = subst (λ s. (more : List Numbered) → Halts codec head gives before0 left held (λ ls l. onward codec head m l ls r) (numbered ∷ more) s) (sym h) p

    pub said_goes : (n : ℕ) (said same : ScriptLine) (m m' : ℕ) (left left' : Option (List ℕ)) (b : CountedParts S) (d u : Marks) (held : Option (List ℕ)) (r : Run S) (result : Result (Unit {0}) RunStop) → said ≡ same
        → LineGoes codec head gives before0 (n, same) m m' left left' b d u held r result → LineGoes codec head gives before0 (n, said) m m' left left' b d u held r result
    said_goes n said same m m' left left' b d u held r result e p = subst (λ (x : ScriptLine). LineGoes codec head gives before0 (n, x) m m' left left' b d u held r result) (sym e) p

    -- no picture was taken
    pub take_halts : (late : Bool) (n m : ℕ) (more : List Numbered) (left left' : Option (List ℕ)) (b : CountedParts S) (held : Option (List ℕ)) (r : Run S) (why : RunStop) → TakeGives head before0 m left left' (Err why) → IsRunning codec head b held r
        → Halts codec head gives before0 left held (λ ls l. onward codec head m l ls r) ((n, next_said late) ∷ more) why
    take_halts late n m more None left' b held r (stop.BadInput place why) t is = tt
    take_halts late n m more (Some l) left' b held r (stop.BadInput place why) t is =
        let flaw = picture_flaw l in
        let ends = ap (λ (c : Clip). run_from c ((n, next_said late) ∷ more) r) (clip_broken head m l t.0 t.1.0) ∙ next_ends late n more r (Some (BadInput flaw)) in
        (flaw, (ends_here held r (record r { left = [] }) _ (BadInput flaw) ends refl is.shown, t.1.1))
    take_halts late n m more left left' b held r (stop.BadScript line) t is = absurd t
    take_halts late n m more None left' b held r stop.TooMany t is = tt
    take_halts late n m more (Some l) None b held r stop.TooMany t is = absurd t.2.1
    take_halts late n m more (Some l) (Some l') b held r stop.TooMany t is =
        ends_here held r (record r { left = [] }) _ TooMany (ap (λ (c : Clip). run_from c ((n, next_said late) ∷ more) r) (clip_over head m l l' t.2.0 t.1 t.2.1) ∙ (next_ends late n more r (Some (over head)) ∙ ap (λ (e : End). (record r { left = [] }, e)) t.0)) refl is.shown
    take_halts late n m more None left' b held r stop.TooLong t is = tt
    take_halts late n m more (Some l) None b held r stop.TooLong t is = absurd t.2.1
    take_halts late n m more (Some l) (Some l') b held r stop.TooLong t is =
        ends_here held r (record r { left = [] }) _ TooLong (ap (λ (c : Clip). run_from c ((n, next_said late) ∷ more) r) (clip_over head m l l' t.2.0 t.1 t.2.1) ∙ (next_ends late n more r (Some (over head)) ∙ ap (λ (e : End). (record r { left = [] }, e)) t.0)) refl is.shown
    take_halts late n m more None left' b held r stop.ReadFault t is = tt
    take_halts late n m more (Some l) left' b held r stop.ReadFault t is = to_next_told late n more b held r (clip_in head m l) is
    take_halts late n m more left left' b held r stop.Out t is = absurd t
    take_halts late n m more left left' b held r (stop.Diary fault) t is = absurd t
    take_halts late n m more None left' b held r stop.Memory t is = tt
    take_halts late n m more (Some l) left' b held r stop.Memory t is = part_of held b r (onward codec head m l ((n, next_said late) ∷ more) r).0 is (start_follows l)
      where
        start_follows : (l : List ℕ) → Follows r (onward codec head m l ((n, next_said late) ∷ more) r).0
        start_follows l =
            let q : Run S = record r { left = (clip_in head m l).pictures } in
            let f : Follows q (onward codec head m l ((n, next_said late) ∷ more) r).0 = follows_lines (clip_in head m l).fault ((n, next_said late) ∷ more) q in
            record { later = f.later; events = f.events }

    -- no picture is left
    pub none_halts : (late : Bool) (n before m : ℕ) (more : List Numbered) (left left' : Option (List ℕ)) (b : CountedParts S) (held : Option (List ℕ)) (r : Run S) (found : Option Picture) → found ≡ None → TakeGives head before m left left' (Ok found) → IsRunning codec head b held r
        → IfSome left (λ l. EndsAs codec head held (BadScript n) (onward codec head m l ((n, next_said late) ∷ more) r))
    none_halts late n before m more None left' b held r found e t is = tt
    none_halts late n before m more (Some l) left' b held r (Some p) e t is = absurd cc
    none_halts late n before m more (Some l) left' b held r None e t is =
        ends_here held r (record r { left = [] }) _ (BadScript n) (ap (λ (c : Clip). run_from c ((n, next_said late) ∷ more) r) (clip_end head m l t.0) ∙ next_ends late n more r None) refl is.shown

    -- what stops a step that leads on to the lines after it
    pub stopped_part : (left held : Option (List ℕ)) (events later : List WorldEvent) (l : List ℕ) (why : RunStop) (final : List Numbered → List ℕ → Run S × End) (lines : List Numbered) → left ≡ Some l → (final lines l).0.events ≡ later ++ events → Stopped codec head gives held events why → Halts codec head gives before0 left held final lines why
    stopped_part left held events later l (stop.BadInput place why) final lines e same p = absurd p
    stopped_part left held events later l (stop.BadScript line) final lines e same p = absurd p
    stopped_part left held events later l stop.TooMany final lines e same p = absurd p
    stopped_part left held events later l stop.TooLong final lines e same p = absurd p
    stopped_part left held events later l stop.ReadFault final lines e same p = absurd p
    stopped_part left held events later l stop.Out final lines e same p = rw e (stopped_later codec head gives held events (final lines l).0.events later stop.Out same p)
    stopped_part left held events later l (stop.Diary fault) final lines e same p = rw e (stopped_later codec head gives held events (final lines l).0.events later (stop.Diary fault) same p)
    stopped_part left held events later l stop.Memory final lines e same p = rw e (stopped_later codec head gives held events (final lines l).0.events later stop.Memory same p)

    pub stopped_untold : (held : Option (List ℕ)) (events : List WorldEvent) (why : RunStop) (final : List Numbered → List ℕ → Run S × End) (lines : List Numbered) → Stopped codec head gives held events why → Halts codec head gives before0 None held final lines why
    stopped_untold held events (stop.BadInput place why) final lines p = absurd p
    stopped_untold held events (stop.BadScript line) final lines p = absurd p
    stopped_untold held events stop.TooMany final lines p = absurd p
    stopped_untold held events stop.TooLong final lines p = absurd p
    stopped_untold held events stop.ReadFault final lines p = absurd p
    stopped_untold held events stop.Out final lines p = tt
    stopped_untold held events (stop.Diary fault) final lines p = (p.0, tt)
    stopped_untold held events stop.Memory final lines p = tt

    next_at : (late : Bool) (n m : ℕ) (more : List Numbered) (l l' : List ℕ) (r : Run S) (p : Picture) → picture_at head l ≡ Some (p, l')
        → onward codec head (suc m) l ((n, next_said late) ∷ more) r ≡ end_of_lines (clip_in head m l').fault more (next_picture codec (session_of head) (is_late late) p (record r { left = (clip_in head m l').pictures }))
    next_at late n m more l l' r p e = ap (λ (c : Clip). run_from c ((n, next_said late) ∷ more) r) (clip_some head m l l' p e) ∙ next_run late n more r p (clip_in head m l').pictures (clip_in head m l').fault

    next_onward : (late : Bool) (n m m' : ℕ) (more : List Numbered) (l l' : List ℕ) (r : Run S) (p : Picture) → picture_at head l ≡ Some (p, l') → m' ≡ m
        → onward codec head (suc m) l ((n, next_said late) ∷ more) r ≡ onward codec head m' l' more (next_picture codec (session_of head) (is_late late) p (record r { left = (clip_in head m l').pictures }))
    next_onward late n m m' more l l' r p e same =
        let ps : List Picture = (clip_in head m l').pictures in
        let s : Run S = next_picture codec (session_of head) (is_late late) p (record r { left = ps }) in
        let g : Grows (record r { left = ps }) s = shot_grows (is_late late) p (record r { left = ps }) in
        next_at late n m more l l' r p e
        ∙ (ap (λ (x : Run S). end_of_lines (clip_in head m l').fault more x) (sym (left_same s ps g.left)) ∙ ap (λ (k : ℕ). onward codec head k l' more s) (sym same))

    pub moved : (b : CountedParts S) (d u : Marks) (held : Option (List ℕ)) (r : Run S) (ps : List Picture) → IsAt codec head b d u held r → IsAt codec head b d u held (record r { left = ps })
    moved b d u held r ps at = record { running = record { stands = at.running.stands; counts = at.running.counts; world = at.running.world; shown = at.running.shown }; downs_are = at.downs_are; ups_are = at.ups_are }

    -- a picture was taken
    pub next_goes : (late : Bool) (n before m m' : ℕ) (left left' : Option (List ℕ)) (b0 b : CountedParts S) (d0 u0 d u : Marks) (held : Option (List ℕ)) (r : Run S) (found : Option Picture) (p : Picture) (result : Result (Unit {0}) RunStop)
        → found ≡ Some p → TakeGives head before m left left' (Ok found) → m' + 1 ≡ m → IsAt codec head b0 d0 u0 held r
        → ((q : Run S) → IsAt codec head b0 d0 u0 held q → Comes codec head gives b d u held (next_picture codec (session_of head) (is_late late) p q) result)
        → LineGoes codec head gives before0 (n, next_said late) m m' left left' b d u held r result
    next_goes late n before m m' left left' b0 b d0 u0 d u held r None p result e t count at comes = absurd cc
    next_goes late n before zero m' left left' b0 b d0 u0 d u held r (Some f) p result e t count at comes = absurd (omega (arith, count))
    next_goes late n before (suc m) m' None left' b0 b d0 u0 d u held r (Some f) p (Ok x) e t count at comes = (next_picture codec (session_of head) (is_late late) p r, (comes r at, tt))
    next_goes late n before (suc m) m' (Some l) None b0 b d0 u0 d u held r (Some f) p (Ok x) e t count at comes = absurd t.1
    next_goes late n before (suc m) m' (Some l) (Some l') b0 b d0 u0 d u held r (Some f) p (Ok x) e t count at comes =
        let ps : List Picture = (clip_in head m l').pictures in
        let own : picture_at head l ≡ Some (p, l') = t.1 ∙ ap (λ (y : Picture). let o : Option (Picture × List ℕ) = Some (y, l') in o) (some_is f p e) in
        (next_picture codec (session_of head) (is_late late) p (record r { left = ps }), (comes (record r { left = ps }) (moved b0 d0 u0 held r ps at), λ more. next_onward late n m m' more l l' r p own (omega (arith, count))))
    next_goes late n before (suc m) m' None left' b0 b d0 u0 d u held r (Some f) p (Err why) e t count at comes =
        λ more. stopped_untold held (next_picture codec (session_of head) (is_late late) p r).events why (λ ls l. onward codec head (suc m) l ls r) ((n, next_said late) ∷ more) (comes r at)
    next_goes late n before (suc m) m' (Some l) None b0 b d0 u0 d u held r (Some f) p (Err why) e t count at comes = absurd t.1
    next_goes late n before (suc m) m' (Some l) (Some l') b0 b d0 u0 d u held r (Some f) p (Err why) e t count at comes =
        let ps : List Picture = (clip_in head m l').pictures in
        let own : picture_at head l ≡ Some (p, l') = t.1 ∙ ap (λ (y : Picture). let o : Option (Picture × List ℕ) = Some (y, l') in o) (some_is f p e) in
        let s : Run S = next_picture codec (session_of head) (is_late late) p (record r { left = ps }) in
        λ more.
        let f : Follows s (end_of_lines (clip_in head m l').fault more s).0 = follows_lines (clip_in head m l').fault more s in
        stopped_part (Some l) held s.events f.later l why (λ ls i. onward codec head (suc m) i ls r) ((n, next_said late) ∷ more) refl
        (ap (λ (x : Run S × End). x.0.events) (next_at late n m more l l' r p own) ∙ f.events) (comes (record r { left = ps }) (moved b0 d0 u0 held r ps at))

    -- ---- a line that reads nothing

    pub plain_goes : (numbered : Numbered) (f : Run S → Run S) (m : ℕ) (left : Option (List ℕ)) (b0 b : CountedParts S) (d0 u0 d u : Marks) (held held' : Option (List ℕ)) (r : Run S) (result : Result (Unit {0}) RunStop)
        → ((q : Run S) → Grows q (f q)) → ((more : List Numbered) (fault : Option End) (q : Run S) → q.world ≡ r.world → end_of_lines fault (numbered ∷ more) q ≡ end_of_lines fault more (f q)) → IsAt codec head b0 d0 u0 held r
        → ((q : Run S) → IsAt codec head b0 d0 u0 held q → Comes codec head gives b d u held' (f q) result) → LineGoes codec head gives before0 numbered m m left left b d u held' r result
    plain_goes numbered f m None b0 b d0 u0 d u held held' r (Ok x) grown unfolds at comes = (f r, (comes r at, tt))
    plain_goes numbered f m (Some l) b0 b d0 u0 d u held held' r (Ok x) grown unfolds at comes =
        let c : Clip = clip_in head m l in
        let q : Run S = record r { left = c.pictures } in
        (f q, (comes q (moved b0 d0 u0 held r c.pictures at), λ more. unfolds more c.fault q refl ∙ ap (λ (s : Run S). end_of_lines c.fault more s) (sym (left_same (f q) c.pictures (grown q).left))))
    plain_goes numbered f m None b0 b d0 u0 d u held held' r (Err why) grown unfolds at comes = λ more. stopped_untold held' (f r).events why (λ ls l. onward codec head m l ls r) (numbered ∷ more) (comes r at)
    plain_goes numbered f m (Some l) b0 b d0 u0 d u held held' r (Err why) grown unfolds at comes =
        let c : Clip = clip_in head m l in
        let q : Run S = record r { left = c.pictures } in
        λ more.
        let s : Follows (f q) (end_of_lines c.fault more (f q)).0 = follows_lines c.fault more (f q) in
        stopped_part (Some l) held' (f q).events s.later l why (λ ls i. onward codec head m i ls r) (numbered ∷ more) refl
        (ap (λ (x : Run S × End). x.0.events) (unfolds more c.fault q refl) ∙ s.events) (comes q (moved b0 d0 u0 held r c.pictures at))

  pub down_unfolds : (n k : ℕ) (r : Run S) → is_number k (length (sent r.world)) ≡ true → (more : List Numbered) (fault : Option End) (q : Run S) → q.world ≡ r.world → end_of_lines fault ((n, Down k) ∷ more) q ≡ end_of_lines fault more (down codec (session_of head) k q)
  down_unfolds n k r e more fault q same = let here : is_number k (length (sent q.world)) ≡ true = ap (λ w. is_number k (length (sent w))) same ∙ e in rw here refl

  pub up_unfolds : (n k : ℕ) (r : Run S) → is_number k (length (acks r.world)) ≡ true → (more : List Numbered) (fault : Option End) (q : Run S) → q.world ≡ r.world → end_of_lines fault ((n, Up k) ∷ more) q ≡ end_of_lines fault more (up codec (session_of head) k q)
  up_unfolds n k r e more fault q same = let here : is_number k (length (acks q.world)) ≡ true = ap (λ w. is_number k (length (acks w))) same ∙ e in rw here refl

  down_unrun : (n k : ℕ) (more : List Numbered) (q : Run S) (fault : Option End) → is_number k (length (sent q.world)) ≡ false → end_of_lines fault ((n, Down k) ∷ more) q ≡ (q, BadScript n)
  down_unrun n k more q fault e = rw e refl

  up_unrun : (n k : ℕ) (more : List Numbered) (q : Run S) (fault : Option End) → is_number k (length (acks q.world)) ≡ false → end_of_lines fault ((n, Up k) ∷ more) q ≡ (q, BadScript n)
  up_unrun n k more q fault e = rw e refl

  -- a number that wasn't sent
  pub down_bad : (n k m : ℕ) (more : List Numbered) (left held : Option (List ℕ)) (b : CountedParts S) (r : Run S) → is_number k (length (sent r.world)) ≡ false → IsRunning codec head b held r → IfSome left (λ l. EndsAs codec head held (BadScript n) (onward codec head m l ((n, Down k) ∷ more) r))
  down_bad n k m more None held b r e is = tt
  down_bad n k m more (Some l) held b r e is =
      let q : Run S = record r { left = (clip_in head m l).pictures } in
      ends_here held r q _ (BadScript n) (down_unrun n k more q (clip_in head m l).fault e) refl is.shown

  pub up_bad : (n k m : ℕ) (more : List Numbered) (left held : Option (List ℕ)) (b : CountedParts S) (r : Run S) → is_number k (length (acks r.world)) ≡ false → IsRunning codec head b held r → IfSome left (λ l. EndsAs codec head held (BadScript n) (onward codec head m l ((n, Up k) ∷ more) r))
  up_bad n k m more None held b r e is = tt
  up_bad n k m more (Some l) held b r e is =
      let q : Run S = record r { left = (clip_in head m l).pictures } in
      ends_here held r q _ (BadScript n) (up_unrun n k more q (clip_in head m l).fault e) refl is.shown

  pub comes_at : (gives : DiaryFault → Bool) (b : CountedParts S) (d u : Marks) (held : Option (List ℕ)) (f : ℕ → Run S → Run S) (k' k : ℕ) (q : Run S) (result : Result (Unit {0}) RunStop) → k' ≡ k → Comes codec head gives b d u held (f k' q) result → Comes codec head gives b d u held (f k q) result
  comes_at gives b d u held f k' k q result e p = subst (λ (x : ℕ). Comes codec head gives b d u held (f x q) result) e p
