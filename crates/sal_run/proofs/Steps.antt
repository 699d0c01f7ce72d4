-- What one event makes of a run.
use Rattle.std.proofs.Common.{◌≡◌, ℕ, ◌+◌, ◌≤◌, Bool, true, false, List, [], ◌∷◌, ◌++◌, length, take, reverse, Option, Some, None, Result, Ok, Err, is_some, IfSome, refl, ap, sym, ◌∙◌, subst, append-nil, append_assoc, inl, inr}
use Rattle.std.specs.List.{flat_map}
use Rattle.std.specs.Result.{IsErrAnd}
use Rattle.std.specs.Io.KnownBytes.{Appends}
use Rattle.std.proofs.Math.Seq.{take-append-add}
use Rattle.std.proofs.lemmas.List.{reverse-append}
use Rattle.std.proofs.lemmas.List.Concat.{flat_map-append}
use Rattle.sal_base.specs.declared.picture.Picture.{Picture}
use Rattle.sal_codec.specs.Coding.{Coding}
use Rattle.sal_wire.specs.declared.datagram.Ack.{Ack}
use Rattle.sal_y4m.specs.declared.head.Head.{Head}
use Rattle.sal_y4m.specs.Grammar.{head_text, picture_text}
use Rattle.sal_receiver.specs.declared.answers.Done.{Done}
use Rattle.sal_receiver.specs.declared.answers.Done.TheVariants.{Stranger, Returned, Unfit, Misnamed, Older, Show}
use Rattle.sal_receiver.specs.Past.{DecodeResult, Decoding, shown}
use Rattle.sal_receiver.specs.Ready.{ready_source, frame, decoding_of}
use Rattle.sal_receiver.specs.Answers.{decoded_answer}
use Rattle.sal_world.specs.WorldParts.{WorldParts}
use Rattle.sal_sender.specs.declared.answers.Next.{Next}
use Rattle.sal_sender.specs.Answers.{next_answer}
use Rattle.sal_sender.specs.Choosing.{chosen}
use Rattle.sal_world.specs.declared.event.ChooseAnswer.{ChooseAnswer}
use Rattle.sal_run.specs.CountedParts.{CountedParts}
use Rattle.sal_run.specs.declared.counted.Counts.{Counts}
use Rattle.sal_run.specs.Counts.{with_next, with_choice, with_done, counts_of}
use Rattle.sal_run.proofs.Counting.{IsUncounted, start_counts, choice_counts, done_counts, same_counts}
use Rattle.sal_world.specs.World.{WorldEvent, Starts, TakesJob, Reports, Chooses, Delivers, Hears, TakesReady, Decodes, Passes, WorldPast, sent, acks, at_number, delivered_if_sent, heard_if_sent, happens, after}
use Rattle.sal_world.specs.Answers.{choose_answer, done_answer}
use Rattle.sal_world.specs.Stands.{Stands, HappenedUnless}
use Rattle.sal_world.specs.Script.{Run, with_event}
use Rattle.sal_world.specs.declared.diary.DiaryFault.{DiaryFault}
use Rattle.sal_run.specs.declared.stop.RunStop.{RunStop}
use Rattle.sal_run.specs.declared.stop.RunStop.TheVariants.{BadInput, BadScript, TooMany, TooLong, ReadFault, Out, Diary, Memory}
use Rattle.sal_run.specs.Loop.{session_of, shown_text, out_text}
use Rattle.sal_run.specs.Running.{text_of, Shows, IsNoted, IsRunning, PartlyOf, CutOf, Stopped, Goes}

-- any event but a decoding
abbrev pub IsNoDecoding : WorldEvent → Type 0
IsNoDecoding (Decodes n ran) = ⊥
IsNoDecoding _ = Unit {0}

not_told : false ≡ true → ⊥
not_told e = absurd cc

module _ {S : Type 0} (codec : Coding S) (head : Head) where
  abbrev then_world : WorldPast S → WorldEvent → WorldPast S
  then_world w e = happens codec (session_of head) w e

  quiet_down : (w : WorldPast S) (o : Option (List ℕ)) → shown (delivered_if_sent codec w o).receiver ≡ shown w.receiver
  quiet_down w None = refl
  quiet_down w (Some bytes) = refl

  quiet_up : (w : WorldPast S) (o : Option Ack) → shown (heard_if_sent codec (session_of head) w o).receiver ≡ shown w.receiver
  quiet_up w None = refl
  quiet_up w (Some ack) = refl

  -- nothing is shown but by a decoding
  quiet : (w : WorldPast S) (e : WorldEvent) → IsNoDecoding e → shown (then_world w e).receiver ≡ shown w.receiver
  quiet w (Starts picture) h = refl
  quiet w TakesJob h = refl
  quiet w (Reports job gave) h = refl
  quiet w Chooses h = refl
  quiet w (Delivers which) h = quiet_down w (at_number (sent w) which)
  quiet w (Hears which) h = quiet_up w (at_number (acks w) which)
  quiet w TakesReady h = refl
  quiet w (Decodes n ran) h = absurd h
  quiet w (Passes moment) h = refl

  still : (held : Option (List ℕ)) (w : WorldPast S) (e : WorldEvent) → IsNoDecoding e → IfSome held (λ o. o ≡ out_text head w) → IfSome held (λ o. o ≡ out_text head (then_world w e))
  still None w e h p = tt
  still (Some o) w e h p = p ∙ ap (λ (s : List (ℕ × Picture)). head_text head ++ flat_map shown_text (reverse s)) (sym (quiet w e h))

  -- where there was memory for an event, it happened
  pub did_stand : {A : Type 0} (lacking answer right : A) (new : WorldParts S) (events : List WorldEvent) (e : WorldEvent) → (answer ≡ lacking → ⊥) → HappenedUnless codec (session_of head) lacking new events e answer right → Stands codec (session_of head) new (e ∷ events)
  did_stand lacking answer right new events e never (inl h) = absurd (never h)
  did_stand lacking answer right new events e never (inr did) = did.1

  pub did_answer : {A : Type 0} (lacking answer right : A) (new : WorldParts S) (events : List WorldEvent) (e : WorldEvent) → (answer ≡ lacking → ⊥) → HappenedUnless codec (session_of head) lacking new events e answer right → answer ≡ right
  did_answer lacking answer right new events e never (inl h) = absurd (never h)
  did_answer lacking answer right new events e never (inr did) = did.0

  -- the same of the fields of a value
  pub opened : (b fields : CountedParts S) (held : Option (List ℕ)) (r : Run S) → fields ≡ b → IsRunning codec head b held r → IsRunning codec head fields held r
  opened b fields held r e is = subst (λ p. IsRunning codec head p held r) (sym e) is

  -- what is counted after an event: nothing, a picture that was started, or a choice
  pub none_counted : (b : CountedParts S) (counts : Counts) (held : Option (List ℕ)) (r : Run S) (e : WorldEvent) → IsUncounted e → IsRunning codec head b held r → counts ≡ b.counts → counts ≡ counts_of (then_world r.world e)
  none_counted b counts held r e h is same = same ∙ (is.counts ∙ sym (same_counts codec (session_of head) r.world e h))

  pub start_counted : (b : CountedParts S) (counts : Counts) (held : Option (List ℕ)) (r : Run S) (picture : Picture) (answer : Next) → IsRunning codec head b held r → answer ≡ next_answer (after codec (session_of head) r.events).sender → counts ≡ with_next answer b.counts → counts ≡ counts_of (then_world r.world (Starts picture))
  start_counted b counts held r picture answer is said counted =
      let here : answer ≡ next_answer r.world.sender = said ∙ ap (λ (w : WorldPast S). next_answer w.sender) (sym is.world) in
      counted ∙ (ap (with_next answer) is.counts ∙ (ap (λ (a : Next). with_next a (counts_of r.world)) here ∙ sym (start_counts r.world picture r.world.moment (next_answer r.world.sender))))

  pub choice_counted : (b : CountedParts S) (counts : Counts) (held : Option (List ℕ)) (r : Run S) (answer : ChooseAnswer) → IsRunning codec head b held r → answer ≡ choose_answer codec (session_of head) (after codec (session_of head) r.events) → counts ≡ with_choice answer b.counts → counts ≡ counts_of (then_world r.world Chooses)
  choice_counted b counts held r answer is said counted =
      let here : answer ≡ choose_answer codec (session_of head) r.world = said ∙ ap (λ (w : WorldPast S). choose_answer codec (session_of head) w) (sym is.world) in
      counted ∙ (ap (with_choice answer) is.counts ∙ (ap (λ (a : ChooseAnswer). with_choice a (counts_of r.world)) here ∙ sym (choice_counts r.world r.world.moment (chosen codec (session_of head) r.world.sender r.world.moment))))

  -- one event more that shows nothing
  pub running_next : (b new : CountedParts S) (held : Option (List ℕ)) (r : Run S) (e : WorldEvent) → IsNoDecoding e → IsRunning codec head b held r → Stands codec (session_of head) new.world (e ∷ r.events) → new.counts ≡ counts_of (then_world r.world e) → IsRunning codec head new held (with_event codec (session_of head) e r)
  unfolding after
  running_next b new held r e h is stands counts = record {
    stands = stands;
    counts = counts;
    world = ap (λ w. happens codec (session_of head) w e) is.world;
    shown = still held r.world e h is.shown;
  }

  pub partly : (b : CountedParts S) (held : Option (List ℕ)) (r : Run S) (events later : List WorldEvent) → IsRunning codec head b held r → events ≡ later ++ r.events → IfSome held (PartlyOf codec head events)
  partly b None r events later is e = tt
  partly b (Some o) r events later is e = (later, (r.events, e, is.shown ∙ ap (λ w. out_text head w) is.world))

  partly_later : (o : List ℕ) (events all later : List WorldEvent) → all ≡ later ++ events → PartlyOf codec head events o → PartlyOf codec head all o
  partly_later o events all later e p = (later ++ p.0, (p.1.0, e ∙ (ap (λ es. later ++ es) p.1.1 ∙ sym (append_assoc later p.0 p.1.0)), p.1.2))

  if_later : (held : Option (List ℕ)) (events all later : List WorldEvent) → all ≡ later ++ events → IfSome held (PartlyOf codec head events) → IfSome held (PartlyOf codec head all)
  if_later None events all later e p = tt
  if_later (Some o) events all later e p = partly_later o events all later e p

  cut_later : (held : Option (List ℕ)) (events all later : List WorldEvent) → all ≡ later ++ events → IfSome held (CutOf codec head events) → IfSome held (CutOf codec head all)
  cut_later None events all later e p = tt
  cut_later (Some o) events all later e p = (p.0, (p.1.0, partly_later p.1.0 events all later e p.1.1, p.1.2))

  module _ (gives : DiaryFault → Bool) where
    -- what stops some events stops more
    pub stopped_later : (held : Option (List ℕ)) (events all later : List WorldEvent) (stop : RunStop) → all ≡ later ++ events → Stopped codec head gives held events stop → Stopped codec head gives held all stop
    stopped_later held events all later (BadInput place why) e p = p
    stopped_later held events all later (BadScript line) e p = p
    stopped_later held events all later TooMany e p = p
    stopped_later held events all later TooLong e p = p
    stopped_later held events all later ReadFault e p = p
    stopped_later held events all later Out e p = cut_later held events all later e p
    stopped_later held events all later (Diary fault) e p = (p.0, if_later held events all later e p.1)
    stopped_later held events all later Memory e p = if_later held events all later e p

    pub memory_stops : (b : CountedParts S) (held : Option (List ℕ)) (r : Run S) (events later : List WorldEvent) (stop : RunStop) → stop ≡ Memory → IsRunning codec head b held r → events ≡ later ++ r.events → Stopped codec head gives held events stop
    memory_stops b held r events later stop e is same = subst (λ s. Stopped codec head gives held events s) (sym e) (partly b held r events later is same)

    pub noted_stops : (b : CountedParts S) (held : Option (List ℕ)) (r : Run S) (events later : List WorldEvent) (stop : RunStop) → IsNoted gives (Err stop) → IsRunning codec head b held r → events ≡ later ++ r.events → Stopped codec head gives held events stop
    noted_stops b held r events later (BadInput place why) h is e = absurd h
    noted_stops b held r events later (BadScript line) h is e = absurd h
    noted_stops b held r events later TooMany h is e = absurd h
    noted_stops b held r events later TooLong h is e = absurd h
    noted_stops b held r events later ReadFault h is e = absurd h
    noted_stops b held r events later Out h is e = absurd h
    noted_stops b held r events later (Diary fault) h is e = (h, partly b held r events later is e)
    noted_stops b held r events later Memory h is e = absurd h

    -- the line of what happened is given last
    pub goes_noted : (b : CountedParts S) (held : Option (List ℕ)) (r : Run S) (result : Result (Unit {0}) RunStop) → IsNoted gives result → IsRunning codec head b held r → Goes codec head gives b held r result
    goes_noted b held r (Ok x) h is = is
    goes_noted b held r (Err stop) h is = noted_stops b held r r.events [] stop h is refl

    pub goes_exit : {X : Type 0} (b : CountedParts S) (held : Option (List ℕ)) (r : Run S) (result : Result X RunStop) (stop : RunStop) → IsErrAnd result (λ e. e ≡ stop) → Stopped codec head gives held r.events stop → Goes codec head gives b held r result
    goes_exit b held r (Ok x) stop h p = absurd h
    goes_exit b held r (Err e) stop h p = subst (λ s. Stopped codec head gives held r.events s) (sym h) p

    -- there was no memory for an event
    pub lacking_stops : (b : CountedParts S) (held : Option (List ℕ)) (r : Run S) (e : WorldEvent) → IsRunning codec head b held r → Stopped codec head gives held (e ∷ r.events) Memory
    lacking_stops b held r e is = memory_stops b held r (e ∷ r.events) (e ∷ []) Memory refl is refl

    -- the line of an event wasn't given
    pub note_exit : {X : Type 0} (b new : CountedParts S) (held : Option (List ℕ)) (r : Run S) (e : WorldEvent) (result : Result X RunStop) (stop : RunStop) → IsErrAnd result (λ s. s ≡ stop) → IsNoted gives (Err stop) → IsRunning codec head b held r → Goes codec head gives new held (with_event codec (session_of head) e r) result
    note_exit b new held r e result stop h noted is = goes_exit new held (with_event codec (session_of head) e r) result stop h (noted_stops b held r (e ∷ r.events) (e ∷ []) stop noted is refl)

  -- ---- a decoding

  shown_more : (w : WorldPast S) (n : ℕ) (outcome : DecodeResult S) (done : Done) → out_text head (record w { receiver = Decoding n outcome done ∷ w.receiver }) ≡ out_text head w ++ text_of done
  shown_more w n outcome Stranger = sym (append-nil (out_text head w))
  shown_more w n outcome (Returned k) = sym (append-nil (out_text head w))
  shown_more w n outcome (Unfit k why) = sym (append-nil (out_text head w))
  shown_more w n outcome (Misnamed said found) = sym (append-nil (out_text head w))
  shown_more w n outcome (Older k greater) = sym (append-nil (out_text head w))
  shown_more w n outcome (Show k picture) =
      let all : List (ℕ × Picture) = shown w.receiver in
      let turned : reverse ((k, picture) ∷ all) ≡ reverse all ++ (k, picture) ∷ [] = reverse-append ((k, picture) ∷ []) all in
      let last : flat_map shown_text ((k, picture) ∷ []) ≡ picture_text picture = append-nil (picture_text picture) in
      ap (λ (s : List (ℕ × Picture)). head_text head ++ flat_map shown_text s) turned
      ∙ (ap (λ (t : List ℕ). head_text head ++ t) (flat_map-append shown_text (reverse all) ((k, picture) ∷ []))
      ∙ (ap (λ (t : List ℕ). head_text head ++ (flat_map shown_text (reverse all) ++ t)) last
      ∙ sym (append_assoc (head_text head) (flat_map shown_text (reverse all)) (picture_text picture))))

  decoded_text : (w : WorldPast S) (n : ℕ) (done : Done) → done ≡ decoded_answer codec w.receiver n (decoding_of codec (ready_source codec w.receiver n) (frame w.receiver n) true) → out_text head (then_world w (Decodes n true)) ≡ out_text head w ++ text_of done
  decoded_text w n done e = shown_more w n (decoding_of codec (ready_source codec w.receiver n) (frame w.receiver n) true) _ ∙ ap (λ d. out_text head w ++ text_of d) (sym e)

  module _ (gives : DiaryFault → Bool) where
    written : (held held' : Option (List ℕ)) (text old new : List ℕ) → is_some held' ≡ is_some held → new ≡ old ++ text → IfSome held (λ o. o ≡ old) → Appends held held' text → IfSome held' (λ o. o ≡ new)
    written held None text old new tells e p put = tt
    written None (Some o) text old new tells e p put = absurd (not_told (sym tells))
    written (Some z) (Some o) text old new tells e p put = put ∙ (ap (λ (l : List ℕ). l ++ text) p ∙ sym e)

    cut : (held held' : Option (List ℕ)) (text old new : List ℕ) (events : List WorldEvent) → is_some held' ≡ is_some held → new ≡ old ++ text → new ≡ out_text head (after codec (session_of head) events) → IfSome held (λ o. o ≡ old)
        → ((n : ℕ) × (n ≤ length text) × Appends held held' (take n text)) → IfSome held' (CutOf codec head events)
    cut held None text old new events tells e last p put = tt
    cut None (Some o) text old new events tells e last p put = absurd (not_told (sym tells))
    cut (Some z) (Some o) text old new events tells e last p put =
        let front : o ≡ take (length old + put.0) new =
        put.2 ∙ (ap (λ (l : List ℕ). l ++ take put.0 text) p ∙ (sym (take-append-add old text put.0) ∙ ap (take (length old + put.0)) (sym e))) in
        (length old + put.0, (new, ([], (events, refl, last)), front))

    did_show : (b new : CountedParts S) (held held' : Option (List ℕ)) (r s : Run S) (text : List ℕ) (later : List WorldEvent) (result : Result (Unit {0}) RunStop) → is_some held' ≡ is_some held → IsRunning codec head b held r
        → Stands codec (session_of head) new.world s.events → new.counts ≡ counts_of s.world → s.world ≡ after codec (session_of head) s.events → out_text head s.world ≡ out_text head r.world ++ text → s.events ≡ later ++ r.events → Shows gives held held' text result → Goes codec head gives new held' s result
    did_show b new held held' r s text later (Ok x) tells is stands counts world more events p = record { stands = stands; counts = counts; world = world; shown = written held held' text (out_text head r.world) (out_text head s.world) tells more is.shown p }
    did_show b new held held' r s text later (Err (BadInput place why)) tells is stands counts world more events p = absurd p
    did_show b new held held' r s text later (Err (BadScript line)) tells is stands counts world more events p = absurd p
    did_show b new held held' r s text later (Err TooMany) tells is stands counts world more events p = absurd p
    did_show b new held held' r s text later (Err TooLong) tells is stands counts world more events p = absurd p
    did_show b new held held' r s text later (Err ReadFault) tells is stands counts world more events p = absurd p
    did_show b new held held' r s text later (Err Out) tells is stands counts world more events p = cut held held' text (out_text head r.world) (out_text head s.world) s.events tells more (ap (λ w. out_text head w) world) is.shown p
    did_show b new held held' r s text later (Err (Diary fault)) tells is stands counts world more events p = (p.0, subst (λ o. IfSome o (PartlyOf codec head s.events)) (sym p.1) (partly b held r s.events later is events))
    did_show b new held held' r s text later (Err Memory) tells is stands counts world more events p = absurd p

    -- a decoding of a frame that was handed out, for which there was memory
    pub decoded_goes : (b new : CountedParts S) (held held' : Option (List ℕ)) (r : Run S) (n : ℕ) (ran : Bool) (done : Done) (result : Result (Unit {0}) RunStop) → is_some held' ≡ is_some held → ran ≡ true → IsRunning codec head b held r
        → done ≡ done_answer codec (session_of head) (after codec (session_of head) r.events) n ran → Stands codec (session_of head) new.world (Decodes n ran ∷ r.events) → new.counts ≡ with_done done b.counts → Shows gives held held' (text_of done) result
        → Goes codec head gives new held' (with_event codec (session_of head) (Decodes n true) r) result
    unfolding after
    decoded_goes b new held held' r n false done result tells e is said stands counted p = absurd cc
    decoded_goes b new held held' r n true done result tells e is said stands counted p =
        let at : WorldPast S = after codec (session_of head) r.events in
        let same : done ≡ decoded_answer codec at.receiver n (decoding_of codec (ready_source codec at.receiver n) (frame at.receiver n) true) = said in
        let here : done ≡ decoded_answer codec r.world.receiver n (decoding_of codec (ready_source codec r.world.receiver n) (frame r.world.receiver n) true) =
        same ∙ ap (λ (w : WorldPast S). decoded_answer codec w.receiver n (decoding_of codec (ready_source codec w.receiver n) (frame w.receiver n) true)) (sym is.world) in
        let outcome : DecodeResult S = decoding_of codec (ready_source codec r.world.receiver n) (frame r.world.receiver n) true in
        let counts : new.counts ≡ counts_of (then_world r.world (Decodes n true)) =
        counted ∙ (ap (with_done done) is.counts ∙ (ap (λ (d : Done). with_done d (counts_of r.world)) here ∙ sym (done_counts r.world n outcome (decoded_answer codec r.world.receiver n outcome)))) in
        did_show b new held held' r (with_event codec (session_of head) (Decodes n true) r) (text_of done) (Decodes n true ∷ []) result tells is stands counts (ap (λ w. happens codec (session_of head) w (Decodes n true)) is.world) (decoded_text r.world n done here) refl p
