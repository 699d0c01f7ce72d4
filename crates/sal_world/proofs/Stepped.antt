-- What a call makes of the events, what it is answered where names differ, and what an event is answered from its call.
use Rattle.std.proofs.Common.{◌≡◌, ℕ, ◌+◌, max, Bool, true, List, ◌∷◌, ◌++◌, length, Option, Some, None, Result, Ok, Err, refl, ap, sym, ◌∙◌, subst, arith, length-append, inl, inr}
use Rattle.sal_base.specs.Lists.{Each}
use Rattle.sal_base.specs.declared.picture.Picture.{Picture}
use Rattle.sal_codec.specs.Coding.{Coding}
use Rattle.sal_wire.specs.declared.datagram.Ack.{Ack}
use Rattle.sal_sender.specs.declared.choice.Choice.{Choice}
use Rattle.sal_sender.specs.declared.answers.Next.{Next as Start}
use Rattle.sal_sender.specs.declared.answers.Next.TheVariants.{Started, NotChosen, Full, Memory as StartMemory}
use Rattle.sal_sender.specs.declared.answers.Chosen.{Chosen}
use Rattle.sal_sender.specs.declared.answers.Chosen.TheVariants.{NoPicture, Waiting, Sent, Nothing, Memory as ChosenMemory}
use Rattle.sal_sender.specs.declared.answers.HeardAck.{HeardAck}
use Rattle.sal_sender.specs.Past.{Choose, burst_in, datagrams}
use Rattle.sal_sender.specs.OneThread.{Session}
use Rattle.sal_sender.specs.Choosing.{chosen}
use Rattle.sal_sender.specs.Answers.{next_answer}
use Rattle.sal_sender.specs.JobWork.{JobWork}
use Rattle.sal_sender.specs.Stands.{IsWorkOfItsJob}
use Rattle.sal_receiver.specs.declared.answers.Delivered.{Delivered}
use Rattle.sal_receiver.specs.declared.answers.Delivered.TheVariants.{Taken, Ended, Refused, Memory as DeliveredMemory}
use Rattle.sal_receiver.specs.declared.answers.Done.{Done}
use Rattle.sal_receiver.specs.declared.answers.Done.TheVariants.{Stranger, Returned, Unfit, Misnamed, Older, Show}
use Rattle.sal_receiver.specs.Handed.{HandedFrame, IsReadyFrame, IsHandedOut}
use Rattle.sal_receiver.specs.Past.{DecodeResult, Decoding}
use Rattle.sal_receiver.specs.Promises.{IsTaken}
use Rattle.sal_receiver.specs.Promises.{IsFit as IsFitCall}
use Rattle.sal_receiver.specs.Ready.{ready_source, frame, decoding_of}
use Rattle.sal_receiver.specs.Answers.{deliver_answer}
use Rattle.sal_world.specs.declared.event.Event.{Event}
use Rattle.sal_world.specs.declared.event.Answer.{Answer}
use Rattle.sal_world.specs.declared.event.Answer.TheVariants.{Memory}
use Rattle.sal_world.specs.declared.event.ChooseAnswer.{ChooseAnswer}
use Rattle.sal_world.specs.declared.event.ChooseAnswer.TheVariants.{NoPicture as NoPictureOpen, Waiting as WaitingFor, Sent as SentAlone, Nothing as NothingFits, Memory as ChooseMemory}
use Rattle.sal_world.specs.declared.event.Unsent.{Unsent}
use Rattle.sal_world.proofs.OwnJobs.{own_job, own_size}
use Rattle.sal_world.proofs.OwnFrames.{own_frame}
use Rattle.sal_world.specs.World.{WorldEvent, Starts, TakesJob, Reports, Chooses, Delivers, Hears, TakesReady, Decodes, Passes, WorldPast, sent, acks, at_number, delivered_if_sent, heard_if_sent, happens, after}
use Rattle.sal_world.specs.Promises.{HasSize, IsOfSize, NothingIsRefused}
use Rattle.sal_world.specs.WorldParts.{WorldParts}
use Rattle.sal_world.specs.Answers.{event_of, takes_memory, without_datagrams, choose_answer, answer_to_datagram, delivery_answer, answer_to_ack, hear_answer, done_answer, of_next, of_choose, of_deliver, of_hear, answer_to, IsHonest, IsHonestDelivery, IsHonestHearing, IsHonestDone}
use Rattle.sal_world.specs.Stands.{IsWorld, Stands, WasHandedOut, WasReady, May, Happened, HappenedUnless, Stepped, HappenedIn, HappenedInUnless}
use Rattle.sal_world.proofs.Stepping.{opened}
use Rattle.sal_world.proofs.Legal.{legal}
use Rattle.sal_world.proofs.ChoiceSteps.{all_counted}

module _ {S : Type 0} (codec : Coding S) (session : Session) where
  after_more : (event : WorldEvent) (events : List WorldEvent) → after codec session (event ∷ events) ≡ happens codec session (after codec session events) event
  unfolding after
  after_more event events = refl

  -- ---- from one world to the events before it

  pub lifted : {A : Type 0} (old new : WorldParts S) (events : List WorldEvent) (event : WorldEvent) (answer right : A) → Stands codec session old events → IsOfSize session event → HappenedIn codec session new (after codec session events) event answer right → Happened codec session new events event answer right
  lifted old new events event answer right stands size did = (
    did.0,
    record {
      session_is = stands.session_is;
      sizes = (size, stands.sizes);
      world = subst (λ w. IsWorld codec session new w) (sym (after_more event events)) did.1;
    },
  )

  pub lifted_unless : {A : Type 0} (old new : WorldParts S) (events : List WorldEvent) (event : WorldEvent) (lacking answer right : A) → Stands codec session old events → IsOfSize session event → HappenedInUnless codec session lacking new (after codec session events) event answer right → HappenedUnless codec session lacking new events event answer right
  lifted_unless old new events event lacking answer right stands size (inl lacks) = inl lacks
  lifted_unless old new events event lacking answer right stands size (inr did) = inr (lifted old new events event answer right stands size did)

  -- a moment comes
  pub passed : (x b : WorldParts S) (w : WorldPast S) (moment t : ℕ) → x ≡ b → IsWorld codec session b w → t ≡ max moment x.moment → HappenedIn codec session (record x { moment = t }) w (Passes moment) t (max moment w.moment)
  passed x b w moment t view seen is_max =
      let is : IsWorld codec session x w = opened codec session x b w view seen in
      let now : t ≡ max moment w.moment = is_max ∙ ap (λ n. max moment n) is.moment_is in
      (now, record { session_is = is.session_is; sender = is.sender; receiver = is.receiver; sent_are = is.sent_are; acks_are = is.acks_are; moment_is = now })

  -- ---- what may be given

  pub picture_size : (b : WorldParts S) (events : List WorldEvent) (picture : Picture) → Stands codec session b events → HasSize b.sender.session picture → HasSize session picture
  picture_size b events picture stands size = subst (λ (s : Session). HasSize s picture) stands.world.session_is size

  pub session_size : (b : WorldParts S) (events : List WorldEvent) (picture : Picture) → Stands codec session b events → HasSize session picture → HasSize b.sender.session picture
  session_size b events picture stands size = subst (λ (s : Session). HasSize s picture) (sym stands.world.session_is) size

  pub opened_size : (x b : WorldParts S) (events : List WorldEvent) (picture : Picture) → x ≡ b → Stands codec session b events → HasSize session picture → HasSize x.sender.session picture
  opened_size x b events picture view stands size = subst (λ (v : WorldParts S). HasSize v.sender.session picture) (sym view) (session_size b events picture stands size)

  -- what ran of what the events handed out is own work
  pub handed_out_size : (events : List WorldEvent) (work : JobWork S) → Each (IsOfSize session) events → WasHandedOut codec session events work → HasSize session work.samples
  handed_out_size events work sizes out = own_size codec session out.later out.before work (subst (λ es. Each (IsOfSize session) es) out.events_are sizes) out.next

  pub handed_out_own : (events : List WorldEvent) (work : JobWork S) → WasHandedOut codec session events work → IsWorkOfItsJob codec (after codec session events).sender work
  handed_out_own events work out = subst (λ es. IsWorkOfItsJob codec (after codec session es).sender work) (sym out.events_are) (own_job codec session out.later out.before work out.next)

  pub ready_own : (events : List WorldEvent) (h : HandedFrame S) → WasReady codec session events h → IsHandedOut codec (after codec session events).receiver h
  ready_own events h out is_out = subst (λ es. IsReadyFrame codec (after codec session es).receiver h) (sym out.events_are) (own_frame codec session out.later out.before h out.next)

  -- ---- a choice counts its datagrams

  chose_count : (w : WorldPast S) (choice : Choice) (answer : Chosen) → Each Rattle.sal_world.specs.Promises.IsCounted (Choose w.moment answer ∷ w.sender) → without_datagrams answer ≡ SentAlone choice → choice.count ≡ length (burst_in (Choose w.moment answer))
  chose_count w choice NoPicture each e = absurd (cc)
  chose_count w choice (Waiting id) each e = absurd (cc)
  chose_count w choice (Nothing budget sizes) each e = absurd (cc)
  chose_count w choice ChosenMemory each e = absurd (cc)
  chose_count w choice (Sent other burst) each e = let same : choice ≡ other = cc in ap (λ (c : Choice). c.count) same ∙ each.0

  pub counted_choice : (old new : WorldParts S) (events : List WorldEvent) (choice : Choice) (answer : ChooseAnswer) → answer ≡ SentAlone choice → Stands codec session old events → HappenedInUnless codec session ChooseMemory new (after codec session events) Chooses answer (choose_answer codec session (after codec session events)) → length new.sent ≡ length old.sent + choice.count
  counted_choice old new events choice answer e stands (inl lacks) = absurd (let q : ChooseMemory ≡ SentAlone choice = sym lacks ∙ e in cc)
  counted_choice old new events choice answer e stands (inr did) =
      let w : WorldPast S = after codec session events in
      let chose : Chosen = chosen codec session w.sender w.moment in
      let each : Each Rattle.sal_world.specs.Promises.IsCounted (Choose w.moment chose ∷ w.sender) =
      all_counted codec session (Choose w.moment chose ∷ w.sender) (subst (λ v. Rattle.sal_sender.specs.Promises.IsLegalSender codec session v.sender) (after_more Chooses events) (legal codec session (Chooses ∷ events)).sender) in
      let count : choice.count ≡ length (burst_in (Choose w.moment chose)) = chose_count w choice chose each (sym did.0 ∙ e) in
      let before : length old.sent ≡ length (datagrams w.sender) = ap (λ (ts : List (List ℕ)). length ts) stands.world.sent_are in
      let now : length new.sent ≡ length (datagrams w.sender ++ burst_in (Choose w.moment chose)) = ap (λ (ts : List (List ℕ)). length ts) did.1.sent_are in
      omega (arith, count, before, now, length-append (datagrams w.sender) (burst_in (Choose w.moment chose)))

  -- ---- honest calls

  taken_honest : (answer : Delivered) → IsTaken answer → IsHonestDelivery (Ok answer)
  taken_honest (Taken ack) is = tt
  taken_honest (Ended last) is = is
  taken_honest (Refused cause) is = is
  taken_honest DeliveredMemory is = tt

  delivery_is : (w : WorldPast S) (which : ℕ) (o : Option (List ℕ)) → NothingIsRefused (delivered_if_sent codec w o) → IsHonestDelivery (answer_to_datagram codec session w which o)
  delivery_is w which None none = tt
  delivery_is w which (Some bytes) none = taken_honest (deliver_answer codec w.receiver _ w.moment) none.down.0

  pub honest_delivery : (new : WorldParts S) (events : List WorldEvent) (which : ℕ) (answer : Result Delivered Unsent) → HappenedUnless codec session (Ok DeliveredMemory) new events (Delivers which) answer (delivery_answer codec session (after codec session events) which) → (Stands codec session new (Delivers which ∷ events) → NothingIsRefused (after codec session (Delivers which ∷ events))) → IsHonestDelivery answer
  honest_delivery new events which answer (inl lacks) none = subst (λ a. IsHonestDelivery a) (sym lacks) tt
  honest_delivery new events which answer (inr did) none =
      let w : WorldPast S = after codec session events in
      subst (λ a. IsHonestDelivery a) (sym did.0) (delivery_is w which (at_number (sent w) which) (subst (λ v. NothingIsRefused v) (after_more (Delivers which) events) (none did.1)))

  hearing_is : (w : WorldPast S) (which : ℕ) (o : Option Ack) → NothingIsRefused (heard_if_sent codec session w o) → IsHonestHearing (answer_to_ack codec session w which o)
  hearing_is w which None none = tt
  hearing_is w which (Some ack) none = none.up.0

  pub honest_hearing : (events : List WorldEvent) (which : ℕ) (answer : Result HeardAck Unsent) → answer ≡ hear_answer codec session (after codec session events) which → NothingIsRefused (after codec session (Hears which ∷ events)) → IsHonestHearing answer
  honest_hearing events which answer is none =
      let w : WorldPast S = after codec session events in
      subst (λ a. IsHonestHearing a) (sym is) (hearing_is w which (at_number (acks w) which) (subst (λ v. NothingIsRefused v) (after_more (Hears which) events) none))

  done_is : (n : ℕ) (outcome : DecodeResult S) (answer : Done) → IsFitCall (Decoding n outcome answer) → IsHonestDone answer
  done_is n outcome Stranger fit = tt
  done_is n outcome (Returned m) fit = tt
  done_is n outcome (Unfit m why) fit = fit
  done_is n outcome (Misnamed named found) fit = fit
  done_is n outcome (Older m greater) fit = tt
  done_is n outcome (Show m picture) fit = tt

  pub honest_decoding : (events : List WorldEvent) (n : ℕ) (ran : Bool) (answer : Done) → answer ≡ done_answer codec session (after codec session events) n ran → NothingIsRefused (after codec session (Decodes n ran ∷ events)) → IsHonestDone answer
  honest_decoding events n ran answer is none =
      let w : WorldPast S = after codec session events in
      let same : NothingIsRefused (happens codec session w (Decodes n ran)) = subst (λ v. NothingIsRefused v) (after_more (Decodes n ran) events) none in
      subst (λ a. IsHonestDone a) (sym is) (done_is n (decoding_of codec (ready_source codec w.receiver n) (frame w.receiver n) ran) (done_answer codec session w n ran) same.decoded.0)

-- ---- an event that is given

module _ (C S : Type 0) (codec : Coding S) (session : Session) where
  honest_next : (answer : Start) → IsHonest {C = C} {S = S} (of_next answer)
  honest_next (Started jobs) = tt
  honest_next (NotChosen n) = tt
  honest_next Full = tt
  honest_next StartMemory = tt

  honest_choice : (answer : ChooseAnswer) → IsHonest {C = C} {S = S} (of_choose answer)
  honest_choice NoPictureOpen = tt
  honest_choice (WaitingFor id) = tt
  honest_choice (SentAlone choice) = tt
  honest_choice (NothingFits budget sizes) = tt
  honest_choice ChooseMemory = tt

  honest_down : (answer : Result Delivered Unsent) → IsHonestDelivery answer → IsHonest {C = C} {S = S} (of_deliver answer)
  honest_down (Ok (Taken ack)) is = tt
  honest_down (Ok (Ended last)) is = is
  honest_down (Ok (Refused cause)) is = is
  honest_down (Ok DeliveredMemory) is = tt
  honest_down (Err unsent) is = tt

  honest_up : (answer : Result HeardAck Unsent) → IsHonestHearing answer → IsHonest {C = C} {S = S} (of_hear answer)
  honest_up (Ok answer) is = is
  honest_up (Err unsent) is = tt

  honest_is : (w : WorldPast S) (event : WorldEvent) → NothingIsRefused (happens codec session w event) → IsHonest {C = C} {S = S} (answer_to codec session w event)
  honest_is w (Starts picture) none = honest_next (next_answer w.sender)
  honest_is w TakesJob none = tt
  honest_is w (Reports job gave) none = tt
  honest_is w Chooses none = honest_choice (choose_answer codec session w)
  honest_is w (Delivers which) none = honest_down (delivery_answer codec session w which) (delivery_is codec session w which (at_number (sent w) which) none)
  honest_is w (Hears which) none = honest_up (hear_answer codec session w which) (hearing_is codec session w which (at_number (acks w) which) none)
  honest_is w TakesReady none = tt
  honest_is w (Decodes n ran) none = done_is codec session n (decoding_of codec (ready_source codec w.receiver n) (frame w.receiver n) ran) (done_answer codec session w n ran) none.decoded.0
  honest_is w (Passes moment) none = tt

module _ {C S : Type 0} (codec : Coding S) (session : Session) where
  -- an event as it is given
  pub may_as : (events : List WorldEvent) (event given : Event C S) → event ≡ given → May codec session events event → May codec session events given
  may_as events event given e may = subst (λ v. May codec session events v) e may

  pub stepped_as : (new : WorldParts S) (events : List WorldEvent) (event given : Event C S) (answer : Answer C S) → event ≡ given → Stepped codec session new events given answer → Stepped codec session new events event answer
  stepped_as new events event given answer e did = subst (λ v. Stepped codec session new events v answer) (sym e) did

  pub takes_as : (w : WorldPast S) (event given : Event C S) → event ≡ given → takes_memory w (event_of given) ≡ true → takes_memory w (event_of event) ≡ true
  takes_as w event given e h = ap (λ v. takes_memory w (event_of v)) e ∙ h

  -- the answer to an event from that to its call
  pub as_answer : {A : Type 0} (f : A → Answer C S) (new : WorldParts S) (events : List WorldEvent) (event : WorldEvent) (out : Answer C S) (answer right : A) → out ≡ f answer → f right ≡ answer_to codec session (after codec session events) event → Happened codec session new events event answer right → HappenedUnless codec session Memory new events event out (answer_to codec session (after codec session events) event)
  as_answer f new events event out answer right is same did = inr (is ∙ (ap f did.0 ∙ same), did.1)

  pub as_unless : {A : Type 0} (f : A → Answer C S) (new : WorldParts S) (events : List WorldEvent) (event : WorldEvent) (out : Answer C S) (lacking answer right : A) → out ≡ f answer → f lacking ≡ Memory → f right ≡ answer_to codec session (after codec session events) event → HappenedUnless codec session lacking new events event answer right → HappenedUnless codec session Memory new events event out (answer_to codec session (after codec session events) event)
  as_unless f new events event out lacking answer right is none same (inl lacks) = inl (is ∙ (ap f lacks ∙ none))
  as_unless f new events event out lacking answer right is none same (inr did) = as_answer f new events event out answer right is same did

  pub honest : (new : WorldParts S) (events : List WorldEvent) (event : Event C S) (answer : Answer C S) → Stepped codec session new events event answer → (Stands codec session new (event_of event ∷ events) → NothingIsRefused (after codec session (event_of event ∷ events))) → IsHonest answer
  honest new events event answer (inl memory) none = subst (λ a. IsHonest a) (sym memory) tt
  honest new events event answer (inr did) none =
      subst (λ a. IsHonest a) (sym did.0)
      (honest_is C S codec session (after codec session events) (event_of event) (subst (λ w. NothingIsRefused w) (after_more codec session (event_of event) events) (none did.1)))

  -- want of memory, from the answers to the calls
  pub lacks_next : (answer : Start) (out : Answer C S) → out ≡ of_next answer → out ≡ Memory → answer ≡ StartMemory
  lacks_next (Started jobs) out is h = absurd (cc)
  lacks_next (NotChosen n) out is h = absurd (cc)
  lacks_next Full out is h = absurd (cc)
  lacks_next StartMemory out is h = refl

  pub lacks_deliver : (answer : Result Delivered Unsent) (out : Answer C S) → out ≡ of_deliver answer → out ≡ Memory → answer ≡ Ok DeliveredMemory
  lacks_deliver (Ok (Taken ack)) out is h = absurd (cc)
  lacks_deliver (Ok (Ended last)) out is h = absurd (cc)
  lacks_deliver (Ok (Refused cause)) out is h = absurd (cc)
  lacks_deliver (Ok DeliveredMemory) out is h = refl
  lacks_deliver (Err unsent) out is h = absurd (cc)

  pub lacks_hear : (answer : Result HeardAck Unsent) (out : Answer C S) → out ≡ of_hear answer → out ≡ Memory → ⊥
  lacks_hear (Ok answer) out is h = cc
  lacks_hear (Err unsent) out is h = cc
