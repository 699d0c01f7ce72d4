-- The events for which a world stands.
use Rattle.std.specs.Prelude.{◌≡◌, ◌⊎◌, List, ◌∷◌, ◌++◌, map, Some}
use Rattle.std.specs.Arc.{arc_value}
use Rattle.sal_base.specs.Lists.{Each}
use Rattle.sal_codec.specs.Coding.{Coding}
use Rattle.sal_wire.specs.Layout.{ack_bytes}
use Rattle.sal_sender.specs.OneThread.{Session}
use Rattle.sal_sender.specs.JobWork.{JobWork}
use Rattle.sal_sender.specs.Stands.{SenderStands}
use Rattle.sal_receiver.specs.Machine.{ReceiverStands}
use Rattle.sal_receiver.specs.Handed.{HandedFrame}
use Rattle.sal_world.specs.declared.event.Event.{Event}
use Rattle.sal_world.specs.declared.event.Event.TheVariants.{Next, Report, Decoded}
use Rattle.sal_world.specs.declared.event.Answer.{Answer}
use Rattle.sal_world.specs.declared.event.Answer.TheVariants.{Memory}
use Rattle.sal_world.specs.WorldParts.{WorldParts}
use Rattle.sal_world.specs.World.{WorldEvent, TakesJob, TakesReady, WorldPast, sent, acks, happens, after}
use Rattle.sal_world.specs.Promises.{IsSession, HasSize, IsOfSize}
use Rattle.sal_world.specs.HandedOut.{next_job, next_frame}
use Rattle.sal_world.specs.Answers.{event_of, answer_to}

module _ {S : Type 0} (codec : Coding S) (session : Session) where
  -- what is kept is what both machines, their datagrams, acknowledgements and moment are
  pub record IsWorld (b : WorldParts S) (w : WorldPast S) : Type 0 where
    pub session_is : b.sender.session ≡ session
    pub sender : SenderStands codec b.sender w.sender
    pub receiver : ReceiverStands codec b.receiver w.receiver
    pub sent_are : b.sent ≡ sent w
    pub acks_are : b.acks ≡ map ack_bytes (acks w)
    pub moment_is : b.moment ≡ w.moment

  -- the world is as these events leave it, the newest first
  pub record Stands (b : WorldParts S) (events : List WorldEvent) : Type 0 where
    pub session_is : IsSession session
    pub sizes : Each (IsOfSize session) events
    pub world : IsWorld b (after codec session events)

  -- one of these events handed out this job
  pub record WasHandedOut (events : List WorldEvent) (work : JobWork S) : Type 0 where
    pub later : List WorldEvent
    pub before : List WorldEvent
    pub events_are : events ≡ later ++ TakesJob ∷ before
    pub next : next_job codec (after codec session before).sender ≡ Some work

  -- one of these events handed out this frame
  pub record WasReady (events : List WorldEvent) (handed : HandedFrame S) : Type 0 where
    pub later : List WorldEvent
    pub before : List WorldEvent
    pub events_are : events ≡ later ++ TakesReady ∷ before
    pub next : next_frame codec (after codec session before).receiver ≡ Some handed

  -- an event happened after these events: its call was answered as it is to be, and the world stands for them with the
  -- event in front
  abbrev pub Happened : {A : Type 0} → WorldParts S → List WorldEvent → WorldEvent → A → A → Type 0
  Happened new events event answer right = (answer ≡ right) × Stands new (event ∷ events)

  -- the same, or there was no memory for it
  abbrev pub HappenedUnless : {A : Type 0} → A → WorldParts S → List WorldEvent → WorldEvent → A → A → Type 0
  HappenedUnless lacking new events event answer right = (answer ≡ lacking) ⊎ Happened new events event answer right

module _ {C S : Type 0} (codec : Coding S) (session : Session) where
  -- what may be given after these events: a picture of the session's size, and what ran of what they handed out
  abbrev pub May : List WorldEvent → Event C S → Type 0
  May events (Next picture) = HasSize session (arc_value picture)
  May events (Report report) = WasHandedOut codec session events report.work
  May events (Decoded decoding) = WasReady codec session events decoding.handed
  May events _ = Unit {0}

  -- an event that is given happened after these events
  abbrev pub Stepped : WorldParts S → List WorldEvent → Event C S → Answer C S → Type 0
  Stepped new events event answer = HappenedUnless codec session Memory new events (event_of event) answer (answer_to codec session (after codec session events) (event_of event))

-- after a late report all is as it was, but which jobs are out: the chain, its tip and floor, the states held, the reports
-- of the open picture, the receiver, and all that was sent and acknowledged
abbrev pub IsSameButJobsOut : {S : Type 0} → WorldParts S → WorldParts S → Type 0
IsSameButJobsOut old new = new ≡ record old { sender = record old.sender { outstanding = new.sender.outstanding } }

-- ---- for the proofs: the same of one world, without the events before it

module _ {S : Type 0} (codec : Coding S) (session : Session) where
  abbrev pub HappenedIn : {A : Type 0} → WorldParts S → WorldPast S → WorldEvent → A → A → Type 0
  HappenedIn new w event answer right = (answer ≡ right) × IsWorld codec session new (happens codec session w event)

  abbrev pub HappenedInUnless : {A : Type 0} → A → WorldParts S → WorldPast S → WorldEvent → A → A → Type 0
  HappenedInUnless lacking new w event answer right = (answer ≡ lacking) ⊎ HappenedIn new w event answer right
