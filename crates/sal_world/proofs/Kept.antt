-- Each event keeps the invariant, so it holds in every world.
use Rattle.std.proofs.Common.{◌≡◌, ℕ, List, [], ◌∷◌, ◌++◌, Option, Some, None, refl, subst, append-nil, inl, arith}
use Rattle.sal_base.specs.Lists.{Each}
use Rattle.sal_base.specs.declared.picture.Picture.{Picture}
use Rattle.sal_codec.specs.Coding.{Coding, IsLawful}
use Rattle.sal_wire.specs.declared.datagram.Ack.{Ack}
use Rattle.sal_sender.specs.declared.answers.Chosen.{Chosen}
use Rattle.sal_sender.specs.declared.answers.Chosen.TheVariants.{NoPicture, Waiting, Sent, Nothing, Memory}
use Rattle.sal_sender.specs.Past.{Past, NextPicture, Choose, choices, pictures, picture_in}
use Rattle.sal_sender.specs.Chain.{NamesDiffer}
use Rattle.sal_sender.specs.OneThread.{Session}
use Rattle.sal_sender.specs.Choosing.{chosen}
use Rattle.sal_sender.specs.Answers.{next_answer}
use Rattle.sal_sender.specs.Promises.{IsLegalSender}
use Rattle.sal_sender.proofs.Thread.{thread_of_legal}
use Rattle.sal_sender.proofs.Older.{names_older, names_before}
use Rattle.sal_sender.proofs.Sound.{chained_of_legal, sound}
use Rattle.sal_receiver.specs.Ready.{ready_source}
use Rattle.sal_world.specs.World.{WorldEvent, Starts, TakesJob, Reports, Chooses, Delivers, Hears, TakesReady, Decodes, Passes, WorldPast, start, acks, sent, at_number, heard_if_sent, delivered_if_sent, happens, after}
use Rattle.sal_world.specs.Promises.{IsSession, IsOfSize, NamesDifferIn, AllInterleavings}
use Rattle.sal_world.specs.Invariant.{Invariant, IsFrameOfNumber, IsKept, HoldsEverywhere}
use Rattle.sal_world.proofs.FromInvariant.{always, held_by_names}
use Rattle.sal_world.proofs.Legal.{IsLegalWorld, legal, happened}
use Rattle.sal_world.proofs.Given.{given_of_legal}
use Rattle.sal_world.proofs.Sending.{next_kept, take_kept, report_kept, choose_kept}
use Rattle.sal_world.proofs.Hearing.{up_kept}
use Rattle.sal_world.proofs.Receiving.{ready_kept, decodes_kept}
use Rattle.sal_world.proofs.Delivering.{down_kept}

module _ {S : Type 0} (codec : Coding S) (session : Session) where
  -- ---- names that differ after an event differed before

  before_more : (past : Past) (more : List Picture) → IsLegalSender codec session past → NamesDiffer codec (pictures past ++ more) (choices past) → NamesDiffer codec (pictures past) (choices past)
  before_more past more is names = names_before codec (pictures past) more (choices past) (thread_of_legal codec session past is).shot names

  before_choice : (past : Past) (moment : ℕ) (answer : Chosen) → IsLegalSender codec session (Choose moment answer ∷ past) → NamesDiffer codec (pictures past ++ []) (choices (Choose moment answer ∷ past)) → NamesDiffer codec (pictures past) (choices past)
  before_choice past moment NoPicture is names = before_more past [] is.1 names
  before_choice past moment (Waiting id) is names = before_more past [] is.1 names
  before_choice past moment (Nothing budget sizes) is names = before_more past [] is.1 names
  before_choice past moment Memory is names = before_more past [] is.1 names
  before_choice past moment (Sent choice burst) is names =
      names_older codec (pictures past) choice (choices past) (chained_of_legal codec session (Choose moment (Sent choice burst) ∷ past) is)
      (subst (λ shot. NamesDiffer codec shot (choice ∷ choices past)) (append-nil (pictures past)) names)

  before_down : (w : WorldPast S) (o : Option (List ℕ)) → NamesDifferIn codec (delivered_if_sent codec w o) → NamesDifferIn codec w
  before_down w None names = names
  before_down w (Some bytes) names = names

  before_up : (w : WorldPast S) (o : Option Ack) → IsLegalWorld codec session w → NamesDifferIn codec (heard_if_sent codec session w o) → NamesDifferIn codec w
  before_up w None is names = names
  before_up w (Some ack) is names = before_more w.sender [] is.sender names

  pub names_back : (w : WorldPast S) (event : WorldEvent) → IsLegalWorld codec session w → NamesDifferIn codec (happens codec session w event) → NamesDifferIn codec w
  names_back w (Starts picture) is names = before_more w.sender (picture_in (NextPicture picture w.moment (next_answer w.sender))) is.sender names
  names_back w TakesJob is names = before_more w.sender [] is.sender names
  names_back w (Reports job gave) is names = before_more w.sender [] is.sender names
  names_back w Chooses is names = before_choice w.sender w.moment (chosen codec session w.sender w.moment) (happened codec session w Chooses is).sender names
  names_back w (Delivers which) is names = before_down w (at_number (sent w) which) names
  names_back w (Hears which) is names = before_up w (at_number (acks w) which) is names
  names_back w TakesReady is names = names
  names_back w (Decodes n ran) is names = names
  names_back w (Passes moment) is names = names

  -- a moment changes neither machine
  moment_kept : (w : WorldPast S) (m : ℕ) → Invariant codec session w → Invariant codec session (record w { moment = m })
  moment_kept w m inv = record { sender = inv.sender; receiver = inv.receiver; acks = inv.acks }

  -- ---- each event

  -- each event keeps the invariant, while names differ after it
  pub kept : IsLawful codec → IsSession session → (w : WorldPast S) (event : WorldEvent) → IsOfSize session event → IsLegalWorld codec session w → NamesDifferIn codec (happens codec session w event) → Invariant codec session w → Invariant codec session (happens codec session w event)
  kept law ok w (Starts picture) size is names inv = next_kept codec session w picture is size inv
  kept law ok w TakesJob size is names inv = take_kept codec session w is inv
  kept law ok w (Reports job gave) size is names inv = report_kept codec session w job gave is inv
  kept law ok w Chooses size is names inv = choose_kept codec session w is inv
  kept law ok w (Delivers which) size is names inv = down_kept codec session w which (given_of_legal codec session law ok w.sender is.sender inv.sender.sizes) (names_back w (Delivers which) is names) is inv
  kept law ok w (Hears which) size is names inv = up_kept codec session w which is inv
  kept law ok w TakesReady size is names inv = ready_kept codec session w (given_of_legal codec session law ok w.sender is.sender inv.sender.sizes) names inv
  kept law ok w (Decodes n ran) size is names inv = decodes_kept codec session w n ran (given_of_legal codec session law ok w.sender is.sender inv.sender.sizes) names is inv
  kept law ok w (Passes moment) size is names inv = moment_kept w _ inv

  no_frame : (n : ℕ) (source : S) → ready_source codec [] n ≡ Some source → IsFrameOfNumber codec session [] [] n source
  unfolding ready_source
  no_frame n source is = absurd (cc)

  at_start : Invariant codec session start
  at_start = record {
    sender = record { window = record { some = omega arith; low = omega arith; high = omega arith }; sound = sound codec session [] tt; sizes = tt };
    receiver = record { delivered = tt; floor = inl refl; behind = omega arith; parts = tt; held = tt; fit = tt; seen = tt; frames = no_frame };
    acks = record { heard = tt; acks = tt; named = tt; acked = tt };
  }

  -- the invariant holds after all events
  pub invariant_after : IsLawful codec → IsSession session → (events : List WorldEvent) → Each (IsOfSize session) events → NamesDifferIn codec (after codec session events) → Invariant codec session (after codec session events)
  unfolding after
  invariant_after law ok [] sizes names = at_start
  invariant_after law ok (event ∷ before) sizes names =
      let w : WorldPast S = after codec session before in
      let is : IsLegalWorld codec session w = legal codec session before in
      kept law ok w event sizes.0 is names (invariant_after law ok before sizes.1 (names_back w event is names))

  pub is_kept : IsLawful codec → IsKept codec session
  unfolding after
  is_kept law ok event events size names inv = kept law ok (after codec session events) event size (legal codec session events) names inv

  pub holds_everywhere : IsLawful codec → HoldsEverywhere codec session
  holds_everywhere law ok events sizes names = invariant_after law ok events sizes names

  pub all_interleavings : IsLawful codec → AllInterleavings codec session
  all_interleavings law ok events sizes = record { always = always codec session events; named = λ names. held_by_names codec session events (invariant_after law ok events sizes names) }
