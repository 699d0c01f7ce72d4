-- That what is counted of each answer is what the calls so far come to.
use Rattle.std.proofs.Common.{◌≡◌, ℕ, ◌+◌, Bool, true, false, List, [], ◌∷◌, ◌++◌, length, Option, Some, None, refl, ap, ◌∙◌, append-nil, length-append, arith}
use Rattle.std.specs.Prelude.{if◌then◌else◌}
use Rattle.sal_base.specs.declared.picture.Picture.{Picture}
use Rattle.sal_codec.specs.Coding.{Coding}
use Rattle.sal_wire.specs.declared.datagram.Ack.{Ack}
use Rattle.sal_sender.specs.declared.choice.Choice.{Choice}
use Rattle.sal_sender.specs.declared.answers.Next.{Next}
use Rattle.sal_sender.specs.declared.answers.Next.TheVariants as next
use Rattle.sal_sender.specs.declared.answers.Chosen.{Chosen}
use Rattle.sal_sender.specs.declared.answers.Chosen.TheVariants as chosen
use Rattle.sal_sender.specs.OneThread.{Session}
use Rattle.sal_sender.specs.Past.{NextPicture, Choose, pictures, choices}
use Rattle.sal_receiver.specs.declared.answers.Done.{Done}
use Rattle.sal_receiver.specs.declared.answers.Done.TheVariants.{Stranger, Returned, Unfit, Misnamed, Older, Show}
use Rattle.sal_receiver.specs.Past.{DecodeResult, Decoding, shown}
use Rattle.sal_world.specs.World.{WorldEvent, Starts, TakesJob, Reports, Chooses, Delivers, Hears, TakesReady, Decodes, Passes, WorldPast, sent, acks, at_number, delivered_if_sent, heard_if_sent, happens}
use Rattle.sal_world.specs.Answers.{without_datagrams}
use Rattle.sal_run.specs.Summary.{counted, nothings, is_key, keys}
use Rattle.sal_run.specs.Counts.{more, with_next, with_choice, with_done, counts_of}

-- any event of which nothing is counted
abbrev pub IsUncounted : WorldEvent → Type 0
IsUncounted (Starts picture) = ⊥
IsUncounted Chooses = ⊥
IsUncounted (Decodes n ran) = ⊥
IsUncounted _ = Unit {0}

-- ---- one count more

one_more : (m n : ℕ) → m ≡ n + 1 → counted m ≡ more (counted n)
one_more m n e = omega (arith, e)

no_picture : (xs : List Picture) → counted (length (xs ++ [])) ≡ counted (length xs)
no_picture xs = ap (λ (l : List Picture). counted (length l)) (append-nil xs)

a_picture : (xs : List Picture) (p : Picture) → counted (length (xs ++ p ∷ [])) ≡ more (counted (length xs))
a_picture xs p = one_more _ _ (length-append xs (p ∷ []))

a_choice : (xs : List Choice) (x : Choice) → counted (length (x ∷ xs)) ≡ more (counted (length xs))
a_choice xs x = one_more _ _ (omega arith)

a_nothing : (xs : List ℕ) (x : ℕ) → counted (length (x ∷ xs)) ≡ more (counted (length xs))
a_nothing xs x = one_more _ _ (omega arith)

a_shown : (xs : List (ℕ × Picture)) (x : ℕ × Picture) → counted (length (x ∷ xs)) ≡ more (counted (length xs))
a_shown xs x = one_more _ _ (omega arith)

if_key : (b : Bool) (xs : List Choice) (x : Choice) → counted (length (if b then x ∷ xs else xs)) ≡ (if b then more (counted (length xs)) else counted (length xs))
if_key true xs x = a_choice xs x
if_key false xs x = refl

module _ {S : Type 0} where
  -- the pictures of the counts after a call of the sender that starts none
  still_pictures : (w : WorldPast S) → record (counts_of w) { pictures = counted (length (pictures w.sender ++ [])) } ≡ counts_of w
  still_pictures w = ap (λ (n : ℕ). record (counts_of w) { pictures = n }) (no_picture (pictures w.sender))

  -- ---- a picture is started

  pub start_counts : (w : WorldPast S) (picture : Picture) (moment : ℕ) (answer : Next) → counts_of (record w { sender = NextPicture picture moment answer ∷ w.sender }) ≡ with_next answer (counts_of w)
  start_counts w picture moment (next.Started jobs) = ap (λ (n : ℕ). record (counts_of w) { pictures = n }) (a_picture (pictures w.sender) picture)
  start_counts w picture moment (next.NotChosen number) = still_pictures w
  start_counts w picture moment next.Full = still_pictures w
  start_counts w picture moment next.Memory = still_pictures w

  -- ---- a choice

  pub choice_counts : (w : WorldPast S) (moment : ℕ) (answer : Chosen) → counts_of (record w { sender = Choose moment answer ∷ w.sender }) ≡ with_choice (without_datagrams answer) (counts_of w)
  choice_counts w moment chosen.NoPicture = still_pictures w
  choice_counts w moment (chosen.Waiting id) = still_pictures w
  choice_counts w moment chosen.Memory = still_pictures w
  choice_counts w moment (chosen.Nothing budget sizes) =
      ap (λ (n : ℕ). record (counts_of w) { pictures = n; nothing = counted (length (budget ∷ nothings w.sender)) }) (no_picture (pictures w.sender))
      ∙ ap (λ (n : ℕ). record (counts_of w) { nothing = n }) (a_nothing (nothings w.sender) budget)
  choice_counts w moment (chosen.Sent choice burst) =
      let ks : List Choice = keys w.sender in
      let k : ℕ = counted (length (if is_key choice then choice ∷ ks else ks)) in
      ap (λ (n : ℕ). record (counts_of w) { pictures = n; chosen = counted (length (choice ∷ choices w.sender)); keys = k }) (no_picture (pictures w.sender))
      ∙ (ap (λ (n : ℕ). record (counts_of w) { chosen = n; keys = k }) (a_choice (choices w.sender) choice)
      ∙ ap (λ (n : ℕ). record (counts_of w) { chosen = more (counted (length (choices w.sender))); keys = n }) (if_key (is_key choice) ks choice))

  -- ---- a decoding

  pub done_counts : (w : WorldPast S) (n : ℕ) (outcome : DecodeResult S) (done : Done) → counts_of (record w { receiver = Decoding n outcome done ∷ w.receiver }) ≡ with_done done (counts_of w)
  done_counts w n outcome Stranger = refl
  done_counts w n outcome (Returned k) = refl
  done_counts w n outcome (Unfit k why) = refl
  done_counts w n outcome (Misnamed said found) = refl
  done_counts w n outcome (Older k greater) = refl
  done_counts w n outcome (Show k picture) = ap (λ (m : ℕ). record (counts_of w) { shown = m }) (a_shown (shown w.receiver) (k, picture))

module _ {S : Type 0} (codec : Coding S) (session : Session) where
  same_down : (w : WorldPast S) (o : Option (List ℕ)) → counts_of (delivered_if_sent codec w o) ≡ counts_of w
  same_down w None = refl
  same_down w (Some bytes) = refl

  same_up : (w : WorldPast S) (o : Option Ack) → counts_of (heard_if_sent codec session w o) ≡ counts_of w
  same_up w None = refl
  same_up w (Some ack) = still_pictures w

  -- nothing is counted of any other event
  pub same_counts : (w : WorldPast S) (e : WorldEvent) → IsUncounted e → counts_of (happens codec session w e) ≡ counts_of w
  same_counts w (Starts picture) h = absurd h
  same_counts w TakesJob h = still_pictures w
  same_counts w (Reports job gave) h = still_pictures w
  same_counts w Chooses h = absurd h
  same_counts w (Delivers which) h = same_down w (at_number (sent w) which)
  same_counts w (Hears which) h = same_up w (at_number (acks w) which)
  same_counts w TakesReady h = refl
  same_counts w (Decodes n ran) h = absurd h
  same_counts w (Passes moment) h = refl
