-- What a choice makes of the world.
use Rattle.std.proofs.Common.{◌≡◌, ℕ, ◌≤◌, Bool, true, false, not, List, [], ◌∷◌, ◌++◌, length, map, Result, Ok, Err, is_err, refl, ap, sym, ◌∙◌, subst, arith, inl, inr}
use Rattle.std.proofs.lemmas.List.{append-nil, length-map}
use Rattle.std.specs.Prelude.{OnOk}
use Rattle.sal_codec.specs.Coding.{Coding, Made, made_of}
use Rattle.sal_wire.specs.Fragmentation.{below, fragment_count}
use Rattle.sal_wire.specs.Layout.{fragment_bytes}
use Rattle.sal_base.specs.Lists.{Each}
use Rattle.sal_sender.specs.declared.choice.Choice.{Choice}
use Rattle.sal_sender.specs.declared.answers.Chosen.{Chosen}
use Rattle.sal_sender.specs.declared.answers.Chosen.TheVariants.{NoPicture, Waiting, Sent, Nothing, Memory as ChosenMemory}
use Rattle.sal_sender.specs.Machine.{Machine}
use Rattle.sal_sender.specs.Past.{Past, NextPicture, TakeJob, Report, Choose, Hear, choices, pictures, burst_in}
use Rattle.sal_sender.specs.Past.{sent as sent_by}
use Rattle.sal_sender.specs.Chain.{state, made, picture_at}
use Rattle.sal_sender.specs.OneThread.{Session, burst_after}
use Rattle.sal_sender.specs.Choosing.{chosen}
use Rattle.sal_sender.specs.Answers.{closes}
use Rattle.sal_sender.specs.Promises.{SenderAnswers, SenderAnswered, IsLegalSender}
use Rattle.sal_sender.specs.Stands.{SenderStands}
use Rattle.sal_sender.proofs.Thread.{chosen_is}
use Rattle.sal_world.specs.declared.event.ChooseAnswer.{ChooseAnswer}
use Rattle.sal_world.specs.declared.event.ChooseAnswer.TheVariants.{Memory as ChooseMemory}
use Rattle.sal_world.specs.World.{Chooses, WorldPast}
use Rattle.sal_world.specs.WorldParts.{WorldParts}
use Rattle.sal_world.specs.Promises.{IsCounted}
use Rattle.sal_world.specs.Answers.{without_datagrams, choose_answer}
use Rattle.sal_world.specs.Stands.{IsWorld, HappenedInUnless}
use Rattle.sal_world.proofs.ListLemmas.{length_below}
use Rattle.sal_world.proofs.Framed.{AreMade, made_of_legal}
use Rattle.sal_world.proofs.Stepping.{opened}

pub on_ok : {X E : Type 0} (r : Result X E) (P : Type 0) → is_err r ≡ false → OnOk r P → P
on_ok (Ok x) P e h = h
on_ok (Err x) P e h = absurd (cc)

not_true : (b : Bool) → not b ≡ true → b ≡ false
not_true true h = absurd (cc)
not_true false h = refl

module _ {S : Type 0} where
  -- what is refused leaves the world as it was
  pub chosen_kept : (x b : WorldParts S) (m : Machine S) (all : List (List ℕ)) (answer chose : Chosen) → x ≡ b → all ≡ x.sent → (closes answer ≡ false → m ≡ x.sender) → answer ≡ chose → not (closes chose) ≡ true → record x { sender = m; sent = all } ≡ b
  chosen_kept x b m all answer chose view same kept e h =
      let whole : m ≡ x.sender = kept (ap (λ a. closes a) e ∙ not_true (closes chose) h) in
      ap (λ (v : Machine S). record x { sender = v; sent = all }) whole ∙ (ap (λ (ts : List (List ℕ)). record x { sent = ts }) same ∙ view)

module _ {S : Type 0} (codec : Coding S) where
  -- a choice has as many datagrams as it counts, at most 4,096
  long_step : (session : Session) (past : Past) (choice : Choice) (burst : List (List ℕ)) → burst ≡ map fragment_bytes (burst_after codec session (pictures past) (choices past) choice (sent_by past)) → AreMade codec (pictures past) (choice ∷ choices past) → (choice.count ≡ length burst) × (length burst ≤ 4096)
  long_step session past choice burst is all =
      let same : made codec (pictures past) (choices past) choice ≡ record { bytes = all.0.encoded.bytes; target = all.0.encoded.target; recon = all.0.encoded.recon } = ap (λ x. made_of (state codec (pictures past) (choices past) choice.source) (picture_at (pictures past) choice.picture) x) all.0.encoded.is in
      let count : fragment_count (made codec (pictures past) (choices past) choice).bytes ≡ fragment_count all.0.encoded.bytes = ap (λ (m : Made S). fragment_count m.bytes) same in
      let long : length burst ≡ fragment_count (made codec (pictures past) (choices past) choice).bytes =
      ap (λ (ts : List (List ℕ)). length ts) is ∙ (length-map (burst_after codec session (pictures past) (choices past) choice (sent_by past)) fragment_bytes ∙ (length-map (below (fragment_count (made codec (pictures past) (choices past) choice).bytes)) _ ∙ length_below (fragment_count (made codec (pictures past) (choices past) choice).bytes))) in
      let few : fragment_count all.0.encoded.bytes ≤ 4096 = all.0.encoded.few in
      (all.0.encoded.count_is ∙ sym (long ∙ count), omega arith)

  burst_long : (session : Session) (past : Past) (moment : ℕ) (choice : Choice) (burst : List (List ℕ)) → IsLegalSender codec session (Choose moment (Sent choice burst) ∷ past) → (choice.count ≡ length burst) × (length burst ≤ 4096)
  burst_long session past moment choice burst legal =
      long_step session past choice burst (chosen_is codec session past moment choice burst legal.0).datagrams
      (subst (λ shot. AreMade codec shot (choice ∷ choices past)) (append-nil (pictures past)) (made_of_legal codec session (Choose moment (Sent choice burst) ∷ past) legal))

  -- each choice of a legal past counts its datagrams
  pub all_counted : (session : Session) (past : Past) → IsLegalSender codec session past → Each IsCounted past
  all_counted session [] legal = tt
  all_counted session (NextPicture picture moment answer ∷ past) legal = (tt, all_counted session past legal.1)
  all_counted session (TakeJob answer ∷ past) legal = (tt, all_counted session past legal.1)
  all_counted session (Report job gave answer ∷ past) legal = (tt, all_counted session past legal.1)
  all_counted session (Hear came moment answer ∷ past) legal = (tt, all_counted session past legal.1)
  all_counted session (Choose moment NoPicture ∷ past) legal = (tt, all_counted session past legal.1)
  all_counted session (Choose moment (Waiting id) ∷ past) legal = (tt, all_counted session past legal.1)
  all_counted session (Choose moment (Nothing budget sizes) ∷ past) legal = (tt, all_counted session past legal.1)
  all_counted session (Choose moment ChosenMemory ∷ past) legal = (tt, all_counted session past legal.1)
  all_counted session (Choose moment (Sent choice burst) ∷ past) legal = ((burst_long session past moment choice burst legal).0, all_counted session past legal.1)

  -- what a sender that stands for a past sends is that short
  pub sent_short : (session : Session) (x b : WorldParts S) (m : Machine S) (w : WorldPast S) (choice : Choice) (burst : List (List ℕ)) (answer : Chosen) → x ≡ b → IsWorld codec session b w → SenderAnswered codec x.sender.session (SenderStands codec) x.sender m (Choose x.moment answer) → answer ≡ Sent choice burst → length burst ≤ 4096
  sent_short session x b m w choice burst answer view seen answered e =
      let is : IsWorld codec session x w = opened codec session x b w view seen in
      let both : SenderAnswers codec x.sender.session (Choose x.moment answer) w.sender × SenderStands codec m (Choose x.moment answer ∷ w.sender) = answered w.sender is.sender in
      (burst_long m.session w.sender x.moment choice burst (subst (λ a. IsLegalSender codec m.session (Choose x.moment a ∷ w.sender)) e both.1.legal)).1

module _ {S : Type 0} (codec : Coding S) (session : Session) where
  abbrev Did : WorldParts S → WorldPast S → ChooseAnswer → Type 0
  Did new w answer = HappenedInUnless codec session ChooseMemory new w Chooses answer (choose_answer codec session w)

  -- a choice, or none
  pub chosen_happens : (x b : WorldParts S) (m : Machine S) (all : List (List ℕ)) (w : WorldPast S) (answer chose : Chosen) (out : ChooseAnswer) → x ≡ b → IsWorld codec session b w → SenderAnswered codec x.sender.session (SenderStands codec) x.sender m (Choose x.moment answer) → m.session ≡ x.sender.session → answer ≡ chose → (chose ≡ ChosenMemory → ⊥) → out ≡ without_datagrams chose → all ≡ x.sent ++ burst_in (Choose x.moment chose) → Did (record x { sender = m; sent = all }) w out
  chosen_happens x b m all w answer chose out view seen answered same e never told more = go (opened codec session x b w view seen)
    where
      step : IsWorld codec session x w → chose ≡ chosen codec x.sender.session w.sender x.moment → IsWorld codec session (record x { sender = m; sent = all }) (record w { sender = Choose x.moment chose ∷ w.sender }) → Did (record x { sender = m; sent = all }) w out
      step is choosing after =
          let now : chose ≡ chosen codec session w.sender w.moment = choosing ∙ (ap (λ s. chosen codec s w.sender x.moment) is.session_is ∙ ap (λ t. chosen codec session w.sender t) is.moment_is) in
          inr (
            told ∙ ap (λ a. without_datagrams a) now,
            subst (λ t. IsWorld codec session (record x { sender = m; sent = all }) (record w { sender = Choose t (chosen codec session w.sender w.moment) ∷ w.sender })) is.moment_is
                (subst (λ a. IsWorld codec session (record x { sender = m; sent = all }) (record w { sender = Choose x.moment a ∷ w.sender })) now after),
          )

      go : IsWorld codec session x w → Did (record x { sender = m; sent = all }) w out
      go is =
          let both : SenderAnswers codec x.sender.session (Choose x.moment chose) w.sender × SenderStands codec m (Choose x.moment chose ∷ w.sender) =
          subst (λ a. SenderAnswers codec x.sender.session (Choose x.moment a) w.sender × SenderStands codec m (Choose x.moment a ∷ w.sender)) e (answered w.sender is.sender) in
          let after : IsWorld codec session (record x { sender = m; sent = all }) (record w { sender = Choose x.moment chose ∷ w.sender }) = record {
            session_is = same ∙ is.session_is;
            sender = both.1;
            receiver = is.receiver;
            sent_are = more ∙ ap (λ (ts : List (List ℕ)). ts ++ burst_in (Choose x.moment chose)) is.sent_are;
            acks_are = is.acks_are;
            moment_is = is.moment_is;
          } in
          elim both.0 [
            | inl h ↦ step is h after
            | inr h ↦ absurd (never h)
          ]
