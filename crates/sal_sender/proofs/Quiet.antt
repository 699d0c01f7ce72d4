-- Calls that leave a sender as it was.
use Rattle.std.proofs.Common.{◌≡◌, ℕ, ◌+◌, max, List, [], ◌∷◌, ◌++◌, length, None, refl, ap, sym, ◌∙◌, subst, arith}
use Rattle.std.proofs.lemmas.List.{append-nil}
use Rattle.std.specs.Prelude.{Result, Ok, Err}
use Rattle.sal_base.specs.declared.picture.Picture.{Picture}
use Rattle.sal_wire.specs.declared.fault.WireFault.{WireFault}
use Rattle.sal_wire.specs.Message.{Message, FragmentMessage, AckMessage, ByeMessage}
use Rattle.sal_codec.specs.Coding.{Coding}
use Rattle.sal_sender.specs.declared.answers.Next.TheVariants.{NotChosen, Full, Memory as NextMemory}
use Rattle.sal_sender.specs.declared.answers.Reported.TheVariants.{Stranger}
use Rattle.sal_sender.specs.declared.answers.Ignore.{Ignore}
use Rattle.sal_sender.specs.declared.answers.HeardAck.TheVariants.{Ignored}
use Rattle.sal_sender.specs.declared.answers.Chosen.TheVariants.{NoPicture, Waiting, Memory}
use Rattle.sal_sender.specs.Past.{SenderCall, Past, NextPicture, TakeJob, Report, Choose, Hear, pictures, datagrams, last_job, now, sent}
use Rattle.sal_sender.specs.Promises.{SenderAnswers}
use Rattle.sal_sender.specs.Machine.{Machine}
use Rattle.sal_sender.specs.Stands.{Summary, summary, Keeps, SenderStands}

-- with other pictures, moment, count of datagrams and number of the last job
abbrev pub with_parts : Summary → List Picture → ℕ → ℕ → ℕ → Summary
with_parts s shot now sent last = record s { shot = shot; now = now; sent = sent; last_job = last }

pub same_parts : (s : Summary) (shot : List Picture) (now sent last : ℕ) → shot ≡ s.shot → now ≡ s.now → sent ≡ s.sent → last ≡ s.last_job → with_parts s shot now sent last ≡ s
same_parts s shot now sent last a b c d = rw (a, b, c, d) refl

-- a call that starts no picture, sends nothing and passes to no moment
pub parts_stay : (s : Summary) (past : Past) → s.shot ≡ pictures past → s.now ≡ now past → s.sent ≡ sent past → s.last_job ≡ last_job past → with_parts s (pictures past ++ []) (max 0 (now past)) (length (datagrams past ++ [])) (0 + last_job past) ≡ s
parts_stay s past a b c d = same_parts s _ _ _ _ (append-nil (pictures past) ∙ sym a) (omega (arith, b)) (ap (λ (xs : List (List ℕ)). length xs) (append-nil (datagrams past)) ∙ sym c) (omega (arith, d))

quiet_parts : (past : Past) → with_parts (summary past) (pictures past ++ []) (max 0 (now past)) (length (datagrams past ++ [])) (0 + last_job past) ≡ summary past
quiet_parts past = parts_stay (summary past) past refl refl refl refl

pub quiet_not_chosen : (past : Past) (picture : Picture) (moment n : ℕ) → summary (NextPicture picture moment (NotChosen n) ∷ past) ≡ summary past
quiet_not_chosen past picture moment n = quiet_parts past

pub quiet_full : (past : Past) (picture : Picture) (moment : ℕ) → summary (NextPicture picture moment Full ∷ past) ≡ summary past
quiet_full past picture moment = quiet_parts past

pub quiet_next_memory : (past : Past) (picture : Picture) (moment : ℕ) → summary (NextPicture picture moment NextMemory ∷ past) ≡ summary past
quiet_next_memory past picture moment = quiet_parts past

pub quiet_none : (past : Past) → summary (TakeJob None ∷ past) ≡ summary past
quiet_none past = quiet_parts past

pub quiet_stranger : (past : Past) (id : ℕ) (gave : _) → summary (Report id gave Stranger ∷ past) ≡ summary past
quiet_stranger past id gave = quiet_parts past

pub quiet_no_picture : (past : Past) (moment : ℕ) → summary (Choose moment NoPicture ∷ past) ≡ summary past
quiet_no_picture past moment = quiet_parts past

pub quiet_waiting : (past : Past) (moment id : ℕ) → summary (Choose moment (Waiting id) ∷ past) ≡ summary past
quiet_waiting past moment id = quiet_parts past

pub quiet_memory : (past : Past) (moment : ℕ) → summary (Choose moment Memory ∷ past) ≡ summary past
quiet_memory past moment = quiet_parts past

pub quiet_ignored : (past : Past) (came : Result Message WireFault) (moment : ℕ) (why : Ignore) → summary (Hear came moment (Ignored why) ∷ past) ≡ summary past
quiet_ignored past (Err fault) moment why = quiet_parts past
quiet_ignored past (Ok (FragmentMessage e)) moment why = quiet_parts past
quiet_ignored past (Ok (AckMessage a)) moment why = quiet_parts past
quiet_ignored past (Ok (ByeMessage n l)) moment why = quiet_parts past

-- a sender stands for one more call that left it as it was
pub stands_quiet : {S : Type 0} (codec : Coding S) (m : Machine S) (past : Past) (call : SenderCall) → SenderStands codec m past → SenderAnswers codec m.session call past → summary (call ∷ past) ≡ summary past → SenderAnswers codec m.session call past × SenderStands codec m (call ∷ past)
stands_quiet codec m past call s a e = (a, record { legal = (a, s.legal); keeps = subst (λ x. Keeps codec m x) (sym e) s.keeps })
