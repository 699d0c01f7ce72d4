-- What a sender keeps.
use Rattle.std.specs.Prelude.{◌≡◌, ◌⊎◌, ℕ, ◌+◌, ◌*◌, ◌<◌, ◌≤◌, Bool, false, List, Option, None, Some, slice_index_or, IsSome}
use Rattle.sal_base.specs.declared.limits.TheConstants.{MAX_FRAMES}
use Rattle.sal_base.specs.Lists.{Each}
use Rattle.sal_base.specs.Picture.{AreSides}
use Rattle.sal_y4m.specs.declared.head.Head.{Head}
use Rattle.sal_codec.specs.Coding.{Coding, HasSides}
use Rattle.sal_chain.specs.declared.stored_state.StoredState.{StoredState}
use Rattle.sal_chain.specs.Held.{with_number}
use Rattle.sal_chain.specs.StateTable.{StateTable}
use Rattle.sal_wire.specs.declared.layout.TheConstants.{MAX_FRAGMENTS}
use Rattle.sal_sender.specs.declared.sent_frame.SentFrame.{SentFrame}
use Rattle.sal_sender.specs.declared.ack_state.AckState.{AckState}
use Rattle.sal_sender.specs.declared.open_picture.Candidate.{Candidate}
use Rattle.sal_sender.specs.declared.open_picture.OpenPicture.{OpenPicture}
use Rattle.sal_sender.specs.declared.open_picture.JobQueue.{JobQueue}
use Rattle.sal_chain.specs.Held.{name_in}
use Rattle.sal_sender.specs.OneThread.{Session}
use Rattle.sal_sender.specs.Candidates.{queued}
use Rattle.sal_sender.specs.JobWork.{JobWork, JobReport}
use Rattle.sal_y4m.specs.Head.{IsHead}

-- the parts of a sender
pub record Machine (S : Type 0) : Type 0 where
  pub session : Session
  -- the states from the floor to the tip
  pub store : StateTable S
  -- the frames sent from the floor to the tip, the newest first
  pub sent_frames : List SentFrame
  pub acks : AckState
  -- the open picture's candidates
  pub open_picture : Option (OpenPicture (JobReport S))
  -- the newest picture's jobs that aren't handed out yet
  pub waiting : JobQueue (JobWork S)
  -- by id, whether a job was handed out and isn't reported
  pub outstanding : List Bool
  pub tip : ℕ
  pub floor : ℕ
  pub sent : ℕ
  pub pictures : ℕ
  pub last_job : ℕ
  pub q : ℕ

-- the states kept, the frames sent, the tip, the floor, the open picture and what was sent are the same: only which jobs are
-- outstanding may differ
pub record KeepsAllButOutstanding {S : Type 0} (old new : Machine S) : Type 0 where
  pub session : new.session ≡ old.session
  pub states : new.store ≡ old.store
  pub sent_frames : new.sent_frames ≡ old.sent_frames
  pub acks : new.acks ≡ old.acks
  pub open_picture : new.open_picture ≡ old.open_picture
  pub waiting : new.waiting ≡ old.waiting
  pub tip : new.tip ≡ old.tip
  pub floor : new.floor ≡ old.floor
  pub sent : new.sent ≡ old.sent
  pub pictures : new.pictures ≡ old.pictures
  pub last_job : new.last_job ≡ old.last_job
  pub q : new.q ≡ old.q

-- whether the job of this id is outstanding
abbrev pub flag : List Bool → ℕ → Bool
flag outstanding id = slice_index_or outstanding id false

-- a state of the session's size under its own name
pub record IsOwnState {S : Type 0} (codec : Coding S) (head : Head) (k : StoredState S) : Type 0 where
  pub size : codec.takes k.state head.width head.height
  pub name : k.name.0 ≡ name_in codec k.state

-- a job's samples have the session's size
abbrev pub IsSized : {S : Type 0} → Head → JobWork S → Type 0
IsSized head work = HasSides head.width head.height work.samples

-- a sent frame's number stands from the floor to the tip
abbrev pub IsNearFrame : ℕ → ℕ → SentFrame → Type 0
IsNearFrame floor tip l = (floor ≤ l.choice.number) × (l.choice.number ≤ tip)

-- a source is the initial state, or stands in a window that isn't full
abbrev pub IsNearSource : ℕ → ℕ → ℕ → Type 0
IsNearSource floor tip n = (n ≡ 0) ⊎ (((floor ≤ n) × (n ≤ tip)) × (tip ≤ floor + 14))

abbrev pub IsSizedIn : {S : Type 0} → Head → Option (JobReport S) → Type 0
IsSizedIn head None = Unit {0}
IsSizedIn head (Some r) = IsSized head r.work

-- a candidate may be chosen next, and its report has the session's size
pub record IsCandidate {S : Type 0} (floor tip : ℕ) (head : Head) (s : Candidate (JobReport S)) : Type 0 where
  pub q : s.q ≤ 127
  pub source : IsNearSource floor tip s.source
  pub sized : IsSizedIn head s.report

abbrev pub IsCandidateIn : {S : Type 0} → ℕ → ℕ → Head → Option (Candidate (JobReport S)) → Type 0
IsCandidateIn floor tip head None = Unit {0}
IsCandidateIn floor tip head (Some s) = IsCandidate floor tip head s

abbrev pub AreCandidates : {S : Type 0} → ℕ → ℕ → Head → Option (OpenPicture (JobReport S)) → Type 0
AreCandidates floor tip head None = Unit {0}
AreCandidates floor tip head (Some o) = IsCandidate floor tip head o.coarse × (IsCandidateIn floor tip head o.spare × IsCandidate floor tip head o.fine)

-- what holds of every sender, also of one that was given reports of another's jobs
pub record IsWell {S : Type 0} (codec : Coding S) (m : Machine S) : Type 0 where
  pub head : IsHead m.session.head
  pub pictures : m.pictures ≤ MAX_FRAMES
  pub chosen : m.tip ≤ m.pictures
  pub started : IsSome m.open_picture → m.tip + 1 ≤ m.pictures
  pub jobs : m.last_job ≤ 3 * m.pictures
  pub low : 1 ≤ m.floor
  pub near : m.floor ≤ m.tip + 1
  pub window : m.tip ≤ m.floor + 15
  pub sent : m.sent ≤ MAX_FRAGMENTS * m.tip
  pub heard : m.acks.heard ≤ m.sent
  pub q : m.q ≤ 127
  pub store : m.store.floor ≡ m.floor
  pub above : (n : ℕ) → m.tip < n → with_number n m.store.kept ≡ None
  pub states : Each (IsOwnState codec m.session.head) m.store.kept
  pub waiting_sized : Each (IsSized m.session.head) (queued m.waiting)
  pub kept : (m.tip ≡ 0) ⊎ (m.floor ≤ m.tip)
  pub linked : Each (IsNearFrame m.floor m.tip) m.sent_frames
  pub seated : AreCandidates m.floor m.tip m.session.head m.open_picture
