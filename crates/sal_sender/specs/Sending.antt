-- What a report and a choice make of what the sender keeps.
use Rattle.std.specs.Prelude.{◌≡◌, ℕ, ◌+◌, ◌-◌, ◌≤◌, min, max, Bool, false, List, [], ◌∷◌, map, filter, slice_set, Some, None, ◌==◌, nat_le, if◌then◌else◌}
use Rattle.std.specs.Option.{option_map}
use Rattle.std.specs.Arc.{arc_value}
use Rattle.std.specs.declared.sync.Arc.{Arc}
use Rattle.sal_base.specs.declared.name.Name.{Name}
use Rattle.sal_base.specs.declared.picture.Picture.{Picture}
use Rattle.sal_base.specs.declared.coding.Encoding.TheVariants.{Frame}
use Rattle.sal_codec.specs.Coding.{Coding}
use Rattle.sal_wire.specs.Fragmentation.{fragment_count}
use Rattle.sal_wire.specs.Layout.{fragment_bytes}
use Rattle.sal_chain.specs.Held.{inserted, not_below}
use Rattle.sal_budget.specs.declared.flight.Flight.{Flight}
use Rattle.sal_budget.specs.Budget.{budget_of, least_window}
use Rattle.sal_sender.specs.declared.outcome.Gave.TheVariants.{Frame as GaveFrame}
use Rattle.sal_wire.specs.declared.layout.TheConstants.{MAX_FRAGMENTS}
use Rattle.sal_sender.specs.declared.choice.Choice.{Choice}
use Rattle.sal_sender.specs.declared.answers.Reported.{Reported}
use Rattle.sal_sender.specs.declared.answers.Reported.TheVariants.{Stranger, Late, Kept}
use Rattle.sal_sender.specs.declared.sent_frame.SentFrame.{SentFrame}
use Rattle.sal_sender.specs.declared.open_picture.Candidate.{Candidate}
use Rattle.sal_sender.specs.Jobs.{kind_of}
use Rattle.sal_sender.specs.SentFrames.{lost_in}
use Rattle.sal_sender.specs.Candidates.{with_report}
use Rattle.sal_sender.specs.Planned.{safe_of}
use Rattle.sal_sender.specs.JobWork.{JobWork, JobReport, encoded}
use Rattle.sal_sender.specs.OneThread.{burst_of}
use Rattle.sal_sender.specs.declared.prepared_frame.PreparedFrame.{PreparedFrame}
use Rattle.sal_sender.specs.Machine.{Machine, IsOwnState}

-- the tip's chain is lost
abbrev pub lost_of : {S : Type 0} → Machine S → Bool
lost_of m = lost_in (safe_of m) m.acks.heard m.sent_frames m.tip

-- the moment of the newest choice, 0 before any
abbrev pub sent_at_in : List SentFrame → ℕ
sent_at_in [] = 0
sent_at_in (l ∷ older) = l.choice.moment

-- what was sent and heard, and when
abbrev pub flight_in : {S : Type 0} → Machine S → Flight
flight_in m = record { sent = m.sent; heard = m.acks.heard; sent_at = sent_at_in m.sent_frames; heard_at = m.acks.heard_at }

-- how many datagrams may be sent at this moment
abbrev pub budget_in : {S : Type 0} → Machine S → ℕ → ℕ
budget_in m at = budget_of m.acks.average (least_window m.session.head.width m.session.head.height) (flight_in m) at

-- the floor that a choice sets
abbrev pub floor_in : {S : Type 0} → Machine S → ℕ → ℕ
floor_in m source = if source == 0 then m.tip + 1 else max m.floor (min (safe_of m) source)

-- the choice that comes next, of this candidate
abbrev pub choice_from : {S : Type 0} → Machine S → Candidate (JobReport S) → ℕ → ℕ → Choice
choice_from m candidate count at = record {
  number = m.tip + 1;
  picture = m.pictures;
  source = candidate.source;
  job = candidate.id;
  q = candidate.q;
  kind = kind_of candidate.source;
  floor = floor_in m candidate.source;
  count = count;
  first_serial = m.sent + 1;
  moment = at;
}

-- the microseconds since the newest choice, 0 before any
abbrev pub pause_in : List SentFrame → ℕ → ℕ
pause_in [] at = 0
pause_in (l ∷ older) at = min 4294967295 (at - l.choice.moment)

-- with one more choice, without those below its floor
abbrev pub with_choice : List SentFrame → Choice → List SentFrame
with_choice sent_frames choice = record { choice = choice; is_acknowledged = false } ∷ filter (λ l. nat_le choice.floor l.choice.number) sent_frames

-- what the sender keeps after a choice
abbrev pub after_choice : {S : Type 0} → Machine S → Choice → Name → S → Machine S
after_choice m choice name state = record m {
  store = record {
    floor = max m.store.floor choice.floor;
    kept = inserted (record { number = choice.number; name = name; state = state }) (not_below (max m.store.floor choice.floor) m.store.kept);
  };
  sent_frames = with_choice m.sent_frames choice;
  acks = record m.acks { moment = max m.acks.moment choice.moment };
  open_picture = None;
  tip = choice.number;
  floor = choice.floor;
  sent = m.sent + choice.count;
  q = choice.q;
}

-- what the sender keeps after a report: its job is outstanding no more, and of a late one nothing else is kept
abbrev pub after_report : {S : Type 0} → Machine S → JobReport S → Reported → Machine S
after_report m r Stranger = m
after_report m r Late = record m { outstanding = slice_set m.outstanding r.work.id false }
after_report m r Kept = record m { open_picture = option_map (with_report r.work.id r) m.open_picture; outstanding = slice_set m.outstanding r.work.id false }

-- what the sender keeps after a picture for which nothing is sent
abbrev pub after_nothing : {S : Type 0} → Machine S → ℕ → Machine S
after_nothing m moment = record m {
  acks = record m.acks { moment = max m.acks.moment moment };
  open_picture = None;
  q = min 127 (m.q + 8);
}

-- a choice that comes next: its frame number, its window, and what its fields are at most
pub record IsNext {S : Type 0} (m : Machine S) (choice : Choice) : Type 0 where
  pub number : choice.number ≡ m.tip + 1
  pub started : choice.number ≤ m.pictures
  pub rising : m.floor ≤ choice.floor
  pub below : choice.floor ≤ choice.number
  pub window : choice.number ≤ choice.floor + 15
  pub count : choice.count ≤ MAX_FRAGMENTS
  pub q : choice.q ≤ 127

-- what is prepared of the report of a candidate: a frame, its datagrams, and what is kept of it
pub record IsPrepared {S Z : Type 0} (codec : Coding S) (m : Machine S) (candidate : Candidate (JobReport S)) (at : ℕ) (t : PreparedFrame (Arc S Z)) : Type 0 where
  pub work : JobWork S
  pub reported : candidate.report ≡ Some (record { work = work; gave = GaveFrame })
  pub bytes : List ℕ
  pub recon : Picture
  pub made : encoded codec work ≡ Frame bytes (arc_value t.state) recon
  pub choice : t.choice ≡ choice_from m candidate (fragment_count bytes) at
  pub next : IsNext m t.choice
  pub own : IsOwnState codec m.session.head (record { number = t.choice.number; name = t.name; state = arc_value t.state })
  pub sent_frames : t.sent_frames.items ≡ with_choice m.sent_frames t.choice
  pub burst : t.burst ≡ map fragment_bytes (burst_of codec m.session work.source (pause_in m.sent_frames at) t.choice (record { bytes = bytes; target = arc_value t.state; recon = recon }) m.sent)
