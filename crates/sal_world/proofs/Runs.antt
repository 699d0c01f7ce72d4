-- Runs of scripts, by computing.
use Rattle.std.proofs.Common.{◌≡◌, ℕ, List, [], ◌∷◌, map, reverse, Option, Some, None, refl, length, Bool, true, false, ◌++◌}
use Rattle.std.specs.Prelude.{filter_map, replicate, slice_get}
use Rattle.sal_base.specs.declared.picture.Picture.{Picture}
use Rattle.sal_wire.specs.Parsing.{parsed, fragment_fields, ack_fields, held_at}
use Rattle.sal_wire.specs.Layout.{fragment_bytes, u32_bytes, u16_bytes, name_bytes, ack_bytes}
use Rattle.sal_wire.specs.Fragmentation.{below}
use Rattle.sal_budget.specs.Gap.{gap_after}
use Rattle.sal_sender.specs.declared.choice.Choice.{Choice}
use Rattle.sal_sender.specs.Past.{choices}
use Rattle.sal_sender.specs.Chain.{made_at, sources_from}
use Rattle.sal_sender.specs.OneThread.{one_thread}
use Rattle.sal_sender.specs.Acks.{last_serial}
use Rattle.sal_sender.specs.Choosing.{chosen}
use Rattle.sal_sender.specs.Past.{SenderCall}
use Rattle.sal_sender.specs.Past.{Report, Choose, Hear}
use Rattle.sal_sender.specs.declared.answers.Reported.{Reported}
use Rattle.sal_sender.specs.declared.answers.Reported.TheVariants.{Late, Kept}
use Rattle.sal_sender.specs.declared.answers.Chosen.TheVariants.{Nothing}
use Rattle.sal_sender.specs.declared.answers.HeardAck.TheVariants.{Ignored, Heard}
use Rattle.sal_sender.specs.declared.answers.Ignore.TheVariants.{Old}
use Rattle.sal_sender.specs.declared.choice.Size.TheVariants.{Datagrams}
use Rattle.sal_receiver.specs.declared.answers.Done.TheVariants.{Show, Older}
use Rattle.sal_receiver.specs.Past.{ReceiverCall, Decoding}
use Rattle.sal_world.specs.World.{WorldEvent, sent, after}
use Rattle.sal_world.specs.World.{Delivers}
use Rattle.sal_receiver.specs.Past.{shown}
use Rattle.sal_receiver.specs.Ready.{ready_source}
use Rattle.sal_script.specs.declared.line.ScriptLine.{ScriptLine}
use Rattle.sal_script.specs.declared.line.ScriptLine.TheVariants.{Next, NextLate, Down, Up, DownAll, Wait, Rest}
use Rattle.sal_world.specs.Script.{Run, begun, played, drained, run_jobs}
use Rattle.sal_world.proofs.Toy.{shot, toy, session}

abbrev run : List Picture → List ScriptLine → Option (Run ℕ)
run pictures lines = played toy session lines (Some (begun pictures))

-- number, job, source and count of the choices
abbrev chosen_in : Option (Run ℕ) → List (ℕ × ℕ × ℕ × ℕ)
chosen_in None = []
chosen_in (Some r) = map (λ (c : Choice). (c.number, c.job, c.source, c.count)) (reverse (choices r.world.sender))

abbrev shown_in : Option (Run ℕ) → List ℕ
shown_in None = []
shown_in (Some r) = map (λ s. s.0) (reverse (shown r.world.receiver))

abbrev six : List Picture
six = shot 128 ∷ shot 100 ∷ shot 72 ∷ shot 44 ∷ shot 90 ∷ shot 60 ∷ []

abbrev lossy : List ScriptLine
lossy = Next ∷ Down 1 ∷ Up 1 ∷ Next ∷ Next ∷ Down 3 ∷ Up 2 ∷ Next ∷ Down 4 ∷ Up 3 ∷ Next ∷ Down 5 ∷ Up 4 ∷ Next ∷ Down 6 ∷ []

-- the decodings in order: the number, and whether it was shown
abbrev done_in : Option (Run ℕ) → List (ℕ × Bool)
done_in None = []
done_in (Some r) = filter_map done (reverse r.world.receiver)
  where
    done : ReceiverCall ℕ → Option (ℕ × Bool)
    done (Decoding n outcome (Show m picture)) = Some (n, true)
    done (Decoding n outcome (Older m greater)) = Some (n, false)
    done _ = None

-- the floors of the choices
abbrev floors_in : Option (Run ℕ) → List ℕ
floors_in None = []
floors_in (Some r) = map (λ (c : Choice). c.floor) (reverse (choices r.world.sender))

abbrev newest_sender_call : Option (Run ℕ) → Option SenderCall
newest_sender_call None = None
newest_sender_call (Some r) = slice_get r.world.sender 0

abbrev reports_in : Option (Run ℕ) → List (ℕ × Reported)
reports_in None = []
reports_in (Some r) = filter_map reports (reverse r.world.sender)
  where
    reports : SenderCall → Option (ℕ × Reported)
    reports (Report job gave answer) = Some (job, answer)
    reports _ = None

abbrev sent_in : Option (Run ℕ) → ℕ
sent_in None = 0
sent_in (Some r) = length (sent r.world)

-- the answers to acknowledgements: whether they were old
abbrev olds_in : Option (Run ℕ) → List Bool
olds_in None = []
olds_in (Some r) = filter_map old (reverse r.world.sender)
  where
    old : SenderCall → Option Bool
    old (Hear parsed moment (Ignored Old)) = Some true
    old (Hear parsed moment (Heard numbers)) = Some false
    old _ = None

one_picture : chosen_in (run (shot 128 ∷ []) (Next ∷ [])) ≡ (1, 2, 0, 1) ∷ []
unfolding chosen made_at sources_from one_thread below fragment_bytes u32_bytes u16_bytes name_bytes last_serial parsed fragment_fields ack_fields held_at ack_bytes ready_source drained run_jobs gap_after
one_picture = refl

one_shown : shown_in (run (shot 128 ∷ []) (Next ∷ DownAll ∷ [])) ≡ 1 ∷ []
unfolding chosen made_at sources_from one_thread below fragment_bytes u32_bytes u16_bytes name_bytes last_serial parsed fragment_fields ack_fields held_at ack_bytes ready_source drained run_jobs gap_after
one_shown = refl

-- the second of two datagrams is lost, and the sixth picture goes on from the safe state
lossy_chosen : chosen_in (run six lossy) ≡ (1, 2, 0, 1) ∷ (2, 5, 1, 1) ∷ (3, 8, 2, 1) ∷ (4, 11, 3, 1) ∷ (5, 14, 4, 1) ∷ (6, 16, 1, 1) ∷ []
unfolding chosen made_at sources_from one_thread below fragment_bytes u32_bytes u16_bytes name_bytes last_serial parsed fragment_fields ack_fields held_at ack_bytes ready_source drained run_jobs gap_after
lossy_chosen = refl

lossy_shown : shown_in (run six lossy) ≡ 1 ∷ 6 ∷ []
unfolding chosen made_at sources_from one_thread below fragment_bytes u32_bytes u16_bytes name_bytes last_serial parsed fragment_fields ack_fields held_at ack_bytes ready_source drained run_jobs gap_after
lossy_shown = refl

abbrev with_late : List ScriptLine
with_late = lossy ++ Down 2 ∷ []

-- the lost datagram comes at last: what waits on it is decoded in order, and nothing more is shown
late_decodings : done_in (run six with_late) ≡ (1, true) ∷ (6, true) ∷ (2, false) ∷ (3, false) ∷ (4, false) ∷ (5, false) ∷ []
unfolding chosen made_at sources_from one_thread below fragment_bytes u32_bytes u16_bytes name_bytes last_serial parsed fragment_fields ack_fields held_at ack_bytes ready_source drained run_jobs gap_after
late_decodings = refl

-- what was shown stays
late_shown : shown_in (run six with_late) ≡ 1 ∷ 6 ∷ []
unfolding chosen made_at sources_from one_thread below fragment_bytes u32_bytes u16_bytes name_bytes last_serial parsed fragment_fields ack_fields held_at ack_bytes ready_source drained run_jobs gap_after
late_shown = refl

abbrev same_four : List Picture
same_four = shot 128 ∷ shot 128 ∷ shot 128 ∷ shot 128 ∷ []

abbrev acked : List ScriptLine
acked = Next ∷ Down 1 ∷ Next ∷ Down 2 ∷ Up 2 ∷ Next ∷ Down 3 ∷ Up 3 ∷ Next ∷ Up 2 ∷ []

-- the fourth choice has source 3
acked_chosen : chosen_in (run same_four acked) ≡ (1, 2, 0, 1) ∷ (2, 5, 1, 1) ∷ (3, 8, 2, 1) ∷ (4, 11, 3, 1) ∷ []
unfolding chosen made_at sources_from one_thread below fragment_bytes u32_bytes u16_bytes name_bytes last_serial parsed fragment_fields ack_fields held_at ack_bytes ready_source drained run_jobs gap_after
acked_chosen = refl

-- its floor is 2, since 2 was safe
acked_floors : floors_in (run same_four acked) ≡ 1 ∷ 1 ∷ 1 ∷ 2 ∷ []
unfolding chosen made_at sources_from one_thread below fragment_bytes u32_bytes u16_bytes name_bytes last_serial parsed fragment_fields ack_fields held_at ack_bytes ready_source drained run_jobs gap_after
acked_floors = refl

abbrev sixteen : List ScriptLine
sixteen = replicate 16 Next

abbrev many : List Picture
many = replicate 17 (shot 128)

-- the window is full: a key frame with its own floor
key_after_window : slice_get (chosen_in (run many (sixteen ++ Wait 500000 ∷ Next ∷ []))) 16 ≡ Some (17, 49, 0, 1)
unfolding chosen made_at sources_from one_thread below fragment_bytes u32_bytes u16_bytes name_bytes last_serial parsed fragment_fields ack_fields held_at ack_bytes ready_source drained run_jobs gap_after
key_after_window = refl

-- it is its own floor
floor_after_window : slice_get (floors_in (run many (sixteen ++ Wait 500000 ∷ Next ∷ []))) 16 ≡ Some 17
unfolding chosen made_at sources_from one_thread below fragment_bytes u32_bytes u16_bytes name_bytes last_serial parsed fragment_fields ack_fields held_at ack_bytes ready_source drained run_jobs gap_after
floor_after_window = refl

-- without the wait nothing fits
nothing_fits : newest_sender_call (run many (sixteen ++ Next ∷ [])) ≡ Some (Choose 0 (Nothing 0 (Datagrams 1 ∷ Datagrams 1 ∷ [])))
unfolding chosen made_at sources_from one_thread below fragment_bytes u32_bytes u16_bytes name_bytes last_serial parsed fragment_fields ack_fields held_at ack_bytes ready_source drained run_jobs gap_after
nothing_fits = refl

-- and sixteen datagrams were sent
nothing_sent : sent_in (run many (sixteen ++ Next ∷ [])) ≡ 16
unfolding chosen made_at sources_from one_thread below fragment_bytes u32_bytes u16_bytes name_bytes last_serial parsed fragment_fields ack_fields held_at ack_bytes ready_source drained run_jobs gap_after
nothing_sent = refl

-- a fine job that is reported after the choice is late
late_report : reports_in (run (shot 128 ∷ []) (NextLate ∷ DownAll ∷ [])) ≡ (1, Kept) ∷ (2, Late) ∷ []
unfolding chosen made_at sources_from one_thread below fragment_bytes u32_bytes u16_bytes name_bytes last_serial parsed fragment_fields ack_fields held_at ack_bytes ready_source drained run_jobs gap_after
late_report = refl

-- the coarse one was chosen
late_choice : chosen_in (run (shot 128 ∷ []) (NextLate ∷ DownAll ∷ [])) ≡ (1, 1, 0, 1) ∷ []
unfolding chosen made_at sources_from one_thread below fragment_bytes u32_bytes u16_bytes name_bytes last_serial parsed fragment_fields ack_fields held_at ack_bytes ready_source drained run_jobs gap_after
late_choice = refl

-- and one datagram was sent
late_sent : sent_in (run (shot 128 ∷ []) (NextLate ∷ DownAll ∷ [])) ≡ 1
unfolding chosen made_at sources_from one_thread below fragment_bytes u32_bytes u16_bytes name_bytes last_serial parsed fragment_fields ack_fields held_at ack_bytes ready_source drained run_jobs gap_after
late_sent = refl

-- two pictures whose states have one name are both shown
same_twice : shown_in (run (shot 128 ∷ shot 128 ∷ []) (Next ∷ DownAll ∷ Next ∷ DownAll ∷ [])) ≡ 1 ∷ 2 ∷ []
unfolding chosen made_at sources_from one_thread below fragment_bytes u32_bytes u16_bytes name_bytes last_serial parsed fragment_fields ack_fields held_at ack_bytes ready_source drained run_jobs gap_after
same_twice = refl

-- a number that was not sent ends the run
unsent : run (shot 128 ∷ []) (Down 1 ∷ []) ≡ None
unfolding chosen made_at sources_from one_thread below fragment_bytes u32_bytes u16_bytes name_bytes last_serial parsed fragment_fields ack_fields held_at ack_bytes ready_source drained run_jobs gap_after
unsent = refl

-- what is left is sent and delivered
rest_shown : shown_in (run same_four (Next ∷ Rest ∷ [])) ≡ 1 ∷ 2 ∷ 3 ∷ 4 ∷ []
unfolding chosen made_at sources_from one_thread below fragment_bytes u32_bytes u16_bytes name_bytes last_serial parsed fragment_fields ack_fields held_at ack_bytes ready_source drained run_jobs gap_after
rest_shown = refl

-- an acknowledgement that comes again is old
acked_old : olds_in (run same_four acked) ≡ false ∷ false ∷ true ∷ []
unfolding chosen made_at sources_from one_thread below fragment_bytes u32_bytes u16_bytes name_bytes last_serial parsed fragment_fields ack_fields held_at ack_bytes ready_source drained run_jobs gap_after
acked_old = refl

-- before anything was sent no datagram comes
abbrev calls_in : List WorldEvent → ℕ
calls_in events = length (after toy session events).receiver

none_sent : calls_in (Delivers 1 ∷ []) ≡ 0
unfolding after parsed
none_sent = refl
