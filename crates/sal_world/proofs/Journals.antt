-- The lines of runs, by computing.
use Rattle.std.proofs.Common.{◌≡◌, ℕ, List, [], ◌∷◌, Option, Some, None, refl, true, false, replicate}
use Rattle.sal_base.specs.declared.picture.Picture.{Picture}
use Rattle.sal_wire.specs.Parsing.{parsed, fragment_fields, ack_fields, held_at}
use Rattle.sal_wire.specs.Layout.{fragment_bytes, u32_bytes, u16_bytes, name_bytes, ack_bytes}
use Rattle.sal_wire.specs.Fragmentation.{below}
use Rattle.sal_budget.specs.Gap.{gap_after}
use Rattle.sal_sender.specs.declared.choice.JobRole.TheVariants.{Coarse, Fine}
use Rattle.sal_sender.specs.Chain.{made_at, sources_from}
use Rattle.sal_sender.specs.OneThread.{one_thread}
use Rattle.sal_sender.specs.Acks.{last_serial}
use Rattle.sal_sender.specs.Choosing.{chosen}
use Rattle.sal_receiver.specs.Ready.{ready_source}
use Rattle.sal_script.specs.declared.line.ScriptLine.{ScriptLine}
use Rattle.sal_script.specs.declared.line.ScriptLine.TheVariants as script
use Rattle.sal_world.specs.declared.diary.Line.{Line}
use Rattle.sal_world.specs.declared.diary.Line.TheVariants.{Next, Take, Report, Choose, Down, Ready, Decoded}
use Rattle.sal_world.specs.declared.diary.ReportSize.{ReportSize}
use Rattle.sal_world.specs.declared.diary.ReportSize.TheVariants.{Frame}
use Rattle.sal_world.specs.World.{after}
use Rattle.sal_world.specs.Script.{Run, begun, played, drained, run_jobs}
use Rattle.sal_world.specs.History.{history_lines}
use Rattle.sal_world.proofs.Toy.{shot, toy, session}

abbrev lines_in : Option (Run ℕ) → List Line
lines_in None = []
lines_in (Some r) = history_lines toy session r.events

abbrev lines_of : List Picture → List ScriptLine → List Line
lines_of pictures lines = lines_in (played toy session lines (Some (begun pictures)))

-- one byte, and the name of the state that it leads to
abbrev one_byte : ReportSize
one_byte = Frame 1 (record { 0 = 129 ∷ replicate 15 0 })

-- a picture is started and its two jobs run; the finer is chosen, comes and is shown
one_picture : lines_of (shot 128 ∷ []) (script.Next ∷ script.DownAll ∷ []) ≡ Next 1 ∷ Take 1 Coarse ∷ Report 1 one_byte false ∷ Take 2 Fine ∷ Report 2 one_byte false ∷ Choose 1 2 0 1 ∷ Down 1 ∷ Ready 1 ∷ Decoded 1 true ∷ []
unfolding chosen made_at sources_from one_thread below fragment_bytes u32_bytes u16_bytes name_bytes last_serial parsed fragment_fields ack_fields held_at ack_bytes ready_source drained run_jobs gap_after after history_lines
one_picture = refl

-- the finer job comes after the choice
late_picture : lines_of (shot 128 ∷ []) (script.NextLate ∷ []) ≡ Next 1 ∷ Take 1 Coarse ∷ Report 1 one_byte false ∷ Choose 1 1 0 1 ∷ Take 2 Fine ∷ Report 2 one_byte true ∷ []
unfolding chosen made_at sources_from one_thread below fragment_bytes u32_bytes u16_bytes name_bytes last_serial parsed fragment_fields ack_fields held_at ack_bytes ready_source drained run_jobs gap_after after history_lines
late_picture = refl
