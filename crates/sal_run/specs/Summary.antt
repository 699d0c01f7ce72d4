-- What a run counts, of the calls of both ends.
use Rattle.std.specs.Prelude.{ℕ, ◌-◌, ◌^◌, min, Bool, List, length, filter, filter_map, Option, Some, None, ◌==◌}
use Rattle.sal_sender.specs.declared.choice.Choice.{Choice}
use Rattle.sal_sender.specs.declared.answers.Chosen.TheVariants.{Nothing}
use Rattle.sal_sender.specs.Past.{Past, SenderCall, Choose, pictures, choices, datagrams}
use Rattle.sal_receiver.specs.Past.{shown}
use Rattle.sal_world.specs.World.{WorldPast}
use Rattle.sal_run.specs.declared.end.Summary.{Summary}

-- a count stays at the greatest number of 32 bits
abbrev pub counted : ℕ → ℕ
counted n = min (2 ^ 32 - 1) n

-- a choice of nothing, with its budget
abbrev pub nothing_in : SenderCall → Option ℕ
nothing_in (Choose moment (Nothing budget sizes)) = Some budget
nothing_in _ = None

abbrev pub nothings : Past → List ℕ
nothings past = filter_map nothing_in past

-- a key frame is made of no other state
abbrev pub is_key : Choice → Bool
is_key choice = choice.source == 0

abbrev pub keys : Past → List Choice
keys past = filter is_key (choices past)

-- the pictures started, the choices, those of nothing, those that are key frames, the datagrams sent and the pictures shown
abbrev pub summary_of : {S : Type 0} → WorldPast S → Summary
summary_of w = record {
  pictures = counted (length (pictures w.sender));
  chosen = counted (length (choices w.sender));
  nothing = counted (length (nothings w.sender));
  keys = counted (length (keys w.sender));
  datagrams = length (datagrams w.sender);
  shown = counted (length (shown w.receiver));
}
