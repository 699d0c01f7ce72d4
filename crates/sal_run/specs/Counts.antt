-- What is counted of each answer, and that the counts are those of the calls so far.
use Rattle.std.specs.Prelude.{ℕ, ◌+◌, ◌-◌, ◌^◌, min, length, ◌==◌, if◌then◌else◌}
use Rattle.sal_sender.specs.declared.answers.Next.{Next}
use Rattle.sal_sender.specs.declared.answers.Next.TheVariants.{Started}
use Rattle.sal_receiver.specs.declared.answers.Done.{Done}
use Rattle.sal_receiver.specs.declared.answers.Done.TheVariants.{Show}
use Rattle.sal_receiver.specs.Past.{shown}
use Rattle.sal_sender.specs.Past.{pictures, choices}
use Rattle.sal_world.specs.declared.event.ChooseAnswer.{ChooseAnswer}
use Rattle.sal_world.specs.declared.event.ChooseAnswer.TheVariants as choose
use Rattle.sal_world.specs.World.{WorldPast}
use Rattle.sal_run.specs.declared.end.Summary.{Summary}
use Rattle.sal_run.specs.declared.counted.Counts.{Counts}
use Rattle.sal_run.specs.Summary.{counted, nothings, keys}

abbrev pub no_counts : Counts
no_counts = record { pictures = 0; chosen = 0; nothing = 0; keys = 0; shown = 0 }

-- one more
abbrev pub more : ℕ → ℕ
more n = min (2 ^ 32 - 1) (n + 1)

abbrev pub with_next : Next → Counts → Counts
with_next (Started jobs) c = record c { pictures = more c.pictures }
with_next _ c = c

abbrev pub with_choice : ChooseAnswer → Counts → Counts
with_choice (choose.Sent choice) c = record c { chosen = more c.chosen; keys = if choice.source == 0 then more c.keys else c.keys }
with_choice (choose.Nothing budget sizes) c = record c { nothing = more c.nothing }
with_choice _ c = c

abbrev pub with_done : Done → Counts → Counts
with_done (Show number picture) c = record c { shown = more c.shown }
with_done _ c = c

-- the counts after the calls of both ends
abbrev pub counts_of : {S : Type 0} → WorldPast S → Counts
counts_of w = record {
  pictures = counted (length (pictures w.sender));
  chosen = counted (length (choices w.sender));
  nothing = counted (length (nothings w.sender));
  keys = counted (length (keys w.sender));
  shown = counted (length (shown w.receiver));
}

-- a summary of counts and of so many datagrams
abbrev pub summary_with : Counts → ℕ → Summary
summary_with c datagrams = record { pictures = c.pictures; chosen = c.chosen; nothing = c.nothing; keys = c.keys; datagrams = datagrams; shown = c.shown }
