use Rattle.std.proofs.Common.{◌≡◌, ◌-◌, length, replicate}
use Rattle.sal_bool.specs.Syntax.{run}
use Rattle.sal_macroblock.specs.Macroblocks.{zero_vector}
use Rattle.sal_modes.specs.SplitVectors.{parts, part_count}
use Rattle.sal_modes.proofs.split.read_split.Given as goal

abbrev pub invariant-loop-part : goal.invariant-loop-part
invariant-loop-part l = record {
  long : length l.vectors ≡ 16;
  reads : run (parts l.probabilities l.around l.best l.partition l.part (part_count l.partition - l.part) l.vectors) l.decoder
      ≡ run (parts l.probabilities l.around l.best l.partition 0 (part_count l.partition) (replicate 16 zero_vector)) l.initial.decoder;
}
