use Rattle.std.specs.Prelude.{is_some}
use Rattle.std.proofs.Common.{◌≡◌, ◌≤◌, length, take}
use Rattle.std.specs.Io.KnownBytes.{Consumes}
use Rattle.sal_io.specs.Told.{NoNewline}
use Rattle.sal_y4m.proofs.line.read_line.Given as goal

abbrev pub invariant-loop-i : goal.invariant-loop-i
invariant-loop-i g l = record {
  size : length l.line ≡ length l.initial.line;
  taken : Consumes (g.S.Source.left l.initial.source) (g.S.Source.left l.source) (take l.i l.line);
  plain : NoNewline (take l.i l.line);
  later : g.S.Source.faults l.initial.source ≤ g.S.Source.faults l.source;
  name : g.S.Source.name l.source ≡ g.S.Source.name l.initial.source;
  had : g.S.Source.had l.source ≡ g.S.Source.had l.initial.source;
  tells : is_some (g.S.Source.left l.source) ≡ is_some (g.S.Source.left l.initial.source);
}
