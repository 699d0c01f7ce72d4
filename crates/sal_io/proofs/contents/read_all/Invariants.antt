use Rattle.std.specs.Prelude.{is_some}
use Rattle.std.proofs.Common.{◌≡◌, ◌+◌, ◌-◌, ◌≤◌, length}
use Rattle.std.specs.Io.KnownBytes.{Consumes}
use Rattle.sal_io.proofs.contents.read_all.Given as goal

abbrev pub invariant-loop-source : goal.invariant-loop-source
invariant-loop-source g l = record {
  taken : Consumes (g.S.Source.left l.initial.source) (g.S.Source.left l.source) l.bytes;
  room : length l.piece.items ≡ 65536;
  within : length l.bytes ≤ l.initial.most + 65536;
  later : g.S.Source.faults l.initial.source ≤ g.S.Source.faults l.source;
  name : g.S.Source.name l.source ≡ g.S.Source.name l.initial.source;
  had : g.S.Source.had l.source ≡ g.S.Source.had l.initial.source;
  tells : is_some (g.S.Source.left l.source) ≡ is_some (g.S.Source.left l.initial.source);
}

abbrev pub decreases-loop-source : goal.decreases-loop-source
decreases-loop-source g l = l.initial.most + 1 - length l.bytes
