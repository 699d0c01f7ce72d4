use Rattle.std.proofs.Common.{rules, arith, ◌≤◌, length, refl}
use Rattle.std.specs.Io.KnownBytes.{Consumes}
use Rattle.sal_io.specs.Told.{NoNewline}
use Rattle.sal_io.proofs.ToldLemmas.{stored, NoNewline-push, one_more, none_more, took_none, was_all}
use Rattle.sal_y4m.proofs.LineLemmas.{long_line}
use Rattle.sal_y4m.proofs.line.read_line.Goals as goal

pub returns-in-Short-clause-told : goal.returns-in-Short-clause-told
returns-in-Short-clause-told g c =
    let few = c.in-Short.ensures.bytes in (
      omega arith,
      was_all _ _ _ c.loop-i.invariant.taken (none_more _ _ _ (omega (arith, few.0, c.fill.ensures.len)) few.1),
      (c.loop-i.invariant.plain, took_none _ _ _ _ _ _ (omega (arith, few.0, c.fill.ensures.len)) c.loop-i.invariant.taken few.2),
    )

pub returns-then-byte-eq10-clause-told : goal.returns-then-byte-eq10-clause-told
returns-then-byte-eq10-clause-told g c =
    (omega arith, c.loop-i.invariant.plain, one_more _ _ _ _ _ _ c.loop-i.invariant.taken c.fill.ensures.len c.if-byte-eq10.true c.in-Full.ensures.bytes)

pub returns-in-Failed-clause-told : goal.returns-in-Failed-clause-told
returns-in-Failed-clause-told g c =
    (c.loop-i.i, omega arith, (c.loop-i.invariant.plain, took_none _ _ _ _ _ _ (omega (arith, c.in-Failed.ensures.bytes.1, c.fill.ensures.len)) c.loop-i.invariant.taken c.in-Failed.ensures.bytes.2))

pub loop-i-preserved : goal.loop-i-preserved
loop-i-preserved g c =
    let at : c.loop-i.i ≤ length c.loop-i.line = omega arith in
    record {
      size = search rules;
      taken = stored _ _ _ (Consumes _ _) (omega arith) (one_more _ _ _ _ _ _ c.loop-i.invariant.taken c.fill.ensures.len refl c.in-Full.ensures.bytes);
      plain = stored _ _ _ NoNewline (omega arith) (NoNewline-push _ _ c.loop-i.invariant.plain c.if-byte-eq10.false);
      later = omega (arith, c.in-Full.ensures.cause.later);
      name = search rules;
      had = search rules;
      tells = search rules;
    }

pub returns-clause-told : goal.returns-clause-told
returns-clause-told g c = long_line _ _ c.loop-i.i c.loop-i.line (omega arith) c.loop-i.invariant.plain c.loop-i.invariant.taken
