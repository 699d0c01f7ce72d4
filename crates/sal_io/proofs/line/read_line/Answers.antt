use Rattle.std.proofs.Common.{rules, arith, ◌≡◌, ◌≤◌, length, take, refl, length-take-le}
use Rattle.std.specs.Io.KnownBytes.{Consumes}
use Rattle.sal_io.specs.Told.{NoNewline}
use Rattle.sal_io.proofs.ToldLemmas.{at_start, stored, NoNewline-push, line_read, line_cut, line_over, one_more, none_more, took_none, none_at_start, was_all}
use Rattle.sal_io.proofs.line.read_line.Goals as goal

pub returns-in-Short-clause-told : goal.returns-in-Short-clause-told
returns-in-Short-clause-told g c =
    line_cut _ _ _ _ c.loop-i.invariant.plain c.loop-i.invariant.taken (none_more _ _ _ (omega (arith, c.in-Short.ensures.bytes.0, c.fill.ensures.len)) c.in-Short.ensures.bytes.1)

pub returns-then-i-eq0-clause-told : goal.returns-then-i-eq0-clause-told
returns-then-i-eq0-clause-told g c =
    let nothing = none_more _ _ _ (omega (arith, c.in-Short.ensures.bytes.0, c.fill.ensures.len)) c.in-Short.ensures.bytes.1 in
    (at_start _ _ _ _ c.if-i-eq0.true c.loop-i.invariant.taken nothing, line_cut _ _ _ _ c.loop-i.invariant.plain c.loop-i.invariant.taken nothing)

pub returns-then-byte-eq10-clause-told : goal.returns-then-byte-eq10-clause-told
returns-then-byte-eq10-clause-told g c =
    let long : length (take c.loop-i.i c.loop-i.line) ≡ c.loop-i.i = length-take-le c.loop-i.i c.loop-i.line (omega arith) in
    (omega arith, line_read _ _ _ _ c.loop-i.invariant.plain (omega arith) (one_more _ _ _ _ _ _ c.loop-i.invariant.taken c.fill.ensures.len c.if-byte-eq10.true c.in-Full.ensures.bytes))

pub loop-i-preserved : goal.loop-i-preserved
loop-i-preserved g c =
    let at : c.loop-i.i ≤ length c.loop-i.line = omega arith in
    record {
      taken = stored _ _ _ (Consumes _ _) (omega arith) (one_more _ _ _ _ _ _ c.loop-i.invariant.taken c.fill.ensures.len refl c.in-Full.ensures.bytes);
      plain = stored _ _ _ NoNewline (omega arith) (NoNewline-push _ _ c.loop-i.invariant.plain c.if-byte-eq10.false);
      later = omega (arith, c.in-Full.ensures.cause.later);
      name = search rules;
      had = search rules;
      tells = search rules;
    }

pub returns-clause-told : goal.returns-clause-told
returns-clause-told g c =
    let long : length (take c.loop-i.i c.loop-i.line) ≡ c.loop-i.i = length-take-le c.loop-i.i c.loop-i.line (omega arith) in
    line_over _ _ _ _ c.loop-i.invariant.plain (omega arith) c.loop-i.invariant.taken

pub returns-in-Short-clause-taken : goal.returns-in-Short-clause-taken
returns-in-Short-clause-taken g c =
    let nothing = none_more _ _ _ (omega (arith, c.in-Short.ensures.bytes.0, c.fill.ensures.len)) c.in-Short.ensures.bytes.1 in (
      c.loop-i.i,
      omega arith,
      record { plain = c.loop-i.invariant.plain; taken = took_none _ _ _ _ _ _ (omega (arith, c.in-Short.ensures.bytes.0, c.fill.ensures.len)) c.loop-i.invariant.taken c.in-Short.ensures.bytes.2 },
      λ _. was_all _ _ _ c.loop-i.invariant.taken nothing,
    )

pub returns-then-i-eq0-clause-taken : goal.returns-then-i-eq0-clause-taken
returns-then-i-eq0-clause-taken g c =
    none_at_start _ _ _ _ _ _ _ c.if-i-eq0.true (omega (arith, c.in-Short.ensures.bytes.0, c.fill.ensures.len)) c.loop-i.invariant.taken c.in-Short.ensures.bytes.2

pub returns-in-Failed-clause-taken : goal.returns-in-Failed-clause-taken
returns-in-Failed-clause-taken g c =
    (c.loop-i.i, omega arith, record { plain = c.loop-i.invariant.plain; taken = took_none _ _ _ _ _ _ (omega (arith, c.in-Failed.ensures.bytes.1, c.fill.ensures.len)) c.loop-i.invariant.taken c.in-Failed.ensures.bytes.2 })

pub returns-clause-taken : goal.returns-clause-taken
returns-clause-taken g c =
    (c.loop-i.i, omega arith, record { plain = c.loop-i.invariant.plain; taken = c.loop-i.invariant.taken }, λ few. absurd (omega (arith, few)))

pub returns-then-byte-eq10-clause-taken : goal.returns-then-byte-eq10-clause-taken
returns-then-byte-eq10-clause-taken g c =
    one_more _ _ _ _ _ _ c.loop-i.invariant.taken c.fill.ensures.len c.if-byte-eq10.true c.in-Full.ensures.bytes
