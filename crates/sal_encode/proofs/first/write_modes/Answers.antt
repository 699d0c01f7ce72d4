use Rattle.std.proofs.Common.{refl}
use Rattle.sal_encode.proofs.ModesWritten.{writable_here, one_more, all_written}
use Rattle.sal_encode.proofs.first.write_modes.Goals as goal

pub write_mb-requires-clause-writable : goal.write_mb-requires-clause-writable
write_mb-requires-clause-writable c =
    writable_here c.args.header.now c.args.probs.now c.args.columns c.args.rows c.args.modes.now _ c.loop-row.row c.loop-column.column c.loop-column.context c.loop-column.encoder _ _ c.loop-row-test.true c.loop-column-test.true c.requires.count c.loop-column.invariant c.requires.writable refl

pub loop-column-preserved : goal.loop-column-preserved
loop-column-preserved c =
    one_more c.args.header.now c.args.probs.now c.args.columns c.args.rows c.args.modes.now _ c.loop-row.row c.loop-column.column c.loop-column.context c.write_mb.new.context c.loop-column.encoder c.write_mb.new.encoder _ _ c.loop-row-test.true c.loop-column-test.true c.requires.count c.loop-column.invariant refl
    c.in_ok-write_mb.ensures.pairs c.in_ok-write_mb.ensures.row

pub returns : goal.returns
returns c = all_written c.args.header.now c.args.probs.now c.args.columns c.args.rows c.args.modes.now _ c.loop-row.row c.loop-row.context c.loop-row.encoder c.loop-row-test.false c.loop-row.auto.row-end c.requires.count c.loop-row.invariant
