use Rattle.std.proofs.Common.{◌∙◌, ap}
use Rattle.sal_bool.specs.Written.{steps}
use Rattle.sal_modes.specs.Around.{Around}
use Rattle.sal_modes.specs.Modes.{mb_mode}
use Rattle.sal_modes.specs.Rows.{around}
use Rattle.sal_modes.specs.Written.{mb_pairs, as_read}
use Rattle.sal_modes.proofs.WrittenModes.{mb_again, read_where}
use Rattle.sal_modes.proofs.write.write_mb.Goals as goal

pub returns-clause-follows : goal.returns-clause-follows
returns-clause-follows c = mb_again c.args.header.now c.args.probs.now (around c.args.context.now c.args.column) c.args.mode.now c.requires.writable c.in_ok-write_around.ensures.long

pub returns-clause-read_back : goal.returns-clause-read_back
returns-clause-read_back c = λ before more a b e.
    read_where (mb_mode c.args.header.now c.args.probs.now (around c.args.context.now c.args.column)) (mb_pairs c.args.header.now c.args.probs.now (around c.args.context.now c.args.column) c.args.mode.now) (as_read c.args.header.now c.args.mode.now) before more c.args.encoder.now c.write_around.new.encoder
    (returns-clause-follows c) a b e
    (c.in_ok-write_around.ensures.pairs ∙ ap (λ (n : Around). steps c.args.encoder.now (mb_pairs c.args.header.now c.args.probs.now n c.args.mode.now)) c.around.ensures.value)
