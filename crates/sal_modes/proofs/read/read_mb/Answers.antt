use Rattle.std.proofs.Common.{◌∙◌, ap, sym}
use Rattle.sal_bool.specs.Syntax.{run}
use Rattle.sal_bool.proofs.Meaning.{exact_of}
use Rattle.sal_modes.specs.Around.{Around}
use Rattle.sal_modes.specs.Modes.{mb_mode}
use Rattle.sal_modes.specs.Rows.{around}
use Rattle.sal_modes.proofs.read.read_mb.Goals as goal

pub returns-clause-exact : goal.returns-clause-exact
returns-clause-exact c =
    let read = ap (λ (a : Around). run (mb_mode c.args.header.now c.args.probs.now a) c.args.decoder.now) (sym c.around.ensures.value) ∙ c.read_around-mode.ensures.reads in
    exact_of (mb_mode c.args.header.now c.args.probs.now (around c.args.context.now c.args.column)) _ _ _ read
