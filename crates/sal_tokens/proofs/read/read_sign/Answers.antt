use Rattle.std.proofs.Common.{◌≡◌, ℕ, Bool, false, not, ◌==◌, subst, sym}
use Rattle.sal_bool.specs.Reading.{Reading}
use Rattle.sal_bool.specs.Syntax.{run, flag, when}
use Rattle.sal_bool.proofs.Meaning.{run_done}
use Rattle.sal_tokens.proofs.read.read_sign.Goals as goal

pub returns-then-size-eq0 : goal.returns-then-size-eq0
returns-then-size-eq0 c =
    let P : ℕ → Type 0 = λ n. run (when (not (n == 0)) flag false) c.args.decoder.now ≡ (let x : Bool × Reading = (false, c.args.decoder.now) in x) in
    record { reads = subst P (sym c.if-size-eq0.true) (run_done false c.args.decoder.now) }
