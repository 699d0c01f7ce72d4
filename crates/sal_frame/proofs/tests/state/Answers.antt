use Rattle.std.proofs.Common.{refl, ap}
use Rattle.sal_state.specs.States.{StateData}
use Rattle.sal_frame.proofs.tests.state.Goals as goal

pub returns : goal.returns
returns c = (_, ap (λ (s : StateData). s.references) c.new.ensures, refl, refl)
