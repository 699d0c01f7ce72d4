use Rattle.std.proofs.Common.{ap}
use Rattle.sal_wire.specs.Fields.{fields_of}
use Rattle.sal_reasm.proofs.Parts.{last_answered, more_answered}
use Rattle.sal_reasm.proofs.slot.Slot.answer.Goals as goal

pub returns-then-self-ne1 : goal.returns-then-self-ne1
returns-then-self-ne1 c = more_answered c.args.self.now (fields_of c.args.fragment.now) c.self.inside.parts.items c.self.inside.missing (ap (λ f. f.parts) c.self.view_is) c.self.invariant.0 c.if-self-ne1.true c.requires.count c.requires.fragment.index c.requires.missing

pub returns : goal.returns
returns c = last_answered c.args.self.now (fields_of c.args.fragment.now) c.self.inside.parts.items _ c.self.inside.missing _ _ (ap (λ f. f.parts) c.self.view_is) c.self.invariant.0 c.if-self-ne1.false c.requires.count c.requires.fragment.index c.requires.missing c.as_slice.ensures.value c.from-index.ensures c.in_ok-bytes.ensures
