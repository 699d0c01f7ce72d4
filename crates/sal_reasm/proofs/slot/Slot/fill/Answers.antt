use Rattle.std.proofs.Common.{◌≤◌, length, Some, ap, arith}
use Rattle.std.proofs.lemmas.List.{length-set}
use Rattle.sal_wire.specs.Fields.{fields_of}
use Rattle.sal_reasm.proofs.Parts.{one_less, set_short}
use Rattle.sal_reasm.proofs.slot.Slot.fill.Goals as goal

pub overflow_sub-self : goal.overflow_sub-self
overflow_sub-self c =
    let less = one_less c.args.self.now (fields_of c.args.fragment.now) c.self.inside.parts.items c.self.inside.missing c.from-index.result c.in_ok-bytes.bytes (ap (λ f. f.parts) c.self.view_is) c.self.invariant.0 c.requires.count c.requires.fragment.index c.requires.missing c.from-index.ensures in
    omega (arith, less)

pub invariant_of-self : goal.invariant_of-self
invariant_of-self c =
    let less = one_less c.args.self.now (fields_of c.args.fragment.now) c.self.inside.parts.items c.self.inside.missing c.from-index.result c.in_ok-bytes.bytes (ap (λ f. f.parts) c.self.view_is) c.self.invariant.0 c.requires.count c.requires.fragment.index c.requires.missing c.from-index.ensures in (
      omega (arith, less),
      (
        omega (arith, length-set c.self.inside.parts.items c.from-index.result (Some c.in_ok-bytes.bytes), c.self.invariant.1.0),
        set_short c.self.inside.parts.items c.from-index.result c.in_ok-bytes.bytes c.self.invariant.1.1 (omega (arith, ap length c.in_ok-bytes.ensures, c.requires.fragment.short)),
      ),
    )
