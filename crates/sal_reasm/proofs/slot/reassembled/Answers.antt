use Rattle.std.proofs.Common.{refl, ◌∙◌}
use Rattle.sal_reasm.proofs.Parts.{joined_from}
use Rattle.sal_reasm.proofs.slot.reassembled.Goals as goal

pub returns : goal.returns
returns c = c.from_vec.ensures ∙ joined_from c.args.parts.now c.args.index _ c.args.bytes.now _ _ _ _ _ c.requires.index refl c.new-out.ensures.items c.in_ok-reserve.ensures.items c.in_ok-put_parts.ensures c.in_ok-extend_from_slice.ensures.items c.in_ok-put_parts-2.ensures
