use Rattle.std.proofs.lemmas.List.{take_rest}
use Rattle.sal_wire.specs.Parsing.{fragment_fields}
use Rattle.sal_wire.proofs.Entries.{entries_equal}
use Rattle.sal_wire.proofs.reading.fragment_fields.Goals as goal

pub returns : goal.returns
unfolding fragment_fields
returns c =
    entries_equal _ _ _ _ _ _ _ _ _ _ _ _ _ _ _ _ _ _ _ _ _ _ _ _ _ _ _ _ c.u32_at.ensures c.u32_at-2.ensures c.u32_at-3.ensures c.u32_at-4.ensures c.name_at.ensures c.name_at-2.ensures
    c.u16_at.ensures c.u16_at-2.ensures c.u32_at-5.ensures c.u16_at-3.ensures c.u16_at-4.ensures c.u32_at-6.ensures c.u32_at-7.ensures (take_rest c.args.bytes.now 56)
