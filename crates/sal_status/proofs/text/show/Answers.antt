use Rattle.std.proofs.Common.{codes}
use Rattle.sal_status.specs.Texts.{about}
use Rattle.sal_status.proofs.Digits.{with_digits, with_summary, with_status}
use Rattle.sal_status.proofs.text.show.Goals as goal

pub returns-in-Ok-clause-bytes : goal.returns-in-Ok-clause-bytes
returns-in-Ok-clause-bytes g c = with_status _ _ _ _ _ _ c.in-Ok.is (with_summary _ _ _ _ _ c.counts.ensures c.show_summary.ensures.bytes)

pub returns-in-Usage-clause-bytes : goal.returns-in-Usage-clause-bytes
returns-in-Usage-clause-bytes g c = with_status _ _ _ _ _ _ c.in-Usage.is c.put_all.ensures.bytes

pub returns-in-BadScript-clause-bytes : goal.returns-in-BadScript-clause-bytes
returns-in-BadScript-clause-bytes g c = with_status _ _ _ _ _ _ c.in-BadScript.is c.show_line.ensures.bytes

pub returns-in-ReadFault-clause-bytes : goal.returns-in-ReadFault-clause-bytes
returns-in-ReadFault-clause-bytes g c =
    with_status _ _ _ _ _ _ c.in-ReadFault.is (with_digits _ _ _ (about (codes "read fault ")) _ _ c.name-in-ReadFault.ensures c.show_parts.ensures.bytes)

pub returns-in-WriteFault-clause-bytes : goal.returns-in-WriteFault-clause-bytes
returns-in-WriteFault-clause-bytes g c =
    with_status _ _ _ _ _ _ c.in-WriteFault.is (with_digits _ _ _ (about (codes "write fault ")) _ _ c.name-in-WriteFault.ensures c.show_parts-in-WriteFault.ensures.bytes)

pub returns-in-OpenFault-clause-bytes : goal.returns-in-OpenFault-clause-bytes
returns-in-OpenFault-clause-bytes g c =
    with_status _ _ _ _ _ _ c.in-OpenFault.is (with_digits _ _ _ (about (codes "open fault ")) _ _ c.name-in-OpenFault.ensures c.show_parts-in-OpenFault.ensures.bytes)
