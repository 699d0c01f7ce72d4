use Rattle.std.proofs.Common.{◌∙◌}
use Rattle.sal_status.specs.Texts.{bad_script}
use Rattle.sal_status.proofs.Digits.{with_digits}
use Rattle.sal_status.proofs.text.show_line.Goals as goal

pub returns-clause-bytes : goal.returns-clause-bytes
returns-clause-bytes g c = with_digits _ _ _ bad_script _ _ (c.as_bytes.ensures.value ∙ c.format.ensures.text) c.show_parts.ensures.bytes
