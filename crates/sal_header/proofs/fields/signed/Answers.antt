use Rattle.sal_bool.specs.Syntax.{signed_literal, signed}
use Rattle.std.proofs.Common.{◌∙◌, ap}
use Rattle.sal_header.proofs.Values.{run_signed, as_read, positive, negative}
use Rattle.sal_header.proofs.fields.signed.Goals as goal

pub returns-then-negative : goal.returns-then-negative
returns-then-negative c =
    let size = c.literal-size.result in
    record { reads = as_read (signed_literal c.args.n) _ _ _ _ (run_signed c.args.n _ size _ _ _ c.literal-size.ensures.reads c.bit-negative.ensures.reads) (ap (signed size) c.if-negative.true ∙ negative c.args.n size c.requires c.literal-size.ensures.small) }

pub returns-else-negative : goal.returns-else-negative
returns-else-negative c =
    let size = c.literal-size.result in
    record { reads = as_read (signed_literal c.args.n) _ _ _ _ (run_signed c.args.n _ size _ _ _ c.literal-size.ensures.reads c.bit-negative.ensures.reads) (ap (signed size) c.if-negative.false ∙ positive c.args.n size c.requires c.literal-size.ensures.small) }
