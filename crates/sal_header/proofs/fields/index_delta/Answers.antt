use Rattle.std.proofs.Common.{sym, pos}
use Rattle.sal_bool.specs.Syntax.{flagged, signed_literal}
use Rattle.sal_header.proofs.Values.{run_flagged, run_unflagged, as_read, passed}
use Rattle.sal_header.proofs.fields.index_delta.Goals as goal

pub returns-then-flag : goal.returns-then-flag
returns-then-flag c =
    let s = signed_literal 4 in
    record { reads = as_read (flagged s (pos 0)) _ _ _ _ (run_flagged s (pos 0) _ _ _ _ _ c.bit-flag.ensures.reads c.if-flag.true c.signed.ensures.reads) (sym (passed c.signed.result (record { sfits = c.signed.type_inv }))) }

pub returns-else-flag : goal.returns-else-flag
returns-else-flag c = record { reads = run_unflagged (signed_literal 4) (pos 0) _ _ _ c.bit-flag.ensures.reads c.if-flag.false }
