use Rattle.sal_bool.specs.Syntax.{signed_literal}
use Rattle.sal_header.proofs.Values.{IsUpdatedUpTo}
use Rattle.sal_header.proofs.fields.update_four.Given as goal

abbrev pub invariant-loop-i : goal.invariant-loop-i
invariant-loop-i l = IsUpdatedUpTo (signed_literal l.n) l.fn.values l.i l.fn.decoder l.values l.decoder
