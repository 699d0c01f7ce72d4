use Rattle.std.proofs.Common.{take}
use Rattle.sal_frame.specs.Built.{blanks, references_or}
use Rattle.sal_base.specs.Pictures.{blocks_of}
use Rattle.sal_decode.specs.Syntax.{record_of}
use Rattle.sal_decode.proofs.Going.{Going}
use Rattle.sal_decode.proofs.picture.build_picture.Given as goal

abbrev pub invariant-loop-k : goal.invariant-loop-k
invariant-loop-k l =
    Going l.bytes (take l.parts.count l.parts.at) l.probs.coefficients l.columns (blocks_of l.height) l.header l.map l.modes (references_or (blanks l.columns (blocks_of l.height)) l.state.references)
    (record_of l.state l.bytes (l.width, l.height) (take l.parts.count l.parts.at) (l.header, l.modes)) l.k l.tokens.decoders.items l.tokens.above.items l.tokens.left l.planes l.infos.items
