use Rattle.std.proofs.Common.{arith, sym, ◌∙◌}
use Rattle.sal_codec.proofs.Successive.{inter_after_key}
use Rattle.sal_codec.proofs.tests.send_two.Goals as goal

pub encode-requires-2 : goal.encode-requires-2
encode-requires-2 g c =
    inter_after_key g.C.Codec.coding c.in-Ok.initial c.args.first.now c.args.second.now 40 c.in-Frame.key c.in-Frame.source c.in-Frame.recon
    c.keeps_the_law.ensures c.requires.first c.requires.second (omega arith) (sym c.in-Ok-encode.ensures ∙ c.in-Frame.is)
