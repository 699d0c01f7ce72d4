-- The words of the reasons.
use Rattle.std.specs.Prelude.{ℕ, List, codes}
use Rattle.sal_y4m.specs.declared.fault.Why.{Why}
use Rattle.sal_y4m.specs.declared.fault.Why.TheVariants.{Magic, Cut, Line, Side, Rate, Interlace, Colour, Param, Missing, Frame}

abbrev pub word_of : Why → List ℕ
word_of Magic = codes "magic"
word_of Cut = codes "cut"
word_of Line = codes "line"
word_of Side = codes "side"
word_of Rate = codes "rate"
word_of Interlace = codes "interlace"
word_of Colour = codes "colour"
word_of Param = codes "param"
word_of Missing = codes "missing"
word_of Frame = codes "frame"
