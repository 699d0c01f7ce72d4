use Rattle.std.proofs.Common.{◌≡◌, ◌∷◌, ◌++◌, drop}
use Rattle.std.specs.List.{flat_map}
use Rattle.sal_world.specs.LineText.{size_word}
use Rattle.sal_journal.proofs.writing.nothing_line.Given as goal

abbrev pub invariant-loop-size : goal.invariant-loop-size
invariant-loop-size l = l.text ++ flat_map (λ size. 32 ∷ size_word size) (drop l.size-index l.sizes) ≡ l.initial.text ++ flat_map (λ size. 32 ∷ size_word size) l.sizes
