use Rattle.std.proofs.Common.{◌≡◌, ◌∷◌, ◌++◌, drop}
use Rattle.std.specs.List.{flat_map}
use Rattle.sal_journal.proofs.writing.join.Given as goal

abbrev pub invariant-loop-word : goal.invariant-loop-word
invariant-loop-word l = l.text ++ flat_map (λ word. 32 ∷ word.now) (drop l.word-index l.others) ≡ l.initial.text ++ flat_map (λ word. 32 ∷ word.now) l.others
