-- The level of a macroblock with deltas.
use Rattle.std.proofs.Common.{◌≡◌, ◌∙◌, ap, sym, ℕ, ℤ, pos, ◌+ℤ◌, List, Option, Some}
use Rattle.sal_macroblock.specs.declared.mode.MbMode.{MbMode}
use Rattle.sal_filter.specs.Limits.{level_in, entry, reference_number, mode_delta, with_deltas}

pub with_some : (o : Option (List ℤ × List ℤ)) (d : List ℤ × List ℤ) (m : MbMode) (level l r : ℕ) (x y z : ℤ) → o ≡ Some d → l ≡ level → x ≡ entry d.0 (reference_number m.reference) → y ≡ mode_delta d.1 m.y
    → z ≡ (pos l +ℤ x) +ℤ y → r ≡ level_in z → r ≡ with_deltas o m level
with_some o d m level l r x y z e f g h i j =
    j ∙ (ap level_in (i ∙ (ap (λ (k : ℕ). (pos k +ℤ x) +ℤ y) f ∙ (ap (λ (k : ℤ). (pos level +ℤ k) +ℤ y) g ∙ ap (λ (k : ℤ). (pos level +ℤ entry d.0 (reference_number m.reference)) +ℤ k) h)))
    ∙ ap (λ (q : Option (List ℤ × List ℤ)). with_deltas q m level) (sym e))
