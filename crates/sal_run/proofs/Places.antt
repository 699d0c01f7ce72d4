-- Where in an input a flaw stands, as it is read.
use Rattle.std.proofs.Common.{◌≡◌, ℕ, ◌+◌, ◌≤◌, true, false, List, ◌++◌, length, Option, Some, None, is_some, ap, subst, arith, length-append}
use Rattle.sal_y4m.specs.Answers.{Counts}
use Rattle.sal_y4m.proofs.Places.{place_later}
use Rattle.sal_run.specs.Place.{Carries}

-- what is placed after some bytes were taken is placed so before
pub carries_on : (before now : ℕ) (left left' : Option (List ℕ)) → Counts before now left left' → Carries before left now left'
carries_on before now None left' c = tt
carries_on before now (Some l) None c = tt
carries_on before now (Some l) (Some l') c = λ flaw place why p.
    let whole : length l ≡ length c.0 + length l' = subst (λ n. length l ≡ n) (length-append c.0 l') (ap length c.1) in
    let within = p.0 in
    (omega (arith, whole, within), place_later before now l l' c.0 flaw place why p.0 c.1 c.2 p.1)

pub carries_first : (before : ℕ) (left : Option (List ℕ)) → Carries before left before left
carries_first before None = tt
carries_first before (Some l) = λ flaw place why p. p

not_told : false ≡ true → ⊥
not_told e = absurd cc

pub carries_then : (a b c : ℕ) (x y z : Option (List ℕ)) → is_some y ≡ is_some x → Carries a x b y → Carries b y c z → Carries a x c z
carries_then a b c None y z tells p q = tt
carries_then a b c (Some l) None z tells p q = absurd (not_told tells)
carries_then a b c (Some l) (Some m) None tells p q = tt
carries_then a b c (Some l) (Some m) (Some n) tells p q = λ flaw place why at. p flaw place why (q flaw place why at)
