-- Where in an input a flaw stands.
use Rattle.std.specs.Prelude.{◌≡◌, ℕ, ◌≤◌, List, length, Option, IfSome}
use Rattle.sal_y4m.specs.declared.fault.Flaw.{Flaw}
use Rattle.sal_y4m.specs.declared.fault.Why.{Why}
use Rattle.sal_y4m.specs.Answers.{IsAt}

-- the place and the reason of a flaw that lies in these bytes, which have so many before them
abbrev pub IsPlaced : ℕ → List ℕ → Flaw → ℕ → Why → Type 0
IsPlaced before bytes flaw place why = (flaw.left ≤ length bytes) × IsAt before bytes flaw place why

-- what is placed in the bytes that are left is placed so in those that were left before
abbrev pub Carries : ℕ → Option (List ℕ) → ℕ → Option (List ℕ) → Type 0
Carries before left before' left' =
    IfSome left (λ l. IfSome left' (λ l'. (flaw : Flaw) (place : ℕ) (why : Why) → IsPlaced before' l' flaw place why → IsPlaced before l flaw place why))
