-- What is written of a head.
use Rattle.std.proofs.Common.{◌≡◌, List, ℕ, Option, ap, ◌∙◌, subst}
use Rattle.std.specs.Prelude.{Result, decimal}
use Rattle.sal_y4m.specs.Answers.{Writes}
use Rattle.sal_y4m.specs.declared.fault.WriteFault.{WriteFault}
use Rattle.sal_y4m.specs.declared.head.Head.{Head}
use Rattle.sal_y4m.specs.Grammar.{header_line, head_text}

pub head_written : (old new : Option (List ℕ)) (r : Result (Unit {0}) WriteFault) (head : Head) (w h p s : List ℕ)
    → w ≡ decimal head.width → h ≡ decimal head.height → p ≡ decimal head.rate.0 → s ≡ decimal head.rate.1
    → Writes old new r (header_line w h p s) → Writes old new r (head_text head)
head_written old new r head w h p s ew eh ep es told =
    let same : header_line w h p s ≡ head_text head =
    ap (λ (x : List ℕ). header_line x h p s) ew ∙ ap (λ (x : List ℕ). header_line (decimal head.width) x p s) eh
    ∙ ap (λ (x : List ℕ). header_line (decimal head.width) (decimal head.height) x s) ep
    ∙ ap (λ (x : List ℕ). header_line (decimal head.width) (decimal head.height) (decimal head.rate.0) x) es in
    subst (Writes old new r) same told
