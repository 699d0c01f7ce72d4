-- A value that was written among others in a partition.
use Rattle.std.proofs.Common.{◌≡◌, ℕ, ◌<◌, ◌∙◌, List, [], ◌∷◌, ◌++◌, sym, arith, subst}
use Rattle.sal_bool.specs.Bits.{Interval, start}
use Rattle.sal_bool.specs.Syntax.{Syntax, Follows, byte, read}
use Rattle.sal_bool.specs.Written.{steps, written, AreFit}
use Rattle.sal_bool.specs.Pairs.{Pairs}
use Rattle.sal_bool.proofs.Meaning.{steps_append}
use Rattle.sal_bool.proofs.ReadBack.{read_among}
use Rattle.sal_tokens.specs.Written.{Branch, Placed, Fixed, pairs_of}

byte_small : (p : ℕ) → byte p < 256
byte_small p = omega arith

-- what coefficients are written as has bytes for probabilities
pub branches_fit : (ps : List ℕ) (bs : List Branch) → AreFit (pairs_of ps bs)
branches_fit ps [] = tt
branches_fit ps (Placed at bit ∷ bs) = (byte_small _, branches_fit ps bs)
branches_fit ps (Fixed p bit ∷ bs) = (byte_small p, branches_fit ps bs)

-- a value is read where its pairs stand among others, up to where they end
pub read_between : {X : Type 0} (s : Syntax X) (x : X) (before own more : Pairs) → Follows s own x → AreFit before → AreFit more
    → read (written (steps start (before ++ (own ++ more)))) (steps start before) s ≡ (x, steps start (before ++ own))
read_between {X} s x before own more h a b =
    let whole : steps start (before ++ (own ++ more)) ≡ steps (steps (steps start before) own) more = steps_append before (own ++ more) start ∙ steps_append own more (steps start before) in
    let front : steps start (before ++ own) ≡ steps (steps start before) own = steps_append before own start in
    let P : Interval → Type 0 = λ i. read (written i) (steps start before) s ≡ (x, steps start (before ++ own)) in
    let Q : Interval → Type 0 = λ i. read (written (steps (steps (steps start before) own) more)) (steps start before) s ≡ (x, i) in
    subst P (sym whole) (subst Q (sym front) (read_among s own x before more h a b))
