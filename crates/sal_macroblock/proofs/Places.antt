-- Lists by their places.
use Rattle.std.proofs.Common.{◌≡◌, ℕ, suc, zero, ◌+◌, ◌-◌, ◌<◌, ◌≤◌, ◌∙◌, List, [], ◌∷◌, ◌++◌, length, get_or, refl, sym, ap, arith}
use Rattle.sal_base.specs.Samples.{listed_from, listed}

listed_from_is : {A : Type 0} (k n : ℕ) (xs : List A) (d : A) (f : ℕ → A) → length xs ≡ n → ((j : ℕ) → j < n → get_or xs j d ≡ f (k + j)) → xs ≡ listed_from k n f
unfolding listed_from
listed_from_is k zero [] d f e h = refl
listed_from_is k (suc n) [] d f e h = absurd (omega arith)
listed_from_is k zero (x ∷ xs) d f e h = absurd (omega arith)
listed_from_is {A} k (suc n) (x ∷ xs) d f e h =
    let here : k + 0 ≡ k = omega arith in
    let head : x ≡ f k = h 0 (omega arith) ∙ ap f here in
    let next : (j : ℕ) → j < n → get_or xs j d ≡ f ((k + 1) + j) = λ j lt. (let same : k + suc j ≡ (k + 1) + j = omega arith in h (suc j) (omega arith) ∙ ap f same) in
    ap (λ (y : A). y ∷ xs) head ∙ ap (λ (ys : List A). f k ∷ ys) (listed_from_is (k + 1) n xs d f (omega arith) next)

-- a list is what stands at its places
pub listed_is : {A : Type 0} (n : ℕ) (xs : List A) (d : A) (f : ℕ → A) → length xs ≡ n → ((j : ℕ) → j < n → get_or xs j d ≡ f j) → xs ≡ listed n f
listed_is n xs d f e h = listed_from_is 0 n xs d f e (λ j lt. (let same : 0 + j ≡ j = omega arith in h j lt ∙ ap f (sym same)))
