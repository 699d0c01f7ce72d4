-- Sums of absolute differences, part by part.
use Rattle.std.proofs.Common.{◌≡◌, ◌∙◌, ℕ, suc, zero, ◌+◌, ◌*◌, ◌<◌, ◌≤◌, List, [], ◌∷◌, length, take, drop, get_or, sym, ap, arith}
use Rattle.std.specs.Int.{abs_diff}
use Rattle.sal_search.specs.Costs.{sad}

-- one place more
pub sad_more : (xs ys : List ℕ) (k : ℕ) → k < length xs → k < length ys → sad (take (k + 1) xs) (take (k + 1) ys) ≡ sad (take k xs) (take k ys) + abs_diff (get_or xs k 0) (get_or ys k 0)
unfolding sad
sad_more [] ys k lt lt' = absurd (omega arith)
sad_more (x ∷ xs) [] k lt lt' = absurd (omega arith)
sad_more (x ∷ xs) (y ∷ ys) zero lt lt' = omega arith
sad_more (x ∷ xs) (y ∷ ys) (suc k) lt lt' =
    let next : suc k + 1 ≡ suc (k + 1) = omega arith in
    let rest = sad_more xs ys k (omega arith) (omega arith) in
    rw next (omega (arith, rest))

-- n places more
pub sad_append : (xs ys : List ℕ) (k n : ℕ) → k ≤ length xs → k ≤ length ys → sad (take (k + n) xs) (take (k + n) ys) ≡ sad (take k xs) (take k ys) + sad (take n (drop k xs)) (take n (drop k ys))
unfolding sad
sad_append xs ys zero n lt lt' = let here : 0 + n ≡ n = omega arith in rw here (omega arith)
sad_append [] ys (suc k) n lt lt' = absurd (omega arith)
sad_append (x ∷ xs) [] (suc k) n lt lt' = absurd (omega arith)
sad_append (x ∷ xs) (y ∷ ys) (suc k) n lt lt' =
    let next : suc k + n ≡ suc (k + n) = omega arith in
    let rest = sad_append xs ys k n (omega arith) (omega arith) in
    rw next (omega (arith, rest))

-- a front costs at most as much
pub sad_front : (xs ys : List ℕ) (k : ℕ) → sad (take k xs) (take k ys) ≤ sad xs ys
unfolding sad
sad_front xs ys zero = omega arith
sad_front [] ys (suc k) = omega arith
sad_front (x ∷ xs) [] (suc k) = omega arith
sad_front (x ∷ xs) (y ∷ ys) (suc k) = let rest = sad_front xs ys k in omega (arith, rest)

-- a part of a square more
pub sad_part : (xs ys us vs : List ℕ) (part many n total more : ℕ) → part * many + many ≤ length xs → part * many + many ≤ length ys → n ≡ many
    → us ≡ take n (drop (many * part) xs) → vs ≡ take n (drop (many * part) ys) → total ≡ sad (take (many * part) xs) (take (many * part) ys) → more ≡ sad us vs
    → total + more ≡ sad (take (many * (part + 1)) xs) (take (many * (part + 1)) ys)
sad_part xs ys us vs part many n total more le le' same hu hv h e =
    let next : many * (part + 1) ≡ many * part + many = omega arith in
    let a : many * part ≤ length xs = omega arith in
    let b : many * part ≤ length ys = omega arith in
    let whole = sad_append xs ys (many * part) many a b in
    let f : more ≡ sad (take many (drop (many * part) xs)) (take many (drop (many * part) ys)) = e ∙ (ap (λ (zs : List ℕ). sad zs vs) hu ∙ (ap (λ (zs : List ℕ). sad (take n (drop (many * part) xs)) zs) hv ∙ ap (λ (i : ℕ). sad (take i (drop (many * part) xs)) (take i (drop (many * part) ys))) same)) in
    ap (λ (i : ℕ). i + more) h ∙ (ap (λ (i : ℕ). sad (take (many * part) xs) (take (many * part) ys) + i) f ∙ (sym whole ∙ ap (λ (i : ℕ). sad (take i xs) (take i ys)) (sym next)))

pub sad_step : (xs ys : List ℕ) (k total d : ℕ) → k < length xs → k < length ys → total ≡ sad (take k xs) (take k ys) → d ≡ abs_diff (get_or xs k 0) (get_or ys k 0) → total + d ≡ sad (take (k + 1) xs) (take (k + 1) ys)
sad_step xs ys k total d lt lt' h e = ap (λ (i : ℕ). i + d) h ∙ (ap (λ (i : ℕ). sad (take k xs) (take k ys) + i) e ∙ sym (sad_more xs ys k lt lt'))

-- a front that is the sum so far is no more than the whole
pub sad_so_far : (xs ys : List ℕ) (k total : ℕ) → total ≡ sad (take k xs) (take k ys) → total ≤ sad xs ys
sad_so_far xs ys k total h = let front = sad_front xs ys k in omega (arith, h, front)
