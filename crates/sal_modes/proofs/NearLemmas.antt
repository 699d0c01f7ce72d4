-- What one neighbour does to the slots.
use Rattle.std.proofs.Common.{ℕ, suc, zero, ◌+◌, ◌*◌, ◌≤◌, List, [], ◌∷◌, Bool, true, false, All, get_or, arith, if◌then◌else◌, zero-le}
use Rattle.std.proofs.lemmas.List.Elements.{All-set}
use Rattle.sal_macroblock.specs.declared.mode.MbMode.{MbMode}
use Rattle.sal_modes.specs.declared.around.Bias.{Bias}
use Rattle.sal_modes.specs.declared.near.Slots.{Slots}
use Rattle.sal_modes.specs.Near.{Motion, count, counted, next_filled, put_motion, noted}

-- at most n slots are filled, and each count is at most 2 * n
pub record IsSmall (n : ℕ) (s : Slots) : Type 0 where
  pub filled : s.filled ≤ n
  pub counts : All (λ c. c ≤ 2 * n) s.counts

get_small : (xs : List ℕ) (k n : ℕ) → All (λ c. c ≤ n) xs → get_or xs k 0 ≤ n
get_small [] k n h = zero-le
get_small (x ∷ xs) zero n h = h 0 0 (omega arith)
get_small (x ∷ xs) (suc k) n h = get_small xs k n (λ j d lt. h (suc j) d (omega arith))

either_small : (n : ℕ) (b : Bool) (x y : Slots) → IsSmall n x → IsSmall n y → IsSmall n (if b then x else y)
either_small n true x y p q = p
either_small n false x y p q = q

wider : (n : ℕ) (xs : List ℕ) → All (λ c. c ≤ 2 * n) xs → All (λ c. c ≤ 2 * (n + 1)) xs
wider n xs h = λ k d lt. let e = h k d lt in omega (arith, e)

counted_small : (n k w : ℕ) (s : Slots) → w ≤ 2 → s.filled ≤ n + 1 → All (λ c. c ≤ 2 * n) s.counts → IsSmall (n + 1) (counted k w s)
counted_small n k w s le filled h =
    let e = get_small s.counts k (2 * n) h in
    record { filled = filled; counts = All-set (λ c. c ≤ 2 * (n + 1)) s.counts k (count s k + w) (omega (arith, e)) (wider n s.counts h) }

put_small : (v : Motion) (w n : ℕ) (s : Slots) → w ≤ 2 → IsSmall n s → IsSmall (n + 1) (put_motion v w s)
unfolding put_motion
put_small v w n s le h =
    let f = h.filled in
    either_small (n + 1) _ _ _ (counted_small n s.filled w s le (omega (arith, f)) h.counts) (counted_small n (s.filled + 1) w (next_filled v s) le (omega (arith, f)) h.counts)

pub noted_small : (b : Bias) (m : MbMode) (w n : ℕ) (s : Slots) → w ≤ 2 → IsSmall n s → IsSmall (n + 1) (noted b m w s)
unfolding noted
noted_small b m w n s le h =
    let f = h.filled in
    let same : IsSmall (n + 1) s = record { filled = omega (arith, f); counts = wider n s.counts h.counts } in
    either_small (n + 1) _ _ _ same
    (either_small (n + 1) _ _ _ (counted_small n 0 w s le (omega (arith, f)) h.counts) (put_small _ w n s le h))

-- in the form that a call asks for
pub counts_in : (n : ℕ) (s : Slots) → n ≤ 3 → IsSmall n s → All (λ c. c ≤ 200) s.counts
counts_in n s le h = λ k d lt. let e = h.counts k d lt in omega (arith, e)
