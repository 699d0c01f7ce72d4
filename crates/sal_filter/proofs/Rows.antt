-- Rows written into samples: the places of an edge, filtered side by side.
use Rattle.std.proofs.Common.{◌≡◌, ◌∙◌, ◌≢◌, ap, refl, sym, arith, ℕ, zero, suc, ◌+◌, ◌*◌, ◌-◌, ◌<◌, ◌≤◌, List, length, get_or, add-one, zero-add, ℤ, pos, ◌-ℤ◌, slice_index, slice_set, subst, inl, inr}
use Rattle.std.proofs.lemmas.Bool.{cases_lt}
use Rattle.sal_filter.proofs.Signed.{equal}
use Rattle.std.proofs.lemmas.List.{length-set, set_comm, get_or-set_same, get_or-set_other}
use Rattle.sal_filter.specs.declared.across.Across.{Across}
use Rattle.sal_filter.specs.declared.edge.Edge.{Edge}
use Rattle.sal_filter.specs.Filtered.{less_128, plus_128, across, across_put, place_put, edge_filtered}
use Rattle.sal_filter.specs.Lanes.{edge_place, row_put, rows_put, lane}

-- one row
pub row_none : (from along : ℕ) (f : ℕ → ℕ) (xs : List ℕ) → xs ≡ row_put from along f 0 xs
unfolding row_put
row_none from along f xs = refl

pub row_more : (from along : ℕ) (f : ℕ → ℕ) (n : ℕ) (start xs ys : List ℕ) → xs ≡ row_put from along f n start → ys ≡ slice_set xs (from + n * along) (f n) → ys ≡ row_put from along f (n + 1) start
unfolding row_put
row_more from along f n start xs ys h p = rw add-one (p ∙ ap (λ (zs : List ℕ). slice_set zs (from + n * along) (f n)) h)

row_same : (from along : ℕ) (f g : ℕ → ℕ) (n : ℕ) (xs : List ℕ) → ((i : ℕ) → i < n → f i ≡ g i) → row_put from along f n xs ≡ row_put from along g n xs
unfolding row_put
row_same from along f g zero xs h = refl
row_same from along f g (suc n) xs h =
    ap (λ (v : ℕ). slice_set (row_put from along f n xs) (from + n * along) v) (h n (omega arith))
    ∙ ap (λ (zs : List ℕ). slice_set zs (from + n * along) (g n)) (row_same from along f g n xs (λ i l. h i (omega arith)))

length_row : (from along : ℕ) (f : ℕ → ℕ) (n : ℕ) (xs : List ℕ) → length (row_put from along f n xs) ≡ length xs
unfolding row_put
length_row from along f zero xs = refl
length_row from along f (suc n) xs = length-set (row_put from along f n xs) (from + n * along) (f n) ∙ length_row from along f n xs

-- a sample elsewhere is set before or after
row_set : (from along : ℕ) (f : ℕ → ℕ) (n : ℕ) (xs : List ℕ) (j v : ℕ) → ((i : ℕ) → i < n → from + i * along ≢ j) → row_put from along f n (slice_set xs j v) ≡ slice_set (row_put from along f n xs) j v
unfolding row_put
row_set from along f zero xs j v h = refl
row_set from along f (suc n) xs j v h =
    ap (λ (zs : List ℕ). slice_set zs (from + n * along) (f n)) (row_set from along f n xs j v (λ i l. h i (omega arith)))
    ∙ set_comm (row_put from along f n xs) j (from + n * along) v (f n) (λ e. h n (omega arith) (sym e))

row_elsewhere : (from along : ℕ) (f : ℕ → ℕ) (n : ℕ) (xs : List ℕ) (j : ℕ) → ((i : ℕ) → i < n → from + i * along ≢ j) → get_or (row_put from along f n xs) j 0 ≡ get_or xs j 0
unfolding row_put
row_elsewhere from along f zero xs j h = refl
row_elsewhere from along f (suc n) xs j h =
    get_or-set_other (row_put from along f n xs) (from + n * along) j (f n) 0 (λ e. h n (omega arith) (sym e)) ∙ row_elsewhere from along f n xs j (λ i l. h i (omega arith))

-- several rows
rows_none : (from step along : ℕ) (f : ℕ → ℕ → ℕ) (n : ℕ) (xs : List ℕ) → xs ≡ rows_put from step along f n 0 xs
unfolding rows_put
rows_none from step along f n xs = refl

pub rows_start : (from step along : ℕ) (f : ℕ → ℕ → ℕ) (n : ℕ) (xs : List ℕ) → xs ≡ rows_put from step along f n 0 xs
rows_start from step along f n xs = rows_none from step along f n xs

pub rows_next : (from step along : ℕ) (f : ℕ → ℕ → ℕ) (n k : ℕ) (start xs ys : List ℕ) → xs ≡ rows_put from step along f n k start → ys ≡ row_put (from + (k + 1) * step) along (f (k + 1)) n xs
    → ys ≡ rows_put from step along f n (k + 1) start
unfolding rows_put
rows_next from step along f n k start xs ys h p = rw add-one (p ∙ (ap (row_put (from + (k + 1) * step) along (f (k + 1)) n) h ∙ ap (λ (r : ℕ). row_put (from + r * step) along (f r) n (rows_put from step along f n k start)) (add-one k)))

pub length_rows : (from step along : ℕ) (f : ℕ → ℕ → ℕ) (n k : ℕ) (xs : List ℕ) → length (rows_put from step along f n k xs) ≡ length xs
unfolding rows_put
length_rows from step along f n zero xs = refl
length_rows from step along f n (suc k) xs = length_row (from + suc k * step) along (f (suc k)) n (rows_put from step along f n k xs) ∙ length_rows from step along f n k xs

rows_same : (from step along : ℕ) (f g : ℕ → ℕ → ℕ) (n k : ℕ) (xs : List ℕ) → ((r i : ℕ) → 1 ≤ r → r ≤ k → i < n → f r i ≡ g r i) → rows_put from step along f n k xs ≡ rows_put from step along g n k xs
unfolding rows_put
rows_same from step along f g n zero xs h = refl
rows_same from step along f g n (suc k) xs h =
    row_same (from + suc k * step) along (f (suc k)) (g (suc k)) n (rows_put from step along f n k xs) (λ i l. h (suc k) i (omega arith) (omega arith) l)
    ∙ ap (row_put (from + suc k * step) along (g (suc k)) n) (rows_same from step along f g n k xs (λ r i a b l. h r i a (omega arith) l))

rows_of_none : (from step along : ℕ) (f : ℕ → ℕ → ℕ) (k : ℕ) (xs : List ℕ) → rows_put from step along f 0 k xs ≡ xs
unfolding rows_put row_put
rows_of_none from step along f zero xs = refl
rows_of_none from step along f (suc k) xs = rows_of_none from step along f k xs

-- no two places share a sample
abbrev pub Apart : ℕ → ℕ → ℕ → Type 0
Apart step along count = (d m : ℕ) → d ≤ 7 → 1 ≤ m → m < count → d * step ≡ m * along → ⊥

further : (from r d step i m along : ℕ) → (d * step ≡ m * along → ⊥) → from + (r + d) * step + i * along ≢ from + r * step + (i + m) * along
further from r d step i m along h e = h (omega (arith, e))

nearer : (from q d step i m along : ℕ) → (0 * step ≡ m * along → ⊥) → from + q * step + i * along ≢ from + (q + d) * step + (i + m) * along
nearer from q d step i m along h e = h (omega (arith, e))

-- place n of row q isn't place i of row r where i is before n
apart_at : (from step along count r q i n : ℕ) → Apart step along count → r ≤ 7 → q ≤ 7 → i < n → n < count → from + r * step + i * along ≢ from + q * step + n * along
apart_at from step along count r q i n h a b l c =
    let en : i + (n - i) ≡ n = omega arith in
    elim (cases_lt r q) [
      | inr le ↦
          let er : q + (r - q) ≡ r = omega arith in
          let one : from + (q + (r - q)) * step + i * along ≢ from + q * step + (i + (n - i)) * along = further from q (r - q) step i (n - i) along (h (r - q) (n - i) (omega arith) (omega arith) (omega arith)) in
          let two : from + r * step + i * along ≢ from + q * step + (i + (n - i)) * along = subst (λ (x : ℕ). from + x * step + i * along ≢ from + q * step + (i + (n - i)) * along) er one in
          subst (λ (x : ℕ). from + r * step + i * along ≢ from + q * step + x * along) en two
      | inl le ↦
          let eq : r + (q - r) ≡ q = omega arith in
          let one : from + r * step + i * along ≢ from + (r + (q - r)) * step + (i + (n - i)) * along = nearer from r (q - r) step i (n - i) along (h 0 (n - i) (omega arith) (omega arith) (omega arith)) in
          let two : from + r * step + i * along ≢ from + q * step + (i + (n - i)) * along = subst (λ (x : ℕ). from + r * step + i * along ≢ from + x * step + (i + (n - i)) * along) eq one in
          subst (λ (x : ℕ). from + r * step + i * along ≢ from + q * step + x * along) en two
    ]

-- place n of rows 1 to k
sets_put : ℕ → ℕ → ℕ → (ℕ → ℕ → ℕ) → ℕ → ℕ → List ℕ → List ℕ
sets_put from step along f n zero xs = xs
sets_put from step along f n (suc k) xs = slice_set (sets_put from step along f n k xs) (from + suc k * step + n * along) (f (suc k) n)

row_sets : (from step along a n : ℕ) (g : ℕ → ℕ) (f : ℕ → ℕ → ℕ) (k : ℕ) (xs : List ℕ) → ((r i : ℕ) → r ≤ k → i < n → a + i * along ≢ from + r * step + n * along)
    → row_put a along g n (sets_put from step along f n k xs) ≡ sets_put from step along f n k (row_put a along g n xs)
unfolding sets_put
row_sets from step along a n g f zero xs h = refl
row_sets from step along a n g f (suc k) xs h =
    row_set a along g n (sets_put from step along f n k xs) (from + suc k * step + n * along) (f (suc k) n) (λ i l. h (suc k) i (omega arith) l)
    ∙ ap (λ (zs : List ℕ). slice_set zs (from + suc k * step + n * along) (f (suc k) n)) (row_sets from step along a n g f k xs (λ r i b l. h r i (omega arith) l))

-- one place more in each row
rows_place : (from step along count n : ℕ) (f : ℕ → ℕ → ℕ) (k : ℕ) (xs : List ℕ) → Apart step along count → n < count → k ≤ 6
    → rows_put from step along f (suc n) k xs ≡ sets_put from step along f n k (rows_put from step along f n k xs)
unfolding rows_put sets_put row_put
rows_place from step along count n f zero xs h l b = refl
rows_place from step along count n f (suc k) xs h l b =
    let a = from + suc k * step in
    let before : rows_put from step along f (suc n) k xs ≡ sets_put from step along f n k (rows_put from step along f n k xs) = rows_place from step along count n f k xs h l (omega arith) in
    let across_them = row_sets from step along a n (f (suc k)) f k (rows_put from step along f n k xs) (λ r i c m. apart_at from step along count (suc k) r i n h (omega arith) (omega arith) m l) in
    ap (λ (zs : List ℕ). slice_set (row_put a along (f (suc k)) n zs) (a + n * along) (f (suc k) n)) before
    ∙ ap (λ (zs : List ℕ). slice_set zs (a + n * along) (f (suc k) n)) across_them

rows_elsewhere : (from step along : ℕ) (f : ℕ → ℕ → ℕ) (n k : ℕ) (xs : List ℕ) (j : ℕ) → ((r i : ℕ) → r ≤ k → i < n → from + r * step + i * along ≢ j)
    → get_or (rows_put from step along f n k xs) j 0 ≡ get_or xs j 0
unfolding rows_put
rows_elsewhere from step along f n zero xs j h = refl
rows_elsewhere from step along f n (suc k) xs j h =
    row_elsewhere (from + suc k * step) along (f (suc k)) n (rows_put from step along f n k xs) j (λ i l. h (suc k) i (omega arith) l)
    ∙ rows_elsewhere from step along f n k xs j (λ r i b l. h r i (omega arith) l)

-- a sample of row q, by its place
at_row : (xs : List ℕ) (from step along n q : ℕ) → ℕ
at_row xs from step along n q = get_or xs (from + q * step + n * along) 0

-- the samples around a place, by their rows
across_by_rows : (xs ys : List ℕ) (from step along n from' step' along' n' : ℕ) → ((q : ℕ) → q ≤ 7 → at_row xs from step along n q ≡ at_row ys from' step' along' n' q)
    → across xs (from + 4 * step + n * along) step ≡ across ys (from' + 4 * step' + n' * along') step'
unfolding at_row
across_by_rows xs ys from step along n from' step' along' n' h =
    let P : (q i j : ℕ) → q ≤ 7 → i ≡ from + q * step + n * along → j ≡ from' + q * step' + n' * along' → less_128 xs i ≡ less_128 ys j = λ q i j b ei ej. ap (λ (k : ℕ). less_128 xs k) ei ∙ (ap (λ (v : ℕ). pos v -ℤ pos 128) (h q b) ∙ ap (λ (k : ℕ). less_128 ys k) (sym ej)) in
    equal _ _ _ _ _ _ _ _ _ _ _ _ _ _ _ _
    (P 0 (from + 4 * step + n * along - 4 * step) (from' + 4 * step' + n' * along' - 4 * step') (omega arith) (omega arith) (omega arith))
    (P 1 (from + 4 * step + n * along - 3 * step) (from' + 4 * step' + n' * along' - 3 * step') (omega arith) (omega arith) (omega arith))
    (P 2 (from + 4 * step + n * along - 2 * step) (from' + 4 * step' + n' * along' - 2 * step') (omega arith) (omega arith) (omega arith))
    (P 3 (from + 4 * step + n * along - step) (from' + 4 * step' + n' * along' - step') (omega arith) (omega arith) (omega arith))
    (P 4 (from + 4 * step + n * along) (from' + 4 * step' + n' * along') (omega arith) (omega arith) (omega arith))
    (P 5 (from + 4 * step + n * along + step) (from' + 4 * step' + n' * along' + step') (omega arith) (omega arith) (omega arith))
    (P 6 (from + 4 * step + n * along + 2 * step) (from' + 4 * step' + n' * along' + 2 * step') (omega arith) (omega arith) (omega arith))
    (P 7 (from + 4 * step + n * along + 3 * step) (from' + 4 * step' + n' * along' + 3 * step') (omega arith) (omega arith) (omega arith))

same_rows : (from step along count n : ℕ) (f : ℕ → ℕ → ℕ) (xs : List ℕ) → Apart step along count → n < count
    → (q : ℕ) → q ≤ 7 → at_row (rows_put from step along f n 6 xs) from step along n q ≡ at_row xs from step along n q
unfolding at_row
same_rows from step along count n f xs h l q b = rows_elsewhere from step along f n 6 xs (from + q * step + n * along) (λ r i c m. apart_at from step along count r q i n h (omega arith) b m l)

-- sample k around an edge
part_of : ℕ → Across → ℤ
part_of zero a = a.p3
part_of (suc zero) a = a.p2
part_of (suc (suc zero)) a = a.p1
part_of (suc (suc (suc zero))) a = a.p0
part_of (suc (suc (suc (suc zero)))) a = a.q0
part_of (suc (suc (suc (suc (suc zero))))) a = a.q1
part_of (suc (suc (suc (suc (suc (suc zero)))))) a = a.q2
part_of (suc (suc (suc (suc (suc (suc (suc k))))))) a = a.q3

-- what sample k of place i becomes
placed : Edge → ℕ → ℕ → ℕ → List ℕ → ℕ → ℕ → ℕ
placed e from step along xs k i = plus_128 (part_of k (edge_place e (across xs (from + 4 * step + i * along) step)))

six_put : (from step along n : ℕ) (f : ℕ → ℕ → ℕ) (a : Across) (xs : List ℕ) → ((k : ℕ) → f k n ≡ plus_128 (part_of k a))
    → across_put (from + 4 * step + n * along) step a xs ≡ sets_put from step along f n 6 xs
unfolding sets_put part_of
six_put from step along n f a xs h =
    let at = from + 4 * step + n * along in
    let e1 : at - 3 * step ≡ from + 1 * step + n * along = omega arith in
    let e2 : at - 2 * step ≡ from + 2 * step + n * along = omega arith in
    let e3 : at - step ≡ from + 3 * step + n * along = omega arith in
    let e5 : at + step ≡ from + 5 * step + n * along = omega arith in
    let e6 : at + 2 * step ≡ from + 6 * step + n * along = omega arith in
    let v1 = sym (h 1) in
    let v2 = sym (h 2) in
    let v3 = sym (h 3) in
    let v4 = sym (h 4) in
    let v5 = sym (h 5) in
    let v6 = sym (h 6) in
    rw (e1, e2, e3, e5, e6, v1, v2, v3, v4, v5, v6) refl

-- all places of an edge, side by side
edge_rows : (e : Edge) (from step along count n : ℕ) (xs : List ℕ) → Apart step along count → n ≤ count
    → edge_filtered e (from + 4 * step) step along n xs ≡ rows_put from step along (placed e from step along xs) n 6 xs
unfolding edge_filtered place_put placed
edge_rows e from step along count zero xs h b = sym (rows_of_none from step along (placed e from step along xs) 6 xs)
edge_rows e from step along count (suc n) xs h b =
    let f = placed e from step along xs in
    let now = rows_put from step along f n 6 xs in
    let at = from + 4 * step + n * along in
    let read : across now at step ≡ across xs at step = across_by_rows now xs from step along n from step along n (same_rows from step along count n f xs h (omega arith)) in
    ap (place_put e at step) (edge_rows e from step along count n xs h (omega arith))
    ∙ (ap (λ (x : Across). across_put at step (edge_place e x) now) read
    ∙ (six_put from step along n f (edge_place e (across xs at step)) now (λ k. refl)
    ∙ sym (rows_place from step along count n f 6 xs h (omega arith) (omega arith))))

-- the lanes of a row, and of all rows
row_at : (from : ℕ) (g : ℕ → ℕ) (n i : ℕ) (xs : List ℕ) → i < n → from + n ≤ length xs → get_or (row_put from 1 g n xs) (from + i) 0 ≡ g i
unfolding row_put
row_at from g zero i xs l b = absurd (omega arith)
row_at from g (suc n) i xs l b =
    let now = row_put from 1 g n xs in
    let long : length now ≡ length xs = length_row from 1 g n xs in
    elim (cases_lt i n) [
      | inl less ↦ get_or-set_other now (from + n * 1) (from + i) (g n) 0 (λ e. omega (arith, e)) ∙ row_at from g n i xs less (omega arith)
      | inr most ↦
          let here : i ≡ n = omega arith in
          let place : from + i ≡ from + n * 1 = omega arith in
          ap (λ (j : ℕ). get_or (slice_set now (from + n * 1) (g n)) j 0) place ∙ (get_or-set_same now (from + n * 1) (g n) 0 (omega arith) ∙ ap g (sym here))
    ]

rows_at : (f : ℕ → ℕ → ℕ) (most : ℕ) (xs : List ℕ) (k i : ℕ) → 1 ≤ k → k ≤ most → most ≤ 6 → i < 8 → length xs ≡ 64 → get_or (rows_put 0 8 1 f 8 most xs) (8 * k + i) 0 ≡ f k i
unfolding rows_put
rows_at f zero xs k i a b c d long = absurd (omega arith)
rows_at f (suc most) xs k i a b c d long =
    let now = rows_put 0 8 1 f 8 most xs in
    let same : length now ≡ length xs = length_rows 0 8 1 f 8 most xs in
    elim (cases_lt most k) [
      | inr less ↦ row_elsewhere (0 + suc most * 8) 1 (f (suc most)) 8 now (8 * k + i) (λ j l e. omega (arith, e)) ∙ rows_at f most xs k i a less (omega arith) d long
      | inl last ↦
          let here : k ≡ suc most = omega arith in
          let place : 8 * k + i ≡ 0 + suc most * 8 + i = omega arith in
          ap (λ (j : ℕ). get_or (row_put (0 + suc most * 8) 1 (f (suc most)) 8 now) j 0) place ∙ (row_at (0 + suc most * 8) (f (suc most)) 8 i now d (omega arith) ∙ ap (λ (r : ℕ). f r i) (sym here))
    ]

lanes_apart : Apart 8 1 8
lanes_apart d m a b c e = omega (arith, e)

lane_rows : (lanes : List ℕ) (i q : ℕ) → at_row lanes 0 8 1 i q ≡ lane lanes q i
unfolding at_row
lane_rows lanes i q = let e : 0 + q * 8 + i * 1 ≡ 8 * q + i = omega arith in ap (λ (j : ℕ). get_or lanes j 0) e

-- a lane becomes what its place becomes
lane_is : (e : Edge) (from step along count : ℕ) (xs lanes after : List ℕ) → length lanes ≡ 64 → after ≡ edge_filtered e 32 8 1 8 lanes
    → ((k i : ℕ) → k < 8 → i < count → lane lanes k i ≡ slice_index xs (from + k * step + i * along))
    → (k i : ℕ) → 1 ≤ k → k ≤ 6 → i < count → i < 8 → lane after k i ≡ placed e from step along xs k i
unfolding placed at_row
lane_is e from step along count xs lanes after long is gathered k i a b c d =
    let rows : after ≡ rows_put 0 8 1 (placed e 0 8 1 lanes) 8 6 lanes = is ∙ edge_rows e 0 8 1 8 8 lanes lanes_apart (omega arith) in
    let read : across lanes (0 + 4 * 8 + i * 1) 8 ≡ across xs (from + 4 * step + i * along) step =
    across_by_rows lanes xs 0 8 1 i from step along i (λ q l. lane_rows lanes i q ∙ gathered q i (omega arith) c) in
    ap (λ (zs : List ℕ). lane zs k i) rows ∙ (rows_at (placed e 0 8 1 lanes) 6 lanes k i a b (omega arith) d long ∙ ap (λ (x : Across). plus_128 (part_of k (edge_place e x))) read)

pub all_lanes : (e : Edge) (at step along count : ℕ) (xs lanes after ys : List ℕ) → 4 * step ≤ at → count ≤ 8 → Apart step along count → length lanes ≡ 64
    → ((k i : ℕ) → k < 8 → i < count → lane lanes k i ≡ slice_index xs (at - 4 * step + k * step + i * along))
    → after ≡ edge_filtered e 32 8 1 8 lanes → ys ≡ rows_put (at - 4 * step) step along (lane after) count 6 xs → ys ≡ edge_filtered e at step along count xs
all_lanes e at step along count xs lanes after ys before few apart long gathered is put =
    let from = at - 4 * step in
    let whole : from + 4 * step ≡ at = omega arith in
    put ∙ (rows_same from step along (lane after) (placed e from step along xs) count 6 xs (λ r i a b c. lane_is e from step along count xs lanes after long is gathered r i a b c (omega arith))
    ∙ (sym (edge_rows e from step along count count xs apart (omega arith)) ∙ ap (λ (k : ℕ). edge_filtered e k step along count xs) whole))

-- eight places more
pub eight_none : (e : Edge) (at step along : ℕ) (xs : List ℕ) → xs ≡ edge_filtered e at step along (8 * 0) xs
unfolding edge_filtered
eight_none e at step along xs = refl

two_parts : (e : Edge) (at step along n m : ℕ) (xs : List ℕ) → edge_filtered e (at + n * along) step along m (edge_filtered e at step along n xs) ≡ edge_filtered e at step along (m + n) xs
unfolding edge_filtered
two_parts e at step along n zero xs = ap (λ (k : ℕ). edge_filtered e at step along k xs) (sym (zero-add n))
two_parts e at step along n (suc m) xs =
    let place : at + n * along + m * along ≡ at + (m + n) * along = omega arith in
    let more : suc (m + n) ≡ suc m + n = omega arith in
    ap (place_put e (at + n * along + m * along) step) (two_parts e at step along n m xs)
    ∙ (ap (λ (k : ℕ). place_put e k step (edge_filtered e at step along (m + n) xs)) place ∙ ap (λ (k : ℕ). edge_filtered e at step along k xs) more)

pub eight_more : (e : Edge) (at step along k : ℕ) (start xs ys : List ℕ) → xs ≡ edge_filtered e at step along (8 * k) start → ys ≡ edge_filtered e (at + 8 * k * along) step along 8 xs
    → ys ≡ edge_filtered e at step along (8 * (k + 1)) start
eight_more e at step along k start xs ys h p =
    let more : 8 + 8 * k ≡ 8 * (k + 1) = omega arith in
    p ∙ (ap (edge_filtered e (at + 8 * k * along) step along 8) h ∙ (two_parts e at step along (8 * k) 8 start ∙ ap (λ (n : ℕ). edge_filtered e at step along n start) more))

pub after_part : (at step along eights k n long : ℕ) → ((m : ℕ) → m < 8 * eights → at + m * along + 3 * step < long) → k < eights → n < 8 → at + 8 * k * along + n * along + 3 * step < long
after_part at step along eights k n long h a b = let one = h (8 * k + n) (omega arith) in omega (arith, one)
