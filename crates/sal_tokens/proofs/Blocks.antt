-- The coefficients of a block, step by step, by a decoder's numbers.
use Rattle.std.proofs.Common.{◌≡◌, ℕ, suc, zero, ◌+◌, ◌-◌, ◌≤◌, ◌<◌, ◌∙◌, ℤ, pos, List, [], ◌∷◌, ◌++◌, Bool, true, false, not, if◌then◌else◌, nat_lt, ◌==◌, min, length, replicate, set, refl, sym, ap, arith, subst, slice_index, slice_index_or, append_assoc, length-append, add-zero, lit≤}
use Rattle.std.proofs.lemmas.Bool.{lt-ltb, le-ltb, ne_eqb}
use Rattle.std.proofs.lemmas.List.{length-replicate}
use Rattle.sal_bool.specs.Reading.{Reading}
use Rattle.sal_bool.specs.Syntax.{Done, run, flag, number, signed, when, leaf_from}
use Rattle.sal_bool.proofs.Meaning.{run_on, run_done}
use Rattle.sal_tables.specs.Tables.{category_bases_of, category_bits_of}
use Rattle.sal_tables.specs.Trees.{token_entries}
use Rattle.sal_tables.specs.Shape.{leaves_below}
use Rattle.sal_tables.specs.declared.tree.Entry.{Entry}
use Rattle.sal_tokens.specs.Coefficients.{token_row, token_size, coefficients, block, first_position, filled_block, is_some_coefficient, start_of}

pub size_plain : (t : ℕ) (r : Reading) → t < 6 → run (token_size t) r ≡ (t - 1, r)
unfolding token_size
size_plain t r lt = rw (lt-ltb t 6 lt) (run_done _ _)

pub size_category : (t x : ℕ) (r r' : Reading) → 6 ≤ t → run (number (slice_index_or category_bits_of (t - 6) []) 0) r ≡ (x, r') → run (token_size t) r ≡ (slice_index category_bases_of (t - 6) + x, r')
unfolding token_size
size_category t x r r' le h = rw (le-ltb t 6 le) (run_on (number (slice_index_or category_bits_of (t - 6) []) 0) _ r x r' h ∙ run_done _ _)

pub coefficients_none : (cs : List ℕ) (kind n context : ℕ) (after : Bool) (r : Reading) → n ≡ 0 → run (coefficients cs kind n context after) r ≡ ([], r)
unfolding coefficients
coefficients_none cs kind n context after r e = rw e (run_done _ _)

pub coefficients_end : (cs : List ℕ) (kind n m context : ℕ) (after : Bool) (r r' : Reading) → n ≡ suc m
    → run (leaf_from token_entries (token_row cs kind (15 - m) context) (start_of after)) r ≡ (0, r') → run (coefficients cs kind n context after) r ≡ ([], r')
unfolding coefficients
coefficients_end cs kind n m context after r r' e h = rw e (run_on (leaf_from token_entries (token_row cs kind (15 - m) context) (start_of after)) _ r 0 r' h ∙ run_done _ _)

neq : (t : ℕ) → 0 < t → (t == 0) ≡ false
neq t lt = ne_eqb t 0 (λ e. omega arith)

pub coefficients_more : (cs : List ℕ) (kind n m context : ℕ) (after : Bool) (t size : ℕ) (negative : Bool) (zs : List ℤ) (r r1 r2 r3 r4 : Reading) → n ≡ suc m → 0 < t
    → run (leaf_from token_entries (token_row cs kind (15 - m) context) (start_of after)) r ≡ (t, r1) → run (token_size t) r1 ≡ (size, r2) → run (when (not (size == 0)) flag false) r2 ≡ (negative, r3)
    → run (coefficients cs kind m (min 2 size) (size == 0)) r3 ≡ (zs, r4) → run (coefficients cs kind n context after) r ≡ (signed size negative ∷ zs, r4)
unfolding coefficients
coefficients_more cs kind n m context after t size negative zs r r1 r2 r3 r4 e lt h1 h2 h3 h4 =
    rw e (run_on (leaf_from token_entries (token_row cs kind (15 - m) context) (start_of after)) _ r t r1 h1
    ∙ rw (neq t lt) (run_on (token_size t) _ r1 size r2 h2
    ∙ (run_on (when (not (size == 0)) flag false) _ r2 negative r3 h3
    ∙ (run_on (coefficients cs kind m (min 2 size) (size == 0)) _ r3 zs r4 h4
    ∙ run_done _ _))))

-- so far: these coefficients were read, the block has them, and what comes is read from here
pub record SoFar (cs : List ℕ) (kind context position c : ℕ) (after : Bool) (r0 r : Reading) (xs : List ℤ) : Type 0 where
  pub zs : List ℤ
  pub place : position ≡ first_position kind + length zs
  pub all : xs ≡ filled_block (first_position kind) zs
  pub reads : (more : List ℤ) (r' : Reading) → run (coefficients cs kind (16 - position) c after) r ≡ (more, r') → run (coefficients cs kind (16 - first_position kind) context false) r0 ≡ (zs ++ more, r')

append_nil : (zs : List ℤ) → zs ++ [] ≡ zs
append_nil [] = refl
append_nil (z ∷ zs) = ap (λ ys. z ∷ ys) (append_nil zs)

set_next : (bs : List ℤ) (k : ℕ) (v : ℤ) → 0 < k → set (bs ++ replicate k (pos 0)) (length bs) v ≡ bs ++ (v ∷ replicate (k - 1) (pos 0))
set_next [] zero v lt = absurd (omega arith)
set_next [] (suc k) v lt = let e : suc k - 1 ≡ k = omega arith in rw e refl
set_next (b ∷ bs) k v lt = ap (λ ys. b ∷ ys) (set_next bs k v lt)

regroup : (x y z : List ℤ) (v : ℤ) → (x ++ (y ++ (v ∷ []))) ++ z ≡ (x ++ y) ++ (v ∷ z)
regroup x y z v = simp append_assoc

-- one more coefficient in the block
pub filled_more : (first : ℕ) (zs : List ℤ) (v : ℤ) → first + length zs < 16 → set (filled_block first zs) (first + length zs) v ≡ filled_block first (zs ++ v ∷ [])
filled_more first zs v lt =
    let front : List ℤ = replicate first (pos 0) ++ zs in
    let n : ℕ = first + length zs in
    let long : length front ≡ n = length-append (replicate first (pos 0)) zs ∙ ap (λ k. k + length zs) (length-replicate {A = ℤ} first (pos 0)) in
    let k : ℕ = 16 - n in
    let left : set (front ++ replicate k (pos 0)) n v ≡ front ++ (v ∷ replicate (k - 1) (pos 0)) = ap (λ j. set (front ++ replicate k (pos 0)) j v) (sym long) ∙ set_next front k v (omega arith) in
    let more : 16 - (first + length (zs ++ v ∷ [])) ≡ k - 1 = omega (arith, length-append zs (v ∷ [])) in
    let right : (replicate first (pos 0) ++ (zs ++ v ∷ [])) ++ replicate (16 - (first + length (zs ++ v ∷ []))) (pos 0) ≡ front ++ (v ∷ replicate (k - 1) (pos 0)) =
    ap (λ j. (replicate first (pos 0) ++ (zs ++ v ∷ [])) ++ replicate j (pos 0)) more ∙ regroup (replicate first (pos 0)) zs (replicate (k - 1) (pos 0)) v in
    left ∙ sym right

blank : (b : Bool) → replicate 16 (pos 0) ≡ filled_block (if b then 1 else 0) []
blank true = refl
blank false = refl

pub so_far_start : (cs : List ℕ) (kind context : ℕ) (r : Reading) (xs : List ℤ) → xs ≡ replicate 16 (pos 0) → SoFar cs kind context (first_position kind) context false r r xs
so_far_start cs kind context r xs e = record { zs = []; place = sym (add-zero (first_position kind)); all = e ∙ blank (kind == 0); reads = λ more r' h. h }

pub so_far_more : (cs : List ℕ) (kind context position c : ℕ) (after : Bool) (r0 r : Reading) (xs : List ℤ) (t size : ℕ) (negative : Bool) (r1 r2 r3 : Reading) → position < 16 → 0 < t
    → run (leaf_from token_entries (token_row cs kind position c) (start_of after)) r ≡ (t, r1) → run (token_size t) r1 ≡ (size, r2) → run (when (not (size == 0)) flag false) r2 ≡ (negative, r3)
    → SoFar cs kind context position c after r0 r xs → SoFar cs kind context (position + 1) (min 2 size) (size == 0) r0 r3 (set xs position (signed size negative))
so_far_more cs kind context position c after r0 r xs t size negative r1 r2 r3 lt pos' h1 h2 h3 s =
    let v : ℤ = signed size negative in
    let first : ℕ = first_position kind in
    let place = s.place in
    let here : 15 - (16 - (position + 1)) ≡ position = omega arith in
    let h1' : run (leaf_from token_entries (token_row cs kind (15 - (16 - (position + 1))) c) (start_of after)) r ≡ (t, r1) = ap (λ p. run (leaf_from token_entries (token_row cs kind p c) (start_of after)) r) here ∙ h1 in
    record {
      zs = s.zs ++ v ∷ [];
      place = omega (arith, place, length-append s.zs (v ∷ []));
      all = ap (λ ys. set ys position v) s.all ∙ (ap (λ p. set (filled_block first s.zs) p v) place ∙ filled_more first s.zs v (omega (arith, place)));
      reads = λ more r' h4.
          s.reads (v ∷ more) r' (coefficients_more cs kind (16 - position) (16 - (position + 1)) c after t size negative more r r1 r2 r3 r' (omega arith) pos' h1' h2 h3 h4)
          ∙ ap (λ ys. let x : List ℤ × Reading = (ys, r') in x) (sym (append_assoc s.zs (v ∷ []) more));
    }

abbrev pub Found : List ℕ → ℕ → ℕ → Reading → List ℤ → Bool → Reading → Type 0
Found cs kind context r0 xs has_coefficients r = run (block cs kind context) r0 ≡ ((let x : List ℤ × Bool = (xs, has_coefficients) in x), r)

some_coefficients : (first : ℕ) (zs : List ℤ) → is_some_coefficient zs ≡ nat_lt first (first + length zs)
some_coefficients first [] = sym (le-ltb first (first + 0) (omega arith))
some_coefficients first (z ∷ zs) = sym (lt-ltb first (first + length (z ∷ zs)) (omega arith))

-- the block that these coefficients make
found_from : (cs : List ℕ) (kind context position : ℕ) (r0 r : Reading) (xs zs : List ℤ) → position ≡ first_position kind + length zs → xs ≡ filled_block (first_position kind) zs
    → run (coefficients cs kind (16 - first_position kind) context false) r0 ≡ (zs, r) → Found cs kind context r0 xs (nat_lt (first_position kind) position) r
unfolding block
found_from cs kind context position r0 r xs zs place all h =
    let first : ℕ = first_position kind in
    let has_coefficients : is_some_coefficient zs ≡ nat_lt first position = some_coefficients first zs ∙ ap (λ p. nat_lt first p) (sym place) in
    run_on (coefficients cs kind (16 - first) context false) (λ ls. Done (filled_block first ls, is_some_coefficient ls)) r0 zs r h
    ∙ (run_done _ r
    ∙ (ap (λ ys. let y : List ℤ × Bool = (ys, is_some_coefficient zs) in let x : (List ℤ × Bool) × Reading = (y, r) in x) (sym all)
    ∙ ap (λ b. let y : List ℤ × Bool = (xs, b) in let x : (List ℤ × Bool) × Reading = (y, r) in x) has_coefficients))

ended : (cs : List ℕ) (kind context position c : ℕ) (after : Bool) (r0 r : Reading) (xs : List ℤ) (r1 : Reading) → run (coefficients cs kind (16 - position) c after) r ≡ ([], r1)
    → SoFar cs kind context position c after r0 r xs → Found cs kind context r0 xs (nat_lt (first_position kind) position) r1
ended cs kind context position c after r0 r xs r1 h s =
    found_from cs kind context position r0 r1 xs s.zs s.place s.all (s.reads [] r1 h ∙ ap (λ ys. let x : List ℤ × Reading = (ys, r1) in x) (append_nil s.zs))

pub so_far_ends : (cs : List ℕ) (kind context position c : ℕ) (after : Bool) (r0 r : Reading) (xs : List ℤ) (r1 : Reading) → position < 16
    → run (leaf_from token_entries (token_row cs kind position c) (start_of after)) r ≡ (0, r1) → SoFar cs kind context position c after r0 r xs → Found cs kind context r0 xs (nat_lt (first_position kind) position) r1
so_far_ends cs kind context position c after r0 r xs r1 lt h s =
    let here : 15 - (16 - (position + 1)) ≡ position = omega arith in
    let h' : run (leaf_from token_entries (token_row cs kind (15 - (16 - (position + 1))) c) (start_of after)) r ≡ (0, r1) = ap (λ p. run (leaf_from token_entries (token_row cs kind p c) (start_of after)) r) here ∙ h in
    ended cs kind context position c after r0 r xs r1 (coefficients_end cs kind (16 - position) (16 - (position + 1)) c after r r1 (omega arith) h') s

first_below : (kind position : ℕ) → 16 ≤ position → first_position kind < position
first_below kind position le = below (kind == 0)
  where
    below : (b : Bool) → (if b then 1 else 0) < position
    below true = omega arith
    below false = omega arith

pub so_far_full : (cs : List ℕ) (kind context position c : ℕ) (after : Bool) (r0 r : Reading) (xs : List ℤ) → 16 ≤ position → SoFar cs kind context position c after r0 r xs → Found cs kind context r0 xs true r
so_far_full cs kind context position c after r0 r xs le s =
    let has_coefficients : nat_lt (first_position kind) position ≡ true = lt-ltb (first_position kind) position (first_below kind position le) in
    let P : Bool → Type 0 = λ b. Found cs kind context r0 xs b r in
    subst P has_coefficients (ended cs kind context position c after r0 r xs r (coefficients_none cs kind (16 - position) c after r (omega arith)) s)

pub token_leaves : (es : List Entry) → es ≡ token_entries → (leaves_below 12 es ≡ true) × (length es ≡ 22)
unfolding token_entries
token_leaves es e = let P : List Entry → Type 0 = λ ys. (leaves_below 12 ys ≡ true) × (length ys ≡ 22) in subst P (sym e) (refl, refl)

pub start_small : (b : Bool) → start_of b ≤ 2
start_small true = lit≤ tt
start_small false = lit≤ tt
