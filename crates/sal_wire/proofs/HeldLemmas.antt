-- States that are read one after the other.
use Rattle.std.proofs.Common.{◌≡◌, ℕ, zero, suc, ◌+◌, ◌*◌, ◌-◌, ◌<◌, ◌≤◌, ◌&&◌, ◌⊎◌, inl, inr, Bool, true, false, List, [], ◌∷◌, ◌++◌, length, Option, Ok, Err, Some, None, ltb, leb, refl, sym, ap, ◌∙◌, arith}
use Rattle.std.specs.Prelude.{if◌then◌else◌}
use Rattle.std.proofs.lemmas.Bool.{lt-ltb, le-ltb, le-leb, lt-leb, and_right}
use Rattle.sal_base.specs.declared.name.Name.{Name}
use Rattle.sal_base.specs.Lists.{Each}
use Rattle.sal_wire.specs.declared.fault.Wire.TheVariants.{Held}
use Rattle.sal_wire.specs.declared.fault.WireFault.{WireFault}
use Rattle.sal_wire.specs.Rules.{Test, test, first_fault, held_tests}
use Rattle.sal_wire.specs.Parsing.{big_endian_at, name_at, held_at, unless}

pub passed : (p : Bool) (f : WireFault) (rest : Option WireFault) → (if p then rest else Some f) ≡ None → (p ≡ true) × (rest ≡ None)
passed true f rest e = (refl, e)
passed false f rest e = absurd cc

-- where no test fails, all are passed
pub all_passed : (tests : List Test) → first_fault tests ≡ None → Each (λ t. t.0 ≡ true) tests
all_passed [] none = tt
all_passed (t ∷ tests) none =
    let both = passed t.0 t.1 (first_fault tests) none in
    (both.0, all_passed tests both.1)

faults_split : (a b : List Test) → first_fault a ≡ None → first_fault (a ++ b) ≡ first_fault b
faults_split [] b none = refl
faults_split (t ∷ a) b none =
    let both = passed t.0 t.1 (first_fault a) none in
    rw both.0 (faults_split a b both.1)

held_split : (i m place : ℕ) (bytes : List ℕ) → held_at (i + m) place bytes ≡ held_at i place bytes ++ held_at m (place + 12 * i) bytes
unfolding held_at
held_split zero m place bytes =
    let here : place ≡ place + 12 * 0 = omega arith in
    let all : 0 + m ≡ m = omega arith in
    ap (λ n. held_at n place bytes) all ∙ ap (λ p. held_at m p bytes) here
held_split (suc i) m place bytes =
    let all : suc i + m ≡ suc (i + m) = omega arith in
    let there : place + 12 + 12 * i ≡ place + 12 * suc i = omega arith in
    ap (λ n. held_at n place bytes) all
    ∙ ap (λ x. (big_endian_at 4 place bytes, record { 0 = name_at (place + 4) bytes }) ∷ x) (held_split i m (place + 12) bytes ∙ ap (λ p. held_at i (place + 12) bytes ++ held_at m p bytes) there)

pub length_held : (n place : ℕ) (bytes : List ℕ) → length (held_at n place bytes) ≡ n
unfolding held_at
length_held zero place bytes = refl
length_held (suc n) place bytes = let e = length_held n (place + 12) bytes in omega (arith, e)

-- the number of the last of these, or the one before them
abbrev pub last_of : ℕ → List (ℕ × Name) → ℕ
last_of before [] = before
last_of before (h ∷ more) = last_of h.0 more

last_more : (before : ℕ) (xs : List (ℕ × Name)) (x : ℕ × Name) → last_of before (xs ++ x ∷ []) ≡ x.0
last_more before [] x = refl
last_more before (h ∷ xs) x = last_more h.0 xs x

tests_split : (before place : ℕ) (xs ys : List (ℕ × Name)) → held_tests before place (xs ++ ys) ≡ held_tests before place xs ++ held_tests (last_of before xs) (place + 12 * length xs) ys
tests_split before place [] ys =
    let here : place ≡ place + 12 * 0 = omega arith in
    ap (λ p. held_tests before p ys) here
tests_split before place (h ∷ xs) ys =
    let there : place + 12 + 12 * length xs ≡ place + 12 * suc (length xs) = omega arith in
    ap (λ x. test (ltb before h.0 && leb h.0 1048575) Held place ∷ x) (tests_split h.0 (place + 12) xs ys ∙ ap (λ p. held_tests h.0 (place + 12) xs ++ held_tests (last_of h.0 xs) p ys) there)

-- the first i states are there, and they pass their tests
pub record IsFar (bytes : List ℕ) (i before : ℕ) (held : List (ℕ × Name)) : Type 0 where
  pub taken : held ≡ held_at i 15 bytes
  pub last : before ≡ last_of 0 held
  pub none : first_fault (held_tests 0 15 held) ≡ None

-- what the tests say of all states, where the first i have passed
rest_says : (bytes : List ℕ) (i m before : ℕ) (held : List (ℕ × Name)) → IsFar bytes i before held
    → first_fault (held_tests 0 15 (held_at (i + m) 15 bytes)) ≡ first_fault (held_tests before (15 + 12 * i) (held_at m (15 + 12 * i) bytes))
rest_says bytes i m before held far =
    let ys = held_at m (15 + 12 * i) bytes in
    let whole : held_at (i + m) 15 bytes ≡ held ++ ys = held_split i m 15 bytes ∙ ap (λ x. x ++ ys) (sym far.taken) in
    let long : length held ≡ i = ap (λ (x : List (ℕ × Name)). length x) far.taken ∙ length_held i 15 bytes in
    ap (λ x. first_fault (held_tests 0 15 x)) whole
    ∙ ap (λ x. first_fault x) (tests_split 0 15 held ys)
    ∙ faults_split (held_tests 0 15 held) _ far.none
    ∙ ap (λ b. first_fault (held_tests b (15 + 12 * length held) ys)) (sym far.last)
    ∙ ap (λ n. first_fault (held_tests before (15 + 12 * n) ys)) long

pub none_yet : (bytes : List ℕ) → IsFar bytes 0 0 []
unfolding held_at
none_yet bytes = record { taken = refl; last = refl; none = refl }

one_passed : (before number place : ℕ) → before < number → number ≤ 1048575 → (if ltb before number && leb number 1048575 then None else Some (test true Held place).1) ≡ None
one_passed before number place above below = rw (lt-ltb before number above, le-leb number 1048575 below) refl

pub one_more : (bytes : List ℕ) (i before : ℕ) (held : List (ℕ × Name)) (number : ℕ) (name : Name) → IsFar bytes i before held
    → number ≡ big_endian_at 4 (15 + 12 * i) bytes → name.0 ≡ name_at (15 + 12 * i + 4) bytes → before < number → number ≤ 1048575
    → IsFar bytes (i + 1) number (held ++ (number, name) ∷ [])
unfolding held_at
one_more bytes i before held number name far is_number is_name above below =
    let state : (number, name) ∷ [] ≡ held_at 1 (15 + 12 * i) bytes = ap (λ n. (n, name) ∷ []) is_number ∙ ap (λ n. (big_endian_at 4 (15 + 12 * i) bytes, record { 0 = n }) ∷ []) is_name in
    let whole : held ++ (number, name) ∷ [] ≡ held_at (i + 1) 15 bytes = ap (λ x. x ++ (number, name) ∷ []) far.taken ∙ ap (λ x. held_at i 15 bytes ++ x) state ∙ sym (held_split i 1 15 bytes) in
    record {
      taken = whole;
      last = sym (last_more 0 held (number, name));
      none =
          ap (λ x. first_fault (held_tests 0 15 x)) whole
          ∙ rest_says bytes i 1 before held far
          ∙ ap (λ x. first_fault (held_tests before (15 + 12 * i) x)) (sym state)
          ∙ one_passed before number (15 + 12 * i) above below;
    }

not_rising : (before number : ℕ) → (number ≤ before) ⊎ (1048575 < number) → (ltb before number && leb number 1048575) ≡ false
not_rising before number (inl low) = rw (le-ltb before number low) refl
not_rising before number (inr high) = and_right _ _ (lt-leb number 1048575 high)

pub broken_here : (bytes : List ℕ) (i count before : ℕ) (held : List (ℕ × Name)) (number : ℕ) → IsFar bytes i before held → i < count
    → number ≡ big_endian_at 4 (15 + 12 * i) bytes → (number ≤ before) ⊎ (1048575 < number)
    → Err (record { what = Held; place = 15 + 12 * i }) ≡ unless (first_fault (held_tests 0 15 (held_at count 15 bytes))) (held_at count 15 bytes)
unfolding held_at
broken_here bytes i count before held number far inside is_number wrong =
    let all : count ≡ i + suc (count - i - 1) = omega arith in
    let here : (ltb before (big_endian_at 4 (15 + 12 * i) bytes) && leb (big_endian_at 4 (15 + 12 * i) bytes) 1048575) ≡ false =
    ap (λ n. ltb before n && leb n 1048575) (sym is_number) ∙ not_rising before number wrong in
    let fault : first_fault (held_tests 0 15 (held_at count 15 bytes)) ≡ Some (record { what = Held; place = 15 + 12 * i }) =
    ap (λ n. first_fault (held_tests 0 15 (held_at n 15 bytes))) all
    ∙ rest_says bytes i (suc (count - i - 1)) before held far
    ∙ rw here refl in
    sym (ap (λ x. unless x (held_at count 15 bytes)) fault)

pub all_taken : (bytes : List ℕ) (i count before : ℕ) (held : List (ℕ × Name)) → IsFar bytes i before held → i ≡ count
    → Ok held ≡ unless (first_fault (held_tests 0 15 (held_at count 15 bytes))) (held_at count 15 bytes)
all_taken bytes i count before held far end =
    let taken : held_at count 15 bytes ≡ held = sym (far.taken ∙ ap (λ n. held_at n 15 bytes) end) in
    sym (ap (λ x. unless (first_fault (held_tests 0 15 x)) x) taken ∙ ap (λ x. unless x held) far.none)
