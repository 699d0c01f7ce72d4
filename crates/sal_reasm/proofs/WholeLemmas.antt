-- Pieces of a frame join to it.
use Rattle.std.proofs.Common.{◌≡◌, ℕ, zero, suc, ◌+◌, ◌*◌, Bool, true, false, cond, ◌&&◌, List, [], ◌∷◌, ◌++◌, take, find, flat_map, refl, ap, ◌∙◌, sym, arith, eqb}
use Rattle.std.proofs.Math.Seq.{take-add}
use Rattle.std.proofs.lemmas.Bool.{eqb-true}
use Rattle.std.proofs.lemmas.Grind.{flat_map-append}
use Rattle.std.proofs.lemmas.List.{take_all}
use Rattle.std.proofs.lemmas.List.Folds.{list_all-append}
use Rattle.std.specs.List.{list_all}
use Rattle.std.specs.Option.{is_some, unwrap_or, option_map}
use Rattle.std.specs.declared.option.Option.{Option}
use Rattle.std.specs.declared.option.Option.TheVariants.{Some}
use Rattle.sal_base.specs.Lists.{Each}
use Rattle.sal_wire.specs.Fields.{FragmentFields}
use Rattle.sal_wire.specs.Fragmentation.{below, fragment_count, fragment_data}
use Rattle.sal_reasm.specs.Complete.{data_at, has_all, reassembled}
use Rattle.sal_reasm.specs.Split.{IsFragmentOf}

step_piece : (b : Bool) (bytes : List ℕ) (k : ℕ) (e : FragmentFields) (rest : Option FragmentFields) → eqb e.index k ≡ b → e.bytes ≡ fragment_data bytes e.index
    → (is_some (option_map (λ (x : FragmentFields). x.bytes) rest) ≡ true → option_map (λ (x : FragmentFields). x.bytes) rest ≡ Some (fragment_data bytes k))
    → is_some (option_map (λ (x : FragmentFields). x.bytes) (cond b (Some e) rest)) ≡ true → option_map (λ (x : FragmentFields). x.bytes) (cond b (Some e) rest) ≡ Some (fragment_data bytes k)
step_piece true bytes k e rest h is more there = ap (λ (z : List ℕ). Some z) (is ∙ ap (fragment_data bytes) (eqb-true _ _ h))
step_piece false bytes k e rest h is more there = more there

-- what came of an index is the piece with this index
found_piece : (bytes : List ℕ) (parts : List FragmentFields) (k : ℕ) → Each (IsFragmentOf bytes) parts → is_some (data_at parts k) ≡ true → data_at parts k ≡ Some (fragment_data bytes k)
found_piece bytes [] k is there = absurd (cc)
found_piece bytes (e ∷ parts) k is there = step_piece (eqb e.index k) bytes k e (find (λ (x : FragmentFields). eqb x.index k) parts) refl is.0.1 (λ (q : is_some (data_at parts k) ≡ true). found_piece bytes parts k is.1 q) there

both_true : (a b : Bool) → (a && b) ≡ true → (a ≡ true) × (b ≡ true)
both_true true b h = (refl, h)
both_true false b h = absurd (cc)

one_true : (a : Bool) → (a && true) ≡ true → a ≡ true
one_true true h = refl
one_true false h = absurd (cc)

single : (xs : List ℕ) → xs ++ [] ≡ xs
single [] = refl
single (x ∷ xs) = ap (λ (ys : List ℕ). x ∷ ys) (single xs)

-- the first n indexes join to the front of the bytes
front : (bytes : List ℕ) (parts : List FragmentFields) (n : ℕ) → Each (IsFragmentOf bytes) parts → list_all (λ (k : ℕ). is_some (data_at parts k)) (below n) ≡ true
    → flat_map (λ (k : ℕ). unwrap_or (data_at parts k) []) (below n) ≡ take (1200 * n) bytes
unfolding below
front bytes parts zero is all = refl
front bytes parts (suc n) is all =
    let here = both_true _ _ (sym (list_all-append (λ (k : ℕ). is_some (data_at parts k)) (below n) (n ∷ [])) ∙ all) in
    let last : data_at parts n ≡ Some (fragment_data bytes n) = found_piece bytes parts n is (one_true (is_some (data_at parts n)) here.1) in
    let more : 1200 * suc n ≡ 1200 * n + 1200 = omega arith in
    flat_map-append (λ (k : ℕ). unwrap_or (data_at parts k) []) (below n) (n ∷ [])
    ∙ (ap (λ (z : List ℕ). z ++ (unwrap_or (data_at parts n) [] ++ [])) (front bytes parts n is here.0)
    ∙ (ap (λ (o : Option (List ℕ)). take (1200 * n) bytes ++ (unwrap_or o [] ++ [])) last
    ∙ (ap (λ (z : List ℕ). take (1200 * n) bytes ++ z) (single (fragment_data bytes n))
    ∙ (sym (take-add (1200 * n) 1200 bytes) ∙ ap (λ (m : ℕ). take m bytes) (sym more)))))

pub whole : (bytes : List ℕ) (parts : List FragmentFields) → Each (IsFragmentOf bytes) parts → has_all parts ≡ true → reassembled parts ≡ bytes
whole bytes [] is all = absurd (cc)
whole bytes (e ∷ more) is all =
    front bytes (e ∷ more) e.count is all
    ∙ (ap (λ (n : ℕ). take (1200 * n) bytes) is.0.0
    ∙ take_all (1200 * fragment_count bytes) bytes (omega arith))
