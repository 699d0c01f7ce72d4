-- Fragments of one frame agree, and all of them are the frame.
use Rattle.std.proofs.Common.{◌≡◌, ℕ, ◌+◌, Bool, true, false, cond, List, [], ◌∷◌, ◌++◌, length, Option, Some, None, is_some, unwrap_or, refl, ap, sym, ◌∙◌, subst, eqb, ltb, inl, inr}
use Rattle.std.proofs.lemmas.Bool.{eqb-true, eq-eqb, and_parts, and_from}
use Rattle.std.specs.List.{list_all, flat_map, find}
use Rattle.std.specs.Option.{option_map}
use Rattle.sal_base.specs.Lists.{Has, Each}
use Rattle.sal_wire.specs.Fields.{FragmentFields}
use Rattle.sal_wire.specs.Fragmentation.{below, fragment_count, fragment_data}
use Rattle.sal_reasm.specs.declared.answers.ClashField.{ClashField}
use Rattle.sal_reasm.specs.declared.answers.ClashField.TheVariants.{Source, Target, Count, Length, Data}
use Rattle.sal_reasm.specs.Complete.{floor_of, with_fragment, fragments_of, data_at, has_all, reassembled}
use Rattle.sal_reasm.specs.Offer.{Difference, or_else, first_difference, unequal, data_clash, clash_with_fragments}
use Rattle.sal_receiver.specs.Ready.{source_in, target_in}
use Rattle.sal_world.proofs.Cut.{pieces_join}

-- a fragment of the frame with these bytes and the names of its source and target
pub record Says (source target bytes : List ℕ) (e : FragmentFields) : Type 0 where
  pub source_is : e.source ≡ source
  pub target_is : e.target ≡ target
  pub count_is : e.count ≡ fragment_count bytes
  pub bytes_are : e.bytes ≡ fragment_data bytes e.index

-- ---- lists

no_difference : (field : ClashField) (place : ℕ) (xs : List ℕ) → first_difference field place xs xs ≡ None
no_difference field place [] = refl
no_difference field place (x ∷ xs) = rw (eq-eqb x x refl) (no_difference field (place + 1) xs)

same_difference : (field : ClashField) (xs ys : List ℕ) → xs ≡ ys → first_difference field 0 xs ys ≡ None
same_difference field xs ys e = subst (λ zs. first_difference field 0 xs zs ≡ None) e (no_difference field 0 xs)

no_unequal : (field : ClashField) (n m : ℕ) → n ≡ m → unequal field n m ≡ None
no_unequal field n m e = rw (eq-eqb n m e) refl

both_none : (o p : Option Difference) → o ≡ None → p ≡ None → or_else o p ≡ None
both_none None p a b = b
both_none (Some d) p a b = absurd (cc)

flat_step : (o : Option (List ℕ)) (x more here rest : List ℕ) → is_some o ≡ true → ((b : List ℕ) → o ≡ Some b → b ≡ here) → more ≡ rest → unwrap_or o [] ++ more ≡ here ++ rest
flat_step None x more here rest some is e = absurd (cc)
flat_step (Some b) x more here rest some is e = rw (is b refl, e) refl

-- where each value is there, and is that one
flat_there : (f : ℕ → Option (List ℕ)) (g : ℕ → List ℕ) (xs : List ℕ) → ((k : ℕ) (b : List ℕ) → f k ≡ Some b → b ≡ g k) → list_all (λ k. is_some (f k)) xs ≡ true → flat_map (λ k. unwrap_or (f k) []) xs ≡ flat_map g xs
flat_there f g [] is all = refl
flat_there f g (k ∷ xs) is all =
    let both = and_parts (is_some (f k)) (list_all (λ k. is_some (f k)) xs) all in
    flat_step (f k) [] (flat_map (λ k. unwrap_or (f k) []) xs) (g k) (flat_map g xs) both.0 (is k) (flat_there f g xs is both.1)

all_more : (f g : ℕ → Bool) → ((k : ℕ) → f k ≡ true → g k ≡ true) → (xs : List ℕ) → list_all f xs ≡ true → list_all g xs ≡ true
all_more f g h [] all = refl
all_more f g h (x ∷ xs) all =
    let both = and_parts (f x) (list_all f xs) all in
    and_from (g x) (list_all g xs) (h x both.0) (all_more f g h xs both.1)

-- ---- fragments of one frame

module _ (source target bytes : List ℕ) where
  data_step : (b : Bool) (e : FragmentFields) (k : ℕ) (o : Option FragmentFields) (x : List ℕ) → eqb e.index k ≡ b → Says source target bytes e → (option_map (λ (p : FragmentFields). p.bytes) o ≡ Some x → x ≡ fragment_data bytes k) → option_map (λ (p : FragmentFields). p.bytes) (cond b (Some e) o) ≡ Some x → x ≡ fragment_data bytes k
  data_step true e k o x is says more h = let own : e.bytes ≡ x = cc in sym own ∙ (says.bytes_are ∙ ap (fragment_data bytes) (eqb-true _ _ is))
  data_step false e k o x is says more h = more h

  -- the data that is there of an index is its piece
  pub data_says : (parts : List FragmentFields) (k : ℕ) (x : List ℕ) → Each (Says source target bytes) parts → data_at parts k ≡ Some x → x ≡ fragment_data bytes k
  data_says [] k x says h = absurd (cc)
  data_says (e ∷ parts) k x says h = data_step (eqb e.index k) e k (find (λ (p : FragmentFields). eqb p.index k) parts) x refl says.0 (data_says parts k x says.1) h

  -- where all are there, they are the frame
  pub all_joined : (parts : List FragmentFields) → Each (Says source target bytes) parts → has_all parts ≡ true → reassembled parts ≡ bytes
  all_joined [] says all = absurd (cc)
  all_joined (e ∷ parts) says all =
      flat_there (data_at (e ∷ parts)) (fragment_data bytes) (below e.count) (λ k x h. data_says (e ∷ parts) k x says h) all
      ∙ (ap (λ (n : ℕ). flat_map (fragment_data bytes) (below n)) says.0.count_is ∙ pieces_join bytes)

  pub all_source : (parts : List FragmentFields) → Each (Says source target bytes) parts → has_all parts ≡ true → source_in parts ≡ source
  all_source [] says all = absurd (cc)
  all_source (e ∷ parts) says all = says.0.source_is

  pub all_target : (parts : List FragmentFields) → Each (Says source target bytes) parts → has_all parts ≡ true → target_in parts ≡ target
  all_target [] says all = absurd (cc)
  all_target (e ∷ parts) says all = says.0.target_is

  data_same : (o : Option (List ℕ)) (e : FragmentFields) → Says source target bytes e → ((x : List ℕ) → o ≡ Some x → x ≡ fragment_data bytes e.index) → data_clash o e.bytes ≡ None
  data_same None e says is = refl
  data_same (Some x) e says is =
      let same : x ≡ e.bytes = is x refl ∙ sym says.bytes_are in
      both_none (unequal Length (length x) (length e.bytes)) (first_difference Data 0 x e.bytes) (no_unequal Length _ _ (ap (λ (ys : List ℕ). length ys) same)) (same_difference Data x e.bytes same)

  -- none differs from another
  pub no_clash : (parts : List FragmentFields) (e : FragmentFields) → Each (Says source target bytes) parts → Says source target bytes e → clash_with_fragments parts e ≡ None
  no_clash [] e says own = refl
  no_clash (p ∷ parts) e says own =
      both_none _ _ (same_difference Source p.source e.source (says.0.source_is ∙ sym own.source_is))
      (both_none _ _ (same_difference Target p.target e.target (says.0.target_is ∙ sym own.target_is))
      (both_none _ _ (no_unequal Count p.count e.count (says.0.count_is ∙ sym own.count_is))
      (data_same (data_at (p ∷ parts) e.index) e own (λ x h. data_says (p ∷ parts) e.index x says h))))

  more_data : (e : FragmentFields) (parts : List FragmentFields) (k : ℕ) → is_some (data_at parts k) ≡ true → is_some (data_at (e ∷ parts) k) ≡ true
  more_data e parts k h = step (eqb e.index k)
    where
      step : (b : Bool) → is_some (option_map (λ (x : FragmentFields). x.bytes) (cond b (Some e) (find (λ (x : FragmentFields). eqb x.index k) parts))) ≡ true
      step true = refl
      step false = h

  -- where all are there, they stay there
  pub all_stay : (e : FragmentFields) (parts : List FragmentFields) → Each (Says source target bytes) parts → Says source target bytes e → has_all parts ≡ true → has_all (e ∷ parts) ≡ true
  all_stay e [] says own all = absurd (cc)
  all_stay e (p ∷ before) says own all =
      subst (λ (n : ℕ). list_all (λ k. is_some (data_at (e ∷ p ∷ before) k)) (below n) ≡ true) (says.0.count_is ∙ sym own.count_is)
      (all_more (λ k. is_some (data_at (p ∷ before) k)) (λ k. is_some (data_at (e ∷ p ∷ before) k)) (λ k h. more_data e (p ∷ before) k h) (below p.count) all)

-- ---- numbers

part_step : (P : FragmentFields → Type 0) (b : Bool) (e : FragmentFields) (rest : List FragmentFields) → (b ≡ true → P e) → Each P rest → Each P (cond b (e ∷ rest) rest)
part_step P true e rest own more = (own refl, more)
part_step P false e rest own more = more

-- the fragments of a number meet what all with that number meet
pub each_part : (P : FragmentFields → Type 0) (n : ℕ) (es : List FragmentFields) → Each (λ e. e.number ≡ n → P e) es → Each P (fragments_of n es)
each_part P n [] each = tt
each_part P n (e ∷ es) each = part_step P (eqb e.number n) e (fragments_of n es) (λ (is : eqb e.number n ≡ true). each.0 (eqb-true _ _ is)) (each_part P n es each.1)

taken_step : (P : FragmentFields → Type 0) (b : Bool) (e : FragmentFields) (taken : List FragmentFields) → P e → Each P taken → Each P (cond b taken (e ∷ taken))
taken_step P true e taken own each = each
taken_step P false e taken own each = (own, each)

-- one more that is taken meets it too
pub each_taken : (P : FragmentFields → Type 0) (e : FragmentFields) (taken : List FragmentFields) → P e → Each P taken → Each P (with_fragment e taken)
each_taken P e taken own each = taken_step P (ltb e.number (floor_of taken)) e taken own each

kept_step : (below here : Bool) (e : FragmentFields) (n : ℕ) (taken parts : List FragmentFields) → fragments_of n taken ≡ parts → eqb e.number n ≡ here → (here ≡ true → has_all (e ∷ parts) ≡ true) → has_all parts ≡ true → has_all (fragments_of n (cond below taken (e ∷ taken))) ≡ true
kept_step true here e n taken parts is same more all = ap has_all is ∙ all
kept_step false true e n taken parts is same more all = rw (same, is) (more refl)
kept_step false false e n taken parts is same more all = rw (same, is) all

-- a frame of which all are there stays so as one more is taken
pub whole_stays : (e : FragmentFields) (n : ℕ) (taken : List FragmentFields) → (e.number ≡ n → has_all (e ∷ fragments_of n taken) ≡ true) → has_all (fragments_of n taken) ≡ true → has_all (fragments_of n (with_fragment e taken)) ≡ true
whole_stays e n taken more all = kept_step (ltb e.number (floor_of taken)) (eqb e.number n) e n taken (fragments_of n taken) refl refl (λ (is : eqb e.number n ≡ true). more (eqb-true _ _ is)) all

-- a frame of which all are there has a fragment
pub all_one : (n : ℕ) (es : List FragmentFields) → has_all (fragments_of n es) ≡ true → (e : FragmentFields) × Has es e × (e.number ≡ n)
all_one n [] all = absurd (cc)
all_one n (e ∷ es) all = step (eqb e.number n) refl all (all_one n es)
  where
    step : (b : Bool) → eqb e.number n ≡ b → has_all (cond b (e ∷ fragments_of n es) (fragments_of n es)) ≡ true → (has_all (fragments_of n es) ≡ true → (x : FragmentFields) × Has es x × (x.number ≡ n)) → (x : FragmentFields) × Has (e ∷ es) x × (x.number ≡ n)
    step true is all more = (e, inl refl, eqb-true _ _ is)
    step false is all more = let m = more all in (m.0, inr m.1, m.2)
