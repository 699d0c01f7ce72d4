-- The subblocks of a macroblock, one by one.
use Rattle.std.proofs.Common.{◌≡◌, ◌∙◌, ℕ, ℤ, suc, zero, ◌+◌, ◌-◌, ◌*◌, ◌/◌, ◌%◌, ◌≤◌, ◌<◌, List, slice_set, refl, ap, arith, add-one, subst}
use Rattle.sal_base.specs.Samples.{square_put}
use Rattle.sal_base.specs.declared.kinds.SubMode.{SubMode}
use Rattle.sal_intra.specs.declared.edge.LumaEdge.{LumaEdge}
use Rattle.sal_intra.specs.declared.edge.SubEdge.{SubEdge}
use Rattle.sal_intra.specs.Edges.{sub_edge_of}
use Rattle.sal_transform.specs.Factors.{Factors}
use Rattle.sal_search.specs.declared.subblocks.Subblocks.{Subblocks}
use Rattle.sal_search.specs.Costs.{Candidate, candidate}
use Rattle.sal_search.specs.Subblocks.{sub_square, sub_predicted, best_sub, sub_coefficients, sub_rebuilt, sub_added, subblocks}

abbrev pub subs : List ℕ → List SubMode → List (List ℤ) → ℕ → Subblocks
subs built modes coefficients cost = record { built = built; modes = modes; coefficients = coefficients; cost = cost }

-- four equations make an equation of subblocks
equal : (b b' : List ℕ) (m m' : List SubMode) (c c' : List (List ℤ)) (k k' : ℕ) → b ≡ b' → m ≡ m' → c ≡ c' → k ≡ k' → subs b m c k ≡ subs b' m' c' k'
equal b b' m m' c c' k k' hb hm hc hk = cc

-- what subblock n is chosen on
abbrev wanted_at : List ℕ → ℕ → List ℕ
wanted_at samples n = sub_square samples (4 * (n % 4)) (4 * (n / 4))

abbrev around_at : LumaEdge → List ℕ → ℕ → SubEdge
around_at e built n = sub_edge_of e built (4 * (n % 4)) (4 * (n / 4))

-- one subblock more
added : (samples : List ℕ) (e : LumaEdge) (s : Factors) (n : ℕ) (now : Subblocks) (mode : SubMode) (cost : ℕ) (own : List ℤ) (rebuilt new : List ℕ)
    → candidate mode cost ≡ best_sub (wanted_at samples n) (around_at e now.built n)
    → own ≡ sub_coefficients s (wanted_at samples n) (sub_predicted mode (around_at e now.built n))
    → rebuilt ≡ sub_rebuilt s (wanted_at samples n) (sub_predicted mode (around_at e now.built n))
    → new ≡ square_put 16 (4 * (n % 4)) (4 * (n / 4)) 4 rebuilt now.built
    → subs new (slice_set now.modes n mode) (slice_set now.coefficients n own) (now.cost + cost) ≡ sub_added samples e s n now
unfolding sub_added
added samples e s n now mode cost own rebuilt new best owns builds puts =
    let w = wanted_at samples n in
    let a = around_at e now.built n in
    let m : mode ≡ (best_sub w a).choice = ap (λ (c : Candidate SubMode). c.choice) best in
    let k : cost ≡ (best_sub w a).cost = ap (λ (c : Candidate SubMode). c.cost) best in
    equal _ _ _ _ _ _ _ _
    (puts ∙ ap (λ (b : List ℕ). square_put 16 (4 * (n % 4)) (4 * (n / 4)) 4 b now.built) (builds ∙ ap (λ (t : SubMode). sub_rebuilt s w (sub_predicted t a)) m))
    (ap (λ (t : SubMode). slice_set now.modes n t) m)
    (ap (λ (zs : List ℤ). slice_set now.coefficients n zs) (owns ∙ ap (λ (t : SubMode). sub_coefficients s w (sub_predicted t a)) m))
    (ap (λ (t : ℕ). now.cost + t) k)

pub next : (samples : List ℕ) (e : LumaEdge) (s : Factors) (n : ℕ) (built : List ℕ) (modes : List SubMode) (coefficients : List (List ℤ)) (cost : ℕ) (mode : SubMode) (own_cost : ℕ) (own : List ℤ) (rebuilt new : List ℕ)
    → subs built modes coefficients cost ≡ subblocks samples e s n
    → candidate mode own_cost ≡ best_sub (wanted_at samples n) (around_at e built n)
    → own ≡ sub_coefficients s (wanted_at samples n) (sub_predicted mode (around_at e built n))
    → rebuilt ≡ sub_rebuilt s (wanted_at samples n) (sub_predicted mode (around_at e built n))
    → new ≡ square_put 16 (4 * (n % 4)) (4 * (n / 4)) 4 rebuilt built
    → subs new (slice_set modes n mode) (slice_set coefficients n own) (cost + own_cost) ≡ subblocks samples e s (n + 1)
unfolding subblocks
next samples e s n built modes coefficients cost mode own_cost own rebuilt new so_far best owns builds puts =
    rw add-one
    (added samples e s n (subs built modes coefficients cost) mode own_cost own rebuilt new best owns builds puts ∙ ap (λ (b : Subblocks). sub_added samples e s n b) so_far)

-- costs only grow
cost_added : (samples : List ℕ) (e : LumaEdge) (s : Factors) (n : ℕ) (now : Subblocks) → now.cost ≤ (sub_added samples e s n now).cost
unfolding sub_added
cost_added samples e s n now = omega arith

pub cost_grows : (samples : List ℕ) (e : LumaEdge) (s : Factors) (n d : ℕ) → (subblocks samples e s n).cost ≤ (subblocks samples e s (d + n)).cost
unfolding subblocks
cost_grows samples e s n zero = let here : 0 + n ≡ n = omega arith in rw here (omega arith)
cost_grows samples e s n (suc d) =
    let next : suc d + n ≡ suc (d + n) = omega arith in
    let before = cost_grows samples e s n d in
    let step = cost_added samples e s (d + n) (subblocks samples e s (d + n)) in
    rw next (omega (arith, before, step))

-- the cost after one more, before it is put
pub cost_next : (samples : List ℕ) (e : LumaEdge) (s : Factors) (n : ℕ) (built : List ℕ) (modes : List SubMode) (coefficients : List (List ℤ)) (cost : ℕ) (mode : SubMode) (own_cost : ℕ)
    → subs built modes coefficients cost ≡ subblocks samples e s n
    → candidate mode own_cost ≡ best_sub (wanted_at samples n) (around_at e built n)
    → cost + own_cost ≡ (subblocks samples e s (n + 1)).cost
cost_next samples e s n built modes coefficients cost mode own_cost so_far best =
    ap (λ (b : Subblocks). b.cost) (next samples e s n built modes coefficients cost mode own_cost _ _ _ so_far best refl refl refl)

-- what costs too much so far costs too much in the end
pub too_much : (samples : List ℕ) (e : LumaEdge) (s : Factors) (n total limit : ℕ) → n < 16 → total ≡ (subblocks samples e s (n + 1)).cost → limit ≤ total → limit ≤ (subblocks samples e s 16).cost
too_much samples e s n total limit lt h le =
    let rest : (15 - n) + (n + 1) ≡ 16 = omega arith in
    let grows = cost_grows samples e s (n + 1) (15 - n) in
    let P : ℕ → Type 0 = λ m. (subblocks samples e s (n + 1)).cost ≤ (subblocks samples e s m).cost in
    let all = subst P rest grows in
    omega (arith, all, h, le)
