-- The whole list of an intra macroblock's candidates: mode B is the last one.
use Rattle.std.proofs.Common.{◌≡◌, ◌∙◌, ℕ, ◌+◌, ◌-◌, ◌*◌, List, [], ◌∷◌, Bool, true, false, Option, Some, None, refl, sym, ap, arith, if◌then◌else◌}
use Rattle.std.specs.Prelude.{nat_lt, map, IsTrue}
use Rattle.sal_base.specs.Kinds.{is_whole}
use Rattle.sal_base.specs.declared.kinds.YMode.{YMode}
use Rattle.sal_base.specs.declared.kinds.YMode.TheVariants.{DC, V, H, TM, B, NEAREST, NEAR, ZERO, NEW, SPLIT}
use Rattle.sal_macroblock.specs.declared.mode.MbMode.{MbMode}
use Rattle.sal_macroblock.specs.Macroblocks.{is_b}
use Rattle.sal_intra.specs.declared.edge.LumaEdge.{LumaEdge}
use Rattle.sal_transform.specs.Factors.{Factors}
use Rattle.sal_search.specs.declared.source.MbSource.{MbSource}
use Rattle.sal_search.specs.declared.subblocks.Subblocks.{Subblocks}
use Rattle.sal_search.specs.Costs.{Candidate, candidate, better, first_least}
use Rattle.sal_search.specs.Subblocks.{subblocks}
use Rattle.sal_search.specs.Search.{whole, in_parts, plain_factors, whole_candidate, best_whole, of_whole, of_parts, best_intra_of}
use Rattle.sal_search.proofs.Choices.{takes, keeps, some_below, none_below, last}

by_test : (t : Bool) (a b : Candidate YMode) → of_whole (if t then b else a) ≡ (if t then of_whole b else of_whole a)
by_test true a b = refl
by_test false a b = refl

whole_better : (a b : Candidate YMode) → of_whole (better a b) ≡ better (of_whole a) (of_whole b)
whole_better a b = by_test (nat_lt b.cost a.cost) a b

whole_first : (a : Candidate YMode) (ks : List (Candidate YMode)) → of_whole (first_least a ks) ≡ first_least (of_whole a) (map of_whole ks)
unfolding first_least
whole_first a [] = refl
whole_first a (k ∷ ks) = whole_first (better a k) ks ∙ ap (λ (c : Candidate MbMode). first_least c (map of_whole ks)) (whole_better a k)

-- the best of all is the better of the best whole one and mode B
best_of_both : (source : MbSource) (e : LumaEdge) (q : ℕ) → best_intra_of source e q ≡ better (of_whole (best_whole source e)) (of_parts q (subblocks source.y e (plain_factors q) 16))
unfolding best_intra_of
best_of_both source e q =
    let k = whole_candidate source e in
    let p = of_parts q (subblocks source.y e (plain_factors q) 16) in
    last (of_whole (k DC)) (map of_whole (k V ∷ k H ∷ k TM ∷ [])) p ∙ ap (λ (c : Candidate MbMode). better c p) (sym (whole_first (k DC) (k V ∷ k H ∷ k TM ∷ [])))

pub parts_win : (source : MbSource) (e : LumaEdge) (f : Factors) (q q' limit cost : ℕ) (mode : YMode) (s : Subblocks) (o : Option Subblocks) (m : MbMode)
    → candidate mode cost ≡ best_whole source e → f ≡ plain_factors q → q' ≡ q → limit ≡ cost - (64 + 4 * q') → o ≡ Some s
    → o ≡ (if nat_lt (subblocks source.y e f 16).cost limit then Some (subblocks source.y e f 16) else None) → m ≡ in_parts s
    → candidate m (s.cost + (64 + 4 * q')) ≡ best_intra_of source e q
parts_win source e f q q' limit cost mode s o m best hf hq hl is h hm =
    let both = some_below (subblocks source.y e f 16).cost limit (subblocks source.y e f 16) s o is h in
    let same : s ≡ subblocks source.y e (plain_factors q) 16 = both.0 ∙ ap (λ (t : Factors). subblocks source.y e t 16) hf in
    let costs : (subblocks source.y e f 16).cost ≡ s.cost = ap (λ (t : Subblocks). t.cost) (sym both.0) in
    let sum : s.cost + (64 + 4 * q') ≡ s.cost + 64 + 4 * q = omega (arith, hq) in
    let wins = takes (of_whole (candidate mode cost)) (of_parts q s) (omega (arith, both.1, costs, hl, hq)) in
    ap (λ (t : MbMode). candidate t (s.cost + (64 + 4 * q'))) hm
    ∙ (ap (λ (n : ℕ). candidate (in_parts s) n) sum
    ∙ (wins
    ∙ (ap (λ (c : Candidate YMode). better (of_whole c) (of_parts q s)) best
    ∙ (ap (λ (t : Subblocks). better (of_whole (best_whole source e)) (of_parts q t)) same ∙ sym (best_of_both source e q)))))

pub whole_wins : (source : MbSource) (e : LumaEdge) (f : Factors) (q q' limit cost : ℕ) (mode : YMode) (o : Option Subblocks) (m : MbMode)
    → candidate mode cost ≡ best_whole source e → f ≡ plain_factors q → q' ≡ q → limit ≡ cost - (64 + 4 * q') → o ≡ None
    → o ≡ (if nat_lt (subblocks source.y e f 16).cost limit then Some (subblocks source.y e f 16) else None) → m ≡ whole mode
    → candidate m cost ≡ best_intra_of source e q
whole_wins source e f q q' limit cost mode o m best hf hq hl is h hm =
    let le = none_below (subblocks source.y e f 16).cost limit (subblocks source.y e f 16) o is h in
    let same : (subblocks source.y e f 16).cost ≡ (subblocks source.y e (plain_factors q) 16).cost = ap (λ (t : Factors). (subblocks source.y e t 16).cost) hf in
    let kept = keeps (of_whole (candidate mode cost)) (of_parts q (subblocks source.y e (plain_factors q) 16)) (omega (arith, le, same, hl, hq)) in
    ap (λ (t : MbMode). candidate t cost) hm
    ∙ (kept ∙ (ap (λ (c : Candidate YMode). better (of_whole c) (of_parts q (subblocks source.y e (plain_factors q) 16))) best ∙ sym (best_of_both source e q)))

pub whole_is_not_b : (m : YMode) → IsTrue (is_whole m) → false ≡ is_b m
whole_is_not_b DC h = refl
whole_is_not_b V h = refl
whole_is_not_b H h = refl
whole_is_not_b TM h = refl
whole_is_not_b B h = absurd cc
whole_is_not_b NEAREST h = refl
whole_is_not_b NEAR h = refl
whole_is_not_b ZERO h = refl
whole_is_not_b NEW h = refl
whole_is_not_b SPLIT h = refl
