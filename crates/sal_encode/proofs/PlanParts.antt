-- The parts of a plan, as the code takes them.
use Rattle.std.proofs.Common.{◌≡◌, ℕ, ◌<◌, ◌≤◌, ◌∙◌, ℤ, List, [], Bool, true, false, Option, None, Ok, map, length, replicate, get_or, refl, sym, ap, subst, arith}
use Rattle.std.proofs.lemmas.List.{get_or_default}
use Rattle.sal_base.specs.Pictures.{blocks_of}
use Rattle.sal_bool.specs.Bits.{start}
use Rattle.sal_bool.specs.Written.{steps, written}
use Rattle.sal_probs.specs.Probabilities.{Table}
use Rattle.sal_macroblock.specs.declared.mode.MbMode.{MbMode}
use Rattle.sal_macroblock.specs.Macroblocks.{outside}
use Rattle.sal_tokens.specs.Blocks.{no_contexts}
use Rattle.sal_tokens.specs.Written.{pairs_of}
use Rattle.sal_state.specs.States.{References, StateData}
use Rattle.sal_frame.specs.Records.{Macroblock, columns_of, info_of}
use Rattle.sal_frame.specs.Built.{all_built, blanks, built, references_or}
use Rattle.sal_decode.specs.FirstPartition.{around}
use Rattle.sal_decode.specs.Syntax.{size_kept}
use Rattle.sal_encode.specs.declared.plan.Plan.{Plan}
use Rattle.sal_encode.specs.Plans.{planned, planned_all, record_of_plan, read_before, IsMacroblock, IsPlan}
use Rattle.sal_encode.specs.FrameBytes.{probs_of, tokens_branches, plan_branches, token_bytes}
use Rattle.sal_encode.proofs.PlanBuilt.{planned_at}

-- macroblock k
pub record IsAt (s : StateData) (size : ℕ × ℕ) (p : Plan) (k : ℕ) (m : MbMode) (ls : List (List ℤ)) : Type 0 where
  pub in_plan : k < length p.modes
  pub fits : IsMacroblock p.header s.kept.map (around (blocks_of size.0) (blocks_of size.1) (read_before p.header p.modes k)) k m ls
  pub is : (d : Macroblock) → get_or (planned_all p.modes p.levels) k d ≡ planned m ls

pub at_place : (s : StateData) (size : ℕ × ℕ) (p : Plan) (ms : List MbMode) (ls : List (List (List ℤ))) (k : ℕ) (m d : MbMode) (l : List (List ℤ)) → IsPlan s size p
    → ms ≡ p.modes → ls ≡ p.levels → k < length ms → m ≡ get_or ms k d → l ≡ get_or ls k l → IsAt s size p k m l
at_place s size p ms ls k m d l valid modes_are levels_are lt mode_is levels_is =
    let long = ap length modes_are in
    let many = valid.many_levels in
    let in_modes : k < length p.modes = omega (arith, lt, long) in
    let in_levels : k < length p.levels = omega (arith, in_modes, many) in
    let mode : get_or p.modes k outside ≡ m = get_or_default p.modes k outside d in_modes ∙ (ap (λ (xs : List MbMode). get_or xs k d) (sym modes_are) ∙ sym mode_is) in
    let levels : get_or p.levels k [] ≡ l = get_or_default p.levels k [] l in_levels ∙ (ap (λ (xs : List (List (List ℤ))). get_or xs k l) (sym levels_are) ∙ sym levels_is) in
    record {
      in_plan = in_modes;
      fits =
          subst (λ x. IsMacroblock p.header s.kept.map (around (blocks_of size.0) (blocks_of size.1) (read_before p.header p.modes k)) k x l) mode
          (subst (λ x. IsMacroblock p.header s.kept.map (around (blocks_of size.0) (blocks_of size.1) (read_before p.header p.modes k)) k (get_or p.modes k outside) x) levels (valid.macroblocks k in_modes));
      is = λ e. planned_at p.modes p.levels k e outside [] many in_modes ∙ (ap (λ x. planned x (get_or p.levels k [])) mode ∙ ap (λ x. planned m x) levels);
    }

-- without references only a key frame can be written
pub key_of : (s : StateData) (size : ℕ × ℕ) (p : Plan) (o : Option References) → IsPlan s size p → o ≡ s.references → o ≡ None → p.header.key ≡ true
key_of s size p o valid same none = by_key p.header.key refl
  where
    by_key : (key : Bool) → p.header.key ≡ key → key ≡ true
    by_key true e = refl
    by_key false e = let kept : size_kept None ≡ Ok size = ap size_kept (sym none ∙ same) ∙ valid.kept_size e in cc

-- what its record is made of
pub plan_columns : (size : ℕ × ℕ) (p : Plan) (columns : ℕ) → columns ≡ blocks_of size.0 → columns_of (record_of_plan size p) ≡ columns
unfolding record_of_plan
plan_columns size p columns e = sym e

pub plan_header : (size : ℕ × ℕ) (p : Plan) → (record_of_plan size p).header ≡ p.header
unfolding record_of_plan
plan_header size p = refl

pub plan_notes : (size : ℕ × ℕ) (p : Plan) → map info_of (planned_all p.modes p.levels) ≡ map info_of (record_of_plan size p).blocks
unfolding record_of_plan
plan_notes size p = refl

pub plan_built : (s : StateData) (size : ℕ × ℕ) (p : Plan) (columns : ℕ) → columns ≡ blocks_of size.0
    → all_built (references_or (blanks columns (blocks_of size.1)) s.references) (record_of_plan size p) 0 (planned_all p.modes p.levels) (blanks columns (blocks_of size.1)) ≡ built s.references (record_of_plan size p)
unfolding record_of_plan built
plan_built s size p columns e = ap (λ n. all_built (references_or (blanks n (blocks_of size.1)) s.references) (record_of_plan size p) 0 (planned_all p.modes p.levels) (blanks n (blocks_of size.1))) e

pub plan_tokens : (s : StateData) (size : ℕ × ℕ) (p : Plan) (probs : Table) (columns : ℕ) → probs ≡ probs_of s p → columns ≡ blocks_of size.0
    → written (steps start (pairs_of probs.coefficients (tokens_branches columns 0 (replicate columns no_contexts) no_contexts (planned_all p.modes p.levels)))) ≡ token_bytes s size p
unfolding token_bytes plan_branches
plan_tokens s size p probs columns e f =
    ap (λ (t : Table). written (steps start (pairs_of t.coefficients (tokens_branches columns 0 (replicate columns no_contexts) no_contexts (planned_all p.modes p.levels))))) e
    ∙ ap (λ n. written (steps start (pairs_of (probs_of s p).coefficients (tokens_branches n 0 (replicate n no_contexts) no_contexts (planned_all p.modes p.levels))))) f

pub below_4 : (n : ℕ) → n ≤ 3 → n < 4
below_4 n le = omega (arith, le)
