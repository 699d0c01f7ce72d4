use Rattle.std.proofs.Common.{◌≡◌, List, ℕ, subst, sym}
use Rattle.sal_base.specs.Samples.{IsBlockOf}
use Rattle.sal_base.specs.declared.kinds.SubMode.{SubMode}
use Rattle.sal_base.specs.declared.kinds.SubMode.TheVariants.{BVR, BVL, BHD, BHU}
use Rattle.sal_intra.specs.declared.edge.SubEdge.{SubEdge}
use Rattle.sal_intra.specs.Sub.{right_rows, left_rows, down_rows, up_rows, sub_sample}
use Rattle.sal_intra.proofs.Rows.{rows_block}
use Rattle.sal_intra.proofs.sub.predict_sub.Goals as goal

as_right : (m : SubMode) (e : SubEdge) (xs : List ℕ) → m ≡ BVR → xs ≡ right_rows e → IsBlockOf 4 16 xs (sub_sample m e)
unfolding sub_sample
as_right m e xs is rows = subst (λ (n : SubMode). IsBlockOf 4 16 xs (sub_sample n e)) (sym is) (rows_block xs (right_rows e) rows)

pub returns-in-BVR : goal.returns-in-BVR
returns-in-BVR c = as_right c.args.mode c.args.edge.now _ c.in-BVR.is c.right_rows.ensures

as_left : (m : SubMode) (e : SubEdge) (xs : List ℕ) → m ≡ BVL → xs ≡ left_rows e → IsBlockOf 4 16 xs (sub_sample m e)
unfolding sub_sample
as_left m e xs is rows = subst (λ (n : SubMode). IsBlockOf 4 16 xs (sub_sample n e)) (sym is) (rows_block xs (left_rows e) rows)

pub returns-in-BVL : goal.returns-in-BVL
returns-in-BVL c = as_left c.args.mode c.args.edge.now _ c.in-BVL.is c.left_rows.ensures

as_down : (m : SubMode) (e : SubEdge) (xs : List ℕ) → m ≡ BHD → xs ≡ down_rows e → IsBlockOf 4 16 xs (sub_sample m e)
unfolding sub_sample
as_down m e xs is rows = subst (λ (n : SubMode). IsBlockOf 4 16 xs (sub_sample n e)) (sym is) (rows_block xs (down_rows e) rows)

pub returns-in-BHD : goal.returns-in-BHD
returns-in-BHD c = as_down c.args.mode c.args.edge.now _ c.in-BHD.is c.down_rows.ensures

as_up : (m : SubMode) (e : SubEdge) (xs : List ℕ) → m ≡ BHU → xs ≡ up_rows e → IsBlockOf 4 16 xs (sub_sample m e)
unfolding sub_sample
as_up m e xs is rows = subst (λ (n : SubMode). IsBlockOf 4 16 xs (sub_sample n e)) (sym is) (rows_block xs (up_rows e) rows)

pub returns-in-BHU : goal.returns-in-BHU
returns-in-BHU c = as_up c.args.mode c.args.edge.now _ c.in-BHU.is c.up_rows.ensures
