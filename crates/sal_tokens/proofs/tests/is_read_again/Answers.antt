use Rattle.std.proofs.Common.{◌≡◌, ◌∙◌, ◌<◌, ◌≤◌, ◌≢◌, ap, subst, sym, arith, ℕ, ℤ, pos, List, [], Bool, true, false, replicate, length, get_or, slice_set}
use Rattle.std.proofs.lemmas.List.{length-set, get_or-set_other, get_or-replicate}
use Rattle.sal_macroblock.specs.Blocks.{no_coefficients}
use Rattle.sal_tokens.specs.Written.{AreWritable}
use Rattle.sal_tokens.proofs.tests.is_read_again.Goals as goal

-- a macroblock with coefficients in one block
one_block : (has_y2 : Bool) (index : ℕ) (zs : List ℤ) → (has_y2 ≡ true → 16 ≤ index) → (has_y2 ≡ false → index < 24) → AreWritable has_y2 (slice_set no_coefficients index zs)
one_block has_y2 index zs with without = record {
  long = length-set no_coefficients index zs;
  no_y2 = λ e. (let lt = without e in let other : 24 ≢ index = λ f. omega (arith, lt, f) in get_or-set_other no_coefficients index 24 zs [] other);
  no_first = λ e k lt. (
      let le = with e in
      let other : k ≢ index = λ f. omega (arith, lt, le, f) in
      let here : get_or (slice_set no_coefficients index zs) k [] ≡ replicate 16 (pos 0) = get_or-set_other no_coefficients index k zs [] other ∙ get_or-replicate 25 k (replicate 16 (pos 0)) [] (omega (arith, lt)) in
      ap (λ (ys : List ℤ). get_or ys 0 (pos 0)) here);
}

pub write_macroblock-requires : goal.write_macroblock-requires
write_macroblock-requires c =
    let P : List (List ℤ) → Type 0 = λ ls. AreWritable c.args.has_y2 ls in
    let Q : List (List ℤ) → Type 0 = λ ls. AreWritable c.args.has_y2 (slice_set ls c.args.index c.args.block.now.0) in
    subst P (sym c.put.ensures) (subst Q (sym c.none-coefficients.ensures) (one_block c.args.has_y2 c.args.index c.args.block.now.0 c.requires.with c.requires.without))
