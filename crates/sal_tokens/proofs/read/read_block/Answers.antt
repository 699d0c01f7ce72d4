use Rattle.std.proofs.Common.{◌≡◌, ◌∙◌, ℕ, ℤ, List, Bool, min, ap, sym, subst, arith, to_z, of_z, slice_set, nat_lt, w32}
use Rattle.std.proofs.lemmas.Int.{ints}
use Rattle.std.proofs.lemmas.List.Elements.{All-set}
use Rattle.sal_macroblock.specs.Sizes.{Within}
use Rattle.sal_bool.specs.Reading.{Reading}
use Rattle.sal_bool.specs.Syntax.{run, leaf_from, signed}
use Rattle.sal_tables.specs.Trees.{token_entries}
use Rattle.sal_tables.specs.declared.tree.Entry.{Entry}
use Rattle.sal_bool.proofs.Meaning.{exact_of}
use Rattle.sal_tokens.specs.Coefficients.{token_row, start_of, block}
use Rattle.sal_tokens.proofs.Blocks.{SoFar, so_far_more, so_far_ends, so_far_full, token_leaves, start_small}
use Rattle.sal_tokens.proofs.read.read_block.Goals as goal

-- a coefficient as it is passed is the coefficient
kept : (z x : ℤ) → z ≡ x → Within 2114 z → to_z w32 (of_z w32 z) ≡ x
kept z x e h = omega (arith, ints)

kept_small : (z : ℤ) → Within 2114 z → Within 2114 (to_z w32 (of_z w32 z))
kept_small z h = (omega (arith, ints), omega (arith, ints))

so_far_along : (cs : List ℕ) (kind context position c d : ℕ) (after : Bool) (r0 r : Reading) (xs ys : List ℤ) → c ≡ d → xs ≡ ys → SoFar cs kind context position d after r0 r ys → SoFar cs kind context position c after r0 r xs
so_far_along cs kind context position c d after r0 r xs ys e f h =
    let P : ℕ → Type 0 = λ n. SoFar cs kind context position n after r0 r ys in
    let Q : List ℤ → Type 0 = λ zs. SoFar cs kind context position c after r0 r zs in
    subst Q (sym f) (subst P (sym e) h)

-- the call as the definition has it
call_along : (es : List Entry) (row row' : List ℕ) (at at' : ℕ) (r : Reading) (end : ℕ × Reading) → es ≡ token_entries → row ≡ row' → at ≡ at' → run (leaf_from es row at) r ≡ end → run (leaf_from token_entries row' at') r ≡ end
call_along es row row' at at' r end e f g h = ap (λ a. run (leaf_from token_entries row' a) r) (sym g) ∙ (ap (λ ps. run (leaf_from token_entries ps at) r) (sym f) ∙ (ap (λ ys. run (leaf_from ys row at) r) (sym e) ∙ h))

pub tree_from-token-requires-clause-probabilities : goal.tree_from-token-requires-clause-probabilities
tree_from-token-requires-clause-probabilities c =
    let long = (token_leaves _ c.token_tree.ensures.digits).1 in
    let row = c.token_row-row.ensures.long in
    omega (arith, long, row)

pub tree_from-token-requires-clause-from : goal.tree_from-token-requires-clause-from
tree_from-token-requires-clause-from c =
    let long = (token_leaves _ c.token_tree.ensures.digits).1 in
    let small = start_small c.coefficients.after_zero in
    omega (arith, long, small, c.start_of-start.ensures)

pub returns-then-token-eq0-clause-reads : goal.returns-then-token-eq0-clause-reads
returns-then-token-eq0-clause-reads c =
    let called : run (leaf_from token_entries (token_row c.args.probs.now.coefficients c.args.kind c.coefficients.position c.coefficients.context) (start_of c.coefficients.after_zero)) c.coefficients.decoder ≡ (c.tree_from-token.result, c.tree_from-token.new.self) =
    (call_along _ _ _ _ _ _ _ c.token_tree.ensures.digits (c.token_row-row.ensures.row ∙ ap (λ (cs : List ℕ). token_row cs c.args.kind c.coefficients.position c.coefficients.context) c.coefficients-probabilities.ensures.value) c.start_of-start.ensures c.tree_from-token.ensures.reads) in
    let ended = called ∙ ap (λ (t : ℕ). let x : ℕ × Reading = (t, c.tree_from-token.new.self) in x) c.if-token-eq0.true in
    so_far_ends _ _ _ _ _ _ _ _ _ _ c.coefficients-test.true ended c.coefficients.invariant.so_far
    ∙ ap (λ (f : ℕ). let y : List ℤ × Bool = (c.coefficients.coefficients, nat_lt f c.coefficients.position) in let x : (List ℤ × Bool) × Reading = (y, c.tree_from-token.new.self) in x) (sym c.first_position-first.ensures)

pub read_size-size-requires : goal.read_size-size-requires
read_size-size-requires c =
    let below = c.tree_from-token.ensures.small 12 (token_leaves _ c.token_tree.ensures.digits).0 in
    (omega arith, below)

pub coefficients-preserved : goal.coefficients-preserved
coefficients-preserved c =
    let called : run (leaf_from token_entries (token_row c.args.probs.now.coefficients c.args.kind c.coefficients.position c.coefficients.context) (start_of c.coefficients.after_zero)) c.coefficients.decoder ≡ (c.tree_from-token.result, c.tree_from-token.new.self) =
    (call_along _ _ _ _ _ _ _ c.token_tree.ensures.digits (c.token_row-row.ensures.row ∙ ap (λ (cs : List ℕ). token_row cs c.args.kind c.coefficients.position c.coefficients.context) c.coefficients-probabilities.ensures.value) c.start_of-start.ensures c.tree_from-token.ensures.reads) in
    let more = so_far_more _ _ _ _ _ _ _ _ _ c.tree_from-token.result c.read_size-size.result c.read_sign-negative.result _ _ _ c.coefficients-test.true (omega arith) called c.read_size-size.ensures.reads c.read_sign-negative.ensures.reads c.coefficients.invariant.so_far in
    let coefficient : to_z w32 (of_z w32 c.signed.result) ≡ signed c.read_size-size.result c.read_sign-negative.result = kept _ _ c.signed.ensures.value c.signed.ensures.small in
    let low : c.min-context.result ≡ min 2 c.read_size-size.result = omega arith in
    record {
      low = omega arith;
      small = All-set (Within 2114) c.coefficients.coefficients c.coefficients.position _ (kept_small _ c.signed.ensures.small) c.coefficients.invariant.small;
      so_far = so_far_along _ _ _ _ _ _ _ _ _ _ _ low (ap (λ (v : ℤ). slice_set c.coefficients.coefficients c.coefficients.position v) coefficient) more;
    }

pub returns-clause-reads : goal.returns-clause-reads
returns-clause-reads c = so_far_full _ _ _ _ _ _ _ _ _ c.coefficients-test.false c.coefficients.invariant.so_far

pub returns-then-token-eq0-clause-exact : goal.returns-then-token-eq0-clause-exact
returns-then-token-eq0-clause-exact c = exact_of (block c.args.probs.now.coefficients c.args.kind c.args.context) _ _ _ (returns-then-token-eq0-clause-reads c)

pub returns-clause-exact : goal.returns-clause-exact
returns-clause-exact c = exact_of (block c.args.probs.now.coefficients c.args.kind c.args.context) _ _ _ (returns-clause-reads c)
