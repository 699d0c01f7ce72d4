use Rattle.std.proofs.Common.{length, ◌+◌, ◌-◌, ◌∙◌, ap, arith, sym, refl}
use Rattle.sal_bool.proofs.Meaning.{walk_step, walk_end, run_done, tree_pair, bit_small, leaf_small, zero_small, exact_of}
use Rattle.sal_bool.specs.Syntax.{run, walk, onward, leaf_from}
use Rattle.sal_bool.proofs.decoder.Decoder.tree_from.Goals as goal

pub returns-in-Leaf-clause-reads : goal.returns-in-Leaf-clause-reads
returns-in-Leaf-clause-reads c =
    let es = c.args.tree.now.entries.now in
    let m = length es - (c.walk.counter + 1) in
    let h = walk_step _ m es c.args.probabilities.now c.walk.at _ _ _ _ (omega arith) c.bit-bit.ensures.reads c.walk.invariant.reads in
    sym h ∙ (ap (λ e. run (onward (walk m es c.args.probabilities.now) e) c.bit-bit.new.self) c.in-Leaf.is ∙ run_done _ _)

pub walk-preserved : goal.walk-preserved
walk-preserved c =
    let es = c.args.tree.now.entries.now in
    let m = length es - (c.walk.counter + 1) in
    let h = walk_step _ m es c.args.probabilities.now c.walk.at _ _ _ _ (omega arith) c.bit-bit.ensures.reads c.walk.invariant.reads in
    let small = bit_small c.bit-bit.result in
    record {
      entries = refl;
      place = tree_pair es _ _ c.requires.tree (omega (arith, small)) c.in-Pair.is;
      reads = sym (ap (λ e. run (onward (walk m es c.args.probabilities.now) e) c.bit-bit.new.self) c.in-Pair.is) ∙ h;
    }

pub returns-in-Leaf-clause-small : goal.returns-in-Leaf-clause-small
returns-in-Leaf-clause-small c = λ n h. let small = bit_small c.bit-bit.result in let place = c.walk.invariant.place in leaf_small c.args.tree.now.entries.now _ _ n h (omega (arith, small, place)) c.in-Leaf.is

pub returns-clause-small : goal.returns-clause-small
returns-clause-small c = λ n h. zero_small c.args.tree.now.entries.now n h

pub returns-clause-reads : goal.returns-clause-reads
returns-clause-reads c = sym (walk_end _ _ _ _ _ _ (omega arith) c.walk.invariant.reads) ∙ run_done _ _

pub returns-in-Leaf-clause-exact : goal.returns-in-Leaf-clause-exact
returns-in-Leaf-clause-exact c = exact_of (leaf_from c.args.tree.now.entries.now c.args.probabilities.now c.args.from) _ _ _ (returns-in-Leaf-clause-reads c)

pub returns-clause-exact : goal.returns-clause-exact
returns-clause-exact c = exact_of (leaf_from c.args.tree.now.entries.now c.args.probabilities.now c.args.from) _ _ _ (returns-clause-reads c)
