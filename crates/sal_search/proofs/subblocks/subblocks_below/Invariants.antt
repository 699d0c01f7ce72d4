use Rattle.std.proofs.Common.{◌≡◌, ◌<◌, ◌≤◌, ◌*◌, length, List, ℤ}
use Rattle.std.specs.Prelude.{All}
use Rattle.sal_macroblock.specs.Sizes.{Within}
use Rattle.sal_search.specs.Subblocks.{subblocks}
use Rattle.sal_search.proofs.Steps.{subs}
use Rattle.sal_search.proofs.subblocks.subblocks_below.Given as goal

-- the first n subblocks, whose costs are below the limit
abbrev pub invariant-loop-n : goal.invariant-loop-n
invariant-loop-n l = record {
  built : subs l.built l.modes l.coefficients l.cost ≡ subblocks l.samples l.edge l.factors l.n;
  squares : length l.built ≡ 256;
  modes : length l.modes ≡ 16;
  coefficients : length l.coefficients ≡ 16;
  few : All (λ (zs : List ℤ). All (Within 2047) zs) l.coefficients;
  small : l.cost ≤ 4080 * l.n;
  below : 1 ≤ l.n → l.cost < l.limit;
}
