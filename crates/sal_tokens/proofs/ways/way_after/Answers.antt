use Rattle.std.proofs.Common.{◌≡◌, ◌∙◌, ap, sym, Bool, true, false, Some, subst}
use Rattle.sal_bool.specs.Pairs.{Pairs}
use Rattle.sal_tokens.specs.Written.{placed, are_small, token_branches}
use Rattle.sal_tokens.proofs.Taking.{part_is, token_taken, steps_small}
use Rattle.sal_tokens.proofs.ways.way_after.Goals as goal

pub returns-then-after_zero : goal.returns-then-after_zero
returns-then-after_zero c =
    let path = part_is 1 _ _ c.way_of-way.ensures.way in
    record {
      way = λ row.
          ap (λ (ps : Pairs). placed row (Some ps)) path ∙ (token_taken row c.args.token true c.requires ∙ ap (λ (b : Bool). token_branches row b c.args.token) (sym c.if-after_zero.true));
      small = (let P : Pairs → Type 0 = λ ps. are_small ps ≡ true in subst P (sym path) (steps_small c.args.token true c.requires));
    }

pub returns-else-after_zero : goal.returns-else-after_zero
returns-else-after_zero c = record {
  way = λ row.
      ap (λ (ps : Pairs). placed row (Some ps)) c.way_of-way.ensures.way ∙ (token_taken row c.args.token false c.requires ∙ ap (λ (b : Bool). token_branches row b c.args.token) (sym c.if-after_zero.false));
  small = (let P : Pairs → Type 0 = λ ps. are_small ps ≡ true in subst P (sym c.way_of-way.ensures.way) (steps_small c.args.token false c.requires));
}
