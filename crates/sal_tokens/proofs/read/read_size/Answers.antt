use Rattle.std.proofs.Common.{◌≡◌, ◌+◌, ◌-◌, ◌^◌, ◌<◌, ◌≤◌, ◌∙◌, ap, sym, arith, ℕ, List, [], slice_index_or, slice_index, lit<, zero}
use Rattle.std.proofs.Math.Nat.{pow-le-pow_right}
use Rattle.sal_bool.specs.Reading.{Reading}
use Rattle.sal_bool.specs.Syntax.{run, number}
use Rattle.sal_tables.specs.Tables.{category_bits_of}
use Rattle.sal_tables.proofs.Ranges.{at_most}
use Rattle.sal_tokens.proofs.Blocks.{size_plain, size_category}
use Rattle.sal_tokens.proofs.read.read_size.Goals as goal

pub returns-then-token-lt6-clause-reads : goal.returns-then-token-lt6-clause-reads
returns-then-token-lt6-clause-reads c = size_plain _ _ c.if-token-lt6.true

pub returns-clause-reads : goal.returns-clause-reads
returns-clause-reads c =
    let h : run (number (slice_index_or category_bits_of (c.args.token - 6) []) 0) c.args.decoder.now ≡ (c.number-extra.result, c.number-extra.new.self) =
    ap (λ ps. run (number ps 0) c.args.decoder.now) (sym c.category_bits.ensures.digits) ∙ c.number-extra.ensures.reads in
    size_category c.args.token c.number-extra.result _ _ c.if-token-lt6.false h
    ∙ ap (λ (xs : List ℕ). let x : ℕ × Reading = (slice_index xs (c.args.token - 6) + c.number-extra.result, c.number-extra.new.self) in x) (sym c.category_bases.ensures.digits)

below : (n x b : ℕ) → n ≤ 11 → x < 2 ^ n → b ≤ 67 → b + x ≤ 2114
below n x b le lt small =
    let two : zero < 2 = lit< tt in
    let p : 2 ^ n ≤ 2 ^ 11 = pow-le-pow_right two le in
    omega (arith, p)

pub returns-clause-small : goal.returns-clause-small
returns-clause-small c =
    let b = at_most 5 67 c.category_bases.result.now (c.args.token - 6) c.category_bases.ensures.range in
    below _ _ _ c.category_bits.ensures.few c.number-extra.ensures.small b
