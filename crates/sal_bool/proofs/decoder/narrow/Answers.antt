use Rattle.std.proofs.Common.{◌≡◌, ℕ, ◌-◌, ◌*◌, ◌%◌, ◌^◌, ◌<◌, ◌≤◌, ◌∙◌, ap, sym, arith}
use Rattle.std.proofs.lemmas.Bool.{le-leb}
use Rattle.std.proofs.lemmas.Nat.{shl_whole, pow_pos, le-div}
use Rattle.sal_bool.specs.Bits.{split_of}
use Rattle.sal_bool.specs.Reading.{seen}
use Rattle.sal_bool.proofs.Laws.{split_small}
use Rattle.sal_bool.proofs.Windows.{seen_lowered, within_lowered, inside_lowered}
use Rattle.sal_bool.proofs.decoder.narrow.Goals as goal

-- the raised split keeps all its bits
raised_whole : (range p count : ℕ) → 128 ≤ range → range ≤ 255 → p < 256 → count ≤ 14 → split_of range p * 2 ^ count % 4294967296 ≡ split_of range p * 2 ^ count
raised_whole range p count low high fits few =
    let s : split_of range p < range = split_small range p (omega arith) fits in
    shl_whole (split_of range p) 8 count 32 (omega arith) (omega arith)

pub returns-then-window-raised-clause-bit : goal.returns-then-window-raised-clause-bit
returns-then-window-raised-clause-bit c =
    let w = raised_whole c.args.range c.args.probability c.args.count c.requires.low c.requires.high c.ranges.probability.fits c.requires.count in
    let le : split_of c.args.range c.args.probability * 2 ^ c.args.count ≤ c.args.window = omega (arith, w, c.if-window-raised.true) in
    sym (le-leb _ _ (le-div (split_of c.args.range c.args.probability) c.args.window (2 ^ c.args.count) (pow_pos c.args.count) le))

pub returns-then-window-raised-clause-narrowed : goal.returns-then-window-raised-clause-narrowed
returns-then-window-raised-clause-narrowed c = λ rest.
    let w = raised_whole c.args.range c.args.probability c.args.count c.requires.low c.requires.high c.ranges.probability.fits c.requires.count in
    let le : split_of c.args.range c.args.probability * 2 ^ c.args.count ≤ c.args.window = omega (arith, w, c.if-window-raised.true) in
    let split = split_of c.args.range c.args.probability in
    ap (λ n. seen (c.args.window - n) c.args.count (c.args.range - split) rest) w ∙ seen_lowered c.args.window c.args.count split (c.args.range - split) rest le

pub returns-then-window-raised-clause-within : goal.returns-then-window-raised-clause-within
returns-then-window-raised-clause-within c =
    let w = raised_whole c.args.range c.args.probability c.args.count c.requires.low c.requires.high c.ranges.probability.fits c.requires.count in
    let s = split_small c.args.range c.args.probability (omega arith) c.ranges.probability.fits in
    within_lowered c.args.window _ (split_of c.args.range c.args.probability) c.args.range c.args.count w (omega (arith, s)) c.if-window-raised.true c.requires.within

pub returns-then-window-raised-clause-inside : goal.returns-then-window-raised-clause-inside
returns-then-window-raised-clause-inside c = λ lt.
    let w = raised_whole c.args.range c.args.probability c.args.count c.requires.low c.requires.high c.ranges.probability.fits c.requires.count in
    let s = split_small c.args.range c.args.probability (omega arith) c.ranges.probability.fits in
    inside_lowered c.args.window _ (split_of c.args.range c.args.probability) c.args.range c.args.count w (omega (arith, s)) c.if-window-raised.true lt
