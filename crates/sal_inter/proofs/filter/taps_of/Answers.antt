use Rattle.std.proofs.Common.{rules}
use Rattle.sal_inter.proofs.Weighing.{kept_size, added_at, taken_at, is_filter}
use Rattle.sal_inter.proofs.filter.taps_of.Goals as goal

pub invariant_of-result : goal.invariant_of-result
invariant_of-result c =
    let k = c.args.fraction in
    record {
      added = added_at k _ _ _ _ c.requires (kept_size k 0 _ _ c.six_taps.ensures.digits (search rules) c.unsigned_abs.ensures.value)
          (kept_size k 2 _ _ c.six_taps.ensures.digits (search rules) c.unsigned_abs-3.ensures.value)
          (kept_size k 3 _ _ c.six_taps.ensures.digits (search rules) c.unsigned_abs-4.ensures.value)
          (kept_size k 5 _ _ c.six_taps.ensures.digits (search rules) c.unsigned_abs-6.ensures.value);
      taken = taken_at k _ _ c.requires (kept_size k 1 _ _ c.six_taps.ensures.digits (search rules) c.unsigned_abs-2.ensures.value)
          (kept_size k 4 _ _ c.six_taps.ensures.digits (search rules) c.unsigned_abs-5.ensures.value);
    }

pub returns : goal.returns
returns c =
    let k = c.args.fraction in
    is_filter k _ c.requires (kept_size k 0 _ _ c.six_taps.ensures.digits (search rules) c.unsigned_abs.ensures.value)
    (kept_size k 1 _ _ c.six_taps.ensures.digits (search rules) c.unsigned_abs-2.ensures.value)
    (kept_size k 2 _ _ c.six_taps.ensures.digits (search rules) c.unsigned_abs-3.ensures.value)
    (kept_size k 3 _ _ c.six_taps.ensures.digits (search rules) c.unsigned_abs-4.ensures.value)
    (kept_size k 4 _ _ c.six_taps.ensures.digits (search rules) c.unsigned_abs-5.ensures.value)
    (kept_size k 5 _ _ c.six_taps.ensures.digits (search rules) c.unsigned_abs-6.ensures.value)
