use Rattle.std.proofs.Common.{◌≡◌, ℕ, ◌≤◌, ◌+◌, ◌-◌, ◌*◌, length, take, drop}
use Rattle.sal_header.specs.Tags.{placed, AreInside}
use Rattle.sal_header.proofs.Placing.{after_parts}
use Rattle.sal_header.proofs.places.put_sized.Given as goal

abbrev pub invariant-loop-k : goal.invariant-loop-k
invariant-loop-k l = record {
  long : length l.at ≡ 8;
  others : (n : ℕ) → l.sized ≤ n → drop n l.at ≡ drop n l.fn.at;
  near : l.place ≤ 4294967330 + 16777216 * l.k;
  inside : l.table ≤ length l.bytes → (l.place ≤ length l.bytes) × AreInside (length l.bytes) l.at l.k;
  parts : placed l.bytes l.table 0 l.sized (l.table + 3 * l.sized) ≡ after_parts (take l.k l.at) (placed l.bytes l.table l.k (l.sized - l.k) l.place);
}
