use Rattle.std.proofs.Common.{◌≡◌, ◌≤◌, ◌+◌, ◌-◌, ◌^◌, replicate}
use Rattle.sal_bool.specs.Syntax.{run, number, literal}
use Rattle.sal_bool.proofs.decoder.Decoder.literal.Given as goal

abbrev pub invariant-loop : goal.invariant-loop
invariant-loop l = record {
  small : l.value + 1 ≤ 2 ^ l.counter;
  reads : run (number (replicate (l.n - l.counter) 128) l.value) l.self ≡ run (literal l.n) l.fn.self;
}
