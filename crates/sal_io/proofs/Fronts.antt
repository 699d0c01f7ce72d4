-- How much is taken at most, whatever the answer.
use Rattle.std.proofs.Common.{◌≡◌, ℕ, ◌≤◌, List, [], ◌∷◌, ◌++◌, length, take, Option, arith, le_refl, length-append, length-take-le}
use Rattle.std.specs.Io.KnownBytes.{Consumes}
use Rattle.sal_io.specs.declared.whole.Filled.{Filled}
use Rattle.sal_io.specs.declared.whole.Filled.TheVariants as filled
use Rattle.sal_io.specs.declared.line.LineRead.{LineRead}
use Rattle.sal_io.specs.declared.line.LineRead.TheVariants as lines
use Rattle.sal_io.specs.Told.{TakesUpTo}
use Rattle.sal_io.specs.Calls.{FillGives}
use Rattle.sal_io.specs.Lines.{LineGives, LineTakes}
use Rattle.sal_io.proofs.ToldLemmas.{takes_within}

takes_front : (n : ℕ) (buf : List ℕ) (a b : Option (List ℕ)) → n ≤ length buf → Consumes a b (take n buf) → TakesUpTo (length buf) a b
takes_front n buf a b fits p = (take n buf, omega (arith, length-take-le n buf fits, fits), p)

fill_takes : (a b : Option (List ℕ)) (r : Filled) (buf : List ℕ) → FillGives a b r buf → TakesUpTo (length buf) a b
fill_takes a b filled.Full buf p = (buf, le_refl (length buf), p)
fill_takes a b (filled.Short n) buf p = takes_front n buf a b (omega (arith, p.0)) p.2
fill_takes a b filled.Failed buf p = takes_front p.0 buf a b (omega (arith, p.1)) p.2

line_takes : (a b : Option (List ℕ)) (r : LineRead) (buf : List ℕ) → LineGives a b r buf → LineTakes a b r buf → TakesUpTo (length buf) a b
line_takes a b (lines.Whole n) buf p q =
    let long : length (take n buf) ≡ n = length-take-le n buf (omega (arith, p.0)) in
    (take n buf ++ 10 ∷ [], omega (arith, length-append (take n buf) (10 ∷ []), long, p.0), q)
line_takes a b lines.End buf p q = ([], omega arith, q)
line_takes a b lines.Broken buf p q = takes_front q.0 buf a b q.1 q.2.taken
line_takes a b lines.Failed buf p q = takes_front q.0 buf a b (omega (arith, q.1)) q.2.taken

-- filling a buffer of at most n bytes
pub fill_within : (n : ℕ) (a b : Option (List ℕ)) (r : Filled) (buf : List ℕ) → length buf ≤ n → FillGives a b r buf → TakesUpTo n a b
fill_within n a b r buf le p = takes_within (length buf) n a b le (fill_takes a b r buf p)

-- reading a line into a buffer of at most n bytes
pub line_takes_within : (n : ℕ) (a b : Option (List ℕ)) (r : LineRead) (buf : List ℕ) → length buf ≤ n → LineGives a b r buf → LineTakes a b r buf → TakesUpTo n a b
line_takes_within n a b r buf le p q = takes_within (length buf) n a b le (line_takes a b r buf p q)
