use Rattle.std.proofs.Common.{rules, ◌≡◌, ℕ, ◌-◌, List, ◌++◌, length, take, drop, sym, ap, ◌∙◌, subst, append_assoc, take-append-drop, take_at, refl, arith, length-append}
use Rattle.std.proofs.lemmas.List.{take_rest}
use Rattle.std.specs.Io.KnownBytes.{Appends}
use Rattle.std.proofs.KnownBytes.{Appends-trans, Appends-kept}
use Rattle.sal_io.proofs.whole.put_all.Goals as goal

moves_front : (all done rest : List ℕ) (n : ℕ) → all ≡ done ++ rest → all ≡ (done ++ take n rest) ++ take (length rest - n) (drop n rest)
moves_front all done rest n e =
    e ∙ ap (λ l. done ++ l) (sym (take-append-drop n rest)) ∙ sym (append_assoc done (take n rest) (drop n rest)) ∙ ap (λ l. (done ++ take n rest) ++ l) (sym (take_rest rest n))

front_of : (all done rest : List ℕ) → all ≡ done ++ rest → take (length done) all ≡ done
front_of all done rest e = ap (take (length done)) e ∙ take_at done rest (length done) refl

pub loop-rest-preserved : goal.loop-rest-preserved
loop-rest-preserved g c =
    let (done, known) = c.loop-rest.invariant in
    let rest = c.loop-rest.rest.now in
    let n = c.in-Wrote.count in (
      done ++ take n rest,
      record {
        split = moves_front _ done rest n known.split;
        given = Appends-trans _ _ _ _ _ known.given c.in-Wrote.ensures.bytes.2;
        later = omega (arith, c.in-Wrote.ensures.cause.later);
        name = search rules;
        tells = search rules;
      },
    )

pub returns-in-Failed-clause-bytes : goal.returns-in-Failed-clause-bytes
returns-in-Failed-clause-bytes g c =
    let (done, known) = c.loop-rest.invariant in (
      length done,
      omega (arith, ap length known.split, length-append done c.loop-rest.rest.now),
      subst (Appends _ _) (sym (front_of _ done _ known.split)) (Appends-kept _ _ _ _ known.given c.in-Failed.ensures.bytes),
    )
