use Rattle.std.proofs.Common.{◌<◌, ◌≤◌, inl, length, string_bytes, arith, sym, ◌∙◌}
use Rattle.sal_app.proofs.TopLemmas.{loop_said, promised}
use Rattle.sal_app.proofs.app.serve.Goals as goal

pub returns-clause-answers : goal.returns-clause-answers
returns-clause-answers g c =
    let lo : 4 ≤ length c.args.words.now = omega (arith, c.in-len4.len_at_least) in
    let hi : length c.args.words.now < 5 = omega (arith, c.in-len4.len_below) in
    inl (loop_said string_bytes c.args.words.now _ _ _ _ _ _ _ _ lo hi c.command-item.is c.input-item.is c.script-item.is c.output-item.is
    (sym c.as_str.ensures.value ∙ c.is_loop-known.ensures.0 c.if-not-known.false) c.as_str-2.ensures.value c.as_str-3.ensures.value c.as_str-4.ensures.value c.run_files.ensures.answers)

pub returns-in_default-clause-promises : goal.returns-in_default-clause-promises
returns-in_default-clause-promises g c = promised _ _ c.every_run_keeps_its_promises.ensures

pub returns-in_default-2-clause-promises : goal.returns-in_default-2-clause-promises
returns-in_default-2-clause-promises g c = promised _ _ c.every_run_keeps_its_promises.ensures

pub returns-clause-promises : goal.returns-clause-promises
returns-clause-promises g c = promised _ _ c.every_run_keeps_its_promises.ensures
