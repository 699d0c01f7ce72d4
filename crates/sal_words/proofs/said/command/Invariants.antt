use Rattle.std.proofs.Common.{◌≡◌, take}
use Rattle.clap.specs.Simple.{app_of}
use Rattle.clap.specs.Walk.{texts}
use Rattle.sal_words.specs.Form.{form}
use Rattle.sal_words.proofs.said.command.Given as goal

abbrev pub invariant-loop-name : goal.invariant-loop-name
invariant-loop-name l = app_of l.command ≡ form (texts (take l.name-index l.options))
