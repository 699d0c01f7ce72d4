use Rattle.std.proofs.Common.{rules, ◌≡◌, ◌∙◌, ap, ap₂, true, take_all}
use Rattle.clap.specs.Walk.{rule_of, texts}
use Rattle.clap.specs.Simple.{App, app_of_fields, with_rule}
use Rattle.clap.specs.declared.builder.command.Command.{Command}
use Rattle.clap.specs.declared.builder.command.Command.TheOpen.{Command-F}
use Rattle.sal_words.specs.Form.{form, names_rule, option_rule}
use Rattle.sal_words.proofs.ReadLemmas.{grows}
use Rattle.sal_words.proofs.said.command.Goals as goal

pub loop-name-init : goal.loop-name-init
loop-name-init c =
    let named : rule_of c.action-names.result ≡ names_rule = search rules in
    let settings = ap app_of_fields c.disable_version_flag.ensures
    ∙ ap (λ (f : Command-F Command). app_of_fields (record f { disable_version_flag = true })) c.disable_help_flag.ensures
    ∙ ap (λ (f : Command-F Command). app_of_fields (record f { disable_help_flag = true; disable_version_flag = true })) c.no_binary_name.ensures
    ∙ ap (λ (a : App). record a { top = record a.top { no_binary_name = true; disable_help_flag = true; disable_version_flag = true } }) c.new-2.ensures.app in
    c.in_ok-command.ensures.shape (search rules) ∙ ap₂ with_rule settings named

pub loop-name-preserved : goal.loop-name-preserved
loop-name-preserved c =
    let option : rule_of c.long-option.result ≡ option_rule c.new-in-loop-name.result.id.now = search rules in
    c.in_ok-command-2.ensures.shape (search rules) ∙ ap₂ with_rule c.loop-name.invariant option
    ∙ grows c.args.options.now c.loop-name.name-index _ _ c.loop-name-test.true (ap (λ s. s.now) c.new-in-loop-name.ensures.id)

pub returns : goal.returns
returns c = c.loop-name.invariant ∙ ap (λ xs. form (texts xs)) (take_all c.loop-name.name-index c.args.options.now c.loop-name-test.false)
