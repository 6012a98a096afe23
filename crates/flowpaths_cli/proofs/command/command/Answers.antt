use Rattle.std.proofs.Common.{◌≡◌, ◌∙◌, ap, ap₂, codes, true, false, rules}
use Rattle.std.proofs.lemmas.Result.{IfOk-weaker}
use Rattle.clap.specs.Words.{App, app_of, new_app, rule_of, with_rule}
use Rattle.clap.specs.Simple.{app_of_fields, on_top}
use Rattle.clap.specs.declared.builder.command.Command.{Command}
use Rattle.clap.specs.declared.builder.command.Command.TheOpen.{Command-F}
use Rattle.flowpaths_cli.specs.Command.{flag}
use Rattle.flowpaths_cli.proofs.command.command.Goals as goal

abbrev without_help : App → App
without_help = on_top (λ top. record top { no_binary_name = true; disable_help_flag = true })

pub returns : goal.returns
returns c =
    let bare : app_of c.disable_help_flag.result ≡ without_help (new_app (codes "flowpaths")) =
    ap app_of_fields (c.disable_help_flag.ensures ∙ ap (λ (f : Command-F Command). record f { disable_help_flag = true }) c.no_binary_name.ensures) ∙ ap without_help c.new.ensures.app in
    let safe : rule_of c.action.result ≡ flag (codes "safe") = search rules in
    let local : c.action.result.global ≡ false = search rules in
    let model = c.in_ok-arg.ensures.shape c.option.ensures.local ∙ ap₂ with_rule bare c.option.ensures.rule in
    let paths = c.in_ok-arg-2.ensures.shape c.option-2.ensures.local ∙ ap₂ with_rule model c.option-2.ensures.rule in
    let nodes = c.in_ok-arg-3.ensures.shape c.option-3.ensures.local ∙ ap₂ with_rule paths c.option-3.ensures.rule in
    let flags = c.in_ok-arg-4.ensures.shape local ∙ ap₂ with_rule nodes safe in
    let demo = c.in_ok-arg-5.ensures.shape c.option-5.ensures.local ∙ ap₂ with_rule flags c.option-5.ensures.rule in
    IfOk-weaker c.arg-6.result _ _ (λ _ added. added.shape c.new-2.ensures.optional.1 ∙ ap₂ with_rule demo c.new-2.ensures.rule) c.arg-6.ensures
