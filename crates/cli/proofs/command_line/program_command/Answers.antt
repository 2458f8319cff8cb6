use Rattle.std.proofs.Common.{ap, ap₂, true, ◌∙◌}
use Rattle.std.proofs.lemmas.Result.{IfOk-weaker}
use Rattle.clap.specs.Simple.{App, app_of_fields, on_top, with_subcommand}
use Rattle.cli.specs.CommandLine.{program}
use Rattle.cli.proofs.command_line.program_command.Goals as goal

abbrev with_version : App → App
with_version = on_top (λ s. record s { has_version = true })

abbrev without_binary_name : App → App
without_binary_name = on_top (λ s. record s { no_binary_name = true })

abbrev with_required_subcommand : App → App
with_required_subcommand = on_top (λ s. record s { subcommand_required = true })

abbrev without_help_subcommand : App → App
without_help_subcommand = on_top (λ s. record s { disable_help_subcommand = true })

pub returns : goal.returns
unfolding program
returns c =
    let named = ap app_of_fields c.after_help.ensures ∙ (ap app_of_fields c.override_usage.ensures ∙ (ap app_of_fields c.about.ensures ∙ c.new.ensures.app)) in
    let versioned = ap app_of_fields c.version.ensures ∙ ap with_version named in
    let bare = ap app_of_fields c.no_binary_name.ensures ∙ ap without_binary_name versioned in
    let required = ap app_of_fields c.subcommand_required.ensures ∙ ap with_required_subcommand bare in
    let helpless = ap app_of_fields c.disable_help_subcommand.ensures ∙ ap without_help_subcommand required in
    let base = ap app_of_fields c.in_ok-bin_name.ensures.0 ∙ helpless in
    let one = c.in_ok-subcommand.ensures.shape c.in_ok-check.ensures.local ∙ ap₂ with_subcommand base (ap (λ (a : App). a.top) c.in_ok-check.ensures.app) in
    let two = c.in_ok-subcommand-2.ensures.shape c.in_ok-lint.ensures.local ∙ ap₂ with_subcommand one (ap (λ (a : App). a.top) c.in_ok-lint.ensures.app) in
    let three = c.in_ok-subcommand-3.ensures.shape c.in_ok-judge.ensures.local ∙ ap₂ with_subcommand two (ap (λ (a : App). a.top) c.in_ok-judge.ensures.app) in
    IfOk-weaker c.subcommand-4.result _ _ (λ command adds. adds.shape c.in_ok-close.ensures.local ∙ ap₂ with_subcommand three (ap (λ (a : App). a.top) c.in_ok-close.ensures.app)) c.subcommand-4.ensures
