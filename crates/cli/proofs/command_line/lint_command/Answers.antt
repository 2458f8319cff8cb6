use Rattle.std.proofs.Common.{ap, ap₂, codes, true, ◌≡◌, ◌∙◌}
use Rattle.std.proofs.lemmas.Result.{IfOk-weaker}
use Rattle.clap.specs.Simple.{App, app_of, app_of_fields, on_top, with_rule, new_app}
use Rattle.cli.proofs.command_line.lint_command.Goals as goal

abbrev with_version : App → App
with_version = on_top (λ s. record s { has_version = true })

pub returns-clause-app : goal.returns-clause-app
returns-clause-app c =
    let base : app_of c.version.result ≡ with_version (new_app (codes "lint")) =
    ap app_of_fields c.version.ensures ∙ ap with_version (ap app_of_fields c.after_help.ensures ∙ (ap app_of_fields c.about.ensures ∙ c.new.ensures.app)) in
    IfOk-weaker c.arg.result _ _ (λ command adds. adds.shape c.trace_argument.ensures.local ∙ ap₂ with_rule base c.trace_argument.ensures.rule) c.arg.ensures
