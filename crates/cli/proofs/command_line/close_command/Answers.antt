use Rattle.std.proofs.Common.{rules, ap, ap₂, codes, true, ◌≡◌, ◌∙◌}
use Rattle.std.proofs.lemmas.Result.{IfOk-weaker}
use Rattle.clap.specs.Simple.{App, app_of, app_of_fields, on_top, with_rule, new_app}
use Rattle.cli.specs.CommandLine.{folder_rule, out_rule, with_rules}
use Rattle.cli.proofs.AskedLemmas.{no_global_added, no_globals_added, rules_added}
use Rattle.cli.proofs.command_line.close_command.Goals as goal

abbrev with_version : App → App
with_version = on_top (λ s. record s { has_version = true })

pub returns-clause-app : goal.returns-clause-app
returns-clause-app c =
    let base : app_of c.version.result ≡ with_version (new_app (codes "close")) =
    ap app_of_fields c.version.ensures ∙ ap with_version (ap app_of_fields c.after_help.ensures ∙ (ap app_of_fields c.about.ensures ∙ c.new.ensures.app)) in
    let one : app_of c.in_ok-arg.field-0 ≡ with_rule (with_version (new_app (codes "close"))) folder_rule =
    c.in_ok-arg.ensures.shape c.folder_argument.ensures.local ∙ ap₂ with_rule base c.folder_argument.ensures.rule in
    let two : app_of c.in_ok-arg-2.field-0 ≡ with_rule (with_rule (with_version (new_app (codes "close"))) folder_rule) out_rule =
    c.in_ok-arg-2.ensures.shape c.out_argument.ensures.local ∙ ap₂ with_rule one c.out_argument.ensures.rule in
    IfOk-weaker c.args-2.result _ _ (λ command adds. rules_added _ _ _ adds c.in_ok-options.ensures.local ∙ ap₂ with_rules two c.in_ok-options.ensures.rules) c.args-2.ensures

pub returns-clause-local : goal.returns-clause-local
returns-clause-local c =
    let one = no_global_added _ _ _ c.in_ok-arg.ensures (search rules) c.folder_argument.ensures.local in
    let two = no_global_added _ _ _ c.in_ok-arg-2.ensures one c.out_argument.ensures.local in
    IfOk-weaker c.args-2.result _ _ (λ command adds. no_globals_added _ _ _ adds c.in_ok-options.ensures.local two) c.args-2.ensures
