use Rattle.std.proofs.Common.{◌∙◌, ap, map}
use Rattle.clap.specs.Simple.{is_simple, subcommand_of}
use Rattle.clap.specs.Faults.{fault_of, is_simple_and_free}
use Rattle.cli.proofs.AskedLemmas.{program_is_simple, program_is_free, answers_named, answers_error}
use Rattle.cli.proofs.command_line.parse.Goals as goal

pub returns-in-Ok-try_get_matches_from : goal.returns-in-Ok-try_get_matches_from
returns-in-Ok-try_get_matches_from c =
    let words = map (λ word. word.now) c.args.words.now in
    let found = c.in-Ok-try_get_matches_from.ensures.matches (ap is_simple c.in-Ok.ensures ∙ program_is_simple) in
    let taken = c.in-Ok-try_get_matches_from.ensures.kinds (ap is_simple_and_free c.in-Ok.ensures ∙ program_is_free) in
    answers_named words _ c.asked.result (found.1 ∙ ap (λ app. subcommand_of app words) c.in-Ok.ensures)
    (rw (← ap (λ app. fault_of app words) c.in-Ok.ensures) taken) c.asked.ensures

pub returns-in-Err : goal.returns-in-Err
returns-in-Err c =
    let words = map (λ word. word.now) c.args.words.now in
    answers_error words c.in-Err.error c.say_error.result
    (rw (← ap (λ app. fault_of app words) c.in-Ok.ensures) (c.in-Err.ensures.kinds (ap is_simple_and_free c.in-Ok.ensures ∙ program_is_free)))
    c.say_error.ensures.says c.say_error.ensures.memory
