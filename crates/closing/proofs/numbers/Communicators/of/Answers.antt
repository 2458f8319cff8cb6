-- Those of the survey of the journals.
use Rattle.std.proofs.Common.{arith}
use Rattle.std.specs.Prelude.{option_map}
use Rattle.std.proofs.lemmas.List.{length-map}
use Rattle.closing.specs.Journals.{journal_in, run_in}
use Rattle.closing.proofs.numbers.Communicators.of.Goals as goal

pub returns : goal.returns
returns c few fit =
    c.in_ok-kept.ensures (run_in c.args.journals.now) (omega (arith, length-map c.args.journals.now (option_map journal_in))) fit (c.in_ok-survey.ensures fit) (c.are_cut_off.ensures few)
