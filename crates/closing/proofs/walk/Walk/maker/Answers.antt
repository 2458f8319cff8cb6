-- By what the call made.
use Rattle.std.proofs.Common.{◌∙◌}
use Rattle.std.specs.Prelude.{option_and_then}
use Rattle.closing.specs.Made.{key_made}
use Rattle.closing.specs.Numbers.{number_of}
use Rattle.closing.specs.inner.Views.{called_view}
use Rattle.closing.proofs.MakerLemmas.{maker_bare, maker_given}
use Rattle.closing.proofs.walk.Walk.maker.Goals as goal

pub returns-in-Some : goal.returns-in-Some
returns-in-Some c = λ journals placed meets on_one called.
    maker_given journals placed c.args.comm c.args.run.now.keys c.in-Some.new (called_view c.args.it.now) c.giving_line.result (key_made journals placed)
    (option_and_then (number_of journals) (key_made journals placed)) called c.in-Some.ensures.comm
    (c.in-Some.ensures.made journals (key_made journals placed) meets.numbered meets.made) meets.small_made
    (λ made has small. c.giving_line.ensures journals placed made meets on_one has small)

pub returns-in-None : goal.returns-in-None
returns-in-None c = λ journals placed meets on_one called.
    c.bare_line.ensures journals placed c.args.self.now.rank meets called
    ∙ maker_bare journals placed c.args.comm c.args.run.now.keys (key_made journals placed) (option_and_then (number_of journals) (key_made journals placed))
    (c.in-None.ensures.made journals (key_made journals placed) meets.numbered meets.made)
