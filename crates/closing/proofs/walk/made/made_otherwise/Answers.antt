-- By the communicator that the call is on.
use Rattle.std.proofs.Common.{◌≡◌, ◌∙◌, ap, sym, true, false}
use Rattle.std.specs.Prelude.{is_some}
use Rattle.closing.proofs.MakerLemmas.{made_on}
use Rattle.closing.proofs.walk.made.made_otherwise.Goals as goal

pub returns-in-Some : goal.returns-in-Some
returns-in-Some c = λ journals placed key meets on_one has small.
    made_on journals placed c.args.new.comm c.args.run.now.keys c.args.at.now.named c.in-Some.parent key c.args.new.number c.made_under.result c.in-Some.is
    meets.named meets.small_on (λ on has_on small_on. c.made_under.ensures journals placed on key meets.numbered meets.rank has_on has small_on small)

pub returns-in-None : goal.returns-in-None
returns-in-None c = λ journals placed key meets on_one has small.
    let none : true ≡ false = sym on_one ∙ ap is_some c.in-None.is in cc
