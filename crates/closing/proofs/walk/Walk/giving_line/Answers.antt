-- By the call.
use Rattle.std.proofs.Common.{rules, w32}
use Rattle.std.proofs.lemmas.Int.{to_z-of_z}
use Rattle.closing.proofs.MakerLemmas.{giving_as, giving_other, giving_split}
use Rattle.closing.proofs.walk.Walk.giving_line.Goals as goal

pub returns-in-Splits : goal.returns-in-Splits
returns-in-Splits c = λ journals placed key meets on_one has small.
    giving_split journals placed c.args.new.comm c.args.it.now _ c.in-Splits.colour c.in-Splits.key _ key c.args.new.number c.split_line.result c.in-Splits.is
    (to_z-of_z w32 c.in-Splits.key (search rules)) (λ own. c.split_line.ensures journals placed own key)

pub returns-in-Makes : goal.returns-in-Makes
returns-in-Makes c = λ journals placed key meets on_one has small.
    giving_as journals placed c.args.new.comm c.args.it.now _ key c.args.new.number c.made_otherwise.result c.in-Makes.is
    (c.made_otherwise.ensures journals placed key meets on_one has small)

pub returns-in_default : goal.returns-in_default
returns-in_default c = λ journals placed key meets on_one has small.
    giving_other journals placed c.args.new.comm c.args.it.now key c.args.new.number c.in_default.not-Splits c.in_default.not-Makes
