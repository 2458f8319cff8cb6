-- By the colour.
use Rattle.std.proofs.Common.{◌∙◌, Some, ap, rules, w32}
use Rattle.std.proofs.lemmas.Int.{to_z-of_z}
use Rattle.closing.specs.Entry.{colour_of}
use Rattle.closing.proofs.MakerLemmas.{split_as, split_given, split_without}
use Rattle.closing.proofs.walk.made.split_line.Goals as goal

pub returns-in-Some : goal.returns-in-Some
returns-in-Some c = λ journals placed own made.
    split_as c.args.new.comm (Some c.colour_of.result) _ c.args.key (Some c.args.new.number) _ (to_z-of_z w32 c.args.key (search rules))
    (split_given journals placed c.args.new.comm own c.colour_of.result c.args.colour c.in-Some.colour c.args.key made c.args.new.number c.in-Some.is
    (c.colour_of.ensures ∙ ap colour_of (to_z-of_z w32 c.in-Some.colour (search rules))))

pub returns-in-None : goal.returns-in-None
returns-in-None c = λ journals placed own made.
    split_without journals placed c.args.new.comm own c.args.colour c.args.key made c.args.new.number c.in-None.is
