-- A duplicate where the groups are the same, else a split.
use Rattle.std.proofs.Common.{◌∙◌, length, rules, sym, w32}
use Rattle.std.proofs.lemmas.Int.{to_z-of_z}
use Rattle.closing.specs.Keys.{group_of_key}
use Rattle.closing.proofs.MakerLemmas.{made_dup, made_split}
use Rattle.closing.proofs.walk.made.made_under.Goals as goal

pub returns-then-have_same_group : goal.returns-then-have_same_group
returns-then-have_same_group c = λ journals placed on key numbered rank has_on has small_on small.
    made_dup journals placed c.args.new.comm (group_of_key (length journals) on) key c.args.new.number
    (sym (c.have_same_group.ensures journals key on numbered has has_on) ∙ c.if-have_same_group.true)

pub returns : goal.returns
returns c = λ journals placed on key numbered rank has_on has small_on small.
    made_split journals placed c.args.new.comm (group_of_key (length journals) on) key c.args.new.number c.args.rank c.place_of_first.result _
    (sym (c.have_same_group.ensures journals key on numbered has has_on) ∙ c.if-have_same_group.false) rank
    (c.place_of_first.ensures journals on key numbered has_on has small_on) (to_z-of_z w32 c.place_of.result (search rules) ∙ c.place_of.ensures journals key numbered has small)
