-- The first group is at its end.
use Rattle.std.proofs.Common.{◌≡◌, ◌∙◌, []}
use Rattle.journals.proofs.GroupLemmas.{no_fields, ends_same}
use Rattle.journals.proofs.comms.is_same_group.Goals as goal

pub returns : goal.returns
returns c =
    let ended : c.loop-group.group.now ≡ [] = no_fields c.loop-group.group.now c.in_default.len_below in
    c.is_empty.ensures ∙ ends_same c.loop-group.group.now c.loop-group.other.now ended c.loop-group.invariant.other ∙ c.loop-group.invariant.same
