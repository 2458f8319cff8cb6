-- The ranks of a group are numbers.
use Rattle.journals.specs.inner.Marks.{ranks_in}
use Rattle.journals.proofs.GroupFields.{natural_members}
use Rattle.journals.proofs.known.Known.is_made.Goals as goal

pub is_same_group-requires-clause-group : goal.is_same_group-requires-clause-group
is_same_group-requires-clause-group c = natural_members (ranks_in c.args.self.now.marks) c.args.group.now c.requires.group
