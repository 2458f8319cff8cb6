use Rattle.mpigroup.proofs.ChoiceLemmas.{sorted_members, ordered_members}
use Rattle.mpigroup.proofs.split.members_in_order.Goals as goal

pub returns-clause-value : goal.returns-clause-value
returns-clause-value c =
    ordered_members c.args.choices.now _ _ c.in_ok-members.ensures c.sort_unstable.ensures.permutation c.sort_unstable.ensures.sorted

pub returns-clause-order : goal.returns-clause-order
returns-clause-order c =
    sorted_members c.args.choices.now _ _ c.in_ok-members.ensures c.sort_unstable.ensures.permutation c.sort_unstable.ensures.sorted
