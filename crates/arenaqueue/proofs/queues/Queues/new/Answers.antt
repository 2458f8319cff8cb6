use Rattle.arenaqueue.proofs.QueueLemmas.{none_at_first}
use Rattle.arenaqueue.proofs.queues.Queues.new.Goals as goal

pub invariant_of-result : goal.invariant_of-result
invariant_of-result g c = rw (c.new.ensures.items, c.new-2.ensures.items) none_at_first
