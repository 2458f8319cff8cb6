use Rattle.std.proofs.Common.{◌≡◌, [], replicate}
use Rattle.moves.proofs.waiters.make_lists.Given as goal

abbrev pub invariant-loop-number : goal.invariant-loop-number
invariant-loop-number l = record {
  made : l.lists.lists ≡ replicate l._number [];
  spare : l.lists.spare ≡ l.fn.lists.spare;
  work : l.lists.work ≡ l.fn.lists.work;
}
