-- As many keys have a flag as the loop has come.
use Rattle.std.proofs.Common.{◌≡◌, ◌-◌, ◌++◌, false, length, replicate}
use Rattle.closing.proofs.survey.Survey.make_room.Given as goal

abbrev pub invariant-loop-place : goal.invariant-loop-place
invariant-loop-place l = record {
  same : l.self ≡ record l.fn.self { named = l.self.named };
  named : l.self.named.items ≡ l.fn.self.named.items ++ replicate (l.place - length l.fn.self.named.items) false;
}
