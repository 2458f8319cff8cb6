-- What was counted so far.
use Rattle.std.proofs.Common.{◌≡◌, ◌≤◌, ◌*◌, take, sum}
use Rattle.watches.proofs.stands.Stands.completed.Given as goal

abbrev pub invariant-loop-stand : goal.invariant-loop-stand
invariant-loop-stand l = record {
  value : l.completed ≡ sum (take l.stand-index l.self.places);
  most : l.completed ≤ l.stand-index * 4294967295;
}
