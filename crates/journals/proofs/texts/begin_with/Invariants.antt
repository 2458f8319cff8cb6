use Rattle.std.proofs.Common.{◌≡◌, ◌≤◌, length, take}
use Rattle.journals.proofs.texts.begin_with.Given as goal

-- the bytes that were compared are alike
abbrev pub invariant-loop-at : goal.invariant-loop-at
invariant-loop-at l = record {
  few : l.at ≤ length l.word;
  alike : take l.at l.bytes ≡ take l.at l.word;
}
