use Rattle.std.proofs.Common.{◌≡◌, ◌+◌, ◌≤◌, ◌++◌, length, take, vec_len, vec_capacity}
use Rattle.callstore.proofs.rank_notes.push_all.Given as goal

-- what was put so far, and room for what is left
abbrev pub invariant-loop-number : goal.invariant-loop-number
invariant-loop-number l = record {
  items : l.to.items ≡ l.initial.to.items ++ take l.number-index l.numbers;
  room : vec_len l.to + length l.numbers ≤ vec_capacity l.to + l.number-index;
}
