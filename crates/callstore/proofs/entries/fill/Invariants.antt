use Rattle.std.proofs.Common.{◌≡◌, List, vec_len, vec_capacity}
use Rattle.callstore.specs.declared.entries.Slot.{Slot}
use Rattle.callstore.specs.inner.Entries.{entries_of}
use Rattle.callstore.proofs.entries.fill.Given as goal

-- there are so many pairs, and the entries are the same
abbrev pub invariant-loop-pair : goal.invariant-loop-pair
invariant-loop-pair l = record {
  same : (slots : List Slot) → entries_of slots l.pairs.items ≡ entries_of slots l.initial.pairs.items;
  count : vec_len l.pairs ≡ l._pair;
  room : vec_capacity l.pairs ≡ vec_capacity l.initial.pairs;
}
