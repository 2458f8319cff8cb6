-- As many ranks have their place as the loop has come.
use Rattle.std.proofs.Common.{◌≡◌, ◌++◌, None, [], ◌∷◌, replicate}
use Rattle.closing.proofs.numbers.Preface.push_line.Given as goal

abbrev pub invariant-loop-rank : goal.invariant-loop-rank
invariant-loop-rank l = record {
  ranks : l.self.ranks ≡ l.fn.self.ranks;
  sizes : l.self.sizes.items ≡ l.fn.self.sizes.items ++ 0 ∷ [];
  seats : l.self.seats.items ≡ l.fn.self.seats.items ++ replicate l._rank None;
  colours : l.self.colours.items ≡ l.fn.self.colours.items;
}
