-- A row for each rank so far.
use Rattle.std.proofs.Common.{◌≡◌, [], map, replicate}
use Rattle.judging.proofs.turns.LineTable.new.Given as goal

abbrev pub invariant-loop : goal.invariant-loop
invariant-loop l = map (λ row. row.items) l.lines.items ≡ replicate l.counter []
