-- What is left of the table has what the whole one has.
use Rattle.std.proofs.Common.{◌≡◌, length, map}
use Rattle.mpicall.specs.Word.{name_in}
use Rattle.mpicall.proofs.word.name_in.Given as goal

abbrev pub invariant-loop-table : goal.invariant-loop-table
invariant-loop-table l = name_in (map (λ row. (row.0.now, row.1)) l.table) l.field ≡ name_in (map (λ row. (row.0.now, row.1)) l.initial.table) l.field

abbrev pub decreases-loop-table : goal.decreases-loop-table
decreases-loop-table l = length l.table
