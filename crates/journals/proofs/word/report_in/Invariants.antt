-- What is left of the table has what the whole one has.
use Rattle.std.proofs.Common.{◌≡◌, length, map}
use Rattle.journals.specs.Words.{word_in}
use Rattle.journals.proofs.word.report_in.Given as goal

abbrev pub invariant-loop-table : goal.invariant-loop-table
invariant-loop-table l = word_in (map (λ row. (row.0.now, row.1)) l.table) l.field ≡ word_in (map (λ row. (row.0.now, row.1)) l.initial.table) l.field

abbrev pub decreases-loop-table : goal.decreases-loop-table
decreases-loop-table l = length l.table
