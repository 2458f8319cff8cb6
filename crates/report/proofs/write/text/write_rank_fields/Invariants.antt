-- The texts of the elements so far are printed.
use Rattle.std.proofs.Common.{ℕ, ◌∷◌, flat_map, take}
use Rattle.std.specs.Fmt.{decimal}
use Rattle.mpicall.specs.Spelling.{space}
use Rattle.report.specs.inner.Printing.{Prints}
use Rattle.report.proofs.write.text.write_rank_fields.Given as goal

abbrev pub invariant-loop-rank : goal.invariant-loop-rank
invariant-loop-rank g l = Prints g.O.Output.written g.O.Output.failures l.fn.out l.fn.printer l.out l.printer (flat_map (λ (rank : ℕ). space ∷ decimal rank) (take l.rank-index l.ranks))
