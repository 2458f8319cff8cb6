-- The end record's line, by computing.
use Rattle.std.proofs.Common.{refl, lit≤}
use Rattle.mpicall.specs.Spelling.{spelling}
use Rattle.mpicall.proofs.remembered.KnownLine.finalize.Goals as goal

pub invariant_of-result : goal.invariant_of-result
unfolding spelling
invariant_of-result c = record {
  short = lit≤ tt;
  spelled = rw (c.copy_from_slice.ensures.after, c.finalize.ensures) (record { line_is = refl; in_ranges_is = refl });
}
