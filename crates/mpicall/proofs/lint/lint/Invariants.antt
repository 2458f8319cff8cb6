-- Some records were given; no end and no failure has come since.
use Rattle.std.proofs.Common.{◌≡◌}
use Rattle.mpicall.specs.Source.{coming, ended, input_of, unread}
use Rattle.mpicall.proofs.LintLemmas.{SoFar, FirstGiven}
use Rattle.mpicall.proofs.lint.lint.Given as goal

abbrev pub invariant-loop : goal.invariant-loop
invariant-loop g l = record {
  given : SoFar (coming g.I.Input.left l.fn.source) (coming g.I.Input.left l.source) l.count;
  first : FirstGiven l.fn.source.stage (unread g.I.Input.left l.fn.source) l.source.stage (unread g.I.Input.left l.source) l.count;
  end : ended l.source ≡ ended l.fn.source;
  count : g.I.Input.failures (input_of l.source) ≡ g.I.Input.failures (input_of l.fn.source);
}
