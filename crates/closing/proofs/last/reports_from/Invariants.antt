-- What is noted and what the other reports say is what all say.
use Rattle.std.proofs.Common.{◌≡◌, ◌+◌, length, drop}
use Rattle.closing.specs.inner.Noted.{SaysWith, reports_in}
use Rattle.closing.proofs.last.reports_from.Given as goal

abbrev pub invariant-loop-line : goal.invariant-loop-line
invariant-loop-line l = record {
  says : SaysWith l.lines (reports_in (drop l.start l.lines)) (reports_in (drop l.line l.lines)) l.reports;
  end : l.reports.end ≡ l.line;
  all : l.line + length (reports_in (drop l.line l.lines)) ≡ l.start + length (reports_in (drop l.start l.lines));
}
