-- The lines so far were taken.
use Rattle.std.proofs.Common.{◌≡◌, ◌++◌, List, take}
use Rattle.closing.specs.Keys.{Key}
use Rattle.closing.specs.RankComms.{RankComms, after_lines}
use Rattle.closing.specs.inner.Surveyed.{HasRank, Keeps, names_from}
use Rattle.closing.proofs.survey.Survey.take_lines.Given as goal

abbrev pub invariant-loop-line : goal.invariant-loop-line
invariant-loop-line l = record {
  same : l.self ≡ record l.fn.self { keys = l.self.keys; named = l.self.named; got = l.self.got };
  takes : (before names : List Key) (it : RankComms) → HasRank before names it l.fn.self l.fn.comms
      → Keeps before (names ++ names_from it (take l.line l.lines)) (after_lines it (take l.line l.lines)) l.fn.self l.self l.comms;
}
