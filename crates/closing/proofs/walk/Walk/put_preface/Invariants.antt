-- The list alone is changed: it has the lines of the preface so far.
use Rattle.std.proofs.Common.{◌≡◌, ◌<◌, length}
use Rattle.std.specs.Prelude.{IsTrue}
use Rattle.std.specs.List.{list_all}
use Rattle.mpicall.specs.Limits.{in_ranges}
use Rattle.closing.specs.Entries.{Run}
use Rattle.closing.specs.Numbers.{preface_of}
use Rattle.closing.specs.inner.Lists.{Handed, Stands}
use Rattle.closing.specs.inner.Numbered.{IsNumberedRun}
use Rattle.closing.proofs.PrefaceCount.{with_lines}
use Rattle.closing.proofs.walk.Walk.put_preface.Given as goal

abbrev pub invariant-loop-line : goal.invariant-loop-line
invariant-loop-line l = record {
  same : l.self ≡ record l.fn.self { list = l.self.list };
  stands : (said : Run) (handed : Handed) → IsNumberedRun said l.run → l.fn.self.rank < length said → IsTrue (list_all in_ranges (preface_of said l.fn.self.rank))
      → Stands handed (with_lines 0 (preface_of said l.fn.self.rank)) l.fn.self.list → Stands handed (with_lines l.line (preface_of said l.fn.self.rank)) l.self.list;
}
