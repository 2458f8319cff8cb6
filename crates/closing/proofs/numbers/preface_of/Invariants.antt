-- Those that are left are put into the lines so far.
use Rattle.std.proofs.Common.{◌≡◌, ◌<◌, ◌≤◌, length, vec_len}
use Rattle.closing.specs.inner.Given.{AreBelow}
use Rattle.closing.specs.inner.Numbered.{AreGroupsOf}
use Rattle.closing.specs.inner.Prefaces.{IsLeft}
use Rattle.closing.proofs.numbers.preface_of.Given as goal

abbrev pub invariant-loop-number : goal.invariant-loop-number
invariant-loop-number l = record {
  ranks : l.preface.ranks ≡ l.ranks;
  colours : vec_len l.preface.colours ≡ length l.numbered;
  low : 1 ≤ l.number;
  high : 0 < length l.numbered → l.number ≤ length l.numbered;
  left : 0 < length l.numbered → AreBelow (length l.keys.codes) l.numbered → AreGroupsOf l.keys l.ranks l.numbered → IsLeft l.keys l.numbered l.preface l.number;
}
