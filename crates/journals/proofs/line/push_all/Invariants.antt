-- The fields that came were put at the end of the list, and none is a site.
use Rattle.std.proofs.Common.{◌≡◌, ◌+◌, length}
use Rattle.journals.specs.inner.Taking.{Grows}
use Rattle.journals.proofs.WholePush.{NoSiteYet, PutsEach}
use Rattle.journals.proofs.line.push_all.Given as goal

abbrev pub invariant-loop-piece : goal.invariant-loop-piece
invariant-loop-piece l = record {
  left : l.place + length l.fields ≡ length l.initial.fields;
  grows : Grows l.initial.into.items l.into.items;
  each : PutsEach l.ranks l.word l.initial.fields l.place l.fields l.initial.into.items l.into.items;
  none : NoSiteYet l.initial.fields l.fields;
}

abbrev pub decreases-loop-piece : goal.decreases-loop-piece
decreases-loop-piece l = length l.fields
