-- The fields that came, and those still to come, are all; the last of all is the last that came, or comes.
use Rattle.std.proofs.Common.{◌≡◌, ◌+◌, length}
use Rattle.std.specs.Option.{option_copied}
use Rattle.journals.specs.Lines.{last_from, last_field}
use Rattle.journals.proofs.line.tail_of.Given as goal

abbrev pub invariant-loop-field : goal.invariant-loop-field
invariant-loop-field l = record {
  all : l.tail.count + length l.fields ≡ length l.initial.fields;
  last : last_from (option_copied l.tail.last) l.fields ≡ last_field l.initial.fields;
}

abbrev pub decreases-loop-field : goal.decreases-loop-field
decreases-loop-field l = length l.fields
