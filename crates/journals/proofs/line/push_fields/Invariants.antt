-- The fields up to a place are put at the end of the list; those from there on are still to come.
use Rattle.std.proofs.Common.{◌≡◌, ◌+◌, length, drop}
use Rattle.journals.specs.Words.{forms_of}
use Rattle.journals.specs.Lines.{fields_of}
use Rattle.journals.specs.inner.Taking.{PutsSoFar}
use Rattle.journals.proofs.line.push_fields.Given as goal

abbrev pub invariant-loop-place : goal.invariant-loop-place
invariant-loop-place l = record {
  so : PutsSoFar (fields_of l.ranks (forms_of l.word l.count) l.initial.fields) (fields_of l.ranks (drop l.place (forms_of l.word l.count)) l.fields) l.initial.into.items l.into.items;
  left : l.place + length l.fields ≡ length l.initial.fields;
}
