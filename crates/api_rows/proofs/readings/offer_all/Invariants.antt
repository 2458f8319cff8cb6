-- Both have the same calls.
use Rattle.std.proofs.Common.{◌≡◌}
use Rattle.api_rows.proofs.readings.offer_all.Given as goal

abbrev pub invariant-loop-rank : goal.invariant-loop-rank
invariant-loop-rank l = record {
  first_reading : l.first.reading ≡ l.fn.first.reading;
  first_groups : l.first.groups ≡ l.fn.first.groups;
  second_reading : l.second.reading ≡ l.fn.second.reading;
  second_groups : l.second.groups ≡ l.fn.second.groups;
  recordings : l.first.recording ≡ l.second.recording;
}
