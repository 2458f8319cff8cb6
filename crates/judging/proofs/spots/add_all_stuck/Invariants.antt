-- The calls of the stuck ranks so far.
use Rattle.std.proofs.Common.{◌≡◌, take}
use Rattle.std.specs.List.{flat_map}
use Rattle.judging.specs.NamedCalls.{calls_of_stuck}
use Rattle.judging.specs.inner.Spots.{with_calls}
use Rattle.judging.proofs.spots.add_all_stuck.Given as goal

abbrev pub invariant-loop-rank : goal.invariant-loop-rank
invariant-loop-rank l = l.spots.keys ≡ with_calls l.fn.spots.keys (flat_map (calls_of_stuck l.analyser.reading l.analyser.groups l.analyser.recording) (take l.rank-index l.ranks))
