-- The starts of the requests so far.
use Rattle.std.proofs.Common.{◌≡◌, take}
use Rattle.std.specs.List.{flat_map}
use Rattle.judging.specs.inner.Spots.{with_calls}
use Rattle.judging.proofs.SpotLemmas.{requests_at, start_of}
use Rattle.judging.proofs.spots.add_starts.Given as goal

abbrev pub invariant-loop-index : goal.invariant-loop-index
invariant-loop-index l = l.spots.keys ≡ with_calls l.fn.spots.keys (flat_map (start_of l.analyser.recording l.rank l.place) (take l.index (requests_at l.analyser.recording l.rank l.place)))
