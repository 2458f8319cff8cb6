use Rattle.std.proofs.Common.{◌≡◌, ◌++◌, flat_map, take}
use Rattle.std.specs.List.{filter}
use Rattle.callstore.specs.Requests.{completes}
use Rattle.pairing.specs.Seen.{call_seen}
use Rattle.moves.specs.Needs.{request_needs}
use Rattle.waitgraph.specs.inner.Stuck.{is_unmet}
use Rattle.waitgraph.proofs.unmet.add_completed_needs.Given as goal

-- what each request so far still needs
abbrev pub invariant-loop-index : goal.invariant-loop-index
invariant-loop-index l = l.unmet.items ≡ l.fn.unmet.items ++ filter (is_unmet l.stands) (flat_map (request_needs l.world.reading l.world.pairs.groups l.world.pairs.recording l.at.0 l.at.1) (take l.index (completes (call_seen l.call))))
