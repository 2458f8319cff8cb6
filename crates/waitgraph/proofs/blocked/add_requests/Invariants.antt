use Rattle.std.proofs.Common.{◌≡◌, ◌++◌, flat_map, take}
use Rattle.callstore.specs.Requests.{completes, started_before}
use Rattle.pairing.specs.Seen.{call_seen}
use Rattle.waitgraph.specs.PendingNeeds.{request_blocks}
use Rattle.waitgraph.specs.inner.Scenes.{comes}
use Rattle.waitgraph.proofs.blocked.add_requests.Given as goal

-- what each request so far needs and doesn't come
abbrev pub invariant-loop-index : goal.invariant-loop-index
invariant-loop-index l = l.needs.items ≡ l.fn.needs.items ++ flat_map (λ req. request_blocks (comes l.scene l.marks) l.scene.world.now.reading l.scene.world.now.pairs.groups l.scene.world.now.pairs.recording l.scene.sinks.now l.at.0 (started_before l.scene.world.now.pairs.recording l.at.0 l.at.1 req)) (take l.index (completes (call_seen l.call)))
