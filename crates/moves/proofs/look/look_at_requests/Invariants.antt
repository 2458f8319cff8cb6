use Rattle.std.proofs.Common.{◌≡◌, true, take}
use Rattle.std.specs.List.{list_all}
use Rattle.callstore.specs.Requests.{completes}
use Rattle.pairing.specs.Seen.{call_seen}
use Rattle.moves.specs.Needs.{request_needs, is_met}
use Rattle.moves.proofs.look.look_at_requests.Given as goal

-- each request so far has what it needs
abbrev pub invariant-loop-index : goal.invariant-loop-index
invariant-loop-index l = list_all (λ req. list_all (is_met l.positions.stands.items) (request_needs l.world.reading l.world.pairs.groups l.world.pairs.recording l.at.0 l.at.1 req)) (take l.index (completes (call_seen l.call))) ≡ true
