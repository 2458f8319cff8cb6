use Rattle.std.proofs.Common.{◌≡◌, ◌≤◌, ℕ, Option, Some, List, ◌++◌, length, flat_map, get_or, ap, ◌∙◌, arith}
use Rattle.std.specs.List.{slice_get}
use Rattle.std.proofs.lemmas.List.{take_all}
use Rattle.std.proofs.lemmas.Option.{slice_get-get_or}
use Rattle.mpicall.specs.declared.call.Call.{Call}
use Rattle.callstore.specs.Requests.{completes, started_before}
use Rattle.pairing.specs.Seen.{call_seen}
use Rattle.moves.specs.declared.need.Need.{Need}
use Rattle.moves.proofs.WaitLemmas.{start_is}
use Rattle.waitgraph.specs.PendingNeeds.{request_blocks}
use Rattle.waitgraph.specs.inner.Scenes.{comes}
use Rattle.waitgraph.proofs.BlockedLemmas.{adds_list}
use Rattle.waitgraph.proofs.blocked.add_requests.Goals as goal

pub loop-index-preserved : goal.loop-index-preserved
loop-index-preserved c =
    let w = c.args.scene.now.world.now in
    let reqs = completes (call_seen c.args.call.now) in
    let req = get_or reqs c.loop-index.index 0 in
    let counted = c.completed_count-index-end.ensures ∙ ap (λ (call : Call). length (completes call)) c.call.ensures in
    let there : slice_get reqs c.loop-index.index ≡ Some req = slice_get-get_or reqs c.loop-index.index 0 (omega (arith, counted)) in
    c.in_ok-add_request.ensures
    ∙ ap (λ (start : Option ℕ). c.loop-index.needs.items ++ request_blocks (comes c.args.scene.now c.args.marks.now) w.reading w.pairs.groups w.pairs.recording c.args.scene.now.sinks.now c.args.at.0 start) (c.completed-start.ensures ∙ start_is w.pairs.recording c.args.at.0 c.args.at.1 c.loop-index.index req (call_seen c.args.call.now) c.requires there)
    ∙ ap (λ (needs : List Need). needs ++ request_blocks (comes c.args.scene.now c.args.marks.now) w.reading w.pairs.groups w.pairs.recording c.args.scene.now.sinks.now c.args.at.0 (started_before w.pairs.recording c.args.at.0 c.args.at.1 req)) c.loop-index.invariant
    ∙ adds_list c.args.needs.now.items (λ req. request_blocks (comes c.args.scene.now c.args.marks.now) w.reading w.pairs.groups w.pairs.recording c.args.scene.now.sinks.now c.args.at.0 (started_before w.pairs.recording c.args.at.0 c.args.at.1 req)) reqs c.loop-index.index req there

pub returns : goal.returns
returns c =
    let w = c.args.scene.now.world.now in
    let reqs = completes (call_seen c.args.call.now) in
    let counted = c.completed_count-index-end.ensures ∙ ap (λ (call : Call). length (completes call)) c.call.ensures in
    let whole : length reqs ≤ c.loop-index.index = omega (arith, counted) in
    c.loop-index.invariant
    ∙ ap (λ (some : List ℕ). c.args.needs.now.items ++ flat_map (λ req. request_blocks (comes c.args.scene.now c.args.marks.now) w.reading w.pairs.groups w.pairs.recording c.args.scene.now.sinks.now c.args.at.0 (started_before w.pairs.recording c.args.at.0 c.args.at.1 req)) some) (take_all c.loop-index.index reqs whole)
