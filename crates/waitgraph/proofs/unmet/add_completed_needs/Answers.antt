use Rattle.std.proofs.Common.{◌≡◌, ◌≤◌, ℕ, Option, Some, List, [], ◌++◌, length, flat_map, get_or, ap, ◌∙◌, arith}
use Rattle.std.specs.List.{slice_get, filter}
use Rattle.std.specs.Option.{option_map_or}
use Rattle.std.proofs.lemmas.List.{take_all}
use Rattle.std.proofs.lemmas.Option.{slice_get-get_or}
use Rattle.mpicall.specs.declared.call.Call.{Call}
use Rattle.callstore.specs.Requests.{completes}
use Rattle.pairing.specs.Seen.{call_seen}
use Rattle.moves.specs.declared.need.Need.{Need}
use Rattle.moves.specs.Needs.{request_needs, operation_needs_at}
use Rattle.moves.proofs.WaitLemmas.{start_is}
use Rattle.waitgraph.specs.inner.Stuck.{is_unmet}
use Rattle.waitgraph.proofs.AddingLemmas.{add_one_list}
use Rattle.waitgraph.proofs.unmet.add_completed_needs.Goals as goal

pub loop-index-preserved : goal.loop-index-preserved
loop-index-preserved c =
    let w = c.args.world.now in
    let reqs = completes (call_seen c.args.call.now) in
    let req = get_or reqs c.loop-index.index 0 in
    let counted = c.completed_count-index-end.ensures ∙ ap (λ (call : Call). length (completes call)) c.call.ensures in
    let there : slice_get reqs c.loop-index.index ≡ Some req = slice_get-get_or reqs c.loop-index.index 0 (omega (arith, counted)) in
    c.in_ok-add_request_needs.ensures
    ∙ ap (λ (start : Option ℕ). c.loop-index.unmet.items ++ filter (is_unmet c.args.stands.now) (option_map_or (operation_needs_at w.reading w.pairs.groups w.pairs.recording c.args.at.0) start [])) (start_is w.pairs.recording c.args.at.0 c.args.at.1 c.loop-index.index req (call_seen c.args.call.now) c.requires there)
    ∙ ap (λ (needs : List Need). needs ++ filter (is_unmet c.args.stands.now) (request_needs w.reading w.pairs.groups w.pairs.recording c.args.at.0 c.args.at.1 req)) c.loop-index.invariant
    ∙ add_one_list c.args.stands.now c.args.unmet.now.items (request_needs w.reading w.pairs.groups w.pairs.recording c.args.at.0 c.args.at.1) reqs c.loop-index.index req there

pub returns : goal.returns
returns c =
    let w = c.args.world.now in
    let reqs = completes (call_seen c.args.call.now) in
    let counted = c.completed_count-index-end.ensures ∙ ap (λ (call : Call). length (completes call)) c.call.ensures in
    let whole : length reqs ≤ c.loop-index.index = omega (arith, counted) in
    c.loop-index.invariant
    ∙ ap (λ (some : List ℕ). c.args.unmet.now.items ++ filter (is_unmet c.args.stands.now) (flat_map (request_needs w.reading w.pairs.groups w.pairs.recording c.args.at.0 c.args.at.1) some)) (take_all c.loop-index.index reqs whole)
