use Rattle.std.proofs.Common.{◌∙◌, ap, length, arith}
use Rattle.mpicall.specs.declared.call.Call.{Call}
use Rattle.callstore.specs.Requests.{completes}
use Rattle.pairing.specs.Seen.{call_seen}
use Rattle.moves.proofs.WaitLemmas.{request_passes, requests_pass}
use Rattle.moves.proofs.look.look_at_requests.Goals as goal

pub loop-index-preserved : goal.loop-index-preserved
loop-index-preserved c =
    let w = c.args.world.now in
    let counted = c.completed_count-index-end.ensures ∙ ap (λ (call : Call). length (completes call)) c.call.ensures in
    request_passes w.reading w.pairs.groups w.pairs.recording c.args.positions.now.stands.items c.args.at.0 c.args.at.1 c.loop-index.index (call_seen c.args.call.now) c.requires.call (omega (arith, counted, c.loop-index-test.true)) c.loop-index.invariant c.in-Moves.ensures

pub returns : goal.returns
returns c =
    let w = c.args.world.now in
    let counted = c.completed_count-index-end.ensures ∙ ap (λ (call : Call). length (completes call)) c.call.ensures in
    requests_pass w.reading w.pairs.groups w.pairs.recording c.args.positions.now.stands.items c.args.at.0 c.args.at.1 c.loop-index.index (call_seen c.args.call.now) (omega (arith, counted, c.loop-index-test.false)) c.loop-index.invariant
