-- A request more.
use Rattle.std.proofs.Common.{◌∙◌, ap, arith, sym}
use Rattle.callstore.specs.Recordings.{Lists}
use Rattle.pairing.specs.Pairs.{completed_of}
use Rattle.judging.proofs.SpotLemmas.{count_requests, starts_all, starts_more}
use Rattle.judging.proofs.spots.add_starts.Goals as goal

pub loop-index-preserved : goal.loop-index-preserved
loop-index-preserved c =
    let recording = c.args.analyser.now.recording in
    let rank = c.args.rank in
    let place = c.args.place in
    let count = count_requests recording rank place c.in-Some.record c.as_call.result.now c.completes-index-end.result.now (sym c.record.ensures ∙ c.in-Some.is) c.as_call.ensures.value c.completes-index-end.ensures in
    starts_more recording rank place c.loop-index.index c.completed-start.result c.args.spots.now.keys c.loop-index.spots.keys c.add_there.new.spots.keys (omega (arith, c.loop-index-test.true, count)) c.loop-index.invariant
    (c.completed-start.ensures ∙ ap (λ (r : Lists). completed_of r rank place c.loop-index.index) c.pairs.ensures.recording) c.in_ok-add_there.ensures

pub returns : goal.returns
returns c =
    let recording = c.args.analyser.now.recording in
    let rank = c.args.rank in
    let place = c.args.place in
    let count = count_requests recording rank place c.in-Some.record c.as_call.result.now c.completes-index-end.result.now (sym c.record.ensures ∙ c.in-Some.is) c.as_call.ensures.value c.completes-index-end.ensures in
    starts_all recording rank place c.loop-index.index c.args.spots.now.keys c.loop-index.spots.keys (omega (arith, c.loop-index-test.false, count)) c.loop-index.invariant
