use Rattle.std.proofs.Common.{◌∙◌, ◌≤◌, length, length-set, arith}
use Rattle.std.proofs.lemmas.List.{length-map}
use Rattle.mpicall.specs.declared.limits.TheConstants.{MOST_REQUESTS}
use Rattle.callstore.specs.inner.Packed.{req_at, reqs_at}
use Rattle.callstore.proofs.PackedLemmas.{most_of}
use Rattle.callstore.proofs.StartLemmas.{written}
use Rattle.callstore.proofs.packing.reqs_at.Goals as goal

pub loop-i-preserved : goal.loop-i-preserved
loop-i-preserved c =
    let few : length c.args.places.now ≤ MOST_REQUESTS = omega (arith, most_of (reqs_at c.args.entries.now.items c.args.places.now) c.requires, length-map c.args.places.now (req_at c.args.entries.now.items)) in
    record {
      written = written (req_at c.args.entries.now.items) c.loop-i.reqs c.args.places.now c.loop-i.i c.req_at.result (omega (arith, few, c.loop-i.invariant.room)) (omega arith) c.req_at.ensures c.loop-i.invariant.written;
      room = length-set c.loop-i.reqs c.loop-i.i c.req_at.result ∙ c.loop-i.invariant.room;
    }
