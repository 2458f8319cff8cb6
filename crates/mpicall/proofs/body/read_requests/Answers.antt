-- One request after the other is read.
use Rattle.std.proofs.Common.{sym, ◌∙◌, ◌∷◌, ◌<◌, length, arith}
use Rattle.std.proofs.lemmas.Bool.Decides.{nat_tests}
use Rattle.mpicall.proofs.BodyLemmas.{SoFar, requests_begin, requests_step}
use Rattle.mpicall.proofs.ArgumentLemmas.{number_split}
use Rattle.mpicall.specs.declared.limits.TheConstants.{GREATEST_REQUEST}
use Rattle.mpicall.proofs.body.read_requests.Goals as goal

pub loop-fields-init : goal.loop-fields-init
loop-fields-init c = rw c.set_only.ensures (requests_begin _ _ _ c.in-Some.ensures)

pub loop-fields-preserved : goal.loop-fields-preserved
loop-fields-preserved c =
    let split = number_split c.loop-fields.fields c.next_request-in-loop-fields.new.fields GREATEST_REQUEST c.in-Some-next_request.req c.in-Some-next_request.ensures in
    let so_far : SoFar c.args.fields c.loop-fields.reqs (split.0 ∷ c.next_request-in-loop-fields.new.fields) = rw split.1 at c.loop-fields.invariant in
    let most = c.loop-fields.invariant.most in
    let other = sym c.is_full.ensures ∙ c.if-is_full.false in
    let room : length c.loop-fields.reqs < 64 = grind (arith, nat_tests, most, other) in
    rw c.push.ensures (requests_step _ _ _ _ _ so_far room split.2)
