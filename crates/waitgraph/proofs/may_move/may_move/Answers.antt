use Rattle.std.proofs.Common.{◌∙◌, Some, None, refl, sym, ap}
use Rattle.std.specs.Prelude.{option_map}
use Rattle.pairing.specs.LeftOpen.{leaves_open}
use Rattle.pairing.specs.Seen.{call_seen}
use Rattle.waitgraph.specs.Pending.{view_of}
use Rattle.waitgraph.proofs.AskedLemmas.{call_asked}
use Rattle.waitgraph.proofs.MovingLemmas.{at_no_call, at_call, at_open, pending_there, no_pending}
use Rattle.waitgraph.proofs.may_move.may_move.Goals as goal

pub returns-in_default : goal.returns-in_default
returns-in_default c = at_no_call c.args.scene.now c.args.marks.now c.args.rank c.stand_of-place.result c.stand_of-place.ensures (sym c.at.ensures.call ∙ ap (option_map call_seen) c.in_default.is)

pub returns-then-not-leaves_open : goal.returns-then-not-leaves_open
returns-then-not-leaves_open c =
    at_call c.args.scene.now c.args.marks.now c.args.rank c.stand_of-place.result (call_seen c.in-Some.call) c.call_comes.result c.stand_of-place.ensures
    (sym c.at.ensures.call ∙ ap (option_map call_seen) c.in-Some.is)
    (sym (c.leaves_open.ensures ∙ ap leaves_open c.call.ensures) ∙ c.if-not-leaves_open.true)
    c.call_comes.ensures

pub returns-in-Some-get : goal.returns-in-Some-get
returns-in-Some-get c =
    at_open c.args.scene.now c.args.marks.now c.args.rank c.stand_of-place.result (call_seen c.in-Some.call) (Some (view_of c.in-Some-get.pending.now)) c.pending_comes.result c.stand_of-place.ensures
    (sym c.at.ensures.call ∙ ap (option_map call_seen) c.in-Some.is)
    (sym (c.leaves_open.ensures ∙ ap leaves_open c.call.ensures) ∙ c.if-not-leaves_open.false)
    (pending_there c.args.scene.now c.args.marks.now c.args.rank c.from.result c.in-Some-get.pending.now c.from.ensures c.in-Some-get.ensures.lookup.3)
    c.pending_comes.ensures

pub returns-in-None : goal.returns-in-None
returns-in-None c =
    at_open c.args.scene.now c.args.marks.now c.args.rank c.stand_of-place.result (call_seen c.in-Some.call) None _ c.stand_of-place.ensures
    (sym c.at.ensures.call ∙ ap (option_map call_seen) c.in-Some.is)
    (sym (c.leaves_open.ensures ∙ ap leaves_open c.call.ensures) ∙ c.if-not-leaves_open.false)
    (no_pending c.args.scene.now c.args.marks.now c.args.rank c.from.result c.from.ensures c.in-None.ensures.lookup.3)
    refl

pub pending_comes-requires-clause-spares : goal.pending_comes-requires-clause-spares
pending_comes-requires-clause-spares c some =
    c.requires.spares (call_asked c.args.scene.now c.args.rank (view_of c.in-Some-get.pending.now)
    (pending_there c.args.scene.now c.args.marks.now c.args.rank c.from.result c.in-Some-get.pending.now c.from.ensures c.in-Some-get.ensures.lookup.3)
    some)
