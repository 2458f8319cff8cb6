use Rattle.std.proofs.Common.{◌∙◌, is_some, sym, ap}
use Rattle.std.specs.Prelude.{option_map}
use Rattle.std.proofs.lemmas.Result.{on_ok_weaker}
use Rattle.callstore.specs.Requests.{starts}
use Rattle.pairing.specs.Seen.{call_seen}
use Rattle.waitgraph.specs.inner.Stuck.{is_unmet}
use Rattle.waitgraph.proofs.UnmetLemmas.{adds_needs, adds_nothing}
use Rattle.waitgraph.proofs.unmet.add_needs.Goals as goal

pub returns-in_ok-add_operation_needs-in-Some : goal.returns-in_ok-add_operation_needs-in-Some
returns-in_ok-add_operation_needs-in-Some c =
    let w = c.args.world.now in
    on_ok_weaker c.add_completed_needs.result
    (adds_needs w.reading w.pairs.groups w.pairs.recording c.args.at.0 c.args.at.1 (call_seen c.in-Some.call) (is_unmet c.args.stands.now) c.args.unmet.now.items c.add_operation_needs.new.unmet.items c.add_completed_needs.new.unmet.items
    (sym c.at.ensures.call ∙ ap (option_map call_seen) c.in-Some.is)
    (sym (ap is_some (c.starts.ensures ∙ ap starts c.call.ensures)) ∙ c.if-is_none.ensures)
    c.in_ok-add_operation_needs-in-Some.ensures)
    c.add_completed_needs.ensures

pub returns-in_default : goal.returns-in_default
returns-in_default c =
    let w = c.args.world.now in
    adds_nothing w.reading w.pairs.groups w.pairs.recording c.args.at.0 c.args.at.1 (call_seen c.in-Some.call) (is_unmet c.args.stands.now) c.args.unmet.now.items
    (sym c.at.ensures.call ∙ ap (option_map call_seen) c.in-Some.is)
    (sym (ap is_some (c.starts.ensures ∙ ap starts c.call.ensures)) ∙ c.if-is_none.ensures)
