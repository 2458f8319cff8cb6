use Rattle.std.proofs.Common.{◌∙◌, is_some, sym, ap}
use Rattle.std.proofs.lemmas.Result.{on_ok_weaker}
use Rattle.callstore.specs.Requests.{starts}
use Rattle.pairing.specs.Seen.{call_seen}
use Rattle.waitgraph.proofs.BlockedLemmas.{two_added, none_added}
use Rattle.waitgraph.proofs.blocked.add_call.Goals as goal

pub returns-then-is_some : goal.returns-then-is_some
returns-then-is_some c =
    none_added (is_some (starts (call_seen c.args.call.now))) c.args.needs.now.items _
    (sym (ap is_some (c.starts.ensures ∙ ap starts c.call.ensures)) ∙ sym c.is_some.ensures ∙ c.if-is_some.true)

pub returns : goal.returns
returns c =
    on_ok_weaker c.add_requests.result
    (two_added (is_some (starts (call_seen c.args.call.now))) c.args.needs.now.items c.add_operation.new.needs.items c.add_requests.new.needs.items _ _
    (sym (ap is_some (c.starts.ensures ∙ ap starts c.call.ensures)) ∙ sym c.is_some.ensures ∙ c.if-is_some.false) c.in_ok-add_operation.ensures)
    c.add_requests.ensures
