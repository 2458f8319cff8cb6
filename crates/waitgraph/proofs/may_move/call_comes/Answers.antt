use Rattle.std.proofs.Common.{Bool, is_some, ◌&&◌, length, sym, ap, ◌∙◌}
use Rattle.std.specs.List.{list_all, range_with_len}
use Rattle.callstore.specs.Requests.{starts, completes}
use Rattle.pairing.specs.Seen.{call_seen}
use Rattle.waitgraph.specs.inner.Scenes.{comes, index_passes}
use Rattle.waitgraph.proofs.ScenesLemmas.{passes_none, call_passes}
use Rattle.waitgraph.proofs.may_move.call_comes.Goals as goal

pub returns-then-is_some : goal.returns-then-is_some
returns-then-is_some c =
    passes_none (comes c.args.scene.now c.args.marks.now) (is_some (starts (call_seen c.args.call.now))) _
    (sym (ap is_some (c.starts.ensures ∙ ap starts c.call.ensures)) ∙ sym c.is_some.ensures ∙ c.if-is_some.true)

pub returns-then-operation_comes : goal.returns-then-operation_comes
returns-then-operation_comes c =
    call_passes c.args.scene.now c.args.marks.now c.args.at (call_seen c.args.call.now) c.requests_come.result c.operation_comes.result c.requires.present
    (sym (ap is_some (c.starts.ensures ∙ ap starts c.call.ensures)) ∙ sym c.is_some.ensures ∙ c.if-is_some.false) c.operation_comes.ensures
    (c.requests_come.ensures
    ∙ ap (λ (b : Bool). b && list_all (index_passes c.args.scene.now c.args.marks.now c.args.at) (range_with_len 0 (length (completes (call_seen c.args.call.now))))) (sym c.if-operation_comes.true))

pub returns-else-operation_comes : goal.returns-else-operation_comes
returns-else-operation_comes c =
    call_passes c.args.scene.now c.args.marks.now c.args.at (call_seen c.args.call.now) c.operation_comes.result c.operation_comes.result c.requires.present
    (sym (ap is_some (c.starts.ensures ∙ ap starts c.call.ensures)) ∙ sym c.is_some.ensures ∙ c.if-is_some.false) c.operation_comes.ensures
    (c.if-operation_comes.false
    ∙ ap (λ (b : Bool). b && list_all (index_passes c.args.scene.now c.args.marks.now c.args.at) (range_with_len 0 (length (completes (call_seen c.args.call.now))))) (sym c.if-operation_comes.false))
