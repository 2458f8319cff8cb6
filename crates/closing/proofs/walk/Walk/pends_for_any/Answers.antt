-- By whether each request gives an item.
use Rattle.std.proofs.Common.{sym, ◌∙◌}
use Rattle.std.specs.Prelude.{is_some}
use Rattle.std.specs.List.{filter_map, list_all}
use Rattle.closing.specs.inner.Sunk.{item_at}
use Rattle.closing.proofs.SunkWaits.{all_items, both_fine, none_items}
use Rattle.closing.proofs.walk.Walk.pends_for_any.Goals as goal

pub returns-then-are_items-clause-pending : goal.returns-then-are_items-clause-pending
returns-then-are_items-clause-pending c = both_fine _ _ c.pends_for_requests.result (λ has none.
    let at = item_at c.args.self.now.requests c.args.self.now.sinks c.args.self.now.list in
    has ∙ all_items c.args.self.now.pending (list_all (λ field. is_some (at field)) c.args.requests.now) (filter_map at c.args.requests.now) none (sym c.are_items.ensures ∙ c.if-are_items.true))
    c.pends_for_requests.ensures.pending

pub returns-clause-pending : goal.returns-clause-pending
returns-clause-pending c = λ none.
    let at = item_at c.args.self.now.requests c.args.self.now.sinks c.args.self.now.list in
    none_items c.args.self.now.pending (list_all (λ field. is_some (at field)) c.args.requests.now) (filter_map at c.args.requests.now) none (sym c.are_items.ensures ∙ c.if-are_items.false)
