use Rattle.std.proofs.Common.{ℕ, List, ◌∷◌, ◌++◌, flat_map, sym, ap, ◌∙◌}
use Rattle.mpicall.specs.Spelling.{space}
use Rattle.waitgraph.specs.Pending.{view_of}
use Rattle.waitgraph.specs.declared.pending.Item.{Item}
use Rattle.report.specs.PendingReport.{item_text, pending_word}
use Rattle.report.proofs.OpenedLemmas.{joined_items}
use Rattle.report.proofs.json.pending.pending_text.Goals as goal

pub returns : goal.returns
returns c =
    c.in_ok-add_items.ensures
    ∙ ap (λ (bytes : List ℕ). bytes ++ flat_map (λ one. space ∷ item_text one) c.items.result.now) (c.in_ok-text.ensures.ok ∙ c.pending_word.ensures.value)
    ∙ ap (λ (items : List Item). pending_word (view_of c.args.call.now) ++ flat_map (λ one. space ∷ item_text one) items) c.items.ensures
    ∙ sym (joined_items (pending_word (view_of c.args.call.now)) (view_of c.args.call.now).items)
