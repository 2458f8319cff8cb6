use Rattle.std.proofs.Common.{◌≡◌, ◌∷◌, ◌++◌, string_bytes, flat_map, take}
use Rattle.mpicall.specs.Spelling.{space}
use Rattle.report.specs.PendingReport.{item_text}
use Rattle.report.proofs.json.pending.add_items.Given as goal

-- the items so far
abbrev pub invariant-loop-item : goal.invariant-loop-item
invariant-loop-item l = string_bytes l.text ≡ string_bytes l.fn.text ++ flat_map (λ one. space ∷ item_text one) (take l.item-index l.items)
