-- The line of a held rank at its open by its parts.
use Rattle.std.proofs.Common.{◌≡◌, ℕ, Option, List, [], ◌∷◌, ◌++◌, flat_map, map, refl, sym, ap, subst, ◌∙◌, append_assoc, append-nil}
use Rattle.std.specs.Prelude.{codes}
use Rattle.std.specs.List.{join_with_byte}
use Rattle.mpicall.specs.Spelling.{space, line_feed}
use Rattle.waitgraph.specs.declared.pending.Item.{Item}
use Rattle.report.specs.PendingReport.{item_text}
use Rattle.report.specs.TextReport.{line}
use Rattle.report.specs.inner.Printing.{with_fields, Prints}
use Rattle.report.specs.declared.write.printer.Printer.{Printer}
use Rattle.report.proofs.PrintingLemmas.{prints_more}
use Rattle.report.proofs.SpelledLemmas.{line_put, fields-append}

-- fields after a text and another
fields_behind : (front bytes : List ℕ) (fields : List (List ℕ)) → with_fields (front ++ bytes) fields ≡ front ++ with_fields bytes fields
fields_behind front bytes [] = refl
fields_behind front bytes (field ∷ fields) =
    ap (λ (text : List ℕ). with_fields text fields) (append_assoc front bytes (space ∷ field)) ∙ fields_behind front (bytes ++ space ∷ field) fields

items_spread : (bytes : List ℕ) (items : List Item) → with_fields bytes (map item_text items) ≡ bytes ++ flat_map (λ one. space ∷ item_text one) items
items_spread bytes [] = sym (append-nil bytes)
items_spread bytes (one ∷ items) =
    items_spread (bytes ++ space ∷ item_text one) items ∙ append_assoc bytes (space ∷ item_text one) (flat_map (λ one. space ∷ item_text one) items)

-- the front with the word, the items, and what is waited for
pub line_parts : (word : List ℕ) (front : List (List ℕ)) (items : List Item) (fields : List (List ℕ)) →
    (with_fields word front ++ flat_map (λ one. space ∷ item_text one) items) ++ (with_fields (codes " waits") fields ++ line_feed ∷ [])
    ≡ line (word ∷ (front ++ map item_text items) ++ codes "waits" ∷ fields)
line_parts word front items fields =
    let head = with_fields word front in
    let spread : with_fields word (front ++ map item_text items) ≡ with_fields word front ++ flat_map (λ one. space ∷ item_text one) items =
    fields-append word front (map item_text items) ∙ items_spread (with_fields word front) items in
    ap (λ (text : List ℕ). text ++ (with_fields (codes " waits") fields ++ line_feed ∷ [])) (sym spread)
    ∙ sym (append_assoc (with_fields word (front ++ map item_text items)) (with_fields (codes " waits") fields) (line_feed ∷ []))
    ∙ ap (λ (text : List ℕ). text ++ line_feed ∷ [])
    (sym (fields_behind (with_fields word (front ++ map item_text items)) (codes " waits") fields)
    ∙ sym (fields-append word (front ++ map item_text items) (codes "waits" ∷ fields)))
    ∙ line_put [] word ((front ++ map item_text items) ++ codes "waits" ∷ fields)

pub prints_awaited : {O : Type 0} (written : O → Option (List ℕ)) (failures : O → ℕ) (a b c d : O) (p q r s : Printer) (rank at stand word : List ℕ) (items shown : List Item) (fields : List (List ℕ)) →
    Prints written failures a p b q (with_fields (codes "rank") (rank ∷ at ∷ stand ∷ word ∷ [])) → Prints written failures b q c r (flat_map (λ one. space ∷ item_text one) shown) → shown ≡ items → Prints written failures c r d s (with_fields (codes " waits") fields ++ line_feed ∷ []) →
    Prints written failures a p d s (line (codes "rank" ∷ rank ∷ at ∷ stand ∷ (word ∷ map item_text items) ++ codes "waits" ∷ fields))
prints_awaited written failures a b c d p q r s rank at stand word items shown fields first next same last =
    subst (λ (text : List ℕ). Prints written failures a p d s text)
    (ap (λ (ones : List Item). (with_fields (codes "rank") (rank ∷ at ∷ stand ∷ word ∷ []) ++ flat_map (λ one. space ∷ item_text one) ones) ++ (with_fields (codes " waits") fields ++ line_feed ∷ [])) same
    ∙ line_parts (codes "rank") (rank ∷ at ∷ stand ∷ word ∷ []) items fields)
    (prints_more written failures a c d p r s (with_fields (codes "rank") (rank ∷ at ∷ stand ∷ word ∷ []) ++ flat_map (λ one. space ∷ item_text one) shown) (with_fields (codes " waits") fields ++ line_feed ∷ [])
    (prints_more written failures a b c p q r (with_fields (codes "rank") (rank ∷ at ∷ stand ∷ word ∷ [])) (flat_map (λ one. space ∷ item_text one) shown) first next) last)

-- the word and the items as one text
pub joined_items : (word : List ℕ) (items : List Item) → join_with_byte space (word ∷ map item_text items) ≡ word ++ flat_map (λ one. space ∷ item_text one) items
joined_items word [] = sym (append-nil word)
joined_items word (one ∷ items) = ap (λ (text : List ℕ). word ++ (space ∷ text)) (joined_items (item_text one) items)
