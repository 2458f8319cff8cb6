-- The fields of the line are put on the page one by one.
use Rattle.std.proofs.Common.{◌≡◌, List, ℕ, ◌∷◌, [], ◌++◌, codes, sym, ap, ◌∙◌, slice_index, refl}
use Rattle.std.specs.Fmt.{decimal}
use Rattle.mpicall.specs.Spelling.{space, line_feed}
use Rattle.moves.specs.Stands.{stands_of}
use Rattle.report.specs.inner.Printing.{with_fields}
use Rattle.report.specs.TextReport.{need_fields, present_fields}
use Rattle.report.proofs.SpelledLemmas.{line_put, fields-append}
use Rattle.report.proofs.write.text.push_unmet.Goals as goal

pub returns : goal.returns
returns c =
    let stands = stands_of c.args.analyser.now.reading c.args.analyser.now.groups c.args.analyser.now.recording in
    let page = c.args.page.now in
    let present = present_fields c.args.analyser.now.reading c.args.analyser.now.groups c.args.analyser.now.recording c.args.rank in
    let need = need_fields c.args.need.now in
    let first : List (List ℕ) = decimal c.args.rank ∷ codes "at" ∷ decimal (slice_index stands c.args.rank) ∷ present in
    let so_far : c.push_call_at.new.page ≡ with_fields (page ++ codes "rank") first =
    rw (c.push_call_at.ensures.value, c.push_number-2.ensures.value, c.push_field.ensures.value, c.push_number.ensures.value, c.push_str.ensures.value, c.stand_of-stand.ensures, c.from.ensures) refl in
    let fields : c.push_need.new.page ≡ with_fields (page ++ codes "rank") (first ++ codes "waits" ∷ need) =
    c.push_need.ensures.value ∙ ap (λ (bytes : List ℕ). with_fields bytes need) (c.push_field-2.ensures.value ∙ ap (λ (bytes : List ℕ). bytes ++ space ∷ codes "waits") so_far)
    ∙ sym (fields-append (page ++ codes "rank") first (codes "waits" ∷ need)) in
    c.push_str-2.ensures.value ∙ ap (λ (bytes : List ℕ). bytes ++ line_feed ∷ []) fields
    ∙ line_put page (codes "rank") (first ++ codes "waits" ∷ need)
