use Rattle.std.proofs.Common.{◌≡◌, ℕ, sym, ap, ◌∙◌}
use Rattle.watches.specs.Published.{book_of}
use Rattle.watches.specs.inner.Shown.{list_shown}
use Rattle.watches.specs.declared.publication.Publication.{Publication}
use Rattle.watches.proofs.ViewLemmas.{sees}
use Rattle.watches.proofs.board.turn.Goals as goal

-- publications of one list have its name
same_name : (x y : Publication) → book_of y ≡ book_of x → list_shown y ≡ list_shown x
same_name x y same = ap (λ (name : ℕ). record { known = 1; name = name }) same

pub show_as-requires : goal.show_as-requires
show_as-requires g c =
    let shown = c.open-open.result.0.shown.value in
    let still : c.args.writer.desk.shown.value ≡ shown = sym (ap (λ part. part.value) c.open-open.ensures.values.0) in
    sees _ _ shown c.copy_from.new.self (same_name shown c.copy_from.new.self (ap book_of c.copy_from.ensures ∙ c.requires.list ∙ ap book_of still))
