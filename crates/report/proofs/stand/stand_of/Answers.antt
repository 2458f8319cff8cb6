use Rattle.std.proofs.Common.{ℕ, Option, List, slice_index, ap, ◌∙◌}
use Rattle.std.specs.Prelude.{unwrap_or}
use Rattle.std.proofs.lemmas.Option.{unwrap_or-slice_get}
use Rattle.report.proofs.stand.stand_of.Goals as goal

pub returns : goal.returns
returns c =
    c.unwrap_or.ensures
    ∙ ap (λ (stand : Option ℕ). unwrap_or stand 0) c.stand.ensures
    ∙ unwrap_or-slice_get c.args.analyser.now.stands c.args.rank 0
    ∙ ap (λ (stands : List ℕ). slice_index stands c.args.rank) c.stands_are_the_end.ensures.stands
