-- Where the rank stands, what it waits for, and the starts.
use Rattle.std.proofs.Common.{◌∙◌, ℕ, List, ap}
use Rattle.std.specs.Prelude.{slice_index}
use Rattle.judging.proofs.JudgeLemmas.{on_ok}
use Rattle.judging.proofs.SpotLemmas.{stuck_added}
use Rattle.judging.proofs.spots.add_stuck.Goals as goal

pub returns : goal.returns
returns c =
    let at = c.args.analyser.now in
    let rank = c.args.rank in
    on_ok c.add_starts.result _ _
    (λ starts. stuck_added at.reading at.groups at.recording rank c.stand_of-place.result c.unmet.result.now c.args.spots.now.keys c.add.new.spots.keys c.add_needs.new.spots.keys c.add_starts.new.spots.keys
    (c.stand_of-place.ensures ∙ ap (λ (stands : List ℕ). slice_index stands rank) (c.stands.ensures ∙ c.stands_are_the_end.ensures.stands)) (c.unmet.ensures ∙ c.requires rank)
    c.in_ok-add.ensures c.in_ok-add_needs.ensures starts)
    c.add_starts.ensures
