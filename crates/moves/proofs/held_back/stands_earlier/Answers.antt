use Rattle.std.proofs.Common.{◌≡◌, ℕ, Option, get_or, refl, ap, ◌∙◌}
use Rattle.std.specs.Option.{unwrap_or}
use Rattle.std.proofs.lemmas.Option.{unwrap_or-slice_get}
use Rattle.moves.proofs.held_back.stands_earlier.Goals as goal

pub returns : goal.returns
returns c =
    let one : c.unwrap_or.result ≡ get_or c.args.first.now.stands c.args.rank 0 = c.unwrap_or.ensures ∙ ap (λ (o : Option ℕ). unwrap_or o 0) c.stand.ensures ∙ unwrap_or-slice_get c.args.first.now.stands c.args.rank 0 in
    let other : c.unwrap_or-2.result ≡ get_or c.args.second.now.stands c.args.rank 0 = c.unwrap_or-2.ensures ∙ ap (λ (o : Option ℕ). unwrap_or o 0) c.stand-2.ensures ∙ unwrap_or-slice_get c.args.second.now.stands c.args.rank 0 in
    rw (one, other) refl
