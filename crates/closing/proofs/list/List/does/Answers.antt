-- What the list gets is the step's line.
use Rattle.std.proofs.Common.{[], ◌∷◌, refl}
use Rattle.closing.specs.Steps.{plain}
use Rattle.closing.proofs.FreedPlaces.{plain_starts}
use Rattle.closing.proofs.ListLemmas.{comes_to, plain_line}
use Rattle.closing.proofs.list.List.does.Goals as goal

pub returns : goal.returns
returns c = λ handed progress line stands fits.
    comes_to handed progress line c.args.self.now c.add.new.self (plain line (c.args.call.now ∷ [])) (c.args.call.now ∷ []) c.add.result
    stands refl (plain_starts handed.frees line (c.args.call.now ∷ [])) (plain_line line (c.args.call.now ∷ [])) (c.add.ensures fits stands.short)
