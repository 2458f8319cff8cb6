use Rattle.std.proofs.Common.{◌≡◌, ◌↔◌, true, subst}
use Rattle.callstore.specs.Recordings.{IsClosed}
use Rattle.moves.specs.Analysed.{Analysed}
use Rattle.moves.proofs.analyser.Analyser.is_closed.Goals as goal

pub returns : goal.returns
returns c =
    subst (λ (a : Analysed). (c.are_closed.result ≡ true) ↔ IsClosed a.recording) c.self.view_is c.are_closed.ensures
