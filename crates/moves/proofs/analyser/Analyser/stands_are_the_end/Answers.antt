use Rattle.std.proofs.Common.{◌≡◌, length, subst}
use Rattle.moves.specs.Runs.{IsTheEnd}
use Rattle.moves.specs.Needs.{can_move}
use Rattle.moves.specs.Analysed.{Analysed}
use Rattle.moves.specs.Stands.{stands_of}
use Rattle.moves.proofs.AnalyserLemmas.{end_stands}
use Rattle.moves.proofs.SettleLemmas.{settled_end}
use Rattle.moves.proofs.analyser.Analyser.stands_are_the_end.Goals as goal

pub returns-clause-end : goal.returns-clause-end
returns-clause-end c =
    let a = c.self.inside in
    subst (λ (b : Analysed). IsTheEnd (can_move b.reading b.groups b.recording) (length b.recording) b.stands) c.self.view_is (settled_end a.world.reading a.world.pairs.groups a.world.pairs.recording a.positions.stands.items a.positions.progress a.positions.waiters c.self.invariant)

pub returns-clause-stands : goal.returns-clause-stands
returns-clause-stands c =
    let a = c.self.inside in
    subst (λ (b : Analysed). b.stands ≡ stands_of b.reading b.groups b.recording) c.self.view_is (end_stands a.world.reading a.world.pairs.groups a.world.pairs.recording a.positions.stands.items (settled_end a.world.reading a.world.pairs.groups a.world.pairs.recording a.positions.stands.items a.positions.progress a.positions.waiters c.self.invariant))
