use Rattle.std.proofs.Common.{◌≡◌, ◌≤◌, subst, rules}
use Rattle.moves.specs.Analysed.{Analysed, most_touches, ranks_waiting}
use Rattle.moves.specs.inner.Waiting.{touches_of}
use Rattle.moves.proofs.SettleLemmas.{touches_within, waiting_linked}
use Rattle.moves.proofs.analyser.Analyser.touches.Goals as goal

pub returns-clause-most : goal.returns-clause-most
returns-clause-most c =
    let a = c.self.inside in
    let is : touches_of a.positions.progress a.positions.waiters ≡ c.saturating_add.result = search rules in
    let within = touches_within a.world.reading a.world.pairs.groups a.world.pairs.recording a.positions.stands.items a.positions.progress a.positions.waiters c.self.invariant in
    subst (λ n. n ≤ most_touches c.args.self.now.recording) is
    (subst (λ (b : Analysed). touches_of a.positions.progress a.positions.waiters ≤ most_touches b.recording) c.self.view_is within)

pub returns-clause-linked : goal.returns-clause-linked
returns-clause-linked c =
    let a = c.self.inside in
    subst (λ (b : Analysed). ranks_waiting b.recording b.stands ≤ b.work) c.self.view_is
    (waiting_linked a.world.reading a.world.pairs.groups a.world.pairs.recording a.positions.stands.items a.positions.progress a.positions.waiters c.self.invariant (search rules))
