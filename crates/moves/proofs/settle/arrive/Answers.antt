use Rattle.std.proofs.Common.{sym, ◌∙◌}
use Rattle.moves.proofs.SettleLemmas.{arrived_reaching, arrived_settled}
use Rattle.moves.proofs.settle.arrive.Goals as goal

pub settle-requires : goal.settle-requires
settle-requires c =
    let w = c.args.world.now in
    let p = c.args.positions.now in
    let there = sym c.stand.ensures ∙ c.if-stand-place.true in
    rw there (arrived_reaching w.reading w.pairs.groups w.pairs.recording p.stands.items p.progress p.waiters c.args.rank c.args.place c.requires there)

pub returns-else-stand-place-clause-settled : goal.returns-else-stand-place-clause-settled
returns-else-stand-place-clause-settled c =
    let w = c.args.world.now in
    let p = c.args.positions.now in
    arrived_settled w.reading w.pairs.groups w.pairs.recording p.stands.items p.progress p.waiters c.args.rank c.args.place c.requires
    (λ there. c.if-stand-place.false (c.stand.ensures ∙ there))
