-- What was read of the sources is what the ledger concludes by.
use Rattle.std.proofs.Common.{ap, ◌∙◌}
use Rattle.gather.specs.Collected.{Kept}
use Rattle.driver.proofs.WholeLemmas.{read_closed, concludes_by_turns, concludes_well, concludes_refusing}
use Rattle.driver.proofs.run.outcome_in_turns.Goals as goal

pub conclude-requires : goal.conclude-requires
conclude-requires g c = read_closed g.I.Input.left (g.G.Gate.may_answer c.args.gate.now) c.args.sources.items c.read_in_turns.result c.read_in_turns.ensures.read

pub returns-in-Ok-new-clause-ok : goal.returns-in-Ok-new-clause-ok
returns-in-Ok-new-clause-ok g c =
    concludes_well g.I.Input.left (g.G.Gate.may_answer c.args.gate.now) c.args.sources.items c.read_in_turns.result c.args.reading c.args.head c.conclude.result
    c.read_in_turns.ensures.read (c.read_in_turns.ensures.reading ∙ ap (λ (k : Kept). k.reading) c.in-Ok-new.ensures) (c.read_in_turns.ensures.groups ∙ ap (λ (k : Kept). k.groups) c.in-Ok-new.ensures) c.conclude.ensures

pub returns-in-Ok-new-clause-fault : goal.returns-in-Ok-new-clause-fault
returns-in-Ok-new-clause-fault g c =
    concludes_refusing g.I.Input.left (g.G.Gate.may_answer c.args.gate.now) c.args.sources.items c.read_in_turns.result c.args.reading c.args.head c.conclude.result
    c.read_in_turns.ensures.read (c.read_in_turns.ensures.reading ∙ ap (λ (k : Kept). k.reading) c.in-Ok-new.ensures) (c.read_in_turns.ensures.groups ∙ ap (λ (k : Kept). k.groups) c.in-Ok-new.ensures) c.conclude.ensures

pub returns-in-Ok-new-clause-turns : goal.returns-in-Ok-new-clause-turns
returns-in-Ok-new-clause-turns g c =
    concludes_by_turns g.I.Input.left (g.G.Gate.may_answer c.args.gate.now) c.args.sources.items c.read_in_turns.result c.conclude.result c.read_in_turns.ensures.read c.conclude.ensures
