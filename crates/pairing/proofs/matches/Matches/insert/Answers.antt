use Rattle.pairing.proofs.MatchedLemmas.{insert_grown}
use Rattle.pairing.proofs.matches.Matches.insert.Goals as goal

pub returns-clause-grown : goal.returns-clause-grown
returns-clause-grown c =
    rw (← c.self.view_is)
    (insert_grown c.self.inside.envelope_index c.insert.new.self c.args.envelope c.self.inside.pending.lists c.self.inside.pending.spare c.self.inside.pending.work
    c.in_ok-number.ensures.ok c.self.invariant)
