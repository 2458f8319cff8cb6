use Rattle.std.proofs.Common.{◌≡◌, Some, None}
use Rattle.callstore.specs.Communicators.{makes}
use Rattle.pairing.proofs.HoldingLemmas.{held_more, held_same}
use Rattle.pairing.proofs.made_comms.MadeComms.put.Goals as goal

pub returns-in-Some : goal.returns-in-Some
returns-in-Some c recording is_held is_rank =
    let makes_it : makes c.args.call.now ≡ Some c.in-Some.comm = cc in
    let updates = rw c.unwrap.ensures at c.insert.ensures.updates in
    held_more recording c.args.self.now (record { pairs = c.insert.new.self }) c.args.rank c.in-Some.comm c.args.call.now makes_it (λ r comm. updates.0 (record { rank = r; comm = comm })) is_rank is_held

pub returns-in_default : goal.returns-in_default
returns-in_default c recording is_held is_rank =
    let makes_none : makes c.args.call.now ≡ None = cc in
    held_same recording c.args.self.now c.args.rank c.args.call.now makes_none is_rank is_held
