use Rattle.pairing.proofs.meeting.meet_half.Goals as goal

pub returns-in-Some-clause-paired : goal.returns-in-Some-clause-paired
returns-in-Some-clause-paired c filing paired next =
    rw c.in-Some.is (c.meet_own.ensures.paired filing paired (rw c.in-Some.is at next))
