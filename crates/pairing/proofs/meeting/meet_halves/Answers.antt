use Rattle.std.proofs.Common.{subst, sym}
use Rattle.std.specs.Prelude.{IfSome}
use Rattle.callstore.specs.declared.envelope.Half.TheVariants.{Send as SendHalf, Recv as RecvHalf}
use Rattle.pairing.specs.inner.Matched.{filed_on, IsNext}
use Rattle.callstore.specs.Recordings.{Lists}
use Rattle.pairing.proofs.FiledLemmas.{recv_next_still, envelopes}
use Rattle.pairing.proofs.meeting.meet_halves.Goals as goal

pub returns-clause-paired : goal.returns-clause-paired
returns-clause-paired c filing paired send recv =
    let sent = c.meet_half.ensures.paired filing paired send in
    c.meet_half-2.ensures.paired (filed_on SendHalf (envelopes c.args.halves.now.send) c.args.at.1 filing) sent
    (subst (λ (recording : Lists). IfSome c.args.halves.now.recv (λ it. IsNext c.args.head.now recording (filed_on SendHalf (envelopes c.args.halves.now.send) c.args.at.1 filing) c.args.at.0 c.args.at.1 RecvHalf it.envelope)) (sym c.meet_half.ensures.recording)
    (recv_next_still c.args.head.now _ filing c.args.at.0 c.args.at.1 (envelopes c.args.halves.now.send) c.args.halves.now.recv recv))
