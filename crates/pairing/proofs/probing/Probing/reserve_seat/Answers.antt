use Rattle.pairing.specs.inner.Seated.{seat_in}
use Rattle.pairing.proofs.ProbingLemmas.{reseated}
use Rattle.pairing.proofs.probing.Probing.reserve_seat.Goals as goal

pub returns-in_err-reserve-clause-kept : goal.returns-in_err-reserve-clause-kept
returns-in_err-reserve-clause-kept c groups recording are =
    let same = c.reserve.ensures.entries in
    reseated groups recording (seat_in c.args.self.now) (seat_in (record { probes = c.args.self.now.probes; seats = c.reserve.new.self })) c.args.self.now.probes (λ r p s h. rw same h) are

pub returns-clause-kept : goal.returns-clause-kept
returns-clause-kept c groups recording are =
    let same = c.reserve.ensures.entries in
    reseated groups recording (seat_in c.args.self.now) (seat_in (record { probes = c.reserve-2.new.self; seats = c.reserve.new.self })) c.reserve-2.new.self (λ r p s h. rw same h)
    (c.reserve-2.ensures.kept groups recording (seat_in c.args.self.now) are)
