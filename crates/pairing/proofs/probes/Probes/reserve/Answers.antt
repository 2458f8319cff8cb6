use Rattle.std.proofs.Common.{refl}
use Rattle.pairing.proofs.ProbingLemmas.{seats_stay}
use Rattle.pairing.proofs.probes.Probes.reserve.Goals as goal

pub returns-in_err-reserve-clause-kept : goal.returns-in_err-reserve-clause-kept
returns-in_err-reserve-clause-kept c groups recording seating are =
    seats_stay groups recording seating c.args.self.now (record { seats = c.reserve.new.self; unfilled = c.args.self.now.unfilled }) c.reserve.ensures.items (λ e. refl) are

pub returns-clause-kept : goal.returns-clause-kept
returns-clause-kept c groups recording seating are =
    let same = c.reserve-2.ensures.entries in
    seats_stay groups recording seating c.args.self.now (record { seats = c.reserve.new.self; unfilled = c.reserve-2.new.self }) c.reserve.ensures.items (λ e. rw same refl) are
