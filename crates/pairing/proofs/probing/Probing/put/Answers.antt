use Rattle.std.proofs.Common.{◌≡◌, Some, None, length, ◌∙◌}
use Rattle.callstore.specs.Recordings.{calls_of, appended}
use Rattle.pairing.specs.Probed.{probed_envelope}
use Rattle.pairing.specs.inner.Probing.{seat_for, seated}
use Rattle.pairing.specs.inner.Seated.{seat_in}
use Rattle.pairing.proofs.ProbingLemmas.{sits_more, receives_more, reseated, unseated}
use Rattle.pairing.proofs.probing.Probing.put.Goals as goal

pub returns-in-Some : goal.returns-in-Some
returns-in-Some c recording are is_rank is_next =
    let probes : probed_envelope c.args.head.now c.args.at.0 c.args.call.now ≡ Some c.in-Some.envelope = cc in
    reseated c.args.head.now (appended recording c.args.at.0 c.args.call.now)
    (seated (seat_in c.args.self.now) c.args.at.0 (length (calls_of recording c.args.at.0)) (Some (seat_for c.args.self.now.probes c.in-Some.envelope))) (seat_in c.probe.new.self) c.probe.new.self.probes
    (λ r p s h. rw is_next at (c.probe.ensures.seats r p) ∙ h)
    (sits_more c.args.head.now recording (seat_in c.args.self.now) c.args.self.now.probes c.probe.new.self.probes c.args.at.0 c.args.call.now c.in-Some.envelope is_rank probes c.probe.ensures.probes are)

pub returns-in-None : goal.returns-in-None
returns-in-None c recording are is_rank is_next =
    let none : probed_envelope c.args.head.now c.args.at.0 c.args.call.now ≡ None = cc in
    let follows = rw is_next at c.receive.ensures.some in
    reseated c.args.head.now (appended recording c.args.at.0 c.args.call.now)
    (seated (seat_in c.args.self.now) c.args.at.0 (length (calls_of recording c.args.at.0)) None) (seat_in (record { probes = c.receive.new.self; seats = c.args.self.now.seats })) c.receive.new.self
    (λ r p s h. unseated (seat_in c.args.self.now) c.args.at.0 (length (calls_of recording c.args.at.0)) r p s h)
    (receives_more c.args.head.now recording (seat_in c.args.self.now) c.args.self.now.probes c.receive.new.self c.args.at.0 c.args.call.now c.args.halves.now.recv is_rank none c.requires.received c.receive.ensures.none follows are)
