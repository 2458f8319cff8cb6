use Rattle.std.proofs.Common.{◌≡◌, Some, None, refl, sym, ap, ◌∙◌}
use Rattle.std.specs.Prelude.{option_and_then}
use Rattle.callstore.specs.inner.Notes.{recording_of}
use Rattle.pairing.specs.Probed.{probed_envelope, probed_envelope_at, probed_by}
use Rattle.pairing.specs.inner.Seated.{seat_in}
use Rattle.pairing.proofs.KeptLemmas.{its_call}
use Rattle.pairing.proofs.ProbingLemmas.{seen_by, has_seat}
use Rattle.pairing.proofs.kept.Kept.probed_of.Goals as goal

pub returns-in_err-seat : goal.returns-in_err-seat
returns-in_err-seat c =
    let present = its_call c.args.self.now.notes.lists c.args.rank c.args.place c.in_ok-note.note (sym c.get.ensures.value ∙ c.in_ok-note.was) in
    let envelope : probed_envelope c.args.self.now.head c.args.rank c.in_ok-note.note.call ≡ Some c.in_ok-envelope.envelope = rw (sym c.call.ensures, sym c.probed.ensures, c.in_ok-probed.was) (sym c.received_by.ensures ∙ c.in_ok-envelope.was) in
    let probes : probed_envelope_at c.args.self.now.head (recording_of c.args.self.now.notes.lists) c.args.rank c.args.place ≡ Some c.in_ok-envelope.envelope = rw present envelope in
    absurd (has_seat c.args.self.now.head (recording_of c.args.self.now.notes.lists) (seat_in c.args.probing.now) c.args.probing.now.probes c.args.rank c.args.place c.in_ok-envelope.envelope c.requires.probing probes (sym c.seat.ensures ∙ c.in_err-seat.was))

pub returns : goal.returns
returns c =
    let present = its_call c.args.self.now.notes.lists c.args.rank c.args.place c.in_ok-note.note (sym c.get.ensures.value ∙ c.in_ok-note.was) in
    let envelope : probed_envelope c.args.self.now.head c.args.rank c.in_ok-note.note.call ≡ Some c.in_ok-envelope.envelope = rw (sym c.call.ensures, sym c.probed.ensures, c.in_ok-probed.was) (sym c.received_by.ensures ∙ c.in_ok-envelope.was) in
    let probes : probed_envelope_at c.args.self.now.head (recording_of c.args.self.now.notes.lists) c.args.rank c.args.place ≡ Some c.in_ok-envelope.envelope = rw present envelope in
    let all = seen_by c.args.self.now.head (recording_of c.args.self.now.notes.lists) (seat_in c.args.probing.now) c.args.probing.now.probes c.args.rank c.args.place c.in_ok-seat.seat c.in_ok-envelope.envelope c.requires.probing probes (sym c.seat.ensures ∙ c.in_ok-seat.was) in
    rw c.followed.ensures at c.seen_from.ensures ∙ sym all

pub returns-in_err-envelope : goal.returns-in_err-envelope
returns-in_err-envelope c =
    let recording = recording_of c.args.self.now.notes.lists in
    let present = its_call c.args.self.now.notes.lists c.args.rank c.args.place c.in_ok-note.note (sym c.get.ensures.value ∙ c.in_ok-note.was) in
    let envelope : probed_envelope c.args.self.now.head c.args.rank c.in_ok-note.note.call ≡ None = rw (sym c.call.ensures, sym c.probed.ensures, c.in_ok-probed.was) (sym c.received_by.ensures ∙ c.in_err-envelope.was) in
    let probes : probed_envelope_at c.args.self.now.head recording c.args.rank c.args.place ≡ None = rw present envelope in
    c.from_residual-in_err-envelope.ensures ∙ sym (ap (option_and_then (probed_by c.args.self.now.head recording c.args.rank c.args.place)) probes)

pub returns-in_err-probed : goal.returns-in_err-probed
returns-in_err-probed c =
    let recording = recording_of c.args.self.now.notes.lists in
    let present = its_call c.args.self.now.notes.lists c.args.rank c.args.place c.in_ok-note.note (sym c.get.ensures.value ∙ c.in_ok-note.was) in
    let envelope : probed_envelope c.args.self.now.head c.args.rank c.in_ok-note.note.call ≡ None = rw (sym c.call.ensures, sym c.probed.ensures, c.in_err-probed.was) refl in
    let probes : probed_envelope_at c.args.self.now.head recording c.args.rank c.args.place ≡ None = rw present envelope in
    c.from_residual-in_err-probed.ensures ∙ sym (ap (option_and_then (probed_by c.args.self.now.head recording c.args.rank c.args.place)) probes)
