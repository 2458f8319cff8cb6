-- The call is noted, its halves meet the others, and the tables go on by it.
use Rattle.std.proofs.Common.{◌<◌, ◌∙◌, ap, subst, sym, length, arith}
use Rattle.pairing.specs.Matched.{halves_of}
use Rattle.pairing.specs.inner.Matched.{Matching, filed_halves, ArePaired}
use Rattle.callstore.specs.Recordings.{calls_of}
use Rattle.callstore.specs.inner.Notes.{recording_of}
use Rattle.callstore.specs.declared.envelope.Half.TheVariants.{Send as SendHalf, Recv as RecvHalf}
use Rattle.pairing.proofs.FaultLemmas.{fault_none}
use Rattle.pairing.proofs.FiledLemmas.{come_next}
use Rattle.pairing.proofs.KeptLemmas.{count_noted, ranks_noted, goes_on_as, kept_on, paired_as}
use Rattle.pairing.proofs.kept.Kept.put.Goals as goal

pub note_call-requires-clause-few : goal.note_call-requires-clause-few
note_call-requires-clause-few g c =
    omega (
      arith,
      count_noted c.args.self.now.notes.lists c.args.at.0,
      (fault_none c.args.self.now.head c.args.at.0 (calls_of (recording_of c.args.self.now.notes.lists) c.args.at.0) c.args.call.now c.requires.lawful).has_room,
    )

pub note_call-requires-clause-cached : goal.note_call-requires-clause-cached
note_call-requires-clause-cached g c =
    let notes = c.args.self.now.notes.lists in
    let has_room = (fault_none c.args.self.now.head c.args.at.0 (calls_of (recording_of notes) c.args.at.0) c.args.call.now c.requires.lawful).has_room in
    c.cached-cached.ensures c.args.self.now.head (recording_of notes) c.args.at.0 c.args.call.now c.requires.kept.tables c.requires.room.joined.is_list (omega (arith, has_room))

pub returns-clause-recording : goal.returns-clause-recording
returns-clause-recording g c =
    c.meet_halves.ensures.recording
    ∙ goes_on_as c.args.self.now.notes.lists c.note_call.new.notes.lists c.args.at.0 c.args.call.now c.note_call.ensures

pub returns-clause-kept : goal.returns-clause-kept
returns-clause-kept g c =
    let groups = c.args.self.now.head in
    let old = c.args.self.now.notes.lists in
    let recording = recording_of old in
    let in_recording : c.args.at.0 < length (recording_of c.args.self.now.notes.lists) = omega (arith, c.requires.is_rank, ranks_noted c.args.self.now.notes.lists) in
    let longer = goes_on_as old c.note_call.new.notes.lists c.args.at.0 c.args.call.now c.note_call.ensures in
    let room = c.requires.room.matched in
    let others = c.requires.kept.tables.others in
    let paired = c.meet_halves.ensures.paired (halves_of groups recording)
    (paired_as groups old c.note_call.new.notes.lists c.args.self.now.tables c.args.at.0 c.args.call.now c.requires.is_rank c.requires.kept c.note_call.ensures)
    (come_next groups recording (recording_of c.note_call.new.notes.lists) c.args.at.0 c.args.at.1 c.args.call.now SendHalf c.args.room.now.halves.send longer in_recording c.requires.is_next room.send)
    (come_next groups recording (recording_of c.note_call.new.notes.lists) c.args.at.0 c.args.at.1 c.args.call.now RecvHalf c.args.room.now.halves.recv longer in_recording c.requires.is_next room.recv) in
    kept_on groups old c.note_call.new.notes.lists c.meet_halves.new.notes.lists c.args.self.now.tables c.put.new.self c.args.at.0 c.args.at.1 c.args.call.now c.args.room.now.halves
    c.requires.is_rank c.requires.is_next c.requires.kept c.requires.lawful c.note_call.ensures room.send room.recv c.meet_halves.ensures.recording
    (subst (λ (m : Matching). ArePaired groups c.meet_halves.new.notes.lists (filed_halves c.args.room.now.halves c.args.at.1 (halves_of groups recording)) m) (sym c.put.ensures.matches) paired)
    (ap (λ (m : Matching). m.work) c.put.ensures.matches ∙ c.meet_halves.ensures.work)
    (c.put.ensures.others recording (record { joined = others.joined; made_comms = others.made_comms; active = others.active }) in_recording c.requires.is_next)
