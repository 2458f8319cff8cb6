-- What is noted of a call, with its starts.
use Rattle.std.proofs.Common.{◌∙◌, List, length, map, refl, ap, subst}
use Rattle.mpicall.specs.declared.call.Call.{Call}
use Rattle.callstore.specs.Recordings.{calls_of}
use Rattle.callstore.specs.Places.{places}
use Rattle.callstore.specs.Waves.{does_join}
use Rattle.callstore.specs.Requests.{waits_for, started_in}
use Rattle.callstore.specs.inner.Notes.{recording_of}
use Rattle.callstore.specs.Notes.{AreStarts}
use Rattle.pairing.proofs.NotedLemmas.{calls_of-recorded}
use Rattle.callstore.proofs.StartLemmas.{are_starts}
use Rattle.pairing.proofs.kept.note_call.Goals as goal

pub note-requires-clause-starts : goal.note-requires-clause-starts
note-requires-clause-starts g c =
    let notes = c.args.notes.now.lists in
    rw c.record.ensures
    (subst (λ (before : List Call). AreStarts before c.args.call.now c.args.starts.now) (calls_of-recorded notes c.args.rank)
    (are_starts (calls_of (recording_of notes) c.args.rank) c.args.starts.now (waits_for c.args.call.now) c.requires.starts))

pub returns : goal.returns
returns g c =
    let recorded = calls_of-recorded c.args.notes.now.lists c.args.rank in
    record {
      noted = record { call = c.args.call.now; cached = c.args.cached; starts = c.args.starts.now };
      added = rw c.record.ensures at c.note.ensures;
      is_call = refl;
      is_noted = record {
        wave = λ comm joined. c.requires.cached.wave comm joined ∙ ap (λ (before : List Call). length (places (does_join comm) before)) recorded;
        started = c.requires.starts ∙ ap (λ (before : List Call). map (started_in before) (waits_for c.args.call.now)) recorded;
      };
      alone = c.requires.cached.alone;
    }
