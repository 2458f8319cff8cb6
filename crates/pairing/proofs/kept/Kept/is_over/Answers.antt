use Rattle.std.proofs.Common.{◌≡◌, ◌∙◌, ◌-◌, ℕ, false, Option, Some, None, length, sym, ap}
use Rattle.std.specs.List.{slice_get}
use Rattle.std.specs.Option.{option_map_or}
use Rattle.mpicall.specs.declared.call.Call.{Call}
use Rattle.mpicall.specs.Ending.{ends_list}
use Rattle.callstore.specs.Recordings.{calls_of}
use Rattle.callstore.specs.Notes.{notes_of}
use Rattle.callstore.specs.inner.Notes.{recording_of}
use Rattle.pairing.proofs.KeptLemmas.{count_noted, its_call, no_call}
use Rattle.pairing.proofs.kept.Kept.is_over.Goals as goal

pub returns-in-Some : goal.returns-in-Some
returns-in-Some c =
    let notes = c.args.self.now.notes.lists in
    let calls = calls_of (recording_of notes) c.args.rank in
    let last = length (notes_of notes c.args.rank) - 1 in
    let there : slice_get calls (length calls - 1) ≡ Some c.in-Some.note.call =
    ap (λ (n : ℕ). slice_get calls (n - 1)) (count_noted notes c.args.rank) ∙ its_call notes c.args.rank last c.in-Some.note (sym c.in-Some.ensures) in
    c.ends_list.ensures ∙ ap ends_list c.call.ensures ∙ sym (ap (λ (call : Option Call). option_map_or ends_list call false) there)

pub returns-in-None : goal.returns-in-None
returns-in-None c =
    let notes = c.args.self.now.notes.lists in
    let calls = calls_of (recording_of notes) c.args.rank in
    let last = length (notes_of notes c.args.rank) - 1 in
    let there : slice_get calls (length calls - 1) ≡ None =
    ap (λ (n : ℕ). slice_get calls (n - 1)) (count_noted notes c.args.rank) ∙ no_call notes c.args.rank last (sym c.in-None.ensures) in
    sym (ap (λ (call : Option Call). option_map_or ends_list call false) there)
