use Rattle.std.proofs.Common.{◌≡◌, ◌∙◌, Option, Some, None, sym, ap}
use Rattle.std.specs.Option.{option_map, option_map_or}
use Rattle.std.specs.List.{slice_get}
use Rattle.std.specs.Prelude.{slice_set}
use Rattle.std.proofs.lemmas.Option.{slice_get-map}
use Rattle.callstore.specs.Notes.{Noted, note_with, partnered_in}
use Rattle.callstore.specs.inner.Entries.{Entry, entry_at}
use Rattle.callstore.specs.inner.Notes.{NotedList}
use Rattle.callstore.specs.inner.Packed.{noted_of}
use Rattle.callstore.proofs.PackedLemmas.{stored_cached, notes_cached}
use Rattle.callstore.proofs.rank_notes.RankNotes.set_any_partner.Goals as goal

pub invariant_of-self : goal.invariant_of-self
invariant_of-self c =
    let old : Entry = entry_at c.in-Some.entry in
    let there : slice_get c.self.inside.entries.items c.args.place ≡ Some old = sym c.in-Some.ensures in
    rw (c.set_cached.ensures old there)
    (stored_cached c.self.inside.entries.items c.self.inside.starts.items c.args.place old c.with_partner-cached.result there c.self.invariant)

pub returns-in-Some : goal.returns-in-Some
returns-in-Some c =
    let old : Entry = entry_at c.in-Some.entry in
    let there : slice_get c.self.inside.entries.items c.args.place ≡ Some old = sym c.in-Some.ensures in
    rw (c.set_cached.ensures old there, c.with_partner-cached.ensures, c.cached.ensures)
    (notes_cached c.self.inside.entries.items c.self.inside.starts.items c.args.place old c.args.half c.args.there there
    ∙ ap (λ (list : NotedList). partnered_in list.calls c.args.place c.args.half c.args.there) c.self.view_is)

pub returns-in_default : goal.returns-in_default
returns-in_default c =
    let calls = c.args.self.now.calls in
    let items = c.self.inside.entries.items in
    let noted = noted_of items c.self.inside.starts.items in
    let none : slice_get calls c.args.place ≡ None =
    ap (λ (list : NotedList). slice_get list.calls c.args.place) (sym c.self.view_is) ∙ slice_get-map noted items c.args.place ∙ ap (option_map noted) (sym c.in_default.ensures) in
    sym (ap (λ (o : Option Noted). option_map_or (λ note. slice_set calls c.args.place (note_with c.args.half c.args.there note)) o calls) none)
