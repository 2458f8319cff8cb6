use Rattle.std.proofs.Common.{◌≡◌, ◌∙◌, Some, List, refl, sym, ap, map, set}
use Rattle.std.specs.List.{slice_get}
use Rattle.callstore.specs.CachedMatch.{with_partner}
use Rattle.callstore.specs.declared.cached_match.CachedMatch.{CachedMatch}
use Rattle.callstore.specs.declared.cached_match.CachedMatch.TheVariants.{Nothing}
use Rattle.callstore.specs.Notes.{partnered_in}
use Rattle.callstore.specs.inner.Entries.{Entry, entry_at}
use Rattle.callstore.specs.inner.Marks.{pair_at}
use Rattle.callstore.specs.inner.Notes.{NotedList}
use Rattle.callstore.specs.inner.Packed.{noted_of}
use Rattle.callstore.proofs.PackedLemmas.{stored_cached, notes_cached}
use Rattle.callstore.proofs.rank_notes.RankNotes.set_partner.Goals as goal

pub invariant_of-self : goal.invariant_of-self
invariant_of-self c =
    let old : Entry = entry_at c.in-Some.entry in
    let there : slice_get c.self.inside.entries.items c.args.place ≡ Some old = sym c.in-Some.ensures in
    rw (c.set_alone.ensures old there)
    (stored_cached c.self.inside.entries.items c.self.inside.starts.items c.args.place old (with_partner c.args.half c.args.there Nothing) there c.self.invariant)

pub returns-in-Some : goal.returns-in-Some
returns-in-Some c =
    let old : Entry = entry_at c.in-Some.entry in
    let items = c.self.inside.entries.items in
    let starts = c.self.inside.starts.items in
    let there : slice_get items c.args.place ≡ Some old = sym c.in-Some.ensures in
    let nothing : old.cached ≡ Nothing = c.if-is_empty.ensures refl (pair_at c.in-Some.entry.pairs.now c.in-Some.entry.index) in
    let entries : CachedMatch → List Entry = λ kept. set items c.args.place (record { call = old.call; cached = with_partner c.args.half c.args.there kept }) in
    rw (c.set_alone.ensures old there)
    (ap (λ (kept : CachedMatch). map (noted_of (entries kept) starts) (entries kept)) (sym nothing)
    ∙ notes_cached items starts c.args.place old c.args.half c.args.there there
    ∙ ap (λ (list : NotedList). partnered_in list.calls c.args.place c.args.half c.args.there) c.self.view_is)
