use Rattle.std.proofs.Common.{◌≡◌, ◌∙◌, ◌<◌, Some, List, ap, length, refl, set, arith}
use Rattle.std.specs.List.{slice_get}
use Rattle.std.proofs.lemmas.Option.{slice_get_read}
use Rattle.callstore.specs.CachedMatch.{with_partner}
use Rattle.callstore.specs.declared.cached_match.CachedMatch.{CachedMatch}
use Rattle.callstore.specs.declared.cached_match.CachedMatch.TheVariants.{Nothing}
use Rattle.callstore.specs.declared.entries.Slot.{Slot}
use Rattle.callstore.specs.inner.Entries.{Entry, EntryList, entries_of}
use Rattle.callstore.proofs.EntryLemmas.{as_many, same_call, set_alone, entry_near}
use Rattle.callstore.proofs.entries.Entries.set_alone.Goals as goal

pub index_mut-slot-requires : goal.index_mut-slot-requires
index_mut-slot-requires c =
    omega (arith, c.requires.within, as_many c.self.inside.slots.items c.self.inside.pairs.items, ap (λ (list : EntryList). length list.items) c.self.view_is)

pub returns : goal.returns
returns c old at =
    let slots = c.self.inside.slots.items in
    let pairs = c.self.inside.pairs.items in
    let same : entries_of slots pairs ≡ c.args.self.now.items = ap (λ (list : EntryList). list.items) c.self.view_is in
    let there : slice_get (entries_of slots pairs) c.args.index ≡ Some old = rw same at in
    let within : c.args.index < length slots = omega (arith, c.requires.within, as_many slots pairs, ap (λ (list : EntryList). length list.items) c.self.view_is) in
    let read : slice_get slots c.args.index ≡ Some c.index_mut-slot.result.now =
    slice_get_read slots (length slots) c.args.index c.index_mut-slot.result.now refl within c.index_mut-slot.ensures.value in
    let cached : CachedMatch = with_partner c.args.half c.args.there Nothing in
    let slot : Slot = record { call = old.call; mark = c.of_partner-slot.result } in
    rw (same_call slots pairs c.args.index c.index_mut-slot.result.now old read there)
    (set_alone slots pairs c.args.index slot (record { call = old.call; cached = cached })
    (λ pair. entry_near old.call c.of_partner-slot.result cached pair c.of_partner-slot.ensures.kept c.of_partner-slot.ensures.here)
    ∙ ap (λ (entries : List Entry). set entries c.args.index (record { call = old.call; cached = cached })) same)
