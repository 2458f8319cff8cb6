use Rattle.std.proofs.Common.{◌≡◌, ◌∙◌, ◌<◌, Some, List, ap, length, refl, sym, set, arith}
use Rattle.std.specs.List.{slice_get}
use Rattle.std.proofs.lemmas.Option.{slice_get_read}
use Rattle.callstore.specs.declared.entries.Entries.TheInside.{Inside}
use Rattle.callstore.specs.declared.cached_match.CachedMatch.{CachedMatch}
use Rattle.callstore.specs.declared.entries.Slot.{Slot}
use Rattle.callstore.specs.inner.Entries.{Entry, EntryList, entries_of, entry_of}
use Rattle.callstore.specs.inner.Marks.{pair_of}
use Rattle.callstore.proofs.EntryLemmas.{as_many, same_call, set_both, set_alone, entry_near}
use Rattle.callstore.proofs.entries.Entries.set_cached.Goals as goal
use Rattle.callstore.proofs.entries.Entries.set_cached.Goals.{then-is_apart, else-is_apart}

pub index_mut-requires : goal.index_mut-requires
index_mut-requires c =
    omega (arith, c.requires, as_many c.self.inside.slots.items c.self.inside.pairs.items, ap (λ (list : EntryList). length list.items) c.self.view_is, c.fill.ensures.count, c.len.ensures)

pub index_mut-slot-requires : goal.index_mut-slot-requires
index_mut-slot-requires c =
    let many = as_many c.self.inside.slots.items c.self.inside.pairs.items in
    let same = ap (λ (list : EntryList). length list.items) c.self.view_is in
    elim c.if-is_apart.branch [
      | then-is_apart w ↦ rw w.self-inside-is (omega (arith, c.requires, many, same))
      | else-is_apart w ↦ rw w.self-inside-is (omega (arith, c.requires, many, same))
    ]

pub returns : goal.returns
returns c old at =
    let slots = c.self.inside.slots.items in
    let pairs = c.self.inside.pairs.items in
    let many = as_many slots pairs in
    let long = ap (λ (list : EntryList). length list.items) c.self.view_is in
    let same : entries_of slots pairs ≡ c.args.self.now.items = ap (λ (list : EntryList). list.items) c.self.view_is in
    let there : slice_get (entries_of slots pairs) c.args.index ≡ Some old = rw same at in
    let within : c.args.index < length slots = omega (arith, c.requires, many, long) in
    elim c.if-is_apart.branch [
      | then-is_apart w ↦
          let slots_are : c.if-is_apart.self-inside.slots.items ≡ slots = ap (λ (it : Inside). it.slots.items) w.self-inside-is in
          let read : slice_get slots c.args.index ≡ Some c.index_mut-slot.result.now =
          rw (← slots_are) (slice_get_read c.if-is_apart.self-inside.slots.items (length c.if-is_apart.self-inside.slots.items) c.args.index c.index_mut-slot.result.now refl (rw slots_are within) c.index_mut-slot.ensures.value) in
          let slot : Slot = record { call = old.call; mark = c.of-mark.result } in
          rw (same_call slots pairs c.args.index c.index_mut-slot.result.now old read there, w.self-inside-is, w.pair_of.ensures)
          (set_both slots w.fill.new.pairs.items c.args.index slot (pair_of c.args.cached) (omega (arith, within, w.fill.ensures.count, w.len.ensures))
          ∙ ap (λ (entries : List Entry). set entries c.args.index (entry_of slot (pair_of c.args.cached))) (w.fill.ensures.same slots ∙ same)
          ∙ ap (λ (kept : CachedMatch). set c.args.self.now.items c.args.index (record { call = old.call; cached = kept })) c.of-mark.ensures)
      | else-is_apart w ↦
          let slots_are : c.if-is_apart.self-inside.slots.items ≡ slots = ap (λ (it : Inside). it.slots.items) w.self-inside-is in
          let read : slice_get slots c.args.index ≡ Some c.index_mut-slot.result.now =
          rw (← slots_are) (slice_get_read c.if-is_apart.self-inside.slots.items (length c.if-is_apart.self-inside.slots.items) c.args.index c.index_mut-slot.result.now refl (rw slots_are within) c.index_mut-slot.ensures.value) in
          let slot : Slot = record { call = old.call; mark = c.of-mark.result } in
          rw (same_call slots pairs c.args.index c.index_mut-slot.result.now old read there, w.self-inside-is)
          (set_alone slots pairs c.args.index slot (record { call = old.call; cached = c.args.cached })
          (λ pair. entry_near old.call c.of-mark.result c.args.cached pair c.of-mark.ensures (sym c.is_apart.ensures ∙ w.if-is_apart.false))
          ∙ ap (λ (entries : List Entry). set entries c.args.index (record { call = old.call; cached = c.args.cached })) same)
    ]
