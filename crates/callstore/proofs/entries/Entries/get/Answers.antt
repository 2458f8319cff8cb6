use Rattle.std.proofs.Common.{◌≡◌, ◌∙◌, ◌≤◌, Some, List, refl, sym, ap, length, arith}
use Rattle.std.specs.Option.{option_map}
use Rattle.std.specs.List.{slice_get}
use Rattle.std.proofs.lemmas.Option.{slice_get_read, slice_get_past}
use Rattle.callstore.specs.declared.entries.Slot.{Slot}
use Rattle.callstore.specs.declared.mark.Pair.{Pair}
use Rattle.callstore.specs.inner.Marks.{pair_at}
use Rattle.callstore.specs.inner.Entries.{EntryList, entry_of}
use Rattle.callstore.proofs.EntryLemmas.{found}
use Rattle.callstore.proofs.entries.Entries.get.Goals as goal

pub returns-in-Some : goal.returns-in-Some
returns-in-Some c =
    let slots = c.self.inside.slots.items in
    let pairs = c.self.inside.pairs.items in
    let look = c.in-Some.ensures.lookup in
    let there : slice_get slots c.args.index ≡ Some c.in-Some.slot.now = rw (← c.deref.ensures.value) (slice_get_read c.deref.result.now (length c.deref.result.now) c.args.index c.in-Some.slot.now refl look.3.0 (look.3.1 c.in-Some.slot.now)) in
    ap (λ (all : List Pair). Some (entry_of c.in-Some.slot.now (pair_at all c.args.index))) c.as_slice.ensures.value
    ∙ sym (ap (option_map (λ (slot : Slot). entry_of slot (pair_at pairs c.args.index))) there)
    ∙ sym (found slots pairs c.args.index)
    ∙ ap (λ (list : EntryList). slice_get list.items c.args.index) c.self.view_is

pub returns-in-None : goal.returns-in-None
returns-in-None c =
    let slots = c.self.inside.slots.items in
    let pairs = c.self.inside.pairs.items in
    let look = c.in-None.ensures.lookup in
    let past : length slots ≤ c.args.index = omega (arith, look.3, ap (λ (all : List Slot). length all) c.deref.ensures.value) in
    sym (found slots pairs c.args.index ∙ ap (option_map (λ (slot : Slot). entry_of slot (pair_at pairs c.args.index))) (slice_get_past slots c.args.index past))
    ∙ ap (λ (list : EntryList). slice_get list.items c.args.index) c.self.view_is
