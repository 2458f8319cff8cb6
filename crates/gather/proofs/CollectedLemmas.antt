-- What is kept of a rank once one more item of it was received.
use Rattle.std.proofs.Common.{◌≡◌, ◌≢◌, ℕ, ◌+◌, ◌<◌, ◌≤◌, Bool, true, false, not, ◌&&◌, is_none, Option, Some, None, List, [], ◌∷◌, ◌++◌, length, take, map, refl, sym, ap, subst, ◌∙◌, ⊎_elim, arith, append_assoc, append-nil, get_or-set_same, get_or-set_other, slice_set, inl, inr}
use Rattle.std.proofs.lemmas.List.{length_push, take-append-le, length-set, length-map}
use Rattle.std.proofs.lemmas.Option.{unwrap_or-slice_get, none-some}
use Rattle.std.proofs.lemmas.Bool.{cases_eq, cases_Bool, false≢true}
use Rattle.std.proofs.Math.Seq.{take-append_seam}
use Rattle.mpicall.specs.declared.call.Call.{Call}
use Rattle.mpicall.specs.declared.fault.SourceFault.{SourceFault}
use Rattle.mpigroup.specs.Groups.{Groups}
use Rattle.callstore.specs.Recordings.{calls_of}
use Rattle.pairing.specs.Faults.{fault_of}
use Rattle.pairing.specs.declared.fault.CallFault.{CallFault}
use Rattle.callstore.proofs.RecordingLemmas.{calls_of-appended, calls_of-appended_other}
use Rattle.rankfeed.specs.Items.{calls_among, end_mark_of, mark_in}
use Rattle.rankfeed.specs.Answers.{Receives, told_end}
use Rattle.rankfeed.specs.Rings.{received_by, taker_ring}
use Rattle.rankfeed.specs.declared.ring.Taker.{Taker}
use Rattle.mpicall.specs.declared.fault.Ending.{Ending}
use Rattle.mpicall.specs.declared.fault.Ending.TheVariants.{Sealed, Torn}
use Rattle.rankfeed.specs.declared.item.Item.{Item}
use Rattle.rankfeed.specs.declared.item.Item.TheVariants.{Entry, Mark}
use Rattle.rankfeed.specs.declared.answer.Took.{Took}
use Rattle.rankfeed.proofs.ItemLemmas.{last_item-push}
use Rattle.gather.specs.Outcomes.{PlacedFault, fault_onward, or_behind}
use Rattle.gather.specs.declared.fault.RankFault.{RankFault}
use Rattle.gather.specs.declared.fault.RankFault.TheVariants.{OfCall, OfSource}
use Rattle.gather.specs.declared.ledger.Stepped.{Stepped}
use Rattle.gather.specs.declared.ledger.Stepped.TheVariants.{Refused, Discarded, Empty, Ended}
use Rattle.gather.specs.declared.collector.Collector.{Collector}
use Rattle.gather.specs.Collectors.{KeepsWhatCame}
use Rattle.gather.specs.Takers.{received_in, Takes}
use Rattle.gather.specs.inner.Takers.{Collects}
use Rattle.gather.proofs.TakerLemmas.{items_stay, takers_stay}
use Rattle.gather.specs.Collected.{fault_of_mark, fault_of_items, IsKeptOf, Kept, fault_at, IsKeptIn, is_accepting, with_record, with_fault, wanting, torn, EntersRecord, Enters}
use Rattle.gather.specs.inner.Collected.{AreKeptOf, LeavesOthers}

-- the records and the end mark of items with one more

pub calls_among-append : (xs ys : List Item) → calls_among (xs ++ ys) ≡ calls_among xs ++ calls_among ys
calls_among-append [] ys = refl
calls_among-append (Entry call ∷ xs) ys = ap (λ calls. call ∷ calls) (calls_among-append xs ys)
calls_among-append (Mark end ∷ xs) ys = calls_among-append xs ys

pub end_mark_of-push : (xs : List Item) (x : Item) → end_mark_of (xs ++ x ∷ []) ≡ mark_in (Some x)
end_mark_of-push xs x = ap mark_in (last_item-push xs x)

-- a first fault that collects stays the first, whatever comes after

stays : (place : ℕ) (own : Option CallFault) (x y : Option PlacedFault) (fault : PlacedFault) → (x ≡ Some fault → y ≡ Some fault) → or_behind place own x ≡ Some fault → or_behind place own y ≡ Some fault
stays place None x y fault on e = on e
stays place (Some f) x y fault on e = e

fault_stays : (groups : Groups) (rank : ℕ) (before calls more : List Call) (mark : Option Ending) (fault : PlacedFault) → fault_onward groups rank (fault_of_mark None) before calls ≡ Some fault → fault_onward groups rank (fault_of_mark mark) before (calls ++ more) ≡ Some fault
fault_stays groups rank before [] more mark fault e = absurd (none-some fault e)
fault_stays groups rank before (call ∷ calls) more mark fault e =
    stays (length before) (fault_of groups rank before call) _ _ fault (fault_stays groups rank (before ++ call ∷ []) calls more mark fault) e

-- where there is none, the first fault is that of what comes after

goes_on : (place : ℕ) (own : Option CallFault) (x y z : Option PlacedFault) → (x ≡ None → y ≡ z) → or_behind place own x ≡ None → or_behind place own y ≡ z
goes_on place None x y z on e = on e
goes_on place (Some f) x y z on e = absurd (none-some _ (sym e))

fault_goes_on : (groups : Groups) (rank : ℕ) (before calls more : List Call) (mark : Option Ending) → fault_onward groups rank (fault_of_mark None) before calls ≡ None → fault_onward groups rank (fault_of_mark mark) before (calls ++ more) ≡ fault_onward groups rank (fault_of_mark mark) (before ++ calls) more
fault_goes_on groups rank before [] more mark e = ap (λ (b : List Call). fault_onward groups rank (fault_of_mark mark) b more) (sym (append-nil before))
fault_goes_on groups rank before (call ∷ calls) more mark e =
    goes_on (length before) (fault_of groups rank before call) _ _ _
    (λ none. fault_goes_on groups rank (before ++ call ∷ []) calls more mark none ∙ ap (λ (b : List Call). fault_onward groups rank (fault_of_mark mark) b more) (append_assoc before (call ∷ []) calls)) e

-- the place of a first fault is none after the records

placed_behind : (place most : ℕ) (fault : PlacedFault) (own : Option CallFault) (x : Option PlacedFault) → place ≤ most → (x ≡ Some fault → fault.0 ≤ most) → or_behind place own x ≡ Some fault → fault.0 ≤ most
placed_behind place most fault None x within behind e = behind e
placed_behind place most fault (Some f) x within behind e = let at : place ≡ fault.0 = cc in omega (arith, within, at)

placed : (groups : Groups) (rank : ℕ) (before calls : List Call) (fault : PlacedFault) → fault_onward groups rank (fault_of_mark None) before calls ≡ Some fault → fault.0 ≤ length before + length calls
placed groups rank before [] fault e = absurd (none-some fault e)
placed groups rank before (call ∷ calls) fault e =
    placed_behind (length before) (length before + length (call ∷ calls)) fault (fault_of groups rank before call) _ (omega arith)
    (λ is. let further = placed groups rank (before ++ call ∷ []) calls fault is in omega (arith, further, length_push before call)) e

-- where no end mark came, the first fault is that of a record

fault_so_far : (groups : Groups) (rank : ℕ) (items : List Item) → end_mark_of items ≡ None → fault_of_items groups rank items ≡ fault_onward groups rank (fault_of_mark None) [] (calls_among items)
fault_so_far groups rank items none = ap (λ (o : Option Ending). fault_onward groups rank (fault_of_mark o) [] (calls_among items)) none

-- the first fault of items with one more
fault_with : (groups : Groups) (rank : ℕ) (items : List Item) (x : Item) → fault_of_items groups rank (items ++ x ∷ []) ≡ fault_onward groups rank (fault_of_mark (mark_in (Some x))) [] (calls_among items ++ calls_among (x ∷ []))
fault_with groups rank items x =
    ap (λ (o : Option Ending). fault_onward groups rank (fault_of_mark o) [] (calls_among (items ++ x ∷ []))) (end_mark_of-push items x)
    ∙ ap (λ (cs : List Call). fault_onward groups rank (fault_of_mark (mark_in (Some x))) [] cs) (calls_among-append items (x ∷ []))

-- a fault that is kept stays
one_more_stays : (groups : Groups) (rank : ℕ) (items : List Item) (calls : List Call) (fault : PlacedFault) (x : Item) → IsKeptOf groups rank items calls (Some fault) → end_mark_of items ≡ None → IsKeptOf groups rank (items ++ x ∷ []) calls (Some fault)
one_more_stays groups rank items calls fault x k none =
    let is : fault_onward groups rank (fault_of_mark None) [] (calls_among items) ≡ Some fault = sym (k.first ∙ fault_so_far groups rank items none) in
    let more = calls_among (x ∷ []) in record {
      first = sym (fault_with groups rank items x ∙ fault_stays groups rank [] (calls_among items) more _ fault is);
      before = k.before
          ∙ sym (take-append-le fault.0 (calls_among items) more (let within = placed groups rank [] (calls_among items) fault is in omega (arith, within)))
          ∙ ap (λ (cs : List Call). take fault.0 cs) (sym (calls_among-append items (x ∷ [])));
    }

-- where no fault is kept, the first fault with one more item is that after the records
first_with : (groups : Groups) (rank : ℕ) (items : List Item) (calls : List Call) (x : Item) → IsKeptOf groups rank items calls None → end_mark_of items ≡ None → fault_of_items groups rank (items ++ x ∷ []) ≡ fault_onward groups rank (fault_of_mark (mark_in (Some x))) calls (calls_among (x ∷ []))
first_with groups rank items calls x k none =
    let is : fault_onward groups rank (fault_of_mark None) [] (calls_among items) ≡ None = sym (k.first ∙ fault_so_far groups rank items none) in
    fault_with groups rank items x ∙ fault_goes_on groups rank [] (calls_among items) (calls_among (x ∷ [])) _ is
    ∙ ap (λ (cs : List Call). fault_onward groups rank (fault_of_mark (mark_in (Some x))) cs (calls_among (x ∷ []))) (sym k.before)

record_accepted : (groups : Groups) (rank : ℕ) (items : List Item) (calls : List Call) (call : Call) → IsKeptOf groups rank items calls None → end_mark_of items ≡ None → fault_of groups rank calls call ≡ None → IsKeptOf groups rank (items ++ Entry call ∷ []) (calls ++ call ∷ []) None
record_accepted groups rank items calls call k none lawful = record {
  first = sym (first_with groups rank items calls (Entry call) k none ∙ ap (λ own. or_behind (length calls) own None) lawful);
  before = ap (λ (cs : List Call). cs ++ call ∷ []) k.before ∙ sym (calls_among-append items (Entry call ∷ []));
}

record_refused : (groups : Groups) (rank : ℕ) (items : List Item) (calls : List Call) (call : Call) (fault : CallFault) → IsKeptOf groups rank items calls None → end_mark_of items ≡ None → fault_of groups rank calls call ≡ Some fault → IsKeptOf groups rank (items ++ Entry call ∷ []) calls (Some (length calls, OfCall fault))
record_refused groups rank items calls call fault k none is = record {
  first = sym (first_with groups rank items calls (Entry call) k none ∙ ap (λ own. or_behind (length calls) own None) is);
  before = sym (ap (take (length calls)) (calls_among-append items (Entry call ∷ []) ∙ ap (λ (cs : List Call). cs ++ call ∷ []) (sym k.before)) ∙ take-append_seam calls (call ∷ []));
}

mark_torn : (groups : Groups) (rank : ℕ) (items : List Item) (calls : List Call) (fault : SourceFault) → IsKeptOf groups rank items calls None → end_mark_of items ≡ None → IsKeptOf groups rank (items ++ Mark (Torn fault) ∷ []) calls (Some (length calls, OfSource fault))
mark_torn groups rank items calls fault k none = record {
  first = sym (first_with groups rank items calls (Mark (Torn fault)) k none);
  before = sym (ap (take (length calls)) (calls_among-append items (Mark (Torn fault) ∷ []) ∙ ap (λ (cs : List Call). cs ++ []) (sym k.before)) ∙ take-append_seam calls []);
}

pub mark_sealed : (groups : Groups) (rank : ℕ) (items : List Item) (calls : List Call) (fault : Option PlacedFault) → IsKeptOf groups rank items calls fault → end_mark_of items ≡ None → IsKeptOf groups rank (items ++ Mark Sealed ∷ []) calls fault
mark_sealed groups rank items calls None k none = record {
  first = sym (first_with groups rank items calls (Mark Sealed) k none);
  before = k.before ∙ sym (calls_among-append items (Mark Sealed ∷ []) ∙ append-nil (calls_among items));
}
mark_sealed groups rank items calls (Some fault) k none = one_more_stays groups rank items calls fault (Mark Sealed) k none

-- a torn trace has a fault

torn_behind : (place : ℕ) (own : Option CallFault) (x : Option PlacedFault) → ¬ (x ≡ None) → ¬ (or_behind place own x ≡ None)
torn_behind place None x some = some
torn_behind place (Some f) x some = λ e. none-some _ (sym e)

pub torn_has_fault : (groups : Groups) (rank : ℕ) (before calls : List Call) (fault : SourceFault) → ¬ (fault_onward groups rank (fault_of_mark (Some (Torn fault))) before calls ≡ None)
torn_has_fault groups rank before [] fault = λ e. none-some _ (sym e)
torn_has_fault groups rank before (call ∷ calls) fault = torn_behind (length before) (fault_of groups rank before call) _ (torn_has_fault groups rank (before ++ call ∷ []) calls fault)

torn_is_kept : (groups : Groups) (rank : ℕ) (items : List Item) (calls : List Call) (fault : SourceFault) → IsKeptOf groups rank items calls None → ¬ (end_mark_of items ≡ Some (Torn fault))
torn_is_kept groups rank items calls fault k = λ e.
    torn_has_fault groups rank [] (calls_among items) fault
    (sym (k.first ∙ ap (λ (o : Option Ending). fault_onward groups rank (fault_of_mark o) [] (calls_among items)) e))

-- whether a rank is open

open_has_none : (fault : Option PlacedFault) (wanted : Bool) → (is_none fault && not wanted) ≡ true → fault ≡ None
open_has_none None wanted e = refl
open_has_none (Some fault) wanted e = absurd (false≢true e)

closed_has_fault : (fault : Option PlacedFault) (wanted : Bool) → (is_none fault && not wanted) ≡ false → wanted ≡ false → (f : PlacedFault) × (fault ≡ Some f)
closed_has_fault None true e unwanted = absurd (false≢true (sym unwanted))
closed_has_fault None false e unwanted = absurd (false≢true (sym e))
closed_has_fault (Some fault) wanted e unwanted = (fault, refl)

-- what is kept of the other ranks

pub nothing_new : (rank : ℕ) (before after : Kept) → after ≡ before → LeavesOthers rank before after
nothing_new rank before after same = rw same (record { reading = refl; groups = refl; ranks = refl; places = refl; unwanted = λ e. e; calls = λ other differs. refl; faults = λ other differs. refl })

one_record : (rank : ℕ) (before after : Kept) (call : Call) → after ≡ with_record before rank call → LeavesOthers rank before after
one_record rank before after call is = rw is (record {
  reading = refl;
  groups = refl;
  ranks = length-set before.recording rank (calls_of before.recording rank ++ call ∷ []);
  places = refl;
  unwanted = λ e. e;
  calls = λ other differs. calls_of-appended_other before.recording rank other call differs;
  faults = λ other differs. refl;
})

fault_elsewhere : (faults : List (Option PlacedFault)) (rank other : ℕ) (fault : Option PlacedFault) → other ≢ rank → fault_at (slice_set faults rank fault) other ≡ fault_at faults other
fault_elsewhere faults rank other fault differs =
    unwrap_or-slice_get (slice_set faults rank fault) other None
    ∙ get_or-set_other faults rank other fault None differs
    ∙ sym (unwrap_or-slice_get faults other None)

fault_there : (faults : List (Option PlacedFault)) (rank : ℕ) (fault : Option PlacedFault) → rank < length faults → fault_at (slice_set faults rank fault) rank ≡ fault
fault_there faults rank fault within =
    unwrap_or-slice_get (slice_set faults rank fault) rank None ∙ get_or-set_same faults rank fault None within

one_fault : (rank : ℕ) (before after : Kept) (fault : RankFault) → after ≡ with_fault before rank fault → LeavesOthers rank before after
one_fault rank before after fault is = rw is (record {
  reading = refl;
  groups = refl;
  ranks = refl;
  places = length-set before.faults rank (Some (length (calls_of before.recording rank), fault));
  unwanted = λ e. e;
  calls = λ other differs. refl;
  faults = λ other differs. fault_elsewhere before.faults rank other _ differs;
})

memory_wanted : (rank : ℕ) (before after : Kept) → after ≡ wanting before → LeavesOthers rank before after
memory_wanted rank before after is = rw is (record {
  reading = refl;
  groups = refl;
  ranks = refl;
  places = refl;
  unwanted = λ e. absurd (false≢true (sym e));
  calls = λ other differs. refl;
  faults = λ other differs. refl;
})

pub record_leaves : (rank : ℕ) (before after : Kept) (call : Call) (answer : Stepped) → EntersRecord rank call before answer after → LeavesOthers rank before after
record_leaves rank before after call Stepped.Took so = one_record rank before after call so.2
record_leaves rank before after call Refused so = one_fault rank before after (OfCall so.1.0) so.1.2
record_leaves rank before after call Discarded (inl closed) = nothing_new rank before after closed.1
record_leaves rank before after call Discarded (inr wants) = memory_wanted rank before after wants.2
record_leaves rank before after call Empty so = absurd so
record_leaves rank before after call Ended so = absurd so

pub torn_leaves : (rank : ℕ) (before after : Kept) (fault : RankFault) → after ≡ torn before rank fault → LeavesOthers rank before after
torn_leaves rank before after fault is =
    ⊎_elim
    (λ (o : is_accepting before rank ≡ true). one_fault rank before after fault (is ∙ rw o refl))
    (λ (s : is_accepting before rank ≡ false). nothing_new rank before after (is ∙ rw s refl))
    (cases_Bool (is_accepting before rank))

pub enters_leaves : (rank : ℕ) (before after : Kept) (found : Took) (answer : Stepped) → Enters rank found before answer after → LeavesOthers rank before after
enters_leaves rank before after (Took.Record call) answer so = record_leaves rank before after call answer so
enters_leaves rank before after Took.Empty answer so = nothing_new rank before after so.1
enters_leaves rank before after Took.Sealed answer so = nothing_new rank before after so.1
enters_leaves rank before after (Took.Torn fault) answer so = torn_leaves rank before after (OfSource fault) so.1

-- what is kept of the rank itself

own_accepted : (rank : ℕ) (items : List Item) (before : Kept) (call : Call) → rank < length before.recording → fault_at before.faults rank ≡ None → fault_of before.groups rank (calls_of before.recording rank) call ≡ None → end_mark_of items ≡ None → IsKeptIn rank items before → IsKeptIn rank (items ++ Entry call ∷ []) (with_record before rank call)
own_accepted rank items before call within unrefused lawful none k =
    let calls = calls_of before.recording rank in
    let was : IsKeptOf before.groups rank items calls None = subst (λ (f : Option PlacedFault). IsKeptOf before.groups rank items calls f) unrefused k in
    rw (calls_of-appended before.recording rank call within, unrefused) (record_accepted before.groups rank items calls call was none lawful)

own_fault : (rank : ℕ) (items : List Item) (before : Kept) (fault : RankFault) → rank < length before.faults → IsKeptOf before.groups rank items (calls_of before.recording rank) (Some (length (calls_of before.recording rank), fault)) → IsKeptIn rank items (with_fault before rank fault)
own_fault rank items before fault within k = rw (fault_there before.faults rank (Some (length (calls_of before.recording rank), fault)) within) k

own_discarded : (rank : ℕ) (items : List Item) (before : Kept) (x : Item) → (f : PlacedFault) × (fault_at before.faults rank ≡ Some f) → end_mark_of items ≡ None → IsKeptIn rank items before → IsKeptIn rank (items ++ x ∷ []) before
own_discarded rank items before x fault none k =
    let calls = calls_of before.recording rank in
    rw fault.1 (one_more_stays before.groups rank items calls fault.0 x (subst (λ (f : Option PlacedFault). IsKeptOf before.groups rank items calls f) fault.1 k) none)

pub record_own : (rank : ℕ) (items : List Item) (before after : Kept) (call : Call) (answer : Stepped) → rank < length before.recording → length before.faults ≡ length before.recording → after.wanted ≡ false → EntersRecord rank call before answer after → end_mark_of items ≡ None → IsKeptIn rank items before → IsKeptIn rank (items ++ Entry call ∷ []) after
record_own rank items before after call Stepped.Took within both unwanted so none k =
    rw so.2 (own_accepted rank items before call within (open_has_none _ _ so.0) so.1 none k)
record_own rank items before after call Refused within both unwanted so none k =
    let calls = calls_of before.recording rank in
    let was : IsKeptOf before.groups rank items calls None = subst (λ (f : Option PlacedFault). IsKeptOf before.groups rank items calls f) (open_has_none _ _ so.0) k in
    rw so.1.2 (own_fault rank _ before (OfCall so.1.0) (omega (arith, within, both)) (record_refused before.groups rank items calls call so.1.0 was none so.1.1))
record_own rank items before after call Discarded within both unwanted (inl closed) none k =
    let calm : before.wanted ≡ false = ap (λ (b : Kept). b.wanted) (sym closed.1) ∙ unwanted in
    rw closed.1 (own_discarded rank items before (Entry call) (closed_has_fault _ _ closed.0 calm) none k)
record_own rank items before after call Discarded within both unwanted (inr wants) none k = absurd (false≢true (sym unwanted ∙ ap (λ (b : Kept). b.wanted) wants.2))
record_own rank items before after call Empty within both unwanted so none k = absurd so
record_own rank items before after call Ended within both unwanted so none k = absurd so

pub torn_own : (rank : ℕ) (items : List Item) (before after : Kept) (fault : SourceFault) → rank < length before.recording → length before.faults ≡ length before.recording → before.wanted ≡ false → after ≡ torn before rank (OfSource fault) → end_mark_of items ≡ None → IsKeptIn rank items before → IsKeptIn rank (items ++ Mark (Torn fault) ∷ []) after
torn_own rank items before after fault within both calm is none k =
    ⊎_elim
    (λ (o : is_accepting before rank ≡ true).
    let calls = calls_of before.recording rank in
    let was : IsKeptOf before.groups rank items calls None = subst (λ (f : Option PlacedFault). IsKeptOf before.groups rank items calls f) (open_has_none _ _ o) k in
    let now : after ≡ with_fault before rank (OfSource fault) = is ∙ rw o refl in
    rw now (own_fault rank _ before (OfSource fault) (omega (arith, within, both)) (mark_torn before.groups rank items calls fault was none)))
    (λ (s : is_accepting before rank ≡ false).
    let now : after ≡ before = is ∙ rw s refl in
    rw now (own_discarded rank items before (Mark (Torn fault)) (closed_has_fault _ _ s calm) none k))
    (cases_Bool (is_accepting before rank))

-- an end mark that is told again changes nothing
told_again : (rank : ℕ) (items : List Item) (before after : Kept) (found : Took) (answer : Stepped) (earlier : Ending) → found ≡ told_end earlier → Enters rank found before answer after → end_mark_of items ≡ Some earlier → IsKeptIn rank items before → IsKeptIn rank items after
told_again rank items before after (Took.Record call) answer Sealed e so ended k = cc
told_again rank items before after (Took.Record call) answer (Torn fault) e so ended k = cc
told_again rank items before after Took.Empty answer earlier e so ended k = rw so.1 k
told_again rank items before after Took.Sealed answer earlier e so ended k = rw so.1 k
told_again rank items before after (Took.Torn fault) answer Sealed e so ended k = cc
told_again rank items before after (Took.Torn fault) answer (Torn earlier) e so ended k =
    ⊎_elim
    (λ (o : is_accepting before rank ≡ true).
    absurd (torn_is_kept before.groups rank items (calls_of before.recording rank) earlier
    (subst (λ (f : Option PlacedFault). IsKeptOf before.groups rank items (calls_of before.recording rank) f) (open_has_none _ _ o) k) ended))
    (λ (s : is_accepting before rank ≡ false). let now : after ≡ before = so.1 ∙ rw s refl in rw now k)
    (cases_Bool (is_accepting before rank))

enters_own : (rank : ℕ) (items now : List Item) (before after : Kept) (found : Took) (answer : Stepped) (end : Option Ending) → rank < length before.recording → length before.faults ≡ length before.recording → before.wanted ≡ false → after.wanted ≡ false → Enters rank found before answer after → end_mark_of items ≡ end → Receives end found items now → IsKeptIn rank items before → IsKeptIn rank now after
enters_own rank items now before after found answer (Some earlier) within both calm unwanted so end receives k =
    rw receives.1 (told_again rank items before after found answer earlier receives.0 so end k)
enters_own rank items now before after (Took.Record call) answer None within both calm unwanted so end receives k =
    rw receives (record_own rank items before after call answer within both unwanted so end k)
enters_own rank items now before after Took.Empty answer None within both calm unwanted so end receives k =
    rw (receives, so.1) k
enters_own rank items now before after Took.Sealed answer None within both calm unwanted so end receives k =
    rw (receives, so.1) (mark_sealed before.groups rank items (calls_of before.recording rank) _ k end)
enters_own rank items now before after (Took.Torn fault) answer None within both calm unwanted so end receives k =
    rw receives (torn_own rank items before after fault within both calm so.1 end k)

-- a step keeps what the items give
step_keeps : (rank : ℕ) (found : Took) (answer : Stepped) (old new : List Taker) (before after : Kept) → rank < length before.recording → length before.faults ≡ length before.recording → Takes rank found old new → Enters rank found before answer after → AreKeptOf (map received_by old) before → AreKeptOf (map received_by new) after
step_keeps rank found answer old new before after within both takes so are = λ unwanted other.
    let leaves = enters_leaves rank before after found answer so in
    let calm = leaves.unwanted unwanted in
    ⊎_elim
    (λ (same : other ≡ rank). rw same (enters_own rank (received_in old rank) (received_in new rank) before after found answer _ within both calm unwanted so refl takes.receives (are calm rank)))
    (λ (differs : other ≡ rank → ⊥).
    rw (items_stay received_by old new other (takes.others other differs), leaves.calls other differs, leaves.faults other differs, leaves.groups) (are calm other))
    (cases_eq other rank)

-- what is kept stays what the items give
pub step_collects : (rank : ℕ) (found : Took) (answer : Stepped) (old new : List Taker) (before after : Kept) → rank < length (map taker_ring old) → Takes rank found old new → Enters rank found before answer after → Collects old before → Collects new after
step_collects rank found answer old new before after is_rank takes so collects =
    let count = takers_stay old new takes in
    let leaves = enters_leaves rank before after found answer so in
    let within : rank < length old = omega (arith, is_rank, length-map old taker_ring) in record {
      one_a_rank = count ∙ collects.one_a_rank ∙ sym leaves.ranks;
      one_fault_a_rank = count ∙ collects.one_fault_a_rank ∙ sym leaves.places;
      collected = step_keeps rank found answer old new before after (omega (arith, within, collects.one_a_rank)) (sym collects.one_fault_a_rank ∙ collects.one_a_rank) takes so collects.collected;
    }

-- what is kept of a collector is what came
pub keeps_what_came : (collector : Collector) → KeepsWhatCame collector
keeps_what_came collector = record {
  one_a_rank = sym collector.collects.one_a_rank ∙ sym (length-map collector.takers.items taker_ring);
  one_fault_a_rank = sym collector.collects.one_fault_a_rank ∙ sym (length-map collector.takers.items taker_ring);
  collected = collector.collects.collected;
}
