-- How all that is left on a rank's feed is taken.
use Rattle.std.proofs.Common.{◌≡◌, ◌⊎◌, ℕ, ◌+◌, ◌<◌, Bool, true, false, is_some, Option, Some, None, List, [], ◌∷◌, ◌++◌, length, map, refl, sym, ap, subst, ◌∙◌, arith, append_assoc, append-nil, slice_get, slice_set, get_or, inl, inr}
use Rattle.std.proofs.Math.Seq.{map-set_same}
use Rattle.std.proofs.lemmas.List.{length_push, length-append, length-map}
use Rattle.std.proofs.lemmas.Option.{none-some, slice_get_within}
use Rattle.std.proofs.lemmas.Bool.{false≢true}
use Rattle.mpicall.specs.declared.call.Call.{Call}
use Rattle.rankfeed.specs.Items.{last_behind, mark_in, end_mark_of, are_ended, IsFeed}
use Rattle.rankfeed.specs.Answers.{Receives, told_end}
use Rattle.rankfeed.specs.Rings.{taker_ring, receipt_ring, received_by, left_for, sent_whole}
use Rattle.mpicall.specs.declared.fault.Ending.{Ending}
use Rattle.mpicall.specs.declared.fault.Ending.TheVariants.{Sealed, Torn}
use Rattle.rankfeed.specs.declared.item.Item.{Item}
use Rattle.rankfeed.specs.declared.item.Item.TheVariants.{Entry, Mark}
use Rattle.rankfeed.specs.declared.answer.Took.{Took}
use Rattle.rankfeed.specs.declared.ring.Receipt.{Receipt}
use Rattle.rankfeed.specs.declared.ring.Taker.{Taker}
use Rattle.gather.specs.declared.ledger.Stepped.{Stepped}
use Rattle.gather.specs.declared.ledger.Stepped.TheVariants.{Refused, Discarded, Empty, Ended}
use Rattle.gather.specs.declared.collector.Collector.{Collector}
use Rattle.gather.specs.Collected.{Kept, Enters}
use Rattle.gather.specs.inner.Receipts.{Meets}
use Rattle.gather.specs.Collectors.{kept, received_from, left_from, Steps, PublishesNothing}
use Rattle.gather.specs.inner.Collectors.{ReceivesFrom}
use Rattle.gather.proofs.TakerLemmas.{items_at, items_stay}
use Rattle.gather.proofs.CollectedLemmas.{end_mark_of-push, enters_leaves}
use Rattle.mpigroup.proofs.ListLemmas.{slice_get-set_same}

-- items that end with an end mark

pub ends_in : (first : Item) (items : List Item) (last : Item) → last_behind (Some first) items ≡ Some last → (before : List Item) × (first ∷ items ≡ before ++ last ∷ [])
ends_in first [] last e = ([], let same : first ≡ last = cc in ap (λ (x : Item). x ∷ []) same)
ends_in first (next ∷ items) last e = let behind = ends_in next items last e in (first ∷ behind.0, ap (λ (xs : List Item). first ∷ xs) behind.1)

mark_of_last : (last : Option Item) (end : Ending) → mark_in last ≡ Some end → last ≡ Some (Mark end)
mark_of_last None end e = absurd (none-some end e)
mark_of_last (Some (Entry call)) end e = absurd (none-some end e)
mark_of_last (Some (Mark other)) end e = ap (λ (x : Ending). Some (Mark x)) cc

pub ends_with_mark : (items : List Item) (end : Ending) → end_mark_of items ≡ Some end → (before : List Item) × (items ≡ before ++ Mark end ∷ [])
ends_with_mark [] end e = absurd (none-some end e)
ends_with_mark (first ∷ items) end e = ends_in first items (Mark end) (mark_of_last _ end e)

pub some_mark : (mark : Option Ending) → is_some mark ≡ true → (end : Ending) × (mark ≡ Some end)
some_mark None e = absurd (false≢true e)
some_mark (Some end) e = (end, refl)

-- after an end mark nothing is left
pub none_left : (items left : List Item) → IsFeed (items ++ left) → are_ended items ≡ true → left ≡ []
none_left items left feed ended =
    let mark = some_mark (end_mark_of items) ended in
    let whole = ends_with_mark items mark.0 mark.1 in
    feed.mark_is_last whole.0 left mark.0 (ap (λ (xs : List Item). xs ++ left) whole.1 ∙ append_assoc whole.0 (Mark mark.0 ∷ []) left)

-- what one step with a feed does of which all that is left is known

ended_by : (mark : Option Ending) (end : Ending) → mark ≡ Some end → is_some mark ≡ true
ended_by mark end e = ap is_some e

mark_received : (old new : List Item) (end : Ending) → new ≡ old ++ Mark end ∷ [] → are_ended new ≡ true
mark_received old new end e = ended_by (end_mark_of new) end (ap end_mark_of e ∙ end_mark_of-push old (Mark end))

told_ended : (mark : Option Ending) (found : Took) (end : Ending) (old new : List Item) → found ≡ told_end end → end_mark_of old ≡ mark → Receives mark found old new → are_ended new ≡ true
told_ended (Some earlier) found end old new told e receives = ended_by (end_mark_of new) earlier (ap end_mark_of receives.1 ∙ e)
told_ended None Took.Sealed end old new told e receives = mark_received old new Sealed receives
told_ended None (Took.Torn fault) end old new told e receives = mark_received old new (Torn fault) receives
told_ended None found Sealed old new told e receives = cc
told_ended None found (Torn fault) old new told e receives = cc

record_is_no_end : (mark : Option Ending) (rank : ℕ) (call : Call) (before after : Kept) (answer : Stepped) → answer ≡ Ended → ¬ (Enters rank (Took.Record call) before answer after)
record_is_no_end mark rank call before after Ended e = λ so. so
record_is_no_end mark rank call before after answer e = cc

-- the step that answers Ended has received the end mark
step_ended : (rank : ℕ) (found : Took) (answer : Stepped) (before after : Kept) (old new : List Item) → Enters rank found before answer after → Receives (end_mark_of old) found old new → ¬ (found ≡ Took.Empty) → answer ≡ Ended → are_ended new ≡ true
step_ended rank (Took.Record call) answer before after old new so receives some e = absurd (record_is_no_end (end_mark_of old) rank call before after answer e so)
step_ended rank Took.Empty answer before after old new so receives some e = absurd (some refl)
step_ended rank Took.Sealed answer before after old new so receives some e = told_ended (end_mark_of old) Took.Sealed Sealed old new refl refl receives
step_ended rank (Took.Torn fault) answer before after old new so receives some e = told_ended (end_mark_of old) (Took.Torn fault) (Torn fault) old new refl refl receives

record_received : (mark : Option Ending) (call : Call) (old new : List Item) → Receives mark (Took.Record call) old new → new ≡ old ++ Entry call ∷ []
record_received None call old new receives = receives
record_received (Some Sealed) call old new receives = absurd (let e = receives.0 in cc)
record_received (Some (Torn fault)) call old new receives = absurd (let e = receives.0 in cc)

-- each other step leaves one item less
step_shortens : (rank : ℕ) (found : Took) (answer : Stepped) (before after : Kept) (old new left rest : List Item) → Enters rank found before answer after → Receives (end_mark_of old) found old new → ¬ (found ≡ Took.Empty) → new ++ rest ≡ old ++ left → ¬ (answer ≡ Ended) → length rest < length left
step_shortens rank (Took.Record call) answer before after old new left rest so receives some together going =
    let is = record_received (end_mark_of old) call old new receives in
    let count : length new ≡ length old + 1 = ap length is ∙ length_push old (Entry call) in
    omega (arith, count, length-append new rest, length-append old left, ap length together)
step_shortens rank Took.Empty answer before after old new left rest so receives some together going = absurd (some refl)
step_shortens rank Took.Sealed answer before after old new left rest so receives some together going = absurd (going so.0)
step_shortens rank (Took.Torn fault) answer before after old new left rest so receives some together going = absurd (going so.0)

-- what a step leaves of the other ranks, and of all

stays_wanted : (before after : Bool) → (after ≡ false → before ≡ false) → before ≡ true → after ≡ true
stays_wanted before true unwanted e = refl
stays_wanted before false unwanted e = absurd (false≢true (sym (unwanted refl) ∙ e))

step_receives : (rank : ℕ) (old new : Collector) (answer : Stepped) → Steps rank old answer new → PublishesNothing old new → ReceivesFrom rank old new
step_receives rank old new answer steps publishes =
    let leaves = enters_leaves rank (kept old) (kept new) steps.found answer steps.enters in record {
      names = steps.takes.names;
      reading = leaves.reading;
      groups = leaves.groups;
      wanted = stays_wanted (kept old).wanted (kept new).wanted leaves.unwanted;
      others = λ other differs. items_stay received_by old.takers.items new.takers.items other (steps.takes.others other differs);
      list = publishes.list;
      published = publishes.same;
      watched = publishes.watched;
    }

then_receives : (rank : ℕ) (first now next : Collector) → ReceivesFrom rank first now → ReceivesFrom rank now next → ReceivesFrom rank first next
then_receives rank first now next a b = record {
  names = b.names ∙ a.names;
  reading = b.reading ∙ a.reading;
  groups = b.groups ∙ a.groups;
  wanted = λ e. b.wanted (a.wanted e);
  others = λ other differs. b.others other differs ∙ a.others other differs;
  list = b.list ∙ a.list;
  published = b.published ∙ a.published;
  watched = b.watched ∙ a.watched;
}

pub drain_on : (rank : ℕ) (first now next : Collector) (answer : Stepped) → ReceivesFrom rank first now → Steps rank now answer next → PublishesNothing now next → ReceivesFrom rank first next
drain_on rank first now next answer so steps publishes = then_receives rank first now next so (step_receives rank now next answer steps publishes)

abbrev pub all_known : Collector → ℕ → List Item
all_known collector rank = received_from collector rank ++ left_from collector rank

known_still : (rank : ℕ) (first now : Collector) → are_ended (all_known first rank) ≡ true → all_known now rank ≡ all_known first rank → are_ended (all_known now rank) ≡ true
known_still rank first now known together = ap are_ended together ∙ known

pub together_on : (rank : ℕ) (first now next : Collector) (answer : Stepped) → are_ended (all_known first rank) ≡ true → all_known now rank ≡ all_known first rank → Steps rank now answer next → all_known next rank ≡ all_known first rank
together_on rank first now next answer known together steps = steps.takes.left (known_still rank first now known together) ∙ together

pub all_taken : (rank : ℕ) (first now next : Collector) (answer : Stepped) → are_ended (all_known first rank) ≡ true → IsFeed (all_known first rank) → all_known now rank ≡ all_known first rank → Steps rank now answer next → answer ≡ Ended → received_from next rank ≡ all_known first rank
all_taken rank first now next answer known feed together steps e =
    let whole = together_on rank first now next answer known together steps in
    let ended = step_ended rank steps.found answer (kept now) (kept next) (received_from now rank) (received_from next rank) steps.enters steps.takes.receives (steps.takes.never_empty (known_still rank first now known together)) e in
    let nothing : left_from next rank ≡ [] = none_left (received_from next rank) (left_from next rank) (subst IsFeed (sym whole) feed) ended in
    sym (append-nil (received_from next rank)) ∙ ap (λ (xs : List Item). received_from next rank ++ xs) (sym nothing) ∙ whole

pub one_less : (rank : ℕ) (first now next : Collector) (answer : Stepped) → are_ended (all_known first rank) ≡ true → all_known now rank ≡ all_known first rank → Steps rank now answer next → ¬ (answer ≡ Ended) → length (left_from next rank) < length (left_from now rank)
one_less rank first now next answer known together steps going =
    let still = known_still rank first now known together in
    step_shortens rank steps.found answer (kept now) (kept next) (received_from now rank) (received_from next rank) (left_from now rank) (left_from next rank) steps.enters steps.takes.receives (steps.takes.never_empty still) (steps.takes.left still) going

-- a receipt is met
pub meets_at : (takers : List Taker) (place rank : ℕ) (was now : Taker) (receipt : Receipt) → place ≡ rank → slice_get (map taker_ring takers) rank ≡ Some (receipt_ring receipt) → was ≡ get_or takers place was → taker_ring now ≡ taker_ring was → received_by now ≡ received_by was → received_by now ++ left_for now ≡ sent_whole receipt → are_ended (received_by now ++ left_for now) ≡ true → IsFeed (sent_whole receipt) → Meets rank receipt takers (slice_set takers place now)
meets_at takers place rank was now receipt same own read name received left ended feed =
    let within : place < length takers = omega (arith, same, slice_get_within (map taker_ring takers) rank _ own, length-map takers taker_ring) in
    let at = slice_get-set_same takers place now within in
    let there : slice_get (slice_set takers place now) rank ≡ Some now = ap (slice_get (slice_set takers place now)) (sym same) ∙ at in record {
      names = map-set_same taker_ring takers place now was (name ∙ ap taker_ring read);
      received = map-set_same received_by takers place now was (received ∙ ap received_by read);
      left = rw (items_at received_by (slice_set takers place now) rank now there, items_at left_for (slice_set takers place now) rank now there) (record {
        all = left;
        ended = ended;
        in_order = subst IsFeed (sym left) feed;
      });
    }

-- an answer other than Ended

pub is_not_ended : (answer : Stepped) → (answer ≡ Stepped.Took) ⊎ ((answer ≡ Refused) ⊎ ((answer ≡ Discarded) ⊎ (answer ≡ Empty))) → ¬ (answer ≡ Ended)
is_not_ended answer (inl took) = λ e. cc
is_not_ended answer (inr (inl refused)) = λ e. cc
is_not_ended answer (inr (inr (inl discarded))) = λ e. cc
is_not_ended answer (inr (inr (inr empty))) = λ e. cc
