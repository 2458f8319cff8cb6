-- What the turns over the sources keep.
use Rattle.std.proofs.Common.{◌≡◌, ◌≢◌, ℕ, zero, suc, ◌<◌, ◌≤◌, Bool, true, false, All, take, Option, Some, None, List, [], ◌∷◌, ◌++◌, length, map, replicate, get_or, slice_get, slice_set, refl, sym, ap, subst, ◌∙◌, ⊎_elim, arith}
use Rattle.std.proofs.lemmas.Bool.{cases_eq}
use Rattle.std.proofs.lemmas.List.{length-map, length-set, take_all}
use Rattle.std.proofs.lemmas.List.Elements.{All-nil, All-cons, All-head, All-tail, All-set, All-get_or}
use Rattle.std.proofs.lemmas.Option.{slice_get-get_or, slice_get_within, get_or_from_slice_get}
use Rattle.mpicall.specs.Ending.{ends_list}
use Rattle.mpicall.specs.Source.{coming, ended}
use Rattle.mpicall.specs.Trace.{Trace}
use Rattle.mpicall.specs.declared.call.Call.{Call}
use Rattle.mpicall.specs.declared.fault.SourceFault.{SourceFault}
use Rattle.mpicall.specs.declared.source.Source.{Source}
use Rattle.callstore.specs.Recordings.{is_ended}
use Rattle.mpigroup.proofs.ListLemmas.{slice_get-set_same, slice_get-set_other}
use Rattle.rankfeed.specs.Items.{calls_among, end_mark_of, end_the_list, item_ends_list, last_behind, mark_in}
use Rattle.mpicall.specs.declared.fault.Ending.{Ending}
use Rattle.mpicall.specs.declared.fault.Ending.TheVariants.{Sealed, Torn}
use Rattle.rankfeed.specs.declared.item.Item.{Item}
use Rattle.rankfeed.specs.declared.item.Item.TheVariants.{Entry, Mark}
use Rattle.rankfeed.proofs.ItemLemmas.{last_item-push}
use Rattle.gather.specs.Collected.{Kept, nothing_kept, torn, EntersRecord, IsKeptIn}
use Rattle.gather.specs.inner.Collected.{LeavesOthers}
use Rattle.gather.specs.FeedContract.{marked, Continues, IsFed}
use Rattle.gather.specs.Reads.{IsReading}
use Rattle.driver.specs.inner.Turns.{AtTurn, at_turn, at_turns, first_turn, IsReady, IsWhole, IsGoing, CameOf, IsTurnOf, source_of, IsBegun, IsOver, IsLater, AreTurnsOf, AreLater, IsReadOf, AreReadOf}
use Rattle.gather.specs.declared.fault.RankFault.TheVariants.{OfSource}
use Rattle.gather.specs.declared.ledger.Stepped.{Stepped}
use Rattle.driver.specs.declared.turn.Turn.{Turn as Progress}
use Rattle.gather.proofs.CollectedLemmas.{end_mark_of-push, mark_sealed, nothing_new, record_leaves, record_own, torn_leaves, torn_own}
use Rattle.gather.proofs.FedLemmas.{begins, marked_calls}
use Rattle.driver.proofs.HeldLemmas.{found_at, same_ended, mapped_at}
use Rattle.gather.proofs.OpenLemmas.{kept_at_first, places_at_first}

-- The items of a source that is being read.

no_mark_behind : (call : Call) (calls : List Call) → mark_in (last_behind (Some (Entry call)) (map Entry calls)) ≡ None
no_mark_behind call [] = refl
no_mark_behind call (next ∷ calls) = no_mark_behind next calls

no_mark : (calls : List Call) → end_mark_of (map Entry calls) ≡ None
no_mark [] = refl
no_mark (call ∷ calls) = no_mark_behind call calls

unended : (told now : Option Trace) (items : List Item) → Continues told items now → end_mark_of items ≡ None
unended told now items c = ap end_mark_of c.are ∙ no_mark c.calls

ends_with : (items : List Item) (call : Call) → end_the_list (items ++ Entry call ∷ []) ≡ ends_list call
ends_with items call = ap item_ends_list (last_item-push items (Entry call))

sealed_calls : (told now : Option Trace) (items : List Item) → Continues told items now → end_the_list items ≡ true → is_ended (calls_among (items ++ Mark Sealed ∷ [])) ≡ true
sealed_calls told now items c ends =
    let whole : items ++ Mark Sealed ∷ [] ≡ marked c.calls Sealed = ap (λ (xs : List Item). xs ++ Mark Sealed ∷ []) c.are in
    ap (λ (xs : List Item). is_ended (calls_among xs)) whole
    ∙ ap (λ (calls : List Call). is_ended calls) (marked_calls c.calls Sealed)
    ∙ sym (same_ended c.calls) ∙ ap end_the_list (sym c.are) ∙ ends

never_sealed : (items : List Item) (fault : SourceFault) → end_mark_of (items ++ Mark (Torn fault) ∷ []) ≡ Some Sealed → ⊥
never_sealed items fault is = let e : Some (Torn fault) ≡ Some Sealed = sym (end_mark_of-push items (Mark (Torn fault))) ∙ is in absurd cc

-- One record more of a source, or its end.

module _ {I : Type 0} (left : I → Option (List ℕ)) (may_answer : ℕ → ℕ → Bool → Type 0) (rank : ℕ) (old new : AtTurn I) (before : Kept) where
  came_going : (source : Source I) (items : List Item) → old.over ≡ false → CameOf left (may_answer rank) source old items old.over → IsGoing left (may_answer rank) source old items
  came_going source items was came = subst (λ (over : Bool). CameOf left (may_answer rank) source old items over) was came

  goes_on : (source : Source I) (items : List Item) → new.over ≡ false → IsGoing left (may_answer rank) source new items → CameOf left (may_answer rank) source new items new.over
  goes_on source items is going = subst (λ (over : Bool). CameOf left (may_answer rank) source new items over) (sym is) going

  comes_whole : (source : Source I) (items : List Item) → new.over ≡ true → IsWhole (coming left source) (may_answer rank) items → CameOf left (may_answer rank) source new items new.over
  comes_whole source items is whole = subst (λ (over : Bool). CameOf left (may_answer rank) source new items over) (sym is) whole

  pub later_record : (after : Kept) (call : Call) (answer : Stepped) → rank < length before.recording → ended new.source ≡ None → old.over ≡ false → new.over ≡ false → new.done ≡ ends_list call → EntersRecord rank call before answer after →
      ((start : Source I) (items : List Item) → end_the_list items ≡ old.done → IsReading left (may_answer rank) start old.source items old.line → IsReading left (may_answer rank) start new.source (items ++ Entry call ∷ []) new.line) →
      IsLater left may_answer rank old before new after
  later_record after call answer within fresh was is done enters reads =
      let leaves = record_leaves rank before after call answer enters in record {
        leaves = leaves;
        ready = λ ready going. fresh;
        turn = λ source of. let going = came_going source of.items was of.came in record {
          items = of.items ++ Entry call ∷ [];
          places = leaves.places ∙ of.places ∙ sym leaves.ranks;
          came = goes_on source (of.items ++ Entry call ∷ []) is (record { read = reads source of.items going.done going.read; done = ends_with of.items call ∙ sym done });
          kept_so = λ calm. record_own rank of.items before after call answer within of.places calm enters (unended _ _ of.items going.read.told) (of.kept_so (leaves.unwanted calm));
        };
      }

  pub later_sealed : (end : Ending) → end ≡ Sealed → old.over ≡ false → new.over ≡ true → old.done ≡ true →
      ((start : Source I) (items : List Item) → end_the_list items ≡ old.done → IsReading left (may_answer rank) start old.source items old.line → IsFed (coming left start) (may_answer rank) (items ++ Mark end ∷ [])) →
      IsLater left may_answer rank old before new before
  later_sealed end is_end was is done ends = record {
    leaves = nothing_new rank before before refl;
    ready = λ ready going. let e : true ≡ false = sym is ∙ going in absurd cc;
    turn = λ source of. let going = came_going source of.items was of.came in record {
      items = of.items ++ Mark Sealed ∷ [];
      places = of.places;
      came = comes_whole source (of.items ++ Mark Sealed ∷ []) is (record {
        fed = subst (λ (e : Ending). IsFed (coming left source) (may_answer rank) (of.items ++ Mark e ∷ [])) is_end (ends source of.items going.done going.read);
        sealed = λ e. sealed_calls _ _ of.items going.read.told (going.done ∙ done);
      });
      kept_so = λ calm. mark_sealed before.groups rank of.items _ _ (of.kept_so calm) (unended _ _ of.items going.read.told);
    };
  }

  pub later_torn : (after : Kept) (end : Ending) (fault : SourceFault) → end ≡ Torn fault → rank < length before.recording → old.over ≡ false → new.over ≡ true → after ≡ torn before rank (OfSource fault) →
      ((start : Source I) (items : List Item) → end_the_list items ≡ old.done → IsReading left (may_answer rank) start old.source items old.line → IsFed (coming left start) (may_answer rank) (items ++ Mark end ∷ [])) →
      IsLater left may_answer rank old before new after
  later_torn after end fault is_end within was is tears ends =
      let leaves = torn_leaves rank before after (OfSource fault) tears in record {
        leaves = leaves;
        ready = λ ready going. let e : true ≡ false = sym is ∙ going in absurd cc;
        turn = λ source of. let going = came_going source of.items was of.came in record {
          items = of.items ++ Mark (Torn fault) ∷ [];
          places = leaves.places ∙ of.places ∙ sym leaves.ranks;
          came = comes_whole source (of.items ++ Mark (Torn fault) ∷ []) is (record {
            fed = subst (λ (e : Ending). IsFed (coming left source) (may_answer rank) (of.items ++ Mark e ∷ [])) is_end (ends source of.items going.done going.read);
            sealed = λ e. absurd (never_sealed of.items fault e);
          });
          kept_so = λ calm. torn_own rank of.items before after fault within of.places (leaves.unwanted calm) tears (unended _ _ of.items going.read.told) (of.kept_so (leaves.unwanted calm));
        };
      }

-- Later times follow one another.

pub are_later_still : {I : Type 0} (left : I → Option (List ℕ)) (may_answer : ℕ → ℕ → Bool → Type 0) (old now new : List (AtTurn I)) (before then after : Kept) → AreLater left may_answer old before now then → AreLater left may_answer now then new after → AreLater left may_answer old before new after
are_later_still left may_answer old now new before then after first next = record {
  count = next.count ∙ first.count;
  ranks = next.ranks ∙ first.ranks;
  places = next.places ∙ first.places;
  reading = next.reading ∙ first.reading;
  groups = next.groups ∙ first.groups;
  ready = λ ready. next.ready (first.ready ready);
  turns = λ sources all. next.turns sources (first.turns sources all);
}

-- One turn goes on, and the others stay.

other_stays : {I : Type 0} (left : I → Option (List ℕ)) (may_answer : ℕ → ℕ → Bool → Type 0) (rank other : ℕ) (source : Source I) (turn : AtTurn I) (before after : Kept) → LeavesOthers rank before after → other ≢ rank → IsTurnOf left may_answer other source turn before → IsTurnOf left may_answer other source turn after
other_stays left may_answer rank other source turn before after leaves differs of = record {
  items = of.items;
  places = leaves.places ∙ of.places ∙ sym leaves.ranks;
  came = of.came;
  kept_so = λ calm. rw (leaves.calls other differs, leaves.faults other differs, leaves.groups) (of.kept_so (leaves.unwanted calm));
}

one_goes_on : {I : Type 0} (left : I → Option (List ℕ)) (may_answer : ℕ → ℕ → Bool → Type 0) (turns : List (AtTurn I)) (rank : ℕ) (was now : AtTurn I) (before after : Kept) (sources : List (Source I)) (other : ℕ) (source : Source I) (turn : AtTurn I) → rank < length turns → slice_get turns rank ≡ Some was → IsLater left may_answer rank was before now after → AreTurnsOf left may_answer sources turns before → slice_get sources other ≡ Some source → slice_get (slice_set turns rank now) other ≡ Some turn → IsTurnOf left may_answer other source turn after
one_goes_on {I = I} left may_answer turns rank was now before after sources other source turn within at later all at_source at_turn =
    ⊎_elim
    (λ (same : other ≡ rank).
    let there : Some now ≡ Some turn = sym (slice_get-set_same turns rank now within) ∙ ap (slice_get (slice_set turns rank now)) (sym same) ∙ at_turn in
    let is : now ≡ turn = cc in
    let here : slice_get sources rank ≡ Some source = ap (slice_get sources) (sym same) ∙ at_source in
    subst (λ (n : ℕ). IsTurnOf left may_answer n source turn after) (sym same)
    (subst (λ (t : AtTurn I). IsTurnOf left may_answer rank source t after) is (later.turn source (all.each rank source was here at))))
    (λ (differs : other ≡ rank → ⊥).
    other_stays left may_answer rank other source turn before after later.leaves differs
    (all.each other source turn at_source (sym (slice_get-set_other turns rank other now differs) ∙ at_turn)))
    (cases_eq other rank)

all_at : {X : Type 0} (P : X → Type 0) (xs : List X) (k : ℕ) (x : X) → All P xs → slice_get xs k ≡ Some x → P x
all_at P xs k x all at = subst P (get_or_from_slice_get xs k x x at) (All-get_or P xs k x (slice_get_within xs k x at) all)

pub set_later : {I : Type 0} (left : I → Option (List ℕ)) (may_answer : ℕ → ℕ → Bool → Type 0) (turns : List (AtTurn I)) (place rank : ℕ) (was now : AtTurn I) (before after : Kept) → place ≡ rank → rank < length turns → was ≡ get_or turns place was → IsLater left may_answer rank was before now after → AreLater left may_answer turns before (slice_set turns place now) after
set_later left may_answer turns place rank was now before after same within read later =
    let at : slice_get turns rank ≡ Some was = slice_get-get_or turns rank was within ∙ ap Some (ap (λ (n : ℕ). get_or turns n was) (sym same) ∙ sym read) in
    rw same (record {
      count = length-set turns rank now;
      ranks = later.leaves.ranks;
      places = later.leaves.places;
      reading = later.leaves.reading;
      groups = later.leaves.groups;
      ready = λ ready. All-set (λ turn. IsReady turn) turns rank now (later.ready (all_at (λ turn. IsReady turn) turns rank was ready at)) ready;
      turns = λ sources all. record {
        count = length-set turns rank now ∙ all.count;
        each = λ other source turn at_source at_turn. one_goes_on left may_answer turns rank was now before after sources other source turn within at later all at_source at_turn;
      };
    })

-- Turns that begin.

-- the sources with their first turns
pub first_sources : {I : Type 0} (sources : List (Source I)) → map source_of (at_turns sources (replicate (length sources) first_turn)) ≡ sources
first_sources [] = refl
first_sources (source ∷ sources) = ap (λ ss. source ∷ ss) (first_sources sources)

pub first_begun : {I : Type 0} (sources : List (Source I)) → All (λ turn. IsBegun turn) (at_turns sources (replicate (length sources) first_turn))
first_begun [] = All-nil (λ turn. IsBegun turn)
first_begun (source ∷ sources) = All-cons (λ turn. IsBegun turn) (at_turn source first_turn) (at_turns sources (replicate (length sources) first_turn)) (refl, refl, refl) (first_begun sources)

pub first_ready : {I : Type 0} (sources : List (Source I)) → All (λ source. ended source ≡ None) sources → All (λ turn. IsReady turn) (at_turns sources (replicate (length sources) first_turn))
first_ready [] fresh = All-nil (λ turn. IsReady turn)
first_ready (source ∷ sources) fresh =
    All-cons (λ turn. IsReady turn) (at_turn source first_turn) (at_turns sources (replicate (length sources) first_turn))
    (λ going. All-head (λ one. ended one ≡ None) source sources fresh)
    (first_ready sources (All-tail (λ one. ended one ≡ None) source sources fresh))

-- One source and its turn among all.

pub turns_count : {I : Type 0} (sources : List (Source I)) (turns : List Progress) → length turns ≡ length sources → length (at_turns sources turns) ≡ length sources
turns_count [] turns same = refl
turns_count (source ∷ sources) [] same = absurd (omega (arith, same))
turns_count (source ∷ sources) (turn ∷ turns) same = ap (λ n. suc n) (turns_count sources turns (omega (arith, same)))

pub turns_set : {I : Type 0} (sources : List (Source I)) (turns : List Progress) (k : ℕ) (source : Source I) (turn : Progress) → at_turns (slice_set sources k source) (slice_set turns k turn) ≡ slice_set (at_turns sources turns) k (at_turn source turn)
turns_set [] turns k source turn = refl
turns_set (s ∷ sources) [] zero source turn = refl
turns_set (s ∷ sources) [] (suc k) source turn = refl
turns_set (s ∷ sources) (t ∷ turns) zero source turn = refl
turns_set (s ∷ sources) (t ∷ turns) (suc k) source turn = ap (λ ts. at_turn s t ∷ ts) (turns_set sources turns k source turn)

pub turns_read : {I : Type 0} (sources : List (Source I)) (turns : List Progress) (k : ℕ) (source : Source I) (turn : Progress) → source ≡ get_or sources k source → turn ≡ get_or turns k turn → at_turn source turn ≡ get_or (at_turns sources turns) k (at_turn source turn)
turns_read [] turns k source turn is_source is_turn = refl
turns_read (s ∷ sources) [] k source turn is_source is_turn = refl
turns_read (s ∷ sources) (t ∷ turns) zero source turn is_source is_turn = ap (λ one. at_turn one turn) is_source ∙ ap (λ one. at_turn s one) is_turn
turns_read (s ∷ sources) (t ∷ turns) (suc k) source turn is_source is_turn = turns_read sources turns k source turn is_source is_turn

pub turns_over : {I : Type 0} (sources : List (Source I)) (turns : List Progress) → All (λ turn. turn.over ≡ true) turns → All (λ turn. IsOver turn) (at_turns sources turns)
turns_over [] turns over = All-nil (λ turn. IsOver turn)
turns_over (source ∷ sources) [] over = All-nil (λ turn. IsOver turn)
turns_over (source ∷ sources) (turn ∷ turns) over =
    All-cons (λ it. IsOver it) (at_turn source turn) (at_turns sources turns) (All-head (λ it. it.over ≡ true) turn turns over)
    (turns_over sources turns (All-tail (λ it. it.over ≡ true) turn turns over))

-- one turn more was taken of all
pub ready_at : {I : Type 0} (sources : List (Source I)) (turns : List Progress) (k : ℕ) (source : Source I) (turn : Progress) → k < length sources → length turns ≡ length sources → source ≡ get_or sources k source → turn ≡ get_or turns k turn → All (λ it. IsReady it) (at_turns sources turns) → IsReady (at_turn source turn)
ready_at sources turns k source turn within same is_source is_turn all =
    subst (λ it. IsReady it) (sym (turns_read sources turns k source turn is_source is_turn))
    (All-get_or (λ it. IsReady it) (at_turns sources turns) k (at_turn source turn) (omega (arith, within, turns_count sources turns same)) all)

turn_begun : {I : Type 0} (left : I → Option (List ℕ)) (may_answer : ℕ → ℕ → Bool → Type 0) (rank : ℕ) (turn : AtTurn I) (kept : Kept) → kept ≡ nothing_kept kept.reading kept.groups → IsReady turn → IsBegun turn → IsTurnOf left may_answer rank turn.source turn kept
turn_begun left may_answer rank turn kept nothing ready begun = record {
  items = [];
  places = subst (λ (k : Kept). length k.faults ≡ length k.recording) (sym nothing) (places_at_first kept.reading kept.groups);
  came = subst (λ (over : Bool). CameOf left (may_answer rank) turn.source turn [] over) (sym begun.2) (record {
    read = record { fresh = ready begun.2; told = begins (coming left turn.source) [] refl; at = rw begun.0 refl; asked = λ place below. absurd (omega (arith, below)) };
    done = sym begun.1;
  });
  kept_so = λ calm. subst (λ (k : Kept). IsKeptIn rank [] k) (sym nothing) (kept_at_first kept.reading kept.groups rank);
}

all_begun : {I : Type 0} (left : I → Option (List ℕ)) (may_answer : ℕ → ℕ → Bool → Type 0) (sources : List (Source I)) (turns : List (AtTurn I)) (kept : Kept) → kept ≡ nothing_kept kept.reading kept.groups → map source_of turns ≡ sources → All (λ turn. IsReady turn) turns → All (λ turn. IsBegun turn) turns → AreTurnsOf left may_answer sources turns kept
all_begun {I = I} left may_answer sources turns kept nothing are ready all = record {
  count = sym (length-map turns source_of) ∙ ap length are;
  each = λ rank source turn at_source at_turn.
      let there : Some turn.source ≡ Some source = sym (mapped_at source_of turns rank turn at_turn) ∙ ap (λ (ss : List (Source I)). slice_get ss rank) are ∙ at_source in
      let same : turn.source ≡ source = cc in
      subst (λ (one : Source I). IsTurnOf left may_answer rank one turn kept) same (turn_begun left may_answer rank turn kept nothing (all_at (λ turn. IsReady turn) turns rank turn ready at_turn) (all_at (λ turn. IsBegun turn) turns rank turn all at_turn));
}

-- Turns that are over.

read_by : {I : Type 0} (left : I → Option (List ℕ)) (may_answer : ℕ → ℕ → Bool → Type 0) (rank : ℕ) (source : Source I) (turn : AtTurn I) (kept : Kept) → turn.over ≡ true → IsTurnOf left may_answer rank source turn kept → IsReadOf left may_answer rank source kept
read_by left may_answer rank source turn kept over of = record {
  items = of.items;
  whole = subst (λ (o : Bool). CameOf left (may_answer rank) source turn of.items o) over of.came;
  kept_so = of.kept_so;
}

pub all_read : {I : Type 0} (left : I → Option (List ℕ)) (may_answer : ℕ → ℕ → Bool → Type 0) (sources : List (Source I)) (begun over : List (AtTurn I)) (first last : Kept) → length first.recording ≡ length sources → first ≡ nothing_kept first.reading first.groups → map source_of begun ≡ sources → All (λ turn. IsReady turn) begun → All (λ turn. IsBegun turn) begun → AreLater left may_answer begun first over last → All (λ turn. IsOver turn) over → AreReadOf left may_answer sources last
all_read left may_answer sources begun over first last one nothing are ready all later ends =
    let turns = later.turns sources (all_begun left may_answer sources begun first nothing are ready all) in record {
      one_a_rank = later.ranks ∙ one;
      places = later.places ∙ subst (λ (k : Kept). length k.faults ≡ length k.recording) (sym nothing) (places_at_first first.reading first.groups) ∙ sym later.ranks;
      each = λ rank source at.
          let turn = found_at over rank (omega (arith, turns.count, slice_get_within sources rank source at)) in
          read_by left may_answer rank source turn.0 last (all_at (λ turn. IsOver turn) over rank turn.0 ends turn.1) (turns.each rank source turn.0 at turn.1);
    }

-- all turns were looked at
pub over_all : {X : Type 0} (P : X → Type 0) (xs : List X) (i : ℕ) → length xs ≤ i → All P (take i xs) → All P xs
over_all {X = X} P xs i whole all = subst (λ (ys : List X). All P ys) (take_all i xs whole) all
