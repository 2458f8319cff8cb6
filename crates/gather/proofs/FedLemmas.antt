-- How the trace of a source goes on after the records that were put.
use Rattle.std.proofs.Common.{◌≡◌, ℕ, zero, suc, ◌+◌, ◌-◌, ◌^◌, min, length, List, [], ◌∷◌, ◌++◌, sym, ap, ◌∙◌, refl, Option, Some, None, Result, Ok, Err, IfOk, append_assoc, map, IfSome, Bool, true, false, not, ◌⊎◌, inl, inr, cond, arith, subst, ⊎_elim, ◌<◌}
use Rattle.std.specs.Prelude.{⊤}
use Rattle.std.proofs.lemmas.Bool.{false≢true}
use Rattle.std.proofs.lemmas.List.{map-append, length-map, length_push}
use Rattle.mpicall.specs.Device.{count_if, one_more}
use Rattle.mpicall.specs.Ending.{ends_list}
use Rattle.mpicall.specs.Lines.{lines_of}
use Rattle.mpicall.specs.Parsing.{record_of_line}
use Rattle.mpicall.specs.Trace.{Trace, put_first, ends_here, trace_of, trace_of_lines, trace_with, end_with_behind}
use Rattle.mpicall.specs.Source.{Gives, coming, trace_at}
use Rattle.mpicall.specs.declared.source.Source.{Source}
use Rattle.mpicall.specs.declared.source.Stage.{Stage}
use Rattle.mpicall.specs.declared.source.Stage.TheVariants.{Reading, Ended}
use Rattle.mpicall.specs.declared.call.Call.{Call}
use Rattle.mpicall.specs.declared.fault.LineFault.{LineFault}
use Rattle.mpicall.specs.declared.fault.SourceFault.TheVariants.{TextAfterFinalize}
use Rattle.rankfeed.specs.Rings.{sent_whole}
use Rattle.rankfeed.specs.declared.answer.Unsealed.{Unsealed}
use Rattle.rankfeed.specs.declared.ring.Receipt.{Receipt}
use Rattle.rankfeed.specs.Items.{calls_among, end_the_list, end_mark_of, mark_in}
use Rattle.mpicall.specs.declared.fault.Ending.{Ending}
use Rattle.mpicall.specs.declared.fault.Ending.TheVariants.{Sealed, Torn}
use Rattle.rankfeed.specs.declared.item.Item.{Item}
use Rattle.rankfeed.specs.declared.item.Item.TheVariants.{Entry, Mark}
use Rattle.rankfeed.proofs.ItemLemmas.{last_item-push}
use Rattle.gather.specs.FeedContract.{marked, AreAsked, passages, end_behind, mark_of, CountsReads, EndsAs, StopsAs, line_behind, IsFed, is_failed_read, TraceGoesOn, Continues}

-- No record follows the one that ends the list.

abbrev pub IsClosed : List Call → Type 0
IsClosed [] = ⊤
IsClosed (call ∷ calls) = (ends_list call ≡ true → calls ≡ []) × IsClosed calls

closed_first : (ends : Bool) (call : Call) (last : Ending) (others : Trace) → ends_list call ≡ ends → IsClosed others.records → IsClosed (put_first call (cond ends (ends_here last) others)).records
closed_first true call last others is closed = (λ _. refl, tt)
closed_first false call last others is closed = (λ ends. absurd (false≢true (sym is ∙ ends)), closed)

closed_with : (reading : Result Call LineFault) (behind : List (List ℕ)) (others : Trace) → IsClosed others.records → IsClosed (trace_with reading behind others).records
closed_with (Ok call) behind others closed = closed_first (ends_list call) call (end_with_behind behind) others refl closed
closed_with (Err fault) behind others closed = tt

closed_lines : (lines : List (List ℕ)) → IsClosed (trace_of_lines lines).records
closed_lines [] = tt
closed_lines (line ∷ behind) = closed_with (record_of_line line) behind (trace_of_lines behind) (closed_lines behind)

closed_text : (bytes : List ℕ) → IsClosed (trace_of bytes).records
unfolding trace_of
closed_text bytes = closed_lines (lines_of bytes)

closed_at : (stage : Stage) (bytes : Option (List ℕ)) → IfSome (trace_at stage bytes) (λ trace. IsClosed trace.records)
closed_at Reading (Some bytes) = closed_text bytes
closed_at Ended (Some bytes) = tt
closed_at stage bytes = tt

-- none does in the trace that a source still gives
pub coming_closed : {I : Type 0} → (left : I → Option (List ℕ)) (source : Source I) → IfSome (coming left source) (λ trace. IsClosed trace.records)
unfolding coming
coming_closed left source = closed_at source.stage _

-- The mark of a text's end.

mark_behind : (call : Call) (records : List Call) (end : Ending) → mark_of records end ≡ end → mark_of (call ∷ records) end ≡ end
mark_behind call records (Torn fault) is = refl
mark_behind call [] Sealed is = cc
mark_behind call (next ∷ records) Sealed is = is

mark_last : (call : Call) (behind : List (List ℕ)) → ends_list call ≡ true → mark_of (call ∷ []) (end_with_behind behind) ≡ end_with_behind behind
mark_last call [] ends = ap end_behind ends
mark_last call (line ∷ behind) ends = refl

mark_first : (ends : Bool) (call : Call) (behind : List (List ℕ)) (others : Trace) → ends_list call ≡ ends → mark_of others.records others.end ≡ others.end → let rest = cond ends (ends_here (end_with_behind behind)) others in mark_of (call ∷ rest.records) rest.end ≡ rest.end
mark_first true call behind others ends is = mark_last call behind ends
mark_first false call behind others ends is = mark_behind call others.records others.end is

mark_with : (reading : Result Call LineFault) (behind : List (List ℕ)) (others : Trace) → mark_of others.records others.end ≡ others.end → let trace = trace_with reading behind others in mark_of trace.records trace.end ≡ trace.end
mark_with (Ok call) behind others is = mark_first (ends_list call) call behind others refl is
mark_with (Err fault) behind others is = refl

mark_lines : (lines : List (List ℕ)) → mark_of (trace_of_lines lines).records (trace_of_lines lines).end ≡ (trace_of_lines lines).end
mark_lines [] = refl
mark_lines (line ∷ behind) = mark_with (record_of_line line) behind (trace_of_lines behind) (mark_lines behind)

pub mark_text : (bytes : List ℕ) → mark_of (trace_of bytes).records (trace_of bytes).end ≡ (trace_of bytes).end
unfolding trace_of
mark_text bytes = mark_lines (lines_of bytes)

-- A record that comes after the one that ends the list.

none_further : (calls : List Call) (call : Call) (rest : List Call) → IsClosed (calls ++ call ∷ rest) → end_the_list (map Entry calls) ≡ true → ⊥
none_further [] call rest closed ends = false≢true ends
none_further (last ∷ []) call rest closed ends = let e = closed.0 ends in cc
none_further (first ∷ next ∷ calls) call rest closed ends = none_further (next ∷ calls) call rest closed.1 ends

-- The records put so far.

pub begins : (told : Option Trace) (items : List Item) → items ≡ [] → Continues told items told
begins None items is = record { calls = []; are = is; goes_on = tt }
begins (Some whole) items is = record { calls = []; are = is; goes_on = (whole, refl, record { records = refl; end = refl }) }

-- one more record was given
goes_further : (told now next : Option Trace) (calls : List Call) (call : Call) → TraceGoesOn told calls now → Gives now next (Ok (Some call)) → TraceGoesOn told (calls ++ call ∷ []) next
goes_further None now next calls call c gives = tt
goes_further (Some whole) None next calls call c gives = absurd (let e = c.1 in cc)
goes_further (Some whole) (Some rest) next calls call c gives =
    let same : rest ≡ c.0 = let e = c.1 in cc in
    let front : c.0 ≡ put_first call gives.0 = sym same ∙ gives.1 in (
      gives.0,
      gives.2,
      record {
        records = c.2.records ∙ ap (λ (t : Trace). calls ++ t.records) front ∙ sym (append_assoc calls (call ∷ []) gives.0.records);
        end = c.2.end ∙ ap (λ (t : Trace). t.end) front;
      },
    )

pub one_further : (told now next : Option Trace) (items more : List Item) (call : Call) → Continues told items now → Gives now next (Ok (Some call)) → more ≡ items ++ Entry call ∷ [] → Continues told more next
one_further told now next items more call c gives is = record {
  calls = c.calls ++ call ∷ [];
  are = is ∙ ap (λ xs. xs ++ Entry call ∷ []) c.are ∙ sym (map-append Entry c.calls (call ∷ []));
  goes_on = goes_further told now next c.calls call c.goes_on gives;
}

-- How often the gate was asked.

at_or_below : (k n : ℕ) → k < n + 1 → (k < n) ⊎ (k ≡ n)
at_or_below zero zero below = inr refl
at_or_below zero (suc n) below = inl (omega arith)
at_or_below (suc k) zero below = absurd (omega (arith, below))
at_or_below (suc k) (suc n) below =
    ⊎_elim (λ (less : k < n). inl (omega (arith, less))) (λ (same : k ≡ n). inr (ap suc same)) (at_or_below k n (omega (arith, below)))

-- one question more, at the next line, let the source be asked
pub asked_more : (may_answer : ℕ → Bool → Type 0) (count line : ℕ) (answer : Bool) → AreAsked may_answer count → line ≡ line_behind count → may_answer line answer → answer ≡ true → AreAsked may_answer (count + 1)
asked_more may_answer count line answer before at may passes place below =
    ⊎_elim
    (λ (earlier : place < count). before place earlier)
    (λ (here : place ≡ count). subst (λ (k : ℕ). may_answer (line_behind k) true) (sym here) (subst (λ (l : ℕ). may_answer l true) at (subst (λ (b : Bool). may_answer line b) passes may)))
    (at_or_below place count below)

calls_count : (items : List Item) (calls : List Call) → items ≡ map Entry calls → length items ≡ length calls
calls_count items calls is = ap (λ (xs : List Item). length xs) is ∙ length-map calls Entry

asked_calls : (may_answer : ℕ → Bool → Type 0) (items : List Item) (calls : List Call) → items ≡ map Entry calls → AreAsked may_answer (length items + 1) → AreAsked may_answer (length calls + 1)
asked_calls may_answer items calls is asked = subst (λ (n : ℕ). AreAsked may_answer (n + 1)) (calls_count items calls is) asked

pub asked_push : (may_answer : ℕ → Bool → Type 0) (items more : List Item) (call : Call) → more ≡ items ++ Entry call ∷ [] → AreAsked may_answer (length items + 1) → AreAsked may_answer (length more)
asked_push may_answer items more call is asked =
    let count : length items + 1 ≡ length more = sym (ap (λ (xs : List Item). length xs) is ∙ length_push items (Entry call)) in
    subst (λ (n : ℕ). AreAsked may_answer n) count asked

-- After an end mark.

fed_by : (told : Option Trace) (may_answer : ℕ → Bool → Type 0) (items all : List Item) (calls : List Call) (end : Ending) → items ≡ map Entry calls → all ≡ items ++ Mark end ∷ [] → IfSome told (λ whole. EndsAs whole calls end) → StopsAs may_answer calls end → AreAsked may_answer (passages calls end) → IsFed told may_answer all
fed_by told may_answer items all calls end are is whole stops asked = record { calls = calls; end = end; are = is ∙ ap (λ xs. xs ++ Mark end ∷ []) are; whole = whole; stopped = stops; asked = asked }

-- no record comes after the one that ends the list, where the trace is known
no_more : (told now next : Option Trace) (calls : List Call) (call : Call) (end : Ending) → TraceGoesOn told calls now → IfSome told (λ whole. IsClosed whole.records) → end_the_list (map Entry calls) ≡ true → Gives now next (Ok (Some call)) → IfSome told (λ whole. EndsAs whole calls end)
no_more None now next calls call end c closed ends gives = tt
no_more (Some whole) None next calls call end c closed ends gives = absurd (let e = c.1 in cc)
no_more (Some whole) (Some rest) next calls call end c closed ends gives =
    let same : rest ≡ c.0 = let e = c.1 in cc in
    let front : c.0 ≡ put_first call gives.0 = sym same ∙ gives.1 in
    let records : whole.records ≡ calls ++ call ∷ gives.0.records = c.2.records ∙ ap (λ (t : Trace). calls ++ t.records) front in
    absurd (none_further calls call gives.0.records (subst IsClosed records closed) ends)

pub fed_closed : (told now next : Option Trace) (may_answer : ℕ → Bool → Type 0) (items all : List Item) (call : Call) → Continues told items now → IfSome told (λ whole. IsClosed whole.records) → end_the_list items ≡ true → Gives now next (Ok (Some call)) → all ≡ items ++ Mark (Torn TextAfterFinalize) ∷ [] → AreAsked may_answer (length items + 1) → IsFed told may_answer all
fed_closed told now next may_answer items all call c closed ends gives is asked =
    let last : end_the_list (map Entry c.calls) ≡ true = ap end_the_list (sym c.are) ∙ ends in
    fed_by told may_answer items all c.calls (Torn TextAfterFinalize) c.are is (no_more told now next c.calls call (Torn TextAfterFinalize) c.goes_on closed last gives) tt (asked_calls may_answer items c.calls c.are asked)

-- a record is taken while none ended the list
pub taken_open : (items : List Item) (done taken : Bool) → done ≡ end_the_list items → done ≡ false → taken ≡ not (end_the_list items) → taken ≡ true
taken_open items done taken is going result = result ∙ ap not (sym is ∙ going)

-- How many reads failed.

-- a count by an end mark is one by the items that it ends
pub counted_behind : (items : List Item) (end : Ending) (now start : ℕ) → now ≡ count_if (is_failed_read (Some end)) start → now ≡ count_if (is_failed_read (end_mark_of (items ++ Mark end ∷ []))) start
counted_behind items end now start e = e ∙ ap (λ o. count_if (is_failed_read (mark_in o)) start) (sym (last_item-push items (Mark end)))

-- What is true of the items that a receipt tells.

abbrev pub Carries : Result Receipt Unsealed → List Item → Type 0
Carries result items = IfOk result (λ receipt. sent_whole receipt ≡ items)

one_at_most : (failed : Bool) (now start : ℕ) → now ≡ count_if failed start → (now ≡ start) ⊎ (now ≡ one_more start)
one_at_most true now start is = inr is
one_at_most false now start is = inl is

pub receipt_counts : (result : Result Receipt Unsealed) (items : List Item) (now start : ℕ) → Carries result items → now ≡ count_if (is_failed_read (end_mark_of items)) start → CountsReads start now result
receipt_counts (Ok receipt) items now start is e = e ∙ ap (λ xs. count_if (is_failed_read (end_mark_of xs)) start) (sym is)
receipt_counts (Err fault) items now start is e = one_at_most (is_failed_read (end_mark_of items)) now start e

-- the next question's line
pub next_line : (line next : ℕ) (items more : List Item) (call : Call) → line ≡ line_behind (length items) → next ≡ min (line + 1) (2 ^ 32 - 1) → more ≡ items ++ Entry call ∷ [] → next ≡ line_behind (length more)
next_line line next items more call at is e =
    let long : length more ≡ length items + 1 = ap (λ (xs : List Item). length xs) e ∙ length_push items (Entry call) in
    omega arith

-- What the items of a feed say of its source's trace.

pub marked_calls : (calls : List Call) (end : Ending) → calls_among (marked calls end) ≡ calls
marked_calls [] end = refl
marked_calls (call ∷ calls) end = ap (λ xs. call ∷ xs) (marked_calls calls end)

pub marked_end : (calls : List Call) (end : Ending) → end_mark_of (marked calls end) ≡ Some end
marked_end calls end = ap mark_in (last_item-push (map Entry calls) (Mark end))
