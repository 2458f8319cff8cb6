-- Two lists whose records are the same but in the places of sinks have the same numbers of requests.
use Rattle.std.proofs.Common.{◌≡◌, ◌⊎◌, ℕ, ◌+◌, ◌==◌, ◌||◌, not, max, Bool, true, false, Option, Some, None, is_some, unwrap_or, if◌then◌else◌, List, [], ◌∷◌, ◌++◌, length, take, refl, sym, ap, subst, ◌∙◌, inl, inr}
use Rattle.std.specs.Prelude.{⊤}
use Rattle.std.specs.List.{find, list_any, range_with_len}
use Rattle.std.specs.Option.{option_map_or}
use Rattle.std.proofs.lemmas.Bool.{cases_Bool, false≢true, or_parts}
use Rattle.std.proofs.lemmas.List.Folds.{list_any-append}
use Rattle.mpicall.specs.declared.limits.TheConstants.{MOST_REQUESTS}
use Rattle.mpicall.specs.declared.call.Call.{Call}
use Rattle.closing.specs.Steps.{Id, Own, Whole, ReceiveHalf, Sink, Written, Progress, Step, Does, Starts, WaitsForAll, WaitsForOne, PutsOff, WaitsForLate, same_id, number_in, without, without_all, put_number, numbers_of, has_number, is_free, above, least_free, waits_for, wait_for_one, wait_one, plain, after_step, after_steps}
use Rattle.journals.specs.Lines.{Line}
use Rattle.closing.specs.Entry.{id_of, is_of_send, matched_message}
use Rattle.closing.specs.Sinks.{is_of, sink_for, sink_in}
use Rattle.closing.specs.declared.pending.Wanted.{Wanted}
use Rattle.lawful.specs.LongerSinks.{StaysThere, AllStay, IsInPlace, IsSinkStill, IsReceived}
use Rattle.lawful.proofs.ActiveSends.{AllSteps}

-- ---- Records ----

abbrev pub Pairs : List Written → List Written → Type 0
Pairs [] [] = ⊤
Pairs (one ∷ old) (other ∷ new) = StaysThere one other × Pairs old new
Pairs old new = ⊥

pub pairs_append : (old new more also : List Written) → Pairs old new → Pairs more also → Pairs (old ++ more) (new ++ also)
pairs_append [] [] more also pairs others = others
pairs_append (one ∷ old) (other ∷ new) more also pairs others = (pairs.0, pairs_append old new more also pairs.1 others)
pairs_append [] (other ∷ new) more also pairs others = absurd pairs
pairs_append (one ∷ old) [] more also pairs others = absurd pairs

pub pairs_same : (records : List Written) → Pairs records records
pairs_same [] = tt
pairs_same (one ∷ records) = (inl refl, pairs_same records)

pub pairs_stay : (old new rest : List Written) → Pairs old new → AllStay old (new ++ rest)
pairs_stay [] new rest pairs = tt
pairs_stay (one ∷ old) (other ∷ new) rest pairs = (pairs.0, pairs_stay old new rest pairs.1)
pairs_stay (one ∷ old) [] rest pairs = absurd pairs

-- ---- Sinks of a request ----

abbrev pub has_sink : ℕ → List Written → Bool
has_sink request records = list_any (λ one. is_of (Own request) one.starts) records

none_of_place : (request : ℕ) (one other : Written) → IsInPlace one other → is_of (Own request) one.starts ≡ false → is_of (Own request) other.starts ≡ false
none_of_place request one other it none = by_stays it.stays
  where
    apart : (it.own == request) ≡ false
    apart = ap (λ (o : Option Id). is_of (Own request) o) (sym it.starts) ∙ none

    by_stays : IsSinkStill it.own it.wanted it.number other ⊎ IsReceived it.own it.wanted it.number other → is_of (Own request) other.starts ≡ false
    by_stays (inl still) = ap (λ (o : Option Id). is_of (Own request) o) still.starts ∙ apart
    by_stays (inr received) = ap (λ (o : Option Id). is_of (Own request) o) received.starts

none_of_other : (request : ℕ) (one other : Written) → StaysThere one other → is_of (Own request) one.starts ≡ false → is_of (Own request) other.starts ≡ false
none_of_other request one other (inl same) none = ap (λ (w : Written). is_of (Own request) w.starts) same ∙ none
none_of_other request one other (inr (inl it)) none = none_of_place request one other it none
none_of_other request one other (inr (inr it)) none = ap (λ (o : Option Id). is_of (Own request) o) it.also_starts

pub sinks_stay : (request : ℕ) (old new : List Written) → Pairs old new → has_sink request old ≡ false → has_sink request new ≡ false
sinks_stay request [] [] pairs none = refl
sinks_stay request (one ∷ old) (other ∷ new) pairs none =
    let parts = or_parts (is_of (Own request) one.starts) (has_sink request old) none in
    rw (none_of_other request one other pairs.0 parts.0, sinks_stay request old new pairs.1 parts.1) refl
sinks_stay request [] (other ∷ new) pairs none = absurd pairs
sinks_stay request (one ∷ old) [] pairs none = absurd pairs

is_sink : (request : ℕ) (o : Option Id) → is_of (Own request) o ≡ true → is_some (sink_in o) ≡ true
is_sink request (Some (Sink (Some own) wanted is_known)) h = refl
is_sink request (Some (Sink None wanted is_known)) h = refl
is_sink request (Some (Own other)) h = absurd (false≢true h)
is_sink request (Some (Whole line)) h = absurd (false≢true h)
is_sink request (Some (ReceiveHalf line)) h = absurd (false≢true h)
is_sink request None h = absurd (false≢true h)

pub none_sunk : (request : ℕ) (records : List Written) → is_some (sink_for records (Own request)) ≡ false → has_sink request records ≡ false
none_sunk request [] none = refl
none_sunk request (one ∷ records) none =
    elim (cases_Bool (is_of (Own request) one.starts)) [
      | inl here ↦ absurd (false≢true (sym (rw here at none) ∙ is_sink request one.starts here))
      | inr there ↦ rw (there, none_sunk request records (rw there at none)) refl
    ]

pub none_found : (request : ℕ) (records : List Written) → has_sink request records ≡ false → is_some (sink_for records (Own request)) ≡ false
none_found request [] none = refl
none_found request (one ∷ records) none =
    let parts = or_parts (is_of (Own request) one.starts) (has_sink request records) none in
    rw parts.0 (none_found request records parts.1)

-- ---- Active requests ----

-- of a sink's request the sink stands still, or what it took
pub record IsOfSink (id other : Id) : Type 0 where
  pub own : ℕ
  pub wanted : Wanted
  pub is_known : Bool
  pub is : id ≡ Sink (Some own) wanted is_known
  pub also : (other ≡ Own own) ⊎ ((less : Wanted) × (known : Bool) × (other ≡ Sink (Some own) less known))

abbrev pub IdStays : Id → Id → Type 0
IdStays id other = (other ≡ id) ⊎ IsOfSink id other

abbrev pub Active : List (Id × ℕ) → List (Id × ℕ) → Type 0
Active [] [] = ⊤
Active (one ∷ old) (other ∷ new) = ((other.1 ≡ one.1) × IdStays one.0 other.0) × Active old new
Active old new = ⊥

abbrev pub is_active_sink : ℕ → List (Id × ℕ) → Bool
is_active_sink request active = list_any (λ one. is_of (Own request) (Some one.0)) active

same_found : (request : ℕ) (id other : Id) → IdStays id other → is_of (Own request) (Some id) ≡ false → same_id other (Own request) ≡ same_id id (Own request)
same_found request id other (inl same) none = ap (λ (one : Id). same_id one (Own request)) same
same_found request id other (inr it) none = by_also it.also ∙ sym (ap (λ (one : Id). same_id one (Own request)) it.is)
  where
    by_also : (other ≡ Own it.own) ⊎ ((less : Wanted) × (known : Bool) × (other ≡ Sink (Some it.own) less known)) → same_id other (Own request) ≡ false
    by_also (inl own) = ap (λ (one : Id). same_id one (Own request)) own ∙ sym (ap (λ (one : Id). is_of (Own request) (Some one)) it.is) ∙ none
    by_also (inr still) = ap (λ (one : Id). same_id one (Own request)) still.2

abbrev found_if : Bool → ℕ → Option ℕ → Option ℕ
found_if b number others = if b then Some number else others

number_same : (request : ℕ) (old new : List (Id × ℕ)) → Active old new → is_active_sink request old ≡ false → number_in new (Own request) ≡ number_in old (Own request)
number_same request [] [] active none = refl
number_same request (one ∷ old) (other ∷ new) active none =
    let parts = or_parts (is_of (Own request) (Some one.0)) (is_active_sink request old) none in
    ap (λ (b : Bool). found_if b other.1 (number_in new (Own request))) (same_found request one.0 other.0 active.0.1 parts.0)
    ∙ ap (λ (n : ℕ). found_if (same_id one.0 (Own request)) n (number_in new (Own request))) active.0.0
    ∙ ap (λ (o : Option ℕ). found_if (same_id one.0 (Own request)) one.1 o) (number_same request old new active.1 parts.1)
number_same request [] (other ∷ new) active none = absurd active
number_same request (one ∷ old) [] active none = absurd active

active_put : (b : Bool) (one other : Id × ℕ) (old new : List (Id × ℕ)) → (other.1 ≡ one.1) × IdStays one.0 other.0 → Active old new → Active (if b then one ∷ old else old) (if b then other ∷ new else new)
active_put true one other old new first active = (first, active)
active_put false one other old new first active = active

active_without : (number : ℕ) (old new : List (Id × ℕ)) → Active old new → Active (without number old) (without number new)
active_without number [] [] active = tt
active_without number (one ∷ old) (other ∷ new) active =
    subst (λ (n : ℕ). Active (without number (one ∷ old)) (if not (n == number) then other ∷ without number new else without number new)) (sym active.0.0)
    (active_put (not (one.1 == number)) one other (without number old) (without number new) active.0 (active_without number old new active.1))
active_without number [] (other ∷ new) active = absurd active
active_without number (one ∷ old) [] active = absurd active

active_all : (numbers : List ℕ) (old new : List (Id × ℕ)) → Active old new → Active (without_all numbers old) (without_all numbers new)
active_all [] old new active = active
active_all (number ∷ numbers) old new active = active_all numbers (without number old) (without number new) (active_without number old new active)

none_put : (request : ℕ) (b : Bool) (one : Id × ℕ) (others : List (Id × ℕ)) → is_of (Own request) (Some one.0) ≡ false → is_active_sink request others ≡ false → is_active_sink request (if b then one ∷ others else others) ≡ false
none_put request true one others first rest = rw (first, rest) refl
none_put request false one others first rest = rest

none_without : (request number : ℕ) (active : List (Id × ℕ)) → is_active_sink request active ≡ false → is_active_sink request (without number active) ≡ false
none_without request number [] none = refl
none_without request number (one ∷ active) none =
    let parts = or_parts (is_of (Own request) (Some one.0)) (is_active_sink request active) none in
    none_put request (not (one.1 == number)) one (without number active) parts.0 (none_without request number active parts.1)

none_all : (request : ℕ) (numbers : List ℕ) (active : List (Id × ℕ)) → is_active_sink request active ≡ false → is_active_sink request (without_all numbers active) ≡ false
none_all request [] active none = none
none_all request (number ∷ numbers) active none = none_all request numbers (without number active) (none_without request number active none)

-- these are no sinks'
pub record IsClear (active : List (Id × ℕ)) (id : Id) : Type 0 where
  pub request : ℕ
  pub is : id ≡ Own request
  pub none : is_active_sink request active ≡ false

abbrev pub Clear : List (Id × ℕ) → List Id → Type 0
Clear active [] = ⊤
Clear active (id ∷ ids) = IsClear active id × Clear active ids

clear_without : (number : ℕ) (active : List (Id × ℕ)) (ids : List Id) → Clear active ids → Clear (without number active) ids
clear_without number active [] clear = tt
clear_without number active (id ∷ ids) clear = (
  record { request = clear.0.request; is = clear.0.is; none = none_without clear.0.request number active clear.0.none },
  clear_without number active ids clear.1,
)

clear_number : (old new : List (Id × ℕ)) (id : Id) → Active old new → IsClear old id → number_in new id ≡ number_in old id
clear_number old new id active clear =
    ap (λ (one : Id). number_in new one) clear.is ∙ number_same clear.request old new active clear.none ∙ sym (ap (λ (one : Id). number_in old one) clear.is)

put_same : (o : Option ℕ) (old new : List (Id × ℕ)) (others : List (Id × ℕ) → List ℕ) → others new ≡ others old → ((number : ℕ) → others (without number new) ≡ others (without number old)) → put_number o new others ≡ put_number o old others
put_same None old new others same rest = same
put_same (Some number) old new others same rest = ap (λ (numbers : List ℕ). number ∷ numbers) (rest number)

numbers_same : (old new : List (Id × ℕ)) (ids : List Id) → Active old new → Clear old ids → numbers_of new ids ≡ numbers_of old ids
numbers_same old new [] active clear = refl
numbers_same old new (id ∷ ids) active clear =
    ap (λ (o : Option ℕ). put_number o new (λ left. numbers_of left ids)) (clear_number old new id active clear.0)
    ∙ put_same (number_in old id) old new (λ left. numbers_of left ids) (numbers_same old new ids active clear.1)
    (λ number. numbers_same (without number old) (without number new) ids (active_without number old new active) (clear_without number old ids clear.1))

-- the least free number is the same
has_same : (number : ℕ) (old new : List (Id × ℕ)) → Active old new → has_number new number ≡ has_number old number
has_same number [] [] active = refl
has_same number (one ∷ old) (other ∷ new) active =
    ap (λ (n : ℕ). (n == number) || has_number new number) active.0.0 ∙ ap (λ (b : Bool). (one.1 == number) || b) (has_same number old new active.1)
has_same number [] (other ∷ new) active = absurd active
has_same number (one ∷ old) [] active = absurd active

above_same : (old new : List (Id × ℕ)) → Active old new → above new ≡ above old
above_same [] [] active = refl
above_same (one ∷ old) (other ∷ new) active =
    ap (λ (n : ℕ). max (n + 1) (above new)) active.0.0 ∙ ap (λ (n : ℕ). max (one.1 + 1) n) (above_same old new active.1)
above_same [] (other ∷ new) active = absurd active
above_same (one ∷ old) [] active = absurd active

find_same : (f g : ℕ → Bool) (xs : List ℕ) → ((x : ℕ) → f x ≡ g x) → find f xs ≡ find g xs
find_same f g [] same = refl
find_same f g (x ∷ xs) same =
    ap (λ (b : Bool). if b then Some x else find f xs) (same x) ∙ ap (λ (o : Option ℕ). if g x then Some x else o) (find_same f g xs same)

least_same : (old new : List (Id × ℕ)) → Active old new → least_free new ≡ least_free old
least_same old new active =
    ap (λ (n : ℕ). unwrap_or (find (is_free new) (range_with_len 0 n)) n) (above_same old new active)
    ∙ ap (λ (o : Option ℕ). unwrap_or o (above old))
    (find_same (is_free new) (is_free old) (range_with_len 0 (above old)) (λ number. ap (λ (b : Bool). not b) (has_same number old new active)))

-- ---- Lists so far ----

-- each of these is the request of a send
pub record IsSend (lines : List Line) (id : Id) : Type 0 where
  pub request : ℕ
  pub is : id ≡ Own request
  pub sends : is_of_send lines request ≡ true

abbrev pub AreSends : List Line → List Id → Type 0
AreSends lines [] = ⊤
AreSends lines (id ∷ ids) = IsSend lines id × AreSends lines ids

pub a_send : (lines : List Line) (request : ℕ) → matched_message lines request ≡ None → is_of_send lines request ≡ true → IsSend lines (id_of lines request)
a_send lines request none sent = record {
  request = request;
  is = ap (λ (one : Option ℕ). Own (option_map_or (λ message. message) one request)) none;
  sends = sent;
}

-- requests of sends alone are put off, and none of them is a sink's; each active sink is a record's
pub record Alike (lines : List Line) (old new : Progress) : Type 0 where
  pub records : Pairs old.records new.records
  pub active : Active old.active new.active
  pub late : new.late ≡ old.late
  pub sends : AreSends lines old.late
  pub quiet : (request : ℕ) → is_of_send lines request ≡ true → has_sink request old.records ≡ false
  pub covers : (request : ℕ) → has_sink request old.records ≡ false → is_active_sink request old.active ≡ false

sink_first : (request : ℕ) (records more : List Written) → has_sink request (records ++ more) ≡ false → has_sink request records ≡ false
sink_first request records more none =
    (or_parts (has_sink request records) (has_sink request more) (sym (list_any-append (λ one. is_of (Own request) one.starts) records more) ∙ none)).0

sink_last : (request : ℕ) (records : List Written) (one : Written) → has_sink request (records ++ one ∷ []) ≡ false → is_of (Own request) one.starts ≡ false
sink_last request records one none =
    (or_parts (is_of (Own request) one.starts) false
    (or_parts (has_sink request records) (is_of (Own request) one.starts || false) (sym (list_any-append (λ w. is_of (Own request) w.starts) records (one ∷ [])) ∙ none)).1).0

both_quiet : (request : ℕ) (records more : List Written) → has_sink request records ≡ false → has_sink request more ≡ false → has_sink request (records ++ more) ≡ false
both_quiet request records more first others =
    list_any-append (λ one. is_of (Own request) one.starts) records more
    ∙ ap (λ (b : Bool). b || has_sink request more) first ∙ others

pub plain_quiet : (request line : ℕ) (calls : List Call) → has_sink request (plain line calls) ≡ false
plain_quiet request line [] = refl
plain_quiet request line (call ∷ calls) = plain_quiet request line calls

waits_alike : (lines : List Line) (old new : Progress) (numbers : List ℕ) (more also : List Written) → Alike lines old new → ((request : ℕ) → has_sink request more ≡ false) → Pairs more also → Alike lines (record old { records = old.records ++ more; active = without_all numbers old.active }) (record new { records = new.records ++ also; active = without_all numbers new.active })
waits_alike lines old new numbers more also alike quiet pairs = record {
  records = pairs_append old.records new.records more also alike.records pairs;
  active = active_all numbers old.active new.active alike.active;
  late = alike.late;
  sends = alike.sends;
  quiet = λ request sent. both_quiet request old.records more (alike.quiet request sent) (quiet request);
  covers = λ request none. none_all request numbers old.active (alike.covers request (sink_first request old.records more none));
}

-- a request that is started with the same number in both
pub start_alike : (lines : List Line) (old new : Progress) (line : ℕ) (id other : Id) (call also : ℕ → Call) → Alike lines old new → IdStays id other → ((request : ℕ) → is_of_send lines request ≡ true → is_of (Own request) (Some id) ≡ false) → StaysThere (record { call = call (least_free old.active); line = line; starts = Some id }) (record { call = also (least_free old.active); line = line; starts = Some other }) → Alike lines (after_step old line (Starts id call)) (after_step new line (Starts other also))
start_alike lines old new line id other call also alike ids quiet stays =
    let least = least_same old.active new.active alike.active in
    let one : Written = record { call = call (least_free old.active); line = line; starts = Some id } in
    record {
      records = pairs_append old.records new.records (one ∷ []) (record { call = also (least_free new.active); line = line; starts = Some other } ∷ []) alike.records
          (subst (λ (n : ℕ). StaysThere (record { call = call (least_free old.active); line = line; starts = Some id }) (record { call = also n; line = line; starts = Some other })) (sym least) stays, tt);
      active = ((least, ids), alike.active);
      late = alike.late;
      sends = alike.sends;
      quiet = λ request sent. both_quiet request old.records (one ∷ []) (alike.quiet request sent) (ap (λ (b : Bool). b || false) (quiet request sent));
      covers = λ request none. rw (
        sink_last request old.records (record { call = call (least_free old.active); line = line; starts = Some id }) none,
        alike.covers request (sink_first request old.records (record { call = call (least_free old.active); line = line; starts = Some id } ∷ []) none),
      ) refl;
    }

-- ---- The same steps ----

-- a step that waits for nothing, and is no sink
abbrev pub IsCall : Step → Type 0
IsCall (Does call) = ⊤
IsCall (Starts id call) = (request : ℕ) → is_of (Own request) (Some id) ≡ false
IsCall step = ⊥

call_alike : (lines : List Line) (old new : Progress) (line : ℕ) (step : Step) → IsCall step → Alike lines old new → Alike lines (after_step old line step) (after_step new line step)
call_alike lines old new line (Does call) is alike =
    waits_alike lines old new [] (plain line (call ∷ [])) (plain line (call ∷ [])) alike (λ request. refl) (pairs_same (plain line (call ∷ [])))
call_alike lines old new line (Starts id call) is alike = start_alike lines old new line id id call call alike (inl refl) (λ request sent. is request) (inl refl)
call_alike lines old new line (WaitsForAll ids) is alike = absurd is
call_alike lines old new line (WaitsForOne id ids) is alike = absurd is
call_alike lines old new line (PutsOff ids) is alike = absurd is
call_alike lines old new line WaitsForLate is alike = absurd is

pub calls_alike : (lines : List Line) (old new : Progress) (line : ℕ) (steps : List Step) → AllSteps IsCall steps → Alike lines old new → Alike lines (after_steps old line steps) (after_steps new line steps)
calls_alike lines old new line [] all alike = alike
calls_alike lines old new line (step ∷ steps) all alike =
    calls_alike lines (after_step old line step) (after_step new line step) line steps all.1 (call_alike lines old new line step all.0 alike)

pub all_alike : (lines : List Line) (old new : Progress) (line : ℕ) (ids : List Id) → Clear old.active ids → Alike lines old new → Alike lines (after_step old line (WaitsForAll ids)) (after_step new line (WaitsForAll ids))
all_alike lines old new line ids clear alike =
    let numbers = numbers_of old.active ids in
    let calls = plain line (waits_for (length numbers) numbers) in
    subst (λ (ns : List ℕ). Alike lines (after_step old line (WaitsForAll ids)) (record new { records = new.records ++ plain line (waits_for (length ns) ns); active = without_all ns new.active }))
    (sym (numbers_same old.active new.active ids alike.active clear))
    (waits_alike lines old new numbers calls calls alike (λ request. plain_quiet request line (waits_for (length numbers) numbers)) (pairs_same calls))

pub one_alike : (lines : List Line) (old new : Progress) (line : ℕ) (id : Id) (ids : List Id) → IsClear old.active id → Alike lines old new → Alike lines (after_step old line (WaitsForOne id ids)) (after_step new line (WaitsForOne id ids))
one_alike lines old new line id ids clear alike =
    subst (λ (o : Option ℕ). Alike lines (after_step old line (WaitsForOne id ids)) (wait_one new line o (take MOST_REQUESTS (numbers_of new.active ids))))
    (sym (clear_number old.active new.active id alike.active clear)) (by_number (number_in old.active id))
  where
    by_number : (o : Option ℕ) → Alike lines (wait_one old line o (take MOST_REQUESTS (numbers_of old.active ids))) (wait_one new line o (take MOST_REQUESTS (numbers_of new.active ids)))
    by_number None = alike
    by_number (Some number) =
        waits_alike lines old new (number ∷ []) (plain line (wait_for_one number (take MOST_REQUESTS (numbers_of old.active ids)) ∷ []))
        (plain line (wait_for_one number (take MOST_REQUESTS (numbers_of new.active ids)) ∷ [])) alike (λ request. refl) (
          inr (inr (record {
            number = number;
            numbers = take MOST_REQUESTS (numbers_of old.active ids);
            others = take MOST_REQUESTS (numbers_of new.active ids);
            starts = refl;
            also_starts = refl;
            call = refl;
            also_call = refl;
          })),
          tt,
        )

-- ---- Requests that are put off ----

sends_append : (lines : List Line) (ids others : List Id) → AreSends lines ids → AreSends lines others → AreSends lines (ids ++ others)
sends_append lines [] others first last = last
sends_append lines (id ∷ ids) others first last = (first.0, sends_append lines ids others first.1 last)

pub put_off_alike : (lines : List Line) (old new : Progress) (line : ℕ) (ids : List Id) → AreSends lines ids → Alike lines old new → Alike lines (after_step old line (PutsOff ids)) (after_step new line (PutsOff ids))
put_off_alike lines old new line ids sends alike = record {
  records = alike.records;
  active = alike.active;
  late = ap (λ (late : List Id). late ++ ids) alike.late;
  sends = sends_append lines old.late ids alike.sends sends;
  quiet = alike.quiet;
  covers = alike.covers;
}

sends_clear : (lines : List Line) (active : List (Id × ℕ)) (ids : List Id) → ((request : ℕ) → is_of_send lines request ≡ true → is_active_sink request active ≡ false) → AreSends lines ids → Clear active ids
sends_clear lines active [] none sends = tt
sends_clear lines active (id ∷ ids) none sends = (
  record { request = sends.0.request; is = sends.0.is; none = none sends.0.request sends.0.sends },
  sends_clear lines active ids none sends.1,
)

-- the waits before the end
pub late_alike : (lines : List Line) (old new : Progress) (line : ℕ) → Alike lines old new → Alike lines (after_step old line WaitsForLate) (after_step new line WaitsForLate)
late_alike lines old new line alike =
    let numbers = numbers_of old.active old.late in
    let calls = plain line (waits_for (length numbers) numbers) in
    let same : numbers_of new.active new.late ≡ numbers =
    ap (λ (ids : List Id). numbers_of new.active ids) alike.late
    ∙ numbers_same old.active new.active old.late alike.active
    (sends_clear lines old.active old.late (λ request sent. alike.covers request (alike.quiet request sent)) alike.sends) in
    subst (λ (ns : List ℕ). Alike lines (after_step old line WaitsForLate) (record new { records = new.records ++ plain line (waits_for (length ns) ns); active = without_all ns new.active }))
    (sym same) (waits_alike lines old new numbers calls calls alike (λ request. plain_quiet request line (waits_for (length numbers) numbers)) (pairs_same calls))
