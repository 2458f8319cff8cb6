-- The list of a rank, as lines are added to it.
use Rattle.std.proofs.Common.{◌≡◌, ◌∙◌, ◌<◌, ◌≤◌, ◌+◌, ◌-◌, ℕ, zero, suc, false, cond, refl, sym, ap, subst, arith, List, [], ◌∷◌, ◌++◌, length, take, append_assoc, length-append, Option, Some, None, option_map, Result, Ok, Err, inl, inr, eqb, ltb, le-ltb}
use Rattle.std.specs.Prelude.{slice_get, nat_eq, IsTrue, if◌then◌else◌, ◌==◌, ◌||◌}
use Rattle.closing.specs.inner.Started.{active_at}
use Rattle.std.specs.HashSet.{contains_by}
use Rattle.std.specs.BinaryHeap.{heap_items, IsHeap}
use Rattle.std.proofs.lemmas.Bool.{cases_eq, cond-true, cond-false, eq-eqb, ne_eqb, le-leb, and_left}
use Rattle.std.proofs.lemmas.List.{append-nil, map-append, length-map}
use Rattle.mpicall.specs.declared.call.Call.{Call}
use Rattle.mpicall.specs.declared.limits.TheConstants.{GREATEST_REQUEST}
use Rattle.mpicall.specs.Limits.{in_ranges}
use Rattle.closing.specs.Steps.{Id, Own, Whole, ReceiveHalf, Sink, Written, Progress, plain, number_in, has_number, start, least_free}
use Rattle.closing.specs.inner.Free.{Requests, AreNumbered, backwards, kept_count}
use Rattle.closing.specs.inner.Lists.{Handed, HasIds, HasPlaces, has_id, has_place, ComesTo, IsUnnamed, IsStartOf, IsStarted, IsApart, Stands, IsCut, Puts, Cuts, Adds, KeepsRecords, TakesFree, calls_in, start_call, is_start_of_send}
use Rattle.closing.specs.Fit.{starts_send}
use Rattle.closing.specs.declared.freed.Freed.{Freed}
use Rattle.closing.specs.declared.list.List.{List as ListCode}
use Rattle.closing.specs.declared.list.Active.{Active}
use Rattle.closing.specs.declared.list.Start.{Start}
use Rattle.closing.specs.declared.list.Start.TheVariants as code
use Rattle.closing.specs.declared.list.TheConstants.{MOST_RECORDS}
use Rattle.closing.specs.declared.stop.Stop.{Stop}
use Rattle.closing.specs.declared.stop.Stop.TheVariants.{Left, Memory}
use Rattle.closing.specs.declared.why.Why.TheVariants.{NeverCameBack, NeverReported, Failed, NoNumber, TooLong, CannotBe, Stopped, Aborted, Full, Cut, NoJournal, NotJudged}
use Rattle.closing.proofs.FreedPlaces.{StartNone, places_cut, places_full, places_more, places_started, plain_starts}

-- ---- Records ----

abbrev pub AllOfLine : ℕ → List Written → Type 0
AllOfLine line [] = Unit {0}
AllOfLine line (one ∷ others) = (one.line ≡ line) × AllOfLine line others

pub plain_calls : (line : ℕ) (calls : List Call) → calls_in (plain line calls) ≡ calls
plain_calls line [] = refl
plain_calls line (call ∷ calls) = ap (λ others. call ∷ others) (plain_calls line calls)

pub plain_line : (line : ℕ) (calls : List Call) → AllOfLine line (plain line calls)
plain_line line [] = tt
plain_line line (call ∷ calls) = (refl, plain_line line calls)

start_more : (records more : List Written) (id : ℕ) (active : Active) (place : ℕ) → IsStartOf id active (slice_get records place) → IsStartOf id active (slice_get (records ++ more) place)
start_more [] more id active place h = absurd h
start_more (one ∷ records) more id active zero h = h
start_more (one ∷ records) more id active (suc place) h = start_more records more id active place h

pub started_more : (records more : List Written) (id : ℕ) (found : Option Active) → IsStarted records id found → IsStarted (records ++ more) id found
started_more records more id None h = tt
started_more records more id (Some active) h = start_more records more id active active.place h

at_end : (records : List Written) (one : Written) (place : ℕ) → place ≡ length records → slice_get (records ++ one ∷ []) place ≡ Some one
at_end [] one zero e = refl
at_end [] one (suc place) e = absurd (omega arith)
at_end (first ∷ records) one zero e = absurd (omega arith)
at_end (first ∷ records) one (suc place) e = at_end records one place (omega arith)

pub line_past : (records more : List Written) (line place : ℕ) → AllOfLine line more → length records ≤ place → place < length records + length more → option_map (λ it. it.line) (slice_get (records ++ more) place) ≡ Some line
line_past [] [] line place all from to = absurd (omega arith)
line_past [] (one ∷ more) line zero all from to = ap (λ n. Some n) all.0
line_past [] (one ∷ more) line (suc place) all from to = line_past [] more line place all.1 (omega arith) (omega arith)
line_past (first ∷ records) more line zero all from to = absurd (omega arith)
line_past (first ∷ records) more line (suc place) all from to = line_past records more line place all (omega arith) (omega arith)

pub take_past : {A : Type 0} (n : ℕ) (xs ys : List A) → length xs ≤ n → take n (xs ++ ys) ≡ xs ++ take (n - length xs) ys
take_past n [] ys le =
    let e : n ≡ n - 0 = omega arith in
    ap (λ k. take k ys) e
take_past zero (x ∷ xs) ys le = absurd (omega arith)
take_past (suc n) (x ∷ xs) ys le =
    let e : n - length xs ≡ suc n - suc (length xs) = omega arith in
    ap (λ others. x ∷ others) (take_past n xs ys (omega arith) ∙ ap (λ k. xs ++ take k ys) e)

-- ---- Numbers ----

pub same_numbered : (active : Requests) (old new : ListCode) → new.free ≡ old.free → new.given ≡ old.given → AreNumbered active old → AreNumbered active new
same_numbered active old new free given are =
    let kept_same : (n : ℕ) → kept_count (heap_items new.free) n ≡ kept_count (heap_items old.free) n = λ n. ap (λ it. kept_count (heap_items it) n) free in
    record {
      kept = record {
        heap = rw free are.kept.heap;
        given = λ n some. omega (arith, given, are.kept.given n (omega (arith, some, kept_same n)));
        once = λ n. omega (arith, are.kept.once n, kept_same n);
      };
      same = λ n. are.same n ∙ sym (rw (free, given) refl);
    }

-- ---- What ends a list ----

pub stop_comes : (A B : Type 0) (stop : Stop) (handed : Handed) (progress : Progress) (line : ℕ) (old new it : ListCode) (calls : List Call) → (Cuts old new calls → IsCut handed progress line it) → Adds {A = A} (Err stop) old new calls → ComesTo {A = B} (Err stop) handed progress line it
stop_comes A B Memory handed progress line old new it calls cut adds = tt
stop_comes A B (Left TooLong) handed progress line old new it calls cut adds = cut adds
stop_comes A B (Left NeverCameBack) handed progress line old new it calls cut adds = absurd adds
stop_comes A B (Left NeverReported) handed progress line old new it calls cut adds = absurd adds
stop_comes A B (Left Failed) handed progress line old new it calls cut adds = absurd adds
stop_comes A B (Left NoNumber) handed progress line old new it calls cut adds = absurd adds
stop_comes A B (Left CannotBe) handed progress line old new it calls cut adds = absurd adds
stop_comes A B (Left Stopped) handed progress line old new it calls cut adds = absurd adds
stop_comes A B (Left Aborted) handed progress line old new it calls cut adds = absurd adds
stop_comes A B (Left Full) handed progress line old new it calls cut adds = absurd adds
stop_comes A B (Left Cut) handed progress line old new it calls cut adds = absurd adds
stop_comes A B (Left NotJudged) handed progress line old new it calls cut adds = absurd adds
stop_comes A B (Left NoJournal) handed progress line old new it calls cut adds = absurd adds

-- ---- Lines that start nothing ----

module _ (handed : Handed) (progress : Progress) (line : ℕ) (old new : ListCode) (more : List Written) (calls : List Call) where
  calls_more : Stands handed progress old → calls_in more ≡ calls → calls_in (progress.records ++ more) ≡ calls_in progress.records ++ calls
  calls_more stands same = map-append (λ it. it.call) progress.records more ∙ ap (λ it. calls_in progress.records ++ it) same

  pub comes_puts : Stands handed progress old → calls_in more ≡ calls → StartNone handed.frees more → Puts old new calls → new.count < MOST_RECORDS → Stands handed (record progress { records = progress.records ++ more }) new
  comes_puts stands same none puts short =
      let many : length more ≡ length calls = sym (length-map more (λ it. it.call)) ∙ ap length same in
      record {
        records = calls_more stands same ∙ ap (λ it. it ++ calls) stands.records ∙ append_assoc handed.calls old.records calls ∙ ap (λ it. handed.calls ++ it) (sym puts.records);
        count = omega (arith, many, puts.count, stands.count, length-append progress.records more);
        short = short;
        given = omega (arith, puts.given, puts.count, stands.given);
        numbered = same_numbered progress.active old new puts.free puts.given stands.numbered;
        apart = stands.apart;
        own = λ id. ap (λ it. option_map (λ active. active.number) (active_at it id)) puts.active ∙ stands.own id;
        started = λ id. rw puts.active (started_more progress.records more id (active_at old.active id) (stands.started id));
        ids = subst (λ (it : Freed). HasIds handed.frees it) (sym puts.freed) stands.ids;
        places = places_more handed.frees progress.records more old.freed new.freed none puts.freed stands.places;
      }

  pub comes_cut : Stands handed progress old → calls_in more ≡ calls → StartNone handed.frees more → AllOfLine line more → Cuts old new calls → IsCut handed (record progress { records = progress.records ++ more }) line new
  comes_cut stands same none all cuts =
      let many : length more ≡ length calls = sym (length-map more (λ it. it.call)) ∙ ap length same in
      let so_far : length (calls_in progress.records) ≡ old.count = length-map progress.records (λ it. it.call) ∙ sym stands.count in
      record {
        long = omega (arith, many, cuts.long, stands.count, length-append progress.records more);
        records =
            ap (take (MOST_RECORDS - 1)) (calls_more stands same)
            ∙ take_past (MOST_RECORDS - 1) (calls_in progress.records) calls (omega (arith, so_far, stands.short))
            ∙ ap (λ n. calls_in progress.records ++ take (MOST_RECORDS - 1 - n) calls) so_far
            ∙ ap (λ it. it ++ take (MOST_RECORDS - 1 - old.count) calls) stands.records
            ∙ append_assoc handed.calls old.records (take (MOST_RECORDS - 1 - old.count) calls)
            ∙ ap (λ it. handed.calls ++ it) (sym cuts.records);
        ends_at = line_past progress.records more line (MOST_RECORDS - 1) all (omega (arith, stands.short, stands.count)) (omega (arith, many, cuts.long, stands.count));
        places =
            places_cut handed.frees (MOST_RECORDS - 1) progress.records more old.freed new.freed (omega (arith, stands.short, stands.count)) none cuts.freed stands.places;
      }

  pub comes_to : {A : Type 0} (result : Result A Stop) → Stands handed progress old → calls_in more ≡ calls → StartNone handed.frees more → AllOfLine line more → Adds result old new calls → ComesTo result handed (record progress { records = progress.records ++ more }) line new
  comes_to {A} (Ok done) stands same none all adds = comes_puts stands same none adds.0 adds.1
  comes_to {A} (Err stop) stands same none all adds =
      stop_comes A A stop handed (record progress { records = progress.records ++ more }) line old new new calls (comes_cut stands same none all) adds

-- the list has no room for the call
pub no_room : (it : ListCode) (call : Call) → MOST_RECORDS - 1 ≤ it.count → it.count < MOST_RECORDS → Cuts it it (call ∷ [])
no_room it call full short =
    let none : MOST_RECORDS - 1 - it.count ≡ 0 = omega arith in
    record {
      long = omega arith;
      records = sym (append-nil it.records) ∙ ap (λ n. it.records ++ take n (call ∷ [])) (sym none);
      freed = refl;
    }

pub adds_put : (old new : ListCode) (call : Call) → Puts old new (call ∷ []) → old.count < MOST_RECORDS - 1 → Puts old new (call ∷ []) × (new.count < MOST_RECORDS)
adds_put old new call puts room = (puts, omega (arith, puts.count, room))

pub put_stands : (handed : Handed) (progress : Progress) (line : ℕ) (old new : ListCode) (call : Call) → Stands handed progress old → Puts old new (call ∷ []) → old.count + 1 < MOST_RECORDS → Stands handed (record progress { records = progress.records ++ plain line (call ∷ []) }) new
put_stands handed progress line old new call stands puts room =
    comes_puts handed progress line old new (plain line (call ∷ [])) (call ∷ []) stands refl (plain_starts handed.frees line (call ∷ [])) puts (omega (arith, puts.count))

-- ---- Lines that start a request ----

pub start_fits : (start : Start) (number : ℕ) → number ≤ GREATEST_REQUEST → IsTrue (in_ranges (start_call start 0)) → IsTrue (in_ranges (start_call start number))
start_fits (code.Send mode comm dest tag bytes) number le fits = rw (le-leb number GREATEST_REQUEST le) fits
start_fits (code.Receive comm source tag) number le fits = rw (le-leb number GREATEST_REQUEST le) fits
start_fits (code.Collective comm kind) number le fits = rw (le-leb number GREATEST_REQUEST le) fits

pub sends_same : (start : Start) (number : ℕ) → starts_send (start_call start number) ≡ is_start_of_send start
sends_same (code.Send mode comm dest tag bytes) number = refl
sends_same (code.Receive comm source tag) number = refl
sends_same (code.Collective comm kind) number = refl

-- the records and the numbers of requests after such a line, not the map of active ones
pub record PutsStart (mid new : ListCode) (call : Call) : Type 0 where
  pub records : new.records ≡ mid.records ++ call ∷ []
  pub count : new.count ≡ mid.count + 1
  pub free : new.free ≡ mid.free
  pub given : new.given ≡ mid.given

puts_start : (mid new : ListCode) (call : Call) → Puts mid new (call ∷ []) → PutsStart mid new call
puts_start mid new call puts = record { records = puts.records; count = puts.count; free = puts.free; given = puts.given }

abbrev begun : ℕ → Id → Start → ℕ → Written
begun line id it number = record { call = start_call it number; line = line; starts = Some id }

start_stands : (handed : Handed) (progress : Progress) (line : ℕ) (old mid new : ListCode) (it : Start) (number : ℕ) (id : Id)
    → Stands handed progress old → KeepsRecords old mid → TakesFree progress.active old mid number → PutsStart mid new (start_call it number) → new.count < MOST_RECORDS
    → IsApart (id, number) progress.active
    → ((q : ℕ) → option_map (λ active. active.number) (active_at new.active q) ≡ number_in ((id, number) ∷ progress.active) (Own q))
    → ((q : ℕ) → IsStarted (progress.records ++ begun line id it number ∷ []) q (active_at new.active q))
    → HasIds handed.frees new.freed → HasPlaces handed.frees (progress.records ++ begun line id it number ∷ []) new.freed
    → Stands handed (start progress line id (start_call it) number) new
start_stands handed progress line old mid new it number id stands keeps takes puts short apart own starts ids places = record {
  records =
      map-append (λ one. one.call) progress.records (begun line id it number ∷ [])
      ∙ ap (λ calls. calls ++ start_call it number ∷ []) stands.records
      ∙ append_assoc handed.calls old.records (start_call it number ∷ [])
      ∙ ap (λ calls. handed.calls ++ (calls ++ start_call it number ∷ [])) (sym keeps.records)
      ∙ ap (λ calls. handed.calls ++ calls) (sym puts.records);
  count = omega (arith, puts.count, keeps.count, stands.count, length-append progress.records (begun line id it number ∷ []));
  short = short;
  given = omega (arith, puts.given, puts.count, keeps.count, takes.given, stands.given);
  numbered = same_numbered ((id, number) ∷ progress.active) mid new puts.free puts.given (takes.numbered id);
  apart = (apart, stands.apart);
  own = own;
  started = starts;
  ids = ids;
  places = places;
}

start_cut : (handed : Handed) (progress : Progress) (line : ℕ) (old mid new : ListCode) (it : Start) (number : ℕ) (id : Id)
    → Stands handed progress old → KeepsRecords old mid → Cuts mid new (start_call it number ∷ []) → IsCut handed (start progress line id (start_call it) number) line new
start_cut handed progress line old mid new it number id stands keeps cuts =
    let so_far : length (calls_in progress.records) ≡ mid.count = length-map progress.records (λ one. one.call) ∙ sym stands.count ∙ sym keeps.count in
    record {
      long = omega (arith, cuts.long, keeps.count, stands.count, length-append progress.records (begun line id it number ∷ []));
      records =
          ap (take (MOST_RECORDS - 1)) (map-append (λ one. one.call) progress.records (begun line id it number ∷ []))
          ∙ take_past (MOST_RECORDS - 1) (calls_in progress.records) (start_call it number ∷ []) (omega (arith, so_far, keeps.count, stands.short))
          ∙ ap (λ n. calls_in progress.records ++ take (MOST_RECORDS - 1 - n) (start_call it number ∷ [])) so_far
          ∙ ap (λ calls. calls ++ take (MOST_RECORDS - 1 - mid.count) (start_call it number ∷ [])) (stands.records ∙ ap (λ calls. handed.calls ++ calls) (sym keeps.records))
          ∙ append_assoc handed.calls mid.records (take (MOST_RECORDS - 1 - mid.count) (start_call it number ∷ []))
          ∙ ap (λ calls. handed.calls ++ calls) (sym cuts.records);
      ends_at = line_past progress.records (begun line id it number ∷ []) line (MOST_RECORDS - 1) (refl, tt) (omega (arith, stands.short, stands.count)) (omega (arith, cuts.long, keeps.count, stands.count));
      places =
          places_full handed.frees (MOST_RECORDS - 1) progress.records (begun line id it number ∷ []) old.freed new.freed
          (omega (arith, cuts.long, keeps.count, stands.short, stands.count)) (cuts.freed ∙ keeps.freed) stands.places;
    }

unnamed_apart : (id : Id) (number : ℕ) (active : Requests) → IsUnnamed id → has_number active number ≡ false → IsApart (id, number) active
unnamed_apart (Own request) number active unnamed fresh = absurd unnamed
unnamed_apart (Whole at) number active unnamed fresh = fresh
unnamed_apart (ReceiveHalf at) number active unnamed fresh = fresh
unnamed_apart (Sink own wanted is_known) number active unnamed fresh = fresh

unnamed_own : (id : Id) (number : ℕ) (active : Requests) (q : ℕ) → IsUnnamed id → number_in active (Own q) ≡ number_in ((id, number) ∷ active) (Own q)
unnamed_own (Own request) number active q unnamed = absurd unnamed
unnamed_own (Whole at) number active q unnamed = refl
unnamed_own (ReceiveHalf at) number active q unnamed = refl
unnamed_own (Sink own wanted is_known) number active q unnamed = refl

unnamed_stands : (handed : Handed) (progress : Progress) (line : ℕ) (old mid new : ListCode) (it : Start) (number : ℕ) (id : Id)
    → Stands handed progress old → IsUnnamed id → KeepsRecords old mid → TakesFree progress.active old mid number → Puts mid new (start_call it number ∷ []) → new.count < MOST_RECORDS
    → Stands handed (start progress line id (start_call it) number) new
unnamed_stands handed progress line old mid new it number id stands unnamed keeps takes puts short =
    let same : new.active ≡ old.active = puts.active ∙ keeps.active in
    start_stands handed progress line old mid new it number id stands keeps takes (puts_start mid new (start_call it number) puts) short
    (unnamed_apart id number progress.active unnamed takes.fresh)
    (λ q. ap (λ map. option_map (λ active. active.number) (active_at map q)) same ∙ stands.own q ∙ unnamed_own id number progress.active q unnamed)
    (λ q. subst (λ map. IsStarted (progress.records ++ begun line id it number ∷ []) q (active_at map q)) (sym same)
    (started_more progress.records (begun line id it number ∷ []) q (active_at old.active q) (stands.started q)))
    (subst (λ (it : Freed). HasIds handed.frees it) (sym (puts.freed ∙ keeps.freed)) stands.ids)
    (places_more handed.frees progress.records (begun line id it number ∷ []) old.freed new.freed (stands.ids.unnamed id unnamed, tt) (puts.freed ∙ keeps.freed) stands.places)

-- the number is in its range, and there was room for it
pub may_start : (handed : Handed) (progress : Progress) (old mid : ListCode) (it : Start) (number : ℕ)
    → Stands handed progress old → IsTrue (in_ranges (start_call it 0)) → KeepsRecords old mid → TakesFree progress.active old mid number
    → IsTrue (in_ranges (start_call it number)) × (mid.count < MOST_RECORDS)
may_start handed progress old mid it number stands fits keeps takes =
    (start_fits it number (omega (arith, takes.low, stands.given, stands.short)) fits, omega (arith, keeps.count, stands.short))

pub unnamed_comes : (A : Type 0) (result : Result A Stop) (handed : Handed) (progress : Progress) (line : ℕ) (old mid new : ListCode) (it : Start) (number : ℕ) (id : Id)
    → Stands handed progress old → IsUnnamed id → KeepsRecords old mid → TakesFree progress.active old mid number → Adds result mid new (start_call it number ∷ [])
    → ComesTo result handed (start progress line id (start_call it) (least_free progress.active)) line new
unnamed_comes A (Ok done) handed progress line old mid new it number id stands unnamed keeps takes adds =
    subst (λ n. Stands handed (start progress line id (start_call it) n) new) takes.least
    (unnamed_stands handed progress line old mid new it number id stands unnamed keeps takes adds.0 adds.1)
unnamed_comes A (Err stop) handed progress line old mid new it number id stands unnamed keeps takes adds =
    subst (λ n. ComesTo {A = A} (Err stop) handed (start progress line id (start_call it) n) line new) takes.least
    (stop_comes A A stop handed (start progress line id (start_call it) number) line mid new new (start_call it number ∷ [])
    (start_cut handed progress line old mid new it number id stands keeps) adds)

-- the end of such a line where it can't stand
pub start_stops : (A B : Type 0) (stop : Stop) (handed : Handed) (progress : Progress) (line : ℕ) (old mid new : ListCode) (it : Start) (number : ℕ) (id : Id)
    → Stands handed progress old → KeepsRecords old mid → TakesFree progress.active old mid number → Adds {A = A} (Err stop) mid new (start_call it number ∷ [])
    → ComesTo {A = B} (Err stop) handed (start progress line id (start_call it) (least_free progress.active)) line new
start_stops A B stop handed progress line old mid new it number id stands keeps takes adds =
    subst (λ n. ComesTo {A = B} (Err stop) handed (start progress line id (start_call it) n) line new) takes.least
    (stop_comes A B stop handed (start progress line id (start_call it) number) line mid new new (start_call it number ∷ [])
    (start_cut handed progress line old mid new it number id stands keeps) adds)

-- a list with another map of active requests
pub record SameRecords (before new : ListCode) : Type 0 where
  pub records : new.records ≡ before.records
  pub count : new.count ≡ before.count
  pub free : new.free ≡ before.free
  pub given : new.given ≡ before.given

pub named_stands : (handed : Handed) (progress : Progress) (line : ℕ) (old mid before new : ListCode) (it : Start) (active : Active) (id : ℕ)
    → Stands handed progress old → number_in progress.active (Own id) ≡ None → KeepsRecords old mid → TakesFree progress.active old mid active.number
    → Puts mid before (start_call it active.number ∷ []) → before.count < MOST_RECORDS
    → SameRecords before new → ((q : ℕ) → active_at new.active q ≡ cond (nat_eq id q) (Some active) (active_at before.active q))
    → active.place ≡ mid.count → active.is_send ≡ is_start_of_send it
    → new.freed.ids ≡ before.freed.ids
    → ((other : ℕ) → has_place new.freed other ≡ (if active.place == other then (has_id before.freed id || has_place before.freed other) else has_place before.freed other))
    → Stands handed (start progress line (Own id) (start_call it) (least_free progress.active)) new
named_stands handed progress line old mid before new it active id stands free keeps takes puts short same inserts place sends ids_same noted =
    let number : ℕ = active.number in
    let all : List Written = progress.records ++ begun line (Own id) it active.number ∷ [] in
    let others : before.active ≡ old.active = puts.active ∙ keeps.active in
    let freed : before.freed ≡ old.freed = puts.freed ∙ keeps.freed in
    let put : PutsStart mid new (start_call it active.number) = record {
      records = same.records ∙ puts.records;
      count = same.count ∙ puts.count;
      free = same.free ∙ puts.free;
      given = same.given ∙ puts.given;
    } in
    subst (λ n. Stands handed (start progress line (Own id) (start_call it) n) new) takes.least
    (start_stands handed progress line old mid new it active.number (Own id) stands keeps takes put (omega (arith, same.count, short))
    (free, takes.fresh)
    (λ q. elim (cases_eq id q) [
      | inl e ↦
          ap (option_map (λ (one : Active). one.number)) (inserts q ∙ cond-true (eqb id q) (Some active) (active_at before.active q) (eq-eqb id q e))
          ∙ sym (cond-true (eqb id q) (Some active.number) (number_in progress.active (Own q)) (eq-eqb id q e))
      | inr apart ↦
          ap (option_map (λ (one : Active). one.number)) (inserts q ∙ cond-false (eqb id q) (Some active) (active_at before.active q) (ne_eqb id q apart) ∙ ap (λ map. active_at map q) others)
          ∙ stands.own q
          ∙ sym (cond-false (eqb id q) (Some active.number) (number_in progress.active (Own q)) (ne_eqb id q apart))
    ])
    (λ q. elim (cases_eq id q) [
      | inl e ↦
          subst (IsStarted (progress.records ++ begun line (Own id) it active.number ∷ []) q)
          (sym (inserts q ∙ cond-true (eqb id q) (Some active) (active_at before.active q) (eq-eqb id q e)))
          (subst (IsStartOf q active) (sym (at_end progress.records (begun line (Own id) it active.number) active.place (place ∙ keeps.count ∙ stands.count)))
          (ap (λ n. Some (Own n)) e, sends_same it active.number ∙ sym sends))
      | inr apart ↦
          subst (IsStarted (progress.records ++ begun line (Own id) it active.number ∷ []) q)
          (sym (inserts q ∙ cond-false (eqb id q) (Some active) (active_at before.active q) (ne_eqb id q apart) ∙ ap (λ map. active_at map q) others))
          (started_more progress.records (begun line (Own id) it active.number ∷ []) q (active_at old.active q) (stands.started q))
    ])
    (record {
      own = λ q. ap (λ ids. contains_by (nat_eq q) ids) (ids_same ∙ ap (λ (it : Freed). it.ids) freed) ∙ stands.ids.own q;
      unnamed = stands.ids.unnamed;
    })
    (places_started handed.frees progress.records (begun line (Own id) it active.number) active.place (has_id before.freed id) before.freed new.freed
    (place ∙ keeps.count ∙ stands.count) (ap (λ (it : Freed). has_id it id) freed ∙ stands.ids.own id) noted
    (subst (λ (it : Freed). HasPlaces handed.frees progress.records it) (sym freed) stands.places)))

-- ---- A new list, and records that are handed on ----

pub handed_on : (handed : Handed) (progress : Progress) (old new : ListCode) → Stands handed progress old → new.records ≡ [] → new.count ≡ old.count → new.active ≡ old.active → new.free ≡ old.free → new.given ≡ old.given → new.freed ≡ old.freed
    → Stands (record handed { calls = handed.calls ++ old.records }) progress new
handed_on handed progress old new stands empty count active free given freed = record {
  records = stands.records ∙ sym (append-nil (handed.calls ++ old.records)) ∙ ap (λ calls. (handed.calls ++ old.records) ++ calls) (sym empty);
  count = count ∙ stands.count;
  short = omega (arith, count, stands.short);
  given = omega (arith, count, given, stands.given);
  numbered = same_numbered progress.active old new free given stands.numbered;
  apart = stands.apart;
  own = λ id. ap (λ map. option_map (λ one. one.number) (active_at map id)) active ∙ stands.own id;
  started = λ id. subst (λ map. IsStarted progress.records id (active_at map id)) (sym active) (stands.started id);
  ids = subst (λ (it : Freed). HasIds handed.frees it) (sym freed) stands.ids;
  places = subst (λ (it : Freed). HasPlaces handed.frees progress.records it) (sym freed) stands.places;
}

heap_none : IsHeap backwards []
unfolding IsHeap
heap_none = λ p k d low from to lt. absurd (omega arith)

pub new_stands : (late : List Id) (handed : Handed) (freed : Freed) (it : ListCode) → handed.calls ≡ [] → HasIds handed.frees freed → ((place : ℕ) → has_place freed place ≡ false) → it.freed ≡ freed
    → it.records ≡ [] → it.count ≡ 0 → ((id : ℕ) → active_at it.active id ≡ None) → heap_items it.free ≡ [] → it.given ≡ 0 → Stands handed (record { records = []; active = []; late = late }) it
new_stands late handed freed it none ids places same empty count active free given =
    record {
      records = sym (ap (λ (xs : List Call). xs ++ it.records) none ∙ empty);
      count = count;
      short = omega (arith, count);
      given = omega (arith, given);
      numbered = record {
        kept = record {
          heap = rw free heap_none;
          given = λ n some. absurd (omega (arith, ap (λ items. kept_count items n) free));
          once = λ n. omega (arith, ap (λ items. kept_count items n) free);
        };
        same = λ n. sym (and_left (ltb n it.given) (eqb (kept_count (heap_items it.free) n) 0) (le-ltb n it.given (omega (arith, given))));
      };
      apart = tt;
      own = λ id. ap (option_map (λ (one : Active). one.number)) (active id);
      started = λ id. subst (IsStarted [] id) (sym (active id)) tt;
      ids = subst (λ (one : Freed). HasIds handed.frees one) (sym same) ids;
      places = λ place. ap (λ (one : Freed). has_place one place) same ∙ places place;
    }
