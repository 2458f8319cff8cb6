-- A wait for any of some requests, and what the list of a rank is after waits.
use Rattle.std.proofs.Common.{◌≡◌, ◌∙◌, ◌<◌, ◌≤◌, ◌+◌, ◌-◌, ◌&&◌, ◌||◌, ◌==◌, ℕ, suc, true, false, not, cond, refl, sym, ap, subst, arith, List, [], ◌∷◌, ◌++◌, length, map, take, append_assoc, length-append, Some, None, option_map, is_some, Err, inl, inr, eqb, leb, ltb}
use Rattle.std.specs.Prelude.{nat_eq, IsTrue, position}
use Rattle.std.specs.List.{list_all, list_any, position_or_len}
use Rattle.closing.specs.inner.Started.{active_at}
use Rattle.std.proofs.lemmas.Bool.{cases_eq, cases_Bool, cond-true, cond-false, eq-eqb, ne_eqb, le-leb, lt-ltb, le-ltb, ltb-true, and_from, or_parts}
use Rattle.std.proofs.lemmas.List.{append-nil, map-append, length-map, take_at, take_all}
use Rattle.mpicall.specs.declared.call.Call.{Call}
use Rattle.mpicall.specs.Argument.{request_argument, is_in_range}
use Rattle.mpicall.specs.Limits.{in_ranges, few_enough}
use Rattle.mpicall.specs.declared.limits.TheConstants.{GREATEST_REQUEST, MOST_REQUESTS}
use Rattle.closing.specs.Steps.{Id, Own, Progress, plain, waits_for, wait_all, wait_with, wait_one, wait_for_one, chosen_at, number_in, has_number, without, without_all, numbers_of}
use Rattle.closing.specs.inner.Free.{Requests, AreNumbered}
use Rattle.closing.specs.inner.Lists.{Handed, HasIds, HasPlaces, ComesTo, IsStarted, AreApart, Stands, IsCut, Puts, Cuts, Adds, FreesOnly, FindsOnly, Owns, KeepsLines, TakesNumbers, AreSmall, AreHeld, calls_in, found_number}
use Rattle.closing.specs.declared.freed.Freed.{Freed}
use Rattle.closing.specs.declared.list.List.{List as ListCode}
use Rattle.closing.specs.declared.list.Active.{Active}
use Rattle.closing.specs.declared.list.TheConstants.{MOST_RECORDS}
use Rattle.closing.specs.declared.stop.Stop.{Stop}
use Rattle.closing.proofs.FreedPlaces.{places_cut, places_more, plain_starts}
use Rattle.closing.proofs.ListLemmas.{SameRecords, plain_calls, plain_line, started_more, take_past, line_past, same_numbered, stop_comes}
use Rattle.closing.proofs.RequestLemmas.{all_apart, found_first, has_number_in, held_numbers, left_gone, left_none, left_there, own_without, gone_started, without_apart}
use Rattle.closing.proofs.WaitLemmas.{small_held, small_arguments, small_take}

-- ---- After waits for all ----

-- what a list has that says its records are these, whatever its requests are
pub record HasLines (handed : Handed) (progress : Progress) (it : ListCode) : Type 0 where
  pub records : calls_in progress.records ≡ handed.calls ++ it.records
  pub count : it.count ≡ length progress.records
  pub short : it.count < MOST_RECORDS
  pub places : HasPlaces handed.frees progress.records it.freed

pub lines_kept : (handed : Handed) (progress : Progress) (old mid : ListCode) → Stands handed progress old → mid.records ≡ old.records → mid.count ≡ old.count → mid.freed ≡ old.freed → HasLines handed progress mid
lines_kept handed progress old mid stands records count freed = record {
  records = stands.records ∙ ap (λ calls. handed.calls ++ calls) (sym records);
  count = count ∙ stands.count;
  short = omega (arith, count, stands.short);
  places = subst (λ (it : Freed). HasPlaces handed.frees progress.records it) (sym freed) stands.places;
}

plain_length : (line : ℕ) (calls : List Call) → length (plain line calls) ≡ length calls
plain_length line [] = refl
plain_length line (call ∷ calls) = ap suc (plain_length line calls)

module _ (handed : Handed) (progress : Progress) (line : ℕ) (mid new : ListCode) (calls : List Call) (active : Requests) (has : HasLines handed progress mid) where
  abbrev after : Progress
  after = record progress { records = progress.records ++ plain line calls; active = active }

  waited_calls : calls_in (progress.records ++ plain line calls) ≡ calls_in progress.records ++ calls
  waited_calls = map-append (λ it. it.call) progress.records (plain line calls) ∙ ap (λ it. calls_in progress.records ++ it) (plain_calls line calls)

  many_plain : length (plain line calls) ≡ length calls
  many_plain = plain_length line calls

  pub waited_records : Puts mid new calls → calls_in (progress.records ++ plain line calls) ≡ handed.calls ++ new.records
  waited_records puts =
      waited_calls ∙ ap (λ it. it ++ calls) has.records ∙ append_assoc handed.calls mid.records calls ∙ ap (λ it. handed.calls ++ it) (sym puts.records)

  pub waited_count : Puts mid new calls → new.count ≡ length (progress.records ++ plain line calls)
  waited_count puts = omega (arith, many_plain, puts.count, has.count, length-append progress.records (plain line calls))

  pub waited_cut : Cuts mid new calls → IsCut handed after line new
  waited_cut cuts =
      let so_far : length (calls_in progress.records) ≡ mid.count = length-map progress.records (λ it. it.call) ∙ sym has.count in
      record {
        long = omega (arith, many_plain, cuts.long, has.count, length-append progress.records (plain line calls));
        records =
            ap (take (MOST_RECORDS - 1)) waited_calls
            ∙ take_past (MOST_RECORDS - 1) (calls_in progress.records) calls (omega (arith, so_far, has.short))
            ∙ ap (λ n. calls_in progress.records ++ take (MOST_RECORDS - 1 - n) calls) so_far
            ∙ ap (λ it. it ++ take (MOST_RECORDS - 1 - mid.count) calls) has.records
            ∙ append_assoc handed.calls mid.records (take (MOST_RECORDS - 1 - mid.count) calls)
            ∙ ap (λ it. handed.calls ++ it) (sym cuts.records);
        ends_at = line_past progress.records (plain line calls) line (MOST_RECORDS - 1) (plain_line line calls) (omega (arith, has.short, has.count)) (omega (arith, many_plain, cuts.long, has.count));
        places =
            places_cut handed.frees (MOST_RECORDS - 1) progress.records (plain line calls) mid.freed new.freed (omega (arith, has.short, has.count))
            (plain_starts handed.frees line calls) cuts.freed has.places;
      }

-- the numbers of requests that are taken can stand in records
pub taken_small : (handed : Handed) (progress : Progress) (old mid : ListCode) (ids : List Id) → Stands handed progress old → KeepsLines old mid → TakesNumbers progress.active ids mid → AreSmall mid.numbers.items
taken_small handed progress old mid ids stands keeps takes =
    subst AreSmall (sym takes.numbers)
    (small_held progress.active (numbers_of progress.active ids) old stands.numbered (omega (arith, stands.given, stands.short)) (held_numbers progress.active ids))

pub all_cut : (A B : Type 0) (stop : Stop) (handed : Handed) (progress : Progress) (line : ℕ) (old mid new : ListCode) (ids : List Id)
    → Stands handed progress old → KeepsLines old mid → TakesNumbers progress.active ids mid → Adds {A = A} (Err stop) mid new (waits_for (length mid.numbers.items) mid.numbers.items)
    → ComesTo {A = B} (Err stop) handed (wait_all progress line (numbers_of progress.active ids)) line new
all_cut A B stop handed progress line old mid new ids stands keeps takes adds =
    subst (λ numbers. ComesTo {A = B} (Err stop) handed (wait_with progress line (numbers_of progress.active ids) (waits_for (length numbers) numbers)) line new) takes.numbers
    (stop_comes A B stop handed (wait_with progress line (numbers_of progress.active ids) (waits_for (length mid.numbers.items) mid.numbers.items)) line mid new new
    (waits_for (length mid.numbers.items) mid.numbers.items)
    (waited_cut handed progress line mid new (waits_for (length mid.numbers.items) mid.numbers.items) (without_all (numbers_of progress.active ids) progress.active)
    (lines_kept handed progress old mid stands keeps.records keeps.count keeps.freed)) adds)

pub all_stand : (handed : Handed) (progress : Progress) (line : ℕ) (old mid waited new : ListCode) (ids : List Id)
    → Stands handed progress old → KeepsLines old mid → TakesNumbers progress.active ids mid
    → Puts mid waited (waits_for (length mid.numbers.items) mid.numbers.items) → waited.count < MOST_RECORDS
    → FreesOnly waited new → ((active : Requests) → AreNumbered active waited → AreHeld active waited.numbers.items → AreNumbered (without_all waited.numbers.items active) new)
    → Stands handed (wait_all progress line (numbers_of progress.active ids)) new
all_stand handed progress line old mid waited new ids stands keeps takes puts short same frees =
    let lines : HasLines handed progress mid = lines_kept handed progress old mid stands keeps.records keeps.count keeps.freed in
    let numbers : waited.numbers.items ≡ numbers_of progress.active ids = ap (λ it. it.items) puts.numbers ∙ takes.numbers in
    let numbered : AreNumbered progress.active waited = same_numbered progress.active old waited (puts.free ∙ keeps.free) (puts.given ∙ keeps.given) stands.numbered in
    let maps : new.active ≡ mid.active = same.active ∙ puts.active in
    subst (λ named. Stands handed (wait_with progress line (numbers_of progress.active ids) (waits_for (length named) named)) new) takes.numbers
    (record {
      records =
          waited_records handed progress line mid waited (waits_for (length mid.numbers.items) mid.numbers.items) (without_all (numbers_of progress.active ids) progress.active) lines puts
          ∙ ap (λ records. handed.calls ++ records) (sym same.records);
      count = same.count ∙ waited_count handed progress line mid waited (waits_for (length mid.numbers.items) mid.numbers.items) (without_all (numbers_of progress.active ids) progress.active) lines puts;
      short = omega (arith, same.count, short);
      given = omega (arith, same.given, same.count, puts.given, puts.count, keeps.given, keeps.count, stands.given);
      numbered = subst (λ it. AreNumbered (without_all it progress.active) new) numbers
          (frees progress.active numbered (subst (AreHeld progress.active) (sym numbers) (held_numbers progress.active ids)));
      apart = all_apart (numbers_of progress.active ids) progress.active stands.apart;
      own = λ id. ap (λ it. option_map (λ (one : Active). one.number) (active_at it id)) maps ∙ takes.own id;
      started = λ id. subst (λ it. IsStarted (progress.records ++ plain line (waits_for (length mid.numbers.items) mid.numbers.items)) id (active_at it id)) (sym maps)
          (started_more progress.records (plain line (waits_for (length mid.numbers.items) mid.numbers.items)) id (active_at mid.active id)
          (keeps.started progress.records id (stands.started id)));
      ids = subst (λ (it : Freed). HasIds handed.frees it) (sym (same.freed ∙ puts.freed ∙ keeps.freed)) stands.ids;
      places =
          places_more handed.frees progress.records (plain line (waits_for (length mid.numbers.items) mid.numbers.items)) old.freed new.freed
          (plain_starts handed.frees line (waits_for (length mid.numbers.items) mid.numbers.items)) (same.freed ∙ puts.freed ∙ keeps.freed) stands.places;
    })

-- ---- The numbers that a wait for any names ----

first_place : (number : ℕ) (xs : List ℕ) → list_any (λ other. other == number) xs ≡ true → position_or_len (λ other. other == number) xs < length xs
first_place number [] among = cc
first_place number (x ∷ xs) among = elim (cases_eq x number) [
  | inl e ↦
      let none : position_or_len (λ other. other == number) (x ∷ xs) ≡ 0 =
      cond-false (not (eqb x number)) (1 + position_or_len (λ other. other == number) xs) 0 (ap not (eq-eqb x number e)) in
      omega (arith, none)
  | inr differs ↦
      let more : position_or_len (λ other. other == number) (x ∷ xs) ≡ 1 + position_or_len (λ other. other == number) xs =
      cond-true (not (eqb x number)) (1 + position_or_len (λ other. other == number) xs) 0 (ap not (ne_eqb x number differs)) in
      let rest : list_any (λ other. other == number) xs ≡ true = sym (ap (λ first. first || list_any (λ other. other == number) xs) (ne_eqb x number differs)) ∙ among in
      omega (arith, more, first_place number xs rest)
]

no_place : (number : ℕ) (xs : List ℕ) → list_any (λ other. other == number) xs ≡ false → position_or_len (λ other. other == number) xs ≡ length xs
no_place number [] among = refl
no_place number (x ∷ xs) among =
    let parts = or_parts (eqb x number) (list_any (λ other. other == number) xs) among in
    let more : position_or_len (λ other. other == number) (x ∷ xs) ≡ 1 + position_or_len (λ other. other == number) xs =
    cond-true (not (eqb x number)) (1 + position_or_len (λ other. other == number) xs) 0 (ap not parts.0) in
    omega (arith, more, no_place number xs parts.1)

pub among_place : (number : ℕ) (xs : List ℕ) → is_some (position (λ other. other == number) xs) ≡ list_any (λ other. other == number) xs
among_place number xs = elim (cases_Bool (list_any (λ other. other == number) xs)) [
  | inl among ↦
      ap is_some (cond-true (ltb (position_or_len (λ other. other == number) xs) (length xs)) (Some (position_or_len (λ other. other == number) xs)) None
      (lt-ltb (position_or_len (λ other. other == number) xs) (length xs) (first_place number xs among))) ∙ sym among
  | inr apart ↦
      ap is_some (cond-false (ltb (position_or_len (λ other. other == number) xs) (length xs)) (Some (position_or_len (λ other. other == number) xs)) None
      (le-ltb (position_or_len (λ other. other == number) xs) (length xs) (omega (arith, no_place number xs apart)))) ∙ sym apart
]

module _ (left : Requests) (found : List ℕ) (id : ℕ) (it : ListCode) (apart : AreApart left) (owns : Owns left it) where
  pub finds_none : active_at it.active id ≡ None → found ≡ found ++ found_number (number_in (without_all found left) (Own id))
  finds_none none =
      sym (append-nil found) ∙ sym (ap (λ it. found ++ found_number it) (left_none found left id (sym (owns id) ∙ ap (option_map (λ (one : Active). one.number)) none)))

  pub finds_known : (active : Active) → active_at it.active id ≡ Some active → is_some (position (λ other. other == active.number) found) ≡ true → found ≡ found ++ found_number (number_in (without_all found left) (Own id))
  finds_known active has known =
      sym (append-nil found) ∙ sym (ap (λ it. found ++ found_number it) (left_gone found left id active.number apart (sym (owns id) ∙ ap (option_map (λ (one : Active). one.number)) has) (sym (among_place active.number found) ∙ known)))

  pub finds_new : (active : Active) → active_at it.active id ≡ Some active → is_some (position (λ other. other == active.number) found) ≡ false → found ++ active.number ∷ [] ≡ found ++ found_number (number_in (without_all found left) (Own id))
  finds_new active has unknown =
      sym (ap (λ it. found ++ found_number it) (left_there found left id active.number (sym (owns id) ∙ ap (option_map (λ (one : Active). one.number)) has) (sym (among_place active.number found) ∙ unknown)))

pub finds_more : (active : Requests) (ids : List Id) (id : ℕ) (rest : List Id) (old new : List ℕ) → old ++ numbers_of (without_all old active) (Own id ∷ rest) ≡ numbers_of active ids
    → new ≡ old ++ found_number (number_in (without_all old active) (Own id)) → new ++ numbers_of (without_all new active) rest ≡ numbers_of active ids
finds_more active ids id rest old new so_far more =
    ap (λ numbers. numbers ++ numbers_of (without_all numbers active) rest) more ∙ sym (found_first old active (Own id) rest) ∙ so_far

pub finds_enough : (found rest all : List ℕ) → length found ≡ MOST_REQUESTS → found ++ rest ≡ all → found ≡ take MOST_REQUESTS all
finds_enough found rest all full is = sym (ap (take MOST_REQUESTS) (sym is) ∙ take_at found rest MOST_REQUESTS full)

pub finds_all : (found all : List ℕ) → length found ≤ MOST_REQUESTS → found ≡ all → found ≡ take MOST_REQUESTS all
finds_all found all few is = sym (ap (take MOST_REQUESTS) (sym is) ∙ take_all MOST_REQUESTS found few)

pub found_small : (handed : Handed) (progress : Progress) (old : ListCode) (ids : List Id) → Stands handed progress old → AreSmall (take MOST_REQUESTS (numbers_of progress.active ids))
found_small handed progress old ids stands =
    small_take MOST_REQUESTS (numbers_of progress.active ids)
    (small_held progress.active (numbers_of progress.active ids) old stands.numbered (omega (arith, stands.given, stands.short)) (held_numbers progress.active ids))

pub number_small : (handed : Handed) (progress : Progress) (old : ListCode) (wanted number : ℕ) → Stands handed progress old → number_in progress.active (Own wanted) ≡ Some number → number ≤ GREATEST_REQUEST
number_small handed progress old wanted number stands found =
    (small_held progress.active (number ∷ []) old stands.numbered (omega (arith, stands.given, stands.short)) (has_number_in progress.active (Own wanted) number found, tt)).0

-- ---- The wait for one ----

pub choice_in_range : (number : ℕ) (xs : List ℕ) → AreSmall xs → number ≤ GREATEST_REQUEST → length xs ≤ MOST_REQUESTS → IsTrue (in_ranges (wait_for_one number xs))
choice_in_range number xs small low few = elim (cases_Bool (ltb (position_or_len (λ other. other == number) xs) (length xs))) [
  | inl within ↦
      let place : ℕ = position_or_len (λ other. other == number) xs in
      let below : position_or_len (λ other. other == number) xs < length xs = ltb-true (position_or_len (λ other. other == number) xs) (length xs) within in
      subst (λ found. IsTrue (in_ranges (chosen_at number xs found)))
      (sym (cond-true (ltb (position_or_len (λ other. other == number) xs) (length xs)) (Some (position_or_len (λ other. other == number) xs)) None within))
      (and_from (leb (position_or_len (λ other. other == number) xs) (length xs - 1) && list_all is_in_range (map request_argument xs)) (few_enough xs)
      (and_from (leb (position_or_len (λ other. other == number) xs) (length xs - 1)) (list_all is_in_range (map request_argument xs))
      (le-leb (position_or_len (λ other. other == number) xs) (length xs - 1) (omega arith)) (small_arguments xs small))
      (and_from (leb 1 (length xs)) (leb (length xs) MOST_REQUESTS) (le-leb 1 (length xs) (omega arith)) (le-leb (length xs) MOST_REQUESTS few)))
  | inr past ↦
      subst (λ found. IsTrue (in_ranges (chosen_at number xs found)))
      (sym (cond-false (ltb (position_or_len (λ other. other == number) xs) (length xs)) (Some (position_or_len (λ other. other == number) xs)) None past))
      (and_from (leb number GREATEST_REQUEST && true) true (and_from (leb number GREATEST_REQUEST) true (le-leb number GREATEST_REQUEST low) refl) refl)
]

pub one_cut : (A B : Type 0) (stop : Stop) (handed : Handed) (progress : Progress) (line : ℕ) (old mid new : ListCode) (wanted number : ℕ) (ids : List Id)
    → Stands handed progress old → number_in progress.active (Own wanted) ≡ Some number → FindsOnly old mid → mid.numbers.items ≡ take MOST_REQUESTS (numbers_of progress.active ids)
    → Adds {A = A} (Err stop) mid new (wait_for_one number mid.numbers.items ∷ [])
    → ComesTo {A = B} (Err stop) handed (wait_one progress line (number_in progress.active (Own wanted)) (take MOST_REQUESTS (numbers_of progress.active ids))) line new
one_cut A B stop handed progress line old mid new wanted number ids stands found keeps numbers adds =
    subst (λ it. ComesTo {A = B} (Err stop) handed (wait_one progress line it (take MOST_REQUESTS (numbers_of progress.active ids))) line new) (sym found)
    (subst (λ named. ComesTo {A = B} (Err stop) handed (wait_with progress line (number ∷ []) (wait_for_one number named ∷ [])) line new) numbers
    (stop_comes A B stop handed (wait_with progress line (number ∷ []) (wait_for_one number mid.numbers.items ∷ [])) line mid new new
    (wait_for_one number mid.numbers.items ∷ [])
    (waited_cut handed progress line mid new (wait_for_one number mid.numbers.items ∷ []) (without number progress.active)
    (lines_kept handed progress old mid stands keeps.records keeps.count keeps.freed)) adds))

pub one_stands : (handed : Handed) (progress : Progress) (line : ℕ) (old mid waited taken new : ListCode) (wanted : ℕ) (active : Active) (ids : List Id)
    → Stands handed progress old → active_at old.active wanted ≡ Some active → FindsOnly old mid → mid.numbers.items ≡ take MOST_REQUESTS (numbers_of progress.active ids)
    → Puts mid waited (wait_for_one active.number mid.numbers.items ∷ []) → waited.count < MOST_RECORDS
    → SameRecords waited taken → taken.freed ≡ waited.freed → ((q : ℕ) → active_at taken.active q ≡ cond (nat_eq wanted q) None (active_at waited.active q))
    → FreesOnly taken new → ((left : Requests) → AreNumbered left taken → has_number left active.number ≡ true → AreNumbered (without active.number left) new)
    → Stands handed (wait_one progress line (number_in progress.active (Own wanted)) (take MOST_REQUESTS (numbers_of progress.active ids))) new
one_stands handed progress line old mid waited taken new wanted active ids stands has keeps numbers puts short same same_freed gone frees freed =
    let found : number_in progress.active (Own wanted) ≡ Some active.number = sym (stands.own wanted) ∙ ap (option_map (λ (one : Active). one.number)) has in
    let lines : HasLines handed progress mid = lines_kept handed progress old mid stands keeps.records keeps.count keeps.freed in
    let map_was : waited.active ≡ old.active = puts.active ∙ keeps.active in
    let went : (q : ℕ) → active_at taken.active q ≡ cond (nat_eq wanted q) None (active_at old.active q) = λ q. gone q ∙ ap (λ it. cond (nat_eq wanted q) None (active_at it q)) map_was in
    let numbered : AreNumbered progress.active taken =
    same_numbered progress.active old taken (same.free ∙ puts.free ∙ keeps.free) (same.given ∙ puts.given ∙ keeps.given) stands.numbered in
    subst (λ it. Stands handed (wait_one progress line it (take MOST_REQUESTS (numbers_of progress.active ids))) new) (sym found)
    (subst (λ named. Stands handed (wait_with progress line (active.number ∷ []) (wait_for_one active.number named ∷ [])) new) numbers
    (record {
      records =
          waited_records handed progress line mid waited (wait_for_one active.number mid.numbers.items ∷ []) (without active.number progress.active) lines puts
          ∙ ap (λ records. handed.calls ++ records) (sym (frees.records ∙ same.records));
      count = frees.count ∙ same.count ∙ waited_count handed progress line mid waited (wait_for_one active.number mid.numbers.items ∷ []) (without active.number progress.active) lines puts;
      short = omega (arith, frees.count, same.count, short);
      given = omega (arith, frees.given, frees.count, same.given, same.count, puts.given, puts.count, keeps.given, keeps.count, stands.given);
      numbered = freed progress.active numbered (has_number_in progress.active (Own wanted) active.number found);
      apart = without_apart progress.active active.number stands.apart;
      own = λ id. ap (λ it. option_map (λ (one : Active). one.number) (active_at it id)) frees.active ∙ own_without progress.active wanted active old taken stands.apart stands.own has went id;
      started = λ id. subst (λ it. IsStarted (progress.records ++ plain line (wait_for_one active.number mid.numbers.items ∷ [])) id (active_at it id)) (sym frees.active)
          (started_more progress.records (plain line (wait_for_one active.number mid.numbers.items ∷ [])) id (active_at taken.active id)
          (gone_started wanted old taken went progress.records id (stands.started id)));
      ids = subst (λ (it : Freed). HasIds handed.frees it) (sym (frees.freed ∙ same_freed ∙ puts.freed ∙ keeps.freed)) stands.ids;
      places =
          places_more handed.frees progress.records (plain line (wait_for_one active.number mid.numbers.items ∷ [])) old.freed new.freed
          (plain_starts handed.frees line (wait_for_one active.number mid.numbers.items ∷ [])) (frees.freed ∙ same_freed ∙ puts.freed ∙ keeps.freed) stands.places;
    }))

pub one_none : (handed : Handed) (progress : Progress) (line : ℕ) (old : ListCode) (wanted : ℕ) (named : List ℕ) → Stands handed progress old → active_at old.active wanted ≡ None
    → Stands handed (wait_one progress line (number_in progress.active (Own wanted)) named) old
one_none handed progress line old wanted named stands none =
    let found : number_in progress.active (Own wanted) ≡ None = sym (stands.own wanted) ∙ ap (option_map (λ (one : Active). one.number)) none in
    subst (λ it. Stands handed (wait_one progress line it named) old) (sym found) stands

pub finds_both : (old mid new : ListCode) → FindsOnly old mid → FindsOnly mid new → FindsOnly old new
finds_both old mid new first more = record {
  records = more.records ∙ first.records;
  count = more.count ∙ first.count;
  active = more.active ∙ first.active;
  free = more.free ∙ first.free;
  given = more.given ∙ first.given;
  freed = more.freed ∙ first.freed;
}
