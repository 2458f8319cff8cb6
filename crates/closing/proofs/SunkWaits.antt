-- Waits that name sinks, and what a pending one waits for.
use Rattle.std.proofs.Common.{◌≡◌, refl, sym, ◌∙◌, ap, subst, ℕ, suc, ◌≤◌, Bool, true, false, ◌&&◌, ◌||◌, not, cond, if◌then◌else◌, Option, Some, None, option_and_then, option_map, Result, Ok, Err, List, [], ◌∷◌, ◌++◌, length, map, arith}
use Rattle.std.specs.Prelude.{OnOk, is_some, is_none, option_to_list}
use Rattle.closing.specs.inner.Started.{active_at as started_at}
use Rattle.std.specs.List.{filter, filter_map, find, list_all, list_any}
use Rattle.std.proofs.lemmas.List.Elements.{filter_map-append}
use Rattle.mpicall.specs.Word.{or_else}
use Rattle.journals.specs.Lines.{Line}
use Rattle.journals.specs.declared.field.Field.{Field}
use Rattle.journals.specs.declared.field.Field.TheVariants.{Natural, Signed, Null, Any, Undefined}
use Rattle.closing.specs.Called.{naturals_in}
use Rattle.closing.specs.Entry.{id_of, ids_of}
use Rattle.closing.specs.Pending.{PendingCall, for_all, sinks_from, unknown, pending_said}
use Rattle.closing.specs.Reported.{is_left_out}
use Rattle.closing.specs.Sinks.{Outcome, ends, is_of, sink_for, sink_in}
use Rattle.closing.specs.Steps.{Id, Progress, Written, number_in}
use Rattle.closing.specs.Fit.{AllFit}
use Rattle.closing.specs.inner.Lists.{Handed, Owns, Stands}
use Rattle.closing.specs.inner.RequestReports.{AllStandFor, StandsFor, Tells}
use Rattle.closing.specs.inner.Sinks.{HasSinks, named_in}
use Rattle.closing.specs.inner.Standings.{id_in}
use Rattle.closing.specs.inner.Sunk.{ChoseBack, EndsSunk, IsSunkBy, TakesSunk, active_at, any_of, any_pending, chooses_idle, chooses_pending, chooses_sunk, item_at, item_in, names_sink, pending_when, sink_at, steps_if, waits_pending, waits_sunk, with_items}
use Rattle.closing.specs.inner.Taken.{IsKept, IsLeftOut}
use Rattle.closing.specs.inner.Walks.{Spot}
use Rattle.closing.specs.declared.list.Active.{Active}
use Rattle.closing.specs.declared.list.List.{List as ListCode}
use Rattle.closing.specs.declared.pending.Item.{Item}
use Rattle.closing.specs.declared.pending.Item.TheVariants as item
use Rattle.closing.specs.declared.pending.Pending.{Pending}
use Rattle.closing.specs.declared.pending.Sink.{Sink as SinkKept}
use Rattle.closing.specs.declared.pending.Sinks.{Sinks}
use Rattle.closing.specs.declared.pending.Wanted.{Wanted}
use Rattle.closing.specs.declared.standing.Standing.{Standing}
use Rattle.closing.specs.declared.stop.Stop.{Stop}
use Rattle.closing.specs.declared.stop.Stop.TheVariants.{Left, Memory}
use Rattle.closing.specs.declared.walk.Walk.{Walk}
use Rattle.closing.specs.declared.why.Why.{Why}
use Rattle.closing.specs.declared.why.Why.TheVariants.{NeverCameBack, NeverReported, Failed, NoNumber, TooLong, CannotBe, Stopped, Aborted, Full, Cut, NoJournal, NotJudged}

-- ---- One request after the other ----

pub items_step : (f : Field → Option Item) (field : Field) (fields : List Field) → filter_map f (field ∷ fields) ≡ filter_map f (field ∷ []) ++ filter_map f fields
items_step f field fields = filter_map-append f (field ∷ []) fields

single : (f : Field → Option Item) (g : ℕ → Option Item) (field : Field) (request : ℕ) → f field ≡ g request → filter_map f (field ∷ []) ≡ filter_map g (request ∷ [])
single f g field request e = rw e refl

-- ---- Without sinks ----

nothing_here : (place : ℕ) (wanted : Option Wanted) (rest : List SinkKept)
    → option_to_list (option_map (λ wanted. record { place = place; wanted = wanted }) wanted) ++ rest ≡ [] → (wanted ≡ None) × (rest ≡ [])
nothing_here place None rest e = (refl, e)
nothing_here place (Some wanted) rest e = cc

none_found : (b : Bool) (one : Written) (found : Option Written) → sink_in one.starts ≡ None → option_and_then (λ (one : Written). sink_in one.starts) found ≡ None
    → option_and_then (λ (one : Written). sink_in one.starts) (cond b (Some one) found) ≡ None
none_found true one found e h = e
none_found false one found e h = h

none_named : (place : ℕ) (records : List Written) (id : Id) → sinks_from place records ≡ [] → sink_for records id ≡ None
none_named place [] id e = refl
none_named place (one ∷ records) id e =
    let parts = nothing_here place (sink_in one.starts) (sinks_from (suc place) records) e in
    none_found (is_of id one.starts) one (find (λ one. is_of id one.starts) records) parts.0 (none_named (suc place) records id parts.1)

none_among : (records : List Written) (ids : List Id) → sinks_from 0 records ≡ [] → list_any (λ id. is_some (sink_for records id)) ids ≡ false
none_among records [] e = refl
none_among records (id ∷ ids) e =
    ap (λ w. is_some w || list_any (λ id. is_some (sink_for records id)) ids) (none_named 0 records id e) ∙ none_among records ids e

-- without sinks none is named
pub names_none : (lines : List Line) (requests : List ℕ) (records : List Written) (it : Sinks) → HasSinks records it → it.all.items ≡ [] → false ≡ names_sink lines requests records
names_none lines requests records it has none = sym (none_among records (ids_of lines requests) (sym has.all ∙ none))

-- ---- What a request names ----

module _ (lines : List Line) (standing : Standing) (sinks : Sinks) (records : List Written) (tells : Tells lines standing.outcomes) (has : HasSinks records sinks) where
  sink_said : (request : ℕ) → StandsFor lines standing request
      → sink_at standing sinks (Natural request) ≡ (if is_left_out lines request then None else sink_for records (id_of lines request))
  sink_said request stands =
      ap (λ b. if b then None else named_in sinks (id_in standing request)) (tells.left_out request)
      ∙ ap (λ w. if is_left_out lines request then None else w) (has.named (id_in standing request) ∙ ap (sink_for records) stands)

  any_first : (gone : Bool) (id : Id) (ids : List Id) (rest : Bool) → rest ≡ list_any (λ id. is_some (sink_for records id)) ids
      → (is_some (if gone then None else sink_for records id) || rest) ≡ list_any (λ id. is_some (sink_for records id)) (if gone then ids else id ∷ ids)
  any_first true id ids rest e = e
  any_first false id ids rest e = ap (λ b. is_some (sink_for records id) || b) e

  ids_first : (request : ℕ) (requests : List ℕ) (gone : Bool) → is_left_out lines request ≡ gone
      → (if gone then ids_of lines requests else id_of lines request ∷ ids_of lines requests) ≡ ids_of lines (request ∷ requests)
  ids_first request requests gone e = by_gone gone ∙ ap (λ b. map (id_of lines) (cond (not b) (request ∷ filter (λ request. not (is_left_out lines request)) requests) (filter (λ request. not (is_left_out lines request)) requests))) (sym e)
    where
      by_gone : (b : Bool) → (if b then ids_of lines requests else id_of lines request ∷ ids_of lines requests)
          ≡ map (id_of lines) (cond (not b) (request ∷ filter (λ request. not (is_left_out lines request)) requests) (filter (λ request. not (is_left_out lines request)) requests))
      by_gone true = refl
      by_gone false = refl

  pub names_said : (fields : List Field) → AllStandFor lines standing (naturals_in fields)
      → list_any (λ field. is_some (sink_at standing sinks field)) fields ≡ names_sink lines (naturals_in fields) records
  names_said [] stand = refl
  names_said (Natural request ∷ fields) stand =
      ap (λ w. is_some w || list_any (λ field. is_some (sink_at standing sinks field)) fields) (sink_said request stand.0)
      ∙ any_first (is_left_out lines request) (id_of lines request) (ids_of lines (naturals_in fields)) _ (names_said fields stand.1)
      ∙ ap (list_any (λ id. is_some (sink_for records id))) (ids_first request (naturals_in fields) (is_left_out lines request) refl)
  names_said (Signed number ∷ fields) stand = names_said fields stand
  names_said (Null ∷ fields) stand = names_said fields stand
  names_said (Any ∷ fields) stand = names_said fields stand
  names_said (Undefined ∷ fields) stand = names_said fields stand

-- ---- What a pending wait waits for ----

naturals_few : (fields : List Field) → length (naturals_in fields) ≤ length fields
naturals_few [] = omega arith
naturals_few (Natural request ∷ fields) = omega (arith, naturals_few fields)
naturals_few (Signed number ∷ fields) = omega (arith, naturals_few fields)
naturals_few (Null ∷ fields) = omega (arith, naturals_few fields)
naturals_few (Any ∷ fields) = omega (arith, naturals_few fields)
naturals_few (Undefined ∷ fields) = omega (arith, naturals_few fields)

by_number : (o : Option Active) → option_map (λ (active : Active). item.Request active.number) o ≡ option_map (λ number. item.Request number) (option_map (λ (active : Active). active.number) o)
by_number None = refl
by_number (Some active) = refl

item_or : (gone : Bool) (wanted : Option Wanted) (active : Option Item)
    → or_else (option_map (λ wanted. item.Message wanted) (if gone then None else wanted)) (if gone then None else active)
    ≡ (if gone then None else or_else (option_map (λ wanted. item.Message wanted) wanted) active)
item_or true wanted active = refl
item_or false wanted active = refl

module _ (lines : List Line) (standing : Standing) (sinks : Sinks) (list : ListCode) (progress : Progress)
    (tells : Tells lines standing.outcomes) (has : HasSinks progress.records sinks) (owns : Owns progress.active list) where
  active_said : (request : ℕ) → StandsFor lines standing request
      → active_at standing list (Natural request) ≡ (if is_left_out lines request then None else option_map (λ number. item.Request number) (number_in progress.active (id_of lines request)))
  active_said request stands =
      ap (λ b. if b then None else option_map (λ (active : Active). item.Request active.number) (started_at list.active (id_in standing request))) (tells.left_out request)
      ∙ ap (λ o. if is_left_out lines request then None else o)
      (by_number (started_at list.active (id_in standing request))
      ∙ ap (option_map (λ number. item.Request number)) (owns (id_in standing request) ∙ ap (number_in progress.active) stands))

  item_said : (request : ℕ) → StandsFor lines standing request → item_at standing sinks list (Natural request) ≡ item_in lines progress request
  item_said request stands =
      ap (λ w. or_else (option_map (λ wanted. item.Message wanted) w) (active_at standing list (Natural request)))
      (sink_said lines standing sinks progress.records tells has request stands)
      ∙ ap (or_else (option_map (λ wanted. item.Message wanted) (if is_left_out lines request then None else sink_for progress.records (id_of lines request)))) (active_said request stands)
      ∙ item_or (is_left_out lines request) (sink_for progress.records (id_of lines request)) (option_map (λ number. item.Request number) (number_in progress.active (id_of lines request)))

  pub items_said : (fields : List Field) → AllStandFor lines standing (naturals_in fields)
      → filter_map (item_at standing sinks list) fields ≡ filter_map (item_in lines progress) (naturals_in fields)
  items_said [] stand = refl
  items_said (Natural request ∷ fields) stand =
      items_step (item_at standing sinks list) (Natural request) fields
      ∙ ap (λ xs. xs ++ filter_map (item_at standing sinks list) fields)
      (single (item_at standing sinks list) (item_in lines progress) (Natural request) request (item_said request stand.0))
      ∙ ap (λ xs. filter_map (item_in lines progress) (request ∷ []) ++ xs) (items_said fields stand.1)
      ∙ sym (filter_map-append (item_in lines progress) (request ∷ []) (naturals_in fields))
  items_said (Signed number ∷ fields) stand = items_said fields stand
  items_said (Null ∷ fields) stand = items_said fields stand
  items_said (Any ∷ fields) stand = items_said fields stand
  items_said (Undefined ∷ fields) stand = items_said fields stand

  pub all_said : (fields : List Field) → AllStandFor lines standing (naturals_in fields) → length (naturals_in fields) ≡ length fields
      → list_all (λ field. is_some (item_at standing sinks list field)) fields ≡ list_all (λ request. is_some (item_in lines progress request)) (naturals_in fields)
  all_said [] stand whole = refl
  all_said (Natural request ∷ fields) stand whole =
      ap (λ o. is_some o && list_all (λ field. is_some (item_at standing sinks list field)) fields) (item_said request stand.0)
      ∙ ap (λ b. is_some (item_in lines progress request) && b) (all_said fields stand.1 (omega (arith, whole)))
  all_said (Signed number ∷ fields) stand whole = absurd (omega (arith, whole, naturals_few fields))
  all_said (Null ∷ fields) stand whole = absurd (omega (arith, whole, naturals_few fields))
  all_said (Any ∷ fields) stand whole = absurd (omega (arith, whole, naturals_few fields))
  all_said (Undefined ∷ fields) stand whole = absurd (omega (arith, whole, naturals_few fields))

-- ---- After a wait ----

-- nothing was put
pub left_alone : (line : ℕ) (came_back : Bool) (outcome : Option Outcome) (pending idle : PendingCall) (handed : Handed) (progress : Progress) (walk : Walk)
    → outcome ≡ None → idle ≡ unknown → Stands handed progress walk.list → IsKept progress.records walk
    → IsSunkBy line came_back outcome pending idle (Ok false) handed progress walk
left_alone line came_back outcome pending idle handed progress walk none nothing stands kept =
    (none, record { stands = stands; sinks = kept.sinks; pending = kept.pending ∙ sym nothing; left_out = kept.left_out })

-- the list ends, and no call is pending
pub left_ended : (line : ℕ) (came_back : Bool) (outcome : Option Outcome) (pending : PendingCall) (why : Why) (handed : Handed) (progress : Progress) (walk : Walk)
    → outcome ≡ Some (ends why) → pending_when why came_back pending ≡ unknown → Stands handed progress walk.list → IsKept progress.records walk
    → EndsSunk line came_back outcome pending why handed progress walk
left_ended line came_back outcome pending why handed progress walk is none stands kept = record {
  steps = [];
  is = is;
  stands = stands;
  sinks = kept.sinks.all;
  waits = kept.pending ∙ sym none;
  left_out = kept.left_out;
}

by_named : (past named came_back : Bool) (names : Bool) → names ≡ (not past && named) → names ≡ false
    → (if past || not named then None else Some (ends (if came_back then NotJudged else NeverCameBack))) ≡ None
by_named true named came_back names e h = refl
by_named false false came_back names e h = refl
by_named false true came_back names e h = cc

by_ended : (past named came_back : Bool) (names : Bool) → names ≡ (not past && named) → names ≡ true
    → (if past || not named then None else Some (ends (if came_back then NotJudged else NeverCameBack))) ≡ Some (ends (if came_back then NotJudged else NeverCameBack))
by_ended true named came_back names e h = cc
by_ended false false came_back names e h = cc
by_ended false true came_back names e h = refl

module _ (spot : Spot) (came_back : Bool) (requests : List ℕ) (past names : Bool) (handed : Handed) (progress : Progress) (walk : Walk)
    (same_past : past ≡ spot.is_past) (named : names ≡ (not past && names_sink spot.lines requests progress.records))
    (stands : Stands handed progress walk.list) (kept : IsKept progress.records walk) where
  abbrev waiting : Option Outcome
  waiting = waits_sunk spot came_back requests progress.records

  by_spot : names ≡ (not spot.is_past && names_sink spot.lines requests progress.records)
  by_spot = named ∙ ap (λ b. not b && names_sink spot.lines requests progress.records) same_past

  -- one that names no sink
  pub waits_alone : (pending : PendingCall) → names ≡ false → IsSunkBy spot.line came_back waiting pending unknown (Ok false) handed progress walk
  waits_alone pending h =
      left_alone spot.line came_back waiting pending unknown handed progress walk
      (by_named spot.is_past (names_sink spot.lines requests progress.records) came_back names by_spot h) refl stands kept

  pub ended_is : names ≡ true → waiting ≡ Some (ends (if came_back then NotJudged else NeverCameBack))
  ended_is h = by_ended spot.is_past (names_sink spot.lines requests progress.records) came_back names by_spot h

  -- one that came back
  pub waits_judged : (pending idle : PendingCall) → names ≡ true → came_back ≡ true → IsSunkBy spot.line came_back waiting pending idle (Err (Left NotJudged)) handed progress walk
  waits_judged pending idle h back =
      left_ended spot.line came_back waiting pending NotJudged handed progress walk
      (ended_is h ∙ ap (λ b. Some (ends (if b then NotJudged else NeverCameBack))) back) refl stands kept

  never_pending : (b : Bool) → (if b then unknown else unknown) ≡ unknown
  never_pending true = refl
  never_pending false = refl

  -- a test that didn't
  pub tests_ended : (idle : PendingCall) → names ≡ true → came_back ≡ false → IsSunkBy spot.line came_back waiting unknown idle (Err (Left NeverCameBack)) handed progress walk
  tests_ended idle h back =
      left_ended spot.line came_back waiting unknown NeverCameBack handed progress walk
      (ended_is h ∙ ap (λ b. Some (ends (if b then NotJudged else NeverCameBack))) back) (never_pending came_back) stands kept

-- ---- A wait that is pending ----

-- with items after none
pub only_items : (it : Pending) (items : List Item) → pending_said it ≡ unknown → with_items it items ≡ for_all items
only_items it items e = ap (λ (call : PendingCall). record { is_for_all = call.is_for_all; items = call.items ++ items }) e

module _ (lines : List Line) (fields : List Field) (old new : Walk) (handed : Handed) (progress : Progress)
    (tells : Tells lines old.requests.outcomes) (stand : AllStandFor lines old.requests (naturals_in fields))
    (same : new ≡ record old { pending = new.pending }) (stands : Stands handed progress old.list) (kept : IsKept progress.records old) where
  still_stands : Stands handed progress new.list
  still_stands = subst (λ (walk : Walk). Stands handed progress walk.list) (sym same) stands

  still_left : IsLeftOut progress.records new
  still_left = subst (λ (walk : Walk). IsLeftOut progress.records walk) (sym same) kept.left_out

  still_sinks : HasSinks progress.records new.sinks
  still_sinks = subst (λ (walk : Walk). HasSinks progress.records walk.sinks) (sym same) kept.sinks

  -- one that names a sink and never came back
  pub waits_pend : (line : ℕ) (came_back : Bool) (outcome : Option Outcome) (idle : PendingCall) → outcome ≡ Some (ends (if came_back then NotJudged else NeverCameBack)) → came_back ≡ false
      → pending_said new.pending ≡ with_items old.pending (filter_map (item_at old.requests old.sinks old.list) fields)
      → IsSunkBy line came_back outcome (waits_pending lines (naturals_in fields) progress) idle (Err (Left NeverCameBack)) handed progress new
  waits_pend line came_back outcome idle is back has = record {
    steps = [];
    is = is ∙ ap (λ b. Some (ends (if b then NotJudged else NeverCameBack))) back;
    stands = still_stands;
    sinks = still_sinks.all;
    waits = has ∙ only_items old.pending (filter_map (item_at old.requests old.sinks old.list) fields) kept.pending
        ∙ ap for_all (items_said lines old.requests old.sinks old.list progress tells kept.sinks stands.own fields stand)
        ∙ sym (ap (λ b. if b then unknown else waits_pending lines (naturals_in fields) progress) back);
    left_out = still_left;
  }

  -- none of several was chosen
  pub none_pend : (line : ℕ) (came_back : Bool) (pending : PendingCall) → length (naturals_in fields) ≡ length fields → came_back ≡ false
      → pending_said new.pending ≡ any_of (list_all (λ field. is_some (item_at old.requests old.sinks old.list field)) fields) (filter_map (item_at old.requests old.sinks old.list) fields)
      → IsSunkBy line came_back None pending (if not came_back then any_pending lines (naturals_in fields) progress else unknown) (Ok false) handed progress new
  none_pend line came_back pending whole back has = (
    refl,
    record {
      stands = still_stands;
      sinks = still_sinks;
      pending = has
          ∙ ap (λ b. any_of b (filter_map (item_at old.requests old.sinks old.list) fields)) (all_said lines old.requests old.sinks old.list progress tells kept.sinks stands.own fields stand whole)
          ∙ ap (any_of (list_all (λ request. is_some (item_in lines progress request)) (naturals_in fields)))
          (items_said lines old.requests old.sinks old.list progress tells kept.sinks stands.own fields stand)
          ∙ sym (ap (λ b. if not b then any_pending lines (naturals_in fields) progress else unknown) back);
      left_out = still_left;
    },
  )

-- ---- By what was chosen ----

-- what is the same is taken alike
pub takes_as : (line : ℕ) (came_back : Bool) (f g : List Written → Option Outcome) (p q i j : Progress → PendingCall) (result : Result Bool Stop) (old new : Walk)
    → ((records : List Written) → f records ≡ g records) → ((progress : Progress) → p progress ≡ q progress) → ((progress : Progress) → i progress ≡ j progress)
    → TakesSunk line came_back f p i result old new → TakesSunk line came_back g q j result old new
takes_as line came_back f g p q i j result old new ef ep ei takes = λ handed progress stands kept fits.
    subst (λ o. IsSunkBy line came_back o (q progress) (j progress) result handed progress new) (ef progress.records)
    (subst (λ x. IsSunkBy line came_back (f progress.records) x (j progress) result handed progress new) (ep progress)
    (subst (λ x. IsSunkBy line came_back (f progress.records) (p progress) x result handed progress new) (ei progress)
    (takes handed progress stands kept (subst (λ o. AllFit progress line (steps_if o)) (sym (ef progress.records)) fits))))

pub chooses_one : (spot : Spot) (came_back : Bool) (requests : List ℕ) (result : Result Bool Stop) (old new : Walk) → length requests ≡ 1
    → TakesSunk spot.line came_back (waits_sunk spot came_back requests) (waits_pending spot.lines requests) (λ progress. unknown) result old new
    → TakesSunk spot.line came_back (chooses_sunk spot came_back requests) (chooses_pending spot.lines requests) (chooses_idle spot came_back requests) result old new
chooses_one spot came_back [] result old new one takes = absurd (omega (arith, one))
chooses_one spot came_back (x ∷ []) result old new one takes = takes
chooses_one spot came_back (x ∷ y ∷ zs) result old new one takes = absurd (omega (arith, one))

-- of one that came back no call is pending
when_back : (why : Why) (p q : PendingCall) → pending_when why true p ≡ pending_when why true q
when_back NeverCameBack p q = refl
when_back NeverReported p q = refl
when_back Failed p q = refl
when_back NoNumber p q = refl
when_back TooLong p q = refl
when_back CannotBe p q = refl
when_back Stopped p q = refl
when_back Aborted p q = refl
when_back Full p q = refl
when_back Cut p q = refl
when_back NoJournal p q = refl
when_back NotJudged p q = refl

ends_back : (line : ℕ) (outcome : Option Outcome) (p q : PendingCall) (why : Why) (handed : Handed) (progress : Progress) (walk : Walk)
    → EndsSunk line true outcome p why handed progress walk → EndsSunk line true outcome q why handed progress walk
ends_back line outcome p q why handed progress walk h =
    record { steps = h.steps; is = h.is; stands = h.stands; sinks = h.sinks; waits = h.waits ∙ when_back why p q; left_out = h.left_out }

sunk_back : (line : ℕ) (outcome : Option Outcome) (p q idle : PendingCall) (result : Result Bool Stop) (handed : Handed) (progress : Progress) (walk : Walk)
    → IsSunkBy line true outcome p idle result handed progress walk → IsSunkBy line true outcome q idle result handed progress walk
sunk_back line outcome p q idle (Ok false) handed progress walk h = h
sunk_back line outcome p q idle (Ok true) handed progress walk h = h
sunk_back line outcome p q idle (Err Memory) handed progress walk h = tt
sunk_back line outcome p q idle (Err (Left TooLong)) handed progress walk h = h
sunk_back line outcome p q idle (Err (Left NeverCameBack)) handed progress walk h = ends_back line outcome p q NeverCameBack handed progress walk h
sunk_back line outcome p q idle (Err (Left NeverReported)) handed progress walk h = ends_back line outcome p q NeverReported handed progress walk h
sunk_back line outcome p q idle (Err (Left Failed)) handed progress walk h = ends_back line outcome p q Failed handed progress walk h
sunk_back line outcome p q idle (Err (Left NoNumber)) handed progress walk h = ends_back line outcome p q NoNumber handed progress walk h
sunk_back line outcome p q idle (Err (Left CannotBe)) handed progress walk h = ends_back line outcome p q CannotBe handed progress walk h
sunk_back line outcome p q idle (Err (Left Stopped)) handed progress walk h = ends_back line outcome p q Stopped handed progress walk h
sunk_back line outcome p q idle (Err (Left Aborted)) handed progress walk h = ends_back line outcome p q Aborted handed progress walk h
sunk_back line outcome p q idle (Err (Left Full)) handed progress walk h = ends_back line outcome p q Full handed progress walk h
sunk_back line outcome p q idle (Err (Left Cut)) handed progress walk h = ends_back line outcome p q Cut handed progress walk h
sunk_back line outcome p q idle (Err (Left NotJudged)) handed progress walk h = ends_back line outcome p q NotJudged handed progress walk h
sunk_back line outcome p q idle (Err (Left NoJournal)) handed progress walk h = ends_back line outcome p q NoJournal handed progress walk h

any_back : (line : ℕ) (came_back : Bool) (f : List Written → Option Outcome) (p q i : Progress → PendingCall) (result : Result Bool Stop) (old new : Walk) → came_back ≡ true
    → TakesSunk line came_back f p i result old new → TakesSunk line came_back f q i result old new
any_back line true f p q i result old new back takes = λ handed progress stands kept fits.
    sunk_back line (f progress.records) (p progress) (q progress) (i progress) result handed progress new (takes handed progress stands kept fits)
any_back line false f p q i result old new back takes = cc

several_chosen : (spot : Spot) (came_back : Bool) (requests chosen : List ℕ) (records : List Written) → (length requests ≡ 1 → ⊥) → Some chosen ≡ spot.chose
    → waits_sunk spot came_back chosen records ≡ chooses_sunk spot came_back requests records
several_chosen spot came_back [] chosen records not_one e = ap (option_and_then (λ chosen. waits_sunk spot came_back chosen records)) e
several_chosen spot came_back (x ∷ []) chosen records not_one e = absurd (not_one refl)
several_chosen spot came_back (x ∷ y ∷ zs) chosen records not_one e = ap (option_and_then (λ chosen. waits_sunk spot came_back chosen records)) e

several_idle : (spot : Spot) (came_back : Bool) (requests chosen : List ℕ) (progress : Progress) → (length requests ≡ 1 → ⊥) → Some chosen ≡ spot.chose
    → unknown ≡ chooses_idle spot came_back requests progress
several_idle spot came_back [] chosen progress not_one e = ap (λ o. if is_none o && not came_back then any_pending spot.lines [] progress else unknown) e
several_idle spot came_back (x ∷ []) chosen progress not_one e = absurd (not_one refl)
several_idle spot came_back (x ∷ y ∷ zs) chosen progress not_one e = ap (λ o. if is_none o && not came_back then any_pending spot.lines (x ∷ y ∷ zs) progress else unknown) e

pub chooses_some : (spot : Spot) (came_back : Bool) (requests chosen : List ℕ) (result : Result Bool Stop) (old new : Walk) → (length requests ≡ 1 → ⊥) → Some chosen ≡ spot.chose
    → ChoseBack spot came_back → TakesSunk spot.line came_back (waits_sunk spot came_back chosen) (waits_pending spot.lines chosen) (λ progress. unknown) result old new
    → TakesSunk spot.line came_back (chooses_sunk spot came_back requests) (chooses_pending spot.lines requests) (chooses_idle spot came_back requests) result old new
chooses_some spot came_back requests chosen result old new not_one e back takes =
    any_back spot.line came_back (chooses_sunk spot came_back requests) (waits_pending spot.lines chosen) (chooses_pending spot.lines requests) (chooses_idle spot came_back requests) result old new
    (back (sym (ap (λ o. is_some o) e)))
    (takes_as spot.line came_back (waits_sunk spot came_back chosen) (chooses_sunk spot came_back requests) (waits_pending spot.lines chosen) (waits_pending spot.lines chosen)
    (λ progress. unknown) (chooses_idle spot came_back requests) result old new (λ records. several_chosen spot came_back requests chosen records not_one e) (λ progress. refl)
    (λ progress. several_idle spot came_back requests chosen progress not_one e) takes)

none_chosen : (spot : Spot) (came_back : Bool) (requests : List ℕ) (records : List Written) → (length requests ≡ 1 → ⊥) → None ≡ spot.chose → None ≡ chooses_sunk spot came_back requests records
none_chosen spot came_back [] records not_one e = ap (option_and_then (λ chosen. waits_sunk spot came_back chosen records)) e
none_chosen spot came_back (x ∷ []) records not_one e = absurd (not_one refl)
none_chosen spot came_back (x ∷ y ∷ zs) records not_one e = ap (option_and_then (λ chosen. waits_sunk spot came_back chosen records)) e

none_idle : (spot : Spot) (came_back : Bool) (requests : List ℕ) (progress : Progress) → (length requests ≡ 1 → ⊥) → None ≡ spot.chose
    → (if not came_back then any_pending spot.lines requests progress else unknown) ≡ chooses_idle spot came_back requests progress
none_idle spot came_back [] progress not_one e = ap (λ (o : Option (List ℕ)). if is_none o && not came_back then any_pending spot.lines [] progress else unknown) e
none_idle spot came_back (x ∷ []) progress not_one e = absurd (not_one refl)
none_idle spot came_back (x ∷ y ∷ zs) progress not_one e = ap (λ (o : Option (List ℕ)). if is_none o && not came_back then any_pending spot.lines (x ∷ y ∷ zs) progress else unknown) e

pub chooses_nothing : (spot : Spot) (came_back : Bool) (requests : List ℕ) (result : Result Bool Stop) (old new : Walk) → (length requests ≡ 1 → ⊥) → None ≡ spot.chose
    → TakesSunk spot.line came_back (λ records. None) (chooses_pending spot.lines requests) (λ progress. if not came_back then any_pending spot.lines requests progress else unknown) result old new
    → TakesSunk spot.line came_back (chooses_sunk spot came_back requests) (chooses_pending spot.lines requests) (chooses_idle spot came_back requests) result old new
chooses_nothing spot came_back requests result old new not_one e takes =
    takes_as spot.line came_back (λ records. None) (chooses_sunk spot came_back requests) (chooses_pending spot.lines requests) (chooses_pending spot.lines requests)
    (λ progress. if not came_back then any_pending spot.lines requests progress else unknown) (chooses_idle spot came_back requests) result old new
    (λ records. none_chosen spot came_back requests records not_one e) (λ progress. refl) (λ progress. none_idle spot came_back requests progress not_one e) takes

-- ---- Without memory ----

pub no_memory_sunk : (line : ℕ) (came_back : Bool) (f : List Written → Option Outcome) (p i : Progress → PendingCall) (result : Result Bool Stop) (old new : Walk)
    → result ≡ Err Memory → TakesSunk line came_back f p i result old new
no_memory_sunk line came_back f p i result old new e =
    subst (λ r. TakesSunk line came_back f p i r old new) (sym e) (λ handed progress stands kept fits. tt)

-- ---- A wait for any ----

pub all_items : (it : Pending) (all : Bool) (items : List Item) → it.items.items ≡ [] → all ≡ true → record { is_for_all = false; items = it.items.items ++ items } ≡ any_of all items
all_items it all items none e =
    ap (λ (before : List Item). record { is_for_all = false; items = before ++ items }) none ∙ sym (ap (λ (b : Bool). any_of b items) e)

pub none_items : (it : Pending) (all : Bool) (items : List Item) → it.items.items ≡ [] → all ≡ false → record { is_for_all = false; items = it.items.items } ≡ any_of all items
none_items it all items none e =
    ap (λ (before : List Item). record { is_for_all = false; items = before }) none ∙ sym (ap (λ (b : Bool). any_of b items) e)

pub both_fine : {B E : Type 0} (P Q : Type 0) (result : Result B E) → (P → Q) → OnOk result P → OnOk result Q
both_fine P Q (Ok done) gives holds = gives holds
both_fine P Q (Err fault) gives holds = tt
