-- Each call of a list passes the tests that look at requests.
use Rattle.std.proofs.Common.{◌≡◌, ℕ, zero, suc, ◌+◌, ◌-◌, Bool, true, false, if◌then◌else◌, Option, Some, None, List, [], ◌∷◌, ◌++◌, length, map, take, refl, sym, subst, append_assoc, append-nil}
use Rattle.std.specs.Prelude.{nat_lt, is_none, slice_get}
use Rattle.std.proofs.lemmas.List.{take-map}
use Rattle.mpicall.specs.Ending.{ends_list}
use Rattle.mpicall.specs.declared.call.Call.{Call}
use Rattle.mpicall.specs.declared.call.Call.TheVariants.{Irecv, Split, Finalize, Open}
use Rattle.mpicall.specs.declared.call.Mode.TheVariants.{Standard}
use Rattle.mpicall.specs.declared.call.Peer.TheVariants as peer
use Rattle.closing.specs.Called.{Called, StartsExchange}
use Rattle.closing.specs.Keys.{Key, has_member}
use Rattle.closing.specs.Entries.{Run, Placed, journal_at, entries_at}
use Rattle.closing.specs.Numbers.{number_of, rank_in, preface_split, preface_lines, preface_of}
use Rattle.closing.specs.Reported.{is_gone}
use Rattle.closing.specs.Steps.{Own, Written, Progress, Step, WaitsForLate, after_steps}
use Rattle.closing.specs.Endings.{why_at}
use Rattle.closing.specs.Entry.{Choice, steps_of}
use Rattle.closing.specs.Recording.{Listed, is_end, steps_before, outcome_by, outcome_in, go_on, list_from, progress_first, whole_list, most_records, line_of, cut, without_journal, list_of}
use Rattle.closing.specs.Sinks.{Outcome, GoesOn, Ends, sinks, starts_half}
use Rattle.closing.specs.declared.pending.Wanted.{Wanted}
use Rattle.closing.specs.declared.why.Why.{Why}
use Rattle.closing.specs.declared.why.Why.TheVariants.{NeverReported, TooLong}
use Rattle.lawful.proofs.RequestLemmas.{AreActive, IsPlain, IsStart, AllFit, plain_keeps, plain_fits}
use Rattle.lawful.proofs.StepLemmas.{AreSaid, calls_in, plain_calls, fit_append, steps_add}
use Rattle.lawful.proofs.TableLemmas.{plain_if, said_append, said_if, send_starts, steps_said}
use Rattle.lawful.proofs.SinkCases.{PassLists, by_lists, in_passes}

-- ---- The preface ----

split_plain : (run : Run) (rank colour : ℕ) (keys : List Key) → IsPlain (preface_split run rank colour keys)
split_plain run rank colour [] = record { starts_none = refl; names_none = refl; completes_none = refl; goes_on = refl }
split_plain run rank colour (key ∷ keys) =
    plain_if (has_member (length run) rank key) (Split 0 (Some colour) (rank_in run rank key) (number_of run key))
    (preface_split run rank (colour + 1) keys)
    (record { starts_none = refl; names_none = refl; completes_none = refl; goes_on = refl }) (split_plain run rank (colour + 1) keys)

splits_fit : (run : Run) (rank : ℕ) (calls : List Call) (lines : List (List Key)) → AreActive calls [] → AllFit calls (map (preface_split run rank 0) lines) × AreActive (calls ++ map (preface_split run rank 0) lines) []
splits_fit run rank calls [] same = (tt, subst (λ (all : List Call). AreActive all []) (sym (append-nil calls)) same)
splits_fit run rank calls (line ∷ lines) same =
    let call = preface_split run rank 0 line in
    let plain = split_plain run rank 0 line in
    let others = splits_fit run rank (calls ++ call ∷ []) lines (plain_keeps calls [] call plain same) in (
      (plain_fits calls call plain, others.0),
      subst (λ (all : List Call). AreActive all []) (append_assoc calls (call ∷ []) (map (preface_split run rank 0) lines)) others.1,
    )

-- ---- Entries ----

-- the records of a list so far, and of a list
abbrev HasFit : Progress → Type 0
HasFit progress = AllFit [] (calls_in progress) × AreActive (calls_in progress) progress.active

abbrev pub FitsAll : Listed → Type 0
FitsAll it = AllFit [] (map (λ one. one.call) it.records) × (ends_list it.end ≡ true)

abbrev IsSaidOutcome : Outcome → Type 0
IsSaidOutcome (GoesOn steps) = AreSaid steps
IsSaidOutcome (Ends steps end why) = AreSaid steps × (ends_list end ≡ true)

steps_fit : (progress : Progress) (line : ℕ) (steps : List Step) → AreSaid steps → HasFit progress → HasFit (after_steps progress line steps)
steps_fit progress line steps said fit =
    let added = steps_add progress line steps said fit.1 in
    (subst (λ (all : List Call). AllFit [] all) (sym added.are) (fit_append [] (calls_in progress) added.calls fit.0 added.adds_calls), added.same)

outcome_fits : (progress : Progress) (line : ℕ) (outcome : Outcome) (others : Progress → Listed) → IsSaidOutcome outcome → HasFit progress → ((new : Progress) → HasFit new → FitsAll (others new)) → FitsAll (go_on progress line outcome others)
outcome_fits progress line (GoesOn steps) others said fit rest = rest (after_steps progress line steps) (steps_fit progress line steps said fit)
outcome_fits progress line (Ends steps end why) others said fit rest = ((steps_fit progress line steps said.0 fit).0, said.1)

pub before_said : (run : Run) (choice : Choice) (placed : Placed) (it : Called) (why : Why) → AreSaid (steps_before run choice placed it why)
before_said run choice placed (StartsExchange request received sent awaited) NeverReported = steps_said run choice placed
before_said run choice placed it why = tt

end_said : (run : Run) (choice : Choice) (placed : Placed) (b : Bool) → IsSaidOutcome (if b then Ends (WaitsForLate ∷ []) Finalize None else GoesOn (steps_of run choice placed))
end_said run choice placed true = ((tt, tt), refl)
end_said run choice placed false = steps_said run choice placed

outcome_said : (run : Run) (choice : Choice) (placed : Placed) (why : Option Why) → IsSaidOutcome (outcome_by run choice placed why)
outcome_said run choice placed (Some why) = (before_said run choice placed placed.called why, refl)
outcome_said run choice placed None = end_said run choice placed (is_end placed.called)

sink_starts : (wanted : Wanted) (number : ℕ) → IsStart number (Irecv number wanted.comm peer.Null 0)
sink_starts wanted number = record { starts_it = refl; names_none = refl; completes_none = refl; goes_on = refl }

pub sinks_said : (run : Run) (placed : Placed) → PassLists run placed AreSaid
sinks_said run placed = record {
  nothing = tt;
  alone = λ wanted is own. (sink_starts wanted, tt);
  both = λ wanted is sent awaited called. (send_starts Standard wanted.comm sent, (sink_starts wanted, tt));
  halves = λ wanted is request received sent awaited called.
      said_append (if is_gone placed.journal.lines request then [] else starts_half wanted (Own request) sent ∷ []) (sinks placed wanted (Some received) ∷ [])
      (said_if (is_gone placed.journal.lines request) [] (starts_half wanted (Own request) sent ∷ []) tt (send_starts Standard wanted.comm sent, tt))
      (sink_starts wanted, tt);
}

outcome_in_said : (run : Run) (choice : Choice) (records : List Written) (placed : Placed) → IsSaidOutcome (outcome_in run choice records placed)
outcome_in_said run choice records placed =
    in_passes run choice records placed IsSaidOutcome (outcome_said run choice placed (why_at run placed))
    (by_lists run placed AreSaid IsSaidOutcome (λ steps said awaits. said) (λ steps why said. (said, refl)) (sinks_said run placed))

list_fits : (run : Run) (choice : Choice) (entries : List Placed) (progress : Progress) → HasFit progress → FitsAll (list_from run choice progress entries)
list_fits run choice [] progress fit = (fit.0, refl)
list_fits run choice (placed ∷ others) progress fit =
    outcome_fits progress placed.line (outcome_in run choice progress.records placed) _ (outcome_in_said run choice progress.records placed) fit
    (λ new new_fit. list_fits run choice others new new_fit)

-- ---- Lists ----

first_fits : (run : Run) (rank : ℕ) → HasFit (progress_first run rank)
first_fits run rank =
    let splits = splits_fit run rank [] (preface_lines run) (λ number. refl) in
    let are = sym (plain_calls 0 (preface_of run rank)) in
    (subst (λ (all : List Call). AllFit [] all) are splits.0, subst (λ (all : List Call). AreActive all []) are splits.1)

whole_list_fits : (run : Run) (choice : Choice) (rank : ℕ) → FitsAll (whole_list run choice rank)
whole_list_fits run choice rank = list_fits run choice (entries_at run rank) (progress_first run rank) (first_fits run rank)

pub fits_take : (n : ℕ) (before calls : List Call) → AllFit before calls → AllFit before (take n calls)
fits_take zero before calls fit = tt
fits_take (suc n) before [] fit = tt
fits_take (suc n) before (call ∷ calls) fit = (fit.0, fits_take n (before ++ call ∷ []) calls fit.1)

fits_if : (b : Bool) (first other : Listed) → FitsAll first → FitsAll other → FitsAll (if b then first else other)
fits_if true first other is_first is_other = is_first
fits_if false first other is_first is_other = is_other

-- a list that is cut for its length
pub shorter : Listed → Listed
shorter it = record {
  records = take (most_records - 1) it.records;
  end = Open;
  line = line_of (slice_get it.records (most_records - 1));
  why = Some TooLong;
  active = it.active;
}

cut_fits : (it : Listed) → FitsAll it → FitsAll (cut it)
unfolding shorter
cut_fits it fit =
    fits_if (nat_lt (length it.records) most_records) it (shorter it) fit (
      subst (λ (calls : List Call). AllFit [] calls) (take-map (λ (one : Written). one.call) (most_records - 1) it.records)
          (fits_take (most_records - 1) [] (map (λ one. one.call) it.records) fit.0),
      refl,
    )

with_or_without : (b : Bool) (it : Listed) → FitsAll it → FitsAll (without_journal b it)
with_or_without true it fit = fit
with_or_without false it fit = fit

pub list_of_fits : (run : Run) (choice : Choice) (rank : ℕ) → FitsAll (list_of run choice rank)
list_of_fits run choice rank =
    with_or_without (is_none (journal_at run rank)) (cut (whole_list run choice rank)) (cut_fits (whole_list run choice rank) (whole_list_fits run choice rank))
