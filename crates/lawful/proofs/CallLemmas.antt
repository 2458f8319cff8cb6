-- Each call of a recording names a communicator of its head, and ranks of that one's group.
use Rattle.std.proofs.Common.{◌≡◌, ℕ, zero, suc, ◌+◌, ◌-◌, not, Bool, true, false, if◌then◌else◌, Option, Some, None, List, [], ◌∷◌, length, map, take, refl, sym, subst}
use Rattle.std.specs.Prelude.{nat_lt, is_none, slice_get}
use Rattle.std.proofs.lemmas.Bool.{false≢true}
use Rattle.std.proofs.lemmas.List.{take-map}
use Rattle.std.proofs.lemmas.Option.{none-some, same_Some}
use Rattle.mpicall.specs.Ending.{ends_list}
use Rattle.mpicall.specs.Word.{or_else}
use Rattle.mpicall.specs.declared.call.Call.{Call}
use Rattle.mpicall.specs.declared.call.Call.TheVariants.{Split, Finalize, Open}
use Rattle.mpigroup.specs.Groups.{Groups}
use Rattle.journals.specs.Known.{has_report}
use Rattle.journals.specs.declared.word.ReportWord.TheVariants as report
use Rattle.closing.specs.Called.{Called, StartsExchange, Stops, Cuts, Aborts, Fills}
use Rattle.closing.specs.Keys.{Key, has_member}
use Rattle.closing.specs.Entries.{Run, Placed, journal_at, entries_at, is_window}
use Rattle.closing.specs.Numbers.{groups_of, number_of, rank_in, preface_split, preface_lines, preface_of}
use Rattle.closing.specs.Steps.{Written, Progress, WaitsForLate, after_steps}
use Rattle.closing.specs.Endings.{breaks_off, can_be, first_of, is_unknown, is_unreported, lacks_number, why_at}
use Rattle.closing.specs.Entry.{Choice, steps_of}
use Rattle.closing.specs.Recording.{Listed, is_end, steps_before, outcome_by, outcome_in, go_on, list_from, progress_first, whole_list, most_records, line_of, cut, without_journal, list_of, calls_of}
use Rattle.closing.specs.Sinks.{Outcome, GoesOn, Ends}
use Rattle.closing.specs.declared.why.Why.{Why}
use Rattle.closing.specs.declared.why.Why.TheVariants.{NeverCameBack, NeverReported, Failed, NoNumber, CannotBe, TooLong}
use Rattle.lawful.proofs.StepLemmas.{calls_in, plain_calls}
use Rattle.lawful.proofs.ListLemmas.{list_of_fits}
use Rattle.lawful.proofs.PassLemmas.{AreSteps, AllCalls, PassWaits, calls_append, calls_take, steps_pass}
use Rattle.lawful.proofs.NameLemmas.{Names, sinks_name, steps_names}
use Rattle.lawful.proofs.SinkCases.{by_lists, in_passes}

-- ---- What can be ----

-- a list goes on, or ends with a receive that was never reported: then the call can be
abbrev pub passed : Option Why → Bool
passed None = true
passed (Some NeverReported) = true
passed (Some why) = false

can_of : (a b c d e : Bool) → passed (first_of ((a, Failed) ∷ (not b, CannotBe) ∷ (c, NoNumber) ∷ (d, NeverReported) ∷ (e, NeverCameBack) ∷ [])) ≡ true → b ≡ true
can_of true b c d e h = absurd (false≢true h)
can_of false true c d e h = refl
can_of false false c d e h = absurd (false≢true h)

goes_past : (w : Bool) (it : Called) (o : Option Why) → passed (or_else (breaks_off w it) o) ≡ true → passed o ≡ true
goes_past w Stops o h = absurd (false≢true h)
goes_past w Aborts o h = absurd (false≢true h)
goes_past w Fills o h = absurd (false≢true h)
goes_past true Cuts o h = h
goes_past false Cuts o h = absurd (false≢true h)
goes_past w _ o h = h

pub can_at : (run : Run) (placed : Placed) → passed (why_at run placed) ≡ true → can_be run placed ≡ true
can_at run placed h =
    can_of (has_report report.Failed placed.entry) (can_be run placed) (lacks_number run placed) (is_unreported placed placed.called)
    (is_unknown placed placed.called) (goes_past (is_window run) placed.called _ h)

-- ---- Entries ----

abbrev PassOutcome : (Call → Type 0) → Outcome → Type 0
PassOutcome P (GoesOn steps) = AreSteps P steps
PassOutcome P (Ends steps end why) = AreSteps P steps

before_names : (run : Run) (choice : Choice) (placed : Placed) (it : Called) (why : Why) → (passed (Some why) ≡ true → can_be run placed ≡ true) → AreSteps (Names (groups_of run)) (steps_before run choice placed it why)
before_names run choice placed (StartsExchange request received sent awaited) NeverReported can = steps_names run choice placed (can refl)
before_names run choice placed _ _ can = tt

end_names : (run : Run) (choice : Choice) (placed : Placed) (b : Bool) → can_be run placed ≡ true → PassOutcome (Names (groups_of run)) (if b then Ends (WaitsForLate ∷ []) Finalize None else GoesOn (steps_of run choice placed))
end_names run choice placed true can = (tt, tt)
end_names run choice placed false can = steps_names run choice placed can

outcome_names : (run : Run) (choice : Choice) (placed : Placed) (o : Option Why) → why_at run placed ≡ o → PassOutcome (Names (groups_of run)) (outcome_by run choice placed o)
outcome_names run choice placed None e = end_names run choice placed (is_end placed.called) (can_at run placed (rw e refl))
outcome_names run choice placed (Some why) e =
    before_names run choice placed placed.called why (λ h. can_at run placed (rw e h))

outcome_in_names : (run : Run) (choice : Choice) (records : List Written) (placed : Placed) → PassOutcome (Names (groups_of run)) (outcome_in run choice records placed)
outcome_in_names run choice records placed =
    in_passes run choice records placed (PassOutcome (Names (groups_of run))) (outcome_names run choice placed (why_at run placed) refl)
    (by_lists run placed (AreSteps (Names (groups_of run))) (PassOutcome (Names (groups_of run))) (λ steps names awaits. names) (λ steps why names. names) (sinks_name run placed))

on_outcome : (P : Call → Type 0) (progress : Progress) (line : ℕ) (outcome : Outcome) (others : Progress → Listed) → PassWaits P → PassOutcome P outcome → AllCalls P (calls_in progress) → ((new : Progress) → AllCalls P (calls_in new) → AllCalls P (map (λ one. one.call) (others new).records)) → AllCalls P (map (λ one. one.call) (go_on progress line outcome others).records)
on_outcome P progress line (GoesOn steps) others waits passes all rest =
    rest (after_steps progress line steps) (steps_pass P progress line steps waits passes all)
on_outcome P progress line (Ends steps end why) others waits passes all rest = steps_pass P progress line steps waits passes all

waits_name : (run : Run) → PassWaits (Names (groups_of run))
waits_name run = record {
  wait = λ request. record { comm_is = refl; peers_are = refl };
  waitall = λ requests. record { comm_is = refl; peers_are = refl };
  waitany = λ place requests. record { comm_is = refl; peers_are = refl };
}

list_names : (run : Run) (choice : Choice) (entries : List Placed) (progress : Progress) → AllCalls (Names (groups_of run)) (calls_in progress) → AllCalls (Names (groups_of run)) (map (λ one. one.call) (list_from run choice progress entries).records)
list_names run choice [] progress all = all
list_names run choice (placed ∷ others) progress all =
    on_outcome (Names (groups_of run)) progress placed.line (outcome_in run choice progress.records placed) (λ new. list_from run choice new others) (waits_name run)
    (outcome_in_names run choice progress.records placed) all (λ new every. list_names run choice others new every)

-- ---- The preface ----

names_either : (groups : Groups) (b : Bool) (first other : Call) → Names groups first → Names groups other → Names groups (if b then first else other)
names_either groups true first other is_first is_other = is_first
names_either groups false first other is_first is_other = is_other

split_names : (run : Run) (rank colour : ℕ) (keys : List Key) → Names (groups_of run) (preface_split run rank colour keys)
split_names run rank colour [] = record { comm_is = refl; peers_are = refl }
split_names run rank colour (key ∷ keys) =
    names_either (groups_of run) (has_member (length run) rank key) (Split 0 (Some colour) (rank_in run rank key) (number_of run key))
    (preface_split run rank (colour + 1) keys) (record { comm_is = refl; peers_are = refl }) (split_names run rank (colour + 1) keys)

splits_name : (run : Run) (rank : ℕ) (lines : List (List Key)) → AllCalls (Names (groups_of run)) (map (preface_split run rank 0) lines)
splits_name run rank [] = tt
splits_name run rank (line ∷ lines) = (split_names run rank 0 line, splits_name run rank lines)

-- ---- Lists ----

abbrev AllNames : Run → Listed → Type 0
AllNames run it = AllCalls (Names (groups_of run)) (map (λ one. one.call) it.records) × Names (groups_of run) it.end

whole_names : (run : Run) (choice : Choice) (rank : ℕ) → AllCalls (Names (groups_of run)) (map (λ one. one.call) (whole_list run choice rank).records)
whole_names run choice rank =
    list_names run choice (entries_at run rank) (progress_first run rank)
    (subst (λ (calls : List Call). AllCalls (Names (groups_of run)) calls) (sym (plain_calls 0 (preface_of run rank))) (splits_name run rank (preface_lines run)))

either : (P : Listed → Type 0) (b : Bool) (first other : Listed) → P first → P other → P (if b then first else other)
either P true first other is_first is_other = is_first
either P false first other is_first is_other = is_other

cut_passes : (P : Call → Type 0) (it : Listed) → AllCalls P (map (λ one. one.call) it.records) → AllCalls P (map (λ one. one.call) (cut it).records)
cut_passes P it all =
    either (λ (list : Listed). AllCalls P (map (λ one. one.call) list.records)) (nat_lt (length it.records) most_records) it
    (record { records = take (most_records - 1) it.records; end = Open; line = line_of (slice_get it.records (most_records - 1)); why = Some TooLong; active = it.active })
    all
    (subst (λ (calls : List Call). AllCalls P calls) (take-map (λ (one : Written). one.call) (most_records - 1) it.records)
    (calls_take P (most_records - 1) (map (λ one. one.call) it.records) all))

without_passes : (P : Call → Type 0) (b : Bool) (it : Listed) → AllCalls P (map (λ one. one.call) it.records) → AllCalls P (map (λ one. one.call) (without_journal b it).records)
without_passes P true it all = all
without_passes P false it all = all

ends_names : (groups : Groups) (call : Call) → ends_list call ≡ true → Names groups call
ends_names groups Finalize h = record { comm_is = refl; peers_are = refl }
ends_names groups Open h = record { comm_is = refl; peers_are = refl }
ends_names groups _ h = absurd (false≢true h)

pub names_of_list : (run : Run) (choice : Choice) (rank : ℕ) → AllCalls (Names (groups_of run)) (calls_of (list_of run choice rank))
names_of_list run choice rank =
    let whole = whole_list run choice rank in
    calls_append (Names (groups_of run)) (map (λ one. one.call) (list_of run choice rank).records) ((list_of run choice rank).end ∷ [])
    (without_passes (Names (groups_of run)) (is_none (journal_at run rank)) (cut whole)
    (cut_passes (Names (groups_of run)) whole (whole_names run choice rank)))
    (ends_names (groups_of run) (list_of run choice rank).end (list_of_fits run choice rank).1, tt)

-- ---- By place ----

pub call_passes : (P : Call → Type 0) (calls : List Call) (place : ℕ) (call : Call) → AllCalls P calls → slice_get calls place ≡ Some call → P call
call_passes P [] place call all h = absurd (none-some call h)
call_passes P (one ∷ calls) zero call all h = subst P (same_Some one call h) all.0
call_passes P (one ∷ calls) (suc place) call all h = call_passes P calls place call all.1 h
