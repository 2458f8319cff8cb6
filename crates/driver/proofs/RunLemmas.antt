-- What the ranks' answers say of a run over the traces that their sources tell.
use Rattle.moves.specs.declared.reading.Reading.{Reading}
use Rattle.std.proofs.Common.{◌≡◌, ◌↔◌, ℕ, Bool, ◌+◌, ◌<◌, List, [], ◌∷◌, length, map, sym, ap, ◌∙◌, refl, arith, zero, suc, Option, Some, None, IfSome, slice_get, subst, option_and_then, Result, Ok, Err, IfOk, IfErr, OnOk}
use Rattle.mpicall.specs.Trace.{Trace}
use Rattle.mpicall.specs.Source.{coming}
use Rattle.mpicall.specs.declared.call.Call.{Call}
use Rattle.mpicall.specs.declared.source.Source.{Source}
use Rattle.mpigroup.specs.Groups.{Groups, ranks_of}
use Rattle.callstore.specs.Recordings.{Lists, calls_of, IsClosed}
use Rattle.std.proofs.lemmas.Bool.{not-true, not_from_false}
use Rattle.std.proofs.lemmas.Option.{slice_get_within}
use Rattle.moves.specs.Stands.{lowest_run_over, stands_of, is_at_end}
use Rattle.waitgraph.specs.Graphs.{GraphView, IsGraphOf}
use Rattle.waitgraph.specs.Verdicts.{IsVerdictOf, SomeRankIsStuck, verdict_by}
use Rattle.std.specs.Io.KnownBytes.{Appends}
use Rattle.waitgraph.specs.declared.verdict.Verdict.{Verdict}
use Rattle.waitgraph.proofs.VerdictLemmas.{hang_tells_of_a_stuck_rank, one_verdict, verdict_of_graph}
use Rattle.moves.proofs.StandLemmas.{no_run_brings_a_stuck_rank_to_its_end, every_maximal_run_ends_at_the_stands}
use Rattle.gather.specs.Outcomes.{fault_of_rank, refusal_or, refusal_from, refusal_of, recording_of_traces, SomeRankCannotEnd}
use Rattle.driver.specs.VerdictContract.{Tells, IsVerdictOver, RefusesOver}
use Rattle.driver.specs.inner.Ranks.{told_by, AcceptsAll, AcceptsRank, LeavesRunReport, NotReported, Reported, RefusesRun, IsPlacedIn, IsRefusalOf}
use Rattle.driver.proofs.HeldLemmas.{found_at, lowest_refusal}
use Rattle.driver.proofs.ToldLemmas.{read_of_told, to_come_is_read}
use Rattle.driver.specs.Runs.{RefusesFeeds, StopsWhereAllowed}
use Rattle.driver.specs.inner.Runs.{of_close}
use Rattle.gather.specs.declared.outcome.CloseFault.{CloseFault}
use Rattle.gather.specs.declared.outcome.CloseFault.TheVariants as close
use Rattle.driver.specs.OutputContract.{IsReportOver, LeavesOutput, WritesReport}
use Rattle.report.specs.Reports.{IsReport, report_of}
use Rattle.report.specs.declared.write.Format.{Format}
use Rattle.gather.specs.declared.fault.Refusal.{Refusal}
use Rattle.gather.specs.declared.fault.RunFault.{RunFault}
use Rattle.gather.specs.declared.fault.RunFault.TheVariants.{Memory, Unproved, Refused, Write}

-- what is told of each place of a list
told_at : {A B : Type 0} (f : A → Option B) (xs : List A) (ys : List B) (place : ℕ) → map f xs ≡ map Some ys → option_and_then f (slice_get xs place) ≡ slice_get ys place
told_at f [] [] place e = refl
told_at f (x ∷ xs) (y ∷ ys) (suc place) e = told_at f xs ys place cc
told_at f xs ys place e = cc

same_length : {A B : Type 0} (f : A → Option B) (xs : List A) (ys : List B) → map f xs ≡ map Some ys → length xs ≡ length ys
same_length f [] [] e = refl
same_length f (x ∷ xs) (y ∷ ys) e = ap suc (same_length f xs ys cc)
same_length f xs ys e = cc

-- no rank of some traces has a fault
none_from : (groups : Groups) (first : ℕ) (traces : List Trace) → ((k : ℕ) (trace : Trace) → slice_get traces k ≡ Some trace → fault_of_rank groups (first + k) trace ≡ None) → refusal_from groups first traces ≡ None
none_from groups first [] none = refl
none_from groups first (trace ∷ traces) none =
    let here : fault_of_rank groups first trace ≡ None = let e : first + 0 ≡ first = omega arith in subst (λ (n : ℕ). fault_of_rank groups n trace ≡ None) e (none 0 trace refl) in
    let behind : refusal_from groups (first + 1) traces ≡ None =
    none_from groups (first + 1) traces (λ k t at. let e : first + suc k ≡ first + 1 + k = omega arith in subst (λ (n : ℕ). fault_of_rank groups n t ≡ None) e (none (suc k) t at)) in
    ap (λ f. refusal_or first f (refusal_from groups (first + 1) traces)) here ∙ behind

-- the refusal, at this rank
abbrev refusal_at : ℕ → Refusal → Option Refusal
refusal_at rank refusal = Some (record { rank = rank; call = refusal.call; fault = refusal.fault })

-- the lowest rank with a fault is the one that is told
told_from : (groups : Groups) (first : ℕ) (traces : List Trace) (place : ℕ) (trace : Trace) (refusal : Refusal) → first + place ≡ refusal.rank → slice_get traces place ≡ Some trace → ((k : ℕ) (t : Trace) → k < place → slice_get traces k ≡ Some t → fault_of_rank groups (first + k) t ≡ None) → fault_of_rank groups refusal.rank trace ≡ Some (refusal.call, refusal.fault) → refusal_from groups first traces ≡ Some refusal
told_from groups first [] zero trace refusal e at none is = cc
told_from groups first [] (suc place) trace refusal e at none is = cc
told_from groups first (t ∷ traces) zero trace refusal e at none is =
    let rank : refusal.rank ≡ first = omega arith in
    let here : t ≡ trace = cc in
    let fault : fault_of_rank groups first t ≡ Some (refusal.call, refusal.fault) =
    ap (fault_of_rank groups first) here ∙ subst (λ (n : ℕ). fault_of_rank groups n trace ≡ Some (refusal.call, refusal.fault)) rank is in
    ap (λ f. refusal_or first f (refusal_from groups (first + 1) traces)) fault ∙ ap (λ (n : ℕ). refusal_at n refusal) (sym rank)
told_from groups first (t ∷ traces) (suc place) trace refusal e at none is =
    let here : fault_of_rank groups first t ≡ None = let e0 : first + 0 ≡ first = omega arith in subst (λ (n : ℕ). fault_of_rank groups n t ≡ None) e0 (none 0 t (omega arith) refl) in
    let behind : refusal_from groups (first + 1) traces ≡ Some refusal =
    told_from groups (first + 1) traces place trace refusal (omega arith) at
    (λ k s below found. let e1 : first + suc k ≡ first + 1 + k = omega arith in subst (λ (n : ℕ). fault_of_rank groups n s ≡ None) e1 (none (suc k) s (omega arith) found)) is in
    ap (λ f. refusal_or first f (refusal_from groups (first + 1) traces)) here ∙ behind

-- lists that have each trace's records are those of the traces
same_lists : (lists : Lists) (traces : List Trace) → length lists ≡ length traces → ((k : ℕ) (trace : Trace) → slice_get traces k ≡ Some trace → calls_of lists k ≡ trace.records) → lists ≡ recording_of_traces traces
same_lists [] [] e same = refl
same_lists (l ∷ lists) (t ∷ traces) e same =
    let here : l ≡ t.records = same 0 t refl in
    let behind : lists ≡ recording_of_traces traces = same_lists lists traces (omega arith) (λ k s at. same (suc k) s at) in
    cc
same_lists lists traces e same = cc

-- a rank that is stuck comes to its end in no run, and one that does so in none is stuck
cannot_end : (reading : Reading) (groups : Groups) (lists : Lists) → SomeRankIsStuck reading groups lists ↔ SomeRankCannotEnd reading groups lists
cannot_end reading groups lists = (
  λ stuck. record {
    rank = stuck.rank;
    is_rank = stuck.is_rank;
    in_no_run = λ states is_run.
        no_run_brings_a_stuck_rank_to_its_end reading groups lists stuck.rank states is_run
        (not-true (is_at_end lists (stands_of reading groups lists) stuck.rank) stuck.stays);
  },
  λ cannot. record {
    rank = cannot.rank;
    is_rank = cannot.is_rank;
    stays = not_from_false (is_at_end lists (stands_of reading groups lists) cannot.rank)
        (cannot.in_no_run (lowest_run_over reading groups lists) (every_maximal_run_ends_at_the_stands reading groups lists).0.is_run);
  },
)

accepted_at : (groups : Groups) (rank : ℕ) (told : Option Trace) (trace : Trace) (calls : List Call) → AcceptsRank groups rank told calls → told ≡ Some trace → (calls ≡ trace.records) × (fault_of_rank groups rank trace ≡ None)
accepted_at groups rank None trace calls a e = cc
accepted_at groups rank (Some t) trace calls a e = let same : t ≡ trace = cc in subst (λ (s : Trace). (calls ≡ s.records) × (fault_of_rank groups rank s ≡ None)) same a

each_accepted : {I : Type 0} (left : I → Option (List ℕ)) (groups : Groups) (sources : List (Source I)) (lists : Lists) (traces : List Trace) → length sources ≡ ranks_of groups → AcceptsAll groups (told_by left sources) lists → Tells left sources traces → (k : ℕ) (trace : Trace) → slice_get traces k ≡ Some trace → (calls_of lists k ≡ trace.records) × (fault_of_rank groups k trace ≡ None)
each_accepted left groups sources lists traces one all tells k trace at =
    let count : length sources ≡ length traces = same_length (coming left) sources traces (read_of_told left sources traces tells) in
    let ranks = all.one_a_rank in
    accepted_at groups k _ trace _ (all.accepted k (omega (arith, slice_get_within traces k trace at))) (told_at (coming left) sources traces k (read_of_told left sources traces tells) ∙ at)

-- the recording is that of the traces
lists_are : {I : Type 0} (left : I → Option (List ℕ)) (groups : Groups) (sources : List (Source I)) (lists : Lists) (traces : List Trace) → length sources ≡ ranks_of groups → AcceptsAll groups (told_by left sources) lists → Tells left sources traces → lists ≡ recording_of_traces traces
lists_are left groups sources lists traces one all tells =
    let count : length sources ≡ length traces = same_length (coming left) sources traces (read_of_told left sources traces tells) in
    let ranks = all.one_a_rank in
    same_lists lists traces (omega arith) (λ k trace at. (each_accepted left groups sources lists traces one all tells k trace at).0)

accepted_over : {I : Type 0} (left : I → Option (List ℕ)) (groups : Groups) (sources : List (Source I)) (lists : Lists) (traces : List Trace) → length sources ≡ ranks_of groups → AcceptsAll groups (told_by left sources) lists → Tells left sources traces → refusal_of groups traces ≡ None
accepted_over left groups sources lists traces one all tells =
    let each = each_accepted left groups sources lists traces one all tells in
    none_from groups 0 traces (λ k trace at. let e : k ≡ 0 + k = omega arith in subst (λ (n : ℕ). fault_of_rank groups n trace ≡ None) e (each k trace at).1)

verdict_over : {I : Type 0} (left : I → Option (List ℕ)) (reading : Reading) (groups : Groups) (sources : List (Source I)) (lists : Lists) (verdict : Verdict) (traces : List Trace) → length sources ≡ ranks_of groups → AcceptsAll groups (told_by left sources) lists → IsVerdictOf reading groups lists verdict → Tells left sources traces → IsVerdictOver reading groups traces verdict
verdict_over left reading groups sources lists verdict traces one all value tells =
    let same : lists ≡ recording_of_traces traces = lists_are left groups sources lists traces one all tells in
    let of_traces : IsVerdictOf reading groups (recording_of_traces traces) verdict = subst (λ (ls : Lists). IsVerdictOf reading groups ls verdict) same value in
    let cannot = cannot_end reading groups (recording_of_traces traces) in
    record {
      value = of_traces;
      stands = (every_maximal_run_ends_at_the_stands reading groups (recording_of_traces traces)).1;
      closed = λ none.
          let stuck = hang_tells_of_a_stuck_rank reading groups (recording_of_traces traces) verdict (subst IsClosed same all.closed) none of_traces in
          (λ is. cannot.0 (stuck.0 is), λ in_no_run. stuck.1 (cannot.1 in_no_run));
    }

-- the report of the recording is that of the run
pub report_over : {I : Type 0} (left : I → Option (List ℕ)) (reading : Reading) (groups : Groups) (sources : List (Source I)) (lists : Lists) (format : Format) (verdict : Verdict) (report : List ℕ) → length sources ≡ ranks_of groups → AcceptsAll groups (told_by left sources) lists → IsReport format reading groups lists verdict report → IsReportOver left sources reading groups format verdict report
report_over left reading groups sources lists format verdict report one all is_report = record {
  recording = lists;
  one_a_rank = all.one_a_rank;
  closed = all.closed;
  accepted = λ rank source trace at is. accepted_at groups rank (told_by left sources rank) trace (calls_of lists rank)
      (let within = slice_get_within sources rank source at in all.accepted rank (omega (arith, within, one, all.one_a_rank)))
      (ap (option_and_then (coming left)) at ∙ to_come_is_read left source trace is);
  of_traces = λ traces tells. lists_are left groups sources lists traces one all tells;
  is_report = is_report;
}

no_fault_at : (groups : Groups) (rank : ℕ) (told : Option Trace) (trace : Trace) → IfSome told (λ t. fault_of_rank groups rank t ≡ None) → told ≡ Some trace → fault_of_rank groups rank trace ≡ None
no_fault_at groups rank None trace h e = cc
no_fault_at groups rank (Some t) trace h e = let same : t ≡ trace = cc in subst (λ (s : Trace). fault_of_rank groups rank s ≡ None) same h

refusal_told : (groups : Groups) (refusal : Refusal) (told : Option Trace) (trace : Trace) → IfSome told (λ t. IsRefusalOf groups refusal.rank t refusal) → told ≡ Some trace → IsRefusalOf groups refusal.rank trace refusal
refusal_told groups refusal None trace h e = cc
refusal_told groups refusal (Some t) trace h e = let same : t ≡ trace = cc in subst (λ (s : Trace). IsRefusalOf groups refusal.rank s refusal) same h

placed_at : (refusal : Refusal) (told : Option Trace) (trace : Trace) → IfSome told (λ t. IsPlacedIn t refusal) → told ≡ Some trace → IsPlacedIn trace refusal
placed_at refusal None trace h e = cc
placed_at refusal (Some t) trace h e = let same : t ≡ trace = cc in subst (λ (s : Trace). IsPlacedIn s refusal) same h

pub refused_over : {I : Type 0} (left : I → Option (List ℕ)) (groups : Groups) (sources : List (Source I)) (fault : RunFault) (traces : List Trace) → length sources ≡ ranks_of groups → RefusesRun groups (told_by left sources) fault → Tells left sources traces → RefusesOver groups traces fault
refused_over left groups sources (Refused refusal) traces one refuses tells =
    let count : length sources ≡ length traces = same_length (coming left) sources traces (read_of_told left sources traces tells) in
    let within : refusal.rank < length traces = omega (arith, refuses.is_rank) in
    let there = found_at traces refusal.rank within in
    let lower : (k : ℕ) (trace : Trace) → k < refusal.rank → slice_get traces k ≡ Some trace → fault_of_rank groups k trace ≡ None =
    λ k trace below at. no_fault_at groups k _ trace (refuses.lowest k below) (told_at (coming left) sources traces k (read_of_told left sources traces tells) ∙ at) in
    record {
      is_rank = within;
      lowest = lower;
      its_own = λ own. told_from groups 0 traces refusal.rank there.0 refusal (omega arith) there.1
          (λ k trace below at. let e : k ≡ 0 + k = omega arith in subst (λ (n : ℕ). fault_of_rank groups n trace ≡ None) e (lower k trace below at))
          (refusal_told groups refusal _ there.0 refuses.its_own (told_at (coming left) sources traces refusal.rank (read_of_told left sources traces tells) ∙ there.1) own);
      place = λ trace at outside. placed_at refusal _ trace refuses.place (told_at (coming left) sources traces refusal.rank (read_of_told left sources traces tells) ∙ at) outside;
    }
refused_over left groups sources fault traces one refuses tells = tt

-- a run that has an answer has no fault
pub run_accepted : {I : Type 0} (left : I → Option (List ℕ)) (groups : Groups) (sources : List (Source I)) (lists : Lists) (answer : Result Verdict RunFault) → length sources ≡ ranks_of groups → AcceptsAll groups (told_by left sources) lists → OnOk answer ((traces : List Trace) → Tells left sources traces → refusal_of groups traces ≡ None)
run_accepted left groups sources lists (Err fault) one all = tt
run_accepted left groups sources lists (Ok verdict) one all = λ traces tells. accepted_over left groups sources lists traces one all tells

-- the answer of a report is that of the run
pub run_verdict : {I O : Type 0} (left : I → Option (List ℕ)) (written : O → Option (List ℕ)) (reading known : Reading) (groups told : Groups) (sources : List (Source I)) (lists : Lists) (format : Format) (old new : O) (answer : Result Verdict RunFault) → length sources ≡ ranks_of groups → known ≡ reading → told ≡ groups → AcceptsAll groups (told_by left sources) lists → IfOk answer (Reported written old new format known told lists) → IfOk answer (λ verdict. (traces : List Trace) → Tells left sources traces → IsVerdictOver reading groups traces verdict)
run_verdict left written reading known groups told sources lists format old new (Err fault) one alike same all reported = tt
run_verdict left written reading known groups told sources lists format old new (Ok verdict) one alike same all reported = λ traces tells.
    let of_run : IsVerdictOf reading groups lists verdict =
    subst (λ (gs : Groups). IsVerdictOf reading gs lists verdict) same (subst (λ (r : Reading). IsVerdictOf r told lists verdict) alike reported.1.is_verdict) in
    verdict_over left reading groups sources lists verdict traces one all of_run tells

pub run_written : {I O : Type 0} (left : I → Option (List ℕ)) (written : O → Option (List ℕ)) (failures : O → ℕ) (reading known : Reading) (groups told : Groups) (sources : List (Source I)) (lists : Lists) (format : Format) (old new : O) (answer : Result Verdict RunFault) → length sources ≡ ranks_of groups → known ≡ reading → told ≡ groups → AcceptsAll groups (told_by left sources) lists → IfOk answer (Reported written old new format known told lists) → IfOk answer (WritesReport left written failures sources reading groups format old new)
run_written left written failures reading known groups told sources lists format old new (Err fault) one alike same all reported = tt
run_written left written failures reading known groups told sources lists format old new (Ok verdict) one alike same all reported =
    let of_run : Reported written old new format reading groups lists verdict =
    subst (λ (gs : Groups). Reported written old new format reading gs lists verdict) same (subst (λ (r : Reading). Reported written old new format r told lists verdict) alike reported) in
    (of_run.0, report_over left reading groups sources lists format verdict of_run.0 one all of_run.1, of_run.2)

pub run_output : {I O : Type 0} (left : I → Option (List ℕ)) (written : O → Option (List ℕ)) (failures : O → ℕ) (reading known : Reading) (groups told : Groups) (sources : List (Source I)) (lists : Lists) (format : Format) (old new : O) (answer : Result Verdict RunFault) → length sources ≡ ranks_of groups → known ≡ reading → told ≡ groups → AcceptsAll groups (told_by left sources) lists → IfErr answer (NotReported written failures old new format known told lists) → IfErr answer (LeavesOutput left written failures sources reading groups format old new)
run_output left written failures reading known groups told sources lists format old new (Ok verdict) one alike same all leaves = tt
run_output left written failures reading known groups told sources lists format old new (Err Memory) one alike same all leaves = leaves.3
run_output left written failures reading known groups told sources lists format old new (Err (Unproved rank)) one alike same all leaves = absurd leaves.3
run_output left written failures reading known groups told sources lists format old new (Err (Refused refusal)) one alike same all leaves = absurd leaves.3
run_output left written failures reading known groups told sources lists format old new (Err Write) one alike same all leaves =
    let of_run : IsReport format reading groups lists leaves.0 leaves.1 =
    subst (λ (gs : Groups). IsReport format reading gs lists leaves.0 leaves.1) same (subst (λ (r : Reading). IsReport format r told lists leaves.0 leaves.1) alike leaves.2) in
    ((leaves.0, leaves.1, report_over left reading groups sources lists format leaves.0 leaves.1 one all of_run, leaves.3.0), leaves.3.1)

-- a report that fails refuses no rank
pub report_refuses : {O : Type 0} (written : O → Option (List ℕ)) (failures : O → ℕ) (old new : O) (format : Format) (reading : Reading) (known : Groups) (lists : Lists) (groups : Groups) (traces : List Trace) (fault : RunFault) → NotReported written failures old new format reading known lists fault → RefusesOver groups traces fault
report_refuses written failures old new format reading known lists groups traces (Unproved rank) leaves = absurd leaves.3
report_refuses written failures old new format reading known lists groups traces (Refused refusal) leaves = absurd leaves.3
report_refuses written failures old new format reading known lists groups traces fault leaves = tt

-- a report that fails is no refusal of the ranks' feeds
pub report_feeds : {O I : Type 0} (written : O → Option (List ℕ)) (failures : O → ℕ) (old new : O) (format : Format) (reading : Reading) (known : Groups) (lists : Lists) (left : I → Option (List ℕ)) (may_answer : ℕ → ℕ → Bool → Type 0) (sources : List (Source I)) (groups : Groups) (answer : Result Verdict RunFault) → IfErr answer (NotReported written failures old new format reading known lists) → IfErr answer (RefusesFeeds left may_answer sources groups)
report_feeds written failures old new format reading known lists left may_answer sources groups (Err (Unproved rank)) leaves = absurd leaves.3
report_feeds written failures old new format reading known lists left may_answer sources groups (Err (Refused refusal)) leaves = absurd leaves.3
report_feeds written failures old new format reading known lists left may_answer sources groups answer leaves = tt

pub report_stops : {O : Type 0} (written : O → Option (List ℕ)) (failures : O → ℕ) (old new : O) (format : Format) (reading : Reading) (known : Groups) (lists : Lists) (may_answer : ℕ → ℕ → Bool → Type 0) (answer : Result Verdict RunFault) → IfErr answer (NotReported written failures old new format reading known lists) → IfErr answer (StopsWhereAllowed may_answer)
report_stops written failures old new format reading known lists may_answer (Err (Unproved rank)) leaves = absurd leaves.3
report_stops written failures old new format reading known lists may_answer (Err (Refused refusal)) leaves = absurd leaves.3
report_stops written failures old new format reading known lists may_answer answer leaves = tt

-- a refusal of the ranks' feeds is one over the traces that their sources tell
feeds_refuse : {I : Type 0} (left : I → Option (List ℕ)) (may_answer : ℕ → ℕ → Bool → Type 0) (groups : Groups) (sources : List (Source I)) (fault : CloseFault) → length sources ≡ ranks_of groups → RefusesFeeds left may_answer sources groups (of_close fault) → RefusesRun groups (told_by left sources) (of_close fault)
feeds_refuse left may_answer groups sources close.Memory one refuses = tt
feeds_refuse left may_answer groups sources (close.Unproved rank) one refuses = tt
feeds_refuse left may_answer groups sources (close.Refused refusal) one refuses = lowest_refusal left may_answer sources groups refusal one refuses

pub close_refuses : {I : Type 0} (left : I → Option (List ℕ)) (may_answer : ℕ → ℕ → Bool → Type 0) (groups : Groups) (sources : List (Source I)) (fault : CloseFault) (told : RunFault) → told ≡ of_close fault → length sources ≡ ranks_of groups → RefusesFeeds left may_answer sources groups (of_close fault) → (traces : List Trace) → Tells left sources traces → RefusesOver groups traces told
close_refuses left may_answer groups sources fault told is one refuses traces tells =
    rw is (refused_over left groups sources (of_close fault) traces one (feeds_refuse left may_answer groups sources fault one refuses) tells)

close_leaves : {I O : Type 0} (left : I → Option (List ℕ)) (written : O → Option (List ℕ)) (failures : O → ℕ) (reading : Reading) (groups : Groups) (sources : List (Source I)) (format : Format) (out : O) (fault : CloseFault) → LeavesOutput left written failures sources reading groups format out out (of_close fault)
close_leaves left written failures reading groups sources format out close.Memory = refl
close_leaves left written failures reading groups sources format out (close.Unproved rank) = refl
close_leaves left written failures reading groups sources format out (close.Refused refusal) = refl

pub close_output : {I O : Type 0} (left : I → Option (List ℕ)) (written : O → Option (List ℕ)) (failures : O → ℕ) (reading : Reading) (groups : Groups) (sources : List (Source I)) (format : Format) (out : O) (fault : CloseFault) (told : RunFault) → told ≡ of_close fault → LeavesOutput left written failures sources reading groups format out out told
close_output left written failures reading groups sources format out fault told is = rw is (close_leaves left written failures reading groups sources format out fault)

-- a report by the wait graph of a recording is the one of the recording
pub graph_reported : {O : Type 0} (written : O → Option (List ℕ)) (old new : O) (format : Format) (reading : Reading) (groups : Groups) (lists : Lists) (graph : GraphView) (verdict : Verdict) → IsGraphOf reading groups lists graph → IsVerdictOf reading groups lists verdict → Appends (written old) (written new) (report_of format reading groups lists (verdict_by graph.held graph.left_open) graph.causes) → Reported written old new format reading groups lists verdict
graph_reported written old new format reading groups lists graph verdict is value appends = (
  report_of format reading groups lists verdict graph.causes,
  record { is_verdict = value; causes = graph.causes; are_causes = is.causes; is_text = refl },
  subst (λ (v : Verdict). Appends (written old) (written new) (report_of format reading groups lists v graph.causes))
      (one_verdict reading groups lists (verdict_by graph.held graph.left_open) verdict (verdict_of_graph reading groups lists graph is) value) appends,
)

pub graph_not_reported : {O : Type 0} (written : O → Option (List ℕ)) (failures : O → ℕ) (old new : O) (format : Format) (reading : Reading) (groups : Groups) (lists : Lists) (graph : GraphView) (fault : RunFault) → IsGraphOf reading groups lists graph → LeavesRunReport written failures old new (report_of format reading groups lists (verdict_by graph.held graph.left_open) graph.causes) fault → NotReported written failures old new format reading groups lists fault
graph_not_reported written failures old new format reading groups lists graph fault is leaves = (
  verdict_by graph.held graph.left_open,
  report_of format reading groups lists (verdict_by graph.held graph.left_open) graph.causes,
  record { is_verdict = verdict_of_graph reading groups lists graph is; causes = graph.causes; are_causes = is.causes; is_text = refl },
  leaves,
)
