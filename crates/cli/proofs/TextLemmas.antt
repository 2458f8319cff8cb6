-- How the answers over a check's sources follow for the texts of its files.
use Rattle.cli.specs.declared.options.Options.{Options}
use Rattle.moves.specs.declared.reading.Reading.{Reading}
use Rattle.report.specs.declared.write.Format.{Format}
use Rattle.cli.specs.inner.Outputs.{LeavesAtFault}
use Rattle.std.proofs.Common.{◌≡◌, ◌<◌, ℕ, length, Option, Some, None, List, [], ◌∷◌, map, option_map, ap, ◌∙◌, sym, refl, subst, arith, Result, Ok, Err, IfSome, take, Bool, true, false, if◌then◌else◌, Bor}
use Rattle.mpicall.specs.Trace.{Trace, trace_of}
use Rattle.mpicall.specs.declared.source.Source.{Source}
use Rattle.waitgraph.specs.declared.verdict.Verdict.{Verdict}
use Rattle.mpigroup.proofs.FrontLemmas.{read_head-front}
use Rattle.mpigroup.specs.Groups.{Groups}
use Rattle.mpigroup.specs.HeadText.{read_head}
use Rattle.mpigroup.specs.declared.fault.HeadFault.{HeadFault}
use Rattle.driver.specs.Runs.{RefusesFeeds, StopsWhereAllowed}
use Rattle.driver.specs.VerdictContract.{RefusesOver, Tells, is_from_outside}
use Rattle.driver.specs.OutputContract.{IsReportOver, LeavesOutput}
use Rattle.driver.proofs.HeldLemmas.{lowest_refusal}
use Rattle.gather.specs.declared.fault.Refusal.{Refusal}
use Rattle.gather.specs.declared.fault.RunFault.{RunFault}
use Rattle.gather.specs.declared.fault.RunFault.TheVariants as run
use Rattle.cli.specs.Faults.{of_run}
use Rattle.mpicall.specs.Source.{coming}
use Rattle.driver.proofs.ToldLemmas.{told_of_read}
use Rattle.cli.proofs.TraceLemmas.{traces_read}
use Rattle.cli.specs.Openings.{Fate}
use Rattle.cli.specs.Texts.{AreTracesOf, IsCounted, IsFaultOfCheck, IsHeadOf, IsRefusalOfRun, IsReportOf}
use Rattle.cli.specs.inner.Texts.{IsFaultOfFront, IsFaultOfHead}
use Rattle.cli.specs.declared.fault.Fault.{Fault}
use Rattle.cli.specs.declared.fault.Fault.TheVariants.{Head, Refused, Failed, Memory}
use Rattle.cli.specs.inner.Front.{IsFrontOf, deciding_bytes}

abbrev Text : Type 0
Text = List ℕ

of_told : {F : Type 0} (told : F → Option Text) (files : List F) → map (λ file. option_map trace_of (told file)) files ≡ map (option_map trace_of) (map told files)
of_told told [] = refl
of_told told (file ∷ files) = ap (λ traces. option_map trace_of (told file) ∷ traces) (of_told told files)

of_some : (texts : List Text) → map (option_map trace_of) (map Some texts) ≡ map Some (map trace_of texts)
of_some [] = refl
of_some (text ∷ texts) = ap (λ traces. Some (trace_of text) ∷ traces) (of_some texts)

-- sources that tell the traces of the files' texts
pub tells_texts : {F I : Type 0} (left : I → Option Text) (sources : List (Source I)) (told : F → Option Text) (files : List F) (texts : List Text) (traces : List Trace) →
    map (coming left) sources ≡ map (λ file. option_map trace_of (told file)) files → map told files ≡ map Some texts → AreTracesOf texts traces → Tells left sources traces
tells_texts left sources told files texts traces of_files are hold =
    told_of_read left sources traces (of_files ∙ of_told told files ∙ ap (map (option_map trace_of)) are ∙ of_some texts ∙ ap (map Some) (sym (traces_read texts traces hold)))

-- the head of a told text
pub head_of_told : (told : Option Text) (text : Text) (groups : Groups) → IsHeadOf told groups → told ≡ Some text → read_head text ≡ Ok groups
head_of_told None text groups of_told is = cc
head_of_told (Some other) text groups of_told is = subst (λ (known : Option Text). IsHeadOf known groups) is of_told

-- the report over sources that tell the traces of the files' texts is that of the texts
pub report_says : {I : Type 0} (left : I → Option Text) (sources : List (Source I)) (options : Options) (groups : Groups) (verdict : Verdict) (report : Text) (head : Option Text) (files : List (Option Text)) →
    IsHeadOf head groups → ((texts : List Text) (traces : List Trace) → files ≡ map Some texts → AreTracesOf texts traces → Tells left sources traces) → IsReportOver left sources options.reading groups options.format verdict report → IsReportOf options head files verdict report
report_says left sources options groups verdict report head files of_head tells over = record {
  groups = groups;
  recording = over.recording;
  one_a_rank = over.one_a_rank;
  closed = over.closed;
  of_texts = λ text texts head_is files_are. record {
    is_head = head_of_told head text groups of_head head_is;
    is_recording = λ traces hold. over.of_traces traces (tells texts traces files_are hold);
  };
  is_report = over.is_report;
}

-- the text of a head says what its front says
pub head_says : (told left : Option Text) (front : Text) (answer : Result Groups HeadFault) → left ≡ told → IsFrontOf left front → read_head front ≡ answer → IfSome told (λ text. read_head text ≡ answer)
head_says None left front answer is of_left says = tt
head_says (Some text) left front answer is of_left says =
    let of_text = subst (λ (known : Option Text). IsFrontOf known front) is of_left in
    let decided : read_head (take deciding_bytes text) ≡ read_head text = read_head-front text deciding_bytes (omega arith) in
    sym decided ∙ sym (ap read_head of_text) ∙ says

pub fault_says : (fate : Text → Fate → Type 0) (told : Text → Option Text) (path : Text) (left : Option Text) (front : Text) (fault : Fault) → left ≡ told path → IsFrontOf left front → IsFaultOfFront front fault → IsFaultOfHead fate told path fault
fault_says fate told path left front (Head fault) is of_left says = head_says (told path) left front (Err fault) is of_left says
fault_says fate told path left front Memory is of_left says = tt
fault_says fate told path left front fault is_left of_left says = absurd says

-- the faults of a check, by its steps
module _ (fate : Text → Fate → Type 0) (told : Text → Option Text) (head : Text) (files : List (Bor Text)) where
  by_failure : (refusal : Refusal) (fails : Bool) → IsRefusalOfRun told head files refusal → is_from_outside refusal.fault ≡ fails → IsFaultOfCheck fate told head files (if fails then Failed refusal else Refused refusal)
  by_failure refusal true of_run is = (of_run, is)
  by_failure refusal false of_run is = (of_run, is)

  -- the fault of a run over the files' sources
  pub run_fault_says : {I : Type 0} (left : I → Option Text) (may_answer : ℕ → ℕ → Bool → Type 0) (sources : List (Source I)) (groups : Groups) (fault : RunFault) →
      length sources ≡ length files → IsCounted told head files groups → RefusesFeeds left may_answer sources groups fault → StopsWhereAllowed may_answer fault → ((rank line : ℕ) → may_answer rank line false → ⊥) → ((texts : List Text) → map (λ file. told file.now) files ≡ map Some texts → (traces : List Trace) → AreTracesOf texts traces → RefusesOver groups traces fault) → IsFaultOfCheck fate told head files (of_run fault)
  run_fault_says left may_answer sources groups run.Memory count counted fed stops never refuses = tt
  run_fault_says left may_answer sources groups (run.Unproved rank) count counted fed stops never refuses = (subst (λ n. rank < n) (sym counted.one_a_rank) fed, (groups, counted))
  run_fault_says left may_answer sources groups run.Write count counted fed stops never refuses = tt
  run_fault_says left may_answer sources groups (run.Refused refusal) count counted fed stops never refuses =
      let lowest = lowest_refusal left may_answer sources groups refusal (count ∙ counted.one_a_rank) fed in
      by_failure refusal (is_from_outside refusal.fault) (record { groups = groups; counted = counted; is_rank = omega (arith, lowest.is_rank, counted.one_a_rank); unstopped = λ is. never _ _ (stops is); of_traces = refuses }) refl

-- what a run leaves on the output at a fault
by_kind : {O : Type 0} (written : O → Option Text) (failures : O → ℕ) (old new : O) (refusal : Refusal) (fails : Bool) → new ≡ old → LeavesAtFault written failures old new (if fails then Failed refusal else Refused refusal)
by_kind written failures old new refusal true same = same
by_kind written failures old new refusal false same = same

pub run_leaves : {I O : Type 0} (left : I → Option Text) (written : O → Option Text) (failures : O → ℕ) (sources : List (Source I)) (reading : Reading) (groups : Groups) (format : Format) (old new : O) (fault : RunFault) →
    LeavesOutput left written failures sources reading groups format old new fault → LeavesAtFault written failures old new (of_run fault)
run_leaves left written failures sources reading groups format old new run.Memory leaves = leaves
run_leaves left written failures sources reading groups format old new (run.Unproved rank) leaves = leaves
run_leaves left written failures sources reading groups format old new run.Write leaves = (leaves.0.1, (leaves.0.3, leaves.1))
run_leaves left written failures sources reading groups format old new (run.Refused refusal) leaves =
    by_kind written failures old new refusal (is_from_outside refusal.fault) leaves
