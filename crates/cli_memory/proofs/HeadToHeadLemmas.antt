-- Two ranks that send to each other before either receives: what the words ask for, what the texts of the files say,
-- and what comes of it.
use Rattle.waitgraph.specs.declared.verdict.Verdict.{Verdict}
use Rattle.report.specs.declared.write.Format.{Format}
use Rattle.moves.specs.declared.reading.Reading.{Reading}
use Rattle.std.proofs.Common.{◌≡◌, ◌≢◌, ◌∙◌, ℕ, Bool, true, false, Option, Some, None, Ok, Err, IfSome, List, [], ◌∷◌, ap, codes, inl, inr, length, map, refl, subst, sym, Bor}
use Rattle.std.proofs.lemmas.List.{length-map}
use Rattle.std.specs.Fmt.{digits}
use Rattle.clap.specs.Faults.{fault_of, flags_fault, walk_fault, defaults_fault}
use Rattle.clap.specs.Kinds.{IsAmong, Kinds}
use Rattle.clap.specs.declared.error.kind.ErrorKind.{ErrorKind}
use Rattle.clap.specs.Takes.{flags_pass, walk_passes}
use Rattle.clap.specs.Walk.{Text, bundle_met, walked}
use Rattle.mpicall.specs.Line.{fault_of_fields, fault_of_line}
use Rattle.mpicall.specs.Number.{is_canonical, number_up_to}
use Rattle.mpicall.specs.Parsing.{call_of_fields, record_of_line}
use Rattle.mpicall.specs.Trace.{Trace, trace_of}
use Rattle.mpicall.specs.declared.fault.Ending.TheVariants.{Sealed}
use Rattle.mpicall.specs.Word.{collective_of, operation_of, word_of}
use Rattle.mpicall.specs.declared.call.Call.{Call}
use Rattle.mpicall.specs.declared.call.Call.TheVariants.{Send, Recv, Finalize}
use Rattle.mpicall.specs.declared.call.Mode.TheVariants.{Standard}
use Rattle.mpicall.specs.declared.call.Peer.TheVariants.{Rank}
use Rattle.mpigroup.specs.Groups.{Groups, ranks_of}
use Rattle.mpigroup.specs.HeadText.{ranks_of_fields, read_head}
use Rattle.pairing.specs.Faults.{fault_of as fault_of_call}
use Rattle.callstore.specs.Recordings.{Lists}
use Rattle.cli.specs.declared.options.Options.{Options}
use Rattle.moves.specs.declared.reading.Reading.TheVariants.{Strict}
use Rattle.findings.specs.Findings.{kind_found, kinds_of, root_found, roots_of, unreceived_at, unreceived_of, lost_at, lost_requests, group_at, wrong_groups_of, findings_of}
use Rattle.waitgraph.specs.Stuck.{unmet_at}
use Rattle.waitgraph.specs.inner.Causes.{causes_of}
use Rattle.waitgraph.specs.inner.Verdicts.{verdict_of}
use Rattle.waitgraph.proofs.CauseLemmas.{causes_found}
use Rattle.waitgraph.proofs.VerdictLemmas.{verdict_found}
use Rattle.waitgraph.specs.declared.verdict.Verdict.TheVariants.{Hang}
use Rattle.report.specs.Reports.{report_of}
use Rattle.report.specs.TextReport.{text_report}
use Rattle.report.specs.declared.write.Format.TheVariants as format
use Rattle.gather.specs.Outcomes.{fault_of_rank, recording_of_traces, refusal_of}
use Rattle.cli.proofs.TraceLemmas.{hold_read}
use Rattle.cli.specs.CommandLine.{Answers, CheckRun, CloseJournals, JudgeJournals, LintTrace, Task, program, task_in}
use Rattle.cli.specs.ExitContract.{Ends, EndsBy, EndsInReport, Made}
use Rattle.cli.specs.Faults.{status_of_fault}
use Rattle.cli_memory.specs.HeadToHead.{report}
use Rattle.cli.specs.Openings.{Fate}
use Rattle.cli.specs.Outputs.{Written, Becomes, Writes}
use Rattle.cli.specs.Statuses.{status_of_verdict}
use Rattle.cli.specs.Texts.{IsFaultOfCheck, IsHeadOf}
use Rattle.cli.specs.declared.fault.Fault.{Fault}
use Rattle.cli.specs.declared.fault.Fault.TheVariants.{RefusedJournal, UncleanCut, Head, FileCount, Refused, LintRefused}
use Rattle.cli.specs.declared.status.Status.{Status}
use Rattle.cli.specs.declared.status.Status.TheVariants as status
use Rattle.cli.specs.declared.command_line.CommandLine.{CommandLine}
use Rattle.cli.specs.declared.command_line.CommandLine.TheVariants.{Check, Lint, Judge, Close, Said, NoMemory}

abbrev pub words : List Text
words = codes "check" ∷ codes "head" ∷ codes "r0" ∷ codes "r1" ∷ []

abbrev options : Options
options = record { reading = Strict; format = format.Text; capacity = 64 }

abbrev task : Task
task = CheckRun (codes "head") (codes "r0" ∷ codes "r1" ∷ []) options

abbrev pub head : Text
head = codes "ranks 2\n"

abbrev pub first : Text
first = codes "send 0 1 0\nrecv 0 1 0\nfinalize\n"

abbrev pub second : Text
second = codes "send 0 0 0\nrecv 0 0 0\nfinalize\n"

abbrev groups : Groups
groups = (0 ∷ 1 ∷ []) ∷ []

-- a standard send to the rank, and then a receive from it
abbrev calls_with : ℕ → List Call
calls_with peer = Send Standard 0 (Rank peer) 0 None ∷ Recv 0 (Rank peer) 0 ∷ Finalize ∷ []

abbrev recording : Lists
recording = calls_with 1 ∷ calls_with 0 ∷ []

abbrev trace_with : ℕ → Trace
trace_with peer = record { records = calls_with peer; end = Sealed }

-- clap finds no fault in the words, and in them the task
no_fault : fault_of program words ≡ []
unfolding program flags_pass walk_passes bundle_met walked flags_fault walk_fault defaults_fault
no_fault = refl

asks : task_in words ≡ Some task
unfolding task_in program flags_pass walk_passes bundle_met walked flags_fault walk_fault defaults_fault
asks = refl

-- the texts
of_head : read_head head ≡ Ok groups
unfolding read_head ranks_of_fields is_canonical
of_head = refl

of_first : trace_of first ≡ trace_with 1
unfolding trace_of record_of_line fault_of_line fault_of_fields call_of_fields word_of operation_of collective_of number_up_to is_canonical
of_first = refl

of_second : trace_of second ≡ trace_with 0
unfolding trace_of record_of_line fault_of_line fault_of_fields call_of_fields word_of operation_of collective_of number_up_to is_canonical
of_second = refl

of_texts : map trace_of (first ∷ second ∷ []) ≡ trace_with 1 ∷ trace_with 0 ∷ []
of_texts = ap (λ (trace : Trace). trace ∷ trace_of second ∷ []) of_first ∙ ap (λ (trace : Trace). trace_with 1 ∷ trace ∷ []) of_second

-- and their run
none_refused : refusal_of groups (trace_with 1 ∷ trace_with 0 ∷ []) ≡ None
unfolding fault_of_rank fault_of_call
none_refused = refl

hangs : verdict_of Strict groups recording ≡ Hang
unfolding unmet_at
hangs = refl

-- the report by the verdict and the causes that the search finds
abbrev found_report : Format → Reading → Groups → Lists → Text
found_report in_format reading groups recording = report_of in_format reading groups recording (verdict_of reading groups recording) (causes_of reading groups recording)

reported : found_report format.Text Strict groups recording ≡ report
unfolding digits report_of text_report unmet_at findings_of kinds_of kind_found roots_of root_found unreceived_of unreceived_at lost_requests lost_at wrong_groups_of group_at
reported = refl

-- what a task has
abbrev head_in : Option Task → Text
head_in (Some (CheckRun path files its)) = path
head_in _ = []

abbrev files_in : Option Task → List Text
files_in (Some (CheckRun path files its)) = files
files_in _ = []

abbrev options_in : Option Task → Options
options_in (Some (CheckRun path files its)) = its
options_in _ = options

abbrev is_check : Option Task → Bool
is_check (Some (CheckRun path files its)) = true
is_check _ = false

no_kind : (kind : ErrorKind) → IsAmong kind (fault_of program words) → ⊥
no_kind kind among = subst (λ (kinds : Kinds). IsAmong kind kinds) no_fault among

of_files : (told : Text → Option Text) (files : List (Bor Text)) → map (λ file. told file.now) files ≡ map told (map (λ file. file.now) files)
of_files told [] = refl
of_files told (file ∷ files) = ap (λ (texts : List (Option Text)). told file.now ∷ texts) (of_files told files)

its_groups : (other : Groups) → read_head head ≡ Ok other → other ≡ groups
its_groups other is = let e = sym of_head ∙ is in cc

-- the status is that of a hang, the report was written, and nothing was told as an error
pub record Hangs {O E : Type 0} (written : O → Option Text) (failures : O → ℕ) (old new : O) (old_errors new_errors : E) (ended : Status) : Type 0 where
  pub status_is : ended ≡ status.Hang
  pub output : Writes written failures old new report
  pub errors : new_errors ≡ old_errors

-- an opener that tells these texts
module _ (fate : Text → Fate → Type 0) (told : Text → Option Text) (named : Text → Option Bool) (is_head : told (codes "head") ≡ Some head) (is_first : told (codes "r0") ≡ Some first) (is_second : told (codes "r1") ≡ Some second) where
  texts_told : (files : List (Bor Text)) → map (λ file. file.now) files ≡ codes "r0" ∷ codes "r1" ∷ [] → map (λ file. told file.now) files ≡ map Some (first ∷ second ∷ [])
  texts_told files are =
      of_files told files ∙ ap (map told) are
      ∙ ap (λ (text : Option Text). text ∷ told (codes "r1") ∷ []) is_first
      ∙ ap (λ (text : Option Text). Some first ∷ text ∷ []) is_second

  head_told : (path : Text) → path ≡ codes "head" → told path ≡ Some head
  head_told path is = ap told is ∙ is_head

  -- a head that was read of the told text
  groups_read : (path : Text) (other : Groups) → path ≡ codes "head" → IsHeadOf (told path) other → other ≡ groups
  groups_read path other is reads = its_groups other (subst (λ (text : Option Text). IsHeadOf text other) (head_told path is) reads)

  no_fault_told : (path : Text) (files : List (Bor Text)) (fault : Fault) → path ≡ codes "head" → map (λ file. file.now) files ≡ codes "r0" ∷ codes "r1" ∷ [] → IsFaultOfCheck fate told path files fault → status_of_fault fault ≢ status.Fault → ⊥
  no_fault_told path files (Head fault) is are says other_status =
      let e = sym of_head ∙ subst (λ (text : Option Text). IfSome text (λ bytes. read_head bytes ≡ Err fault)) (head_told path is) says in cc
  no_fault_told path files (FileCount ranks count) is are says other_status =
      let as_many : length files ≡ 2 = sym (length-map files (λ file. file.now)) ∙ ap length are in
      let two : ranks_of says.groups ≡ 2 = ap ranks_of (groups_read path says.groups is says.is_head) in
      says.differ (says.files_are ∙ as_many ∙ sym two ∙ sym says.ranks_are)
  no_fault_told path files (Refused refusal) is are says other_status =
      let its = says.0 in
      let own = (its.of_traces (first ∷ second ∷ []) (texts_told files are) (map trace_of (first ∷ second ∷ [])) (hold_read (first ∷ second ∷ []))).its_own says.1 in
      let none : refusal_of its.groups (map trace_of (first ∷ second ∷ [])) ≡ None =
      ap (λ (g : Groups). refusal_of g (map trace_of (first ∷ second ∷ []))) (groups_read path its.groups is its.counted.is_head)
      ∙ ap (refusal_of groups) of_texts ∙ none_refused in
      let e : None ≡ Some refusal = sym none ∙ own in cc
  no_fault_told path files (LintRefused fault) is are says other_status = says
  no_fault_told path files (RefusedJournal rank fault) is are says other_status = says
  no_fault_told path files (UncleanCut entry) is are says other_status = says
  no_fault_told path files fault is are says other_status = other_status refl

  module _ {O E : Type 0} (written : O → Option Text) (failures : O → ℕ) (written_errors : E → Option Text) (failed_errors : E → ℕ) (old new : O) (old_errors new_errors : E) (ended : Status) where
    of_report : (path : Text) (files : List (Bor Text)) (its : Options) (out err : Written) →
        path ≡ codes "head" → map (λ file. file.now) files ≡ codes "r0" ∷ codes "r1" ∷ [] → its ≡ options →
        EndsInReport its (told path) (map (λ file. told file.now) files) ended out err →
        Becomes written failures old new out → Becomes written_errors failed_errors old_errors new_errors err → Hangs written failures old new old_errors new_errors ended
    of_report path files its out err is are asked ends output errors =
        let report_is = ends.is_report in
        let run = report_is.of_texts head (first ∷ second ∷ []) (head_told path is) (texts_told files are) in
        let as_read : report_is.groups ≡ groups = its_groups _ run.is_head in
        let calls : report_is.recording ≡ recording = run.is_recording (map trace_of (first ∷ second ∷ [])) (hold_read (first ∷ second ∷ [])) ∙ ap recording_of_traces of_texts in
        let is = report_is.is_report in
        let found : ends.verdict ≡ verdict_of its.reading report_is.groups report_is.recording =
        verdict_found its.reading report_is.groups report_is.recording ends.verdict report_is.closed is.is_verdict in
        let causes : is.causes ≡ causes_of its.reading report_is.groups report_is.recording =
        causes_found its.reading report_is.groups report_is.recording is.causes report_is.closed is.are_causes in
        let verdict : ends.verdict ≡ Hang =
        found ∙ ap (λ (o : Options). verdict_of o.reading report_is.groups report_is.recording) asked
        ∙ ap (λ (g : Groups). verdict_of Strict g report_is.recording) as_read ∙ ap (verdict_of Strict groups) calls ∙ hangs in
        let text : ends.report ≡ report =
        is.is_text
        ∙ ap (λ (v : Verdict). report_of its.format its.reading report_is.groups report_is.recording v is.causes) found
        ∙ ap (report_of its.format its.reading report_is.groups report_is.recording (verdict_of its.reading report_is.groups report_is.recording)) causes
        ∙ ap (λ (o : Options). found_report o.format o.reading report_is.groups report_is.recording) asked
        ∙ ap (λ (g : Groups). found_report format.Text Strict g report_is.recording) as_read ∙ ap (found_report format.Text Strict groups) calls ∙ reported in
        record {
          status_is = ends.status_is ∙ ap status_of_verdict verdict;
          output = subst (Writes written failures old new) text (subst (Becomes written failures old new) ends.output output);
          errors = subst (Becomes written_errors failed_errors old_errors new_errors) ends.errors errors;
        }

    of_asked : (made : Made) (asked : CommandLine) (out err : Written) → Answers words asked → EndsBy fate told named made asked ended out err → Becomes written failures old new out → Becomes written_errors failed_errors old_errors new_errors err → ended ≢ status.Fault → Hangs written failures old new old_errors new_errors ended
    of_asked made (Check path files its progress) out err answers (inl done) output errors other =
        let e : Some (CheckRun path.now (map (λ file. file.now) files.items) its) ≡ Some task = sym answers.1 ∙ asks in
        of_report path.now files.items its out err (ap head_in e) (ap files_in e) (ap options_in e) done output errors
    of_asked made (Check path files its progress) out err answers (inr (fault, is_fault, ends)) output errors other =
        let e : Some (CheckRun path.now (map (λ file. file.now) files.items) its) ≡ Some task = sym answers.1 ∙ asks in
        absurd (no_fault_told path.now files.items fault (ap head_in e) (ap files_in e) is_fault (λ same. other (ends.0 ∙ same)))
    of_asked made (Lint file) out err answers by output errors other =
        let e : Some (LintTrace file.now) ≡ Some task = sym answers.1 ∙ asks in
        let no : false ≡ true = ap is_check e in cc
    of_asked made (Judge folder manner progress) out err answers by output errors other =
        let e : Some (JudgeJournals folder.now manner) ≡ Some task = sym answers.1 ∙ asks in
        let no : false ≡ true = ap is_check e in cc
    of_asked made (Close folder target choice) out err answers by output errors other =
        let e : Some (CloseJournals folder.now target.now choice) ≡ Some task = sym answers.1 ∙ asks in
        let no : false ≡ true = ap is_check e in cc
    of_asked made (Said text false) out err (some, (kind, among, is)) by output errors other = absurd (no_kind kind among)
    of_asked made (Said text true) out err (some, inl found) by output errors other = absurd (no_kind found.0 found.1)
    of_asked made (Said text true) out err (some, inr none) by output errors other = let e : None ≡ Some task = sym none.1 ∙ asks in cc
    of_asked made NoMemory out err answers (inl done) output errors other = absurd done
    of_asked made NoMemory out err answers (inr (fault, is, ends)) output errors other = absurd (other (ends.0 ∙ ap status_of_fault is))

-- the program over them
pub ends_in_hang : {O E : Type 0} {written : O → Option Text} {failures : O → ℕ} {written_errors : E → Option Text} {failed_errors : E → ℕ} {fate : Text → Fate → Type 0} {told : Text → Option Text} {named : Text → Option Bool} {made : Made} {old new : O} {old_errors new_errors : E} {given : List Text} {ended : Status} →
    Ends written failures written_errors failed_errors fate told named made old new old_errors new_errors given ended → given ≡ words → told (codes "head") ≡ Some head → told (codes "r0") ≡ Some first → told (codes "r1") ≡ Some second → ended ≢ status.Fault →
    Hangs written failures old new old_errors new_errors ended
ends_in_hang {written = written} {failures = failures} {written_errors = written_errors} {failed_errors = failed_errors} {fate = fate} {told = told} {named = named} {made = made} {old = old} {new = new} {old_errors = old_errors} {new_errors = new_errors} {ended = ended} ends are is_head is_first is_second other =
    of_asked fate told named is_head is_first is_second written failures written_errors failed_errors old new old_errors new_errors ended made ends.asked ends.out ends.err (subst (λ (w : List Text). Answers w ends.asked) are ends.answers) ends.by ends.output ends.errors other
