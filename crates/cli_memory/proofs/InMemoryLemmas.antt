-- How a check over files in memory ends, by what the program ends with.
use Rattle.std.proofs.Common.{◌≡◌, ◌≢◌, ◌∙◌, ℕ, Bool, true, false, Option, Some, None, Ok, Err, IfSome, List, [], ◌∷◌, ◌++◌, ap, inl, inr, length, map, subst, sym, refl, Bor}
use Rattle.std.proofs.lemmas.List.{length-map}
use Rattle.clap.specs.Faults.{fault_of}
use Rattle.clap.specs.Kinds.{IsAmong, Kinds}
use Rattle.clap.specs.declared.error.kind.ErrorKind.{ErrorKind}
use Rattle.clap.specs.Walk.{Text}
use Rattle.mpicall.specs.Devices.{bytes_written}
use Rattle.mpicall.specs.Trace.{Trace, trace_of}
use Rattle.mpicall.specs.declared.memory.MemoryOutput.{MemoryOutput}
use Rattle.mpigroup.specs.Groups.{Groups, ranks_of}
use Rattle.mpigroup.specs.HeadText.{read_head}
use Rattle.mpigroup.specs.declared.fault.HeadFault.{HeadFault}
use Rattle.callstore.specs.Recordings.{Lists}
use Rattle.report.specs.Reports.{IsReport}
use Rattle.gather.specs.Outcomes.{recording_of_traces, refusal_of}
use Rattle.gather.specs.declared.fault.Refusal.{Refusal}
use Rattle.cli.proofs.TraceLemmas.{hold_read}
use Rattle.cli.specs.CommandLine.{Answers, Asks, CheckRun, CloseJournals, JudgeJournals, LintTrace, Task, program}
use Rattle.cli.specs.ExitContract.{Ends, EndsBy, EndsInFault, EndsInReport, IsTried, Made, TellsLine}
use Rattle.cli.specs.FaultTexts.{line_of_fault}
use Rattle.cli.specs.Faults.{status_of_fault}
use Rattle.cli_memory.specs.InMemory.{ChecksTexts, EndsCheck, IsTriedOn}
use Rattle.cli.specs.Openings.{Fate}
use Rattle.cli.specs.Outputs.{Written, Nothing, Whole, Broken, Becomes}
use Rattle.cli.specs.Texts.{IsFaultOfCheck, IsHeadOf}
use Rattle.cli.specs.declared.options.Options.{Options}
use Rattle.cli.specs.declared.fault.Fault.{Fault}
use Rattle.cli.specs.declared.fault.Fault.TheVariants.{RefusedJournal, UncleanCut, Head, FileCount, Refused, LintRefused}
use Rattle.cli.specs.declared.status.Status.{Status}
use Rattle.cli.specs.declared.status.Status.TheVariants as status
use Rattle.cli.specs.declared.command_line.CommandLine.{CommandLine}
use Rattle.cli.specs.declared.command_line.CommandLine.TheVariants.{Check, Lint, Judge, Close, Said, NoMemory}

abbrev pub into_memory : MemoryOutput → Option Text
into_memory output = Some (bytes_written output)

-- what became of an output in memory
module _ (failures : MemoryOutput → ℕ) (old new : MemoryOutput) (out : Written) where
  pub wrote : (text : Text) → Becomes into_memory failures old new out → out ≡ Whole text → bytes_written new ≡ bytes_written old ++ text
  wrote text became is = (subst (Becomes into_memory failures old new) is became).0

  pub left : Becomes into_memory failures old new out → out ≡ Nothing → bytes_written new ≡ bytes_written old
  left became is = ap bytes_written (subst (Becomes into_memory failures old new) is became)

  pub broke : (text : Text) → Becomes into_memory failures old new out → out ≡ Broken text → IsTriedOn text (bytes_written old) (bytes_written new)
  broke text became is = let b = subst (Becomes into_memory failures old new) is became in inr (b.0.0, b.0.1)

  pub tried : (text : Text) → Becomes into_memory failures old new out → IsTried text out → IsTriedOn text (bytes_written old) (bytes_written new)
  tried text became (inl is) = inl (wrote text became is)
  tried text became (inr is) = broke text became is

-- what a task has
abbrev head_in : Option Task → Text
head_in (Some (CheckRun path files its)) = path
head_in _ = []

abbrev files_in : Option Task → List Text
files_in (Some (CheckRun path files its)) = files
files_in _ = []

abbrev options_in : Options → Option Task → Options
options_in other (Some (CheckRun path files its)) = its
options_in other _ = other

abbrev is_check : Option Task → Bool
is_check (Some (CheckRun path files its)) = true
is_check _ = false

of_files : (told : Text → Option Text) (files : List (Bor Text)) → map (λ file. told file.now) files ≡ map told (map (λ file. file.now) files)
of_files told [] = refl
of_files told (file ∷ files) = ap (λ (texts : List (Option Text)). told file.now ∷ texts) (of_files told files)

one_head : (text : Text) (a b : Groups) → read_head text ≡ Ok a → read_head text ≡ Ok b → a ≡ b
one_head text a b p q = let e : read_head text ≡ Ok b = q in let f : Ok a ≡ Ok b = sym p ∙ e in cc

not_both : (text : Text) (fault : HeadFault) (groups : Groups) → read_head text ≡ Err fault → read_head text ≡ Ok groups → ⊥
not_both text fault groups p q = let e : Err fault ≡ Ok groups = sym p ∙ q in cc

one_fault : (text : Text) (a b : HeadFault) → read_head text ≡ Err a → read_head text ≡ Err b → a ≡ b
one_fault text a b p q = let e : Err a ≡ Err b = sym p ∙ q in cc

one_refusal : (answer : Option Refusal) (a b : Refusal) → answer ≡ Some a → answer ≡ Some b → a ≡ b
one_refusal answer a b p q = let e : Some a ≡ Some b = sym p ∙ q in cc

no_refusal : (answer : Option Refusal) (a : Refusal) → answer ≡ Some a → answer ≡ None → ⊥
no_refusal answer a p q = let e : Some a ≡ None = sym p ∙ q in cc

-- a check of files with these texts
module _ (fate : Text → Fate → Type 0) (told : Text → Option Text) (options : Options) (head : Text) (files : List Text) (text : Text) (texts : List Text) (is_head : told head ≡ Some text) (are : map told files ≡ map Some texts)
    (failures : MemoryOutput → ℕ) (old new old_errors new_errors : MemoryOutput) (ended : Status) (out err : Written) (output : Becomes into_memory failures old new out) (errors : Becomes into_memory failures old_errors new_errors err) where
  abbrev Checked : Type 0
  Checked = EndsCheck options text texts ended (bytes_written old) (bytes_written new) (bytes_written old_errors) (bytes_written new_errors)

  texts_told : (given : List (Bor Text)) → map (λ file. file.now) given ≡ files → map (λ file. told file.now) given ≡ map Some texts
  texts_told given those = of_files told given ∙ ap (map told) those ∙ are

  head_told : (path : Text) → path ≡ head → told path ≡ Some text
  head_told path same = ap told same ∙ is_head

  files_many : (given : List (Bor Text)) → map (λ file. file.now) given ≡ files → length given ≡ length texts
  files_many given those = sym (length-map given (λ file. told file.now)) ∙ ap (λ (xs : List (Option Text)). length xs) (texts_told given those) ∙ length-map texts Some

  head_of : (path : Text) (groups : Groups) → path ≡ head → IsHeadOf (told path) groups → read_head text ≡ Ok groups
  head_of path groups same is = subst (λ (t : Option Text). IsHeadOf t groups) (head_told path same) is

  by_report : (path : Text) (given : List (Bor Text)) (its : Options) → path ≡ head → map (λ file. file.now) given ≡ files → its ≡ options →
      EndsInReport its (told path) (map (λ file. told file.now) given) ended out err → Checked
  by_report path given its same those asked ends =
      let report_is = ends.is_report in
      let run = report_is.of_texts text texts (head_told path same) (texts_told given those) in
      let judged = ends.is_verdict text texts (head_told path same) (texts_told given those) in
      let calls : report_is.recording ≡ recording_of_traces (map trace_of texts) = run.is_recording (map trace_of texts) (hold_read texts) in
      let many : length texts ≡ ranks_of report_is.groups =
      sym (ap (λ (ls : Lists). length ls) calls ∙ length-map (map trace_of texts) (λ (t : Trace). t.records) ∙ length-map texts trace_of) ∙ report_is.one_a_rank in
      record {
        of_head = λ fault is. absurd (not_both text fault report_is.groups is run.is_head);
        of_count = λ groups is differ. absurd (differ (many ∙ ap ranks_of (one_head text report_is.groups groups run.is_head is)));
        of_refusal = λ groups refusal is count own. absurd (no_refusal (refusal_of groups (map trace_of texts)) refusal own
            (ap (λ (gs : Groups). refusal_of gs (map trace_of texts)) (one_head text groups judged.groups is judged.is_head) ∙ judged.accepted (map trace_of texts) (hold_read texts)));
        of_report = λ groups is count none. (
          ends.verdict,
          ends.report,
          subst (λ (o : Options). IsReport o.format o.reading groups (recording_of_traces (map trace_of texts)) ends.verdict ends.report) asked
              (subst (λ (gs : Groups). IsReport its.format its.reading gs (recording_of_traces (map trace_of texts)) ends.verdict ends.report) (one_head text report_is.groups groups run.is_head is)
              (subst (λ (ls : Lists). IsReport its.format its.reading report_is.groups ls ends.verdict ends.report) calls report_is.is_report)),
          ends.status_is,
          wrote failures old new out ends.report output ends.output,
          left failures old_errors new_errors err errors ends.errors,
        );
      }

  by_fault : (path : Text) (given : List (Bor Text)) (fault : Fault) → path ≡ head → map (λ file. file.now) given ≡ files → IsFaultOfCheck fate told path given fault → EndsInFault fault ended out err → ended ≢ status.Fault → Checked
  by_fault path given (Head fault) same those says ends other =
      let is : read_head text ≡ Err fault = subst (λ (t : Option Text). IfSome t (λ bytes. read_head bytes ≡ Err fault)) (head_told path same) says in
      let tells = subst (λ (s : Status). TellsLine s (Head fault) out err) ends.0 ends.1 in
      record {
        of_head = λ another it. (
          ends.0,
          subst (λ (f : HeadFault). bytes_written new ≡ bytes_written old ++ line_of_fault (Head f)) (one_fault text fault another is it) (wrote failures old new out (line_of_fault (Head fault)) output tells.0),
          left failures old_errors new_errors err errors tells.1,
        );
        of_count = λ groups it differ. absurd (not_both text fault groups is it);
        of_refusal = λ groups refusal it count own. absurd (not_both text fault groups is it);
        of_report = λ groups it count none. absurd (not_both text fault groups is it);
      }
  by_fault path given (FileCount ranks count) same those says ends other =
      let it_is = head_of path says.groups same says.is_head in
      let tells = subst (λ (s : Status). TellsLine s (FileCount ranks count) out err) ends.0 ends.1 in
      let many : count ≡ length texts = says.files_are ∙ files_many given those in
      let differ : length texts ≢ ranks_of says.groups = λ as_many. says.differ (many ∙ as_many ∙ sym says.ranks_are) in
      record {
        of_head = λ fault it. absurd (not_both text fault says.groups it it_is);
        of_count = λ groups it differs. (
          ends.0,
          left failures old new out output tells.0,
          subst (λ (f : Fault). IsTriedOn (line_of_fault f) (bytes_written old_errors) (bytes_written new_errors))
              (ap (λ (r : ℕ). FileCount r count) (says.ranks_are ∙ ap ranks_of (one_head text says.groups groups it_is it)) ∙ ap (λ (n : ℕ). FileCount (ranks_of groups) n) many)
              (tried failures old_errors new_errors err (line_of_fault (FileCount ranks count)) errors tells.1),
        );
        of_refusal = λ groups refusal it as_many own. absurd (differ (as_many ∙ ap ranks_of (one_head text groups says.groups it it_is)));
        of_report = λ groups it as_many none. absurd (differ (as_many ∙ ap ranks_of (one_head text groups says.groups it it_is)));
      }
  by_fault path given (Refused refusal) same those says ends other =
      let its = says.0 in
      let it_is = head_of path its.groups same its.counted.is_head in
      let tells = subst (λ (s : Status). TellsLine s (Refused refusal) out err) ends.0 ends.1 in
      let own = (its.of_traces texts (texts_told given those) (map trace_of texts) (hold_read texts)).its_own says.1 in
      let many : length texts ≡ ranks_of its.groups = sym (files_many given those) ∙ its.counted.one_a_rank in
      record {
        of_head = λ fault it. absurd (not_both text fault its.groups it it_is);
        of_count = λ groups it differ. absurd (differ (many ∙ ap ranks_of (one_head text its.groups groups it_is it)));
        of_refusal = λ groups another it as_many found. (
          ends.0,
          subst (λ (r : Refusal). bytes_written new ≡ bytes_written old ++ line_of_fault (Refused r))
              (one_refusal (refusal_of groups (map trace_of texts)) refusal another (ap (λ (gs : Groups). refusal_of gs (map trace_of texts)) (one_head text groups its.groups it it_is) ∙ own) found)
              (wrote failures old new out (line_of_fault (Refused refusal)) output tells.0),
          left failures old_errors new_errors err errors tells.1,
        );
        of_report = λ groups it as_many none. absurd (no_refusal (refusal_of groups (map trace_of texts)) refusal
            (ap (λ (gs : Groups). refusal_of gs (map trace_of texts)) (one_head text groups its.groups it it_is) ∙ own) none);
      }
  by_fault path given (LintRefused fault) same those says ends other = absurd says
  by_fault path given (RefusedJournal rank fault) same those says ends other = absurd says
  by_fault path given (UncleanCut entry) same those says ends other = absurd says
  by_fault path given fault same those says ends other = absurd (other ends.0)

  module _ (named : Text → Option Bool) (made : Made) (words : List Text) (asks : Asks words (CheckRun head files options)) where
    abbrev task : Task
    task = CheckRun head files options

    no_kind : (kind : ErrorKind) → IsAmong kind (fault_of program words) → ⊥
    no_kind kind among = subst (λ (kinds : Kinds). IsAmong kind kinds) asks.0 among

    by_asked : (asked : CommandLine) → Answers words asked → EndsBy fate told named made asked ended out err → ended ≢ status.Fault → Checked
    by_asked (Check path given its progress) answers (inl done) other =
        let e : Some (CheckRun path.now (map (λ file. file.now) given.items) its) ≡ Some task = sym answers.1 ∙ asks.1 in
        by_report path.now given.items its (ap head_in e) (ap files_in e) (ap (options_in options) e) done
    by_asked (Check path given its progress) answers (inr (fault, is_fault, ends)) other =
        let e : Some (CheckRun path.now (map (λ file. file.now) given.items) its) ≡ Some task = sym answers.1 ∙ asks.1 in
        by_fault path.now given.items fault (ap head_in e) (ap files_in e) is_fault ends other
    by_asked (Lint file) answers by other =
        let e : Some (LintTrace file.now) ≡ Some task = sym answers.1 ∙ asks.1 in
        let no : false ≡ true = ap is_check e in cc
    by_asked (Judge folder manner progress) answers by other =
        let e : Some (JudgeJournals folder.now manner) ≡ Some task = sym answers.1 ∙ asks.1 in
        let no : false ≡ true = ap is_check e in cc
    by_asked (Close folder target choice) answers by other =
        let e : Some (CloseJournals folder.now target.now choice) ≡ Some task = sym answers.1 ∙ asks.1 in
        let no : false ≡ true = ap is_check e in cc
    by_asked (Said said false) (some, (kind, among, is)) by other = absurd (no_kind kind among)
    by_asked (Said said true) (some, inl found) by other = absurd (no_kind found.0 found.1)
    by_asked (Said said true) (some, inr none) by other = let e : None ≡ Some task = sym none.1 ∙ asks.1 in cc
    by_asked NoMemory answers (inl done) other = absurd done
    by_asked NoMemory answers (inr (fault, is, ends)) other = absurd (other (ends.0 ∙ ap status_of_fault is))

pub checks : (fate : Text → Fate → Type 0) (told : Text → Option Text) (named : Text → Option Bool) (made : Made) (failures : MemoryOutput → ℕ) (old new old_errors new_errors : MemoryOutput) (words : List Text) (ended : Status) →
    Ends into_memory failures into_memory failures fate told named made old new old_errors new_errors words ended → ended ≢ status.Fault →
    ChecksTexts told words ended (bytes_written old) (bytes_written new) (bytes_written old_errors) (bytes_written new_errors)
checks fate told named made failures old new old_errors new_errors words ended ends other head files options text texts asks is_head are =
    by_asked fate told options head files text texts is_head are failures old new old_errors new_errors ended ends.out ends.err ends.output ends.errors named made words asks ends.asked ends.answers ends.by other
