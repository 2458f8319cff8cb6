-- How `close` of journals in memory ends, by what the program ends with.
use Rattle.std.proofs.Common.{◌≡◌, ◌≢◌, ◌∙◌, ℕ, ◌+◌, Bool, true, false, Option, Some, None, Ok, Err, List, [], ◌∷◌, ◌++◌, ap, inl, inr, length, map, subst, sym, refl, Bor}
use Rattle.std.specs.Prelude.{is_some}
use Rattle.clap.specs.Faults.{fault_of}
use Rattle.clap.specs.Kinds.{IsAmong, Kinds}
use Rattle.clap.specs.declared.error.kind.ErrorKind.{ErrorKind}
use Rattle.clap.specs.Walk.{Text}
use Rattle.mpicall.specs.Devices.{bytes_written}
use Rattle.mpicall.specs.declared.memory.MemoryOutput.{MemoryOutput}
use Rattle.journals.specs.JournalAnswers.{fault_in}
use Rattle.journals.specs.declared.limits.TheConstants.{MOST_RANKS}
use Rattle.closing.specs.Entries.{Run}
use Rattle.closing.specs.Journals.{RankFault, run_of}
use Rattle.closing.specs.Recording.{recording_of}
use Rattle.closing.specs.Recordings.{choice_in}
use Rattle.closing.specs.declared.choice.Choice.{Choice}
use Rattle.judging.specs.Closing.{AreFilesOf}
use Rattle.judging.specs.JournalTexts.{Known, AreKnown}
use Rattle.judging.specs.declared.close.FileName.{FileName}
use Rattle.cli_memory.proofs.InMemoryLemmas.{into_memory, left, wrote}
use Rattle.cli_memory.proofs.JudgeInMemory.{known_files, not_both, one_fault}
use Rattle.cli.specs.CommandLine.{Answers, Asks, CheckRun, CloseJournals, JudgeJournals, LintTrace, Task, program}
use Rattle.cli.specs.ExitContract.{Ends, EndsBy, EndsInFault, EndsInFiles, Made, TellsLine}
use Rattle.cli.specs.FaultTexts.{line_of_fault}
use Rattle.cli.specs.Faults.{status_of_fault}
use Rattle.cli.specs.JournalFolders.{journal_path, known_in}
use Rattle.cli.specs.Journals.{IsFaultOfClose}
use Rattle.cli_memory.specs.JournalsInMemory.{EndsClose, ClosesJournals, line_of_first}
use Rattle.cli.specs.Openings.{Fate}
use Rattle.cli.specs.Outputs.{Written, Becomes}
use Rattle.cli.specs.declared.fault.Fault.{Fault}
use Rattle.cli.specs.declared.fault.Fault.TheVariants.{RefusedJournal, UncleanCut, Head, FileCount, Refused, LintRefused}
use Rattle.cli.specs.declared.status.Status.{Status}
use Rattle.cli.specs.declared.status.Status.TheVariants as status
use Rattle.cli.specs.declared.command_line.CommandLine.{CommandLine}
use Rattle.cli.specs.declared.command_line.CommandLine.TheVariants.{Check, Lint, Judge, Close, Said, NoMemory}

-- what there is to close
abbrev folder_in : Option Task → Text
folder_in (Some (CloseJournals folder target choice)) = folder
folder_in _ = []

abbrev target_in : Option Task → Text
target_in (Some (CloseJournals folder target choice)) = target
target_in _ = []

abbrev choice_of : Choice → Option Task → Choice
choice_of other (Some (CloseJournals folder target choice)) = choice
choice_of other _ = other

abbrev is_close : Option Task → Bool
is_close (Some (CloseJournals folder target choice)) = true
is_close _ = false

-- journals with these texts
module _ (known : Known) (choice : Choice) (first : Text) (texts : ℕ → Option Text) (are : (ranks : ℕ) → AreKnown known ranks first texts) (made : FileName → Option Text)
    (failures : MemoryOutput → ℕ) (old new old_errors new_errors : MemoryOutput) (ended : Status) (out err : Written) (output : Becomes into_memory failures old new out) (errors : Becomes into_memory failures old_errors new_errors err) where
  abbrev Closed : Type 0
  Closed = EndsClose choice first texts made ended (bytes_written old) (bytes_written new) (bytes_written old_errors) (bytes_written new_errors)

  by_files : EndsInFiles known (choice_in choice) (Some []) made ended out err → Closed
  by_files ends = record {
    of_fault = λ fault own. absurd (ends.is_written.of_none_refused first texts fault (are MOST_RANKS) own);
    of_run = λ run own. (
      ends.is_written.of_run first texts run (are (length run)) own,
      ends.status_is,
      left failures old new out output ends.output,
      left failures old_errors new_errors err errors ends.errors,
    );
  }

  by_fault : (folder target : Text) (fault : Fault) → IsFaultOfClose known folder target fault → EndsInFault fault ended out err → ended ≢ status.Fault → Closed
  by_fault folder target (RefusedJournal rank fault) says ends other =
      let own : run_of first texts ≡ Err (record { rank = rank; fault = fault_in fault }) = says first texts (are (rank + 1)) in
      let tells = subst (λ (s : Status). TellsLine s (RefusedJournal rank fault) out err) ends.0 ends.1 in
      record {
        of_fault = λ another found. (
          ends.0,
          subst (λ (it : RankFault). bytes_written new ≡ bytes_written old ++ line_of_first it) (one_fault (run_of first texts) (record { rank = rank; fault = fault_in fault }) another own found)
              (wrote failures old new out (line_of_fault (RefusedJournal rank fault)) output tells.0),
          left failures old_errors new_errors err errors tells.1,
        );
        of_run = λ run found. absurd (not_both (run_of first texts) run (record { rank = rank; fault = fault_in fault }) found own);
      }
  by_fault folder target (UncleanCut entry) says ends other = absurd says
  by_fault folder target (Head fault) says ends other = absurd says
  by_fault folder target (Refused refusal) says ends other = absurd says
  by_fault folder target (FileCount ranks count) says ends other = absurd says
  by_fault folder target (LintRefused fault) says ends other = absurd says
  by_fault folder target fault says ends other = absurd (other ends.0)

module _ (fate : Text → Fate → Type 0) (told : Text → Option Text) (named : Text → Option Bool) (made : Made) (is_empty : made.empty ≡ Some []) (folder target : Text) (choice : Choice) (first : Text) (texts : ℕ → Option Text) (are : (ranks : ℕ) → AreKnown (known_in told named folder) ranks first texts)
    (failures : MemoryOutput → ℕ) (old new old_errors new_errors : MemoryOutput) (ended : Status) (out err : Written) (output : Becomes into_memory failures old new out) (errors : Becomes into_memory failures old_errors new_errors err)
    (words : List Text) (asks : Asks words (CloseJournals folder target choice)) where
  abbrev task : Task
  task = CloseJournals folder target choice

  no_kind : (kind : ErrorKind) → IsAmong kind (fault_of program words) → ⊥
  no_kind kind among = subst (λ (kinds : Kinds). IsAmong kind kinds) asks.0 among

  by_asked : (asked : CommandLine) → Answers words asked → EndsBy fate told named made asked ended out err → ended ≢ status.Fault →
      EndsClose choice first texts (made.text target) ended (bytes_written old) (bytes_written new) (bytes_written old_errors) (bytes_written new_errors)
  by_asked (Close path place its) answers (inl done) other =
      let e : Some (CloseJournals path.now place.now its) ≡ Some task = sym answers.1 ∙ asks.1 in
      by_files (known_in told named folder) choice first texts are (made.text target) failures old new old_errors new_errors ended out err output errors
      (subst (λ (empty : Option Text). EndsInFiles (known_in told named folder) (choice_in choice) empty (made.text target) ended out err) is_empty
      (subst (λ (c : Choice). EndsInFiles (known_in told named folder) (choice_in c) made.empty (made.text target) ended out err) (ap (choice_of choice) e)
      (subst (λ (p : Text). EndsInFiles (known_in told named folder) (choice_in its) made.empty (made.text p) ended out err) (ap target_in e)
      (subst (λ (p : Text). EndsInFiles (known_in told named p) (choice_in its) made.empty (made.text place.now) ended out err) (ap folder_in e) done))))
  by_asked (Close path place its) answers (inr (fault, is_fault, ends)) other =
      let e : Some (CloseJournals path.now place.now its) ≡ Some task = sym answers.1 ∙ asks.1 in
      by_fault (known_in told named folder) choice first texts are (made.text target) failures old new old_errors new_errors ended out err output errors folder place.now fault
      (subst (λ (p : Text). IsFaultOfClose (known_in told named p) p place.now fault) (ap folder_in e) is_fault) ends other
  by_asked (Check path given its progress) answers by other =
      let e : Some (CheckRun path.now (map (λ file. file.now) given.items) its) ≡ Some task = sym answers.1 ∙ asks.1 in
      let no : false ≡ true = ap is_close e in cc
  by_asked (Lint path) answers by other =
      let e : Some (LintTrace path.now) ≡ Some task = sym answers.1 ∙ asks.1 in
      let no : false ≡ true = ap is_close e in cc
  by_asked (Judge path manner progress) answers by other =
      let e : Some (JudgeJournals path.now manner) ≡ Some task = sym answers.1 ∙ asks.1 in
      let no : false ≡ true = ap is_close e in cc
  by_asked (Said said false) (some, (kind, among, is)) by other = absurd (no_kind kind among)
  by_asked (Said said true) (some, inl found) by other = absurd (no_kind found.0 found.1)
  by_asked (Said said true) (some, inr none) by other = let e : None ≡ Some task = sym none.1 ∙ asks.1 in cc
  by_asked NoMemory answers (inl done) other = absurd done
  by_asked NoMemory answers (inr (fault, is, ends)) other = absurd (other (ends.0 ∙ ap status_of_fault is))

pub closes : (fate : Text → Fate → Type 0) (told : Text → Option Text) (named : Text → Option Bool) (made : Made) (failures : MemoryOutput → ℕ) (old new old_errors new_errors : MemoryOutput) (words : List Text) (ended : Status) →
    Ends into_memory failures into_memory failures fate told named made old new old_errors new_errors words ended → ((path : Text) → named path ≡ Some (is_some (told path))) → made.empty ≡ Some [] → ended ≢ status.Fault →
    ClosesJournals told made.text words ended (bytes_written old) (bytes_written new) (bytes_written old_errors) (bytes_written new_errors)
closes fate told named made failures old new old_errors new_errors words ended ends are is_empty other folder target choice first asks is_first =
    by_asked fate told named made is_empty folder target choice first (λ rank. told (journal_path folder rank)) (known_files told named are folder first is_first) failures old new old_errors new_errors ended ends.out ends.err ends.output ends.errors words asks ends.asked ends.answers ends.by other
