-- How a judgement of journals in memory ends, by what the program ends with.
use Rattle.std.proofs.Common.{◌≡◌, ◌≢◌, ◌∙◌, ◌⊎◌, ⊎_elim, ℕ, ◌+◌, Bool, true, false, Option, Some, None, Result, Ok, Err, List, [], ◌∷◌, ◌++◌, ap, inl, inr, length, map, subst, sym, refl, Bor}
use Rattle.std.specs.Prelude.{is_some}
use Rattle.clap.specs.Faults.{fault_of}
use Rattle.clap.specs.Kinds.{IsAmong, Kinds}
use Rattle.clap.specs.declared.error.kind.ErrorKind.{ErrorKind}
use Rattle.clap.specs.Walk.{Text}
use Rattle.mpicall.specs.Devices.{bytes_written}
use Rattle.mpicall.specs.declared.memory.MemoryOutput.{MemoryOutput}
use Rattle.journals.specs.JournalAnswers.{fault_in}
use Rattle.journals.specs.declared.limits.TheConstants.{MOST_RANKS}
use Rattle.closing.specs.Entries.{Run}
use Rattle.closing.specs.Journals.{RankFault, run_of}
use Rattle.judging.specs.JournalTexts.{Known, AreKnown}
use Rattle.judging.specs.Judging.{HoldNoFault, HoldNoRun}
use Rattle.judging.specs.KnownCalls.{judged_choice}
use Rattle.judging.specs.UnderWay.{EntryAt, unclean_at}
use Rattle.judging.specs.declared.judge.Manner.{Manner}
use Rattle.cli_memory.proofs.InMemoryLemmas.{into_memory, left, wrote}
use Rattle.cli.specs.CommandLine.{Answers, Asks, CheckRun, CloseJournals, JudgeJournals, LintTrace, Task, program}
use Rattle.cli.specs.ExitContract.{Ends, EndsBy, EndsInFault, EndsInJudged, Made, TellsLine}
use Rattle.cli.specs.FaultTexts.{line_of_fault}
use Rattle.cli.specs.Faults.{status_of_fault}
use Rattle.cli.specs.JournalFolders.{journal_path, known_by, known_in}
use Rattle.cli.specs.Journals.{IsFaultOfJudge}
use Rattle.cli_memory.specs.JournalsInMemory.{EndsJudge, IsReportOfRun, JudgesJournals, line_of_cut, line_of_first}
use Rattle.cli.specs.Openings.{Fate}
use Rattle.cli.specs.Outputs.{Written, Becomes}
use Rattle.cli.specs.declared.fault.Fault.{Fault}
use Rattle.cli.specs.declared.fault.Fault.TheVariants.{RefusedJournal, UncleanCut, Head, FileCount, Refused, LintRefused}
use Rattle.cli.specs.declared.status.Status.{Status}
use Rattle.cli.specs.declared.status.Status.TheVariants as status
use Rattle.cli.specs.declared.command_line.CommandLine.{CommandLine}
use Rattle.cli.specs.declared.command_line.CommandLine.TheVariants.{Check, Lint, Judge, Close, Said, NoMemory}

-- what a judgement has
abbrev folder_in : Option Task → Text
folder_in (Some (JudgeJournals folder manner)) = folder
folder_in _ = []

abbrev manner_in : Manner → Option Task → Manner
manner_in other (Some (JudgeJournals folder manner)) = manner
manner_in other _ = other

abbrev is_judge : Option Task → Bool
is_judge (Some (JudgeJournals folder manner)) = true
is_judge _ = false

pub not_both : (answer : Result Run RankFault) (run : Run) (fault : RankFault) → answer ≡ Ok run → answer ≡ Err fault → ⊥
not_both answer run fault p q = let e : ◌≡◌ {A = Result Run RankFault} (Ok run) (Err fault) = sym p ∙ q in cc

pub one_fault : (answer : Result Run RankFault) (a b : RankFault) → answer ≡ Err a → answer ≡ Err b → a ≡ b
one_fault answer a b p q = let e : ◌≡◌ {A = Result Run RankFault} (Err a) (Err b) = sym p ∙ q in cc

one_entry : (answer : Option EntryAt) (a b : EntryAt) → answer ≡ Some a → answer ≡ Some b → a ≡ b
one_entry answer a b p q = let e : Some a ≡ Some b = sym p ∙ q in cc

no_entry : (answer : Option EntryAt) (a : EntryAt) → answer ≡ Some a → answer ≡ None → ⊥
no_entry answer a p q = let e : Some a ≡ None = sym p ∙ q in cc

-- all is known of files in memory
known_all : (text : Option Text) (named : Option Bool) → named ≡ Some (is_some text) → known_by text named ≡ Some text
known_all (Some text) named is = refl
known_all None named is = subst (λ (n : Option Bool). known_by None n ≡ Some None) (sym is) refl

pub known_files : (told : Text → Option Text) (named : Text → Option Bool) → ((path : Text) → named path ≡ Some (is_some (told path))) → (folder first : Text) → told (journal_path folder 0) ≡ Some first →
    (ranks : ℕ) → AreKnown (known_in told named folder) ranks first (λ rank. told (journal_path folder rank))
known_files told named are folder first is ranks = record {
  first_is = λ some. known_all (told (journal_path folder 0)) (named (journal_path folder 0)) (are (journal_path folder 0)) ∙ ap (λ (text : Option Text). Some text) is;
  others_are = λ rank later within. known_all (told (journal_path folder rank)) (named (journal_path folder rank)) (are (journal_path folder rank));
}

-- a judgement of journals with these texts
module _ (known : Known) (manner : Manner) (first : Text) (texts : ℕ → Option Text) (are : (ranks : ℕ) → AreKnown known ranks first texts)
    (failures : MemoryOutput → ℕ) (old new old_errors new_errors : MemoryOutput) (ended : Status) (out err : Written) (output : Becomes into_memory failures old new out) (errors : Becomes into_memory failures old_errors new_errors err) where
  abbrev Judgement : Type 0
  Judgement = EndsJudge manner first texts ended (bytes_written old) (bytes_written new) (bytes_written old_errors) (bytes_written new_errors)

  by_report : EndsInJudged known manner ended out err → Judgement
  by_report ends =
      let is = ends.is_report in
      record {
        of_fault = λ fault own. absurd (is.of_none_refused first texts fault (are MOST_RANKS) own);
        of_cut = λ run entry own cut. absurd (no_entry (unclean_at run (judged_choice manner.choice)) entry cut (is.of_run first texts run (are (length run)) own).is_clean);
        of_report = λ run own none. (
          ends.verdict,
          ends.report,
          record {
            groups = is.groups;
            recording = is.recording;
            pending = is.pending;
            judged = is.judged;
            of_run = is.of_run first texts run (are (length run)) own;
            one_a_rank = is.one_a_rank;
            closed = is.closed;
            is_verdict = is.is_verdict;
            at_open = is.at_open;
            are_awaited = is.are_awaited;
            causes = is.causes;
            are_causes = is.are_causes;
            is_text = is.is_text;
            names = is.names;
            held_said = is.held_said;
          },
          ends.status_is,
          wrote failures old new out ends.report output ends.output,
          left failures old_errors new_errors err errors ends.errors,
        );
      }

  by_neither : HoldNoRun known → HoldNoFault known → Judgement
  by_neither no_run no_fault = record {
    of_fault = λ fault own. absurd (no_fault first texts fault (are MOST_RANKS) own);
    of_cut = λ run entry own cut. absurd (no_run first texts run (are (length run)) own);
    of_report = λ run own none. absurd (no_run first texts run (are (length run)) own);
  }

  by_fault : (folder : Text) (fault : Fault) → IsFaultOfJudge known manner.choice folder fault → EndsInFault fault ended out err → ended ≢ status.Fault → Judgement
  by_fault folder (RefusedJournal rank fault) says ends other =
      let own : run_of first texts ≡ Err (record { rank = rank; fault = fault_in fault }) = says first texts (are (rank + 1)) in
      let tells = subst (λ (s : Status). TellsLine s (RefusedJournal rank fault) out err) ends.0 ends.1 in
      record {
        of_fault = λ another found. (
          ends.0,
          subst (λ (it : RankFault). bytes_written new ≡ bytes_written old ++ line_of_first it) (one_fault (run_of first texts) (record { rank = rank; fault = fault_in fault }) another own found)
              (wrote failures old new out (line_of_fault (RefusedJournal rank fault)) output tells.0),
          left failures old_errors new_errors err errors tells.1,
        );
        of_cut = λ run entry found cut. absurd (not_both (run_of first texts) run (record { rank = rank; fault = fault_in fault }) found own);
        of_report = λ run found none. absurd (not_both (run_of first texts) run (record { rank = rank; fault = fault_in fault }) found own);
      }
  by_fault folder (UncleanCut entry) says ends other =
      let tells = subst (λ (s : Status). TellsLine s (UncleanCut entry) out err) ends.0 ends.1 in
      let it : EntryAt = record { rank = entry.rank; line = entry.line } in
      record {
        of_fault = λ fault own. absurd (says.1 first texts fault (are MOST_RANKS) own);
        of_cut = λ run another own cut. (
          ends.0,
          subst (λ (at : EntryAt). bytes_written new ≡ bytes_written old ++ line_of_cut at) (one_entry (unclean_at run (judged_choice manner.choice)) it another (says.0 first texts run (are (length run)) own) cut)
              (wrote failures old new out (line_of_fault (UncleanCut entry)) output tells.0),
          left failures old_errors new_errors err errors tells.1,
        );
        of_report = λ run own none. absurd (no_entry (unclean_at run (judged_choice manner.choice)) it (says.0 first texts run (are (length run)) own) none);
      }
  by_fault folder (Head fault) says ends other = by_neither says.0 says.1
  by_fault folder (Refused refusal) says ends other = by_neither says.0 says.1
  by_fault folder (FileCount ranks count) says ends other = absurd says
  by_fault folder (LintRefused fault) says ends other = absurd says
  by_fault folder fault says ends other = absurd (other ends.0)

-- the words ask to judge the journals in a folder
module _ (folder : Text) (manner : Manner) (words : List Text) (asks : Asks words (JudgeJournals folder manner)) where
  abbrev task : Task
  task = JudgeJournals folder manner

  abbrev IsThat : CommandLine → Type 0
  IsThat asked = (path : Bor Text) × (progress : Bool) × (path.now ≡ folder) × (asked ≡ Judge path manner progress)

  no_kind : (kind : ErrorKind) → IsAmong kind (fault_of program words) → ⊥
  no_kind kind among = subst (λ (kinds : Kinds). IsAmong kind kinds) asks.0 among

  -- they ask for nothing else
  asked_is : (asked : CommandLine) → Answers words asked → (asked ≡ NoMemory) ⊎ IsThat asked
  asked_is (Judge path its progress) answers =
      let e : Some (JudgeJournals path.now its) ≡ Some task = sym answers.1 ∙ asks.1 in
      inr (path, progress, ap folder_in e, ap (λ (m : Manner). Judge path m progress) (ap (manner_in manner) e))
  asked_is (Check path given its progress) answers =
      let e : Some (CheckRun path.now (map (λ file. file.now) given.items) its) ≡ Some task = sym answers.1 ∙ asks.1 in
      let no : false ≡ true = ap is_judge e in cc
  asked_is (Lint path) answers =
      let e : Some (LintTrace path.now) ≡ Some task = sym answers.1 ∙ asks.1 in
      let no : false ≡ true = ap is_judge e in cc
  asked_is (Close path target choice) answers =
      let e : Some (CloseJournals path.now target.now choice) ≡ Some task = sym answers.1 ∙ asks.1 in
      let no : false ≡ true = ap is_judge e in cc
  asked_is (Said said false) (some, (kind, among, is)) = absurd (no_kind kind among)
  asked_is (Said said true) (some, inl found) = absurd (no_kind found.0 found.1)
  asked_is (Said said true) (some, inr none) = let e : None ≡ Some task = sym none.1 ∙ asks.1 in cc
  asked_is NoMemory answers = inl refl

module _ (fate : Text → Fate → Type 0) (told : Text → Option Text) (named : Text → Option Bool) (made : Made) (folder : Text) (manner : Manner) (first : Text) (texts : ℕ → Option Text) (are : (ranks : ℕ) → AreKnown (known_in told named folder) ranks first texts)
    (failures : MemoryOutput → ℕ) (old new old_errors new_errors : MemoryOutput) (ended : Status) (out err : Written) (output : Becomes into_memory failures old new out) (errors : Becomes into_memory failures old_errors new_errors err) where
  abbrev Judged : Type 0
  Judged = EndsJudge manner first texts ended (bytes_written old) (bytes_written new) (bytes_written old_errors) (bytes_written new_errors)

  by_done : (path : Text) → path ≡ folder → EndsInJudged (known_in told named path) manner ended out err → Judged
  by_done path same done =
      by_report (known_in told named folder) manner first texts are failures old new old_errors new_errors ended out err output errors
      (subst (λ (p : Text). EndsInJudged (known_in told named p) manner ended out err) same done)

  by_told : (path : Text) (fault : Fault) → path ≡ folder → IsFaultOfJudge (known_in told named path) manner.choice path fault → EndsInFault fault ended out err → ended ≢ status.Fault → Judged
  by_told path fault same is_fault ends other =
      by_fault (known_in told named folder) manner first texts are failures old new old_errors new_errors ended out err output errors folder fault
      (subst (λ (p : Text). IsFaultOfJudge (known_in told named p) manner.choice p fault) same is_fault) ends other

  by_judged : (path : Text) → path ≡ folder → EndsInJudged (known_in told named path) manner ended out err ⊎ ((fault : Fault) × IsFaultOfJudge (known_in told named path) manner.choice path fault × EndsInFault fault ended out err) → ended ≢ status.Fault → Judged
  by_judged path same (inl done) other = by_done path same done
  by_judged path same (inr it) other = by_told path it.0 same it.1 it.2 other

  no_memory : EndsBy fate told named made NoMemory ended out err → ended ≢ status.Fault → ⊥
  no_memory (inl done) other = done
  no_memory (inr (fault, is, ends)) other = other (ends.0 ∙ ap status_of_fault is)

  by_asked : (asked : CommandLine) (words : List Text) (asks : Asks words (JudgeJournals folder manner)) → Answers words asked → EndsBy fate told named made asked ended out err → ended ≢ status.Fault → Judged
  by_asked asked words asks answers by other =
      ⊎_elim (λ (none : asked ≡ NoMemory). absurd (no_memory (subst (λ (a : CommandLine). EndsBy fate told named made a ended out err) none by) other))
      (λ (it : IsThat folder manner words asks asked). by_judged it.0.now it.2 (subst (λ (a : CommandLine). EndsBy fate told named made a ended out err) it.3 by) other)
      (asked_is folder manner words asks asked answers)

pub judges : (fate : Text → Fate → Type 0) (told : Text → Option Text) (named : Text → Option Bool) (made : Made) (failures : MemoryOutput → ℕ) (old new old_errors new_errors : MemoryOutput) (words : List Text) (ended : Status) →
    Ends into_memory failures into_memory failures fate told named made old new old_errors new_errors words ended → ((path : Text) → named path ≡ Some (is_some (told path))) → ended ≢ status.Fault →
    JudgesJournals told words ended (bytes_written old) (bytes_written new) (bytes_written old_errors) (bytes_written new_errors)
judges fate told named made failures old new old_errors new_errors words ended ends are other folder manner first asks is_first =
    by_asked fate told named made folder manner first (λ rank. told (journal_path folder rank)) (known_files told named are folder first is_first) failures old new old_errors new_errors ended ends.out ends.err ends.output ends.errors ends.asked words asks ends.answers ends.by other
