-- The report of the run that the files hold, or why there is none.
use Rattle.std.proofs.Common.{◌≡◌, ◌∙◌, ℕ, true, Option, Some, None, List, [], ◌++◌, Ok, Err, length, map, refl, sym, ap, subst, arith}
use Rattle.std.specs.Prelude.{Result, IfOk, IfErr, OnOk}
use Rattle.std.specs.Result.{IsErrAnd}
use Rattle.callstore.specs.Recordings.{Lists}
use Rattle.findings.specs.declared.finding.Finding.{Finding}
use Rattle.moves.specs.Analysed.{Analysed}
use Rattle.moves.specs.declared.reading.Reading.{Reading}
use Rattle.waitgraph.specs.Pending.{Known as PendingKnown}
use Rattle.waitgraph.specs.PendingGraphs.{findings_by}
use Rattle.waitgraph.specs.PendingStays.{FitsSinks}
use Rattle.waitgraph.specs.declared.awaited.Awaited.{Awaited}
use Rattle.waitgraph.specs.declared.verdict.Verdict.{Verdict}
use Rattle.waitgraph.specs.declared.verdict.Verdict.TheVariants.{Free}
use Rattle.closing.specs.Entries.{Run, is_window}
use Rattle.closing.specs.Entry.{Choice}
use Rattle.closing.specs.Journals.{run_of}
use Rattle.closing.specs.Recording.{recording_of, calls_of}
use Rattle.closing.specs.Recordings.{RecordingView}
use Rattle.closing.specs.Left.{left_of}
use Rattle.closing.specs.declared.choice.Choice.{Choice as ChoiceMade}
use Rattle.lawful.specs.Free.{IsNoneLeftOpen, IsWhole}
use Rattle.lawful.specs.Laws.{IsRead}
use Rattle.lawful.proofs.FreeLemmas.{what_is_free_is_whole}
use Rattle.report.specs.declared.judged.LineAt.{LineAt}
use Rattle.report.specs.declared.write.Format.{Format}
use Rattle.report.specs.declared.write.Format.TheVariants.{Text, Json}
use Rattle.waitgraph.proofs.PendingStaysLemmas.{held_ranks_stay_by}
use Rattle.judging.specs.JournalTexts.{Known, AreKnown}
use Rattle.judging.specs.Judging.{IsJudgedReport, IsRecordingOfRun, IsFaultOfJudge, IsUnclean, HoldNoRun, is_no_leak, left_words, reported_by}
use Rattle.judging.specs.KnownCalls.{calls_at_opens, judged_choice, known_of}
use Rattle.judging.specs.NamedCalls.{HaveLines, HaveNumbers, calls_in, calls_named, lines_of}
use Rattle.judging.specs.declared.judge.JudgeFault.{JudgeFault}
use Rattle.judging.specs.declared.judge.JudgeFault.TheVariants.{Read, Head, Refused, Unended, Unclean, Memory, Write}
use Rattle.judging.specs.declared.judge.Manner.{Manner}
use Rattle.judging.specs.UnderWay.{EntryAt, unclean_at}
use Rattle.judging.specs.inner.Cuts.{IsGatheredIfCut, IsOfCut}
use Rattle.judging.specs.inner.Reported.{IsLined, IsReportedOf, IsRunOf, IsLate}
use Rattle.judging.specs.inner.Tables.{HasAllLines}
use Rattle.judging.specs.inner.Turns.{HasAll, IsDone, IsFresh}
use Rattle.judging.specs.inner.Unwritten.{IsOfRecording}
use Rattle.judging.proofs.FreeLemmas.{none_left_open}
use Rattle.judging.proofs.HeadOf.{groups_there}
use Rattle.judging.proofs.SinkFitLemmas.{sinks_fit}
use Rattle.judging.proofs.TableLemmas.{numbered}

-- the numbers of lines are those of the lists; in text there is none
numbered_in : (format : Format) (rows : List (List ℕ)) (lines : List LineAt) (it : RecordingView) → (format ≡ Json → HaveNumbers rows lines) → (format ≡ Text → lines ≡ []) →
    (format ≡ Json → HasAllLines it rows) → HaveNumbers (map lines_of (recording_of it.run it.choice).lists) lines
numbered_in Json rows lines it are none all = numbered rows lines it (all refl) (are refl)
numbered_in Text rows lines it are none all =
    subst (λ (ls : List LineAt). HaveNumbers (map lines_of (recording_of it.run it.choice).lists) ls) (sym (none refl)) (λ place other within. absurd (omega (arith, within)))

-- the lists are gathered whose calls an analyser has, if a table has their lines where all journals are cut
gathered : (begun it : RecordingView) (analysed : Analysed) (rows : List (List ℕ)) → HasAll begun it analysed → (is_window begun.run ≡ true → HasAllLines it rows) → IsGatheredIfCut it rows analysed
gathered begun it analysed rows all lines = λ cut. record {
  done = all.done;
  groups = all.groups;
  calls = all.recording;
  lines = lines (ap is_window (sym all.run) ∙ cut);
}

module _ (known : Known) (manner : Manner) (begun : RecordingView) (run : IsRunOf known begun.run) (fresh : IsFresh begun) where
  module _ (it : RecordingView) (analysed : Analysed) (pending : PendingKnown) (choice : begun.choice ≡ judged_choice manner.choice) (has : IsFresh begun → IsRead begun.run → HasAll begun it analysed) (are_known : IsDone it → pending ≡ known_of it.run it.choice) where
    pub judged_report : (rows : List (List ℕ)) (table : IsFresh begun → IsRead begun.run → manner.format ≡ Json → HasAllLines it rows) (window : IsFresh begun → IsRead begun.run → is_window begun.run ≡ true → HasAllLines it rows) →
        (IsGatheredIfCut it rows analysed → unclean_at it.run it.choice ≡ None) → (verdict : Verdict) (report : List ℕ) →
        IsReportedOf it rows analysed pending manner verdict report → IsJudgedReport known manner verdict report
    judged_report rows table window clean verdict report of = record {
      groups = analysed.groups;
      recording = analysed.recording;
      judged = of.judged;
      one_a_rank = of.reported.one_a_rank;
      closed = of.reported.closed;
      pending = pending;
      is_verdict = of.reported.is_verdict;
      at_open = of.at_open;
      are_awaited = of.reported.are_awaited;
      causes = of.reported.causes;
      are_causes = of.reported.are_causes;
      is_text = of.reported.is_text;
      names = of.lines.names;
      held_said = of.held;
      of_run = of_run;
      of_none_refused = run.none_refused;
      free_is_whole = free_is_whole;
    }
      where
        free_is_whole : (first : List ℕ) (texts : ℕ → Option (List ℕ)) (hold : Run) → AreKnown known (length hold) first texts → run_of first texts ≡ Ok hold → verdict ≡ Free →
            IsWhole hold (recording_of hold (judged_choice manner.choice))
        free_is_whole first texts hold are is free =
            let same : begun.run ≡ hold = run.same first texts hold are is in
            let read : IsRead begun.run = record { first = first; texts = texts; is_read = is ∙ ap (λ (r : Run). Ok r) (sym same) } in
            let all = has fresh read in
            let lists_are : analysed.recording ≡ map calls_of (recording_of hold (judged_choice manner.choice)).lists =
            all.recording ∙ ap (λ (c : Choice). map calls_of (recording_of it.run c).lists) (all.choice ∙ choice)
            ∙ ap (λ (r : Run). map calls_of (recording_of r (judged_choice manner.choice)).lists) (all.run ∙ same) in
            what_is_free_is_whole hold (judged_choice manner.choice) (record { first = first; texts = texts; is_read = is })
            (subst (λ (lists : Lists). IsNoneLeftOpen lists) lists_are
            (none_left_open manner.reading analysed.groups analysed.recording of.reported.closed (of.reported.is_verdict.free.0 free)))

        of_run : (first : List ℕ) (texts : ℕ → Option (List ℕ)) (hold : Run) → AreKnown known (length hold) first texts → run_of first texts ≡ Ok hold →
            IsRecordingOfRun hold (judged_choice manner.choice) analysed.groups analysed.recording pending of.judged
        of_run first texts hold are is =
            let same : begun.run ≡ hold = run.same first texts hold are is in
            let read : IsRead begun.run = record { first = first; texts = texts; is_read = is ∙ ap (λ (r : Run). Ok r) (sym same) } in
            let all = has fresh read in
            let own : it.choice ≡ judged_choice manner.choice = all.choice ∙ choice in
            let lists_are : analysed.recording ≡ map calls_of (recording_of it.run (judged_choice manner.choice)).lists =
            all.recording ∙ ap (λ (c : Choice). map calls_of (recording_of it.run c).lists) own in
            let known_are : pending ≡ known_of it.run (judged_choice manner.choice) = are_known all.done ∙ ap (λ (c : Choice). known_of it.run c) own in
            let fits : FitsSinks analysed.recording pending.sinks =
            subst (λ (l : Lists). FitsSinks l pending.sinks) (sym lists_are)
            (subst (λ (k : PendingKnown). FitsSinks (map calls_of (recording_of it.run (judged_choice manner.choice)).lists) k.sinks) (sym known_are) (sinks_fit it.run (judged_choice manner.choice))) in
            subst (λ (r : Run). IsRecordingOfRun r (judged_choice manner.choice) analysed.groups analysed.recording pending of.judged) (all.run ∙ same) (record {
              groups_are = all.groups ∙ sym (groups_there it.run (judged_choice manner.choice));
              lists_are = lists_are;
              known_are = known_are;
              held_stay = λ reading rank held. held_ranks_stay_by reading analysed.groups analysed.recording pending rank fits held;
              findings_are =
                  of.findings all.done
                  ∙ ap (λ (c : Choice). reported_by manner.choice.calls (is_no_leak it.run c) (findings_by analysed.groups analysed.recording pending.sinks)) own;
              left_is = of.left all.done ∙ ap (λ (c : Choice). map left_words (left_of (recording_of it.run c).lists)) own;
              lines_are = subst (λ (c : Choice). HaveNumbers (map lines_of (recording_of it.run c).lists) of.judged.lines.now) own
                  (numbered_in manner.format rows of.judged.lines.now it of.lines.numbers of.lines.none (table fresh read));
              is_clean = subst (λ (c : Choice). unclean_at it.run c ≡ None) own (clean (gathered begun it analysed rows all (window fresh read)));
            })

  -- where the files are known, the entry is that at which the cut of their run isn't clean
  pub cut_fault : (it : RecordingView) (analysed : Analysed) (choice : begun.choice ≡ judged_choice manner.choice) (has : IsFresh begun → IsRead begun.run → HasAll begun it analysed) (rows : List (List ℕ)) (window : IsFresh begun → IsRead begun.run → is_window begun.run ≡ true → HasAllLines it rows) →
      (fault : JudgeFault) → IsOfCut it rows analysed fault → IsFaultOfJudge known manner.choice fault
  cut_fault it analysed choice has rows window (Read fault) is = absurd is
  cut_fault it analysed choice has rows window (Head fault) is = absurd is
  cut_fault it analysed choice has rows window (Refused refusal) is = absurd is
  cut_fault it analysed choice has rows window Unended is = absurd is
  cut_fault it analysed choice has rows window (Unclean entry) is = (is_unclean, run.none_refused)
    where
      is_unclean : IsUnclean known manner.choice entry
      is_unclean first texts hold are reads =
          let same : begun.run ≡ hold = run.same first texts hold are reads in
          let read : IsRead begun.run = record { first = first; texts = texts; is_read = reads ∙ ap (λ (r : Run). Ok r) (sym same) } in
          let all = has fresh read in
          let said : EntryAt = record { rank = entry.rank; line = entry.line } in
          let found : unclean_at it.run it.choice ≡ Some said = is (gathered begun it analysed rows all (window fresh read)) in
          subst (λ (r : Run). unclean_at r (judged_choice manner.choice) ≡ Some said) (all.run ∙ same) (subst (λ (c : Choice). unclean_at it.run c ≡ Some said) (all.choice ∙ choice) found)
  cut_fault it analysed choice has rows window Memory is = tt
  cut_fault it analysed choice has rows window Write is = absurd is

  -- a fault of the recording other than lack of memory comes of no known files
  no_run : (fault : JudgeFault) → (IsFresh begun → IsRead begun.run → fault ≡ Memory) → (fault ≡ Memory → ⊥) → HoldNoRun known
  no_run fault lawful other first texts r are h = other (lawful fresh (record { first = first; texts = texts; is_read = h ∙ ap (λ (o : Run). Ok o) (sym (run.same first texts r are h)) }))

  pub judge_fault : (fault : JudgeFault) → IsOfRecording fault → (IsFresh begun → IsRead begun.run → fault ≡ Memory) → IsFaultOfJudge known manner.choice fault
  judge_fault (Read it) is lawful = absurd is
  judge_fault (Head it) is lawful = (no_run (Head it) lawful (λ same. cc), run.none_refused)
  judge_fault (Refused it) is lawful = (no_run (Refused it) lawful (λ same. cc), run.none_refused)
  judge_fault Unended is lawful = (no_run Unended lawful (λ same. cc), run.none_refused)
  judge_fault (Unclean it) is lawful = ((λ first texts r are h. absurd (no_run (Unclean it) lawful (λ same. cc) first texts r are h)), run.none_refused)
  judge_fault Memory is lawful = tt
  judge_fault Write is lawful = absurd is

pub late_fault : (known : Known) (choice : ChoiceMade) (fault : JudgeFault) → IsLate fault → IsFaultOfJudge known choice fault
late_fault known choice (Read it) is = absurd is
late_fault known choice (Head it) is = absurd is
late_fault known choice (Refused it) is = absurd is
late_fault known choice Unended is = absurd is
late_fault known choice (Unclean it) is = absurd is
late_fault known choice Memory is = tt
late_fault known choice Write is = tt

-- what is so of an answer is so in other words
pub if_ok : {T E : Type 0} (answer : Result T E) (P Q : T → Type 0) → ((it : T) → P it → Q it) → IfOk answer P → IfOk answer Q
if_ok (Ok it) P Q says is = says it is
if_ok (Err fault) P Q says is = tt

pub if_err : {T E : Type 0} (answer : Result T E) (P Q : E → Type 0) → ((it : E) → P it → Q it) → IfErr answer P → IfErr answer Q
if_err (Ok it) P Q says is = tt
if_err (Err fault) P Q says is = says fault is

-- what `?` answers
pub err_as : {T E : Type 0} (answer : Result T E) (fault : E) (P : E → Type 0) → IsErrAnd answer (λ e. e ≡ fault) → P fault → IfErr answer P
err_as (Ok it) fault P is holds = tt
err_as (Err it) fault P is holds = subst P (sym is) holds

pub on_ok : {T E : Type 0} (answer : Result T E) (P Q : Type 0) → (P → Q) → OnOk answer P → OnOk answer Q
on_ok (Ok it) P Q says is = says is
on_ok (Err fault) P Q says is = tt

pub on_ok_both : {T E : Type 0} (answer : Result T E) (P O Q : Type 0) → (P → O → Q) → OnOk answer P → OnOk answer O → OnOk answer Q
on_ok_both (Ok it) P O Q says is also = says is also
on_ok_both (Err fault) P O Q says is also = tt

-- ---- The lines of a report ----

module _ (rows : List (List ℕ)) (manner : Manner) (analysed : Analysed) (pending : PendingKnown) (at_open : List (List Awaited)) (findings : List Finding) where
  pub lined_json : {T E : Type 0} (items_of : T → List LineAt) (answer : Result T E) → manner.format ≡ Json → analysed.reading ≡ manner.reading →
      IfOk answer (λ it. HaveLines (calls_named analysed.reading analysed.groups analysed.recording findings ++ calls_at_opens analysed.reading analysed.groups analysed.recording pending at_open) (items_of it)) →
      IfOk answer (λ it. HaveNumbers rows (items_of it)) → IfOk answer (λ it. IsLined rows manner analysed pending at_open findings (items_of it))
  lined_json items_of (Ok it) json reading names numbers = record {
    names =
        subst (λ (f : Format). HaveLines (calls_in f (calls_named manner.reading analysed.groups analysed.recording findings ++ calls_at_opens manner.reading analysed.groups analysed.recording pending at_open)) (items_of it)) (sym json)
        (subst (λ (r : Reading). HaveLines (calls_named r analysed.groups analysed.recording findings ++ calls_at_opens r analysed.groups analysed.recording pending at_open) (items_of it)) reading names);
    numbers = λ _. numbers;
    none = λ text. absurd (json_text (sym json ∙ text));
  }
    where
      json_text : ◌≡◌ {A = Format} Json Text → ⊥
      json_text h = cc
  lined_json items_of (Err fault) json reading names numbers = tt

  pub lined_text : (lines : List LineAt) → manner.format ≡ Text → lines ≡ [] → IsLined rows manner analysed pending at_open findings lines
  lined_text lines text none = record {
    names =
        subst (λ (f : Format). HaveLines (calls_in f (calls_named manner.reading analysed.groups analysed.recording findings ++ calls_at_opens manner.reading analysed.groups analysed.recording pending at_open)) lines) (sym text)
        (subst (λ (ls : List LineAt). HaveLines [] ls) (sym none) (record { are_these = λ rank place. refl; in_order = refl }));
    numbers = λ json. absurd (text_json (sym text ∙ json));
    none = λ _. none;
  }
    where
      text_json : ◌≡◌ {A = Format} Text Json → ⊥
      text_json h = cc
