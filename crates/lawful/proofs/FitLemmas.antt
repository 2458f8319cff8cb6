-- What entries of a run that was read stand for fits the lists so far.
use Rattle.std.proofs.Common.{◌≡◌, ℕ, zero, suc, ◌+◌, ◌≤◌, ◌<◌, true, false, get_or, Option, Some, None, List, [], ◌∷◌, ◌++◌, length, refl, sym, subst, arith}
use Rattle.std.specs.Prelude.{⊤}
use Rattle.journals.specs.Lines.{Line}
use Rattle.journals.specs.Journal.{Journal}
use Rattle.journals.specs.Entries.{listing_of}
use Rattle.journals.specs.Known.{has_report}
use Rattle.journals.specs.Faults.{ends_journal}
use Rattle.journals.specs.declared.limits.TheConstants.{MOST_RANKS}
use Rattle.journals.specs.declared.field.Field.{Field}
use Rattle.journals.specs.declared.word.Word.{Word}
use Rattle.journals.specs.declared.word.Word.TheVariants.{Call, Report}
use Rattle.journals.specs.declared.word.CallWord.{CallWord}
use Rattle.journals.specs.declared.word.ReportWord.TheVariants as report
use Rattle.closing.specs.RankComms.{RankComms, comms_first, after_line}
use Rattle.closing.specs.Entries.{Run, Placed, journal_at, lines_in, entries_from, entries_in, entries_at}
use Rattle.closing.specs.Steps.{Progress, after_steps}
use Rattle.closing.specs.Endings.{size_at}
use Rattle.closing.specs.Entry.{Choice}
use Rattle.closing.specs.Recording.{is_end, outcome_in, progress_first}
use Rattle.closing.specs.Sinks.{Outcome, GoesOn, Ends}
use Rattle.lawful.proofs.RightLines.{AreRight, IsRight}
use Rattle.lawful.proofs.NewNumbers.{IsFree, IsNew, StartsNew, free_before, called_new}
use Rattle.lawful.proofs.NewSteps.{NewSteps, NoneActive, StaysFree, steps_fit, outcome_in_new}
use Rattle.lawful.proofs.RunFacts.{right_of_rank}
use Rattle.lawful.proofs.RunFull.{RunFull, run_full, journal_at_full}
use Rattle.lawful.proofs.RangedLists.{EntryFull, EntriesFull, entries_full, OutcomeOk, outcome_in_ok, preface_in}
use Rattle.lawful.proofs.FullFacts.{LinesFull}
use Rattle.lawful.proofs.JournalEnds.{OnlyLastEnds, only_last}
use Rattle.lawful.proofs.OutcomesOnce.{once_more, lines_formed}
use Rattle.lawful.proofs.CommGroups.{SmallGroup, SmallGroups, small_groups}
use Rattle.lawful.proofs.EndWords.{end_word}
use Rattle.lawful.proofs.CommsFit.{fit_comms}
use Rattle.lawful.proofs.NamedRequests.{names_known}
use Rattle.lawful.proofs.TestLemmas.{tests_fit}
use Rattle.closing.specs.Fit.{AllFit, steps_in, FitsOn, EntriesFit, AreFormed, report_count}
use Rattle.lawful.specs.Fit.{EachRunThatWasReadIsFit}

-- ---- Entries ----

outcome_fits : (Free Left : ℕ → Type 0) (progress : Progress) (line : ℕ) (outcome : Outcome) (others : Progress → Type 0) → OutcomeOk outcome → NewSteps Free Left (steps_in outcome) → NoneActive Free progress.active → ((next : Progress) → NoneActive Left next.active → others next) → AllFit progress line (steps_in outcome) × FitsOn progress line outcome others
outcome_fits Free Left progress line (GoesOn steps) others ok new none rest =
    let fits = steps_fit Free Left progress line steps ok.0 ok.1 new none in
    (fits.0, rest (after_steps progress line steps) fits.1)
outcome_fits Free Left progress line (Ends steps end why) others ok new none rest =
    ((steps_fit Free Left progress line steps ok.0 ok.1 new none).0, tt)

entry_fits : (Free Left : ℕ → Type 0) (run : Run) (choice : Choice) (placed : Placed) (others : List Placed) (progress : Progress) → RunFull run → EntryFull run placed → StaysFree Free Left → StartsNew (IsNew Free Left) placed.called → NoneActive Free progress.active → ((next : Progress) → NoneActive Left next.active → EntriesFit run choice next others) → EntriesFit run choice progress (placed ∷ others)
entry_fits Free Left run choice placed others progress full entry le new none rest =
    outcome_fits Free Left progress placed.line (outcome_in run choice progress.records placed) (λ after. EntriesFit run choice after others)
    (outcome_in_ok run choice progress.records placed full entry) (outcome_in_new Free Left run choice progress.records placed le new) none rest

put_fits : (run : Run) (choice : Choice) (rank : ℕ) (journal : Journal) (number : ℕ) (comms : RankComms) (before : List Line) (word : Word) (fields : List Field) (lines : List Line) (progress : Progress) → RunFull run → IsRight before (record { word = word; fields = fields }) → EntriesFull run (entries_from rank journal number comms (record { word = word; fields = fields } ∷ lines)) → NoneActive (IsFree before) progress.active → ((next : Progress) → EntriesFull run (entries_from rank journal (number + 1) (after_line comms (record { word = word; fields = fields })) lines) → NoneActive (IsFree (before ++ record { word = word; fields = fields } ∷ [])) next.active → EntriesFit run choice next (entries_from rank journal (number + 1) (after_line comms (record { word = word; fields = fields })) lines)) → EntriesFit run choice progress (entries_from rank journal number comms (record { word = word; fields = fields } ∷ lines))
put_fits run choice rank journal number comms before (Call word) fields lines progress full right all none rest =
    entry_fits (IsFree before) (IsFree (before ++ record { word = Call word; fields = fields } ∷ [])) run choice _ _ progress full all.0
    (free_before before (record { word = Call word; fields = fields })) (called_new before word fields right) none (λ next left. rest next all.1 left)
put_fits run choice rank journal number comms before (Report word) fields lines progress full right all none rest =
    rest progress all (λ other free. none other (free_before before (record { word = Report word; fields = fields }) other free))

from_fits : (run : Run) (choice : Choice) (rank : ℕ) (journal : Journal) (number : ℕ) (comms : RankComms) (before lines : List Line) (progress : Progress) → RunFull run → AreRight before lines → EntriesFull run (entries_from rank journal number comms lines) → NoneActive (IsFree before) progress.active → EntriesFit run choice progress (entries_from rank journal number comms lines)
from_fits run choice rank journal number comms before [] progress full right all none = tt
from_fits run choice rank journal number comms before (line ∷ lines) progress full right all none =
    put_fits run choice rank journal number comms before line.word line.fields lines progress full right.0 all none
    (λ next others left. from_fits run choice rank journal (number + 1) (after_line comms line) (before ++ line ∷ []) lines next full right.1 others left)

-- the lines of the journal of a rank are right, if it has one
abbrev RightJournal : Option Journal → Type 0
RightJournal o = (journal : Journal) → o ≡ Some journal → AreRight [] journal.lines

in_fits : (run : Run) (choice : Choice) (rank : ℕ) (o : Option Journal) → RunFull run → RightJournal o → EntriesFull run (entries_in rank o) → EntriesFit run choice (progress_first run rank) (entries_in rank o)
in_fits run choice rank None full right all = tt
in_fits run choice rank (Some journal) full right all =
    from_fits run choice rank journal 2 (comms_first rank) [] journal.lines (progress_first run rank) full (right journal refl) all (λ number free. refl)

-- ---- Ends ----

abbrev NoneFailed : List Placed → Type 0
NoneFailed [] = ⊤
NoneFailed (placed ∷ others) = (is_end placed.called ≡ true → has_report report.Failed placed.entry ≡ false) × NoneFailed others

no_reports : (lines : List Line) (word : CallWord) (fields : List Field) → lines ≡ [] → has_report report.Failed (record { word = word; fields = fields; reports = (listing_of lines).early }) ≡ false
no_reports lines word fields h = subst (λ (ls : List Line). has_report report.Failed (record { word = word; fields = fields; reports = (listing_of ls).early }) ≡ false) (sym h) refl

put_ends : (rank : ℕ) (journal : Journal) (number : ℕ) (comms : RankComms) (word : Word) (fields : List Field) (lines : List Line) → (ends_journal word ≡ true → lines ≡ []) → NoneFailed (entries_from rank journal (number + 1) (after_line comms (record { word = word; fields = fields })) lines) → NoneFailed (entries_from rank journal number comms (record { word = word; fields = fields } ∷ lines))
put_ends rank journal number comms (Call word) fields lines last others = (λ is. no_reports lines word fields (last (end_word word fields is)), others)
put_ends rank journal number comms (Report word) fields lines last others = others

from_ends : (rank : ℕ) (journal : Journal) (number : ℕ) (comms : RankComms) (lines : List Line) → OnlyLastEnds lines → NoneFailed (entries_from rank journal number comms lines)
from_ends rank journal number comms [] only = tt
from_ends rank journal number comms (line ∷ lines) only =
    put_ends rank journal number comms line.word line.fields lines only.0 (from_ends rank journal (number + 1) (after_line comms line) lines only.1)

in_ends : (rank : ℕ) (o : Option Journal) → RightJournal o → NoneFailed (entries_in rank o)
in_ends rank None right = tt
in_ends rank (Some journal) right = from_ends rank journal 2 (comms_first rank) journal.lines (only_last [] journal.lines (right journal refl))

ends_there : (entries : List Placed) (placed : Placed) (k : ℕ) → NoneFailed entries → k < length entries → get_or entries k placed ≡ placed → is_end placed.called ≡ true → has_report report.Failed placed.entry ≡ false
ends_there [] placed k none within is = absurd (omega (arith, within))
ends_there (first ∷ entries) placed zero none within is =
    subst (λ (it : Placed). is_end it.called ≡ true → has_report report.Failed it.entry ≡ false) is none.0
ends_there (first ∷ entries) placed (suc k) none within is = ends_there entries placed k none.1 (omega (arith, within)) is

-- ---- Lines ----

in_once : (o : Option Journal) (request : ℕ) → RightJournal o → report_count (lines_in o) request ≤ 1
in_once None request right = omega arith
in_once (Some journal) request right = once_more [] journal.lines request (right journal refl)

in_formed : (ranks : ℕ) (o : Option Journal) → ((journal : Journal) → o ≡ Some journal → LinesFull ranks journal.lines) → AreFormed (lines_in o)
in_formed ranks None full = tt
in_formed ranks (Some journal) full = lines_formed ranks journal.lines (full journal refl)

-- ---- A run ----

small_there : (run : Run) (entries : List Placed) (placed : Placed) (k : ℕ) → SmallGroups run entries → k < length entries → get_or entries k placed ≡ placed → SmallGroup run placed
small_there run [] placed k small within is = absurd (omega (arith, within))
small_there run (first ∷ entries) placed zero small within is = subst (λ (it : Placed). SmallGroup run it) is small.0
small_there run (first ∷ entries) placed (suc k) small within is = small_there run entries placed k small.1 (omega (arith, within)) is

pub each_run_that_was_read_is_fit : EachRunThatWasReadIsFit
each_run_that_was_read_is_fit run choice read =
    let full = run_full read.first read.texts run read.is_read in
    let right = λ (rank : ℕ) (journal : Journal) (h : journal_at run rank ≡ Some journal). right_of_rank read.first read.texts run read.is_read rank journal h in
    record {
      ranks = full.fits.1;
      sizes = λ rank placed there.
          le_le (size_at run placed) (length run) MOST_RANKS (small_there run (entries_at run rank) placed there.0 (small_groups run rank full) there.1 there.2) full.fits.1;
      comms = fit_comms run read;
      prefaces = λ rank within. preface_in run rank full;
      entries = λ rank within. in_fits run choice rank (journal_at run rank) full (right rank) (entries_full run rank full);
      named = λ rank placed there. names_known run read rank placed there;
      tests = λ rank within. tests_fit run choice rank read;
      formed = λ rank. in_formed (length run) (journal_at run rank) (λ journal h. journal_at_full run rank journal full h);
      once = λ rank request. in_once (journal_at run rank) request (right rank);
      ends = λ rank placed there is. ends_there (entries_at run rank) placed there.0 (in_ends rank (journal_at run rank) (right rank)) there.1 there.2 is;
    }
  where
    le_le : (a b c : ℕ) → a ≤ b → b ≤ c → a ≤ c
    le_le a b c ab bc = omega (arith, ab, bc)
