-- The list of a rank as its entries are taken, against what callers see of it.
use Rattle.std.proofs.Common.{◌≡◌, ◌∙◌, refl, sym, ap, subst, arith, ℕ, ◌+◌, ◌<◌, ◌≤◌, Bool, true, false, List, [], ◌∷◌, ◌++◌, length, map, take, drop, Option, Some, None, option_map, Ok, Err}
use Rattle.std.specs.Prelude.{is_none}
use Rattle.mpicall.specs.declared.call.Call.{Call}
use Rattle.mpicall.specs.declared.call.Call.TheVariants.{Finalize, Open}
use Rattle.journals.specs.Journal.{Journal}
use Rattle.journals.specs.Taking.{word_at}
use Rattle.journals.specs.declared.word.Word.TheVariants.{Call as CallLine}
use Rattle.journals.specs.declared.word.CallWord.{CallWord}
use Rattle.closing.specs.Entries.{Run, Placed, journal_at}
use Rattle.closing.specs.Entry.{Choice, matched_message}
use Rattle.closing.specs.Fit.{EntriesFit, TestsFit}
use Rattle.closing.specs.Steps.{Own, Step, Written, after_steps}
use Rattle.closing.specs.Recording.{Listed, cut, ended, list_from, list_of, most_records, outcome_in, whole_list, without_journal}
use Rattle.closing.specs.Sinks.{GoesOn}
use Rattle.closing.specs.Recordings.{left_in}
use Rattle.closing.specs.inner.Holds.{HasComms}
use Rattle.closing.specs.inner.Lists.{Handed}
use Rattle.closing.specs.inner.Noted.{reports_in}
use Rattle.closing.specs.inner.SoFar.{AreEarlier, Entered, HasCalls, IsOn, IsPart, IsSoFar, comms_at, entries_left, placed_here}
use Rattle.closing.specs.inner.Standings.{message_for}
use Rattle.closing.specs.inner.Taken.{IsKept}
use Rattle.closing.specs.Table.{Table}
use Rattle.closing.specs.declared.list.List.{List as ListCode}
use Rattle.closing.specs.declared.stop.Stop.TheVariants.{Left}
use Rattle.closing.specs.declared.walk.Left.{Left as LeftAt}
use Rattle.closing.specs.declared.walk.Walk.{Walk}
use Rattle.closing.specs.declared.why.Why.{Why}
use Rattle.closing.proofs.EndedLemmas.{earlier_both, earlier_more, earlier_of}
use Rattle.closing.proofs.LineLemmas.{IsEnded, calls_ended, calls_so_far, steps_by}
use Rattle.closing.proofs.EnteredLemmas.{CameOn, entered_end, entered_left, entered_on}
use Rattle.closing.proofs.PlacedLemmas.{entries_after_reports, entries_at_call, entries_at_end, none_after}
use Rattle.closing.proofs.WalkingLemmas.{list_begins}

-- at a line, for a reason, if there is one
abbrev pub left_as : ℕ → Option Why → Option LeftAt
left_as line why = option_map (λ it. record { line = line; why = it }) why

-- the list of a rank with a journal is that of its entries, cut where it is too long
pub list_is_cut : (run : Run) (choice : Choice) (rank : ℕ) (journal : Journal) → journal_at run rank ≡ Some journal → list_of run choice rank ≡ cut (whole_list run choice rank)
list_is_cut run choice rank journal e = ap (λ it. without_journal (is_none it) (cut (whole_list run choice rank))) e

-- a list that goes on is a part of the list of the definitions
pub part_of_on : (run : Run) (choice : Choice) (table : Table) (walk : Walk) → IsOn run choice table walk → walk.is_over ≡ false → IsPart (list_of run choice walk.rank) walk
part_of_on run choice table walk on goes =
    let so_far = on.so_far in
    let whole = whole_list run choice walk.rank in
    let begun = list_begins run choice so_far.progress (entries_left walk.rank on.journal walk.next) in
    let records : whole.records ≡ so_far.progress.records ++ begun.0 = ap (λ it. it.records) (sym so_far.list) ∙ begun.1 in
    let few : length so_far.progress.records < most_records = omega (arith, so_far.stands.count, so_far.stands.short) in
    let has = calls_so_far whole so_far.handed.calls walk.list.records so_far.progress.records begun.0 walk.before walk.line records few so_far.stands.records on.lines in
    record {
      handed = so_far.handed.calls;
      rest = has.0;
      has = subst (λ (it : Listed). HasCalls it so_far.handed.calls walk.list.records has.0 walk.before walk.line) (sym (list_is_cut run choice walk.rank on.journal on.there)) has.1;
      count = so_far.count;
      over = λ is. absurd (true_false walk.is_over is goes);
    }
  where
    true_false : (b : Bool) → b ≡ true → b ≡ false → ⊥
    true_false true is goes = cc (goes)
    true_false false is goes = cc (is)

-- so is one that has ended
pub part_of_ended : (run : Run) (choice : Choice) (rank : ℕ) (journal : Journal) (handed : Handed) (list : ListCode) (end : Call) (why : Option Why) (walk : Walk) → journal_at run rank ≡ Some journal
    → IsEnded (cut (whole_list run choice rank)) handed list end walk.before walk.line why → walk.list.records ≡ list.records ++ end ∷ [] → length handed.calls ≡ walk.handed
    → walk.left ≡ left_as walk.line why → IsPart (list_of run choice rank) walk
part_of_ended run choice rank journal handed list end why walk there is same count left =
    let whole = cut (whole_list run choice rank) in
    let left_is : left_in whole ≡ left_as walk.line why =
    ap (λ line. left_as line whole.why) is.line_is ∙ ap (left_as walk.line) is.why_is in
    subst (λ (it : Listed). IsPart it walk) (sym (list_is_cut run choice rank journal there))
    (record {
      handed = handed.calls;
      rest = [];
      has = subst (λ (xs : List Call). HasCalls whole handed.calls xs [] walk.before walk.line) (sym same) is.has;
      count = count;
      over = λ over. (refl, left ∙ sym left_is);
    })

-- where no entry is left the list is left open
pub ended_open : (run : Run) (choice : Choice) (journal : Journal) (table : Table) (walk : Walk) (before : ℕ) → (so_far : IsSoFar run choice journal table walk)
    → drop walk.next journal.lines ≡ [] → length so_far.progress.records ≤ before
    → IsEnded (cut (whole_list run choice walk.rank)) so_far.handed walk.list Open before 0 None
ended_open run choice journal table walk before so_far none count =
    let progress = so_far.progress in
    let few : length progress.records < most_records = omega (arith, so_far.stands.count, so_far.stands.short) in
    let whole : ended progress Open 0 None ≡ whole_list run choice walk.rank =
    ap (λ entries. list_from run choice progress entries) (sym (entries_at_end walk.rank journal walk.next none)) ∙ so_far.list in
    subst (λ (it : Listed). IsEnded (cut it) so_far.handed walk.list Open before 0 None) whole
    (calls_ended progress so_far.handed walk.list Open before 0 None few so_far.stands.records so_far.stands.places
    (λ place from within. absurd (omega (arith, from, within, count))))

-- ---- The next entry ----

module _ (run : Run) (choice : Choice) (journal : Journal) (table now : Table) (old new : Walk) (word : CallWord) (so_far : IsSoFar run choice journal table old)
    (there : word_at journal.lines old.next ≡ Some (CallLine word)) where
  abbrev placed : Placed
  placed = placed_here old.rank journal old.next word

  abbrev after : ℕ
  after = old.next + 1 + length (reports_in (drop (old.next + 1) journal.lines))

  others_are : entries_left old.rank journal old.next ≡ placed ∷ entries_left old.rank journal after
  others_are =
      entries_at_call old.rank journal old.next word there
      ∙ ap (λ others. placed ∷ others) (entries_after_reports old.rank journal (old.next + 1) (length (reports_in (drop (old.next + 1) journal.lines))) refl)

  pub list_left : list_from run choice so_far.progress (placed ∷ entries_left old.rank journal after) ≡ whole_list run choice old.rank
  list_left = ap (λ entries. list_from run choice so_far.progress entries) (sym others_are) ∙ so_far.list

  fit_left : EntriesFit run choice so_far.progress (placed ∷ entries_left old.rank journal after)
  fit_left = subst (λ (entries : List Placed). EntriesFit run choice so_far.progress entries) others_are so_far.fit

  tests_left : TestsFit run choice so_far.progress (placed ∷ entries_left old.rank journal after)
  tests_left = subst (λ (entries : List Placed). TestsFit run choice so_far.progress entries) others_are so_far.tests

  -- what else is known of the walk after it
  pub record IsNext (line before : ℕ) (steps : List Step) : Type 0 where
    pub rank : new.rank ≡ old.rank
    pub next : new.next ≡ after
    pub handed : new.handed ≡ old.handed
    pub line_is : new.line ≡ line
    pub before_is : new.before ≡ before
    pub left : new.left ≡ None
    pub last : new.last ≡ old.last
    pub outcomes : new.requests.outcomes ≡ old.requests.outcomes
    pub late : map Own new.late.items ≡ (after_steps so_far.progress line steps).late
    pub kept : IsKept (after_steps so_far.progress line steps).records new
    pub comms : HasComms now new.comms (comms_at old.rank journal.lines after)
    pub requests : (request : ℕ) → message_for new.requests request ≡ matched_message (take after journal.lines) request

  goes_on : (before : ℕ) (steps : List Step) → CameOn run choice (entries_left old.rank journal after) (whole_list run choice old.rank) so_far.handed placed.line before steps so_far.progress new.list
      → IsNext placed.line before steps → journal_at run old.rank ≡ Some journal → IsOn run choice now new
  goes_on before steps came is at = record {
    journal = journal;
    there = ap (journal_at run) is.rank ∙ at;
    so_far = record {
      handed = so_far.handed;
      progress = after_steps so_far.progress placed.line steps;
      count = so_far.count ∙ sym is.handed;
      frees = so_far.frees;
      stands = came.stands;
      late = is.late;
      kept = is.kept;
      earlier =
          let by = steps_by placed.line so_far.progress steps in
          subst (λ (records : List Written). AreEarlier (new.next + 2) records) (sym by.records)
          (earlier_both (new.next + 2) so_far.progress.records by.more
          (earlier_more (old.next + 2) (new.next + 2) so_far.progress.records (omega (arith, is.next)) so_far.earlier)
          (earlier_of placed.line (new.next + 2) by.more (omega (arith, is.next)) by.all));
      list =
          ap (λ rank. list_from run choice (after_steps so_far.progress placed.line steps) (entries_left rank journal new.next)) is.rank
          ∙ ap (λ n. list_from run choice (after_steps so_far.progress placed.line steps) (entries_left old.rank journal n)) is.next
          ∙ came.list ∙ ap (whole_list run choice) (sym is.rank);
      fit = rw (is.rank, is.next) came.fit;
      tests = rw (is.rank, is.next) came.tests;
      comms = rw (is.rank, is.next) is.comms;
      last = rw is.last so_far.last;
      reported = rw is.outcomes so_far.reported;
      requests = λ request. is.requests request ∙ ap (λ n. matched_message (take n journal.lines) request) (sym is.next);
      at_call =
          ap (λ n. reports_in (drop n journal.lines)) is.next
          ∙ none_after journal.lines (old.next + 1) (length (reports_in (drop (old.next + 1) journal.lines))) refl;
      left = is.left;
    };
    lines = rw (is.line_is, is.before_is) came.lines;
  }

  -- with one with which the list goes on, it does
  pub entry_goes_on : (before : ℕ) → length so_far.progress.records ≤ before
      → Entered (Ok false) (outcome_in run choice so_far.progress.records placed) so_far.handed so_far.progress placed.line new.list
      → ((steps : List Step) → outcome_in run choice so_far.progress.records placed ≡ GoesOn steps → IsNext placed.line before steps) → journal_at run old.rank ≡ Some journal → IsOn run choice now new
  entry_goes_on before count entered is at =
      let came = entered_on run choice placed (entries_left old.rank journal after) (whole_list run choice old.rank) so_far.handed before so_far.progress new.list list_left fit_left tests_left count entered in
      goes_on before came.0 came.1.1 (is came.0 came.1.0) at

  -- the rank's last call
  pub entry_ends : (before : ℕ) (list : ListCode) → length so_far.progress.records ≤ before
      → Entered (Ok true) (outcome_in run choice so_far.progress.records placed) so_far.handed so_far.progress placed.line list
      → IsEnded (cut (whole_list run choice old.rank)) so_far.handed list Finalize before placed.line None
  entry_ends before list count entered =
      entered_end run choice placed (entries_left old.rank journal after) (whole_list run choice old.rank) so_far.handed before so_far.progress list list_left count entered

  -- one at which the list is left
  pub entry_leaves : (before : ℕ) (list : ListCode) (why : Why) → length so_far.progress.records ≤ before
      → Entered (Err (Left why)) (outcome_in run choice so_far.progress.records placed) so_far.handed so_far.progress placed.line list
      → IsEnded (cut (whole_list run choice old.rank)) so_far.handed list Open before placed.line (Some why)
  entry_leaves before list why count entered =
      entered_left run choice placed (entries_left old.rank journal after) (whole_list run choice old.rank) so_far.handed before so_far.progress list why list_left count entered
