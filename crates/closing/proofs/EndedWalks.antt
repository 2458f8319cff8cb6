-- What is known of the list of a rank that has ended, by what was kept as its last entry was taken.
use Rattle.std.proofs.Common.{◌≡◌, ◌∙◌, refl, sym, ap, subst, arith, ℕ, zero, suc, ◌+◌, ◌-◌, ◌<◌, ◌≤◌, true, List, [], ◌∷◌, ◌++◌, length, length-append, take, drop, Option, Some, None, Ok, Err}
use Rattle.mpicall.specs.declared.call.Call.{Call}
use Rattle.mpicall.specs.declared.call.Call.TheVariants.{Finalize, Open}
use Rattle.journals.specs.Journal.{Journal}
use Rattle.journals.specs.Taking.{word_at}
use Rattle.journals.specs.declared.word.CallWord.{CallWord}
use Rattle.journals.specs.declared.word.Word.TheVariants.{Call as CallLine}
use Rattle.closing.specs.Entries.{Placed, Run, journal_at}
use Rattle.closing.specs.Entry.{Choice}
use Rattle.closing.specs.Fit.{steps_in}
use Rattle.closing.specs.Pending.{sinks_from}
use Rattle.closing.specs.Recording.{Listed, cut, ended, list_from, list_of, most_records, outcome_in, whole_list}
use Rattle.closing.specs.Sinks.{Outcome, Ends}
use Rattle.closing.specs.Steps.{Progress, Step, Written, after_steps}
use Rattle.closing.specs.Table.{Table}
use Rattle.closing.specs.inner.Noted.{reports_in}
use Rattle.closing.specs.inner.SoFar.{AreEarlier, Entered, IsSoFar, entries_left, placed_here}
use Rattle.closing.specs.inner.Taken.{CutKept, EndsKept, IsKept, IsKnown, StopsKept}
use Rattle.closing.specs.declared.stop.Stop.TheVariants.{Left}
use Rattle.closing.specs.declared.walk.Walk.{Walk}
use Rattle.closing.specs.declared.why.Why.{Why}
use Rattle.closing.specs.declared.why.Why.TheVariants.{NeverCameBack, NeverReported, Failed, NoNumber, TooLong, CannotBe, Stopped, Aborted, Full, Cut, NoJournal, NotJudged}
use Rattle.closing.proofs.EndedLemmas.{known_ends, known_long, known_of, known_open, pending_here, taken_of_line}
use Rattle.closing.proofs.EnteredLemmas.{end_is, entered_left, left_is, long_is}
use Rattle.closing.proofs.LineLemmas.{steps_by}
use Rattle.closing.proofs.ListLemmas.{AllOfLine, take_past}
use Rattle.closing.proofs.PartLemmas.{cut_long, cut_short}
use Rattle.closing.proofs.PlacedLemmas.{entries_at_call, entries_at_end}
use Rattle.closing.proofs.WalkLemmas.{list_is_cut, list_left}

-- so it is of a walk that has the same
pub known_as : (run : Run) (choice : Choice) (old new : Walk) → new.rank ≡ old.rank → new.sinks ≡ old.sinks → new.pending ≡ old.pending → new.left_out ≡ old.left_out
    → IsKnown run choice old → IsKnown run choice new
known_as run choice old new rank sinks pending left_out known = record {
  sinks = rw (rank, sinks) known.sinks;
  pending = rw (rank, pending) known.pending;
  left_out = rw (rank, left_out) known.left_out;
}

take_short : (n : ℕ) (xs ys : List Written) → n ≤ length xs → take n (xs ++ ys) ≡ take n xs
take_short zero xs ys h = refl
take_short (suc n) [] ys h = absurd (omega (arith, h))
take_short (suc n) (x ∷ xs) ys h = ap (λ (zs : List Written). x ∷ zs) (take_short n xs ys (omega (arith, h)))

module _ (run : Run) (choice : Choice) (journal : Journal) (table : Table) (old : Walk) (so_far : IsSoFar run choice journal table old) (there : journal_at run old.rank ≡ Some journal) where
  abbrev progress : Progress
  progress = so_far.progress

  abbrev whole : Listed
  whole = whole_list run choice old.rank

  few : length so_far.progress.records < most_records
  few = omega (arith, so_far.stands.count, so_far.stands.short)

  listed : list_of run choice old.rank ≡ cut (whole_list run choice old.rank)
  listed = list_is_cut run choice old.rank journal there

  -- no entry was left
  pub opened_known : drop old.next journal.lines ≡ [] → IsKnown run choice old
  opened_known none =
      let list = ended so_far.progress Open 0 None in
      let is : list ≡ whole_list run choice old.rank =
      ap (λ entries. list_from run choice so_far.progress entries) (sym (entries_at_end old.rank journal old.next none)) ∙ so_far.list in
      known_of run choice old.rank list old refl (listed ∙ ap cut (sym is) ∙ cut_short list few)
      (known_open run choice old.rank list old refl refl so_far.kept)

  module _ (word : CallWord) (call : word_at journal.lines old.next ≡ Some (CallLine word)) (one : Walk) (rank_is : one.rank ≡ old.rank) where
    abbrev placed : Placed
    placed = placed_here old.rank journal old.next word

    abbrev others : List Placed
    others = entries_left old.rank journal (old.next + 1 + length (reports_in (drop (old.next + 1) journal.lines)))

    abbrev outcome : Outcome
    outcome = outcome_in run choice so_far.progress.records (placed_here old.rank journal old.next word)

    list_is : list_from run choice so_far.progress (placed ∷ others) ≡ whole_list run choice old.rank
    list_is = list_left run choice journal table table old old word so_far call

    -- the rank's last call was taken
    pub final_known : Entered (Ok true) outcome so_far.handed so_far.progress (old.next + 2) one.list
        → ((steps : List Step) (end : Call) (why : Option Why) → outcome ≡ Ends steps end why → IsKept (after_steps so_far.progress (old.next + 2) steps).records one) → IsKnown run choice one
    final_known entered kept =
        let found = end_is run choice placed others (whole_list run choice old.rank) so_far.handed (length so_far.progress.records) so_far.progress one.list list_is entered in
        let list = ended (after_steps so_far.progress (old.next + 2) found.0) Finalize (old.next + 2) None in
        known_of run choice old.rank list one rank_is (listed ∙ found.1.1)
        (known_open run choice old.rank list one rank_is refl (kept found.0 Finalize None found.1.0))

    left_known : (why : Why) → (why ≡ TooLong → ⊥) → Entered (Err (Left why)) outcome so_far.handed so_far.progress (old.next + 2) one.list
        → EndsKept run choice placed outcome why so_far.progress one → IsKnown run choice one
    left_known why short entered kept =
        let found = left_is run choice placed others (whole_list run choice old.rank) so_far.handed (length so_far.progress.records) so_far.progress one.list why short list_is entered in
        let list = ended (after_steps so_far.progress (old.next + 2) found.0) Open (old.next + 2) (Some why) in
        let by = steps_by (old.next + 2) so_far.progress found.0 in
        known_of run choice old.rank list one rank_is (listed ∙ found.1.1)
        (known_ends run choice placed old.rank list why so_far.progress.records by.more one rank_is refl by.records so_far.earlier by.all
        (kept.sinks found.0 Open (Some why) found.1.0) (kept.pending found.0 Open (Some why) found.1.0)
        (pending_here run old.rank journal old.next word list why there (entries_at_call old.rank journal old.next word call) refl refl) kept.left_out)

    long_known : Entered (Err (Left TooLong)) outcome so_far.handed so_far.progress (old.next + 2) one.list → CutKept placed outcome so_far.progress one → IsKnown run choice one
    long_known entered kept =
        let found = long_is run choice placed others (whole_list run choice old.rank) so_far.handed (length so_far.progress.records) so_far.progress one.list list_is entered in
        let is =
        entered_left run choice placed others (whole_list run choice old.rank) so_far.handed (length so_far.progress.records) so_far.progress one.list TooLong list_is (omega arith) entered in
        let list = cut (whole_list run choice old.rank) in
        let after = after_steps so_far.progress (old.next + 2) (steps_in outcome) in
        let by = steps_by (old.next + 2) so_far.progress (steps_in outcome) in
        let long : most_records ≤ length (whole_list run choice old.rank).records =
        rw found.0.1 (omega (arith, found.1, length-append after.records found.0.0)) in
        let taken : list.records ≡ take (most_records - 1) after.records =
        ap (λ (it : Listed). it.records) (cut_long (whole_list run choice old.rank) long)
        ∙ ap (take (most_records - 1)) found.0.1 ∙ take_short (most_records - 1) after.records found.0.0 (omega (arith, found.1)) in
        let n = most_records - 1 - length so_far.progress.records in
        let begins : list.records ≡ so_far.progress.records ++ take n by.more =
        taken ∙ ap (take (most_records - 1)) by.records ∙ take_past (most_records - 1) so_far.progress.records by.more (omega (arith, few)) in
        known_of run choice old.rank list one rank_is listed
        (known_long run choice old.rank list so_far.progress.records (take n by.more) one rank_is is.why_is begins
        (subst (λ (line : ℕ). AreEarlier line so_far.progress.records) (sym is.line_is) so_far.earlier)
        (subst (λ (line : ℕ). AllOfLine line (take n by.more)) (sym is.line_is) (taken_of_line (old.next + 2) n by.more by.all))
        (ap (sinks_from 0) taken ∙ kept.same) kept.kept)

    -- it was left at the entry
    pub broken_known : (why : Why) → Entered (Err (Left why)) outcome so_far.handed so_far.progress (old.next + 2) one.list
        → StopsKept run choice placed outcome why so_far.progress one → IsKnown run choice one
    broken_known TooLong entered kept = long_known entered kept
    broken_known NeverCameBack entered kept = left_known NeverCameBack (λ long. cc (long)) entered kept
    broken_known NeverReported entered kept = left_known NeverReported (λ long. cc (long)) entered kept
    broken_known Failed entered kept = left_known Failed (λ long. cc (long)) entered kept
    broken_known NoNumber entered kept = left_known NoNumber (λ long. cc (long)) entered kept
    broken_known CannotBe entered kept = left_known CannotBe (λ long. cc (long)) entered kept
    broken_known Stopped entered kept = left_known Stopped (λ long. cc (long)) entered kept
    broken_known Aborted entered kept = left_known Aborted (λ long. cc (long)) entered kept
    broken_known Full entered kept = left_known Full (λ long. cc (long)) entered kept
    broken_known Cut entered kept = left_known Cut (λ long. cc (long)) entered kept
    broken_known NoJournal entered kept = left_known NoJournal (λ long. cc (long)) entered kept
    broken_known NotJudged entered kept = left_known NotJudged (λ long. cc (long)) entered kept
