-- The list of a rank after its next entry, or its end, as callers see it.
use Rattle.std.proofs.Common.{◌≡◌, ◌∙◌, refl, sym, ap, subst, arith, ℕ, ◌+◌, ◌<◌, Bool, true, false, List, [], ◌∷◌, ◌++◌, length, drop, length-append, Option, Some, None, Ok, Err}
use Rattle.std.specs.Prelude.{slice_get}
use Rattle.std.proofs.lemmas.List.{length-map}
use Rattle.mpicall.specs.declared.call.Call.{Call}
use Rattle.mpicall.specs.declared.call.Call.TheVariants.{Finalize, Open}
use Rattle.journals.specs.Journal.{Journal}
use Rattle.journals.specs.Lines.{Line}
use Rattle.journals.specs.Taking.{word_at}
use Rattle.journals.specs.declared.word.CallWord.{CallWord}
use Rattle.journals.specs.declared.word.Word.{Word}
use Rattle.journals.specs.declared.word.Word.TheVariants.{Call as CallLine, Report}
use Rattle.closing.specs.Entries.{Placed, Run, journal_at, lines_at, lines_in}
use Rattle.closing.specs.Entry.{Choice}
use Rattle.closing.specs.Freed.{is_freed}
use Rattle.closing.specs.Recording.{Listed, cut, list_of, most_records, outcome_in, whole_list}
use Rattle.closing.specs.Sinks.{Ends, GoesOn}
use Rattle.closing.specs.Steps.{Id, Step, Written, after_steps}
use Rattle.closing.specs.Table.{Table}
use Rattle.closing.specs.inner.Holds.{HasComms}
use Rattle.closing.specs.inner.Lists.{HasPlaces}
use Rattle.closing.specs.inner.Noted.{reports_in}
use Rattle.closing.specs.inner.SoFar.{Entered, IsOn, IsPart, IsSoFar, IsWalk, StaysOn, comms_at, placed_here}
use Rattle.closing.specs.inner.Taken.{IsKept, IsKnown, StopsKept}
use Rattle.closing.specs.declared.freed.Freed.{Freed}
use Rattle.closing.specs.declared.list.List.{List as ListCode}
use Rattle.closing.specs.declared.stop.Stop.TheVariants.{Left}
use Rattle.closing.specs.declared.walk.Walk.{Walk}
use Rattle.closing.specs.declared.why.Why.{Why}
use Rattle.closing.proofs.EndedWalks.{broken_known, final_known, known_as, opened_known}
use Rattle.closing.proofs.LastLemmas.{drop_none}
use Rattle.closing.proofs.LineLemmas.{IsEnded}
use Rattle.closing.proofs.PlacedLemmas.{no_report_there}
use Rattle.closing.proofs.WalkLemmas.{IsNext, ended_open, entry_ends, entry_goes_on, entry_leaves, left_as, list_is_cut, part_of_ended, part_of_on}

true_false : (b : Bool) → b ≡ true → b ≡ false → ⊥
true_false true one other = cc (other)
true_false false one other = cc (one)

-- how far the list of a rank with this journal came
pub so_far_at : (run : Run) (choice : Choice) (journal : Journal) (table : Table) (old : Walk) → IsWalk run choice table old → old.is_over ≡ false → journal_at run old.rank ≡ Some journal
    → IsSoFar run choice journal table old
so_far_at run choice journal table old walk goes there =
    let on = walk.on goes in
    let same : on.journal ≡ journal = cc (there, on.there) in
    subst (λ (one : Journal). IsSoFar run choice one table old) same on.so_far

-- a line that isn't there
pub none_left : (lines : List Line) (n : ℕ) → word_at lines n ≡ None → drop n lines ≡ []
none_left lines n e = by_line (slice_get lines n) refl
  where
    by_line : (it : Option Line) → slice_get lines n ≡ it → drop n lines ≡ []
    by_line None at = drop_none lines n at
    by_line (Some line) at = let some = rw at at e in absurd (cc (some))

-- it has the same sinks
pub record SameSinks (old new : Walk) : Type 0 where
  pub sinks : new.sinks ≡ old.sinks
  pub pending : new.pending ≡ old.pending
  pub left_out : new.left_out ≡ old.left_out

-- what is known of a list that has ended
pub record HasEnded (old : Walk) (line : ℕ) (list : ListCode) (end : Call) (why : Option Why) (new : Walk) : Type 0 where
  pub rank : new.rank ≡ old.rank
  pub handed : new.handed ≡ old.handed
  pub before : new.before ≡ old.handed + length old.list.records
  pub line_is : new.line ≡ line
  pub items_are : new.list.records ≡ list.records ++ end ∷ []
  pub freed : new.list.freed ≡ list.freed
  pub left : new.left ≡ left_as line why
  pub over : new.is_over ≡ true

-- the place after an entry
abbrev pub place_after : List Line → ℕ → ℕ
place_after lines place = place + 1 + length (reports_in (drop (place + 1) lines))

-- what else is known of a list that goes on
pub record HasNext (lines : List Line) (old new : Walk) : Type 0 where
  pub rank : new.rank ≡ old.rank
  pub next : new.next ≡ place_after lines old.next
  pub handed : new.handed ≡ old.handed
  pub line_is : new.line ≡ old.next + 2
  pub before_is : new.before ≡ old.handed + length old.list.records
  pub left : new.left ≡ old.left
  pub last : new.last ≡ old.last
  pub outcomes : new.requests.outcomes ≡ old.requests.outcomes
  pub goes : new.is_over ≡ false

module _ (run : Run) (choice : Choice) (journal : Journal) (table : Table) (old : Walk) (so_far : IsSoFar run choice journal table old) (there : journal_at run old.rank ≡ Some journal) where
  -- as many records are made as were handed on and weren't
  pub count_is : length so_far.progress.records ≡ old.handed + length old.list.records
  count_is =
      let all : length so_far.progress.records ≡ length so_far.handed.calls + length old.list.records =
      sym (length-map so_far.progress.records (λ it. it.call)) ∙ ap length so_far.stands.records ∙ length-append so_far.handed.calls old.list.records in
      omega (arith, all, so_far.count)

  pub count_small : old.handed + length old.list.records < most_records
  count_small = omega (arith, count_is, so_far.stands.count, so_far.stands.short)

  ended_walk : (now : Table) (line : ℕ) (list : ListCode) (end : Call) (why : Option Why) (new : Walk) → HasEnded old line list end why new
      → IsEnded (cut (whole_list run choice old.rank)) so_far.handed list end (old.handed + length old.list.records) line why → IsKnown run choice new → IsWalk run choice now new
  ended_walk now line list end why new is ended known =
      let here : IsEnded (cut (whole_list run choice old.rank)) so_far.handed list end new.before new.line why = rw (is.before, is.line_is) ended in
      let left : new.left ≡ left_as new.line why = is.left ∙ ap (λ n. left_as n why) (sym is.line_is) in
      let part = part_of_ended run choice old.rank journal so_far.handed list end why new there here is.items_are (so_far.count ∙ sym is.handed) left in
      record {
        part = subst (λ (rank : ℕ). IsPart (list_of run choice rank) new) (sym is.rank) part;
        on = λ goes. absurd (true_false new.is_over is.over goes);
        freed = λ over. subst (λ (rank : ℕ). HasPlaces (is_freed (lines_at run rank)) (list_of run choice rank).records new.list.freed) (sym is.rank) places;
        known = λ over. known;
      }
    where
      listed : (cut (whole_list run choice old.rank)).records ≡ (list_of run choice old.rank).records
      listed = sym (ap (λ (it : Listed). it.records) (list_is_cut run choice old.rank journal there))

      frees : so_far.handed.frees ≡ is_freed (lines_at run old.rank)
      frees = so_far.frees ∙ ap is_freed (sym (ap lines_in there))

      places : HasPlaces (is_freed (lines_at run old.rank)) (list_of run choice old.rank).records new.list.freed
      places =
          subst (λ (it : Freed). HasPlaces (is_freed (lines_at run old.rank)) (list_of run choice old.rank).records it) (sym is.freed)
          (subst (λ (records : List Written). HasPlaces (is_freed (lines_at run old.rank)) records list.freed) listed
          (subst (λ (f : Id → Bool). HasPlaces f (cut (whole_list run choice old.rank)).records list.freed) frees ended.places))

  -- where no call line is left it ends open
  pub opened_walk : (new : Walk) → ((word : CallWord) → word_at journal.lines old.next ≡ Some (CallLine word) → ⊥) → HasEnded old 0 old.list Open None new
      → SameSinks old new → IsWalk run choice table new
  opened_walk new none is same =
      ended_walk table 0 old.list Open None new is ended
      (known_as run choice old new is.rank same.sinks same.pending same.left_out
      (opened_known run choice journal table old so_far there (none_left journal.lines old.next (no_word (word_at journal.lines old.next) refl))))
    where
      no_word : (it : Option Word) → word_at journal.lines old.next ≡ it → word_at journal.lines old.next ≡ None
      no_word None at = at
      no_word (Some (CallLine word)) at = absurd (none word at)
      no_word (Some (Report word)) at = absurd (no_report_there journal.lines old.next word so_far.at_call at)

      ended : IsEnded (cut (whole_list run choice old.rank)) so_far.handed old.list Open (old.handed + length old.list.records) 0 None
      ended =
          ended_open run choice journal table old (old.handed + length old.list.records) so_far
          (none_left journal.lines old.next (no_word (word_at journal.lines old.next) refl)) (omega (arith, count_is))

  -- ---- The next entry ----

  module _ (word : CallWord) (call : word_at journal.lines old.next ≡ Some (CallLine word)) where
    abbrev before : ℕ
    before = old.handed + length old.list.records

    abbrev placed : Placed
    placed = placed_here old.rank journal old.next word

    -- the rank's last call
    pub final_walk : (now : Table) (one new : Walk) → Entered (Ok true) (outcome_in run choice so_far.progress.records (placed_here old.rank journal old.next word)) so_far.handed so_far.progress (old.next + 2) one.list
        → ((steps : List Step) (end : Call) (why : Option Why) → outcome_in run choice so_far.progress.records (placed_here old.rank journal old.next word) ≡ Ends steps end why
        → IsKept (after_steps so_far.progress (old.next + 2) steps).records one)
        → one.rank ≡ old.rank → SameSinks one new → HasEnded old (old.next + 2) one.list Finalize None new → IsWalk run choice now new
    final_walk now one new entered kept rank same is =
        ended_walk now (old.next + 2) one.list Finalize None new is
        (entry_ends run choice journal table now old new word so_far call before one.list (omega (arith, count_is)) entered)
        (known_as run choice one new (is.rank ∙ sym rank) same.sinks same.pending same.left_out
        (final_known run choice journal table old so_far there word call one rank entered kept))

    -- one at which the list is left
    pub broken_walk : (now : Table) (one : Walk) (why : Why) (new : Walk)
        → Entered (Err (Left why)) (outcome_in run choice so_far.progress.records (placed_here old.rank journal old.next word)) so_far.handed so_far.progress (old.next + 2) one.list
        → StopsKept run choice (placed_here old.rank journal old.next word) (outcome_in run choice so_far.progress.records (placed_here old.rank journal old.next word)) why so_far.progress one
        → one.rank ≡ old.rank → SameSinks one new → HasEnded old (old.next + 2) one.list Open (Some why) new → IsWalk run choice now new
    broken_walk now one why new entered kept rank same is =
        ended_walk now (old.next + 2) one.list Open (Some why) new is
        (entry_leaves run choice journal table now old new word so_far call before one.list why (omega (arith, count_is)) entered)
        (known_as run choice one new (is.rank ∙ sym rank) same.sinks same.pending same.left_out
        (broken_known run choice journal table old so_far there word call one rank why entered kept))

    pub next_walk : (now : Table) (new : Walk) → Entered (Ok false) (outcome_in run choice so_far.progress.records (placed_here old.rank journal old.next word)) so_far.handed so_far.progress (old.next + 2) new.list
        → ((steps : List Step) → outcome_in run choice so_far.progress.records (placed_here old.rank journal old.next word) ≡ GoesOn steps
        → StaysOn now journal.lines (place_after journal.lines old.next) (after_steps so_far.progress (old.next + 2) steps).records (after_steps so_far.progress (old.next + 2) steps).late new) → HasNext journal.lines old new → IsWalk run choice now new
    next_walk now new entered stays is = record {
      part = part_of_on run choice now new on is.goes;
      on = λ goes. on;
      freed = λ over. absurd (true_false new.is_over over is.goes);
      known = λ over. absurd (true_false new.is_over over is.goes);
    }
      where
        is_next : (steps : List Step) → StaysOn now journal.lines (place_after journal.lines old.next) (after_steps so_far.progress (old.next + 2) steps).records (after_steps so_far.progress (old.next + 2) steps).late new
            → IsNext run choice journal table now old new word so_far call (old.next + 2) before steps
        is_next steps stay = record {
          rank = is.rank;
          next = is.next;
          handed = is.handed;
          line_is = is.line_is;
          before_is = is.before_is;
          left = is.left ∙ so_far.left;
          last = is.last;
          outcomes = is.outcomes;
          late = stay.late_is;
          kept = stay.kept;
          comms = subst (λ (rank : ℕ). HasComms now new.comms (comms_at rank journal.lines (place_after journal.lines old.next))) is.rank stay.comms;
          requests = stay.requests;
        }

        on : IsOn run choice now new
        on = entry_goes_on run choice journal table now old new word so_far call before (omega (arith, count_is)) entered
            (λ steps e. is_next steps (stays steps e)) there
