-- The list of a rank with its preface alone, and what is reported before its first entry.
use Rattle.std.proofs.Common.{◌≡◌, ◌∙◌, ap, arith, refl, sym, subst, ℕ, false, List, Some, None, [], option_map}
use Rattle.journals.specs.Lines.{Line}
use Rattle.closing.specs.Entries.{journal_at, lines_at, lines_in}
use Rattle.closing.specs.Freed.{is_freed}
use Rattle.closing.specs.Journals.{journal_in}
use Rattle.closing.specs.Keys.{Alone}
use Rattle.closing.specs.RankComms.{comms_first}
use Rattle.closing.specs.Recording.{progress_first}
use Rattle.closing.specs.Recordings.{choice_in}
use Rattle.closing.specs.Steps.{Own}
use Rattle.closing.specs.Table.{Table}
use Rattle.closing.specs.inner.Holds.{HasComms}
use Rattle.closing.specs.inner.Lists.{HasIds, Stands}
use Rattle.closing.specs.inner.Noted.{HavePlaces}
use Rattle.closing.specs.inner.Table.{Grows, HasKey}
use Rattle.closing.specs.declared.choice.Choice.{Choice}
use Rattle.closing.specs.declared.numbers.Communicators.{Communicators}
use Rattle.closing.specs.declared.walk.Walk.{Walk}
use Rattle.closing.proofs.BegunLemmas.{HasNone, IsEmpty, first_of, new_as, new_begun, new_left, none_pending, readable_lines}
use Rattle.closing.proofs.FreedIds.{unnamed_kept}
use Rattle.closing.proofs.KeptLemmas.{run_grows}
use Rattle.closing.proofs.TableLemmas.{grows_on}
use Rattle.closing.proofs.walk.Walk.new.Goals as goal
use Rattle.closing.proofs.walk.Walk.new.Goals.{in-Some+in_ok-begin-in-Some, in-None+in_ok-leave-in-None}

-- what it is of, and that nothing was handed on
record IsNew (rank : ℕ) (choice : Choice) (walk : Walk) : Type 0 where
  rank_is : walk.rank ≡ rank
  choice_is : walk.choice ≡ choice
  handed : walk.handed ≡ 0
  before : walk.before ≡ 0

is_new : (c : goal.Joined-journal) → IsNew c.args.rank c.args.choice c.match-journal.walk
is_new c =
    let listed = c.in_ok-put_preface.ensures.same in
    elim c.match-journal.branch [
      | in-Some+in_ok-begin-in-Some w ↦
          let same = w.in_ok-begin-in-Some.ensures.same in
          record {
            rank_is = ap (λ (it : Walk). it.rank) w.walk-is ∙ ap (λ (it : Walk). it.rank) same ∙ ap (λ (it : Walk). it.rank) listed;
            choice_is = ap (λ (it : Walk). it.choice) w.walk-is ∙ ap (λ (it : Walk). it.choice) same ∙ ap (λ (it : Walk). it.choice) listed;
            handed = ap (λ (it : Walk). it.handed) w.walk-is ∙ ap (λ (it : Walk). it.handed) same ∙ ap (λ (it : Walk). it.handed) listed;
            before = ap (λ (it : Walk). it.before) w.walk-is ∙ ap (λ (it : Walk). it.before) same ∙ ap (λ (it : Walk). it.before) listed;
          }
      | in-None+in_ok-leave-in-None w ↦
          let same = w.in_ok-leave-in-None.ensures.same in
          record {
            rank_is = ap (λ (it : Walk). it.rank) w.walk-is ∙ ap (λ (it : Walk). it.rank) same ∙ ap (λ (it : Walk). it.rank) listed;
            choice_is = ap (λ (it : Walk). it.choice) w.walk-is ∙ ap (λ (it : Walk). it.choice) same ∙ ap (λ (it : Walk). it.choice) listed;
            handed = ap (λ (it : Walk). it.handed) w.walk-is ∙ ap (λ (it : Walk). it.handed) same ∙ ap (λ (it : Walk). it.handed) listed;
            before = ap (λ (it : Walk). it.before) w.walk-is ∙ ap (λ (it : Walk). it.before) same ∙ ap (λ (it : Walk). it.before) listed;
          }
    ]

pub returns-clause-rank : goal.returns-clause-rank
returns-clause-rank c = let is = is_new c in (is.rank_is, is.choice_is)

pub returns-clause-handed : goal.returns-clause-handed
returns-clause-handed c = let is = is_new c in is.handed

pub returns-clause-before : goal.returns-clause-before
returns-clause-before c = let is = is_new c in is.before

pub returns-clause-alone : goal.returns-clause-alone
returns-clause-alone c = elim c.match-journal.branch [
  | in-Some+in_ok-begin-in-Some w ↦ λ none. let other = sym w.in-Some.is ∙ none in absurd (cc (other))
  | in-None+in_ok-leave-in-None w ↦ λ none. ap (λ (it : Walk). it.is_over) w.walk-is ∙ ap (λ (it : Walk). it.is_over) w.in_ok-leave-in-None.ensures.same
]

pub returns-clause-run : goal.returns-clause-run
returns-clause-run c = elim c.match-journal.branch [
  | in-Some+in_ok-begin-in-Some w ↦
      w.run-is ∙ w.in_ok-begin-in-Some.ensures.run ∙ ap (λ (it : Communicators). record c.args.run.now { keys = it.keys }) (sym w.run-is)
  | in-None+in_ok-leave-in-None w ↦ w.run-is ∙ ap (λ (it : Communicators). record c.args.run.now { keys = it.keys }) (sym w.run-is)
]

pub returns-clause-walk : goal.returns-clause-walk
returns-clause-walk c = λ said numbered fit within there few.
    let rank = c.args.rank in
    let choice = choice_in c.args.choice in
    let first : Table = c.put_alone.new.self in
    let put : Walk = c.put_preface.new.self in
    let grows : Grows c.args.run.now.keys first = c.in_ok-alone.ensures.grows numbered.table in
    let alone : HasKey first c.in_ok-alone.alone (Alone rank) =
    subst (λ (n : ℕ). HasKey first c.in_ok-alone.alone (Alone n)) c.from.ensures (c.in_ok-alone.ensures.value numbered.table) in
    let empty : Walk = record {
      rank = rank;
      choice = c.args.choice;
      last = None;
      comms = c.in_ok-first.field-0;
      list = c.new.result;
      requests = c.empty.result;
      late = c.new-2.result;
      ids = c.new-3.result;
      wanted = c.new-4.result;
      next = 0;
      line = 0;
      handed = 0;
      before = 0;
      is_over = false;
      left = None;
      sinks = c.new-5.result;
      pending = c.unknown.result;
      left_out = c.new-6.result;
    } in
    let none : HasNone empty = record {
      all = c.new-5.ensures.all;
      named = c.new-5.ensures.named;
      pending = none_pending c.unknown.result c.unknown.ensures.all c.unknown.ensures.none;
      left_out = c.new-6.ensures.items;
    } in
    let is_empty : IsEmpty empty = record { handed = refl; before = refl; line = refl; late = c.new-2.ensures.items; left = refl; on = refl; none = none } in
    let listed : put ≡ record empty { list = put.list } = c.in_ok-put_preface.ensures.same in
    let has : HasComms first put.comms (comms_first put.rank) =
    subst (λ (it : Walk). HasComms first it.comms (comms_first it.rank)) (sym listed) (c.in_ok-first.ensures first rank grows.table alone) in
    let lines : lines_at said rank ≡ lines_in (option_map (λ one. journal_in one.now) c.args.journal) = ap lines_in there in
    let few_there : HavePlaces (lines_in (option_map (λ one. journal_in one.now) c.args.journal)) =
    subst (λ (xs : List Line). HavePlaces xs) lines (omega (arith, few)) in
    let ids : HasIds (is_freed (lines_at said rank)) c.in_ok-freed.freed = record {
      own = λ id. c.in_ok-freed.ensures.ids few_there id ∙ ap (λ (xs : List Line). is_freed xs (Own id)) (sym lines);
      unnamed = unnamed_kept (lines_at said rank);
    } in
    let stands : Stands (first_of said rank) (progress_first said rank) put.list =
    c.in_ok-put_preface.ensures.stands said (first_of said rank) (run_grows said c.args.run.now first numbered grows) within (fit.prefaces rank within)
    (c.new.ensures [] (first_of said rank) refl ids c.in_ok-freed.ensures.places) in
    elim c.match-journal.branch [
      | in-Some+in_ok-begin-in-Some w ↦
          let journal = journal_in w.in-Some.journal.now in
          let at : journal_at said rank ≡ Some journal = there ∙ ap (option_map _) w.in-Some.is in
          let readable = readable_lines said choice rank journal fit at few in
          let now = w.begin.new.run.keys in
          let is =
          new_begun said choice now empty put is_empty listed stands journal w.begin.new.self w.in_ok-begin-in-Some.ensures.same fit at
          (w.in_ok-begin-in-Some.ensures.begun readable has) in
          new_as said choice c.args.run.now.keys w.begin.new.run c.match-journal.run w.begin.new.self c.match-journal.walk w.run-is w.walk-is is
          (grows_on c.args.run.now.keys first now grows (w.in_ok-begin-in-Some.ensures.grows readable has))
      | in-None+in_ok-leave-in-None w ↦
          let at : journal_at said rank ≡ None = there ∙ ap (option_map _) w.in-None.is in
          let is =
          new_left said choice first empty put is_empty listed stands w.leave.new.self w.in_ok-leave-in-None.ensures.same
          w.in_ok-leave-in-None.ensures.end w.in_ok-leave-in-None.ensures.freed at in
          new_as said choice c.args.run.now.keys (record c.args.run.now { keys = first }) c.match-journal.run w.leave.new.self c.match-journal.walk
          w.run-is w.walk-is is grows
    ]
