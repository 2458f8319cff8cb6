-- The next entry of a rank is taken.
use Rattle.std.proofs.Common.{◌≡◌, ◌∙◌, refl, sym, ap, subst, arith, ℕ, ◌+◌, ◌≤◌, Bool, true, false, List, [], ◌∷◌, ◌++◌, length, drop, length-append, Option, Some, None, Result, Ok, Err}
use Rattle.std.specs.Prelude.{OnOk}
use Rattle.mpicall.specs.declared.call.Call.{Call}
use Rattle.mpicall.specs.declared.call.Call.TheVariants.{Finalize, Open}
use Rattle.journals.specs.Journal.{Journal}
use Rattle.journals.specs.Taking.{word_at}
use Rattle.journals.specs.declared.word.CallWord.{CallWord}
use Rattle.journals.specs.declared.word.Word.{Word}
use Rattle.journals.specs.declared.word.Word.TheVariants.{Call as CallLine, Report}
use Rattle.closing.specs.Entries.{Placed, Run, journal_at}
use Rattle.closing.specs.Entry.{Choice}
use Rattle.closing.specs.Fit.{IsFit}
use Rattle.closing.specs.Recording.{outcome_in}
use Rattle.closing.specs.Steps.{Step, after_steps}
use Rattle.closing.specs.Table.{Table}
use Rattle.closing.specs.inner.Noted.{AreReports, call_if, reports_in}
use Rattle.closing.specs.inner.Numbered.{IsNumberedRun}
use Rattle.closing.specs.inner.SoFar.{Entered, IsBefore, IsEntered, IsReady, IsSoFar, IsWalk, StaysOn, placed_here}
use Rattle.closing.specs.inner.Table.{Grows}
use Rattle.closing.specs.declared.last.Reports.{Reports}
use Rattle.closing.specs.declared.numbers.Communicators.{Communicators}
use Rattle.closing.specs.declared.stop.Stop.{Stop}
use Rattle.closing.specs.declared.stop.Stop.TheVariants.{Left, Memory}
use Rattle.closing.specs.declared.walk.Entry.{Entry as EntryCode}
use Rattle.closing.specs.declared.walk.Walk.{Walk}
use Rattle.closing.specs.declared.why.Why.{Why}
use Rattle.closing.proofs.MoreLemmas.{entered_more}
use Rattle.closing.proofs.NextLemmas.{SameSinks, broken_walk, final_walk, next_walk, opened_walk, place_after, so_far_at}
use Rattle.closing.proofs.UnsunkLemmas.{kept_as}
use Rattle.closing.proofs.WalkLemmas.{left_as}

-- a call line that is there
pub call_there : (found : Option Word) (word : CallWord) → Some word ≡ call_if found → found ≡ Some (CallLine word)
call_there None word e = absurd (cc (e))
call_there (Some (CallLine other)) word e = cc (e)
call_there (Some (Report other)) word e = absurd (cc (e))

pub with_ok : {A E : Type 0} (P Q : Type 0) (result : Result A E) → (P → Q) → OnOk result P → OnOk result Q
with_ok P Q (Ok done) gives holds = gives holds
with_ok P Q (Err fault) gives holds = tt

pub one_more : (xs ys : List Call) (x : Call) → ys ≡ xs ++ x ∷ [] → length xs ≤ length ys
one_more xs ys x e =
    let all : length ys ≡ length xs + length (x ∷ []) = ap length e ∙ length-append xs (x ∷ []) in
    omega (arith, all)

module _ (run : Run) (choice : Choice) (journal : Journal) (kept : Communicators) (old : Walk) (is_fit : IsFit run choice) (numbered : IsNumberedRun run kept)
    (few : length journal.lines ≤ 4294967292) (there : journal_at run old.rank ≡ Some journal) (goes : old.is_over ≡ false) (walk : IsWalk run choice kept.keys old) where
  pub so_far : IsSoFar run choice journal kept.keys old
  so_far = so_far_at run choice journal kept.keys old walk goes there

  -- before the entry
  module _ (word : CallWord) (call : word_at journal.lines old.next ≡ Some (CallLine word)) (before line : ℕ) (reports : Reports)
      (before_is : before ≡ old.handed + length old.list.records) (line_is : line ≡ old.next + 2)
      (are : AreReports journal.lines (old.next + 1) (reports_in (drop (old.next + 1) journal.lines)) reports) where
    abbrev begun : Walk
    begun = record old { before = before; line = line; next = reports.end }

    abbrev entry : EntryCode
    entry = record { place = old.next; word = word; reports = reports }

    abbrev placed : Placed
    placed = placed_here old.rank journal old.next word

    pub is_before : IsBefore run journal kept begun entry
    is_before = record {
      there = there;
      few = few;
      numbered = numbered;
      is_entry = record { call = call; reports = are };
      comms = so_far.comms;
      last = so_far.last;
    }

    pub is_ready : IsReady run choice journal so_far.handed so_far.progress begun entry
    is_ready = record {
      fit = is_fit;
      line = line_is;
      kept = kept_as so_far.progress.records old begun refl refl refl refl so_far.kept;
      stands = so_far.stands;
      late = so_far.late;
      entries = so_far.fit;
      tests = so_far.tests;
      reported = so_far.reported;
      requests = so_far.requests;
    }

    -- after it
    module _ (now : Table) (result : Result Bool Stop) (one : Walk)
        (same : one ≡ record begun { comms = one.comms; list = one.list; requests = one.requests; late = one.late; ids = one.ids; wanted = one.wanted; sinks = one.sinks; pending = one.pending; left_out = one.left_out })
        (entered : IsEntered run choice placed result so_far.handed so_far.progress kept.keys now reports.end one) where
      list_as : (said : Result Bool Stop) → result ≡ said → Entered said (outcome_in run choice so_far.progress.records placed) so_far.handed so_far.progress placed.line one.list
      list_as said e =
          subst (λ (r : Result Bool Stop). Entered r (outcome_in run choice so_far.progress.records placed) so_far.handed so_far.progress placed.line one.list) e entered.list

      grows : (said : Result Bool Stop) → result ≡ said → (said ≡ Err Memory → ⊥) → Grows kept.keys now
      grows said e some = entered.grows (λ out. some (sym e ∙ out))

      -- the list goes on
      pub step_on : result ≡ Ok false → one.requests.outcomes ≡ old.requests.outcomes → IsWalk run choice now one × Grows kept.keys now
      step_on e outcomes = (
        next_walk run choice journal kept.keys old so_far there word call now one (list_as (Ok false) e) (λ steps goes. stays steps (entered.on steps e goes)) (record {
          rank = ap (λ (it : Walk). it.rank) same;
          next = ap (λ (it : Walk). it.next) same ∙ are.end;
          handed = ap (λ (it : Walk). it.handed) same;
          line_is = ap (λ (it : Walk). it.line) same ∙ line_is;
          before_is = ap (λ (it : Walk). it.before) same ∙ before_is;
          left = ap (λ (it : Walk). it.left) same;
          last = ap (λ (it : Walk). it.last) same;
          outcomes = outcomes;
          goes = ap (λ (it : Walk). it.is_over) same ∙ goes;
        }),
        grows (Ok false) e (λ out. cc (out)),
      )
        where
          stays : (steps : List Step) → StaysOn now journal.lines reports.end (after_steps so_far.progress placed.line steps).records (after_steps so_far.progress placed.line steps).late one
              → StaysOn now journal.lines (place_after journal.lines old.next) (after_steps so_far.progress placed.line steps).records (after_steps so_far.progress placed.line steps).late one
          stays steps stay = subst (λ (n : ℕ). StaysOn now journal.lines n (after_steps so_far.progress placed.line steps).records (after_steps so_far.progress placed.line steps).late one) are.end stay

      -- it ends with the rank's calls
      pub step_ends : (new : Walk) → result ≡ Ok true → new ≡ record one { list = new.list; is_over = true }
          → new.list.records ≡ one.list.records ++ Finalize ∷ [] → new.list.freed ≡ one.list.freed → IsWalk run choice now new × Grows kept.keys now
      step_ends new e ended items freed = (
        final_walk run choice journal kept.keys old so_far there word call now one new (list_as (Ok true) e) (λ steps end why is. entered.done steps end why e is)
            (ap (λ (it : Walk). it.rank) same) (record {
              sinks = ap (λ (it : Walk). it.sinks) ended;
              pending = ap (λ (it : Walk). it.pending) ended;
              left_out = ap (λ (it : Walk). it.left_out) ended;
            }) (record {
              rank = ap (λ (it : Walk). it.rank) ended ∙ ap (λ (it : Walk). it.rank) same;
              handed = ap (λ (it : Walk). it.handed) ended ∙ ap (λ (it : Walk). it.handed) same;
              before = ap (λ (it : Walk). it.before) ended ∙ ap (λ (it : Walk). it.before) same ∙ before_is;
              line_is = ap (λ (it : Walk). it.line) ended ∙ ap (λ (it : Walk). it.line) same ∙ line_is;
              items_are = items;
              freed = freed;
              left = ap (λ (it : Walk). it.left) ended ∙ ap (λ (it : Walk). it.left) same ∙ so_far.left;
              over = ap (λ (it : Walk). it.is_over) ended;
            }),
        grows (Ok true) e (λ out. cc (out)),
      )

      -- it is left
      pub step_leaves : (new : Walk) (why : Why) → result ≡ Err (Left why) → new ≡ record one { list = new.list; is_over = true; left = Some (record { line = one.line; why = why }) }
          → new.list.records ≡ one.list.records ++ Open ∷ [] → new.list.freed ≡ one.list.freed → IsWalk run choice now new × Grows kept.keys now
      step_leaves new why e ended items freed =
          let at : one.line ≡ old.next + 2 = ap (λ (it : Walk). it.line) same ∙ line_is in (
            broken_walk run choice journal kept.keys old so_far there word call now one why new (list_as (Err (Left why)) e) (entered.stopped why e)
                (ap (λ (it : Walk). it.rank) same) (record {
                  sinks = ap (λ (it : Walk). it.sinks) ended;
                  pending = ap (λ (it : Walk). it.pending) ended;
                  left_out = ap (λ (it : Walk). it.left_out) ended;
                }) (record {
                  rank = ap (λ (it : Walk). it.rank) ended ∙ ap (λ (it : Walk). it.rank) same;
                  handed = ap (λ (it : Walk). it.handed) ended ∙ ap (λ (it : Walk). it.handed) same;
                  before = ap (λ (it : Walk). it.before) ended ∙ ap (λ (it : Walk). it.before) same ∙ before_is;
                  line_is = ap (λ (it : Walk). it.line) ended ∙ at;
                  items_are = items;
                  freed = freed;
                  left = ap (λ (it : Walk). it.left) ended ∙ ap (λ (n : ℕ). left_as n (Some why)) at;
                  over = ap (λ (it : Walk). it.is_over) ended;
                }),
            grows (Err (Left why)) e (λ out. cc (out)),
          )

      -- no record is taken away
      pub step_more : (said : Result Bool Stop) → result ≡ said → (said ≡ Err Memory → ⊥) → length old.list.records ≤ length one.list.records
      step_more said e some =
          entered_more so_far.handed so_far.progress old.list one.list so_far.stands said (outcome_in run choice so_far.progress.records placed) placed.line some (list_as said e)

  -- ---- No entry is left ----

  pub step_opens : (new : Walk) → ((word : CallWord) → word_at journal.lines old.next ≡ Some (CallLine word) → ⊥)
      → new.rank ≡ old.rank → new.handed ≡ old.handed → new.before ≡ old.handed + length old.list.records → new.line ≡ 0 → new.left ≡ old.left → new.is_over ≡ true
      → new.list.records ≡ old.list.records ++ Open ∷ [] → new.list.freed ≡ old.list.freed → SameSinks old new → IsWalk run choice kept.keys new
  step_opens new none rank handed before line left over items freed same =
      opened_walk run choice journal kept.keys old so_far there new none (record {
        rank = rank;
        handed = handed;
        before = before;
        line_is = line;
        items_are = items;
        freed = freed;
        left = left ∙ so_far.left;
        over = over;
      }) same

pub one_more_than : (old one new : List Call) (x : Call) → length old ≤ length one → new ≡ one ++ x ∷ [] → length old ≤ length new
one_more_than old one new x h e = omega (arith, h, one_more one new x e)
