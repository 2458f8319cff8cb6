-- What is kept of the requests of a journal says what its lines report, where each is reported once at most.
use Rattle.std.proofs.Common.{◌≡◌, ◌⊎◌, ◌∙◌, ◌<◌, ◌≤◌, ◌+◌, ◌||◌, ℕ, zero, suc, Bool, true, false, not, cond, refl, sym, ap, arith, add-one, List, [], ◌∷◌, length, drop, map, Option, Some, None, option_map, is_some, inl, inr, eqb}
use Rattle.std.specs.Prelude.{slice_get}
use Rattle.std.specs.List.{filter}
use Rattle.std.proofs.lemmas.Bool.{cases_eq, cases_Bool, cond-true, cond-false, eq-eqb, ne_eqb, or_left, or_right, or_from}
use Rattle.std.proofs.lemmas.List.{drop_all}
use Rattle.std.proofs.lemmas.List.Sums.{sum_by-cons}
use Rattle.mpicall.specs.Word.{or_else}
use Rattle.journals.specs.Lines.{Line}
use Rattle.journals.specs.Taking.{fields_at, fields_in_line}
use Rattle.journals.specs.declared.field.Field.{Field}
use Rattle.journals.specs.declared.field.Field.TheVariants.{Natural, Signed, Null, Any, Undefined}
use Rattle.journals.specs.declared.word.Word.{Word}
use Rattle.journals.specs.declared.word.Word.TheVariants.{Call, Report}
use Rattle.journals.specs.declared.word.CallWord.{CallWord}
use Rattle.journals.specs.declared.word.ReportWord.{ReportWord}
use Rattle.journals.specs.declared.word.ReportWord.TheVariants as report
use Rattle.closing.specs.Reported.{Message, done_in, done_of, says_gone, says_kept, says_moved, is_kept}
use Rattle.closing.specs.Reported as say
use Rattle.closing.specs.inner.Outcomes.{outcome_in, outcome_by, outcome_with, outcome_at_line, outcome_after, outcome_at, message_after, message_by}
use Rattle.closing.specs.inner.Outcomes as code
use Rattle.closing.specs.Called.{naturals_in}
use Rattle.closing.specs.Steps.{Own}
use Rattle.closing.specs.Entry.{id_of, ids_of}
use Rattle.closing.specs.inner.Standings.{id_in, ids_in}
use Rattle.closing.specs.Fit.{reports_of, report_count, IsFormed, AreFormed}
use Rattle.closing.specs.inner.RequestReports.{AreReadable, Tells, AllStandFor}
use Rattle.closing.specs.declared.standing.Standing.{Standing}
use Rattle.closing.specs.declared.outcomes.Outcome.{Outcome}
use Rattle.closing.specs.declared.outcomes.Outcome.TheVariants.{Unknown, Done, Gone, Kept, Moved}
use Rattle.closing.specs.declared.outcomes.Outcomes.{Outcomes}

-- ---- The line at a place ----

pub report_here : (found : Option Line) (word : ReportWord) (place request : ℕ) (before : Outcome) → option_map (λ line. line.word) found ≡ Some (Report word) → outcome_at_line found place request before ≡ outcome_by word (fields_in_line found) place request before
report_here None word place request before e = cc
report_here (Some line) word place request before e =
    let is : line.word ≡ Report word = cc in
    ap (λ it. outcome_with it line.fields place request before) is

pub call_here : (found : Option Line) (word : CallWord) (place request : ℕ) (before : Outcome) → option_map (λ line. line.word) found ≡ Some (Call word) → outcome_at_line found place request before ≡ before
call_here None word place request before e = refl
call_here (Some line) word place request before e =
    let is : line.word ≡ Call word = cc in
    ap (λ it. outcome_with it line.fields place request before) is

pub nothing_here : (found : Option Line) (place request : ℕ) (before : Outcome) → option_map (λ line. line.word) found ≡ None → outcome_at_line found place request before ≡ before
nothing_here None place request before e = refl
nothing_here (Some line) place request before e = cc

step_at : (lines : List Line) (index place request : ℕ) (before : Outcome) → index < length lines → outcome_after (drop (suc index) lines) (place + 1) request (outcome_at_line (slice_get lines index) place request before) ≡ outcome_after (drop index lines) place request before
step_at [] index place request before lt = absurd (omega arith)
step_at (line ∷ lines) zero place request before lt = refl
step_at (line ∷ lines) (suc index) place request before lt = step_at lines index place request before (omega arith)

-- what the lines from a place on leave, one line on
pub outcome_step : (lines : List Line) (place request : ℕ) (before after : Outcome) → place < length lines → after ≡ outcome_at_line (slice_get lines place) place request before → outcome_after (drop (place + 1) lines) (place + 1) request after ≡ outcome_after (drop place lines) place request before
outcome_step lines place request before after lt e =
    ap (λ n. outcome_after (drop n lines) (place + 1) request after) (add-one place)
    ∙ ap (λ it. outcome_after (drop (suc place) lines) (place + 1) request it) e
    ∙ step_at lines place place request before lt

drop_here : (whole : List Line) (place : ℕ) (line : Line) (lines : List Line) → line ∷ lines ≡ drop place whole → (slice_get whole place ≡ Some line) × (lines ≡ drop (suc place) whole)
drop_here [] zero line lines e = cc
drop_here [] (suc place) line lines e = cc
drop_here (first ∷ others) zero line lines e =
    let one : first ≡ line = cc in
    let rest : lines ≡ others = cc in
    (ap (λ it. Some it) one, rest)
drop_here (first ∷ others) (suc place) line lines e = drop_here others place line lines e

-- ---- What one line says of a request ----

record SaysNothing (request : ℕ) (word : Word) (fields : List Field) : Type 0 where
  outcome : (place : ℕ) (before : Outcome) → outcome_with word fields place request before ≡ before
  done : done_in request word fields ≡ None
  gone : says_gone request word fields ≡ false
  kept : says_kept request word fields ≡ false
  moved : says_moved request word fields ≡ false

record SaysDone (request : ℕ) (word : Word) (fields : List Field) : Type 0 where
  message : Message
  outcome : (place : ℕ) (before : Outcome) → outcome_with word fields place request before ≡ Done place
  after : message_after fields ≡ Some message
  done : done_in request word fields ≡ Some message
  gone : says_gone request word fields ≡ false
  kept : says_kept request word fields ≡ false
  moved : says_moved request word fields ≡ false

record SaysGone (request : ℕ) (word : Word) (fields : List Field) : Type 0 where
  outcome : (place : ℕ) (before : Outcome) → outcome_with word fields place request before ≡ Gone
  done : done_in request word fields ≡ None
  gone : says_gone request word fields ≡ true
  kept : says_kept request word fields ≡ false
  moved : says_moved request word fields ≡ false

record SaysKept (request : ℕ) (word : Word) (fields : List Field) : Type 0 where
  outcome : (place : ℕ) (before : Outcome) → outcome_with word fields place request before ≡ Kept
  done : done_in request word fields ≡ None
  gone : says_gone request word fields ≡ false
  kept : says_kept request word fields ≡ true
  moved : says_moved request word fields ≡ false

record SaysMoved (request : ℕ) (word : Word) (fields : List Field) : Type 0 where
  outcome : (place : ℕ) (before : Outcome) → outcome_with word fields place request before ≡ Moved
  done : done_in request word fields ≡ None
  gone : says_gone request word fields ≡ false
  kept : says_kept request word fields ≡ false
  moved : says_moved request word fields ≡ true

abbrev Effect : ℕ → Word → List Field → Type 0
Effect request word fields =
    SaysNothing request word fields ⊎ (SaysDone request word fields ⊎ (SaysGone request word fields ⊎ (SaysKept request word fields ⊎ SaysMoved request word fields)))

same_if : (b : Bool) (it : Outcome) → cond b it it ≡ it
same_if true it = refl
same_if false it = refl

effect : (request : ℕ) (word : Word) (fields : List Field) → IsFormed word fields → Effect request word fields
effect request (Call word) fields formed =
    inl (record { outcome = λ place before. refl; done = refl; gone = refl; kept = refl; moved = refl })
effect request (Report report.Done) (Natural done ∷ source ∷ tag ∷ []) formed = elim (cases_eq done request) [
  | inl same ↦
      let test : eqb done request ≡ true = eq-eqb done request same in
      inr (inl (record {
        message = record { source = source; tag = tag };
        outcome = λ place before. cond-true (eqb done request) (Done place) before test;
        after = refl;
        done = cond-true (eqb done request) (Some (record { source = source; tag = tag })) None test;
        gone = refl;
        kept = refl;
        moved = refl;
      }))
  | inr apart ↦
      let test : eqb done request ≡ false = ne_eqb done request apart in
      inl (record {
        outcome = λ place before. cond-false (eqb done request) (Done place) before test;
        done = cond-false (eqb done request) (Some (record { source = source; tag = tag })) None test;
        gone = refl;
        kept = refl;
        moved = refl;
      })
]
effect request (Report report.Done) [] formed = absurd (omega arith)
effect request (Report report.Done) (one ∷ []) formed = absurd (omega arith)
effect request (Report report.Done) (one ∷ two ∷ []) formed = absurd (omega arith)
effect request (Report report.Done) (one ∷ two ∷ three ∷ four ∷ fields) formed = absurd (omega arith)
effect request (Report report.Done) (one ∷ two ∷ three ∷ []) formed =
    inl (record { outcome = λ place before. refl; done = refl; gone = refl; kept = refl; moved = refl })
effect request (Report report.Gone) (Natural gone ∷ []) formed = elim (cases_eq gone request) [
  | inl same ↦
      let test : eqb gone request ≡ true = eq-eqb gone request same in
      inr (inr (inl (record {
        outcome = λ place before. cond-true (eqb gone request) Gone before test;
        done = refl;
        gone = test;
        kept = refl;
        moved = refl;
      })))
  | inr apart ↦
      let test : eqb gone request ≡ false = ne_eqb gone request apart in
      inl (record {
        outcome = λ place before. cond-false (eqb gone request) Gone before test;
        done = refl;
        gone = test;
        kept = refl;
        moved = refl;
      })
]
effect request (Report report.Gone) [] formed = absurd (omega arith)
effect request (Report report.Gone) (one ∷ two ∷ fields) formed = absurd (omega arith)
effect request (Report report.Gone) (one ∷ []) formed =
    inl (record { outcome = λ place before. refl; done = refl; gone = refl; kept = refl; moved = refl })
effect request (Report report.Kept) (Natural kept ∷ []) formed = elim (cases_eq kept request) [
  | inl same ↦
      let test : eqb kept request ≡ true = eq-eqb kept request same in
      inr (inr (inr (inl (record {
        outcome = λ place before. cond-true (eqb kept request) Kept before test;
        done = refl;
        gone = refl;
        kept = test;
        moved = refl;
      }))))
  | inr apart ↦
      let test : eqb kept request ≡ false = ne_eqb kept request apart in
      inl (record {
        outcome = λ place before. cond-false (eqb kept request) Kept before test;
        done = refl;
        gone = refl;
        kept = test;
        moved = refl;
      })
]
effect request (Report report.Kept) [] formed = absurd (omega arith)
effect request (Report report.Kept) (one ∷ two ∷ fields) formed = absurd (omega arith)
effect request (Report report.Kept) (one ∷ []) formed =
    inl (record { outcome = λ place before. refl; done = refl; gone = refl; kept = refl; moved = refl })
effect request (Report report.Moved) (Natural moved ∷ []) formed = elim (cases_eq moved request) [
  | inl same ↦
      let test : eqb moved request ≡ true = eq-eqb moved request same in
      inr (inr (inr (inr (record {
        outcome = λ place before. cond-true (eqb moved request) Moved before test;
        done = refl;
        gone = refl;
        kept = refl;
        moved = test;
      }))))
  | inr apart ↦
      let test : eqb moved request ≡ false = ne_eqb moved request apart in
      inl (record {
        outcome = λ place before. cond-false (eqb moved request) Moved before test;
        done = refl;
        gone = refl;
        kept = refl;
        moved = test;
      })
]
effect request (Report report.Moved) [] formed = absurd (omega arith)
effect request (Report report.Moved) (one ∷ two ∷ fields) formed = absurd (omega arith)
effect request (Report report.Moved) (one ∷ []) formed =
    inl (record { outcome = λ place before. refl; done = refl; gone = refl; kept = refl; moved = refl })
effect request (Report word) (Natural number ∷ fields) formed =
    inl (record { outcome = λ place before. same_if (eqb number request) before; done = refl; gone = refl; kept = refl; moved = refl })
effect request (Report word) fields formed =
    inl (record { outcome = λ place before. refl; done = refl; gone = refl; kept = refl; moved = refl })

-- ---- What all lines say of it ----

no_report : (request : ℕ) (word : Word) (fields : List Field) → SaysNothing request word fields → reports_of request word fields ≡ false
no_report request word fields it =
    or_from (is_some (done_in request word fields) || says_gone request word fields || says_kept request word fields) (says_moved request word fields)
    (or_from (is_some (done_in request word fields) || says_gone request word fields) (says_kept request word fields)
    (or_from (is_some (done_in request word fields)) (says_gone request word fields) (ap is_some it.done) it.gone) it.kept) it.moved

done_report : (request : ℕ) (word : Word) (fields : List Field) → SaysDone request word fields → reports_of request word fields ≡ true
done_report request word fields it =
    or_left (is_some (done_in request word fields) || says_gone request word fields || says_kept request word fields) (says_moved request word fields)
    (or_left (is_some (done_in request word fields) || says_gone request word fields) (says_kept request word fields)
    (or_left (is_some (done_in request word fields)) (says_gone request word fields) (ap is_some it.done)))

gone_report : (request : ℕ) (word : Word) (fields : List Field) → SaysGone request word fields → reports_of request word fields ≡ true
gone_report request word fields it =
    or_left (is_some (done_in request word fields) || says_gone request word fields || says_kept request word fields) (says_moved request word fields)
    (or_left (is_some (done_in request word fields) || says_gone request word fields) (says_kept request word fields)
    (or_right (is_some (done_in request word fields)) (says_gone request word fields) it.gone))

kept_report : (request : ℕ) (word : Word) (fields : List Field) → SaysKept request word fields → reports_of request word fields ≡ true
kept_report request word fields it =
    or_left (is_some (done_in request word fields) || says_gone request word fields || says_kept request word fields) (says_moved request word fields)
    (or_right (is_some (done_in request word fields) || says_gone request word fields) (says_kept request word fields) it.kept)

moved_report : (request : ℕ) (word : Word) (fields : List Field) → SaysMoved request word fields → reports_of request word fields ≡ true
moved_report request word fields it =
    or_right (is_some (done_in request word fields) || says_gone request word fields || says_kept request word fields) (says_moved request word fields) it.moved

count_first : (request : ℕ) (line : Line) (lines : List Line) → report_count (line ∷ lines) request ≡ cond (reports_of request line.word line.fields) 1 0 + report_count lines request
count_first request line lines = sum_by-cons (λ (it : Line). cond (reports_of request it.word it.fields) 1 0) line lines

one_first : (request : ℕ) (line : Line) (lines : List Line) → reports_of request line.word line.fields ≡ true → report_count (line ∷ lines) request ≡ 1 + report_count lines request
one_first request line lines holds =
    count_first request line lines ∙ ap (λ n. n + report_count lines request) (cond-true (reports_of request line.word line.fields) 1 0 holds)

none_first : (request : ℕ) (line : Line) (lines : List Line) → reports_of request line.word line.fields ≡ false → report_count (line ∷ lines) request ≡ 0 + report_count lines request
none_first request line lines fails =
    count_first request line lines ∙ ap (λ n. n + report_count lines request) (cond-false (reports_of request line.word line.fields) 1 0 fails)

record Quiet (lines : List Line) (request : ℕ) : Type 0 where
  outcome : (place : ℕ) (before : Outcome) → outcome_after lines place request before ≡ before
  done : done_of lines request ≡ None
  gone : say.is_gone lines request ≡ false
  kept : is_kept lines request ≡ false
  moved : say.is_moved lines request ≡ false

quiet : (lines : List Line) (request : ℕ) → AreFormed lines → report_count lines request ≡ 0 → Quiet lines request
quiet [] request formed none = record { outcome = λ place before. refl; done = refl; gone = refl; kept = refl; moved = refl }
quiet (line ∷ lines) request formed none = elim (effect request line.word line.fields formed.0) [
  | inl it ↦
      let rest : Quiet lines request = quiet lines request formed.1 (omega (arith, none, none_first request line lines (no_report request line.word line.fields it))) in
      record {
        outcome = λ place before. ap (λ now. outcome_after lines (place + 1) request now) (it.outcome place before) ∙ rest.outcome (place + 1) before;
        done = ap (λ first. or_else first (done_of lines request)) it.done ∙ rest.done;
        gone = or_from (says_gone request line.word line.fields) (say.is_gone lines request) it.gone rest.gone;
        kept = or_from (says_kept request line.word line.fields) (is_kept lines request) it.kept rest.kept;
        moved = or_from (says_moved request line.word line.fields) (say.is_moved lines request) it.moved rest.moved;
      }
  | inr (inl it) ↦ absurd (omega (arith, none, one_first request line lines (done_report request line.word line.fields it)))
  | inr (inr (inl it)) ↦ absurd (omega (arith, none, one_first request line lines (gone_report request line.word line.fields it)))
  | inr (inr (inr (inl it))) ↦ absurd (omega (arith, none, one_first request line lines (kept_report request line.word line.fields it)))
  | inr (inr (inr (inr it))) ↦ absurd (omega (arith, none, one_first request line lines (moved_report request line.word line.fields it)))
]

record Says (whole lines : List Line) (request : ℕ) (outcome : Outcome) : Type 0 where
  done : message_by whole outcome ≡ done_of lines request
  gone : code.is_gone outcome ≡ say.is_gone lines request
  moved : code.is_moved outcome ≡ say.is_moved lines request
  settled : code.is_settled outcome ≡ say.is_settled lines request

settle : (a b : Bool) (c : Option Message) (a' b' : Bool) (c' : Option Message) → a ≡ a' → b ≡ b' → c ≡ c' → (a || b || is_some c) ≡ (a' || b' || is_some c')
settle a b c a' b' c' p q r =
    ap (λ it. it || b || is_some c) p ∙ ap (λ it. a' || it || is_some c) q ∙ ap (λ it. a' || b' || is_some it) r

module _ (whole : List Line) (request : ℕ) (line : Line) (lines : List Line) where
  after_first : (place : ℕ) (before now : Outcome) → outcome_with line.word line.fields place request before ≡ now → outcome_after (line ∷ lines) place request before ≡ outcome_after lines (place + 1) request now
  after_first place before now e = ap (λ it. outcome_after lines (place + 1) request it) e

  says_rest : (outcome : Outcome) → SaysNothing request line.word line.fields → Says whole lines request outcome → Says whole (line ∷ lines) request outcome
  says_rest outcome it rest = record {
    done = rest.done ∙ sym (ap (λ first. or_else first (done_of lines request)) it.done);
    gone = rest.gone ∙ sym (ap (λ first. first || say.is_gone lines request) it.gone);
    moved = rest.moved ∙ sym (ap (λ first. first || say.is_moved lines request) it.moved);
    settled = rest.settled ∙ sym (settle (say.is_gone (line ∷ lines) request) (is_kept (line ∷ lines) request) (done_of (line ∷ lines) request)
        (say.is_gone lines request) (is_kept lines request) (done_of lines request)
        (ap (λ first. first || say.is_gone lines request) it.gone)
        (ap (λ first. first || is_kept lines request) it.kept)
        (ap (λ first. or_else first (done_of lines request)) it.done));
  }

  says_done : (place : ℕ) → fields_at whole place ≡ line.fields → SaysDone request line.word line.fields → Quiet lines request → Says whole (line ∷ lines) request (Done place)
  says_done place fields it none = record {
    done = ap message_after fields ∙ it.after ∙ sym (ap (λ first. or_else first (done_of lines request)) it.done);
    gone = sym (or_from (says_gone request line.word line.fields) (say.is_gone lines request) it.gone none.gone);
    moved = sym (or_from (says_moved request line.word line.fields) (say.is_moved lines request) it.moved none.moved);
    settled = sym (or_right (say.is_gone (line ∷ lines) request || is_kept (line ∷ lines) request) (is_some (done_of (line ∷ lines) request))
        (ap (λ first. is_some (or_else first (done_of lines request))) it.done));
  }

  says_gone_first : SaysGone request line.word line.fields → Quiet lines request → Says whole (line ∷ lines) request Gone
  says_gone_first it none = record {
    done = sym (ap (λ first. or_else first (done_of lines request)) it.done ∙ none.done);
    gone = sym (or_left (says_gone request line.word line.fields) (say.is_gone lines request) it.gone);
    moved = sym (or_from (says_moved request line.word line.fields) (say.is_moved lines request) it.moved none.moved);
    settled = sym (or_left (say.is_gone (line ∷ lines) request || is_kept (line ∷ lines) request) (is_some (done_of (line ∷ lines) request))
        (or_left (say.is_gone (line ∷ lines) request) (is_kept (line ∷ lines) request)
        (or_left (says_gone request line.word line.fields) (say.is_gone lines request) it.gone)));
  }

  says_kept_first : SaysKept request line.word line.fields → Quiet lines request → Says whole (line ∷ lines) request Kept
  says_kept_first it none = record {
    done = sym (ap (λ first. or_else first (done_of lines request)) it.done ∙ none.done);
    gone = sym (or_from (says_gone request line.word line.fields) (say.is_gone lines request) it.gone none.gone);
    moved = sym (or_from (says_moved request line.word line.fields) (say.is_moved lines request) it.moved none.moved);
    settled = sym (or_left (say.is_gone (line ∷ lines) request || is_kept (line ∷ lines) request) (is_some (done_of (line ∷ lines) request))
        (or_right (say.is_gone (line ∷ lines) request) (is_kept (line ∷ lines) request)
        (or_left (says_kept request line.word line.fields) (is_kept lines request) it.kept)));
  }

  says_moved_first : SaysMoved request line.word line.fields → Quiet lines request → Says whole (line ∷ lines) request Moved
  says_moved_first it none = record {
    done = sym (ap (λ first. or_else first (done_of lines request)) it.done ∙ none.done);
    gone = sym (or_from (says_gone request line.word line.fields) (say.is_gone lines request) it.gone none.gone);
    moved = sym (or_left (says_moved request line.word line.fields) (say.is_moved lines request) it.moved);
    settled = sym (settle (say.is_gone (line ∷ lines) request) (is_kept (line ∷ lines) request) (done_of (line ∷ lines) request) false false None
        (or_from (says_gone request line.word line.fields) (say.is_gone lines request) it.gone none.gone)
        (or_from (says_kept request line.word line.fields) (is_kept lines request) it.kept none.kept)
        (ap (λ first. or_else first (done_of lines request)) it.done ∙ none.done));
  }

same_says : (whole lines : List Line) (request : ℕ) (it now : Outcome) → now ≡ it → Says whole lines request it → Says whole lines request now
same_says whole lines request it now e says = record {
  done = ap (message_by whole) e ∙ says.done;
  gone = ap code.is_gone e ∙ says.gone;
  moved = ap code.is_moved e ∙ says.moved;
  settled = ap code.is_settled e ∙ says.settled;
}

says_all : (whole lines : List Line) (place request : ℕ) → lines ≡ drop place whole → AreFormed lines → report_count lines request ≤ 1 → Says whole lines request (outcome_after lines place request Unknown)
says_all whole [] place request at formed once = record { done = refl; gone = refl; moved = refl; settled = refl }
says_all whole (line ∷ lines) place request at formed once =
    let here = drop_here whole place line lines at in
    let fields : fields_at whole place ≡ line.fields = ap fields_in_line here.0 in
    elim (effect request line.word line.fields formed.0) [
      | inl it ↦
          same_says whole (line ∷ lines) request (outcome_after lines (place + 1) request Unknown) (outcome_after (line ∷ lines) place request Unknown)
          (after_first whole request line lines place Unknown Unknown (it.outcome place Unknown))
          (says_rest whole request line lines (outcome_after lines (place + 1) request Unknown) it
          (says_all whole lines (place + 1) request (here.1 ∙ ap (λ n. drop n whole) (sym (add-one place))) formed.1
          (omega (arith, once, none_first request line lines (no_report request line.word line.fields it)))))
      | inr (inl it) ↦
          let none : Quiet lines request = quiet lines request formed.1 (omega (arith, once, one_first request line lines (done_report request line.word line.fields it))) in
          same_says whole (line ∷ lines) request (Done place) (outcome_after (line ∷ lines) place request Unknown)
          (after_first whole request line lines place Unknown (Done place) (it.outcome place Unknown) ∙ none.outcome (place + 1) (Done place))
          (says_done whole request line lines place fields it none)
      | inr (inr (inl it)) ↦
          let none : Quiet lines request = quiet lines request formed.1 (omega (arith, once, one_first request line lines (gone_report request line.word line.fields it))) in
          same_says whole (line ∷ lines) request Gone (outcome_after (line ∷ lines) place request Unknown)
          (after_first whole request line lines place Unknown Gone (it.outcome place Unknown) ∙ none.outcome (place + 1) Gone)
          (says_gone_first whole request line lines it none)
      | inr (inr (inr (inl it))) ↦
          let none : Quiet lines request = quiet lines request formed.1 (omega (arith, once, one_first request line lines (kept_report request line.word line.fields it))) in
          same_says whole (line ∷ lines) request Kept (outcome_after (line ∷ lines) place request Unknown)
          (after_first whole request line lines place Unknown Kept (it.outcome place Unknown) ∙ none.outcome (place + 1) Kept)
          (says_kept_first whole request line lines it none)
      | inr (inr (inr (inr it))) ↦
          let none : Quiet lines request = quiet lines request formed.1 (omega (arith, once, one_first request line lines (moved_report request line.word line.fields it))) in
          same_says whole (line ∷ lines) request Moved (outcome_after (line ∷ lines) place request Unknown)
          (after_first whole request line lines place Unknown Moved (it.outcome place Unknown) ∙ none.outcome (place + 1) Moved)
          (says_moved_first whole request line lines it none)
    ]

-- waits leave out what is gone, and what is moved
either_out : (outcome : Outcome) (gone moved : Bool) → code.is_gone outcome ≡ gone → code.is_moved outcome ≡ moved → code.is_left_out outcome ≡ (gone || moved)
either_out Gone gone moved e f = ap (λ b. b || moved) e
either_out Moved gone moved e f = ap (λ b. code.is_gone Moved || b) f ∙ ap (λ b. b || moved) e
either_out Unknown gone moved e f = ap (λ b. code.is_gone Unknown || b) f ∙ ap (λ b. b || moved) e
either_out (Done line) gone moved e f = ap (λ b. code.is_gone (Done line) || b) f ∙ ap (λ b. b || moved) e
either_out Kept gone moved e f = ap (λ b. code.is_gone Kept || b) f ∙ ap (λ b. b || moved) e

pub tells_all : (lines : List Line) (place : ℕ) (it : Outcomes) → length lines ≤ place → AreReadable lines → ((request : ℕ) → outcome_after (drop place lines) place request (outcome_at it request) ≡ outcome_after lines 0 request Unknown) → Tells lines it
tells_all lines place it past readable kept =
    let all : (request : ℕ) → Says lines lines request (outcome_at it request) = λ request.
    same_says lines lines request (outcome_after lines 0 request Unknown) (outcome_at it request)
    (sym (ap (λ rest. outcome_after rest place request (outcome_at it request)) (drop_all place lines past)) ∙ kept request)
    (says_all lines lines 0 request refl readable.formed (readable.once request)) in
    record {
      done = λ request. (all request).done;
      gone = λ request. (all request).gone;
      moved = λ request. (all request).moved;
      left_out = λ request. either_out (outcome_at it request) (say.is_gone lines request) (say.is_moved lines request) (all request).gone (all request).moved;
      settled = λ request. (all request).settled;
    }

pub tells_none : (it : Outcomes) → ((request : ℕ) → outcome_at it request ≡ Unknown) → Tells [] it
tells_none it unknown = record {
  done = λ request. ap (message_by []) (unknown request);
  gone = λ request. ap code.is_gone (unknown request);
  moved = λ request. ap code.is_moved (unknown request);
  left_out = λ request. ap code.is_left_out (unknown request);
  settled = λ request. ap code.is_settled (unknown request);
}

-- ---- What some requests stand for ----

module _ (lines : List Line) (it : Standing) (told : Tells lines it.outcomes) where
  pub ids_told : (fields : List Field) → AllStandFor lines it (naturals_in fields) → map Own (ids_in it fields) ≡ ids_of lines (naturals_in fields)
  ids_told [] stand = refl
  ids_told (Natural request ∷ fields) stand = elim (cases_Bool (say.is_left_out lines request)) [
    | inl holds ↦
        ap (map Own) (cond-true (code.is_left_out (outcome_at it.outcomes request)) (ids_in it fields) (id_in it request ∷ ids_in it fields) (told.left_out request ∙ holds))
        ∙ ids_told fields stand.1
        ∙ sym (ap (map (id_of lines)) (cond-false (not (say.is_left_out lines request)) (request ∷ filter (λ one. not (say.is_left_out lines one)) (naturals_in fields)) (filter (λ one. not (say.is_left_out lines one)) (naturals_in fields)) (ap not holds)))
    | inr fails ↦
        ap (map Own) (cond-false (code.is_left_out (outcome_at it.outcomes request)) (ids_in it fields) (id_in it request ∷ ids_in it fields) (told.left_out request ∙ fails))
        ∙ ap (λ one. one ∷ map Own (ids_in it fields)) stand.0
        ∙ ap (λ others. id_of lines request ∷ others) (ids_told fields stand.1)
        ∙ sym (ap (map (id_of lines)) (cond-true (not (say.is_left_out lines request)) (request ∷ filter (λ one. not (say.is_left_out lines one)) (naturals_in fields)) (filter (λ one. not (say.is_left_out lines one)) (naturals_in fields)) (ap not fails)))
  ]
  ids_told (Signed number ∷ fields) stand = ids_told fields stand
  ids_told (Null ∷ fields) stand = ids_told fields stand
  ids_told (Any ∷ fields) stand = ids_told fields stand
  ids_told (Undefined ∷ fields) stand = ids_told fields stand
