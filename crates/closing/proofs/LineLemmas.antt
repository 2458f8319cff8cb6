-- Of which line each record of a list is, and the calls of a list so far and at its end.
use Rattle.std.proofs.Common.{◌≡◌, ◌∙◌, refl, sym, ap, subst, arith, ℕ, zero, suc, ◌+◌, ◌-◌, ◌<◌, ◌≤◌, List, [], ◌∷◌, ◌++◌, length, take, append_assoc, length-append, Option, Some, None, option_map, inl, inr, ◌⊎◌}
use Rattle.std.specs.Prelude.{slice_get}
use Rattle.std.specs.Option.{option_map_or}
use Rattle.std.proofs.lemmas.Bool.{cases_lt}
use Rattle.std.proofs.lemmas.Option.{slice_get_past}
use Rattle.std.proofs.lemmas.List.{append-nil, length-map}
use Rattle.mpicall.specs.declared.call.Call.{Call}
use Rattle.mpicall.specs.declared.call.Call.TheVariants.{Open}
use Rattle.mpicall.specs.declared.limits.TheConstants.{MOST_REQUESTS}
use Rattle.closing.specs.Steps.{Written, Progress, Step, Does, Starts, WaitsForAll, WaitsForOne, PutsOff, WaitsForLate, number_in, numbers_of, least_free, plain, waits_for, wait_for_one, after_step, after_steps, wait_one}
use Rattle.closing.specs.Recording.{Listed, cut, ended, most_records}
use Rattle.closing.specs.Recordings.{line_at}
use Rattle.closing.specs.inner.Lists.{Handed, HasPlaces, IsCut, calls_in}
use Rattle.closing.specs.inner.SoFar.{AreOfLine, HasCalls}
use Rattle.closing.specs.declared.list.List.{List as ListCode}
use Rattle.closing.specs.declared.why.Why.{Why}
use Rattle.closing.specs.declared.why.Why.TheVariants.{TooLong}
use Rattle.closing.proofs.ListLemmas.{AllOfLine, line_past, plain_line}
use Rattle.closing.proofs.PartLemmas.{cut_begins, cut_is, cut_long, cut_short}
use Rattle.closing.proofs.StepsLemmas.{cut_on}

-- ---- Records of a line ----

-- the records of another progress, with some of a line after them
pub record GrownBy (line : ℕ) (old new : Progress) : Type 0 where
  pub more : List Written
  pub records : new.records ≡ old.records ++ more
  pub all : AllOfLine line more

none_more : (line : ℕ) (p q : Progress) → q.records ≡ p.records → GrownBy line p q
none_more line p q e = record { more = []; records = e ∙ sym (append-nil p.records); all = tt }

waited_by : (line : ℕ) (p : Progress) (n : Option ℕ) (numbers : List ℕ) → GrownBy line p (wait_one p line n numbers)
waited_by line p None numbers = none_more line p p refl
waited_by line p (Some number) numbers =
    let more = plain line (wait_for_one number numbers ∷ []) in
    record { more = more; records = refl; all = plain_line line (wait_for_one number numbers ∷ []) }

put_by : (line : ℕ) (p q : Progress) (calls : List Call) → q.records ≡ p.records ++ plain line calls → GrownBy line p q
put_by line p q calls e = record { more = plain line calls; records = e; all = plain_line line calls }

started_by : (line : ℕ) (p q : Progress) (one : Written) → one.line ≡ line → q.records ≡ p.records ++ one ∷ [] → GrownBy line p q
started_by line p q one is e = record { more = one ∷ []; records = e; all = (is, tt) }

step_by : (line : ℕ) (p : Progress) (step : Step) → GrownBy line p (after_step p line step)
step_by line p (Does call) = put_by line p (after_step p line (Does call)) (call ∷ []) refl
step_by line p (Starts id call) =
    started_by line p (after_step p line (Starts id call)) (record { call = call (least_free p.active); line = line; starts = Some id }) refl refl
step_by line p (WaitsForAll ids) =
    let numbers = numbers_of p.active ids in
    put_by line p (after_step p line (WaitsForAll ids)) (waits_for (length numbers) numbers) refl
step_by line p (WaitsForOne id ids) = waited_by line p (number_in p.active id) (take MOST_REQUESTS (numbers_of p.active ids))
step_by line p (PutsOff ids) = none_more line p (after_step p line (PutsOff ids)) refl
step_by line p WaitsForLate =
    let numbers = numbers_of p.active p.late in
    put_by line p (after_step p line WaitsForLate) (waits_for (length numbers) numbers) refl

all_both : (line : ℕ) (xs ys : List Written) → AllOfLine line xs → AllOfLine line ys → AllOfLine line (xs ++ ys)
all_both line [] ys one two = two
all_both line (x ∷ xs) ys one two = (one.0, all_both line xs ys one.1 two)

-- the steps of an entry put records of its line
pub steps_by : (line : ℕ) (p : Progress) (steps : List Step) → GrownBy line p (after_steps p line steps)
steps_by line p [] = none_more line p p refl
steps_by line p (step ∷ steps) =
    let one = step_by line p step in
    let two = steps_by line (after_step p line step) steps in
    record {
      more = one.more ++ two.more;
      records = two.records ∙ ap (λ xs. xs ++ two.more) one.records ∙ append_assoc p.records one.more two.more;
      all = all_both line one.more two.more one.all two.all;
    }

-- so all are of it from where it began
pub of_line : (line before : ℕ) (p : Progress) (steps : List Step) → length p.records ≤ before → AreOfLine line before (after_steps p line steps).records
of_line line before p steps h = λ place from within.
    let by = steps_by line p steps in
    let count : length (after_steps p line steps).records ≡ length p.records + length by.more = ap length by.records ∙ length-append p.records by.more in
    ap (λ xs. option_map (λ it. it.line) (slice_get xs place)) by.records
    ∙ line_past p.records by.more line place by.all (omega (arith, h, from)) (omega (arith, within, count))

-- ---- The line at a place ----

get_first : {A : Type 0} (xs ys : List A) (n : ℕ) → n < length xs → slice_get (xs ++ ys) n ≡ slice_get xs n
get_first [] ys n h = absurd (omega arith)
get_first (x ∷ xs) ys zero h = refl
get_first (x ∷ xs) ys (suc n) h = get_first xs ys n (omega arith)

get_taken : {A : Type 0} (n : ℕ) (xs : List A) (place : ℕ) → place < n → slice_get (take n xs) place ≡ slice_get xs place
get_taken zero xs place h = absurd (omega arith)
get_taken (suc n) [] place h = refl
get_taken (suc n) (x ∷ xs) zero h = refl
get_taken (suc n) (x ∷ xs) (suc place) h = get_taken n xs place (omega arith)

pub taken_count : {A : Type 0} (n : ℕ) (xs : List A) → length (take n xs) ≤ n
taken_count zero xs = omega arith
taken_count (suc n) [] = omega arith
taken_count (suc n) (x ∷ xs) = omega (arith, taken_count n xs)

some_line : (it : Option Written) (line end : ℕ) → option_map (λ one. one.line) it ≡ Some line → option_map_or (λ one. one.line) it end ≡ line
some_line None line end e = absurd (cc (e))
some_line (Some one) line end e = cc

line_of_record : (it : Listed) (place line : ℕ) → option_map (λ one. one.line) (slice_get it.records place) ≡ Some line → line_at it place ≡ line
line_of_record it place line e = some_line (slice_get it.records place) line it.line e

line_of_end : (it : Listed) (place line : ℕ) → length it.records ≤ place → it.line ≡ line → line_at it place ≡ line
line_of_end it place line h e = ap (λ one. option_map_or (λ it. it.line) one it.line) (slice_get_past it.records place h) ∙ e

-- ---- So far ----

-- a record that the list has so far is where it is in the list that is cut
stays_at : (it : Listed) (records more : List Written) (place : ℕ) → it.records ≡ records ++ more → length records < most_records → place < length records
    → slice_get (cut it).records place ≡ slice_get records place
stays_at it records more place e few h = by_length (cases_lt (length it.records) most_records)
  where
    here : slice_get it.records place ≡ slice_get records place
    here = ap (λ xs. slice_get xs place) e ∙ get_first records more place h

    by_length : (length it.records < most_records) ⊎ (most_records ≤ length it.records) → slice_get (cut it).records place ≡ slice_get records place
    by_length (inl short) = ap (λ one. slice_get one.records place) (cut_short it short) ∙ here
    by_length (inr long) =
        ap (λ one. slice_get one.records place) (cut_long it long)
        ∙ get_taken (most_records - 1) it.records place (omega (arith, few, h)) ∙ here

-- a list that goes on has these calls, and others to come
pub calls_so_far : (it : Listed) (handed items : List Call) (records more : List Written) (before line : ℕ) → it.records ≡ records ++ more
    → length records < most_records → calls_in records ≡ handed ++ items → AreOfLine line before records
    → (rest : List Call) × HasCalls (cut it) handed items rest before line
calls_so_far it handed items records more before line e few calls lines =
    let begun = cut_begins it records more e few in
    let count : length (handed ++ items) ≡ length records = ap length (sym calls) ∙ length-map records (λ one. one.call) in (
      begun.0,
      record {
        calls = begun.1 ∙ ap (λ xs. xs ++ begun.0) calls ∙ append_assoc handed items begun.0;
        lines = λ place from within.
            line_of_record (cut it) place line
            (ap (option_map (λ one. one.line)) (stays_at it records more place e few (omega (arith, within, count))) ∙ lines place from (omega (arith, within, count)));
      },
    )

-- ---- At the end ----

pub record IsEnded (it : Listed) (handed : Handed) (list : ListCode) (end : Call) (before line : ℕ) (why : Option Why) : Type 0 where
  pub has : HasCalls it handed.calls (list.records ++ end ∷ []) [] before line
  pub line_is : it.line ≡ line
  pub why_is : it.why ≡ why
  pub places : HasPlaces handed.frees it.records list.freed

with_end : (handed items : List Call) (end : Call) → (handed ++ items) ++ end ∷ [] ≡ handed ++ ((items ++ end ∷ []) ++ [])
with_end handed items end =
    append_assoc handed items (end ∷ []) ∙ ap (λ xs. handed ++ xs) (sym (append-nil (items ++ end ∷ [])))

ended_line : (it : Listed) (before line place : ℕ) → it.line ≡ line → AreOfLine line before it.records → before ≤ place
    → (place < length it.records) ⊎ (length it.records ≤ place) → line_at it place ≡ line
ended_line it before line place e lines from (inl within) = line_of_record it place line (lines place from within)
ended_line it before line place e lines from (inr past) = line_of_end it place line past e

-- a list that ends here has these calls with its end
pub calls_ended : (q : Progress) (handed : Handed) (list : ListCode) (end : Call) (before line : ℕ) (why : Option Why) → length q.records < most_records
    → calls_in q.records ≡ handed.calls ++ list.records → HasPlaces handed.frees q.records list.freed → AreOfLine line before q.records
    → IsEnded (cut (ended q end line why)) handed list end before line why
calls_ended q handed list end before line why few calls places lines =
    let whole = ended q end line why in
    let same : cut whole ≡ whole = cut_short whole few in
    subst (λ (it : Listed). IsEnded it handed list end before line why) (sym same)
    (record {
      has = record {
        calls = ap (λ xs. xs ++ end ∷ []) calls ∙ with_end handed.calls list.records end;
        lines = λ place from within. ended_line whole before line place refl lines from (cases_lt place (length q.records));
      };
      line_is = refl;
      why_is = refl;
      places = places;
    })

taken_lines : (it : Listed) (q : Progress) (more : List Written) (before line : ℕ) → it.records ≡ q.records ++ more → most_records ≤ length q.records
    → AreOfLine line before q.records → AreOfLine line before (take (most_records - 1) it.records)
taken_lines it q more before line e long lines = λ place from within.
    let below : place < most_records - 1 = omega (arith, within, taken_count (most_records - 1) it.records) in
    ap (option_map (λ one. one.line))
    (get_taken (most_records - 1) it.records place below ∙ ap (λ xs. slice_get xs place) e ∙ get_first q.records more place (omega (arith, below, long)))
    ∙ lines place from (omega (arith, below, long))

-- a list that is cut here
pub calls_cut : (it : Listed) (q : Progress) (more : List Written) (handed : Handed) (list : ListCode) (before line : ℕ) → it.records ≡ q.records ++ more
    → IsCut handed q line list → AreOfLine line before q.records
    → IsEnded (cut it) handed list Open before line (Some TooLong)
calls_cut it q more handed list before line e is lines =
    let long : most_records ≤ length it.records = rw e (omega (arith, is.long, length-append q.records more)) in
    let at = cut_is it handed (record q { records = it.records }) line list refl (cut_grown q more handed line list it.records e is) in
    let made : (cut it).records ≡ take (most_records - 1) it.records = ap (λ one. one.records) (cut_long it long) in
    let there : AreOfLine line before (cut it).records =
    subst (λ (xs : List Written). AreOfLine line before xs) (sym made) (taken_lines it q more before line e is.long lines) in
    record {
      has = record {
        calls = at.calls ∙ ap (λ xs. handed.calls ++ xs) (sym (append-nil (list.records ++ Open ∷ [])));
        lines = λ place from within. ended_line (cut it) before line place at.line_is there from (cases_lt place (length (cut it).records));
      };
      line_is = at.line_is;
      why_is = at.why;
      places = at.places;
    }
  where
    cut_grown : (q : Progress) (more : List Written) (handed : Handed) (line : ℕ) (list : ListCode) (records : List Written) → records ≡ q.records ++ more
        → IsCut handed q line list → IsCut handed (record q { records = records }) line list
    cut_grown q more handed line list records e is = cut_on handed q (record q { records = records }) line list (more, e) is
