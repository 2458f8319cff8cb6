-- In a journal that was read it is reported at most once what came of a request, in the form of its report.
use Rattle.std.proofs.Common.{◌≡◌, ℕ, ◌≤◌, ◌+◌, ◌==◌, ◌||◌, ◌&&◌, not, Bool, true, false, Some, None, is_some, cond, if◌then◌else◌, List, [], ◌∷◌, ◌++◌, length, refl, sym, ap, subst, ◌∙◌, arith, inl, inr, eqb-true}
use Rattle.std.specs.List.{list_any}
use Rattle.std.proofs.lemmas.Bool.{cases_Bool, cond-true, cond-false, false≢true, and_parts, or_parts, not-true}
use Rattle.std.proofs.lemmas.List.Folds.{list_any-append}
use Rattle.std.proofs.lemmas.List.Sums.{sum_by-cons}
use Rattle.journals.specs.Lines.{Line}
use Rattle.journals.specs.Entries.{numbers_by, is_request, last_entry}
use Rattle.journals.specs.Known.{is_among, knows_request, is_of_receive, awaits_any, is_cancelled, is_outcome, has_outcome}
use Rattle.journals.specs.Faults.{is_left, may_follow, may_be_of, names_unfit}
use Rattle.journals.specs.inner.Knows.{IsRead}
use Rattle.journals.specs.declared.field.Field.{Field}
use Rattle.journals.specs.declared.field.Field.TheVariants.{Natural}
use Rattle.journals.specs.declared.word.Word.{Word}
use Rattle.journals.specs.declared.word.Word.TheVariants.{Report}
use Rattle.journals.specs.declared.word.ReportWord.{ReportWord}
use Rattle.journals.specs.declared.word.ReportWord.TheVariants as report
use Rattle.closing.specs.Fit.{reports_of, report_count, IsFormed, AreFormed}
use Rattle.lawful.proofs.FullFacts.{LinesFull}
use Rattle.lawful.proofs.RightLines.{IsRight, AreRight, right_requests}

-- ---- What a report of an outcome needs ----

-- the line reports what came of a request, and it wasn't reported before
record IsFirst (before : List Line) (line : Line) (request : ℕ) : Type 0 where
  none : has_outcome before request ≡ false
  after : has_outcome (before ++ line ∷ []) request ≡ true

any_passes : (test : ℕ → Bool) (numbers : List ℕ) (number : ℕ) → list_any test numbers ≡ false → is_among number numbers ≡ true → test number ≡ false
any_passes test [] number none among = absurd (false≢true among)
any_passes test (one ∷ numbers) number none among =
    let parts = or_parts (test one) (list_any test numbers) none in
    elim (cases_Bool (one == number)) [
      | inl same ↦ subst (λ (n : ℕ). test n ≡ false) (eqb-true one number same) parts.0
      | inr other ↦ any_passes test numbers number parts.1 (rw other at among)
    ]

-- a report in its place is of a request that can have it
pub may_be : (before : List Line) (word : ReportWord) (fields : List Field) (request : ℕ) → IsRight before (record { word = Report word; fields = fields }) → is_among request (numbers_by is_request (record { word = Report word; fields = fields })) ≡ true → may_be_of word before request ≡ true
may_be before word fields request is among =
    let line : Line = record { word = Report word; fields = fields } in
    let parts = or_parts (not (may_follow word (length fields) (last_entry before))) (names_unfit word before line) is.in_place in
    let fits = any_passes (λ (r : ℕ). knows_request before r && not (may_be_of word before r)) (numbers_by is_request line) request parts.1 among in
    let known = (and_parts (knows_request before request) (is_left before line.word request) ((right_requests before line is).known request among)).0 in
    known_may (knows_request before request) (may_be_of word before request) known fits
  where
    known_may : (a b : Bool) → a ≡ true → (a && not b) ≡ false → b ≡ true
    known_may true true known h = refl
    known_may true false known h = absurd (false≢true (sym h))
    known_may false b known h = absurd (false≢true known)

not_before : (a b : Bool) → (a && not b) ≡ true → b ≡ false
not_before a b h = not-true b (and_parts a (not b) h).1

has_after : (before : List Line) (line : Line) (request : ℕ) → is_outcome line.word ≡ true → is_among request (numbers_by is_request line) ≡ true → has_outcome (before ++ line ∷ []) request ≡ true
has_after before line request is among =
    list_any-append (λ (l : Line). is_outcome l.word && is_among request (numbers_by is_request l)) before (line ∷ [])
    ∙ rw (is, among) (either (list_any (λ (l : Line). is_outcome l.word && is_among request (numbers_by is_request l)) before))
  where
    either : (b : Bool) → (b || true) ≡ true
    either true = refl
    either false = refl

done_first : (before : List Line) (fields : List Field) (request : ℕ) → IsRight before (record { word = Report report.Done; fields = fields }) → is_among request (numbers_by is_request (record { word = Report report.Done; fields = fields })) ≡ true → IsFirst before (record { word = Report report.Done; fields = fields }) request
done_first before fields request is among = record {
  none = not_before (awaits_any before request) (has_outcome before request) (may_be before report.Done fields request is among);
  after = has_after before (record { word = Report report.Done; fields = fields }) request refl among;
}

gone_first : (before : List Line) (fields : List Field) (request : ℕ) → IsRight before (record { word = Report report.Gone; fields = fields }) → is_among request (numbers_by is_request (record { word = Report report.Gone; fields = fields })) ≡ true → IsFirst before (record { word = Report report.Gone; fields = fields }) request
gone_first before fields request is among = record {
  none = not_before (is_cancelled before request) (has_outcome before request) (may_be before report.Gone fields request is among);
  after = has_after before (record { word = Report report.Gone; fields = fields }) request refl among;
}

kept_first : (before : List Line) (fields : List Field) (request : ℕ) → IsRight before (record { word = Report report.Kept; fields = fields }) → is_among request (numbers_by is_request (record { word = Report report.Kept; fields = fields })) ≡ true → IsFirst before (record { word = Report report.Kept; fields = fields }) request
kept_first before fields request is among = record {
  none = not_before (is_cancelled before request) (has_outcome before request) (may_be before report.Kept fields request is among);
  after = has_after before (record { word = Report report.Kept; fields = fields }) request refl among;
}

moved_first : (before : List Line) (fields : List Field) (request : ℕ) → IsRight before (record { word = Report report.Moved; fields = fields }) → is_among request (numbers_by is_request (record { word = Report report.Moved; fields = fields })) ≡ true → IsFirst before (record { word = Report report.Moved; fields = fields }) request
moved_first before fields request is among = record {
  none = not_before (is_of_receive before request) (has_outcome before request) (may_be before report.Moved fields request is among);
  after = has_after before (record { word = Report report.Moved; fields = fields }) request refl among;
}

-- ---- The request of a report ----

same_among : (done request : ℕ) (others : List ℕ) → (done == request) ≡ true → is_among request (done ∷ others) ≡ true
same_among done request others same = rw same refl

if_some : (A : Type 0) (b : Bool) (it : A) → is_some (if b then Some it else None) ≡ true → b ≡ true
if_some A true it h = refl
if_some A false it h = absurd (false≢true h)

or_none : (b : Bool) → (b || false || false) ≡ true → b ≡ true
or_none true h = refl
or_none false h = absurd (false≢true h)

or_none_more : (b : Bool) → (b || false || false || false) ≡ true → b ≡ true
or_none_more true h = refl
or_none_more false h = absurd (false≢true h)

-- a line that reports what came of a request is the first that does
first_of : (before : List Line) (word : Word) (fields : List Field) (request : ℕ) → IsRight before (record { word = word; fields = fields }) → reports_of request word fields ≡ true → IsFirst before (record { word = word; fields = fields }) request
first_of before (Report report.Done) (Natural done ∷ source ∷ tag ∷ []) request is h =
    let same = if_some _ (done == request) _ (or_none_more _ h) in
    done_first before (Natural done ∷ source ∷ tag ∷ []) request is (rw same refl)
first_of before (Report report.Gone) (Natural gone ∷ []) request is h =
    gone_first before (Natural gone ∷ []) request is (rw (or_none (gone == request) h) refl)
first_of before (Report report.Kept) (Natural kept ∷ []) request is h =
    kept_first before (Natural kept ∷ []) request is (rw h refl)
first_of before (Report report.Moved) (Natural moved ∷ []) request is h =
    moved_first before (Natural moved ∷ []) request is (rw h refl)
first_of before word fields request is h = absurd (false≢true h)

-- ---- Lines ----

count_first : (request : ℕ) (line : Line) (lines : List Line) → report_count (line ∷ lines) request ≡ cond (reports_of request line.word line.fields) 1 0 + report_count lines request
count_first request line lines = sum_by-cons (λ (l : Line). cond (reports_of request l.word l.fields) 1 0) line lines

still_has : (before : List Line) (line : Line) (request : ℕ) → has_outcome before request ≡ true → has_outcome (before ++ line ∷ []) request ≡ true
still_has before line request h =
    list_any-append (λ (l : Line). is_outcome l.word && is_among request (numbers_by is_request l)) before (line ∷ []) ∙ rw h refl

-- none once it was reported
none_more : (before lines : List Line) (request : ℕ) → AreRight before lines → has_outcome before request ≡ true → report_count lines request ≡ 0
none_more before [] request all has = refl
none_more before (line ∷ lines) request all has =
    elim (cases_Bool (reports_of request line.word line.fields)) [
      | inl reports ↦ absurd (false≢true (sym (first_of before line.word line.fields request all.0 reports).none ∙ has))
      | inr other ↦
          count_first request line lines ∙ ap (λ (n : ℕ). n + report_count lines request) (cond-false (reports_of request line.word line.fields) 1 0 other)
          ∙ zero_more (report_count lines request) (none_more (before ++ line ∷ []) lines request all.1 (still_has before line request has))
    ]
  where
    zero_more : (n : ℕ) → n ≡ 0 → 0 + n ≡ 0
    zero_more n h = omega (arith, h)

pub once_more : (before lines : List Line) (request : ℕ) → AreRight before lines → report_count lines request ≤ 1
once_more before [] request all = omega arith
once_more before (line ∷ lines) request all =
    elim (cases_Bool (reports_of request line.word line.fields)) [
      | inl reports ↦
          one (report_count (line ∷ lines) request) (report_count lines request)
          (count_first request line lines ∙ ap (λ (n : ℕ). n + report_count lines request) (cond-true (reports_of request line.word line.fields) 1 0 reports))
          (none_more (before ++ line ∷ []) lines request all.1 (first_of before line.word line.fields request all.0 reports).after)
      | inr other ↦
          few (report_count (line ∷ lines) request) (report_count lines request)
          (count_first request line lines ∙ ap (λ (n : ℕ). n + report_count lines request) (cond-false (reports_of request line.word line.fields) 1 0 other))
          (once_more (before ++ line ∷ []) lines request all.1)
    ]
  where
    one : (a b : ℕ) → a ≡ 1 + b → b ≡ 0 → a ≤ 1
    one a b e none = omega (arith, e, none)

    few : (a b : ℕ) → a ≡ 0 + b → b ≤ 1 → a ≤ 1
    few a b e le = omega (arith, e, le)

-- ---- Forms ----

line_formed : (ranks : ℕ) (word : Word) (fields : List Field) → IsRead ranks (record { word = word; fields = fields }) → IsFormed word fields
line_formed ranks (Report report.Done) fields read = sym read.fits
line_formed ranks (Report report.Gone) fields read = sym read.fits
line_formed ranks (Report report.Kept) fields read = sym read.fits
line_formed ranks (Report report.Moved) fields read = sym read.fits
line_formed ranks _ fields read = tt

pub lines_formed : (ranks : ℕ) (lines : List Line) → LinesFull ranks lines → AreFormed lines
lines_formed ranks [] full = tt
lines_formed ranks (line ∷ lines) full = (line_formed ranks line.word line.fields full.0.read, lines_formed ranks lines full.1)
