-- What lines say that are among others: as much as those, but for messages that are reported among them.
use Rattle.std.proofs.Common.{◌≡◌, ℕ, ◌||◌, ◌&&◌, not, Bool, true, false, Option, Some, None, is_some, is_none, if◌then◌else◌, List, [], ◌∷◌, ◌++◌, length, refl, sym, ap, subst, ◌∙◌, inl, inr}
use Rattle.std.specs.List.{find, list_any}
use Rattle.std.proofs.lemmas.Bool.{cases_Bool, false≢true}
use Rattle.std.proofs.lemmas.List.Folds.{list_any-append}
use Rattle.std.proofs.lemmas.Option.{none-some}
use Rattle.mpicall.specs.Word.{or_else}
use Rattle.journals.specs.Lines.{Line}
use Rattle.journals.specs.Words.{is_call, forms_of}
use Rattle.journals.specs.Entries.{Listing, listing_of, put_line, numbers_by, is_new_request, is_new_message}
use Rattle.journals.specs.Known.{is_among, is_report, knows_request, knows_message}
use Rattle.journals.specs.Faults.{is_free}
use Rattle.journals.specs.declared.field.Field.{Field}
use Rattle.journals.specs.declared.word.Word.{Word}
use Rattle.journals.specs.declared.word.Word.TheVariants.{Call as CallLine, Report}
use Rattle.journals.specs.declared.word.ReportWord.{ReportWord}
use Rattle.journals.specs.declared.word.ReportWord.TheVariants as report
use Rattle.journals.proofs.LineForms.{no_numbers}
use Rattle.closing.specs.Reported.{Message, done_in, done_of}
use Rattle.closing.specs.Entry.{matched_in, matched_message, starts_send_in, is_of_send}
use Rattle.lawful.specs.LongerTold.{AreAmong}
use Rattle.lawful.proofs.KnownLines.{matched_append}

-- ---- Lines ----

pub among_more : (all lines more : List Line) → AreAmong all lines (lines ++ more)
among_more all [] more = tt
among_more all (line ∷ lines) more = inl (refl, among_more all lines more)

or_right : (a b : Bool) → b ≡ true → (a || b) ≡ true
or_right true b h = refl
or_right false b h = h

or_step : (a b c d : Bool) → b ≡ a → (c ≡ true → d ≡ true) → (a || c) ≡ true → (b || d) ≡ true
or_step true b c d is keeps h = rw is refl
or_step false b c d is keeps h = or_right b d (keeps h)

pub any_among : (all : List Line) (test : Line → Bool) (lines others : List Line) → AreAmong all lines others → list_any test lines ≡ true → list_any test others ≡ true
any_among all test [] others among h = absurd (false≢true h)
any_among all test (line ∷ lines) [] among h = absurd among
any_among all test (line ∷ lines) (other ∷ others) (inl here) h =
    or_step (test line) (test other) (list_any test lines) (list_any test others) (ap test here.0) (λ rest. any_among all test lines others here.1 rest) h
any_among all test (line ∷ lines) (other ∷ others) (inr told) h =
    or_right (test other) (list_any test others) (any_among all test (line ∷ lines) others told.1 h)

done_step : (m : Message) (o rest other : Option Message) → (rest ≡ Some m → other ≡ Some m) → or_else o rest ≡ Some m → or_else o other ≡ Some m
done_step m (Some it) rest other keeps h = h
done_step m None rest other keeps h = keeps h

pub done_among : (all : List Line) (request : ℕ) (m : Message) (lines others : List Line) → AreAmong all lines others → is_none (done_of all request) ≡ false → done_of lines request ≡ Some m → done_of others request ≡ Some m
done_among all request m [] others among told h = absurd (none-some m h)
done_among all request m (line ∷ lines) [] among told h = absurd among
done_among all request m (line ∷ lines) (other ∷ others) (inl here) told h =
    subst (λ (one : Line). or_else (done_in request one.word one.fields) (done_of others request) ≡ Some m) (sym here.0)
    (done_step m (done_in request line.word line.fields) (done_of lines request) (done_of others request) (λ rest. done_among all request m lines others here.1 told rest) h)
done_among all request m (line ∷ lines) (other ∷ others) (inr more) told h =
    by_done (done_in request other.word other.fields) refl (done_among all request m (line ∷ lines) others more.1 told h)
  where
    by_done : (o : Option Message) → done_in request other.word other.fields ≡ o → done_of others request ≡ Some m → or_else (done_in request other.word other.fields) (done_of others request) ≡ Some m
    by_done (Some it) is rest = absurd (false≢true (sym told ∙ ap (λ (o : Option Message). is_none o) (more.0.untold request (ap (λ (o : Option Message). is_some o) is))))
    by_done None is rest = ap (λ (o : Option Message). or_else o (done_of others request)) is ∙ rest

-- ---- Reports of a call ----

abbrev pub has_call : List Line → Bool
has_call lines = list_any (λ line. is_call line.word) lines

abbrev first_report : ReportWord → List Line → Option Line
first_report own early = find (λ line. is_report own line.word) early

put_find : (own : ReportWord) (word : Word) (fields : List Field) (rest other : Listing) (x : Line) → (first_report own rest.early ≡ Some x → first_report own other.early ≡ Some x) → first_report own (put_line word fields rest).early ≡ Some x → first_report own (put_line word fields other).early ≡ Some x
put_find own (CallLine word) fields rest other x keeps h = h
put_find own (Report word) fields rest other x keeps h =
    elim (cases_Bool (is_report own (Report word))) [
      | inl here ↦ rw here (rw here at h)
      | inr there ↦ rw there (keeps (rw there at h))
    ]

told_find : (own : ReportWord) (word : Word) (fields : List Field) (other : Listing) (o : Option Line) → word ≡ Report report.Done → is_report own (Report report.Done) ≡ false → first_report own other.early ≡ o → first_report own (put_line word fields other).early ≡ o
told_find own word fields other o is apart h =
    subst (λ (w : Word). first_report own (put_line w fields other).early ≡ o) (sym is) (rw apart h)

put_same : (own : ReportWord) (word : Word) (fields : List Field) (rest other : Listing) (b : Bool) → (is_call word || b) ≡ true → (b ≡ true → first_report own other.early ≡ first_report own rest.early) → first_report own (put_line word fields other).early ≡ first_report own (put_line word fields rest).early
put_same own (CallLine word) fields rest other b has same = refl
put_same own (Report word) fields rest other b has same =
    ap (λ (o : Option Line). if is_report own (Report word) then Some (record { word = Report word; fields = fields }) else o) (same has)

pub report_among : (all : List Line) (own : ReportWord) (x : Line) (lines others : List Line) → is_report own (Report report.Done) ≡ false → AreAmong all lines others → first_report own (listing_of lines).early ≡ Some x → first_report own (listing_of others).early ≡ Some x
report_among all own x [] others apart among h = absurd (none-some x h)
report_among all own x (line ∷ lines) [] apart among h = absurd among
report_among all own x (line ∷ lines) (other ∷ others) apart (inl here) h =
    subst (λ (one : Line). first_report own (put_line one.word one.fields (listing_of others)).early ≡ Some x) (sym here.0)
    (put_find own line.word line.fields (listing_of lines) (listing_of others) x (λ rest. report_among all own x lines others apart here.1 rest) h)
report_among all own x (line ∷ lines) (other ∷ others) apart (inr more) h =
    told_find own other.word other.fields (listing_of others) (Some x) more.0.word apart (report_among all own x (line ∷ lines) others apart more.1 h)

-- where another call comes after
pub report_same : (all : List Line) (own : ReportWord) (lines others : List Line) → is_report own (Report report.Done) ≡ false → AreAmong all lines others → has_call lines ≡ true → first_report own (listing_of others).early ≡ first_report own (listing_of lines).early
report_same all own [] others apart among has = absurd (false≢true has)
report_same all own (line ∷ lines) [] apart among has = absurd among
report_same all own (line ∷ lines) (other ∷ others) apart (inl here) has =
    subst (λ (one : Line). first_report own (put_line one.word one.fields (listing_of others)).early ≡ first_report own (listing_of (line ∷ lines)).early) (sym here.0)
    (put_same own line.word line.fields (listing_of lines) (listing_of others) (has_call lines) has (λ rest. report_same all own lines others apart here.1 rest))
report_same all own (line ∷ lines) (other ∷ others) apart (inr more) has =
    told_find own other.word other.fields (listing_of others) (first_report own (listing_of (line ∷ lines)).early) more.0.word apart (report_same all own (line ∷ lines) others apart more.1 has)

-- ---- Requests ----

-- what two lists of lines say of requests is the same
pub record SaysSame (before other : List Line) : Type 0 where
  pub matched : (request : ℕ) → matched_message other request ≡ matched_message before request
  pub sends : (request : ℕ) → is_of_send other request ≡ is_of_send before request
  pub requests : (request : ℕ) → knows_request other request ≡ knows_request before request
  pub messages : (request : ℕ) → knows_message other request ≡ knows_message before request

pub same_free : (before other : List Line) (request : ℕ) → SaysSame before other → is_free other request ≡ is_free before request
same_free before other request same =
    ap (λ (b : Bool). not b && not (knows_message other request)) (same.requests request)
    ∙ ap (λ (b : Bool). not (knows_request before request) && not b) (same.messages request)

any_push : (test : Line → Bool) (before other : List Line) (line : Line) → list_any test other ≡ list_any test before → list_any test (other ++ line ∷ []) ≡ list_any test (before ++ line ∷ [])
any_push test before other line same =
    list_any-append test other (line ∷ []) ∙ ap (λ (b : Bool). b || list_any test (line ∷ [])) same ∙ sym (list_any-append test before (line ∷ []))

pub same_push : (before other : List Line) (line : Line) → SaysSame before other → SaysSame (before ++ line ∷ []) (other ++ line ∷ [])
same_push before other line same = record {
  matched = λ request. matched_append other (line ∷ []) request ∙ ap (λ (o : Option ℕ). or_else o (matched_message (line ∷ []) request)) (same.matched request)
      ∙ sym (matched_append before (line ∷ []) request);
  sends = λ request. any_push (λ (l : Line). starts_send_in request l.word l.fields) before other line (same.sends request);
  requests = λ request. any_push (λ (l : Line). is_among request (numbers_by is_new_request l)) before other line (same.requests request);
  messages = λ request. any_push (λ (l : Line). is_among request (numbers_by is_new_message l)) before other line (same.messages request);
}

or_none : (o : Option ℕ) → or_else o (or_else None None) ≡ o
or_none None = refl
or_none (Some it) = refl

or_false : (b : Bool) → (b || (false || false)) ≡ b
or_false true = refl
or_false false = refl

any_told : (test : Line → Bool) (other : List Line) (line : Line) → test line ≡ false → list_any test (other ++ line ∷ []) ≡ list_any test other
any_told test other line none =
    list_any-append test other (line ∷ []) ∙ ap (λ (b : Bool). list_any test other || (b || false)) none ∙ or_false (list_any test other)

told_numbers : (word : Word) (fields : List Field) (request : ℕ) → word ≡ Report report.Done → (is_among request (numbers_by is_new_request (record { word = word; fields = fields })) ≡ false) × (is_among request (numbers_by is_new_message (record { word = word; fields = fields })) ≡ false)
told_numbers word fields request is =
    subst (λ (w : Word). (is_among request (numbers_by is_new_request (record { word = w; fields = fields })) ≡ false) × (is_among request (numbers_by is_new_message (record { word = w; fields = fields })) ≡ false)) (sym is) (
      ap (is_among request) (no_numbers is_new_request (forms_of (Report report.Done) (length fields)) fields refl),
      ap (is_among request) (no_numbers is_new_message (forms_of (Report report.Done) (length fields)) fields refl),
    )

pub same_told : (before other : List Line) (line : Line) → line.word ≡ Report report.Done → SaysSame before other → SaysSame before (other ++ line ∷ [])
same_told before other line is same = record {
  matched = λ request. matched_append other (line ∷ []) request
      ∙ ap (λ (w : Word). or_else (matched_message other request) (or_else (matched_in request w line.fields) None)) is ∙ or_none (matched_message other request) ∙ same.matched request;
  sends = λ request. any_told (λ (l : Line). starts_send_in request l.word l.fields) other line (ap (λ (w : Word). starts_send_in request w line.fields) is) ∙ same.sends request;
  requests = λ request. any_told (λ (l : Line). is_among request (numbers_by is_new_request l)) other line (told_numbers line.word line.fields request is).0 ∙ same.requests request;
  messages = λ request. any_told (λ (l : Line). is_among request (numbers_by is_new_message l)) other line (told_numbers line.word line.fields request is).1 ∙ same.messages request;
}
