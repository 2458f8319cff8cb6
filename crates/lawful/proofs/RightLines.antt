-- Each line of a journal that was read has no fault by the lines before it: none comes after the end, reports are in
-- their place, and a line numbers requests and messages by numbers that no line before it gave.
use Rattle.std.proofs.Common.{◌≡◌, ℕ, ◌==◌, ◌||◌, ◌&&◌, not, Bool, true, false, Option, Some, None, List, [], ◌∷◌, ◌++◌, refl, sym, subst, inl, inr, append_assoc, append-nil, eqb-true}
use Rattle.std.specs.Prelude.{⊤, Result, Ok, Err}
use Rattle.std.specs.List.{list_all}
use Rattle.std.proofs.lemmas.Bool.{cases_Bool, false≢true, and_parts}
use Rattle.std.proofs.lemmas.Option.{none-some}
use Rattle.journals.specs.Header.{Heading, heading_of, is_of_run}
use Rattle.journals.specs.Text.{is_too_long}
use Rattle.journals.specs.Lines.{Line, line_of}
use Rattle.journals.specs.Entries.{numbers_by, is_new_request, is_new_message, is_request, is_message, is_of_request}
use Rattle.journals.specs.Known.{is_among, are_distinct, knows_request, knows_message}
use Rattle.journals.specs.Faults.{Owner, is_after_end, is_out_of_place, is_free, is_left, has_wrong_request, first_of, fault_of_line}
use Rattle.journals.specs.Journal.{Journal, Fault, unless_fault, checked_line, line_after, read_on, lines_after, with_heading, after_header, journal_of_lines}
use Rattle.journals.specs.declared.fault.JournalFaultKind.{JournalFaultKind}
use Rattle.journals.specs.declared.fault.JournalFaultKind.TheVariants.{AfterEnd, OutOfPlace, Request}
use Rattle.journals.proofs.JournalLemmas.{moved_right}

err_ok : {A B : Type 0} (e : B) (x : A) → ◌≡◌ {A = Result A B} (Err e) (Ok x) → ⊥
err_ok e x h = cc

same_Ok : {A B : Type 0} (x y : A) → ◌≡◌ {A = Result A B} (Ok x) (Ok y) → x ≡ y
same_Ok x y h = cc

-- ---- Lines ----

pub record IsRight (before : List Line) (line : Line) : Type 0 where
  pub goes_on : is_after_end before ≡ false
  pub in_place : is_out_of_place before line line.word ≡ false
  pub requests : has_wrong_request before line ≡ false

-- so it is with each of these, which come after others
abbrev pub AreRight : List Line → List Line → Type 0
AreRight before [] = ⊤
AreRight before (line ∷ lines) = IsRight before line × AreRight (before ++ line ∷ []) lines

right_push : (before lines : List Line) (line : Line) → AreRight before lines → IsRight (before ++ lines) line → AreRight before (lines ++ line ∷ [])
right_push before [] line all is = (subst (λ (ls : List Line). IsRight ls line) (append-nil before) is, tt)
right_push before (one ∷ lines) line all is = (
  all.0,
  right_push (before ++ one ∷ []) lines line all.1 (subst (λ (ls : List Line). IsRight ls line) (sym (append_assoc before (one ∷ []) lines)) is),
)

parts_of : (a b c : Bool) (others : List (Bool × JournalFaultKind)) → first_of ((a, AfterEnd) ∷ (b, OutOfPlace) ∷ (c, Request) ∷ others) ≡ None → (a ≡ false) × (b ≡ false) × (c ≡ false)
parts_of true b c others h = absurd (none-some AfterEnd (sym h))
parts_of false true c others h = absurd (none-some OutOfPlace (sym h))
parts_of false false true others h = absurd (none-some Request (sym h))
parts_of false false false others h = (refl, refl, refl)

faultless : (owner : Owner) (before : List Line) (line : Line) → fault_of_line owner before line ≡ None → IsRight before line
unfolding fault_of_line
faultless owner before line h =
    let parts = parts_of (is_after_end before) (is_out_of_place before line line.word) (has_wrong_request before line) _ h in
    record { goes_on = parts.0; in_place = parts.1; requests = parts.2 }

-- ---- Journals ----

checked_right : (owner : Owner) (before : List Line) (line : Line) (r : Result Line JournalFaultKind) → checked_line owner before r ≡ Ok line → IsRight before line
checked_right owner before line (Err kind) h = absurd (err_ok kind line h)
checked_right owner before line (Ok it) h = checked (fault_of_line owner before it) refl h
  where
    checked : (o : Option JournalFaultKind) → fault_of_line owner before it ≡ o → unless_fault o it ≡ Ok line → IsRight before line
    checked (Some kind) faulty h = absurd (err_ok kind line h)
    checked None none h = subst (λ (l : Line). IsRight before l) (same_Ok it line h) (faultless owner before it none)

after_right : (owner : Owner) (before : List Line) (text : List ℕ) (line : Line) → line_after owner before text ≡ Ok line → IsRight before line
after_right owner before text line is =
    elim (cases_Bool (is_too_long text)) [
      | inl long ↦ absurd (err_ok _ line (rw long at is))
      | inr short ↦ checked_right owner before line (line_of owner.ranks text) (rw short at is)
    ]

next_right : (owner : Owner) (text : List ℕ) (texts : List (List ℕ)) (before lines : List Line) (r : Result Line JournalFaultKind) → line_after owner before text ≡ r → read_on before r (λ ls. lines_after owner ls texts) ≡ Ok lines → AreRight [] before → ((ls : List Line) → lines_after owner ls texts ≡ Ok lines → AreRight [] ls → AreRight [] lines) → AreRight [] lines
next_right owner text texts before lines (Err kind) came h all others = absurd (err_ok _ lines h)
next_right owner text texts before lines (Ok line) came h all others =
    others (before ++ line ∷ []) h (right_push [] before line all (after_right owner before text line came))

lines_right : (owner : Owner) (texts : List (List ℕ)) (before lines : List Line) → lines_after owner before texts ≡ Ok lines → AreRight [] before → AreRight [] lines
lines_right owner [] before lines is all = subst (λ (ls : List Line). AreRight [] ls) (same_Ok before lines is) all
lines_right owner (text ∷ texts) before lines is all =
    next_right owner text texts before lines (line_after owner before text) refl is all (λ ls h right. lines_right owner texts ls lines h right)

headed_right : (rank : ℕ) (first : Option Heading) (o : Option Heading) (texts : List (List ℕ)) (journal : Journal) → after_header rank first o texts ≡ Ok journal → AreRight [] journal.lines
headed_right rank first None texts journal is = absurd (err_ok _ journal is)
headed_right rank first (Some heading) texts journal is =
    elim (cases_Bool (is_of_run first heading)) [
      | inl own ↦ with_lines (lines_after (record { ranks = heading.ranks; rank = rank }) [] texts) refl (moved_right heading (lines_after (record { ranks = heading.ranks; rank = rank }) [] texts) journal (rw own at is))
      | inr other ↦ absurd (err_ok _ journal (rw other at is))
    ]
  where
    with_lines : (r : Result (List Line) Fault) → lines_after (record { ranks = heading.ranks; rank = rank }) [] texts ≡ r → with_heading heading r ≡ Ok journal → AreRight [] journal.lines
    with_lines (Err fault) came h = absurd (err_ok fault journal h)
    with_lines (Ok lines) came h =
        subst (λ (j : Journal). AreRight [] j.lines) (same_Ok (record { heading = heading; lines = lines }) journal h)
        (lines_right (record { ranks = heading.ranks; rank = rank }) texts [] lines came tt)

pub journal_right : (rank : ℕ) (first : Option Heading) (texts : List (List ℕ)) (journal : Journal) → journal_of_lines rank first texts ≡ Ok journal → AreRight [] journal.lines
journal_right rank first [] journal is = absurd (err_ok _ journal is)
journal_right rank first (header ∷ texts) journal is =
    elim (cases_Bool (is_too_long header)) [
      | inl long ↦ absurd (err_ok _ journal (rw long at is))
      | inr short ↦ headed_right rank first (heading_of rank header) texts journal (rw short at is)
    ]

-- ---- Requests ----

all_among : (test : ℕ → Bool) (numbers : List ℕ) (number : ℕ) → list_all test numbers ≡ true → is_among number numbers ≡ true → test number ≡ true
all_among test [] number all among = absurd (false≢true among)
all_among test (one ∷ numbers) number all among =
    let parts = and_parts (test one) (list_all test numbers) all in
    elim (cases_Bool (one == number)) [
      | inl same ↦ subst (λ (n : ℕ). test n ≡ true) (eqb-true one number same) parts.0
      | inr other ↦ all_among test numbers number parts.1 (rw other at among)
    ]

-- what is right with the requests and messages of a line
pub record RightRequests (before : List Line) (line : Line) : Type 0 where
  pub new_requests : (number : ℕ) → is_among number (numbers_by is_new_request line) ≡ true → is_free before number ≡ true
  pub new_messages : (number : ℕ) → is_among number (numbers_by is_new_message line) ≡ true → is_free before number ≡ true
  pub known : (number : ℕ) → is_among number (numbers_by is_request line) ≡ true → (knows_request before number && is_left before line.word number) ≡ true
  pub known_message : (number : ℕ) → is_among number (numbers_by is_message line) ≡ true → (knows_message before number && is_left before line.word number) ≡ true
  pub distinct : are_distinct (numbers_by is_of_request line) ≡ true

record Five (a b c d e : Bool) : Type 0 where
  first : a ≡ true
  second : b ≡ true
  third : c ≡ true
  fourth : d ≡ true
  fifth : e ≡ true

five : (a b c d e : Bool) → (not a || not b || not c || not d || not e) ≡ false → Five a b c d e
five false b c d e h = absurd (false≢true (sym h))
five true false c d e h = absurd (false≢true (sym h))
five true true false d e h = absurd (false≢true (sym h))
five true true true false e h = absurd (false≢true (sym h))
five true true true true false h = absurd (false≢true (sym h))
five true true true true true h = record { first = refl; second = refl; third = refl; fourth = refl; fifth = refl }

pub right_requests : (before : List Line) (line : Line) → IsRight before line → RightRequests before line
right_requests before line is =
    let known = λ (number : ℕ). knows_request before number && is_left before line.word number in
    let message = λ (number : ℕ). knows_message before number && is_left before line.word number in
    let parts = five (list_all (is_free before) (numbers_by is_new_request line)) (list_all (is_free before) (numbers_by is_new_message line))
    (list_all known (numbers_by is_request line)) (list_all message (numbers_by is_message line)) (are_distinct (numbers_by is_of_request line)) is.requests in
    record {
      new_requests = λ number among. all_among (is_free before) (numbers_by is_new_request line) number parts.first among;
      new_messages = λ number among. all_among (is_free before) (numbers_by is_new_message line) number parts.second among;
      known = λ number among. all_among known (numbers_by is_request line) number parts.third among;
      known_message = λ number among. all_among message (numbers_by is_message line) number parts.fourth among;
      distinct = parts.fifth;
    }
