-- No field but that at one place names a communicator, and none after the first ones a request or a message.
use Rattle.std.proofs.Common.{◌≡◌, ◌∙◌, sym, ap, refl, ℕ, zero, suc, ◌+◌, ◌-◌, ◌==◌, ◌≤◌, ◌<◌, max, Bool, true, false, ◌||◌, if◌then◌else◌, List, [], ◌∷◌, length, take, drop, Option, Some, None, unwrap_or, arith, inl, inr, ◌⊎◌, add-one}
use Rattle.std.specs.List.{list_any, filter_map, zip}
use Rattle.std.proofs.lemmas.Bool.{cases_lt, or_parts}
use Rattle.journals.specs.Words.{forms_of}
use Rattle.journals.specs.Entries.{is_comm, is_new_comm, is_of_request, is_request}
use Rattle.journals.specs.inner.Numbered.{numbered_in, numbered, numbered_from}
use Rattle.journals.specs.inner.Notes.{may_use, noted}
use Rattle.journals.specs.inner.Knows.{names_unfit_by, wrong_comm}
use Rattle.journals.specs.inner.Places.{call_comm_place, comm_place, call_requests_first, looked_at, report_comm_place, report_requests_first, requests_first}
use Rattle.journals.specs.declared.field.Field.{Field}
use Rattle.journals.specs.declared.field.Field.TheVariants.{Natural, Signed, Null, Any, Undefined}
use Rattle.journals.specs.declared.form.Form.{Form}
use Rattle.journals.specs.declared.form.Form.TheVariants.{Bytes, Member, Request}
use Rattle.journals.specs.declared.note.Note.{Note}
use Rattle.journals.specs.declared.word.Word.{Word}
use Rattle.journals.specs.declared.word.Word.TheVariants.{Call, Report}
use Rattle.journals.specs.declared.word.CallWord.{CallWord}
use Rattle.journals.specs.declared.word.CallWord.TheVariants as call
use Rattle.journals.specs.declared.word.ReportWord.{ReportWord}
use Rattle.journals.specs.declared.word.ReportWord.TheVariants as report
use Rattle.journals.proofs.LineForms.{any_replicate}
use Rattle.journals.proofs.NoteSteps.{none_numbered_left, skip_may, skip_noted}

-- ---- Forms ----

-- the form of a communicator, known or new
abbrev of_comm : Form → Bool
of_comm form = is_comm form || is_new_comm form

bytes_if : (test : Form → Bool) (is : Bool) → test Bytes ≡ false → list_any test (if is then Bytes ∷ [] else []) ≡ false
bytes_if test true none = rw none refl
bytes_if test false none = refl

-- the places after that of a communicator
abbrev after : Option ℕ → ℕ
after None = 0
after (Some place) = suc place

calls_front : (word : CallWord) (count : ℕ) → list_any of_comm (take (unwrap_or (call_comm_place word) 0) (forms_of (Call word) count)) ≡ false
calls_front call.Init count = refl
calls_front _ count = refl

calls_past : (word : CallWord) (count : ℕ) → list_any of_comm (drop (after (call_comm_place word)) (forms_of (Call word) count)) ≡ false
calls_past call.Send count = bytes_if of_comm (count - 3 == 1) refl
calls_past call.Isend count = bytes_if of_comm (count - 4 == 1) refl
calls_past call.Sendrecv count = bytes_if of_comm (count - 5 == 1) refl
calls_past call.Isendrecv count = bytes_if of_comm (count - 7 == 1) refl
calls_past call.Wait count = any_replicate of_comm Request (max 1 (count - 0)) refl
calls_past call.Test count = any_replicate of_comm Request (max 1 (count - 0)) refl
calls_past call.Waitany count = any_replicate of_comm Request (max 1 (count - 0)) refl
calls_past call.Waitsome count = any_replicate of_comm Request (max 1 (count - 0)) refl
calls_past call.CommCreateGroup count = any_replicate of_comm Member (max 1 (count - 0)) refl
calls_past _ count = refl

reports_front : (word : ReportWord) (count : ℕ) → list_any of_comm (take (unwrap_or (report_comm_place word) 0) (forms_of (Report word) count)) ≡ false
reports_front report.Got count = refl
reports_front _ count = refl

reports_past : (word : ReportWord) (count : ℕ) → list_any of_comm (drop (after (report_comm_place word)) (forms_of (Report word) count)) ≡ false
reports_past report.Chose count = any_replicate of_comm Request (max 1 (count - 0)) refl
reports_past report.Comm count = any_replicate of_comm Member (max 1 (count - 1)) refl
reports_past report.Idup count = any_replicate of_comm Member (max 1 (count - 2)) refl
reports_past report.Apart count = any_replicate of_comm Member (max 1 (count - 1)) refl
reports_past _ count = refl

front : (word : Word) (count : ℕ) → list_any of_comm (take (unwrap_or (comm_place word) 0) (forms_of word count)) ≡ false
front (Call word) count = calls_front word count
front (Report word) count = reports_front word count

past : (word : Word) (count : ℕ) → list_any of_comm (drop (after (comm_place word)) (forms_of word count)) ≡ false
past (Call word) count = calls_past word count
past (Report word) count = reports_past word count

-- ---- Communicators ----

module _ (known : ℕ → Bool) where
  wrong_none : (forms : List Form) (fields : List Field) → list_any of_comm forms ≡ false → wrong_comm known (filter_map numbered_in (zip forms fields)) ≡ false
  wrong_none [] fields none = refl
  wrong_none (form ∷ forms) [] none = refl
  wrong_none (form ∷ forms) (Natural number ∷ fields) none =
      let parts = or_parts (of_comm form) (list_any of_comm forms) none in
      let forms_are = or_parts (is_comm form) (is_new_comm form) parts.0 in
      rw (forms_are.0, forms_are.1) (wrong_none forms fields parts.1)
  wrong_none (form ∷ forms) (Signed number ∷ fields) none = wrong_none forms fields (or_parts (of_comm form) (list_any of_comm forms) none).1
  wrong_none (form ∷ forms) (Null ∷ fields) none = wrong_none forms fields (or_parts (of_comm form) (list_any of_comm forms) none).1
  wrong_none (form ∷ forms) (Any ∷ fields) none = wrong_none forms fields (or_parts (of_comm form) (list_any of_comm forms) none).1
  wrong_none (form ∷ forms) (Undefined ∷ fields) none = wrong_none forms fields (or_parts (of_comm form) (list_any of_comm forms) none).1

  wrong_past : (place : ℕ) (forms : List Form) (fields : List Field) → list_any of_comm (drop place forms) ≡ false → wrong_comm known (filter_map numbered_in (drop place (zip forms fields))) ≡ false
  wrong_past zero forms fields none = wrong_none forms fields none
  wrong_past (suc n) [] fields none = refl
  wrong_past (suc n) (form ∷ forms) [] none = refl
  wrong_past (suc n) (form ∷ forms) (field ∷ fields) none = wrong_past n forms fields none

  wrong_from : (place : ℕ) (forms : List Form) (fields : List Field) → list_any of_comm (take place forms) ≡ false → wrong_comm known (filter_map numbered_in (zip forms fields)) ≡ wrong_comm known (filter_map numbered_in (drop place (zip forms fields)))
  wrong_from zero forms fields none = refl
  wrong_from (suc n) [] fields none = refl
  wrong_from (suc n) (form ∷ forms) [] none = refl
  wrong_from (suc n) (form ∷ forms) (Natural number ∷ fields) none =
      let parts = or_parts (of_comm form) (list_any of_comm (take n forms)) none in
      let forms_are = or_parts (is_comm form) (is_new_comm form) parts.0 in
      rw (forms_are.0, forms_are.1) (wrong_from n forms fields parts.1)
  wrong_from (suc n) (form ∷ forms) (Signed number ∷ fields) none = wrong_from n forms fields (or_parts (of_comm form) (list_any of_comm (take n forms)) none).1
  wrong_from (suc n) (form ∷ forms) (Null ∷ fields) none = wrong_from n forms fields (or_parts (of_comm form) (list_any of_comm (take n forms)) none).1
  wrong_from (suc n) (form ∷ forms) (Any ∷ fields) none = wrong_from n forms fields (or_parts (of_comm form) (list_any of_comm (take n forms)) none).1
  wrong_from (suc n) (form ∷ forms) (Undefined ∷ fields) none = wrong_from n forms fields (or_parts (of_comm form) (list_any of_comm (take n forms)) none).1

  -- a word without such a place names none
  pub no_comm : (word : Word) (fields : List Field) → comm_place word ≡ None → wrong_comm known (numbered word fields) ≡ false
  no_comm word fields is = wrong_none (forms_of word (length fields)) fields (ap (λ (p : Option ℕ). list_any of_comm (drop (after p) (forms_of word (length fields)))) (sym is) ∙ past word (length fields))

  -- else it names that at the place alone
  pub only_comm : (word : Word) (fields : List Field) (place : ℕ) → comm_place word ≡ Some place → wrong_comm known (numbered word fields) ≡ wrong_comm known (numbered_from word fields place)
  only_comm word fields place is = wrong_from place (forms_of word (length fields)) fields (ap (λ (p : Option ℕ). list_any of_comm (take (unwrap_or p 0) (forms_of word (length fields)))) (sym is) ∙ front word (length fields))

  pub past_comm : (word : Word) (fields : List Field) (place : ℕ) → comm_place word ≡ Some place → wrong_comm known (numbered_from word fields (place + 1)) ≡ false
  past_comm word fields place is =
      ap (λ n. wrong_comm known (numbered_from word fields n)) (add-one place)
      ∙ wrong_past (suc place) (forms_of word (length fields)) fields (ap (λ (p : Option ℕ). list_any of_comm (drop (after p) (forms_of word (length fields)))) (sym is) ∙ past word (length fields))

  -- nor does one with too few fields
  drop_all : (forms : List Form) (fields : List Field) (place : ℕ) → length fields ≤ place → drop place (zip forms fields) ≡ []
  drop_all [] fields zero few = refl
  drop_all [] fields (suc n) few = refl
  drop_all (form ∷ forms) [] zero few = refl
  drop_all (form ∷ forms) [] (suc n) few = refl
  drop_all (form ∷ forms) (field ∷ fields) zero few = absurd (omega (arith, few))
  drop_all (form ∷ forms) (field ∷ fields) (suc n) few = drop_all forms fields n (omega (arith, few))

  pub few_comm : (word : Word) (fields : List Field) (place : ℕ) → comm_place word ≡ Some place → length fields ≤ place → wrong_comm known (numbered word fields) ≡ false
  few_comm word fields place is few =
      only_comm word fields place is ∙ ap (λ it. wrong_comm known (filter_map numbered_in it)) (drop_all (forms_of word (length fields)) fields place few)

-- ---- Requests and messages ----

no_request : (form : Form) → is_of_request form ≡ false → is_request form ≡ false
no_request Request none = cc
no_request _ none = refl

abbrev late_of : Option ℕ → List Form → List Form
late_of None forms = []
late_of (Some first) forms = drop first forms

calls_late : (word : CallWord) (count : ℕ) → list_any is_of_request (late_of (call_requests_first word) (forms_of (Call word) count)) ≡ false
calls_late call.Send count = bytes_if is_of_request (count - 3 == 1) refl
calls_late call.Isend count = bytes_if is_of_request (count - 4 == 1) refl
calls_late call.Sendrecv count = bytes_if is_of_request (count - 5 == 1) refl
calls_late call.Isendrecv count = bytes_if is_of_request (count - 7 == 1) refl
calls_late call.CommCreateGroup count = any_replicate is_of_request Member (max 1 (count - 0)) refl
calls_late _ count = refl

reports_late : (word : ReportWord) (count : ℕ) → list_any is_of_request (late_of (report_requests_first word) (forms_of (Report word) count)) ≡ false
reports_late report.Comm count = any_replicate is_of_request Member (max 1 (count - 1)) refl
reports_late report.Idup count = any_replicate is_of_request Member (max 1 (count - 2)) refl
reports_late report.Apart count = any_replicate is_of_request Member (max 1 (count - 1)) refl
reports_late _ count = refl

words_late : (word : Word) (count : ℕ) → list_any is_of_request (late_of (requests_first word) (forms_of word count)) ≡ false
words_late (Call word) count = calls_late word count
words_late (Report word) count = reports_late word count

-- the fields up to which a line was looked at are all, or no later one is of a request or a message
abbrev Late : Option ℕ → Word → List Field → ℕ → Type 0
Late first word fields place = (place ≡ length fields) ⊎ (list_any is_of_request (drop place (forms_of word (length fields))) ≡ false)

late : (word : Word) (fields : List Field) (place : ℕ) (first : Option ℕ) → requests_first word ≡ first → place ≡ looked_at first (length fields) → Late first word fields place
late word fields place None is at = inl at
late word fields place (Some first) is at =
    either (cases_lt first (length fields))
  where
    either : (first < length fields) ⊎ (length fields ≤ first) → Late (Some first) word fields place
    either (inl below) =
        let here : place ≡ first = omega (arith, at, below) in
        inr (ap (λ n. list_any is_of_request (drop n (forms_of word (length fields)))) here
        ∙ ap (λ (o : Option ℕ). list_any is_of_request (late_of o (forms_of word (length fields)))) (sym is) ∙ words_late word (length fields))
    either (inr beyond) = inl (omega (arith, at, beyond))

module _ (unfit : Option Note → Bool) (notes : ℕ → Option Note) where
  unfit_none : (forms : List Form) (fields : List Field) → list_any is_of_request forms ≡ false → names_unfit_by unfit notes (filter_map numbered_in (zip forms fields)) ≡ false
  unfit_none [] fields none = refl
  unfit_none (form ∷ forms) [] none = refl
  unfit_none (form ∷ forms) (Natural number ∷ fields) none =
      let parts = or_parts (is_of_request form) (list_any is_of_request forms) none in
      rw (no_request form parts.0) (unfit_none forms fields parts.1)
  unfit_none (form ∷ forms) (Signed number ∷ fields) none = unfit_none forms fields (or_parts (is_of_request form) (list_any is_of_request forms) none).1
  unfit_none (form ∷ forms) (Null ∷ fields) none = unfit_none forms fields (or_parts (is_of_request form) (list_any is_of_request forms) none).1
  unfit_none (form ∷ forms) (Any ∷ fields) none = unfit_none forms fields (or_parts (is_of_request form) (list_any is_of_request forms) none).1
  unfit_none (form ∷ forms) (Undefined ∷ fields) none = unfit_none forms fields (or_parts (is_of_request form) (list_any is_of_request forms) none).1

  unfit_past : (place : ℕ) (forms : List Form) (fields : List Field) → list_any is_of_request (drop place forms) ≡ false → names_unfit_by unfit notes (filter_map numbered_in (drop place (zip forms fields))) ≡ false
  unfit_past zero forms fields none = unfit_none forms fields none
  unfit_past (suc n) [] fields none = refl
  unfit_past (suc n) (form ∷ forms) [] none = refl
  unfit_past (suc n) (form ∷ forms) (field ∷ fields) none = unfit_past n forms fields none

  pub unfit_late : (word : Word) (fields : List Field) (place : ℕ) → place ≡ looked_at (requests_first word) (length fields) → names_unfit_by unfit notes (numbered_from word fields place) ≡ false
  unfit_late word fields place at =
      elim (late word fields place (requests_first word) refl at) [
        | inl all ↦ ap (names_unfit_by unfit notes) (ap (numbered_from word fields) all ∙ none_numbered_left word fields)
        | inr none ↦ unfit_past place (forms_of word (length fields)) fields none
      ]

module _ {X : Type 0} (may : Form → X → Bool) (by : ℕ → Form → X → X) where
  may_none : (f : ℕ → X) (forms : List Form) (fields : List Field) → list_any is_of_request forms ≡ false → may_use may by f (filter_map numbered_in (zip forms fields)) ≡ true
  may_none f [] fields none = refl
  may_none f (form ∷ forms) [] none = refl
  may_none f (form ∷ forms) (Natural number ∷ fields) none =
      let parts = or_parts (is_of_request form) (list_any is_of_request forms) none in
      skip_may may by f form number (filter_map numbered_in (zip forms fields)) parts.0 ∙ may_none f forms fields parts.1
  may_none f (form ∷ forms) (Signed number ∷ fields) none = may_none f forms fields (or_parts (is_of_request form) (list_any is_of_request forms) none).1
  may_none f (form ∷ forms) (Null ∷ fields) none = may_none f forms fields (or_parts (is_of_request form) (list_any is_of_request forms) none).1
  may_none f (form ∷ forms) (Any ∷ fields) none = may_none f forms fields (or_parts (is_of_request form) (list_any is_of_request forms) none).1
  may_none f (form ∷ forms) (Undefined ∷ fields) none = may_none f forms fields (or_parts (is_of_request form) (list_any is_of_request forms) none).1

  may_past : (f : ℕ → X) (place : ℕ) (forms : List Form) (fields : List Field) → list_any is_of_request (drop place forms) ≡ false → may_use may by f (filter_map numbered_in (drop place (zip forms fields))) ≡ true
  may_past f zero forms fields none = may_none f forms fields none
  may_past f (suc n) [] fields none = refl
  may_past f (suc n) (form ∷ forms) [] none = refl
  may_past f (suc n) (form ∷ forms) (field ∷ fields) none = may_past f n forms fields none

  noted_none : (q : ℕ) (note : X) (forms : List Form) (fields : List Field) → list_any is_of_request forms ≡ false → noted by q note (filter_map numbered_in (zip forms fields)) ≡ note
  noted_none q note [] fields none = refl
  noted_none q note (form ∷ forms) [] none = refl
  noted_none q note (form ∷ forms) (Natural number ∷ fields) none =
      let parts = or_parts (is_of_request form) (list_any is_of_request forms) none in
      skip_noted may by q note form number (filter_map numbered_in (zip forms fields)) parts.0 ∙ noted_none q note forms fields parts.1
  noted_none q note (form ∷ forms) (Signed number ∷ fields) none = noted_none q note forms fields (or_parts (is_of_request form) (list_any is_of_request forms) none).1
  noted_none q note (form ∷ forms) (Null ∷ fields) none = noted_none q note forms fields (or_parts (is_of_request form) (list_any is_of_request forms) none).1
  noted_none q note (form ∷ forms) (Any ∷ fields) none = noted_none q note forms fields (or_parts (is_of_request form) (list_any is_of_request forms) none).1
  noted_none q note (form ∷ forms) (Undefined ∷ fields) none = noted_none q note forms fields (or_parts (is_of_request form) (list_any is_of_request forms) none).1

  noted_past : (q : ℕ) (note : X) (place : ℕ) (forms : List Form) (fields : List Field) → list_any is_of_request (drop place forms) ≡ false → noted by q note (filter_map numbered_in (drop place (zip forms fields))) ≡ note
  noted_past q note zero forms fields none = noted_none q note forms fields none
  noted_past q note (suc n) [] fields none = refl
  noted_past q note (suc n) (form ∷ forms) [] none = refl
  noted_past q note (suc n) (form ∷ forms) (field ∷ fields) none = noted_past q note n forms fields none

  pub may_late : (f : ℕ → X) (word : Word) (fields : List Field) (place : ℕ) → place ≡ looked_at (requests_first word) (length fields) → may_use may by f (numbered_from word fields place) ≡ true
  may_late f word fields place at =
      elim (late word fields place (requests_first word) refl at) [
        | inl all ↦ ap (may_use may by f) (ap (numbered_from word fields) all ∙ none_numbered_left word fields)
        | inr none ↦ may_past f place (forms_of word (length fields)) fields none
      ]

  pub noted_late : (q : ℕ) (note : X) (word : Word) (fields : List Field) (place : ℕ) → place ≡ looked_at (requests_first word) (length fields) → noted by q note (numbered_from word fields place) ≡ note
  noted_late q note word fields place at =
      elim (late word fields place (requests_first word) refl at) [
        | inl all ↦ ap (noted by q note) (ap (numbered_from word fields) all ∙ none_numbered_left word fields)
        | inr none ↦ noted_past q note place (forms_of word (length fields)) fields none
      ]
