-- The first fault of a line, by what is known of the lines before it.
use Rattle.std.proofs.Common.{◌≡◌, ℕ, zero, suc, Bool, true, false, ◌&&◌, ◌||◌, not, ◌==◌, List, [], ◌∷◌, length, Option, Some, None, is_some, is_none, sym, ap, ◌∙◌, refl, subst, arith, inl, inr}
use Rattle.std.specs.List.{list_any, list_all}
use Rattle.std.specs.Prelude.{nat_eq}
use Rattle.std.specs.HashMap.{get}
use Rattle.std.proofs.lemmas.Bool.{cases_Bool, and_parts, eq-eqb, ne_eqb, le-ltb}
use Rattle.journals.specs.Lines.{Line}
use Rattle.journals.specs.Entries.{numbers_by, is_of_request, is_new_request, is_new_message, is_request, is_message, is_comm, is_new_comm, last_entry}
use Rattle.journals.specs.Known.{is_among, are_distinct, knows_request, knows_message, is_completed, knows_comm, has_report}
use Rattle.journals.specs.Faults.{Owner, is_after_end, is_out_of_place, has_wrong_request, has_wrong_comm, has_right_group, fault_of_line, first_of, is_free, is_left, may_follow, may_have, may_be_of, names_unfit, names_last, may_choose}
use Rattle.journals.specs.inner.Numbered.{numbered, numbers_with}
use Rattle.journals.specs.Taking.{fields_at}
use Rattle.journals.specs.inner.Last.{last_may_have}
use Rattle.journals.specs.inner.Notes.{may_use, may_call, by_call, may_report, by_report, is_now, request_note, message_note, called_note, reported_note}
use Rattle.journals.specs.inner.Knows.{IsLast, NoteIs, NoteBelow, IsBelow, by_note, is_last, is_earlier, called_last, is_known, wrong_comm, Comms, CommIs, may_follow_last, may_be_by, is_unfit, names_unfit_by}
use Rattle.journals.specs.declared.field.Field.{Field}
use Rattle.journals.specs.declared.form.Form.{Form}
use Rattle.journals.specs.declared.form.Form.TheVariants.{NewRequest, NewMessage, Request, Message, Comm, NewComm, Member, Peer, Source, Tag, SourceTag, Root, Colour, Key, Bytes}
use Rattle.journals.specs.declared.fault.JournalFaultKind.TheVariants as fault
use Rattle.journals.specs.declared.last.LastCall.{LastCall}
use Rattle.journals.specs.declared.note.Note.{Note}
use Rattle.journals.specs.declared.word.CallWord.{CallWord}
use Rattle.journals.specs.declared.word.ReportWord.{ReportWord}
use Rattle.journals.specs.declared.word.ReportWord.TheVariants as report
use Rattle.journals.specs.declared.word.Word.{Word}
use Rattle.journals.specs.declared.word.Word.TheVariants.{Call, Report}
use Rattle.journals.proofs.Tests.{and_false, and_true, neither, not_not, none_of_both, first_or, second_or}
use Rattle.journals.proofs.EntryLemmas.{completed_is}
use Rattle.journals.proofs.UseLemmas.{numbers_are, all_use, may_use_is, all_split}
use Rattle.journals.proofs.CommLemmas.{none_of, has_form}
use Rattle.journals.proofs.ReportNotes.{wait_called}

-- the tests of a line's faults, in their order
pub faults_are : (owner : Owner) (before : List Line) (line : Line) (a b c d e : Bool) → is_after_end before ≡ a → is_out_of_place before line line.word ≡ b → has_wrong_request before line ≡ c → has_wrong_comm owner before line ≡ d → has_right_group owner before line line.word ≡ e → fault_of_line owner before line ≡ first_of ((a, fault.AfterEnd) ∷ (b, fault.OutOfPlace) ∷ (c, fault.Request) ∷ (d, fault.Comm) ∷ (not e, fault.Group) ∷ [])
unfolding fault_of_line
faults_are owner before line a b c d e a_is b_is c_is d_is e_is = rw (a_is, b_is, c_is, d_is, e_is) refl

-- ---- Requests and messages of a call line ----

pub call_closes : (word : CallWord) (fields : List Field) (line : ℕ) (form other : Form) (number : ℕ) (note : Option Note) → is_of_request form ≡ true → is_of_request other ≡ true → may_call line form note ≡ true → may_call line other (by_call word fields line number form note) ≡ false
call_closes word fields line form other number note used later may = by_form form other note used later may
  where
    named : (it : Note) → it.called ≡ line → (f : Form) → may_call line f (Some it) ≡ false
    named it now NewRequest = refl
    named it now NewMessage = refl
    named it now Request = rw (eq-eqb it.called line now) (ap (λ (b : Bool). not it.is_message && b) (and_false _) ∙ and_false _)
    named it now Message = rw (eq-eqb it.called line now) (ap (λ (b : Bool). it.is_message && b) (and_false _) ∙ and_false _)
    named it now _ = refl

    by_form : (f g : Form) (it : Option Note) → is_of_request f ≡ true → is_of_request g ≡ true → may_call line f it ≡ true → may_call line g (by_call word fields line number f it) ≡ false
    by_form NewRequest g it used later may = named (request_note word fields line number) refl g
    by_form NewMessage g it used later may = named (message_note line) refl g
    by_form Request g None used later may = cc
    by_form Request g (Some it) used later may = named (called_note word fields line it) refl g
    by_form Message g None used later may = cc
    by_form Message g (Some it) used later may = named (called_note word fields line it) refl g
    by_form _ g it used later may = cc

module _ (lines : List Line) (last : Option LastCall) (notes : ℕ → Option Note) (known : (number : ℕ) → NoteIs lines last number (notes number)) where
  free_is : (line number : ℕ) → is_none (notes number) ≡ is_free lines number
  free_is line number = rw ((known number).request, (known number).message) (by (notes number))
    where
      by : (it : Option Note) → is_none it ≡ (not (by_note (λ n. not n.is_message) it) && not (by_note (λ n. n.is_message) it))
      by None = refl
      by (Some it) = none_of_both it.is_message

  some_last : (it : Option ℕ) → (is_earlier last it || is_last last it) ≡ is_some it
  some_last None = last_is_none last
    where
      last_is_none : (held : Option LastCall) → is_last held None ≡ false
      last_is_none None = refl
      last_is_none (Some x) = refl
  some_last (Some line) = either (is_last last (Some line))
    where
      either : (b : Bool) → (not b || b) ≡ true
      either true = refl
      either false = refl

  pub completed_as : (number : ℕ) → is_completed lines number ≡ by_note (λ n. is_some n.completed) (notes number)
  completed_as number = completed_is lines number ∙ rw ((known number).earlier, (known number).completed) (by (notes number))
    where
      by : (it : Option Note) → (by_note (λ n. is_earlier last n.completed) it || by_note (λ n. is_last last n.completed) it) ≡ by_note (λ n. is_some n.completed) it
      by None = refl
      by (Some it) = some_last it.completed

  not_called : (it : Note) → NoteBelow (length lines) (Some it) → (it.called == length lines) ≡ false
  not_called it below = ne_eqb it.called (length lines) (λ is. omega (arith, below.1))

  none_some : (it : Option ℕ) → is_none it ≡ not (is_some it)
  none_some None = refl
  none_some (Some x) = refl

  may_request : (word : CallWord) (number : ℕ) → may_call (length lines) Request (notes number) ≡ (knows_request lines number && is_left lines (Call word) number)
  may_request word number = rw ((known number).request, completed_as number) (by (notes number) (known number).below)
    where
      by : (it : Option Note) → NoteBelow (length lines) it → may_call (length lines) Request it ≡ (by_note (λ n. not n.is_message) it && not (by_note (λ n. is_some n.completed) it))
      by None below = refl
      by (Some it) below = rw (not_called it below, none_some it.completed) (ap (λ (b : Bool). not it.is_message && b) (and_true _))

  may_message : (word : CallWord) (number : ℕ) → may_call (length lines) Message (notes number) ≡ (knows_message lines number && is_left lines (Call word) number)
  may_message word number = rw ((known number).message, completed_as number) (by (notes number) (known number).below)
    where
      by : (it : Option Note) → NoteBelow (length lines) it → may_call (length lines) Message it ≡ (by_note (λ n. n.is_message) it && not (by_note (λ n. is_some n.completed) it))
      by None below = refl
      by (Some it) below = rw (not_called it below, none_some it.completed) (ap (λ (b : Bool). it.is_message && b) (and_true _))

  may_begin : (form : Form) (number : ℕ) → may_call (length lines) form (notes number) ≡ is_none (notes number) → may_call (length lines) form (notes number) ≡ is_free lines number
  may_begin form number is = is ∙ free_is (length lines) number

  begins_request : (number : ℕ) → may_call (length lines) NewRequest (notes number) ≡ is_none (notes number)
  begins_request number = by (notes number)
    where
      by : (it : Option Note) → may_call (length lines) NewRequest it ≡ is_none it
      by None = refl
      by (Some it) = refl

  begins_message : (number : ℕ) → may_call (length lines) NewMessage (notes number) ≡ is_none (notes number)
  begins_message number = by (notes number)
    where
      by : (it : Option Note) → may_call (length lines) NewMessage it ≡ is_none it
      by None = refl
      by (Some it) = refl

  -- a call line's requests and messages are wrong exactly where they may not be used
  pub call_wrong : (word : CallWord) (fields : List Field) → has_wrong_request lines (record { word = Call word; fields = fields }) ≡ not (may_use (may_call (length lines)) (by_call word fields (length lines)) notes (numbered (Call word) fields))
  call_wrong word fields =
      let items = numbered (Call word) fields in
      neither _ _ _ _ _ ∙ ap not (
      rw (numbers_are is_new_request (Call word) fields, numbers_are is_new_message (Call word) fields, numbers_are is_request (Call word) fields, numbers_are is_message (Call word) fields, numbers_are is_of_request (Call word) fields)
      (ap (λ (b : Bool). b && are_distinct (numbers_with is_of_request items)) (sym (all_split (λ f n. may_call (length lines) f (notes n)) (is_free lines) (is_free lines) (λ n. knows_request lines n && is_left lines (Call word) n) (λ n. knows_message lines n && is_left lines (Call word) n)
      (λ n. may_begin NewRequest n (begins_request n)) (λ n. may_begin NewMessage n (begins_message n)) (may_request word) (may_message word) items)))
      ∙ sym (may_use_is (may_call (length lines)) (by_call word fields (length lines)) (call_closes word fields (length lines)) notes items))

-- ---- Requests of a report ----

pub report_closes : (word : ReportWord) (line : ℕ) (completed : Option ℕ) (form other : Form) (number : ℕ) (note : Option Note) → is_of_request form ≡ true → is_of_request other ≡ true → may_report line form note ≡ true → may_report line other (by_report word line completed number form note) ≡ false
report_closes word line completed form other number None used later may = never other
  where
    never : (f : Form) → may_report line f None ≡ false
    never Request = refl
    never _ = refl
report_closes word line completed form other number (Some note) used later may = never other
  where
    never : (f : Form) → may_report line f (Some (reported_note word line completed note)) ≡ false
    never Request = rw (eq-eqb line line refl) (and_false _)
    never _ = refl

module _ (lines : List Line) (last : Option LastCall) (notes : ℕ → Option Note) (known : (number : ℕ) → NoteIs lines last number (notes number)) where
  report_request : (word : ReportWord) (number : ℕ) → may_report (length lines) Request (notes number) ≡ (knows_request lines number && is_left lines (Report word) number)
  report_request word number = rw ((known number).request) (by (notes number) (known number).below)
    where
      not_now : (it : Option ℕ) → IsBelow (length lines) it → is_now (length lines) it ≡ false
      not_now None below = refl
      not_now (Some line) below = ne_eqb line (length lines) (λ is. omega arith)

      by : (it : Option Note) → NoteBelow (length lines) it → may_report (length lines) Request it ≡ (by_note (λ n. not n.is_message) it && true)
      by None below = refl
      by (Some it) below = ap (λ (b : Bool). not it.is_message && not b) (not_now it.reported below.2)

  -- a report's requests are wrong exactly where they may not be used
  pub report_wrong : (word : ReportWord) (fields : List Field) (completed : Option ℕ) → has_wrong_request lines (record { word = Report word; fields = fields }) ≡ not (may_use (may_report (length lines)) (by_report word (length lines) completed) notes (numbered (Report word) fields))
  report_wrong word fields completed =
      let items = numbered (Report word) fields in
      let no_requests : numbers_with is_new_request items ≡ [] = sym (numbers_are is_new_request (Report word) fields) ∙ none_of is_new_request (Report word) fields (no_new_request word) in
      let no_messages : numbers_with is_new_message items ≡ [] = sym (numbers_are is_new_message (Report word) fields) ∙ none_of is_new_message (Report word) fields (no_new_message word) in
      let none_kept : numbers_with is_message items ≡ [] = sym (numbers_are is_message (Report word) fields) ∙ none_of is_message (Report word) fields (no_message word) in
      let uses : all_use (λ f n. may_report (length lines) f (notes n)) items ≡ (((list_all (λ n. false) (numbers_with is_new_request items) && list_all (λ n. false) (numbers_with is_new_message items)) && list_all (λ n. knows_request lines n && is_left lines (Report word) n) (numbers_with is_request items)) && list_all (λ n. false) (numbers_with is_message items)) =
      all_split (λ f n. may_report (length lines) f (notes n)) (λ n. false) (λ n. false) (λ n. knows_request lines n && is_left lines (Report word) n) (λ n. false) (λ n. refl) (λ n. refl) (report_request word) (λ n. refl) items in
      let same : ((((list_all (is_free lines) (numbers_by is_new_request (record { word = Report word; fields = fields })) && list_all (is_free lines) (numbers_by is_new_message (record { word = Report word; fields = fields }))) && list_all (λ n. knows_request lines n && is_left lines (Report word) n) (numbers_by is_request (record { word = Report word; fields = fields }))) && list_all (λ n. knows_message lines n && is_left lines (Report word) n) (numbers_by is_message (record { word = Report word; fields = fields }))) && are_distinct (numbers_by is_of_request (record { word = Report word; fields = fields }))) ≡ (all_use (λ f n. may_report (length lines) f (notes n)) items && are_distinct (numbers_with is_of_request items)) =
      rw (numbers_are is_new_request (Report word) fields, numbers_are is_new_message (Report word) fields, numbers_are is_request (Report word) fields, numbers_are is_message (Report word) fields, numbers_are is_of_request (Report word) fields, uses, no_requests, no_messages, none_kept) refl in
      neither _ _ _ _ _ ∙ ap not (same ∙ sym (may_use_is (may_report (length lines)) (by_report word (length lines) completed) (report_closes word (length lines) completed) notes items))
    where
      no_new_request : (w : ReportWord) → has_form is_new_request (Report w) ≡ false
      no_new_request report.Got = refl
      no_new_request _ = refl

      no_new_message : (w : ReportWord) → has_form is_new_message (Report w) ≡ false
      no_new_message report.Got = refl
      no_new_message _ = refl

      no_message : (w : ReportWord) → has_form is_message (Report w) ≡ false
      no_message report.Got = refl
      no_message _ = refl

-- ---- Communicators ----

module _ (owner : Owner) (lines : List Line) (comms : Comms) (known : (comm : ℕ) → CommIs lines comm (get nat_eq comms comm)) where
  pub comm_known : (comm : ℕ) → knows_comm owner.ranks owner.rank lines comm ≡ is_known comms comm
  comm_known zero = refl
  comm_known (suc zero) = refl
  comm_known (suc (suc n)) =
      rw (ne_eqb (suc (suc n)) 0 (λ is. omega arith), ne_eqb (suc (suc n)) 1 (λ is. omega arith), le-ltb (suc (suc n)) 2 (omega arith)) (known (suc (suc n))).known

  -- the communicators of a line are wrong exactly where the code finds them so
  wrong_items : (items : List (Form × ℕ)) → (list_any (λ comm. not (knows_comm owner.ranks owner.rank lines comm)) (numbers_with is_comm items) || list_any (knows_comm owner.ranks owner.rank lines) (numbers_with is_new_comm items)) ≡ wrong_comm (is_known comms) items
  wrong_items [] = refl
  wrong_items ((Comm, comm) ∷ items) = rw (comm_known comm, sym (wrong_items items)) (first_or (not (is_known comms comm)) (list_any (λ it. not (knows_comm owner.ranks owner.rank lines it)) (numbers_with is_comm items)) (list_any (knows_comm owner.ranks owner.rank lines) (numbers_with is_new_comm items)))
  wrong_items ((NewComm, comm) ∷ items) = rw (comm_known comm, sym (wrong_items items)) (second_or (is_known comms comm) (list_any (λ it. not (knows_comm owner.ranks owner.rank lines it)) (numbers_with is_comm items)) (list_any (knows_comm owner.ranks owner.rank lines) (numbers_with is_new_comm items)))
  wrong_items ((NewRequest, comm) ∷ items) = wrong_items items
  wrong_items ((NewMessage, comm) ∷ items) = wrong_items items
  wrong_items ((Request, comm) ∷ items) = wrong_items items
  wrong_items ((Message, comm) ∷ items) = wrong_items items
  wrong_items ((Member, comm) ∷ items) = wrong_items items
  wrong_items ((Peer, comm) ∷ items) = wrong_items items
  wrong_items ((Source, comm) ∷ items) = wrong_items items
  wrong_items ((Tag, comm) ∷ items) = wrong_items items
  wrong_items ((SourceTag, comm) ∷ items) = wrong_items items
  wrong_items ((Root, comm) ∷ items) = wrong_items items
  wrong_items ((Colour, comm) ∷ items) = wrong_items items
  wrong_items ((Key, comm) ∷ items) = wrong_items items
  wrong_items ((Bytes, comm) ∷ items) = wrong_items items

  pub comms_wrong : (word : Word) (fields : List Field) → has_wrong_comm owner lines (record { word = word; fields = fields }) ≡ wrong_comm (is_known comms) (numbered word fields)
  comms_wrong word fields = rw (numbers_are is_comm word fields, numbers_are is_new_comm word fields) (wrong_items (numbered word fields))

-- ---- Reports in their place ----

module _ (ranks : ℕ) (lines later : List Line) (last : Option LastCall) (is_held : IsLast ranks lines last) (same : (held : LastCall) → last ≡ Some held → fields_at later held.line ≡ fields_at lines held.line) where
  -- a report may follow the last call as the code sees it
  pub follows_is : (word : ReportWord) (count : ℕ) → may_follow_last last later word count ≡ may_follow word count (last_entry lines)
  follows_is word count = by last is_held same
    where
      by : (held : Option LastCall) → IsLast ranks lines held → ((it : LastCall) → held ≡ Some it → fields_at later it.line ≡ fields_at lines it.line) → may_follow_last held later word count ≡ may_follow word count (last_entry lines)
      by None none fields = rw none refl
      by (Some it) held fields = rw (held.is, fields it refl ∙ held.fields) (by_word word)
        where
          by_word : (w : ReportWord) → last_may_have it held.entry.fields w count ≡ may_have w count held.entry
          by_word report.Got = rw (held.word, held.got) refl
          by_word report.Chose = rw (held.word, held.chosen) refl
          by_word report.Comm = rw (held.word, held.brought) refl
          by_word report.NoComm = rw (held.word, held.brought) refl
          by_word report.Idup = rw held.word refl
          by_word report.Failed = rw (held.word, held.failed) refl
          by_word _ = refl

module _ (ranks : ℕ) (lines : List Line) (last : Option LastCall) (is_held : IsLast ranks lines last) (notes : ℕ → Option Note) (known : (number : ℕ) → NoteIs lines last number (notes number)) where
  -- the last call named a request, where a choice may follow it
  named_is : (count : ℕ) → may_follow report.Chose count (last_entry lines) ≡ true → (number : ℕ) → called_last (last_entry lines) number ≡ names_last (last_entry lines) number
  named_is count may number = by last is_held may
    where
      by : (held : Option LastCall) → IsLast ranks lines held → may_follow report.Chose count (last_entry lines) ≡ true → called_last (last_entry lines) number ≡ names_last (last_entry lines) number
      by None none may = rw none refl
      by (Some it) held may =
          let parts = and_parts (may_choose held.entry.word count) (not (has_report report.Chose held.entry)) (rw held.is at may) in
          rw held.is (ap (is_among number) (wait_called ranks count held.entry parts.0 held.read))

  may_be_is : (word : ReportWord) (count : ℕ) → may_follow word count (last_entry lines) ≡ true → (number : ℕ) (note : Note) → notes number ≡ Some note → may_be_by last word note ≡ may_be_of word lines number
  may_be_is word count may number note is = by word may
    where
      was : NoteIs lines last number (Some note)
      was = subst (λ (it : Option Note). NoteIs lines last number it) is (known number)

      by : (w : ReportWord) → may_follow w count (last_entry lines) ≡ true → may_be_by last w note ≡ may_be_of w lines number
      by report.Chose may = sym was.called ∙ named_is count may number
      by report.Done may = rw (was.awaits, was.outcome) refl
      by report.Gone may = rw (was.cancelled, was.outcome) refl
      by report.Kept may = rw (was.cancelled, was.outcome) refl
      by report.Moved may = rw (was.receive, was.outcome) refl
      by report.Idup may = rw (was.parent, was.completed, was.brought) refl
      by report.Got may = refl
      by report.Comm may = refl
      by report.NoComm may = refl
      by report.Apart may = refl
      by report.Failed may = refl

  unfit_one : (word : ReportWord) (count : ℕ) → may_follow word count (last_entry lines) ≡ true → (number : ℕ) → is_unfit last word (notes number) ≡ (knows_request lines number && not (may_be_of word lines number))
  unfit_one word count may number = by (notes number) refl
    where
      by : (it : Option Note) → notes number ≡ it → is_unfit last word it ≡ (knows_request lines number && not (may_be_of word lines number))
      by None is = rw ((known number).request ∙ ap (by_note (λ n. not n.is_message)) is) refl
      by (Some note) is =
          rw ((known number).request ∙ ap (by_note (λ n. not n.is_message)) is, sym (may_be_is word count may number note is)) refl

  unfit_items : (word : ReportWord) (count : ℕ) → may_follow word count (last_entry lines) ≡ true → (items : List (Form × ℕ)) → names_unfit_by (is_unfit last word) notes items ≡ list_any (λ number. knows_request lines number && not (may_be_of word lines number)) (numbers_with is_request items)
  unfit_items word count may [] = refl
  unfit_items word count may ((form, number) ∷ items) =
      elim (cases_Bool (is_request form)) [
        | inl is_one ↦ rw (is_one, unfit_one word count may number, unfit_items word count may items) refl
        | inr not_one ↦ rw (not_one, unfit_items word count may items) refl
      ]

  -- a report is out of place exactly where the code finds it so
  pub out_of_place : (word : ReportWord) (fields : List Field) → is_out_of_place lines (record { word = Report word; fields = fields }) (Report word) ≡ not (may_follow word (length fields) (last_entry lines) && not (names_unfit_by (is_unfit last word) notes (numbered (Report word) fields)))
  out_of_place word fields =
      elim (cases_Bool (may_follow word (length fields) (last_entry lines))) [
        | inl may ↦ (
            let unfit : names_unfit word lines (record { word = Report word; fields = fields }) ≡ names_unfit_by (is_unfit last word) notes (numbered (Report word) fields) =
            rw (numbers_are is_request (Report word) fields) (sym (unfit_items word (length fields) may (numbered (Report word) fields))) in
            rw (may, unfit) (sym (not_not _)))
        | inr not_may ↦ rw not_may refl
      ]
