-- What is noted of a number after a call line.
use Rattle.std.proofs.Common.{◌≡◌, ℕ, suc, ◌+◌, ◌-◌, max, Bool, true, false, ◌&&◌, ◌||◌, not, ◌==◌, List, [], ◌∷◌, ◌++◌, length, replicate, Option, Some, None, is_some, is_none, option_and_then, sym, ap, ◌∙◌, refl, subst, arith, inl, inr, length-append}
use Rattle.std.proofs.lemmas.List.{length-replicate}
use Rattle.std.specs.List.{filter_map, zip}
use Rattle.std.proofs.lemmas.Bool.{cases_Bool, and_parts, false≢true, eq-eqb, ne_eqb, false_from_ne_true}
use Rattle.mpicall.specs.Word.{or_else}
use Rattle.journals.specs.Lines.{Line, fields_of}
use Rattle.journals.specs.Entries.{numbers_by, number_if, is_of_request, is_new_request, is_new_message, is_request, is_message}
use Rattle.journals.specs.Known.{is_among, are_distinct, is_cancel, duplicated_in, receive_in, is_wildcard, chosen_of, completed_by}
use Rattle.journals.specs.Faults.{completed_last}
use Rattle.journals.specs.inner.Naturals.{naturals, AreNatural}
use Rattle.journals.specs.inner.Numbered.{numbered, numbers_with}
use Rattle.journals.specs.inner.Last.{completes_all, new_last}
use Rattle.journals.specs.inner.Notes.{request_note, message_note, called_note, completed_at, is_callable, may_call, by_call}
use Rattle.journals.specs.inner.Knows.{IsRead, NoteIs, NoteBelow, IsBelow, by_note, is_last, is_earlier, called_last}
use Rattle.journals.specs.declared.field.Field.{Field}
use Rattle.journals.specs.declared.field.Field.TheVariants.{Natural, Signed, Null, Any, Undefined}
use Rattle.journals.specs.declared.form.Form.{Form}
use Rattle.journals.specs.declared.form.Form.TheVariants.{NewRequest, NewMessage, Request, Message}
use Rattle.journals.specs.declared.last.LastCall.{LastCall}
use Rattle.journals.specs.declared.note.Note.{Note}
use Rattle.journals.specs.declared.word.CallWord.{CallWord}
use Rattle.journals.specs.declared.word.CallWord.TheVariants as call
use Rattle.journals.specs.declared.word.Word.TheVariants.{Call}
use Rattle.journals.proofs.Tests.{and_false, and_true, or_false}
use Rattle.journals.proofs.EntryLemmas.{new_entry, last_after_call, earlier_after_call, completed_is, any_push, parent_push}
use Rattle.journals.proofs.UseLemmas.{numbers_are, use_of, is_use, among_use, after_use, IsPart, new_request_part, new_message_part, request_part, message_part, of_request_part}
use Rattle.journals.proofs.LineForms.{no_numbers, any_replicate, same_numbers, receive_new, wildcard_new, duplicate_new, requests_natural}

abbrev call_line : CallWord → List Field → Line
call_line word fields = record { word = Call word; fields = fields }

-- ---- What a call line completes ----

-- words whose lines have requests alone have no messages
no_messages : (count : ℕ) (fields : List Field) → filter_map (number_if is_message) (zip ([] ++ replicate count Request) fields) ≡ []
no_messages count fields = no_numbers is_message (replicate count Request) fields (any_replicate is_message Request count refl)

-- of several requests none is chosen yet
none_chosen : (number other : ℕ) (numbers : List ℕ) → is_among number (chosen_of (number ∷ other ∷ numbers) []) ≡ false
none_chosen number other numbers = refl

chosen_none : (fields : List Field) → AreNatural fields → (number : ℕ) → is_among number (chosen_of (naturals fields) []) ≡ (is_among number (naturals fields) && (length fields == 1))
chosen_none [] natural number = refl
chosen_none (Natural one ∷ []) natural number = sym (and_true (is_among number (one ∷ [])))
chosen_none (Natural one ∷ Natural other ∷ fields) natural number =
    rw (ne_eqb (suc (suc (length fields))) 1 (λ is. omega arith)) (sym (and_false _))
chosen_none (Signed one ∷ fields) natural number = absurd natural.0
chosen_none (Null ∷ fields) natural number = absurd natural.0
chosen_none (Any ∷ fields) natural number = absurd natural.0
chosen_none (Undefined ∷ fields) natural number = absurd natural.0
chosen_none (Natural one ∷ Signed other ∷ fields) natural number = absurd natural.1.0
chosen_none (Natural one ∷ Null ∷ fields) natural number = absurd natural.1.0
chosen_none (Natural one ∷ Any ∷ fields) natural number = absurd natural.1.0
chosen_none (Natural one ∷ Undefined ∷ fields) natural number = absurd natural.1.0

and_swap : (a b : Bool) → (a && b) ≡ (b && (a || false))
and_swap true true = refl
and_swap true false = refl
and_swap false true = refl
and_swap false false = refl

-- the requests that a wait names are all its fields
wait_numbers : (count : ℕ) (fields : List Field) → length (replicate count Request) ≡ length fields → filter_map (number_if is_request) (zip ([] ++ replicate count Request) fields) ≡ naturals fields
wait_numbers count fields fits = same_numbers is_request Request count fields refl (omega (arith, fits, length-replicate count Request))

-- of a wait for any or some of several
chosen_new : (ranks count : ℕ) (fields : List Field) (number : ℕ) (texts : List (List ℕ)) → fields_of ranks (replicate count Request) texts ≡ Some fields → length (replicate count Request) ≡ length fields → is_among number (chosen_of (filter_map (number_if is_request) (zip ([] ++ replicate count Request) fields)) []) ≡ ((length fields == 1) && (is_among number (filter_map (number_if is_request) (zip ([] ++ replicate count Request) fields)) || is_among number (filter_map (number_if is_message) (zip ([] ++ replicate count Request) fields))))
chosen_new ranks count fields number texts spell fits =
    rw (wait_numbers count fields fits, no_messages count fields) (
    chosen_none fields (requests_natural ranks count texts fields spell) number
    ∙ and_swap (is_among number (naturals fields)) (length fields == 1))

-- what a call line completes when it is read: of all that it names, where it completes all
completes_new : (ranks : ℕ) (word : CallWord) (fields : List Field) (number : ℕ) → IsRead ranks (call_line word fields) → is_among number (completed_by (new_entry word fields)) ≡ (completes_all word fields && (is_among number (numbers_by is_request (call_line word fields)) || is_among number (numbers_by is_message (call_line word fields))))
completes_new ranks call.Wait fields number read = rw (no_messages (max 1 (length fields - 0)) fields) (sym (or_false _))
completes_new ranks call.Test fields number read = rw (no_messages (max 1 (length fields - 0)) fields) (sym (or_false _))
completes_new ranks call.Waitany fields number read = chosen_new ranks (max 1 (length fields - 0)) fields number read.texts read.spell read.fits
completes_new ranks call.Waitsome fields number read = chosen_new ranks (max 1 (length fields - 0)) fields number read.texts read.spell read.fits
completes_new ranks call.Mrecv fields number read = rw (no_numbers is_request (Message ∷ []) fields refl) refl
completes_new ranks call.Imrecv fields number read = rw (no_numbers is_request (NewRequest ∷ Message ∷ []) fields refl) refl
completes_new ranks call.RequestFree fields number read = rw (no_numbers is_message (Request ∷ []) fields refl) (sym (or_false _))
completes_new ranks _ fields number read = refl

-- a cancel names no message
no_cancel : (word : CallWord) (fields : List Field) (number : ℕ) → is_among number (numbers_by is_message (call_line word fields)) ≡ true → is_cancel (Call word) ≡ false
no_cancel call.Cancel fields number is = absurd (false≢true (rw (no_numbers is_message (Request ∷ []) fields refl) at is))
no_cancel _ fields number is = refl

-- ---- Places of lines ----

em : (b : Bool) → (not b || b) ≡ true
em true = refl
em false = refl

last_none : (last : Option LastCall) → is_last last None ≡ false
last_none None = refl
last_none (Some last) = refl

not_last : (word : CallWord) (line : ℕ) (completed : Option ℕ) → IsBelow line completed → is_last (Some (new_last word line)) completed ≡ false
not_last word line None below = refl
not_last word line (Some other) below = ne_eqb line other (λ is. omega arith)

-- what was completed before is completed earlier now
earlier_now : (last : Option LastCall) (word : CallWord) (line : ℕ) (completed : Option ℕ) → IsBelow line completed → (is_earlier last completed || is_last last completed) ≡ is_earlier (Some (new_last word line)) completed
earlier_now last word line None below = last_none last
earlier_now last word line (Some other) below =
    em (is_last last (Some other)) ∙ sym (ap not (not_last word line (Some other) below))

pub below_more : (count : ℕ) (line : Option ℕ) → IsBelow count line → IsBelow (count + 1) line
below_more count None below = tt
below_more count (Some line) below = omega arith

pub note_below_more : (count : ℕ) (note : Option Note) → NoteBelow count note → NoteBelow (count + 1) note
note_below_more count None below = tt
note_below_more count (Some note) below = (below_more count note.completed below.0, omega (arith, below.1), below_more count note.reported below.2)

-- ---- Notes ----

-- a form in which a number is used is of a request or a message
use_form : (number : ℕ) (items : List (Form × ℕ)) (form : Form) → use_of number items ≡ Some form → is_of_request form ≡ true
use_form number [] form is = cc
use_form number ((next, other) ∷ items) form is =
    elim (cases_Bool (is_of_request next)) [
      | inl is_one ↦ elim (cases_Bool (other == number)) [
        | inl here ↦ (
            let found = rw (is_one, here) at is in
            let same : next ≡ form = cc in
            ap is_of_request (sym same) ∙ is_one)
        | inr apart ↦ use_form number items form (rw (is_one, apart) at is)
      ]
      | inr not_one ↦ use_form number items form (rw not_one at is)
    ]

-- the facts that one line adds, by the form in which it uses a number
record Adds (word : CallWord) (fields : List Field) (number : ℕ) (how : Option Form) : Type 0 where
  request : is_among number (numbers_by is_new_request (call_line word fields)) ≡ is_use is_new_request how
  message : is_among number (numbers_by is_new_message (call_line word fields)) ≡ is_use is_new_message how
  named : is_among number (numbers_by is_request (call_line word fields)) ≡ is_use is_request how
  kept : is_among number (numbers_by is_message (call_line word fields)) ≡ is_use is_message how
  called : is_among number (numbers_by is_of_request (call_line word fields)) ≡ is_use is_of_request how
  completed : is_among number (completed_by (new_entry word fields)) ≡ (completes_all word fields && (is_use is_request how || is_use is_message how))
  receive : is_use is_new_request how ≡ false → is_some (receive_in number (Call word) fields) ≡ false
  awaits : is_use is_new_request how ≡ false → is_wildcard (receive_in number (Call word) fields) ≡ false
  parent : is_use is_new_request how ≡ false → duplicated_in number (Call word) fields ≡ None

none_from : (it : Option ℕ) → (is_some it ≡ true → ⊥) → it ≡ None
none_from None not_some = refl
none_from (Some x) not_some = absurd (not_some refl)

adds : (ranks : ℕ) (word : CallWord) (fields : List Field) (number : ℕ) → IsRead ranks (call_line word fields) → are_distinct (numbers_with is_of_request (numbered (Call word) fields)) ≡ true → Adds word fields number (use_of number (numbered (Call word) fields))
adds ranks word fields number read distinct =
    let by = λ (test : Form → Bool) (part : IsPart test). ap (is_among number) (numbers_are test (Call word) fields) ∙ among_use test part number (numbered (Call word) fields) distinct in
    let requests = by is_new_request new_request_part in
    record {
      request = requests;
      message = by is_new_message new_message_part;
      named = by is_request request_part;
      kept = by is_message message_part;
      called = by is_of_request of_request_part;
      completed = rw (completes_new ranks word fields number read, by is_request request_part, by is_message message_part) refl;
      receive = λ none. false_from_ne_true _ (λ is. false≢true (sym (requests ∙ none) ∙ receive_new word fields number is));
      awaits = λ none. false_from_ne_true _ (λ is. false≢true (sym (requests ∙ none) ∙ wildcard_new word fields number is));
      parent = λ none. none_from _ (λ is. false≢true (sym (requests ∙ none) ∙ duplicate_new word fields number is));
    }

module _ (lines : List Line) (last : Option LastCall) (word : CallWord) (fields : List Field) (number : ℕ) where
  -- what the lines say of a number with one call line more
  grows : (how : Option Form) (before after : Option Note) → NoteIs lines last number before → Adds word fields number how
      → (by_note (λ it. not it.is_message) before || is_use is_new_request how) ≡ by_note (λ it. not it.is_message) after
      → (by_note (λ it. it.is_message) before || is_use is_new_message how) ≡ by_note (λ it. it.is_message) after
      → (by_note (λ it. it.is_receive) before || is_some (receive_in number (Call word) fields)) ≡ by_note (λ it. it.is_receive) after
      → (by_note (λ it. it.awaits_any) before || is_wildcard (receive_in number (Call word) fields)) ≡ by_note (λ it. it.awaits_any) after
      → (by_note (λ it. it.is_cancelled) before || (is_cancel (Call word) && is_use is_request how)) ≡ by_note (λ it. it.is_cancelled) after
      → by_note (λ it. it.has_outcome) before ≡ by_note (λ it. it.has_outcome) after
      → by_note (λ it. it.is_brought) before ≡ by_note (λ it. it.is_brought) after
      → or_else (option_and_then (λ it. it.parent) before) (duplicated_in number (Call word) fields) ≡ option_and_then (λ it. it.parent) after
      → (by_note (λ it. is_earlier last it.completed) before || by_note (λ it. is_last last it.completed) before) ≡ by_note (λ it. is_earlier (Some (new_last word (length lines))) it.completed) after
      → (completes_all word fields && (is_use is_request how || is_use is_message how)) ≡ by_note (λ it. is_last (Some (new_last word (length lines))) it.completed) after
      → is_use is_of_request how ≡ by_note (λ it. is_last (Some (new_last word (length lines))) (Some it.called)) after
      → (by_note (λ it. is_last (Some (new_last word (length lines))) it.completed) after ≡ true → by_note (λ it. is_last (Some (new_last word (length lines))) (Some it.called)) after ≡ true)
      → (by_note (λ it. is_last (Some (new_last word (length lines))) (Some it.called)) after ≡ true → by_note (λ it. is_earlier (Some (new_last word (length lines))) it.completed) after ≡ false)
      → NoteBelow (length lines + 1) after
      → NoteIs (lines ++ call_line word fields ∷ []) (Some (new_last word (length lines))) number after
  grows how before after was adds request message receive awaits cancelled outcome brought parent earlier completed called by_call not_before below = record {
    request = any_push _ lines (call_line word fields) ∙ rw (was.request, adds.request) request;
    message = any_push _ lines (call_line word fields) ∙ rw (was.message, adds.message) message;
    receive = any_push _ lines (call_line word fields) ∙ rw was.receive receive;
    awaits = any_push _ lines (call_line word fields) ∙ rw was.awaits awaits;
    cancelled = any_push _ lines (call_line word fields) ∙ rw (was.cancelled, adds.named) cancelled;
    outcome = any_push _ lines (call_line word fields) ∙ rw was.outcome (or_false _ ∙ outcome);
    brought = any_push _ lines (call_line word fields) ∙ rw was.brought (or_false _ ∙ brought);
    parent = parent_push lines (call_line word fields) number ∙ rw was.parent parent;
    earlier = earlier_after_call lines word fields number ∙ completed_is lines number ∙ rw (was.earlier, was.completed) earlier;
    completed = ap (λ it. completed_last it number) (last_after_call lines word fields) ∙ adds.completed ∙ completed;
    called = ap (λ it. called_last it number) (last_after_call lines word fields) ∙ adds.called ∙ called;
    by_call = by_call;
    not_before = not_before;
    below = rw (length-append lines (call_line word fields ∷ [])) below;
  }

  or_else_nothing : (it : Option ℕ) → or_else it None ≡ it
  or_else_nothing None = refl
  or_else_nothing (Some x) = refl

  never : (how : Option Form) → is_use is_request how ≡ false → (b : Bool) → (b || (is_cancel (Call word) && is_use is_request how)) ≡ b
  never how none b = ap (λ (x : Bool). b || (is_cancel (Call word) && x)) none ∙ ap (λ (x : Bool). b || x) (and_false (is_cancel (Call word))) ∙ or_false b

  unused : (before : Option Note) → NoteIs lines last number before → Adds word fields number None → NoteIs (lines ++ call_line word fields ∷ []) (Some (new_last word (length lines))) number before
  unused None was adds =
      grows None None None was adds refl refl (adds.receive refl) (adds.awaits refl) (never None refl false) refl refl (adds.parent refl) refl (and_false _) refl (λ is. cc) (λ is. refl) tt
  unused (Some note) was adds =
      grows None (Some note) (Some note) was adds (or_false _) (or_false _) (rw (adds.receive refl) (or_false _)) (rw (adds.awaits refl) (or_false _)) (never None refl note.is_cancelled) refl refl
      (rw (adds.parent refl) (or_else_nothing note.parent)) (earlier_now last word (length lines) note.completed was.below.0)
      (and_false _ ∙ sym (not_last word (length lines) note.completed was.below.0)) (sym (not_last word (length lines) (Some note.called) was.below.1))
      (λ is. absurd (false≢true (sym (not_last word (length lines) note.completed was.below.0) ∙ is)))
      (λ is. absurd (false≢true (sym (not_last word (length lines) (Some note.called) was.below.1) ∙ is)))
      (note_below_more (length lines) (Some note) was.below)

  here : (line : ℕ) → (line == line) ≡ true
  here line = eq-eqb line line refl

  starts : NoteIs lines last number None → Adds word fields number (Some NewRequest) → NoteIs (lines ++ call_line word fields ∷ []) (Some (new_last word (length lines))) number (Some (request_note word fields (length lines) number))
  starts was adds =
      grows (Some NewRequest) None (Some (request_note word fields (length lines) number)) was adds refl refl refl refl (never (Some NewRequest) refl false) refl refl refl refl
      (and_false _) (sym (here (length lines))) (λ is. here (length lines)) (λ is. refl) (tt, omega arith, tt)

  keeps : NoteIs lines last number None → Adds word fields number (Some NewMessage) → NoteIs (lines ++ call_line word fields ∷ []) (Some (new_last word (length lines))) number (Some (message_note (length lines)))
  keeps was adds =
      grows (Some NewMessage) None (Some (message_note (length lines))) was adds refl refl (adds.receive refl) (adds.awaits refl) (never (Some NewMessage) refl false) refl refl (adds.parent refl) refl
      (and_false _) (sym (here (length lines))) (λ is. here (length lines)) (λ is. refl) (tt, omega arith, tt)

  -- what a call that names it leaves of a number that wasn't completed
  completed_now : (all : Bool) (line : ℕ) → is_last (Some (new_last word line)) (completed_at all line None) ≡ all
  completed_now true line = here line
  completed_now false line = refl

  earlier_not : (all : Bool) (line : ℕ) → is_earlier (Some (new_last word line)) (completed_at all line None) ≡ false
  earlier_not true line = ap not (here line)
  earlier_not false line = refl

  below_now : (all : Bool) (line : ℕ) → IsBelow (line + 1) (completed_at all line None)
  below_now true line = omega arith
  below_now false line = tt

  nothing : (it : Option ℕ) → is_none it ≡ true → it ≡ None
  nothing None is = refl
  nothing (Some x) is = cc

  names : (note : Note) → (how : Option Form) → (is_use is_request how || is_use is_message how) ≡ true → is_use is_new_request how ≡ false → is_use is_new_message how ≡ false → is_use is_of_request how ≡ true → (is_cancel (Call word) && is_use is_request how) ≡ is_cancel (Call word) → note.completed ≡ None → NoteIs lines last number (Some note) → Adds word fields number how → NoteIs (lines ++ call_line word fields ∷ []) (Some (new_last word (length lines))) number (Some (called_note word fields (length lines) note))
  names note how named no_request no_message of_request cancels not_before was adds =
      grows how (Some note) (Some (called_note word fields (length lines) note)) was adds
      (rw no_request (or_false _)) (rw no_message (or_false _)) (rw (adds.receive no_request) (or_false _)) (rw (adds.awaits no_request) (or_false _)) (rw cancels refl) refl refl
      (rw (adds.parent no_request) (or_else_nothing note.parent))
      (rw not_before (rw (last_none last) (sym (earlier_not (completes_all word fields) (length lines)))))
      (rw (named, not_before) (and_true _ ∙ sym (completed_now (completes_all word fields) (length lines))))
      (of_request ∙ sym (here (length lines)))
      (λ is. here (length lines)) (λ is. rw not_before (earlier_not (completes_all word fields) (length lines)))
      (rw not_before (below_now (completes_all word fields) (length lines)), omega arith, below_more (length lines) note.reported was.below.2)

  -- what is noted of a number after the call line is what the lines then say of it
  after_form : (form : Form) (before : Option Note) → is_of_request form ≡ true → may_call (length lines) form before ≡ true → NoteIs lines last number before → Adds word fields number (Some form) → NoteIs (lines ++ call_line word fields ∷ []) (Some (new_last word (length lines))) number (by_call word fields (length lines) number form before)
  after_form NewRequest None used may was adds = starts was adds
  after_form NewRequest (Some note) used may was adds = cc
  after_form NewMessage None used may was adds = keeps was adds
  after_form NewMessage (Some note) used may was adds = cc
  after_form Request None used may was adds = cc
  after_form Request (Some note) used may was adds =
      let parts = and_parts (not note.is_message) (is_callable (length lines) note) may in
      let not_before = and_parts (is_none note.completed) (not (note.called == length lines)) parts.1 in
      names note (Some Request) refl refl refl refl (and_true _) (nothing note.completed not_before.0) was adds
  after_form Message None used may was adds = cc
  after_form Message (Some note) used may was adds =
      let parts = and_parts note.is_message (is_callable (length lines) note) may in
      let not_before = and_parts (is_none note.completed) (not (note.called == length lines)) parts.1 in
      let not_cancel = no_cancel word fields number adds.kept in
      names note (Some Message) refl refl refl refl (and_false _ ∙ sym not_cancel) (nothing note.completed not_before.0) was adds
  after_form _ before used may was adds = cc

  pub after_call : (ranks : ℕ) (before : Option Note) → IsRead ranks (call_line word fields) → are_distinct (numbers_with is_of_request (numbered (Call word) fields)) ≡ true → ((form : Form) → use_of number (numbered (Call word) fields) ≡ Some form → may_call (length lines) form before ≡ true) → NoteIs lines last number before → NoteIs (lines ++ call_line word fields ∷ []) (Some (new_last word (length lines))) number (after_use (by_call word fields (length lines)) number before (use_of number (numbered (Call word) fields)))
  after_call ranks before read distinct may was =
      by_use (use_of number (numbered (Call word) fields)) refl
    where
      by_use : (how : Option Form) → use_of number (numbered (Call word) fields) ≡ how → NoteIs (lines ++ call_line word fields ∷ []) (Some (new_last word (length lines))) number (after_use (by_call word fields (length lines)) number before how)
      by_use None is = unused before was (subst (λ (u : Option Form). Adds word fields number u) is (adds ranks word fields number read distinct))
      by_use (Some form) is = after_form form before (use_form number (numbered (Call word) fields) form is) (may form is) was (subst (λ (u : Option Form). Adds word fields number u) is (adds ranks word fields number read distinct))
