-- In a journal that was read no request of a send is a message, or a started receive of one.
use Rattle.std.proofs.Common.{◌≡◌, ℕ, ◌-◌, ◌==◌, ◌||◌, ◌&&◌, max, not, Bool, true, false, if◌then◌else◌, Option, Some, None, List, [], ◌∷◌, ◌++◌, length, refl, sym, ap, subst, ◌∙◌, inl, inr, eq-eqb, eqb-true, append_assoc, append-nil}
use Rattle.std.specs.List.{list_any}
use Rattle.std.proofs.lemmas.Bool.{cases_Bool, false≢true}
use Rattle.std.proofs.lemmas.Option.{none-some, same_Some}
use Rattle.std.proofs.lemmas.List.Folds.{list_any-append}
use Rattle.mpicall.specs.Word.{or_else}
use Rattle.journals.specs.Lines.{Line}
use Rattle.journals.specs.Words.{forms_of, call_row, more_forms}
use Rattle.journals.specs.Entries.{numbers_by, is_new_message}
use Rattle.journals.specs.Known.{is_among, knows_request, knows_message}
use Rattle.journals.specs.Faults.{is_free}
use Rattle.journals.specs.declared.form.Form.TheVariants.{Request, Member, Bytes}
use Rattle.journals.specs.declared.form.More.TheVariants as more
use Rattle.journals.specs.declared.field.Field.{Field}
use Rattle.journals.specs.declared.field.Field.TheVariants.{Natural}
use Rattle.journals.specs.declared.word.Word.{Word}
use Rattle.journals.specs.declared.word.Word.TheVariants.{Call, Report}
use Rattle.journals.specs.declared.word.CallWord.{CallWord}
use Rattle.journals.specs.declared.word.CallWord.TheVariants as call
use Rattle.journals.proofs.LineForms.{no_numbers, any_replicate}
use Rattle.closing.specs.Called.{Called, ProbesMatching, StartsSend, StartsExchange, StartsMatched, called, starts_awaiting}
use Rattle.closing.specs.Entry.{matched_by, matched_in, matched_message, starts_send_with, starts_send_in, is_of_send}
use Rattle.lawful.proofs.RightLines.{IsRight, AreRight, right_requests}
use Rattle.lawful.proofs.NewNumbers.{IsKnown, IsKnownMessage, New, Numbers, called_numbers}
use Rattle.lawful.proofs.KnownLines.{still_taken, sends_line, same_send, matched_append}

-- ---- Lines that number messages start no send ----

bytes_none : (n : ℕ) → list_any is_new_message (more_forms more.Bytes n) ≡ false
bytes_none n = either (n == 1)
  where
    either : (b : Bool) → list_any is_new_message (if b then Bytes ∷ [] else []) ≡ false
    either true = refl
    either false = refl

more_none : (word : CallWord) (n : ℕ) → list_any is_new_message (more_forms (call_row word).more n) ≡ false
more_none call.Send n = bytes_none n
more_none call.Isend n = bytes_none n
more_none call.Sendrecv n = bytes_none n
more_none call.Isendrecv n = bytes_none n
more_none call.Wait n = any_replicate is_new_message Request (max 1 n) refl
more_none call.Test n = any_replicate is_new_message Request (max 1 n) refl
more_none call.Waitany n = any_replicate is_new_message Request (max 1 n) refl
more_none call.Waitsome n = any_replicate is_new_message Request (max 1 n) refl
more_none call.CommCreateGroup n = any_replicate is_new_message Member (max 1 n) refl
more_none _ n = refl

no_message : (word : CallWord) (fields : List Field) (number : ℕ) → list_any is_new_message (call_row word).forms ≡ false → is_among number (numbers_by is_new_message (record { word = Call word; fields = fields })) ≡ false
no_message word fields number none =
    let forms : list_any is_new_message (forms_of (Call word) (length fields)) ≡ false =
    list_any-append is_new_message (call_row word).forms (more_forms (call_row word).more (length fields - length (call_row word).forms))
    ∙ both (list_any is_new_message (call_row word).forms) (list_any is_new_message (more_forms (call_row word).more (length fields - length (call_row word).forms)))
    none (more_none word (length fields - length (call_row word).forms)) in
    ap (is_among number) (no_numbers is_new_message (forms_of (Call word) (length fields)) fields forms)
  where
    both : (a b : Bool) → a ≡ false → b ≡ false → (a || b) ≡ false
    both a b first other = rw first other

no_send : (fields : List Field) (number : ℕ) → starts_send_with number (starts_awaiting ProbesMatching fields) ≡ false
no_send (Natural own ∷ Natural comm ∷ source ∷ tag ∷ []) number = refl
no_send _ number = refl

message_starts : (word : CallWord) (fields : List Field) (number : ℕ) → is_among number (numbers_by is_new_message (record { word = Call word; fields = fields })) ≡ true → starts_send_with number (called word fields) ≡ false
message_starts call.Mprobe fields number among = no_send fields number
message_starts call.Improbe fields number among = no_send fields number
message_starts word fields number among = absurd (false≢true (sym (no_message word fields number refl) ∙ among))

message_line : (word : Word) (fields : List Field) (number : ℕ) → is_among number (numbers_by is_new_message (record { word = word; fields = fields })) ≡ true → starts_send_in number word fields ≡ false
message_line (Call word) fields number among = message_starts word fields number among
message_line (Report word) fields number among = refl

-- ---- Requests of sends are new ----

pub sent_new : (before : List Line) (word : CallWord) (fields : List Field) (request : ℕ) (it : Called) → Numbers (New before word fields) (IsKnown before) (IsKnownMessage before) it → starts_send_with request it ≡ true → New before word fields request
sent_new before word fields request (StartsSend started mode sent) all h = subst (New before word fields) (eqb-true started request h) all
sent_new before word fields request (StartsExchange started received sent awaited) all h = subst (New before word fields) (eqb-true started request h) all.0
sent_new before word fields request _ all h = absurd (false≢true h)

pub new_taken : (before : List Line) (word : CallWord) (fields : List Field) (request : ℕ) → New before word fields request → is_free (before ++ record { word = Call word; fields = fields } ∷ []) request ≡ false
new_taken before word fields request new =
    elim (cases_Bool (is_free (before ++ record { word = Call word; fields = fields } ∷ []) request)) [
      | inl free ↦ absurd (false≢true (sym (new.apart request free) ∙ eq-eqb request request refl))
      | inr taken ↦ taken
    ]

sent_taken : (before : List Line) (word : Word) (fields : List Field) (request : ℕ) → IsRight before (record { word = word; fields = fields }) → starts_send_in request word fields ≡ true → is_free (before ++ record { word = word; fields = fields } ∷ []) request ≡ false
sent_taken before (Call word) fields request is h =
    new_taken before word fields request (sent_new before word fields request (called word fields) (called_numbers before word fields is) h)
sent_taken before (Report word) fields request is h = absurd (false≢true h)

matched_is : (before : List Line) (word : CallWord) (fields : List Field) (request message : ℕ) (it : Called) → Numbers (New before word fields) (IsKnown before) (IsKnownMessage before) it → matched_by request it ≡ Some message → IsKnownMessage before message
matched_is before word fields request message (StartsMatched started own) all h =
    elim (cases_Bool (started == request)) [
      | inl same ↦ subst (IsKnownMessage before) (same_Some own message (rw same at h)) all.1
      | inr other ↦ absurd (none-some message (rw other at h))
    ]
matched_is before word fields request message _ all h = absurd (none-some message h)

matched_known : (before : List Line) (word : Word) (fields : List Field) (request message : ℕ) → IsRight before (record { word = word; fields = fields }) → matched_in request word fields ≡ Some message → IsKnownMessage before message
matched_known before (Call word) fields request message is h =
    matched_is before word fields request message (called word fields) (called_numbers before word fields is) h
matched_known before (Report word) fields request message is h = absurd (none-some message h)

-- ---- Lines so far ----

pub record Sound (lines : List Line) : Type 0 where
  pub sends : (request : ℕ) → is_of_send lines request ≡ true → is_free lines request ≡ false
  pub messages : (message : ℕ) → knows_message lines message ≡ true → is_of_send lines message ≡ false
  pub matched : (request message : ℕ) → matched_message lines request ≡ Some message → (is_of_send lines message ≡ false) × (is_free lines message ≡ false)
  pub receives : (request message : ℕ) → matched_message lines request ≡ Some message → (is_of_send lines request ≡ false) × (is_free lines request ≡ false)

pub sound_first : Sound []
sound_first = record {
  sends = λ request h. absurd (false≢true h);
  messages = λ message h. absurd (false≢true h);
  matched = λ request message h. absurd (none-some message h);
  receives = λ request message h. absurd (none-some message h);
}

pub send_push : (before : List Line) (line : Line) (request : ℕ) → is_of_send (before ++ line ∷ []) request ≡ (is_of_send before request || starts_send_in request line.word line.fields)
send_push before line request =
    list_any-append (λ (l : Line). starts_send_in request l.word l.fields) before (line ∷ [])
    ∙ ap (λ (b : Bool). is_of_send before request || b) (or_false (starts_send_in request line.word line.fields))
  where
    or_false : (b : Bool) → (b || false) ≡ b
    or_false true = refl
    or_false false = refl

pub either_true : (a b : Bool) → (a || b) ≡ true → a ≡ false → b ≡ true
either_true true b h none = absurd (false≢true (sym none))
either_true false b h none = h

pub both_false : (a b : Bool) → a ≡ false → b ≡ false → (a || b) ≡ false
both_false a b first other = rw first other

push_sends : (before : List Line) (line : Line) (request : ℕ) → IsRight before line → Sound before → is_of_send (before ++ line ∷ []) request ≡ true → is_free (before ++ line ∷ []) request ≡ false
push_sends before line request is sound h =
    elim (cases_Bool (is_of_send before request)) [
      | inl sent ↦ still_taken before line request (sound.sends request sent)
      | inr not_sent ↦ sent_taken before line.word line.fields request is
          (either_true (is_of_send before request) (starts_send_in request line.word line.fields) (sym (send_push before line request) ∙ h) not_sent)
    ]

message_taken : (before : List Line) (message : ℕ) → knows_message before message ≡ true → is_free before message ≡ false
message_taken before message h = other_taken (knows_request before message) (knows_message before message) h
  where
    other_taken : (a b : Bool) → b ≡ true → (not a && not b) ≡ false
    other_taken true b holds = refl
    other_taken false b holds = rw holds refl

pub free_not_sent : (before : List Line) (request : ℕ) → Sound before → is_free before request ≡ true → is_of_send before request ≡ false
free_not_sent before request sound free =
    elim (cases_Bool (is_of_send before request)) [
      | inl sent ↦ absurd (false≢true (sym (sound.sends request sent) ∙ free))
      | inr not_sent ↦ not_sent
    ]

push_messages : (before : List Line) (line : Line) (message : ℕ) → IsRight before line → Sound before → knows_message (before ++ line ∷ []) message ≡ true → is_of_send (before ++ line ∷ []) message ≡ false
push_messages before line message is sound h =
    send_push before line message
    ∙ elim (cases_Bool (knows_message before message)) [
      | inl known ↦ both_false (is_of_send before message) (starts_send_in message line.word line.fields) (sound.messages message known)
          (sends_line before line.word line.fields message is (message_taken before message known))
      | inr unknown ↦
          let among = either_true (knows_message before message) (is_among message (numbers_by is_new_message line) || false)
          (sym (list_any-append (λ (l : Line). is_among message (numbers_by is_new_message l)) before (line ∷ [])) ∙ h) unknown in
          let here = or_true (is_among message (numbers_by is_new_message line)) among in
          both_false (is_of_send before message) (starts_send_in message line.word line.fields)
          (free_not_sent before message sound ((right_requests before line is).new_messages message here))
          (message_line line.word line.fields message here)
    ]
  where
    or_true : (b : Bool) → (b || false) ≡ true → b ≡ true
    or_true true h = refl
    or_true false h = h

push_matched : (before : List Line) (line : Line) (request message : ℕ) (o : Option ℕ) → matched_message before request ≡ o → IsRight before line → Sound before → or_else o (or_else (matched_in request line.word line.fields) None) ≡ Some message → (is_of_send (before ++ line ∷ []) message ≡ false) × (is_free (before ++ line ∷ []) message ≡ false)
push_matched before line request message (Some own) of is sound h =
    let known = sound.matched request message (of ∙ h) in
    (same_send before (line ∷ []) message (is, tt) known.1 ∙ known.0, still_taken before line message known.1)
push_matched before line request message None of is sound h =
    let known = matched_known before line.word line.fields request message is (or_none (matched_in request line.word line.fields) h) in
    (same_send before (line ∷ []) message (is, tt) known.known.taken ∙ sound.messages message known.message, still_taken before line message known.known.taken)
  where
    or_none : (o : Option ℕ) → or_else o None ≡ Some message → o ≡ Some message
    or_none (Some it) h = h
    or_none None h = h

-- the request of a started matched receive is new, and none of a send
receives_new : (before : List Line) (word : CallWord) (fields : List Field) (request message : ℕ) (it : Called) → Numbers (New before word fields) (IsKnown before) (IsKnownMessage before) it → matched_by request it ≡ Some message → New before word fields request × (starts_send_with request it ≡ false)
receives_new before word fields request message (StartsMatched started own) all h =
    elim (cases_Bool (started == request)) [
      | inl same ↦ (subst (New before word fields) (eqb-true started request same) all.0, refl)
      | inr other ↦ absurd (none-some message (rw other at h))
    ]
receives_new before word fields request message _ all h = absurd (none-some message h)

line_receives : (before : List Line) (word : Word) (fields : List Field) (request message : ℕ) → IsRight before (record { word = word; fields = fields }) → Sound before → matched_in request word fields ≡ Some message → (is_of_send (before ++ record { word = word; fields = fields } ∷ []) request ≡ false) × (is_free (before ++ record { word = word; fields = fields } ∷ []) request ≡ false)
line_receives before (Call word) fields request message is sound h =
    let new = receives_new before word fields request message (called word fields) (called_numbers before word fields is) h in (
      send_push before (record { word = Call word; fields = fields }) request
          ∙ both_false (is_of_send before request) (starts_send_with request (called word fields)) (free_not_sent before request sound new.0.free) new.1,
      new_taken before word fields request new.0,
    )
line_receives before (Report word) fields request message is sound h = absurd (none-some message h)

push_receives : (before : List Line) (line : Line) (request message : ℕ) (o : Option ℕ) → matched_message before request ≡ o → IsRight before line → Sound before → or_else o (or_else (matched_in request line.word line.fields) None) ≡ Some message → (is_of_send (before ++ line ∷ []) request ≡ false) × (is_free (before ++ line ∷ []) request ≡ false)
push_receives before line request message (Some own) of is sound h =
    let known = sound.receives request message (of ∙ h) in
    (same_send before (line ∷ []) request (is, tt) known.1 ∙ known.0, still_taken before line request known.1)
push_receives before line request message None of is sound h =
    line_receives before line.word line.fields request message is sound (or_none (matched_in request line.word line.fields) h)
  where
    or_none : (o : Option ℕ) → or_else o None ≡ Some message → o ≡ Some message
    or_none (Some it) h = h
    or_none None h = h

pub sound_push : (before : List Line) (line : Line) → IsRight before line → Sound before → Sound (before ++ line ∷ [])
sound_push before line is sound = record {
  sends = λ request h. push_sends before line request is sound h;
  messages = λ message h. push_messages before line message is sound h;
  matched = λ request message h. push_matched before line request message (matched_message before request) refl is sound (sym (matched_append before (line ∷ []) request) ∙ h);
  receives = λ request message h. push_receives before line request message (matched_message before request) refl is sound (sym (matched_append before (line ∷ []) request) ∙ h);
}

pub sound_all : (before lines : List Line) → AreRight before lines → Sound before → Sound (before ++ lines)
sound_all before [] right sound = subst Sound (sym (append-nil before)) sound
sound_all before (line ∷ lines) right sound =
    subst Sound (append_assoc before (line ∷ []) lines) (sound_all (before ++ line ∷ []) lines right.1 (sound_push before line right.0 sound))
