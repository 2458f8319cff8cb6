-- The requests and messages that a call line of a journal that was read starts have numbers that none before has, and
-- none after.
use Rattle.std.proofs.Common.{◌≡◌, ℕ, ◌-◌, ◌≤◌, ◌==◌, ◌||◌, ◌&&◌, max, not, Bool, true, false, None, List, [], ◌∷◌, ◌++◌, length, replicate, refl, sym, ap, subst, ◌∙◌, eq-eqb, arith}
use Rattle.std.specs.Prelude.{⊤}
use Rattle.std.specs.List.{list_any, filter_map, zip}
use Rattle.std.proofs.lemmas.Bool.{false≢true, and_parts, or_parts, not-true, ne_eqb}
use Rattle.std.proofs.lemmas.List.Folds.{list_any-append}
use Rattle.mpicall.specs.declared.call.Mode.{Mode}
use Rattle.mpicall.specs.declared.call.Mode.TheVariants.{Standard, Synchronous, Buffered}
use Rattle.mpicall.specs.declared.word.Collective.{Collective}
use Rattle.mpicall.specs.declared.word.Collective.TheVariants as coll
use Rattle.journals.specs.Lines.{Line}
use Rattle.journals.specs.Words.{forms_of}
use Rattle.journals.specs.Entries.{numbers_by, number_if, is_new_request, is_new_message, is_request, is_message, is_of_request}
use Rattle.journals.specs.Known.{is_among, are_distinct, knows_request, knows_message, is_completed}
use Rattle.journals.specs.Faults.{is_free}
use Rattle.journals.specs.declared.form.Form.{Form}
use Rattle.journals.specs.declared.form.Form.TheVariants.{NewRequest, NewMessage, Request, Message}
use Rattle.journals.specs.declared.field.Field.{Field}
use Rattle.journals.specs.declared.field.Field.TheVariants.{Natural, Signed, Undefined}
use Rattle.journals.specs.declared.word.Word.TheVariants.{Call}
use Rattle.journals.specs.declared.word.CallWord.{CallWord}
use Rattle.journals.specs.declared.word.CallWord.TheVariants as call
use Rattle.journals.proofs.LineForms.{same_numbers}
use Rattle.closing.specs.Called.{Called, Awaited, StartsSend, Receives, StartsReceive, StartsExchange, Probes, ProbesMatching, ReceivesMatched, StartsMatched, Cancels, FreesRequest, Collects, StartsCollective, Duplicates, StartsDuplicate, Makes, FreesComm, Waits, Tests, WaitsAny, WaitsSome, called, naturals_in, awaited, sends, starts_send, awaits, starts_awaiting, exchanges, starts_exchange, one_number, two_numbers, rooted, starts_rooted, unrooted, starts_unrooted, splits}
use Rattle.lawful.proofs.RightLines.{IsRight, right_requests}

-- ---- Numbers ----

-- a number that nothing has so far, and nothing that is left to number later
pub record IsNew (Free Left : ℕ → Type 0) (number : ℕ) : Type 0 where
  pub free : Free number
  pub apart : (other : ℕ) → Left other → (number == other) ≡ false

abbrev pub IsFree : List Line → ℕ → Type 0
IsFree lines number = is_free lines number ≡ true

-- a number that is free after one more line
record IsLeft (before : List Line) (line : Line) (number : ℕ) : Type 0 where
  no_request : knows_request before number ≡ false
  no_message : knows_message before number ≡ false
  other_request : is_among number (numbers_by is_new_request line) ≡ false
  other_message : is_among number (numbers_by is_new_message line) ≡ false

parts_left : (known named : Bool) → not (known || (named || false)) ≡ true → (known ≡ false) × (named ≡ false)
parts_left true named h = absurd (false≢true h)
parts_left false true h = absurd (false≢true h)
parts_left false false h = (refl, refl)

parts_of : (before : List Line) (line : Line) (numbers : Line → List ℕ) (number : ℕ) → not (list_any (λ (l : Line). is_among number (numbers l)) (before ++ line ∷ [])) ≡ true → (list_any (λ (l : Line). is_among number (numbers l)) before ≡ false) × (is_among number (numbers line) ≡ false)
parts_of before line numbers number h =
    parts_left (list_any (λ (l : Line). is_among number (numbers l)) before) (is_among number (numbers line))
    (subst (λ (b : Bool). not b ≡ true) (list_any-append (λ (l : Line). is_among number (numbers l)) before (line ∷ [])) h)

left : (before : List Line) (line : Line) (number : ℕ) → IsFree (before ++ line ∷ []) number → IsLeft before line number
left before line number h =
    let both = and_parts (not (knows_request (before ++ line ∷ []) number)) (not (knows_message (before ++ line ∷ []) number)) h in
    let requests = parts_of before line (numbers_by is_new_request) number both.0 in
    let messages = parts_of before line (numbers_by is_new_message) number both.1 in
    record { no_request = requests.0; no_message = messages.0; other_request = requests.1; other_message = messages.1 }

-- what is free after one more line was so before
pub free_before : (before : List Line) (line : Line) (number : ℕ) → IsFree (before ++ line ∷ []) number → IsFree before number
free_before before line number h =
    let is = left before line number h in
    both (knows_request before number) (knows_message before number) is.no_request is.no_message
  where
    both : (a b : Bool) → a ≡ false → b ≡ false → (not a && not b) ≡ true
    both a b first other = rw (first, other) refl

-- ---- The numbers of a line ----

apart_from : (numbers : List ℕ) (number other : ℕ) → is_among number numbers ≡ true → is_among other numbers ≡ false → (number == other) ≡ false
apart_from numbers number other among none =
    ne_eqb number other (λ same. false≢true (sym none ∙ subst (λ (n : ℕ). is_among n numbers ≡ true) same among))

new_request : (before : List Line) (line : Line) (number : ℕ) → IsRight before line → is_among number (numbers_by is_new_request line) ≡ true → IsNew (IsFree before) (IsFree (before ++ line ∷ [])) number
new_request before line number is among = record {
  free = (right_requests before line is).new_requests number among;
  apart = λ other free. apart_from (numbers_by is_new_request line) number other among (left before line other free).other_request;
}

new_message : (before : List Line) (line : Line) (number : ℕ) → IsRight before line → is_among number (numbers_by is_new_message line) ≡ true → IsNew (IsFree before) (IsFree (before ++ line ∷ [])) number
new_message before line number is among = record {
  free = (right_requests before line is).new_messages number among;
  apart = λ other free. apart_from (numbers_by is_new_message line) number other among (left before line other free).other_message;
}

-- ---- The first fields of a line ----

abbrev FirstIs : (ℕ → Type 0) → List Field → Type 0
FirstIs P (Natural number ∷ fields) = P number
FirstIs P fields = ⊤

abbrev SecondIs : (ℕ → Type 0) → List Field → Type 0
SecondIs P (Natural one ∷ Natural two ∷ fields) = P two
SecondIs P fields = ⊤

abbrev BothAre : (ℕ → Type 0) → List Field → Type 0
BothAre P (Natural one ∷ Natural two ∷ fields) = P one × P two × ((one == two) ≡ false)
BothAre P fields = ⊤

first_among : (test : Form → Bool) (form : Form) (rest forms : List Form) (number : ℕ) (fields : List Field) → test form ≡ true → forms ≡ form ∷ rest → is_among number (filter_map (number_if test) (zip forms (Natural number ∷ fields))) ≡ true
first_among test form rest forms number fields is are =
    subst (λ (all : List Form). is_among number (filter_map (number_if test) (zip all (Natural number ∷ fields))) ≡ true) (sym are) (rw (is, eq-eqb number number refl) refl)

second_among : (test : Form → Bool) (one two : Form) (rest forms : List Form) (first number : ℕ) (fields : List Field) → test one ≡ true → test two ≡ true → forms ≡ one ∷ two ∷ rest → is_among number (filter_map (number_if test) (zip forms (Natural first ∷ Natural number ∷ fields))) ≡ true
second_among test one two rest forms first number fields is is_two are =
    subst (λ (all : List Form). is_among number (filter_map (number_if test) (zip all (Natural first ∷ Natural number ∷ fields))) ≡ true) (sym are)
    (rw (is, is_two, eq-eqb number number refl) (either (first == number)))
  where
    either : (b : Bool) → (b || true) ≡ true
    either true = refl
    either false = refl

two_apart : (test : Form → Bool) (one two : Form) (rest forms : List Form) (first second : ℕ) (fields : List Field) → test one ≡ true → test two ≡ true → forms ≡ one ∷ two ∷ rest → are_distinct (filter_map (number_if test) (zip forms (Natural first ∷ Natural second ∷ fields))) ≡ true → (first == second) ≡ false
two_apart test one two rest forms first second fields is is_two are distinct =
    let once : are_distinct (filter_map (number_if test) (zip (one ∷ two ∷ rest) (Natural first ∷ Natural second ∷ fields))) ≡ true =
    subst (λ (all : List Form). are_distinct (filter_map (number_if test) (zip all (Natural first ∷ Natural second ∷ fields))) ≡ true) are distinct in
    apart_two first second (filter_map (number_if test) (zip rest fields)) (rw (is, is_two) at once)
  where
    apart_two : (a b : ℕ) (others : List ℕ) → are_distinct (a ∷ b ∷ others) ≡ true → (a == b) ≡ false
    apart_two a b others h =
        let none = not-true (is_among a (b ∷ others)) (and_parts (not (is_among a (b ∷ others))) (are_distinct (b ∷ others)) h).0 in
        let other = (or_parts (b == a) (is_among a others) none).0 in
        ne_eqb a b (λ same. false≢true (sym other ∙ eq-eqb b a (sym same)))

first_request : (before : List Line) (word : CallWord) (fields : List Field) (rest : List Form) → forms_of (Call word) (length fields) ≡ NewRequest ∷ rest → IsRight before (record { word = Call word; fields = fields }) → FirstIs (IsNew (IsFree before) (IsFree (before ++ record { word = Call word; fields = fields } ∷ []))) fields
first_request before word (Natural number ∷ fields) rest forms is =
    new_request before (record { word = Call word; fields = Natural number ∷ fields }) number is
    (first_among is_new_request NewRequest rest (forms_of (Call word) (length (Natural number ∷ fields))) number fields refl forms)
first_request before word _ rest forms is = tt

first_message : (before : List Line) (word : CallWord) (fields : List Field) (rest : List Form) → forms_of (Call word) (length fields) ≡ NewMessage ∷ rest → IsRight before (record { word = Call word; fields = fields }) → FirstIs (IsNew (IsFree before) (IsFree (before ++ record { word = Call word; fields = fields } ∷ []))) fields
first_message before word (Natural number ∷ fields) rest forms is =
    new_message before (record { word = Call word; fields = Natural number ∷ fields }) number is
    (first_among is_new_message NewMessage rest (forms_of (Call word) (length (Natural number ∷ fields))) number fields refl forms)
first_message before word _ rest forms is = tt

two_requests : (before : List Line) (word : CallWord) (fields : List Field) (rest : List Form) → forms_of (Call word) (length fields) ≡ NewRequest ∷ NewRequest ∷ rest → IsRight before (record { word = Call word; fields = fields }) → BothAre (IsNew (IsFree before) (IsFree (before ++ record { word = Call word; fields = fields } ∷ []))) fields
two_requests before word (Natural one ∷ Natural two ∷ fields) rest forms is =
    let all = forms_of (Call word) (length (Natural one ∷ Natural two ∷ fields)) in
    let line : Line = record { word = Call word; fields = Natural one ∷ Natural two ∷ fields } in (
      new_request before line one is (first_among is_new_request NewRequest (NewRequest ∷ rest) all one (Natural two ∷ fields) refl forms),
      new_request before line two is (second_among is_new_request NewRequest NewRequest rest all one two fields refl refl forms),
      two_apart is_of_request NewRequest NewRequest rest all one two fields refl refl forms (right_requests before line is).distinct,
    )
two_requests before word _ rest forms is = tt

-- ---- What a call starts ----

-- each of these passes a test
abbrev pub AllOf : (ℕ → Type 0) → List ℕ → Type 0
AllOf Q [] = ⊤
AllOf Q (number ∷ numbers) = Q number × AllOf Q numbers

-- the requests and messages that a call starts pass one test, the requests that it waits for, tests, cancels or frees
-- another, and the messages that it receives a third
abbrev pub Numbers : (ℕ → Type 0) → (ℕ → Type 0) → (ℕ → Type 0) → Called → Type 0
Numbers P Q M (StartsSend request mode it) = P request
Numbers P Q M (StartsReceive request it) = P request
Numbers P Q M (StartsExchange request received it other) = P request × P received × ((request == received) ≡ false)
Numbers P Q M (ProbesMatching message it) = P message
Numbers P Q M (StartsMatched request message) = P request × M message
Numbers P Q M (StartsCollective request collective comm root) = P request
Numbers P Q M (StartsDuplicate request comm) = P request
Numbers P Q M (ReceivesMatched message) = M message
Numbers P Q M (Waits requests) = AllOf Q requests
Numbers P Q M (Tests requests) = AllOf Q requests
Numbers P Q M (WaitsAny requests) = AllOf Q requests
Numbers P Q M (WaitsSome requests) = AllOf Q requests
Numbers P Q M (Cancels request) = Q request
Numbers P Q M (FreesRequest request) = Q request
Numbers P Q M it = ⊤

-- of these the requests and messages that stand in the trace under their own numbers
abbrev pub StartsNew : (ℕ → Type 0) → Called → Type 0
StartsNew P (StartsSend request mode it) = P request
StartsNew P (StartsReceive request it) = P request
StartsNew P (StartsExchange request received it other) = P request × P received × ((request == received) ≡ false)
StartsNew P (ProbesMatching message it) = P message
StartsNew P (StartsCollective request collective comm root) = P request
StartsNew P (StartsDuplicate request comm) = P request
StartsNew P it = ⊤

starts_of : (P Q M : ℕ → Type 0) (it : Called) → Numbers P Q M it → StartsNew P it
starts_of P Q M (StartsSend request mode it) all = all
starts_of P Q M (StartsReceive request it) all = all
starts_of P Q M (StartsExchange request received it other) all = all
starts_of P Q M (ProbesMatching message it) all = all
starts_of P Q M (StartsCollective request collective comm root) all = all
starts_of P Q M (StartsDuplicate request comm) all = all
starts_of P Q M _ all = tt

-- ---- Numbers that were given before ----

-- a request or message that was started before, and not completed
pub record IsKnown (before : List Line) (number : ℕ) : Type 0 where
  pub taken : is_free before number ≡ false
  pub left : is_completed before number ≡ false

pub record IsKnownMessage (before : List Line) (number : ℕ) : Type 0 where
  pub known : IsKnown before number
  pub message : knows_message before number ≡ true

pub known_request : (before : List Line) (word : CallWord) (fields : List Field) (number : ℕ) → IsRight before (record { word = Call word; fields = fields }) → is_among number (numbers_by is_request (record { word = Call word; fields = fields })) ≡ true → IsKnown before number
known_request before word fields number is among =
    let parts = and_parts (knows_request before number) (not (is_completed before number)) ((right_requests before (record { word = Call word; fields = fields }) is).known number among) in
    record { taken = first_taken (knows_request before number) (knows_message before number) parts.0; left = not-true (is_completed before number) parts.1 }
  where
    first_taken : (a b : Bool) → a ≡ true → (not a && not b) ≡ false
    first_taken a b holds = rw holds refl

known_message : (before : List Line) (word : CallWord) (fields : List Field) (number : ℕ) → IsRight before (record { word = Call word; fields = fields }) → is_among number (numbers_by is_message (record { word = Call word; fields = fields })) ≡ true → IsKnownMessage before number
known_message before word fields number is among =
    let parts = and_parts (knows_message before number) (not (is_completed before number)) ((right_requests before (record { word = Call word; fields = fields }) is).known_message number among) in
    record {
      known = record { taken = other_taken (knows_request before number) (knows_message before number) parts.0; left = not-true (is_completed before number) parts.1 };
      message = parts.0;
    }
  where
    other_taken : (a b : Bool) → b ≡ true → (not a && not b) ≡ false
    other_taken true b holds = refl
    other_taken false b holds = rw holds refl

first_known : (before : List Line) (word : CallWord) (fields : List Field) (rest : List Form) → forms_of (Call word) (length fields) ≡ Request ∷ rest → IsRight before (record { word = Call word; fields = fields }) → FirstIs (IsKnown before) fields
first_known before word (Natural number ∷ fields) rest forms is =
    known_request before word (Natural number ∷ fields) number is
    (first_among is_request Request rest (forms_of (Call word) (length (Natural number ∷ fields))) number fields refl forms)
first_known before word _ rest forms is = tt

first_known_message : (before : List Line) (word : CallWord) (fields : List Field) (rest : List Form) → forms_of (Call word) (length fields) ≡ Message ∷ rest → IsRight before (record { word = Call word; fields = fields }) → FirstIs (IsKnownMessage before) fields
first_known_message before word (Natural number ∷ fields) rest forms is =
    known_message before word (Natural number ∷ fields) number is
    (first_among is_message Message rest (forms_of (Call word) (length (Natural number ∷ fields))) number fields refl forms)
first_known_message before word _ rest forms is = tt

later_among : (test : Form → Bool) (one two : Form) (rest forms : List Form) (first number : ℕ) (fields : List Field) → test one ≡ false → test two ≡ true → forms ≡ one ∷ two ∷ rest → is_among number (filter_map (number_if test) (zip forms (Natural first ∷ Natural number ∷ fields))) ≡ true
later_among test one two rest forms first number fields is is_two are =
    subst (λ (all : List Form). is_among number (filter_map (number_if test) (zip all (Natural first ∷ Natural number ∷ fields))) ≡ true) (sym are)
    (rw (is, is_two, eq-eqb number number refl) refl)

second_known_message : (before : List Line) (word : CallWord) (fields : List Field) (one : Form) (rest : List Form) → is_message one ≡ false → forms_of (Call word) (length fields) ≡ one ∷ Message ∷ rest → IsRight before (record { word = Call word; fields = fields }) → SecondIs (IsKnownMessage before) fields
second_known_message before word (Natural first ∷ Natural number ∷ fields) one rest none forms is =
    known_message before word (Natural first ∷ Natural number ∷ fields) number is
    (later_among is_message one Message rest (forms_of (Call word) (length (Natural first ∷ Natural number ∷ fields))) first number fields none refl forms)
second_known_message before word _ one rest none forms is = tt

pub all_of : (Q : ℕ → Type 0) (numbers : List ℕ) → ((number : ℕ) → is_among number numbers ≡ true → Q number) → AllOf Q numbers
all_of Q [] all = tt
all_of Q (one ∷ numbers) all =
    (all one (rw (eq-eqb one one refl) refl), all_of Q numbers (λ number among. all number (later (one == number) (is_among number numbers) among)))
  where
    later : (a b : Bool) → b ≡ true → (a || b) ≡ true
    later true b h = refl
    later false b h = h

several_known : (before : List Line) (word : CallWord) (fields : List Field) → forms_of (Call word) (length fields) ≡ replicate (max 1 (length fields - 0)) Request → IsRight before (record { word = Call word; fields = fields }) → AllOf (IsKnown before) (naturals_in fields)
several_known before word fields forms is =
    all_of (IsKnown before) (naturals_in fields) (λ number among. known_request before word fields number is (subst (λ (all : List ℕ). is_among number all ≡ true) (sym same) among))
  where
    at_most : (n : ℕ) → n ≤ max 1 (n - 0)
    at_most n = omega arith

    same : numbers_by is_request (record { word = Call word; fields = fields }) ≡ naturals_in fields
    same = ap (λ (all : List Form). filter_map (number_if is_request) (zip all fields)) forms
        ∙ same_numbers is_request Request (max 1 (length fields - 0)) fields refl (at_most (length fields))

-- ---- By the fields ----

sends_none : (P Q M : ℕ → Type 0) (mode : Mode) (fields : List Field) → Numbers P Q M (sends mode fields)
sends_none P Q M mode (Natural comm ∷ dest ∷ tag ∷ bytes) = tt
sends_none P Q M mode _ = tt

starts_one : (P Q M : ℕ → Type 0) (mode : Mode) (fields : List Field) → FirstIs P fields → Numbers P Q M (starts_send mode fields)
starts_one P Q M mode (Natural request ∷ Natural comm ∷ dest ∷ tag ∷ bytes) first = first
starts_one P Q M mode _ first = tt

awaits_none : (P Q M : ℕ → Type 0) (made : Awaited → Called) (fields : List Field) → ((it : Awaited) → Numbers P Q M (made it)) → Numbers P Q M (awaits made fields)
awaits_none P Q M made (Natural comm ∷ source ∷ tag ∷ []) is = is (awaited comm source tag)
awaits_none P Q M made _ is = tt

awaits_one : (P Q M : ℕ → Type 0) (made : ℕ → Awaited → Called) (fields : List Field) → FirstIs P fields → ((number : ℕ) (it : Awaited) → P number → Numbers P Q M (made number it)) → Numbers P Q M (starts_awaiting made fields)
awaits_one P Q M made (Natural number ∷ Natural comm ∷ source ∷ tag ∷ []) first is = is number (awaited comm source tag) first
awaits_one P Q M made _ first is = tt

exchanges_none : (P Q M : ℕ → Type 0) (fields : List Field) → Numbers P Q M (exchanges fields)
exchanges_none P Q M (Natural comm ∷ dest ∷ tag ∷ source ∷ other ∷ bytes) = tt
exchanges_none P Q M _ = tt

exchanges_both : (P Q M : ℕ → Type 0) (fields : List Field) → BothAre P fields → Numbers P Q M (starts_exchange fields)
exchanges_both P Q M (Natural request ∷ Natural received ∷ Natural comm ∷ dest ∷ tag ∷ source ∷ other ∷ bytes) both = both
exchanges_both P Q M _ both = tt

number_one : (P Q M : ℕ → Type 0) (made : ℕ → Called) (fields : List Field) → FirstIs Q fields → ((number : ℕ) → Q number → Numbers P Q M (made number)) → Numbers P Q M (one_number made fields)
number_one P Q M made (Natural number ∷ []) first is = is number first
number_one P Q M made _ first is = tt

message_one : (P Q M : ℕ → Type 0) (fields : List Field) → FirstIs M fields → Numbers P Q M (one_number ReceivesMatched fields)
message_one P Q M (Natural number ∷ []) first = first
message_one P Q M _ first = tt

matched_both : (P Q M : ℕ → Type 0) (fields : List Field) → FirstIs P fields → SecondIs M fields → Numbers P Q M (two_numbers StartsMatched fields)
matched_both P Q M (Natural one ∷ Natural two ∷ []) first second = (first, second)
matched_both P Q M _ first second = tt

number_none : (P Q M : ℕ → Type 0) (made : ℕ → Called) (fields : List Field) → ((number : ℕ) → Numbers P Q M (made number)) → Numbers P Q M (one_number made fields)
number_none P Q M made (Natural number ∷ []) is = is number
number_none P Q M made _ is = tt

numbers_one : (P Q M : ℕ → Type 0) (made : ℕ → ℕ → Called) (fields : List Field) → FirstIs P fields → ((one two : ℕ) → P one → Numbers P Q M (made one two)) → Numbers P Q M (two_numbers made fields)
numbers_one P Q M made (Natural one ∷ Natural two ∷ []) first is = is one two first
numbers_one P Q M made _ first is = tt

rooted_none : (P Q M : ℕ → Type 0) (collective : Collective) (fields : List Field) → Numbers P Q M (rooted collective fields)
rooted_none P Q M collective (Natural comm ∷ Signed root ∷ []) = tt
rooted_none P Q M collective _ = tt

rooted_one : (P Q M : ℕ → Type 0) (collective : Collective) (fields : List Field) → FirstIs P fields → Numbers P Q M (starts_rooted collective fields)
rooted_one P Q M collective (Natural request ∷ Natural comm ∷ Signed root ∷ []) first = first
rooted_one P Q M collective _ first = tt

unrooted_none : (P Q M : ℕ → Type 0) (collective : Collective) (fields : List Field) → Numbers P Q M (unrooted collective fields)
unrooted_none P Q M collective fields = number_none P Q M (λ comm. Collects collective comm None) fields (λ number. tt)

unrooted_one : (P Q M : ℕ → Type 0) (collective : Collective) (fields : List Field) → FirstIs P fields → Numbers P Q M (starts_unrooted collective fields)
unrooted_one P Q M collective fields first = numbers_one P Q M (λ request comm. StartsCollective request collective comm None) fields first (λ one two new. new)

splits_none : (P Q M : ℕ → Type 0) (fields : List Field) → Numbers P Q M (splits fields)
splits_none P Q M (Natural comm ∷ Signed colour ∷ Signed key ∷ []) = tt
splits_none P Q M (Natural comm ∷ Undefined ∷ Signed key ∷ []) = tt
splits_none P Q M _ = tt

-- ---- By the word ----

abbrev pub New : List Line → CallWord → List Field → ℕ → Type 0
New before word fields number = IsNew (IsFree before) (IsFree (before ++ record { word = Call word; fields = fields } ∷ [])) number

pub called_numbers : (before : List Line) (word : CallWord) (fields : List Field) → IsRight before (record { word = Call word; fields = fields }) → Numbers (New before word fields) (IsKnown before) (IsKnownMessage before) (called word fields)
called_numbers before call.Send fields is = sends_none _ _ _ Standard fields
called_numbers before call.Rsend fields is = sends_none _ _ _ Standard fields
called_numbers before call.Ssend fields is = sends_none _ _ _ Synchronous fields
called_numbers before call.Bsend fields is = sends_none _ _ _ Buffered fields
called_numbers before call.Isend fields is = starts_one _ _ _ Standard fields (first_request before call.Isend fields _ refl is)
called_numbers before call.Irsend fields is = starts_one _ _ _ Standard fields (first_request before call.Irsend fields _ refl is)
called_numbers before call.Issend fields is = starts_one _ _ _ Synchronous fields (first_request before call.Issend fields _ refl is)
called_numbers before call.Ibsend fields is = starts_one _ _ _ Buffered fields (first_request before call.Ibsend fields _ refl is)
called_numbers before call.Recv fields is = awaits_none _ _ _ Receives fields (λ it. tt)
called_numbers before call.Irecv fields is = awaits_one _ _ _ StartsReceive fields (first_request before call.Irecv fields _ refl is) (λ number it new. new)
called_numbers before call.Sendrecv fields is = exchanges_none _ _ _ fields
called_numbers before call.Isendrecv fields is = exchanges_both _ _ _ fields (two_requests before call.Isendrecv fields _ refl is)
called_numbers before call.Probe fields is = awaits_none _ _ _ Probes fields (λ it. tt)
called_numbers before call.Iprobe fields is = awaits_none _ _ _ Probes fields (λ it. tt)
called_numbers before call.Mprobe fields is = awaits_one _ _ _ ProbesMatching fields (first_message before call.Mprobe fields _ refl is) (λ number it new. new)
called_numbers before call.Improbe fields is = awaits_one _ _ _ ProbesMatching fields (first_message before call.Improbe fields _ refl is) (λ number it new. new)
called_numbers before call.Mrecv fields is = message_one _ _ _ fields (first_known_message before call.Mrecv fields [] refl is)
called_numbers before call.Imrecv fields is = matched_both _ _ _ fields (first_request before call.Imrecv fields _ refl is) (second_known_message before call.Imrecv fields NewRequest [] refl refl is)
called_numbers before call.Cancel fields is = number_one _ _ _ Cancels fields (first_known before call.Cancel fields [] refl is) (λ number known. known)
called_numbers before call.RequestFree fields is = number_one _ _ _ FreesRequest fields (first_known before call.RequestFree fields [] refl is) (λ number known. known)
called_numbers before call.Barrier fields is = unrooted_none _ _ _ coll.Barrier fields
called_numbers before call.Bcast fields is = rooted_none _ _ _ coll.Bcast fields
called_numbers before call.Gather fields is = rooted_none _ _ _ coll.Gather fields
called_numbers before call.Scatter fields is = rooted_none _ _ _ coll.Scatter fields
called_numbers before call.Reduce fields is = rooted_none _ _ _ coll.Reduce fields
called_numbers before call.Allgather fields is = unrooted_none _ _ _ coll.Allgather fields
called_numbers before call.Alltoall fields is = unrooted_none _ _ _ coll.Alltoall fields
called_numbers before call.Allreduce fields is = unrooted_none _ _ _ coll.Allreduce fields
called_numbers before call.Scan fields is = unrooted_none _ _ _ coll.Scan fields
called_numbers before call.Exscan fields is = unrooted_none _ _ _ coll.Exscan fields
called_numbers before call.Ibarrier fields is = unrooted_one _ _ _ coll.Barrier fields (first_request before call.Ibarrier fields _ refl is)
called_numbers before call.Ibcast fields is = rooted_one _ _ _ coll.Bcast fields (first_request before call.Ibcast fields _ refl is)
called_numbers before call.Igather fields is = rooted_one _ _ _ coll.Gather fields (first_request before call.Igather fields _ refl is)
called_numbers before call.Iscatter fields is = rooted_one _ _ _ coll.Scatter fields (first_request before call.Iscatter fields _ refl is)
called_numbers before call.Ireduce fields is = rooted_one _ _ _ coll.Reduce fields (first_request before call.Ireduce fields _ refl is)
called_numbers before call.Iallgather fields is = unrooted_one _ _ _ coll.Allgather fields (first_request before call.Iallgather fields _ refl is)
called_numbers before call.Ialltoall fields is = unrooted_one _ _ _ coll.Alltoall fields (first_request before call.Ialltoall fields _ refl is)
called_numbers before call.Iallreduce fields is = unrooted_one _ _ _ coll.Allreduce fields (first_request before call.Iallreduce fields _ refl is)
called_numbers before call.Iscan fields is = unrooted_one _ _ _ coll.Scan fields (first_request before call.Iscan fields _ refl is)
called_numbers before call.Iexscan fields is = unrooted_one _ _ _ coll.Exscan fields (first_request before call.Iexscan fields _ refl is)
called_numbers before call.CommDup fields is = number_none _ _ _ Duplicates fields (λ number. tt)
called_numbers before call.CommIdup fields is = numbers_one _ _ _ StartsDuplicate fields (first_request before call.CommIdup fields _ refl is) (λ one two new. new)
called_numbers before call.CommSplit fields is = splits_none _ _ _ fields
called_numbers before call.CommMake fields is = number_none _ _ _ Makes fields (λ number. tt)
called_numbers before call.CommFree fields is = number_none _ _ _ FreesComm fields (λ number. tt)
called_numbers before call.Wait fields is = several_known before call.Wait fields refl is
called_numbers before call.Test fields is = several_known before call.Test fields refl is
called_numbers before call.Waitany fields is = several_known before call.Waitany fields refl is
called_numbers before call.Waitsome fields is = several_known before call.Waitsome fields refl is
called_numbers before _ fields is = tt

pub called_new : (before : List Line) (word : CallWord) (fields : List Field) → IsRight before (record { word = Call word; fields = fields }) → StartsNew (New before word fields) (called word fields)
called_new before word fields is = starts_of (New before word fields) (IsKnown before) (IsKnownMessage before) (called word fields) (called_numbers before word fields is)
