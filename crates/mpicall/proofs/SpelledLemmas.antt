-- A line without a fault is the spelling of the call that is read of it.
use Rattle.std.proofs.Common.{◌≡◌, ℕ, ◌+◌, ◌-◌, ◌<◌, Bool, true, false, List, [], ◌∷◌, ◌++◌, length, sym, ap, ◌∙◌, refl, arith, Option, Some, None, option_map, ◌&&◌, ◌==◌, map, is_some, nat_le, nat_lt, get_or, cond, append_assoc, suc, length-append, codes, ◌^◌, drop, drop-cons}
use Rattle.std.specs.Prelude.{if◌then◌else◌}
use Rattle.std.specs.List.{slice_get}
use Rattle.std.proofs.lemmas.Option.{slice_get_past, slice_get-get_or}
use Rattle.std.specs.Fmt.{decimal}
use Rattle.std.specs.List.{list_all, list_any}
use Rattle.std.proofs.lemmas.Bool.Decides.{nat_tests}
use Rattle.std.proofs.lemmas.List.{length-map, drop_all, take-append-drop}
use Rattle.std.proofs.lemmas.Bool.{and_parts, and_from}
use Rattle.mpicall.specs.Argument.{Argument, Number, PeerOf, Colour, Key, New, Form, NumberUpTo, PeerForm, ColourForm, KeyForm, NewForm, spell, is_in_range, read_argument, read_peer, read_number_or, is_in_form, comm_form, tag_form, bytes_form, request_form, request_argument, bytes_arguments}
use Rattle.mpicall.specs.inner.Argument.{form_of}
use Rattle.mpicall.specs.declared.limits.TheConstants.{GREATEST_COMM, GREATEST_COLOUR}
use Rattle.mpicall.specs.declared.call.Call.{Call}
use Rattle.mpicall.specs.Limits.{in_ranges, names_enough, few_enough}
use Rattle.mpicall.proofs.BodyLemmas.{fixed_all}
use Rattle.mpicall.specs.Line.{Shape, Fixed, Requests, Chosen, root_forms, bytes_forms, operation_forms, shape_of, each_in_form, all_requests, takes_count, all_in_form, source_place, wildcard_at, fault_by_word, fault_of_fields, fault_of_line}
use Rattle.mpicall.specs.inner.Line.{fits}
use Rattle.mpicall.specs.Lines.{is_blank, most_bytes, has_line_feed, body_of, split_fields}
use Rattle.mpicall.specs.Word.{word_of, text_of}
use Rattle.mpicall.proofs.WordLemmas.{word_has}
use Rattle.mpicall.proofs.LineLemmas.{body_spells}
use Rattle.mpicall.specs.declared.fault.LineFault.{LineFault}
use Rattle.mpicall.specs.declared.fault.LineFault.TheVariants.{EmptyField, FieldCount, FieldForm, Wildcard, TooLong, NoLineFeed}
use Rattle.mpicall.specs.Number.{number_up_to, signed_of, value_of}
use Rattle.mpicall.specs.Parsing.{at, numeral_in, number_at, peer_in, colour_in, key_in, new_in, kind_named, call_of, arguments_in, request_in, take_arguments, taken, put_before, take_behind, with_behind, call_by_word, call_of_fields}
use Rattle.mpicall.specs.inner.Parsing.{Spells}
use Rattle.mpicall.specs.Spelling.{word_of_call, arguments_of, name_of, root_of, root_arguments, fields_of, line_feed}
use Rattle.mpicall.proofs.ArgumentLemmas.{map_some, le_to, le_from}
use Rattle.mpicall.proofs.DecimalLemmas.{number-decimal, value_decimal}
use Rattle.mpicall.specs.declared.word.Collective.{Collective}
use Rattle.mpicall.specs.declared.word.Collective.TheVariants.{Barrier}
use Rattle.mpicall.specs.declared.call.Mode.TheVariants.{Standard, Synchronous, Buffered}
use Rattle.mpicall.specs.declared.word.Operation.{Operation}
use Rattle.mpicall.specs.declared.word.Operation.TheVariants.{Send, Recv, Coll}
use Rattle.mpicall.specs.declared.word.Word.{Word}
use Rattle.mpicall.specs.declared.word.Word.TheVariants.{Blocking, Started, Named}
use Rattle.mpicall.specs.declared.word.Name.TheVariants as name

-- Arguments, each put into its form again.

abbrev as_form : Form → Argument → Argument
as_form (NumberUpTo greatest) a = Number greatest (numeral_in a)
as_form PeerForm a = PeerOf (peer_in a)
as_form ColourForm a = Colour (colour_in a)
as_form KeyForm a = Key (key_in a)
as_form NewForm a = New (new_in a)

abbrev rebuild : List Form → ℕ → List Argument → List Argument
rebuild [] k args = []
rebuild (form ∷ forms) k args = as_form form (at args k) ∷ rebuild forms (k + 1) args

same_form : (a : Argument) → as_form (form_of a) a ≡ a
same_form (Number greatest n) = refl
same_form (PeerOf peer) = refl
same_form (Colour colour) = refl
same_form (Key key) = refl
same_form (New new) = refl

at_front : (front : List Argument) (a : Argument) (rest : List Argument) → at (front ++ a ∷ rest) (length front) ≡ a
at_front [] a rest = refl
at_front (b ∷ front) a rest = at_front front a rest

rebuilt_from : (front rest all : List Argument) (k : ℕ) → all ≡ front ++ rest → k ≡ length front → rebuild (map form_of rest) k all ≡ rest
rebuilt_from front [] all k e n = refl
rebuilt_from front (a ∷ rest) all k e n =
    let here : at all k ≡ a = ap (λ xs. at xs k) e ∙ ap (λ m. at (front ++ a ∷ rest) m) n ∙ at_front front a rest in
    let there = rebuilt_from (front ++ a ∷ []) rest all (k + 1) (e ∙ sym (append_assoc front (a ∷ []) rest)) (omega (arith, length-append front (a ∷ []))) in
    rw (here, same_form a, there) refl

rebuilt : (args : List Argument) → rebuild (map form_of args) 0 args ≡ args
rebuilt args = rebuilt_from [] args args 0 refl refl

-- The call of a word has that word, and the arguments that it was made of.

root_rebuilt : (c : Collective) (k : ℕ) (args : List Argument) → root_arguments (root_of (kind_named c (at args k))) ≡ rebuild (root_forms c) k args
root_rebuilt Barrier k args = refl
root_rebuilt _ k args = refl

name_kept : (c : Collective) (root : Argument) → name_of (kind_named c root) ≡ c
name_kept Barrier root = refl
name_kept _ root = refl

-- the bytes of a message, where there is one argument more
bytes_rebuilt : (more : Bool) (place : ℕ) (args : List Argument) → length args ≡ place + length (if more then bytes_form ∷ [] else []) → bytes_arguments (number_at args place) ≡ rebuild (if more then bytes_form ∷ [] else []) place args
bytes_rebuilt true place args count =
    let there : slice_get args place ≡ Some (at args place) = slice_get-get_or args place (Number 0 0) (omega (arith, count)) in
    rw there refl
bytes_rebuilt false place args count =
    let none : slice_get args place ≡ None = slice_get_past args place (omega (arith, count)) in
    rw none refl

no_bytes : (place : ℕ) (args : List Argument) → length args ≡ place → number_at args place ≡ None
no_bytes place args count = let none : slice_get args place ≡ None = slice_get_past args place (omega (arith, count)) in rw none refl

blocking_rebuilt : (o : Operation) (args : List Argument) → length args ≡ length (operation_forms o (length args)) → arguments_of (call_of (Blocking o) args) ≡ rebuild (operation_forms o (length args)) 0 args
blocking_rebuilt (Send Standard) args count =
    ap (λ others. Number GREATEST_COMM (numeral_in (at args 0)) ∷ PeerOf (peer_in (at args 1)) ∷ Number 2147483647 (numeral_in (at args 2)) ∷ others) (bytes_rebuilt (length args == 3 + 1) 3 args (omega (arith, count)))
blocking_rebuilt (Send Synchronous) args count = rw (no_bytes 3 args count) refl
blocking_rebuilt (Send Buffered) args count = rw (no_bytes 3 args count) refl
blocking_rebuilt Recv args count = refl
blocking_rebuilt (Coll c) args count = ap (λ others. Number GREATEST_COMM (numeral_in (at args 0)) ∷ others) (root_rebuilt c 1 args)

started_rebuilt : (o : Operation) (args : List Argument) → length args ≡ length (request_form ∷ operation_forms o (length args - 1)) → arguments_of (call_of (Started o) args) ≡ rebuild (request_form ∷ operation_forms o (length args - 1)) 0 args
started_rebuilt (Send Standard) args count =
    ap (λ others. Number 2147483647 (numeral_in (at args 0)) ∷ Number GREATEST_COMM (numeral_in (at args 1)) ∷ PeerOf (peer_in (at args 2)) ∷ Number 2147483647 (numeral_in (at args 3)) ∷ others) (bytes_rebuilt (length args - 1 == 3 + 1) 4 args (omega (arith, count)))
started_rebuilt (Send Synchronous) args count = rw (no_bytes 4 args count) refl
started_rebuilt (Send Buffered) args count = rw (no_bytes 4 args count) refl
started_rebuilt Recv args count = refl
started_rebuilt (Coll c) args count = ap (λ others. Number 2147483647 (numeral_in (at args 0)) ∷ Number GREATEST_COMM (numeral_in (at args 1)) ∷ others) (root_rebuilt c 2 args)

sendrecv_rebuilt : (args : List Argument) → length args ≡ length (comm_form ∷ PeerForm ∷ tag_form ∷ PeerForm ∷ tag_form ∷ bytes_forms 5 (length args)) → arguments_of (call_of (Named name.Sendrecv) args) ≡ rebuild (comm_form ∷ PeerForm ∷ tag_form ∷ PeerForm ∷ tag_form ∷ bytes_forms 5 (length args)) 0 args
sendrecv_rebuilt args count =
    ap (λ others. Number GREATEST_COMM (numeral_in (at args 0)) ∷ PeerOf (peer_in (at args 1)) ∷ Number 2147483647 (numeral_in (at args 2)) ∷ PeerOf (peer_in (at args 3)) ∷ Number 2147483647 (numeral_in (at args 4)) ∷ others) (bytes_rebuilt (length args == 5 + 1) 5 args (omega (arith, count)))

same_arguments : (forms wanted : List Form) (args made : List Argument) → made ≡ rebuild forms 0 args → Fixed forms ≡ Fixed wanted → map form_of args ≡ wanted → made ≡ args
same_arguments forms wanted args made e same is =
    let f : forms ≡ map form_of args = cc in
    e ∙ ap (λ fs. rebuild fs 0 args) f ∙ rebuilt args

count_of : (forms wanted : List Form) (args : List Argument) → Fixed forms ≡ Fixed wanted → map form_of args ≡ wanted → length args ≡ length forms
count_of forms wanted args same is =
    let f : forms ≡ map form_of args = cc in
    sym (length-map args form_of) ∙ ap length (sym f)

fixed_back : (w : Word) (forms : List Form) (args : List Argument) → shape_of w (length args) ≡ Fixed forms → map form_of args ≡ forms → (arguments_of (call_of w args) ≡ args) × (word_of_call (call_of w args) ≡ w) × (names_enough (call_of w args) ≡ true)
fixed_back (Blocking (Send Standard)) forms args is e = (same_arguments _ forms args _ (blocking_rebuilt (Send Standard) args (count_of _ forms args is e)) is e, refl, refl)
fixed_back (Blocking (Send Synchronous)) forms args is e = (same_arguments _ forms args _ (blocking_rebuilt (Send Synchronous) args (count_of _ forms args is e)) is e, refl, rw (no_bytes 3 args (count_of _ forms args is e)) refl)
fixed_back (Blocking (Send Buffered)) forms args is e = (same_arguments _ forms args _ (blocking_rebuilt (Send Buffered) args (count_of _ forms args is e)) is e, refl, rw (no_bytes 3 args (count_of _ forms args is e)) refl)
fixed_back (Blocking Recv) forms args is e = (same_arguments _ forms args _ (blocking_rebuilt Recv args (count_of _ forms args is e)) is e, refl, refl)
fixed_back (Blocking (Coll c)) forms args is e = (same_arguments _ forms args _ (blocking_rebuilt (Coll c) args (count_of _ forms args is e)) is e, ap (λ n. Blocking (Coll n)) (name_kept c (at args 1)), refl)
fixed_back (Started (Send Standard)) forms args is e = (same_arguments _ forms args _ (started_rebuilt (Send Standard) args (count_of _ forms args is e)) is e, refl, refl)
fixed_back (Started (Send Synchronous)) forms args is e = (same_arguments _ forms args _ (started_rebuilt (Send Synchronous) args (count_of _ forms args is e)) is e, refl, rw (no_bytes 4 args (count_of _ forms args is e)) refl)
fixed_back (Started (Send Buffered)) forms args is e = (same_arguments _ forms args _ (started_rebuilt (Send Buffered) args (count_of _ forms args is e)) is e, refl, rw (no_bytes 4 args (count_of _ forms args is e)) refl)
fixed_back (Started Recv) forms args is e = (same_arguments _ forms args _ (started_rebuilt Recv args (count_of _ forms args is e)) is e, refl, refl)
fixed_back (Started (Coll c)) forms args is e = (same_arguments _ forms args _ (started_rebuilt (Coll c) args (count_of _ forms args is e)) is e, ap (λ n. Started (Coll n)) (name_kept c (at args 2)), refl)
fixed_back (Named name.Sendrecv) forms args is e = (same_arguments _ forms args _ (sendrecv_rebuilt args (count_of _ forms args is e)) is e, refl, refl)
fixed_back (Named name.Waitall) forms args is e = cc
fixed_back (Named name.Waitany) forms args is e = cc
fixed_back _ forms args is e = (same_arguments _ forms args _ refl is e, refl, refl)

-- Fields in their forms are read.

form_read : (form : Form) (field : List ℕ) (a : Argument) → read_argument form field ≡ Some a → form_of a ≡ form
form_read (NumberUpTo greatest) field a e = ap form_of (map_some (Number greatest) (number_up_to greatest field) a e).2
form_read PeerForm field a e = ap form_of (map_some PeerOf (read_peer field) a e).2
form_read ColourForm field a e = ap form_of (map_some Colour (read_number_or (codes "undefined") GREATEST_COLOUR field) a e).2
form_read KeyForm field a e = ap form_of (map_some Key (signed_of field) a e).2
form_read NewForm field a e = ap form_of (map_some New (read_number_or (codes "none") GREATEST_COMM field) a e).2

some_of : {A : Type 0} (o : Option A) → is_some o ≡ true → (x : A) × (o ≡ Some x)
some_of (Some x) e = (x, refl)
some_of None e = cc

record RowRead (forms : List Form) (fields : List (List ℕ)) : Type 0 where
  args : List Argument
  read : take_arguments forms fields ≡ Some (args, [])
  forms_are : map form_of args ≡ forms

row_read : (forms : List Form) (fields : List (List ℕ)) → length forms ≡ length fields → each_in_form forms fields ≡ true → RowRead forms fields
row_read [] [] n e = record { args = []; read = refl; forms_are = refl }
row_read [] (field ∷ fields) n e = absurd (omega arith)
row_read (form ∷ forms) [] n e = absurd (omega arith)
row_read (form ∷ forms) (field ∷ fields) n e =
    let parts = and_parts (is_in_form form field) (each_in_form forms fields) e in
    let first = some_of (read_argument form field) parts.0 in
    let others = row_read forms fields (omega arith) parts.1 in
    record {
      args = first.0 ∷ others.args;
      read = ap (λ o. take_behind (with_behind fields o) (λ behind. take_arguments forms behind)) first.1 ∙ ap (put_before first.0) others.read;
      forms_are = rw (form_read form field first.0 first.1, others.forms_are) refl;
    }

-- Lists of requests.

abbrev read_requests : List (List ℕ) → List ℕ
read_requests fields = map numeral_in (map request_in fields)

number_some : (o : Option ℕ) → is_some (option_map (Number 2147483647) o) ≡ true → is_some o ≡ true
number_some (Some n) e = refl
number_some None e = cc

request_field : (field : List ℕ) → is_in_form request_form field ≡ true → (field ≡ decimal (value_of field)) × (nat_le (value_of field) 2147483647 ≡ true)
request_field field e =
    let some = some_of (number_up_to 2147483647 field) (number_some (number_up_to 2147483647 field) e) in
    let read = number-decimal 2147483647 some.0 field (omega arith) some.1 in
    let value : value_of field ≡ some.0 = ap value_of read.0 ∙ value_decimal some.0 (omega (arith, read.1)) in
    (rw value read.0, rw value (le_to some.0 2147483647 read.1))

as_many : (fields : List (List ℕ)) → length (read_requests fields) ≡ length fields
as_many fields = length-map (map request_in fields) numeral_in ∙ length-map fields request_in

cons_same : (a b : List ℕ) (as' bs : List (List ℕ)) → a ≡ b → as' ≡ bs → a ∷ as' ≡ b ∷ bs
cons_same a b as' bs p q = cc

requests_spelled : (fields : List (List ℕ)) → all_requests fields ≡ true → (fields ≡ map spell (map request_argument (read_requests fields))) × (list_all is_in_range (map request_argument (read_requests fields)) ≡ true)
requests_spelled [] e = (refl, refl)
requests_spelled (field ∷ fields) e =
    let parts = and_parts (is_in_form request_form field) (all_requests fields) e in
    let first = request_field field parts.0 in
    let others = requests_spelled fields parts.1 in
    (cons_same _ _ _ _ first.0 others.0, and_from _ _ first.1 others.1)

-- Fields that fit a word.

SpellsBehind : Word → List (List ℕ) → Call → Type 0
SpellsBehind w fields call = (fields ≡ map spell (arguments_of call)) × (word_of_call call ≡ w) × (in_ranges call ≡ true)

fixed_spells : (w : Word) (forms : List Form) (fields : List (List ℕ)) → shape_of w (length fields) ≡ Fixed forms → fits w fields ≡ true → SpellsBehind w fields (call_of w (arguments_in (shape_of w (length fields)) fields))
unfolding SpellsBehind
fixed_spells w forms fields is h =
    let fit = rw is at h in
    let parts = and_parts (length forms == length fields) (each_in_form forms fields) fit in
    let n : length forms ≡ length fields = grind (arith, nat_tests, parts.0) in
    let row = row_read forms fields n parts.1 in
    let args : arguments_in (shape_of w (length fields)) fields ≡ row.args = ap (λ s. arguments_in s fields) is ∙ ap taken row.read in
    let same : length fields ≡ length row.args = sym n ∙ ap length (sym row.forms_are) ∙ length-map row.args form_of in
    let back = fixed_back w forms row.args (ap (shape_of w) (sym same) ∙ is) row.forms_are in
    let read = row.read ∙ ap (λ (a : List Argument). Some (a, [])) (sym back.0) in
    rw args (fixed_all w forms fields (call_of w row.args) is read back.1 back.2)

waitall_spells : (fields : List (List ℕ)) → fits (Named name.Waitall) fields ≡ true → SpellsBehind (Named name.Waitall) fields (call_of (Named name.Waitall) (arguments_in Requests fields))
unfolding SpellsBehind
waitall_spells fields h =
    let parts = and_parts (nat_le 1 (length fields) && nat_le (length fields) 64) (all_requests fields) h in
    let spelled = requests_spelled fields parts.1 in
    let enough : few_enough (read_requests fields) ≡ true = rw (as_many fields) parts.0 in
    (spelled.0, refl, and_from _ _ spelled.1 enough)

index_some : (greatest : ℕ) (o : Option ℕ) → is_some (option_map (Number greatest) o) ≡ true → is_some o ≡ true
index_some greatest (Some n) e = refl
index_some greatest None e = cc

index_field : (greatest : ℕ) (field : List ℕ) → greatest < 2 ^ 64 → is_in_form (NumberUpTo greatest) field ≡ true → (field ≡ decimal (value_of field)) × (nat_le (value_of field) greatest ≡ true)
index_field greatest field small e =
    let some = some_of (number_up_to greatest field) (index_some greatest (number_up_to greatest field) e) in
    let read = number-decimal greatest some.0 field small some.1 in
    let value : value_of field ≡ some.0 = ap value_of read.0 ∙ value_decimal some.0 (omega (arith, read.1)) in
    (rw value read.0, rw value (le_to some.0 greatest read.1))

waitany_spells : (fields : List (List ℕ)) → fits (Named name.Waitany) fields ≡ true → SpellsBehind (Named name.Waitany) fields (call_of (Named name.Waitany) (arguments_in Chosen fields))
unfolding SpellsBehind
waitany_spells [] h = cc
waitany_spells (index ∷ fields) h =
    let parts = and_parts (takes_count Chosen (length (index ∷ fields))) (all_in_form Chosen (index ∷ fields)) h in
    let counts = and_parts (nat_le 2 (length (index ∷ fields))) (nat_le (length (index ∷ fields)) 65) parts.0 in
    let least = le_from 2 (length (index ∷ fields)) counts.0 in
    let most = le_from (length (index ∷ fields)) 65 counts.1 in
    let forms = and_parts (is_in_form (NumberUpTo (length fields - 1)) index) (all_requests fields) parts.1 in
    let first = index_field (length fields - 1) index (omega arith) forms.0 in
    let others = requests_spelled fields forms.1 in
    let same = as_many fields in
    let enough : few_enough (read_requests fields) ≡ true =
    rw same (and_from (nat_le 1 (length fields)) (nat_le (length fields) 64) (le_to 1 (length fields) (omega arith)) (le_to (length fields) 64 (omega arith))) in
    let in_list : nat_le (value_of index) (length (read_requests fields) - 1) ≡ true = rw same first.1 in
    (cons_same _ _ _ _ first.0 others.0, refl, and_from _ _ (and_from _ _ in_list others.1) enough)

by_shape : (w : Word) (s : Shape) (fields : List (List ℕ)) → shape_of w (length fields) ≡ s → fits w fields ≡ true → SpellsBehind w fields (call_of w (arguments_in (shape_of w (length fields)) fields))
by_shape w (Fixed forms) fields is h = fixed_spells w forms fields is h
by_shape (Named name.Waitall) Requests fields is h = waitall_spells fields h
by_shape (Named name.Waitany) Chosen fields is h = waitany_spells fields h
by_shape w Requests fields is h = cc
by_shape w Chosen fields is h = cc

-- Whole lines.

faultless_cases : (b : Bool) (o : Option LineFault) → cond b (Some EmptyField) o ≡ None → o ≡ None
faultless_cases true o e = cc
faultless_cases false o e = e

fit_cases : (t w a : Bool) → cond t (cond w (Some Wildcard) (cond a None (Some FieldForm))) (Some FieldCount) ≡ None → (t && a) ≡ true
fit_cases true true a e = cc
fit_cases true false true e = refl
fit_cases true false false e = cc
fit_cases false w a e = cc

word_spells : (text : List ℕ) (fields : List (List ℕ)) (o : Option Word) → word_of text ≡ o → fault_by_word o fields ≡ None → (text ∷ fields ≡ fields_of (call_by_word o fields)) × (in_ranges (call_by_word o fields) ≡ true)
unfolding SpellsBehind
word_spells text fields None is e = cc
word_spells text fields (Some w) is e =
    let fit = fit_cases (takes_count (shape_of w (length fields)) (length fields)) (wildcard_at (source_place w) fields) (all_in_form (shape_of w (length fields)) fields) e in
    let spelled = by_shape w (shape_of w (length fields)) fields refl fit in
    let word : text ≡ text_of (word_of_call (call_of w (arguments_in (shape_of w (length fields)) fields))) = word_has text w is ∙ ap text_of (sym spelled.1) in
    (cons_same _ _ _ _ word spelled.0, spelled.2)

fields_spell : (fields : List (List ℕ)) → fault_of_fields fields ≡ None → (fields ≡ fields_of (call_of_fields fields)) × (in_ranges (call_of_fields fields) ≡ true)
unfolding fault_of_fields call_of_fields
fields_spell [] e = cc
fields_spell (text ∷ fields) e =
    word_spells text fields (word_of text) refl (faultless_cases (list_any is_blank (text ∷ fields)) (fault_by_word (word_of text) fields) e)

whole_cases : (long ends : Bool) (o : Option LineFault) → cond long (Some TooLong) (cond ends o (Some NoLineFeed)) ≡ None → (long ≡ false) × (ends ≡ true) × (o ≡ None)
whole_cases true ends o e = cc
whole_cases false true o e = (refl, refl, e)
whole_cases false false o e = cc

with_line_feed : (line : List ℕ) → has_line_feed line ≡ true → body_of line ++ line_feed ∷ [] ≡ line
with_line_feed line h =
    let parts = and_parts (nat_lt 0 (length line)) (get_or line (length line - 1) 0 == line_feed) h in
    let some : 0 < length line = grind (arith, nat_tests, parts.0) in
    let last : get_or line (length line - 1) 0 ≡ line_feed = grind (arith, nat_tests, parts.1) in
    let end : drop (length line - 1) line ≡ line_feed ∷ [] =
    drop-cons line (length line - 1) 0 (omega arith) ∙ ap (λ byte. byte ∷ drop (suc (length line - 1)) line) last
    ∙ ap (λ rest. line_feed ∷ rest) (drop_all (suc (length line - 1)) line (omega arith)) in
    rw end at (take-append-drop (length line - 1) line)

-- a line without a fault is the spelling of the call that is read of it
pub faultless_spelled : (line : List ℕ) → fault_of_line line ≡ None → Spells line (call_of_fields (split_fields (body_of line)))
unfolding fault_of_line
faultless_spelled line e =
    let whole = whole_cases (nat_lt most_bytes (length line)) (has_line_feed line) (fault_of_fields (split_fields (body_of line))) e in
    let feed = with_line_feed line whole.1 in
    let count = ap length feed in
    let short : length (body_of line) < most_bytes = grind (arith, nat_tests, whole.0, count, length-append (body_of line) (line_feed ∷ [])) in
    let fields = fields_spell (split_fields (body_of line)) whole.2 in
    body_spells line (body_of line) (call_of_fields (split_fields (body_of line))) (record { line_is = sym feed; short = short }) fields.0 fields.1
