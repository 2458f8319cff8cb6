-- The fields of a call in its ranges fit its word, and are read as the call.
use Rattle.std.proofs.Common.{◌≡◌, ℕ, ◌-◌, ◌≤◌, Bool, true, false, List, [], ◌∷◌, length, ap, ◌∙◌, refl, arith, Some, None, ◌&&◌, ◌==◌, map, nat_le, get_or, suc}
use Rattle.std.specs.Fmt.{decimal}
use Rattle.std.specs.List.{list_all}
use Rattle.std.proofs.lemmas.Bool.Decides.{nat_tests}
use Rattle.std.proofs.lemmas.List.{length-map}
use Rattle.mpicall.specs.Argument.{Argument, Number, spell, is_in_range, request_form, request_argument, index_argument, comm_form, is_in_form}
use Rattle.mpicall.specs.inner.Argument.{form_of}
use Rattle.mpicall.specs.Limits.{in_ranges, names_enough, few_enough}
use Rattle.mpicall.specs.Line.{Fixed, shape_of, root_forms, all_requests}
use Rattle.mpicall.specs.inner.Line.{fits}
use Rattle.mpicall.specs.Parsing.{taken, arguments_in, call_of, kind_named, numeral_in, request_in}
use Rattle.mpicall.specs.Spelling.{word_of_call, arguments_of, name_of, root_of, root_arguments}
use Rattle.mpicall.proofs.ArgumentLemmas.{is_small, reads_back, argument_field, IsField, le_to, le_from}
use Rattle.mpicall.proofs.DecimalLemmas.{value_decimal}
use Rattle.mpicall.proofs.RowLemmas.{as_many, row_back, row_in_form}
use Rattle.std.proofs.lemmas.Bool.{false≢true, and_parts}
use Rattle.mpicall.specs.declared.call.Mode.TheVariants.{Standard, Synchronous, Buffered}
use Rattle.mpicall.specs.declared.call.Kind.{Kind}
use Rattle.mpicall.specs.declared.call.Kind.TheVariants.{Barrier}
use Rattle.mpicall.specs.declared.call.Call.{Call}
use Rattle.mpicall.specs.declared.call.Call.TheVariants.{Send, Isend, Sendrecv, Waitall, Waitany, Coll, Icoll}

-- What is known of a call in its ranges.
pub record KnownCall (x : Call) : Type 0 where
  pub fits_word : fits (word_of_call x) (map spell (arguments_of x)) ≡ true
  pub call_is : call_of (word_of_call x) (arguments_in (shape_of (word_of_call x) (length (map spell (arguments_of x)))) (map spell (arguments_of x))) ≡ x
  pub small : list_all is_small (arguments_of x) ≡ true
  pub few : length (arguments_of x) ≤ 65

-- Words whose fields have fixed forms.

record KindRow (kind : Kind) : Type 0 where
  forms : root_forms (name_of kind) ≡ map form_of (root_arguments (root_of kind))
  kind_is : kind_named (name_of kind) (get_or (root_arguments (root_of kind)) 0 (Number 0 0)) ≡ kind
  small : list_all is_small (root_arguments (root_of kind)) ≡ true
  few : nat_le (length (root_arguments (root_of kind))) 1 ≡ true

kind_row : (kind : Kind) → KindRow kind
kind_row Barrier = record { forms = refl; kind_is = refl; small = refl; few = refl }
kind_row _ = record { forms = refl; kind_is = refl; small = refl; few = refl }

in_range_of : (x : Call) → in_ranges x ≡ true → list_all is_in_range (arguments_of x) ≡ true
in_range_of x h = (and_parts (list_all is_in_range (arguments_of x)) (names_enough x) h).0

same_lengths : (args : List Argument) → (length (map form_of args) == length (map spell args)) ≡ true
same_lengths args =
    let forms = length-map args form_of in
    let fields = length-map args spell in
    grind (arith, nat_tests, forms, fields)

fixed : (x : Call) → shape_of (word_of_call x) (length (map spell (arguments_of x))) ≡ Fixed (map form_of (arguments_of x)) → call_of (word_of_call x) (arguments_of x) ≡ x → list_all is_small (arguments_of x) ≡ true → length (arguments_of x) ≤ 65 → in_ranges x ≡ true → KnownCall x
fixed x shape call small few h = record {
  fits_word = rw (shape, same_lengths (arguments_of x)) (row_in_form (arguments_of x) small (in_range_of x h));
  call_is = ap (λ s. call_of (word_of_call x) (arguments_in s (map spell (arguments_of x)))) shape
      ∙ ap (λ read. call_of (word_of_call x) (taken read)) (row_back (arguments_of x) small (in_range_of x h)) ∙ call;
  small = small;
  few = few;
}

-- Lists of requests.

requests_small : (reqs : List ℕ) → list_all is_small (map request_argument reqs) ≡ true
requests_small [] = refl
requests_small (req ∷ reqs) = requests_small reqs

requests_in_form : (reqs : List ℕ) → list_all is_in_range (map request_argument reqs) ≡ true → all_requests (map spell (map request_argument reqs)) ≡ true
requests_in_form [] h = refl
requests_in_form (req ∷ reqs) h =
    let parts = and_parts (is_in_range (request_argument req)) (list_all is_in_range (map request_argument reqs)) h in
    rw (reads_back (request_argument req) refl parts.0) (requests_in_form reqs parts.1)

requests_back : (reqs : List ℕ) → list_all is_in_range (map request_argument reqs) ≡ true → map numeral_in (map request_in (map spell (map request_argument reqs))) ≡ reqs
requests_back [] h = refl
requests_back (req ∷ reqs) h =
    let parts = and_parts (is_in_range (request_argument req)) (list_all is_in_range (map request_argument reqs)) h in
    let low = le_from req 2147483647 parts.0 in
    rw (value_decimal req (omega arith), requests_back reqs parts.1) refl

record Few (reqs : List ℕ) : Type 0 where
  least : 1 ≤ length reqs
  most : length reqs ≤ 64

few_of : (reqs : List ℕ) → few_enough reqs ≡ true → Few reqs
few_of reqs h =
    let parts = and_parts (nat_le 1 (length reqs)) (nat_le (length reqs) 64) h in
    record { least = le_from 1 (length reqs) parts.0; most = le_from (length reqs) 64 parts.1 }

three : (a b c : Bool) → a ≡ true → b ≡ true → c ≡ true → (a && b && c) ≡ true
three a b c p q r = rw (p, q, r) refl

waitall_known : (reqs : List ℕ) → few_enough reqs ≡ true → list_all is_in_range (map request_argument reqs) ≡ true → KnownCall (Waitall reqs)
waitall_known reqs enough h =
    let f = few_of reqs enough in
    let same = as_many reqs in
    record {
      fits_word = three (nat_le 1 (length (map spell (map request_argument reqs)))) (nat_le (length (map spell (map request_argument reqs))) 64) (all_requests (map spell (map request_argument reqs)))
          (le_to 1 _ (omega (arith, f.least))) (le_to _ 64 (omega (arith, f.most))) (requests_in_form reqs h);
      call_is = ap Waitall (requests_back reqs h);
      small = requests_small reqs;
      few = omega (arith, f.most, length-map reqs request_argument);
    }

index_small : (reqs : List ℕ) → Few reqs → nat_le (length reqs - 1) 4294967295 ≡ true
index_small reqs f = le_to (length reqs - 1) 4294967295 (omega (arith, f.most))

index_in_form : (count chosen many : ℕ) → count ≡ many → nat_le (many - 1) 4294967295 ≡ true → nat_le chosen (many - 1) ≡ true → is_in_form (form_of (index_argument count chosen)) (decimal chosen) ≡ true
index_in_form count chosen many same small h = rw (same, reads_back (index_argument many chosen) small h) refl

four : (a b c d : Bool) → a ≡ true → b ≡ true → c ≡ true → d ≡ true → (a && b && (c && d)) ≡ true
four a b c d p q r s = rw (p, q, r, s) refl

waitany_known : (chosen : ℕ) (reqs : List ℕ) → few_enough reqs ≡ true → list_all is_in_range (index_argument (length reqs) chosen ∷ map request_argument reqs) ≡ true → KnownCall (Waitany chosen reqs)
waitany_known chosen reqs enough h =
    let f = few_of reqs enough in
    let same = as_many reqs in
    let small = index_small reqs f in
    let parts = and_parts (nat_le chosen (length reqs - 1)) (list_all is_in_range (map request_argument reqs)) h in
    let low = le_from chosen (length reqs - 1) parts.0 in
    let value = value_decimal chosen (omega (arith, f.most)) in
    record {
      fits_word = four (nat_le 2 (suc (length (map spell (map request_argument reqs))))) (nat_le (suc (length (map spell (map request_argument reqs)))) 65)
          (is_in_form (form_of (index_argument (length (map spell (map request_argument reqs))) chosen)) (decimal chosen)) (all_requests (map spell (map request_argument reqs)))
          (le_to 2 _ (omega (arith, f.least))) (le_to _ 65 (omega (arith, f.most)))
          (index_in_form (length (map spell (map request_argument reqs))) chosen (length reqs) same small parts.0) (requests_in_form reqs parts.1);
      call_is = rw (value, requests_back reqs parts.1) refl;
      small = rw small (requests_small reqs);
      few = omega (arith, f.most, length-map reqs request_argument);
    }

-- Every call.

tells_none : (args : List Argument) → (list_all is_in_range args && false) ≡ true → ⊥
tells_none args h = false≢true ((and_parts (list_all is_in_range args) false h).1)

pub known_call : (x : Call) → in_ranges x ≡ true → KnownCall x
known_call (Send Standard comm dest tag None) h = fixed _ refl refl refl (omega arith) h
known_call (Send Synchronous comm dest tag (Some bytes)) h = absurd (tells_none (arguments_of (Send Synchronous comm dest tag (Some bytes))) h)
known_call (Send Buffered comm dest tag (Some bytes)) h = absurd (tells_none (arguments_of (Send Buffered comm dest tag (Some bytes))) h)
known_call (Isend req Standard comm dest tag None) h = fixed _ refl refl refl (omega arith) h
known_call (Isend req Synchronous comm dest tag (Some bytes)) h = absurd (tells_none (arguments_of (Isend req Synchronous comm dest tag (Some bytes))) h)
known_call (Isend req Buffered comm dest tag (Some bytes)) h = absurd (tells_none (arguments_of (Isend req Buffered comm dest tag (Some bytes))) h)
known_call (Sendrecv comm dest send_tag source recv_tag None) h = fixed _ refl refl refl (omega arith) h
known_call (Waitall reqs) h =
    let parts = and_parts (list_all is_in_range (map request_argument reqs)) (few_enough reqs) h in
    waitall_known reqs parts.1 parts.0
known_call (Waitany chosen reqs) h =
    let parts = and_parts (list_all is_in_range (index_argument (length reqs) chosen ∷ map request_argument reqs)) (few_enough reqs) h in
    waitany_known chosen reqs parts.1 parts.0
known_call (Coll comm kind) h =
    let row = kind_row kind in
    let few = le_from _ 1 row.few in
    fixed (Coll comm kind) (ap (λ f. Fixed (comm_form ∷ f)) row.forms) (ap (Coll comm) row.kind_is) row.small (omega arith) h
known_call (Icoll req comm kind) h =
    let row = kind_row kind in
    let few = le_from _ 1 row.few in
    fixed (Icoll req comm kind) (ap (λ f. Fixed (request_form ∷ comm_form ∷ f)) row.forms) (ap (Icoll req comm) row.kind_is) row.small (omega arith) h
known_call _ h = fixed _ refl refl refl (omega arith) h

-- each further field of a call
unfoldable pub AllFields : List (List ℕ) → Type 0
AllFields [] = Unit {0}
AllFields (field ∷ fields) = IsField field × AllFields fields

all_fields : (args : List Argument) → list_all is_small args ≡ true → list_all is_in_range args ≡ true → AllFields (map spell args)
unfolding AllFields
all_fields [] small h = tt
all_fields (a ∷ args) small h =
    let smalls = and_parts (is_small a) (list_all is_small args) small in
    let ranges = and_parts (is_in_range a) (list_all is_in_range args) h in
    (argument_field a smalls.0 ranges.0, all_fields args smalls.1 ranges.1)

pub call_fields : (x : Call) → in_ranges x ≡ true → AllFields (map spell (arguments_of x))
call_fields x h = all_fields (arguments_of x) (known_call x h).small (in_range_of x h)
