-- What the readers of the fields after a word say of these fields.
use Rattle.std.proofs.Common.{◌≡◌, ℕ, ◌+◌, ◌-◌, ◌<◌, ◌≤◌, Bool, true, false, List, [], ◌∷◌, ◌++◌, length, sym, ap, ◌∙◌, refl, arith, Option, Some, None, option_map, ◌&&◌, ◌==◌, map, is_some, nat_le, cond, length-append, append_assoc, suc}
use Rattle.std.specs.Prelude.{if◌then◌else◌, MatchOption}
use Rattle.std.specs.Fmt.{decimal}
use Rattle.std.specs.List.{list_all}
use Rattle.std.proofs.lemmas.Bool.Decides.{nat_tests}
use Rattle.std.proofs.lemmas.List.{map-append, append-nil}
use Rattle.std.proofs.lemmas.List.Folds.{list_all-append}
use Rattle.std.proofs.lemmas.Bool.{and_parts, and_from}
use Rattle.mpicall.specs.Argument.{Argument, Form, NumberUpTo, Number, spell, is_in_range, is_in_form, request_form, bytes_form, request_argument, index_form, read_argument}
use Rattle.mpicall.specs.Limits.{in_ranges, names_enough}
use Rattle.mpicall.specs.Line.{Shape, Fixed, Chosen, shape_of, root_forms, bytes_forms, operation_forms, takes_count, each_in_form, all_requests, all_in_form}
use Rattle.mpicall.specs.inner.Line.{fits, fits_line}
use Rattle.mpicall.specs.Number.{number_up_to, is_canonical, value_of}
use Rattle.mpicall.specs.Parsing.{with_behind, next_argument, take_arguments}
use Rattle.mpicall.specs.inner.Parsing.{all_taken, ReadsWhole, ReadsBehind, ReadsFields, requests_fit, SpellsRequests}
use Rattle.mpicall.specs.Spelling.{word_of_call, arguments_of, fields_of}
use Rattle.mpicall.specs.Word.{word_of, text_of}
use Rattle.mpicall.proofs.WordLemmas.{word_has}
use Rattle.mpicall.proofs.DecimalLemmas.{number-decimal}
use Rattle.mpicall.proofs.ArgumentLemmas.{small_form, le_to, le_from, argument_spelled}
use Rattle.mpicall.proofs.RowLemmas.{as_many, row_spelled, row_length, row_none}
use Rattle.mpicall.specs.declared.call.Call.{Call}
use Rattle.mpicall.specs.declared.call.Call.TheVariants.{Waitany}
use Rattle.mpicall.specs.declared.word.Collective.TheVariants.{Barrier}
use Rattle.mpicall.specs.declared.word.Collective.{Collective}
use Rattle.mpicall.specs.declared.call.Mode.TheVariants.{Standard}
use Rattle.mpicall.specs.declared.word.Operation.TheVariants.{Send as SendOperation, Coll as CollOperation}
use Rattle.mpicall.specs.declared.word.Operation.{Operation}
use Rattle.mpicall.specs.declared.word.Word.{Word}
use Rattle.mpicall.specs.declared.word.Word.TheVariants.{Blocking, Started, Named}
use Rattle.mpicall.specs.declared.word.Name.TheVariants as name

-- Words whose fields have fixed forms.

root_small : (c : Collective) → list_all small_form (root_forms c) ≡ true
root_small Barrier = refl
root_small _ = refl

bytes_small : (plain count : ℕ) → list_all small_form (bytes_forms plain count) ≡ true
bytes_small plain count = by_test (count == plain + 1)
  where
    by_test : (more : Bool) → list_all small_form (if more then bytes_form ∷ [] else []) ≡ true
    by_test true = refl
    by_test false = refl

operation_small : (o : Operation) (count : ℕ) → list_all small_form (operation_forms o count) ≡ true
operation_small (SendOperation Standard) count = bytes_small 3 count
operation_small (CollOperation c) count = root_small c
operation_small _ count = refl

abbrev shape_small : Shape → Bool
shape_small (Fixed forms) = list_all small_form forms
shape_small _ = true

word_small : (w : Word) (count : ℕ) → shape_small (shape_of w count) ≡ true
word_small (Blocking o) count = operation_small o count
word_small (Started o) count = operation_small o (count - 1)
word_small (Named name.Sendrecv) count = bytes_small 5 count
word_small _ count = refl

not_both : (a b : Bool) → (a ≡ true → b ≡ false) → (a && b) ≡ false
not_both true b h = h refl
not_both false b h = refl

pub fixed_all : (w : Word) (forms : List Form) (fields : List (List ℕ)) (call : Call) → shape_of w (length fields) ≡ Fixed forms → take_arguments forms fields ≡ Some (arguments_of call, []) → word_of_call call ≡ w → names_enough call ≡ true → (fields ≡ map spell (arguments_of call)) × (word_of_call call ≡ w) × (in_ranges call ≡ true)
fixed_all w forms fields call is taken word enough =
    let small : list_all small_form forms ≡ true = ap shape_small (sym is) ∙ word_small w (length fields) in
    let spelled = row_spelled forms fields (arguments_of call) [] small taken in
    (spelled.fields_are ∙ append-nil (map spell (arguments_of call)), word, and_from _ _ spelled.in_range enough)

fixed_more : (w : Word) (forms : List Form) (fields : List (List ℕ)) (args : List Argument) (field : List ℕ) (behind : List (List ℕ)) → shape_of w (length fields) ≡ Fixed forms → take_arguments forms fields ≡ Some (args, field ∷ behind) → fits w fields ≡ false
fixed_more w forms fields args field behind is taken =
    let count = row_length forms fields args (field ∷ behind) taken in
    let no : (length forms == length fields) ≡ false = grind (arith, nat_tests, count) in
    rw (is, no) refl

fixed_none : (w : Word) (forms : List Form) (fields : List (List ℕ)) → shape_of w (length fields) ≡ Fixed forms → take_arguments forms fields ≡ None → fits w fields ≡ false
fixed_none w forms fields is taken =
    rw is (not_both (length forms == length fields) (each_in_form forms fields)
    (λ same. let e : length forms ≡ length fields = grind (arith, nat_tests, same) in row_none forms fields e taken))

taken_whole : (w : Word) (forms : List Form) (fields : List (List ℕ)) (call : Call) (taken : Option (List Argument × List (List ℕ))) → taken ≡ take_arguments forms fields → shape_of w (length fields) ≡ Fixed forms → all_taken taken ≡ Some (arguments_of call) → word_of_call call ≡ w → names_enough call ≡ true → (fields ≡ map spell (arguments_of call)) × (word_of_call call ≡ w) × (in_ranges call ≡ true)
taken_whole w forms fields call None e is all word enough = cc
taken_whole w forms fields call (Some (args, [])) e is all word enough =
    let same : args ≡ arguments_of call = cc in
    fixed_all w forms fields call is (sym e ∙ ap (λ (a : List Argument). Some (a, [])) same) word enough
taken_whole w forms fields call (Some (args, field ∷ behind)) e is all word enough = cc

taken_unfit : (w : Word) (forms : List Form) (fields : List (List ℕ)) (taken : Option (List Argument × List (List ℕ))) → taken ≡ take_arguments forms fields → shape_of w (length fields) ≡ Fixed forms → all_taken taken ≡ None → fits w fields ≡ false
taken_unfit w forms fields None e is all = fixed_none w forms fields is (sym e)
taken_unfit w forms fields (Some (args, [])) e is all = cc
taken_unfit w forms fields (Some (args, field ∷ behind)) e is all = fixed_more w forms fields args field behind is (sym e)

pub fixed_reads : (w : Word) (forms : List Form) (fields : List (List ℕ)) (answer : Option (Unit {0})) (old new : Call) (read : Bool) → shape_of w (length fields) ≡ Fixed forms → ReadsWhole w forms fields answer old new → read ≡ is_some answer → ReadsBehind w fields read old new
fixed_reads w forms fields None old new read is reads e =
    rw e (taken_unfit w forms fields (take_arguments forms fields) refl is reads.0, reads.1)
fixed_reads w forms fields (Some u) old new read is reads e =
    rw e (taken_whole w forms fields new (take_arguments forms fields) refl is reads.0 reads.1 reads.2)

-- Lists of requests.

-- the fields are those of some requests, and others that are left
pub record SoFar (all : List (List ℕ)) (reqs : List ℕ) (left : List (List ℕ)) : Type 0 where
  pub fields_are : all ≡ map spell (map request_argument reqs) ++ left
  pub in_range : list_all is_in_range (map request_argument reqs) ≡ true
  pub least : 1 ≤ length reqs
  pub most : length reqs ≤ 64

abbrev read_of : Option (Argument × List (List ℕ)) → Option Argument
read_of None = None
read_of (Some first) = Some first.0

abbrev left_of : List (List ℕ) → Option (Argument × List (List ℕ)) → List (List ℕ)
left_of left None = left
left_of left (Some first) = first.1

first_is : (field : List ℕ) (o : Option Argument) (left behind : List (List ℕ)) (a : Argument) → with_behind left o ≡ Some (a, behind) → (o ≡ Some a) × (left ≡ behind)
first_is field None left behind a e = cc
first_is field (Some b) left behind a e = (ap read_of e, ap (left_of left) e)

pub requests_begin : (all : List (List ℕ)) (req : ℕ) (left : List (List ℕ)) → next_argument request_form all ≡ Some (request_argument req, left) → SoFar all (req ∷ []) left
requests_begin [] req left e = cc
requests_begin (field ∷ fields) req left e =
    let first = first_is field (read_argument request_form field) fields left (request_argument req) e in
    let spelled = argument_spelled request_form field (request_argument req) refl first.0 in
    record { fields_are = rw (spelled.0, first.1) refl; in_range = rw spelled.1 refl; least = omega arith; most = omega arith }

step_fields : (all : List (List ℕ)) (reqs : List ℕ) (field : List ℕ) (left : List (List ℕ)) (req : ℕ) → all ≡ map spell (map request_argument reqs) ++ field ∷ left → field ≡ decimal req → all ≡ map spell (map request_argument (reqs ++ req ∷ [])) ++ left
step_fields all reqs field left req e f = rw (e, f) (simp (map-append, append_assoc) refl)

pub step_in_range : (reqs : List ℕ) (req : ℕ) → list_all is_in_range (map request_argument reqs) ≡ true → is_in_range (request_argument req) ≡ true → list_all is_in_range (map request_argument (reqs ++ req ∷ [])) ≡ true
step_in_range reqs req h here = simp (map-append, list_all-append, h, here) refl

pub requests_step : (all : List (List ℕ)) (reqs : List ℕ) (field : List ℕ) (left : List (List ℕ)) (req : ℕ) → SoFar all reqs (field ∷ left) → length reqs < 64 → number_up_to 2147483647 field ≡ Some req → SoFar all (reqs ++ req ∷ []) left
requests_step all reqs field left req s room e =
    let spelled = argument_spelled request_form field (request_argument req) refl (ap (option_map (Number 2147483647)) e) in
    record {
      fields_are = step_fields all reqs field left req s.fields_are spelled.0;
      in_range = step_in_range reqs req s.in_range spelled.1;
      least = omega (arith, length-append reqs (req ∷ []), s.least);
      most = omega (arith, length-append reqs (req ∷ []));
    }

-- A chosen request and the list in which it is.

below_cases : (t : Bool) (v a b : ℕ) → a ≤ b → nat_le v b ≡ t → cond t (Some v) None ≡ None → cond (nat_le v a) (Some v) None ≡ None
below_cases true v a b h is e = cc
below_cases false v a b h is e = let no : nat_le v a ≡ false = grind (arith, nat_tests) in rw no refl

above_cases : (t : Bool) (v a n : ℕ) → a < n → cond t (Some v) None ≡ Some n → cond (nat_le v a) (Some v) None ≡ None
above_cases true v a n h e = let is : v ≡ n = cc in let no : nat_le v a ≡ false = grind (arith, nat_tests) in rw no refl
above_cases false v a n h e = cc

canonical_below : (c : Bool) (v a b : ℕ) → a ≤ b → cond (c && nat_le v b) (Some v) None ≡ None → cond (c && nat_le v a) (Some v) None ≡ None
canonical_below true v a b h e = below_cases (nat_le v b) v a b h refl e
canonical_below false v a b h e = refl

smaller_none : (a b : ℕ) (field : List ℕ) → a ≤ b → number_up_to b field ≡ None → number_up_to a field ≡ None
unfolding number_up_to
smaller_none a b field h e = canonical_below (is_canonical field) (value_of field) a b h e

canonical_above : (c : Bool) (v a b n : ℕ) → a < n → cond (c && nat_le v b) (Some v) None ≡ Some n → cond (c && nat_le v a) (Some v) None ≡ None
canonical_above true v a b n h e = above_cases (nat_le v b) v a n h e
canonical_above false v a b n h e = cc

greater_none : (a b n : ℕ) (field : List ℕ) → a < n → number_up_to b field ≡ Some n → number_up_to a field ≡ None
unfolding number_up_to
greater_none a b n field h e = canonical_above (is_canonical field) (value_of field) a b n h e

-- an index that is none below the number of requests
chosen_unfit : (field : List ℕ) (left : List (List ℕ)) → (nat_le (length left) 64 ≡ true → number_up_to (length left - 1) field ≡ None) → fits (Named name.Waitany) (field ∷ left) ≡ false
chosen_unfit field left none =
    not_both (takes_count Chosen (length (field ∷ left))) (all_in_form Chosen (field ∷ left)) (λ counts.
    let parts = and_parts (nat_le 2 (length (field ∷ left))) (nat_le (length (field ∷ left)) 65) counts in
    let most = le_from (length (field ∷ left)) 65 parts.1 in
    let no = none (le_to (length left) 64 (omega arith)) in
    rw no refl)

number_none : (greatest : ℕ) (o : Option ℕ) (left : List (List ℕ)) → with_behind left (option_map (Number greatest) o) ≡ None → o ≡ None
number_none greatest None left e = refl
number_none greatest (Some n) left e = cc

pub index_missing : (all : List (List ℕ)) → next_argument (NumberUpTo 63) all ≡ None → fits (Named name.Waitany) all ≡ false
index_missing [] e = refl
index_missing (field ∷ left) e =
    chosen_unfit field left (λ few.
    let most = le_from (length left) 64 few in
    smaller_none (length left - 1) 63 field (omega arith) (number_none 63 (number_up_to 63 field) left e))

pub record Index (all : List (List ℕ)) (chosen : ℕ) (left : List (List ℕ)) : Type 0 where
  pub field : List ℕ
  pub all_are : all ≡ field ∷ left
  pub number_is : number_up_to 63 field ≡ Some chosen

number_some : (greatest : ℕ) (o : Option ℕ) (n : ℕ) → option_map (Number greatest) o ≡ Some (Number greatest n) → o ≡ Some n
number_some greatest None n e = cc
number_some greatest (Some m) n e = cc

pub index_read : (all : List (List ℕ)) (chosen : ℕ) (left : List (List ℕ)) → next_argument (NumberUpTo 63) all ≡ Some (Number 63 chosen, left) → Index all chosen left
index_read [] chosen left e = cc
index_read (field ∷ fields) chosen left e =
    let first = first_is field (read_argument (NumberUpTo 63) field) fields left (Number 63 chosen) e in
    record { field = field; all_are = ap (λ fs. field ∷ fs) first.1; number_is = number_some 63 (number_up_to 63 field) chosen first.0 }

unfit_last : (a x c : Bool) → (a && c) ≡ false → (a && (x && c)) ≡ false
unfit_last true true c e = e
unfit_last true false c e = refl
unfit_last false x c e = refl

unfit_list : (n : ℕ) (x c : Bool) → (nat_le 1 n && nat_le n 64 && c) ≡ false → (nat_le 2 (suc n) && nat_le (suc n) 65 && (x && c)) ≡ false
unfit_list n x c e =
    let low : nat_le 2 (suc n) ≡ nat_le 1 n = grind (arith, nat_tests) in
    let high : nat_le (suc n) 65 ≡ nat_le n 64 = grind (arith, nat_tests) in
    rw (low, high) (unfit_last (nat_le 1 n && nat_le n 64) x c e)

pub list_unfit : (all : List (List ℕ)) (chosen : ℕ) (left : List (List ℕ)) → Index all chosen left → requests_fit left ≡ false → fits (Named name.Waitany) all ≡ false
list_unfit all chosen left i e =
    ap (fits (Named name.Waitany)) i.all_are ∙ unfit_list (length left) (is_in_form (index_form (length left)) i.field) (all_requests left) e

pub index_unfit : (all : List (List ℕ)) (chosen : ℕ) (left : List (List ℕ)) (reqs : List ℕ) → Index all chosen left → SpellsRequests left reqs → length reqs ≤ chosen → fits (Named name.Waitany) all ≡ false
index_unfit all chosen left reqs i s above =
    let count = ap length s.fields_are ∙ as_many reqs in
    let enough = and_parts (nat_le 1 (length reqs)) (nat_le (length reqs) 64) s.enough in
    let least = le_from 1 (length reqs) enough.0 in
    ap (fits (Named name.Waitany)) i.all_are
    ∙ chosen_unfit i.field left (λ few. greater_none (length left - 1) 63 chosen i.field (omega arith) i.number_is)

with_first : (field : List ℕ) (chosen : ℕ) (left : List (List ℕ)) (reqs : List ℕ) → field ≡ decimal chosen → left ≡ map spell (map request_argument reqs) → field ∷ left ≡ decimal chosen ∷ map spell (map request_argument reqs)
with_first field chosen left reqs p q = rw (p, q) refl

pub index_fits : (all : List (List ℕ)) (chosen : ℕ) (left : List (List ℕ)) (reqs : List ℕ) → Index all chosen left → SpellsRequests left reqs → chosen < length reqs → (all ≡ map spell (arguments_of (Waitany chosen reqs))) × ((Named name.Waitany) ≡ (Named name.Waitany)) × (in_ranges (Waitany chosen reqs) ≡ true)
index_fits all chosen left reqs i s below =
    let text = number-decimal 63 chosen i.field (omega arith) i.number_is in
    let in_list : nat_le chosen (length reqs - 1) ≡ true = le_to chosen (length reqs - 1) (omega arith) in
    let fields : i.field ∷ left ≡ decimal chosen ∷ map spell (map request_argument reqs) = with_first i.field chosen left reqs text.0 s.fields_are in
    (i.all_are ∙ fields, refl, and_from _ _ (and_from _ _ in_list s.in_range) s.enough)

-- The fields of a whole line.

whole : (text : List ℕ) (fields : List (List ℕ)) (w : Word) (call : Call) → text ≡ text_of w → fields ≡ map spell (arguments_of call) → word_of_call call ≡ w → text ∷ fields ≡ fields_of call
whole text fields w call p q r = rw (p, q, sym r) refl

pub line_reads : (text : List ℕ) (fields all : List (List ℕ)) (w : Word) (answer : Bool) (old new : Call) → all ≡ text ∷ fields → word_of text ≡ Some w → ReadsBehind w fields answer old new → ReadsFields all answer old new
unfolding fits_line
line_reads text fields all w true old new is found reads =
    (is ∙ whole text fields w new (word_has text w found) reads.0 reads.1, reads.2)
line_reads text fields all w false old new is found reads = (rw (is, found) reads.0, reads.1)

-- a first field that is a word of the format, or none
pub word_fits : (text : List ℕ) (fields all : List (List ℕ)) (word : Option Word) → all ≡ text ∷ fields → word ≡ word_of text → MatchOption word (fits_line all ≡ false) (λ w. all ≡ text_of w ∷ fields)
unfolding fits_line
word_fits text fields all None is found = rw (is, sym found) refl
word_fits text fields all (Some w) is found = rw (sym (word_has text w (sym found))) is
