-- Rows of fields and the arguments that are read from them.
use Rattle.std.proofs.Common.{◌≡◌, ℕ, ◌+◌, true, false, List, [], ◌∷◌, ◌++◌, length, sym, ap, ◌∙◌, refl, arith, Option, Some, None, ◌&&◌, map, is_some}
use Rattle.std.specs.List.{list_all}
use Rattle.std.proofs.lemmas.Bool.{and_parts}
use Rattle.std.proofs.lemmas.List.{length-map}
use Rattle.mpicall.specs.Argument.{Argument, Form, spell, is_in_range, read_argument, request_argument}
use Rattle.mpicall.specs.inner.Argument.{form_of}
use Rattle.mpicall.specs.Line.{each_in_form}
use Rattle.mpicall.specs.Parsing.{with_behind, put_before, take_behind, take_arguments, taken}
use Rattle.mpicall.proofs.ArgumentLemmas.{small_form, is_small, reads_back, argument_spelled}

-- One more field.

abbrev behind_of : Option (List Argument × List (List ℕ)) → List (List ℕ)
behind_of None = []
behind_of (Some p) = p.1

others_read : (a : Argument) (r : Option (List Argument × List (List ℕ))) (args : List Argument) (behind : List (List ℕ)) → put_before a r ≡ Some (args, behind) → (others : List Argument) × (r ≡ Some (others, behind)) × (args ≡ a ∷ others)
others_read a None args behind e = cc
others_read a (Some p) args behind e =
    let left : p.1 ≡ behind = ap behind_of e in
    let read : a ∷ p.0 ≡ args = ap taken e in
    (p.0, ap (λ (b : List (List ℕ)). Some (p.0, b)) left, sym read)

one_read : (form : Form) (forms : List Form) (fields : List (List ℕ)) (o : Option Argument) (args : List Argument) (behind : List (List ℕ)) → take_behind (with_behind fields o) (λ behind. take_arguments forms behind) ≡ Some (args, behind) → (a : Argument) × (others : List Argument) × (o ≡ Some a) × (take_arguments forms fields ≡ Some (others, behind)) × (args ≡ a ∷ others)
one_read form forms fields None args behind e = cc
one_read form forms fields (Some a) args behind e =
    let others = others_read a (take_arguments forms fields) args behind e in
    (a, others.0, refl, others.1, others.2)

-- What is read was spelled so.
pub record RowSpelled (fields : List (List ℕ)) (args : List Argument) (behind : List (List ℕ)) : Type 0 where
  pub fields_are : fields ≡ map spell args ++ behind
  pub in_range : list_all is_in_range args ≡ true

cons_spelled : (field : List ℕ) (fields : List (List ℕ)) (args others : List Argument) (a : Argument) (behind : List (List ℕ)) → args ≡ a ∷ others → field ≡ spell a → fields ≡ map spell others ++ behind → field ∷ fields ≡ map spell args ++ behind
cons_spelled field fields args others a behind p q r = rw (p, q, r) refl

cons_in_range : (args others : List Argument) (a : Argument) → args ≡ a ∷ others → is_in_range a ≡ true → list_all is_in_range others ≡ true → list_all is_in_range args ≡ true
cons_in_range args others a p q r = rw (p, q, r) refl

pub row_spelled : (forms : List Form) (fields : List (List ℕ)) (args : List Argument) (behind : List (List ℕ)) → list_all small_form forms ≡ true → take_arguments forms fields ≡ Some (args, behind) → RowSpelled fields args behind
row_spelled [] fields args behind small e =
    let none : [] ≡ args = ap taken e in
    let left : fields ≡ behind = ap behind_of e in
    record { fields_are = rw (sym none) left; in_range = rw (sym none) refl }
row_spelled (form ∷ forms) [] args behind small e = cc
row_spelled (form ∷ forms) (field ∷ fields) args behind small e =
    let smalls = and_parts (small_form form) (list_all small_form forms) small in
    let read = one_read form forms fields (read_argument form field) args behind e in
    let first = argument_spelled form field read.0 smalls.0 read.2 in
    let others = row_spelled forms fields read.1 behind smalls.1 read.3 in
    record {
      fields_are = cons_spelled field fields args read.1 read.0 behind read.4 first.0 others.fields_are;
      in_range = cons_in_range args read.1 read.0 read.4 first.1 others.in_range;
    }

pub row_length : (forms : List Form) (fields : List (List ℕ)) (args : List Argument) (behind : List (List ℕ)) → take_arguments forms fields ≡ Some (args, behind) → length fields ≡ length forms + length behind
row_length [] fields args behind e = let left : fields ≡ behind = ap behind_of e in rw left (omega arith)
row_length (form ∷ forms) [] args behind e = cc
row_length (form ∷ forms) (field ∷ fields) args behind e =
    let read = one_read form forms fields (read_argument form field) args behind e in
    omega (arith, row_length forms fields read.1 behind read.3)

-- Where nothing is read, though there are as many fields as forms, a field isn't in its form.
others_none : (a : Argument) (r : Option (List Argument × List (List ℕ))) → put_before a r ≡ None → r ≡ None
others_none a None e = refl
others_none a (Some p) e = cc

one_none : (forms : List Form) (fields : List (List ℕ)) (o : Option Argument) → (take_arguments forms fields ≡ None → each_in_form forms fields ≡ false) → take_behind (with_behind fields o) (λ behind. take_arguments forms behind) ≡ None → (is_some o && each_in_form forms fields) ≡ false
one_none forms fields None deeper e = refl
one_none forms fields (Some a) deeper e = deeper (others_none a (take_arguments forms fields) e)

pub row_none : (forms : List Form) (fields : List (List ℕ)) → length forms ≡ length fields → take_arguments forms fields ≡ None → each_in_form forms fields ≡ false
row_none [] fields same e = cc
row_none (form ∷ forms) [] same e = absurd (omega arith)
row_none (form ∷ forms) (field ∷ fields) same e =
    one_none forms fields (read_argument form field) (row_none forms fields (omega arith)) e

-- What is spelled is read.
pub row_back : (args : List Argument) → list_all is_small args ≡ true → list_all is_in_range args ≡ true → take_arguments (map form_of args) (map spell args) ≡ Some (args, [])
row_back [] small h = refl
row_back (a ∷ args) small h =
    let smalls = and_parts (is_small a) (list_all is_small args) small in
    let ranges = and_parts (is_in_range a) (list_all is_in_range args) h in
    rw (reads_back a smalls.0 ranges.0, row_back args smalls.1 ranges.1) refl

pub row_in_form : (args : List Argument) → list_all is_small args ≡ true → list_all is_in_range args ≡ true → each_in_form (map form_of args) (map spell args) ≡ true
row_in_form [] small h = refl
row_in_form (a ∷ args) small h =
    let smalls = and_parts (is_small a) (list_all is_small args) small in
    let ranges = and_parts (is_in_range a) (list_all is_in_range args) h in
    rw (reads_back a smalls.0 ranges.0) (row_in_form args smalls.1 ranges.1)

-- a field for each request
pub as_many : (reqs : List ℕ) → length (map spell (map request_argument reqs)) ≡ length reqs
as_many reqs = length-map (map request_argument reqs) spell ∙ length-map reqs request_argument
