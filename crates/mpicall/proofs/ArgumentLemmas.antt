-- The field of an argument is read as that argument, and what is read as an argument was spelled so.
use Rattle.std.proofs.Common.{◌≡◌, ℕ, ◌+◌, ◌<◌, ◌≤◌, ◌^◌, ◌≢◌, ℤ, pos, negsuc, Bool, true, false, List, [], ◌∷◌, length, get_or, sym, ap, ◌∙◌, refl, arith, Option, Some, None, cond, nat_le, nat_lt, ◌==◌, codes, option_map, suc, zero, subst}
use Rattle.std.specs.Fmt.{decimal, signed_decimal}
use Rattle.std.specs.Int.{IsInRange}
use Rattle.std.specs.List.{list_all}
use Rattle.std.specs.Str.{bytes_eq}
use Rattle.std.proofs.lemmas.Fmt.{decimal_is_IsNumeral, length-decimal-le, decimal_nonempty}
use Rattle.std.proofs.lemmas.Str.Parse.{digit_at}
use Rattle.std.proofs.lemmas.Slice.Eq.{bytes_eq-Decides}
use Rattle.std.proofs.lemmas.Bool.Decides.{nat_tests}
use Rattle.std.proofs.lemmas.List.Elements.{All-from_get_or}
use Rattle.std.proofs.lemmas.List.Sums.{list_all-from_AllPass}
use Rattle.std.proofs.lemmas.Bool.{false_from_ne_true}
use Rattle.std.proofs.lemmas.Option.{same_Some}
use Rattle.mpicall.proofs.DecimalLemmas.{number-decimal, number-of-decimal}
use Rattle.mpicall.specs.Number.{number_up_to, signed_of, negative, negative_of, minus}
use Rattle.mpicall.specs.Argument.{Argument, Number, PeerOf, Colour, Key, New, Form, NumberUpTo, PeerForm, ColourForm, KeyForm, NewForm, spell, is_in_range, none_or_up_to, key_in_range, peer_in_range, read_argument, read_number_or, read_peer, number_or, peer_field}
use Rattle.mpicall.specs.inner.Argument.{form_of}
use Rattle.mpicall.specs.Line.{is_any}
use Rattle.mpicall.specs.Parsing.{next_argument, with_behind}
use Rattle.mpicall.specs.declared.limits.TheConstants.{GREATEST_KEY, GREATEST_RANK, GREATEST_COMM, GREATEST_COLOUR}
use Rattle.mpicall.specs.declared.call.Peer.{Peer}
use Rattle.mpicall.specs.declared.call.Peer.TheVariants.{Rank, Null}

-- the greatest number of a form, and of an argument, is one of 32 bits
abbrev pub small_form : Form → Bool
small_form (NumberUpTo greatest) = nat_le greatest 4294967295
small_form _ = true

abbrev pub is_small : Argument → Bool
is_small argument = small_form (form_of argument)

pub le_from : (n limit : ℕ) → nat_le n limit ≡ true → n ≤ limit
le_from n limit h = grind (arith, nat_tests)

pub le_to : (n limit : ℕ) → n ≤ limit → nat_le n limit ≡ true
le_to n limit h = grind (arith, nat_tests)

-- Numbers as fields.

first_digit : (n : ℕ) → n < 2 ^ 64 → IsInRange 48 57 (get_or (decimal n) 0 0)
first_digit n fits =
    let digits = decimal_is_IsNumeral n fits in
    digit_at (decimal n) 0 digits.0.1 digits.0.0

-- a number isn't a text of letters
not_text : (n : ℕ) (text : List ℕ) → n < 2 ^ 64 → 57 < get_or text 0 0 → bytes_eq (decimal n) text ≡ false
not_text n text fits letter =
    false_from_ne_true _ (λ same.
    let is : decimal n ≡ text = (bytes_eq-Decides (decimal n) text).0 same in
    let first : get_or (decimal n) 0 0 ≡ get_or text 0 0 = ap (λ (xs : List ℕ). get_or xs 0 0) is in
    let digit = first_digit n fits in
    let top = digit.1 in
    omega arith)

signed_number : (field : List ℕ) → 0 < length field → get_or field 0 0 ≢ minus → signed_of field ≡ option_map pos (number_up_to GREATEST_KEY field)
unfolding signed_of
signed_number [] some first = absurd (omega arith)
signed_number (byte ∷ bytes) some first =
    let no : (byte == minus) ≡ false = grind (arith, nat_tests) in
    rw no refl

-- Each argument's field is read as it.

number_back : (greatest n : ℕ) → nat_le greatest 4294967295 ≡ true → nat_le n greatest ≡ true → number_up_to greatest (decimal n) ≡ Some n
number_back greatest n small h =
    let low = le_from greatest 4294967295 small in
    number-of-decimal greatest n (omega arith) (le_from n greatest h)

fits_word : (greatest n : ℕ) → nat_le greatest 4294967295 ≡ true → nat_le n greatest ≡ true → n ≤ 4294967295
fits_word greatest n small h =
    let low = le_from greatest 4294967295 small in
    let lower = le_from n greatest h in
    omega arith

read_or_back : (text : List ℕ) (greatest : ℕ) (o : Option ℕ) → nat_le greatest 4294967295 ≡ true → 57 < get_or text 0 0 → none_or_up_to greatest o ≡ true → read_number_or text greatest (number_or text o) ≡ Some o
read_or_back text greatest None small letter h = rw ((bytes_eq-Decides text text).1 refl) refl
read_or_back text greatest (Some n) small letter h =
    let fits = fits_word greatest n small h in
    rw (not_text n text (omega arith) letter, number_back greatest n small h) refl

peer_back : (peer : Peer) → peer_in_range peer ≡ true → read_peer (peer_field peer) ≡ Some peer
peer_back (Rank r) h =
    let fits = fits_word GREATEST_RANK r refl h in
    rw (not_text r (codes "null") (omega arith) (omega arith), number_back GREATEST_RANK r refl h) refl
peer_back Null h = refl

key_back : (key : ℤ) → key_in_range key ≡ true → signed_of (signed_decimal key) ≡ Some key
unfolding signed_of
key_back (pos n) h =
    let fits = fits_word GREATEST_KEY n refl h in
    let digit = first_digit n (omega arith) in
    let low = digit.0 in
    signed_number (decimal n) (decimal_nonempty n (omega arith)) (omega arith) ∙ ap (option_map pos) (number_back GREATEST_KEY n refl h)
key_back (negsuc n) h =
    let fits = le_from n GREATEST_KEY h in
    rw (number-of-decimal (GREATEST_KEY + 1) (suc n) (omega arith) (omega arith)) refl

pub reads_back : (a : Argument) → is_small a ≡ true → is_in_range a ≡ true → read_argument (form_of a) (spell a) ≡ Some a
reads_back (Number greatest n) small h = ap (option_map (Number greatest)) (number_back greatest n small h)
reads_back (PeerOf peer) small h = ap (option_map PeerOf) (peer_back peer h)
reads_back (Colour o) small h = ap (option_map Colour) (read_or_back (codes "undefined") GREATEST_COLOUR o refl (omega arith) h)
reads_back (Key key) small h = ap (option_map Key) (key_back key h)
reads_back (New o) small h = ap (option_map New) (read_or_back (codes "none") GREATEST_COMM o refl (omega arith) h)

-- Each argument's field has bytes, few and all above the space, and isn't a wildcard.

abbrev pub above_space : ℕ → Bool
above_space byte = nat_lt 32 byte

pub record IsField (field : List ℕ) : Type 0 where
  pub clean : list_all above_space field ≡ true
  pub some : 0 < length field
  pub short : length field ≤ 11
  pub not_any : is_any field ≡ false

digit_above : (byte : ℕ) → IsInRange 48 57 byte → above_space byte ≡ true
digit_above byte h = grind (arith, nat_tests)

clean_number : (n : ℕ) → n < 2 ^ 64 → list_all above_space (decimal n) ≡ true
clean_number n fits =
    let digits = decimal_is_IsNumeral n fits in
    list_all-from_AllPass above_space (decimal n)
    (All-from_get_or (λ byte. above_space byte ≡ true) (decimal n) 0 (λ k below. digit_above _ (digit_at (decimal n) k digits.0.1 below)))

number_field : (n : ℕ) → n ≤ 4294967295 → IsField (decimal n)
number_field n low = record {
  clean = clean_number n (omega arith);
  some = decimal_nonempty n (omega arith);
  short = omega (arith, length-decimal-le 10 n (omega arith) (omega arith) (omega arith));
  not_any = not_text n (codes "any") (omega arith) (omega arith);
}

text_field : (text : List ℕ) → list_all above_space text ≡ true → 0 < length text → length text ≤ 11 → is_any text ≡ false → IsField text
text_field text clean some short plain = record { clean = clean; some = some; short = short; not_any = plain }

field_or : (text : List ℕ) (greatest : ℕ) (o : Option ℕ) → IsField text → nat_le greatest 4294967295 ≡ true → none_or_up_to greatest o ≡ true → IsField (number_or text o)
field_or text greatest None is small h = is
field_or text greatest (Some n) is small h = number_field n (fits_word greatest n small h)

peer_is_field : (peer : Peer) → peer_in_range peer ≡ true → IsField (peer_field peer)
peer_is_field (Rank r) h = number_field r (fits_word GREATEST_RANK r refl h)
peer_is_field Null h = text_field (codes "null") refl (omega arith) (omega arith) refl

key_is_field : (key : ℤ) → key_in_range key ≡ true → IsField (signed_decimal key)
key_is_field (pos n) h = number_field n (fits_word GREATEST_KEY n refl h)
key_is_field (negsuc n) h =
    let low = le_from n GREATEST_KEY h in
    let digits = number_field (suc n) (omega arith) in
    record {
      clean = digits.clean;
      some = omega arith;
      short = omega (arith, length-decimal-le 10 (suc n) (omega arith) (omega arith) (omega arith));
      not_any = false_from_ne_true _ (λ same.
          let is = (bytes_eq-Decides (45 ∷ decimal (suc n)) (codes "any")).0 same in
          let first : 45 ≡ 97 = ap (λ (xs : List ℕ). get_or xs 0 0) is in
          omega arith);
    }

pub argument_field : (a : Argument) → is_small a ≡ true → is_in_range a ≡ true → IsField (spell a)
argument_field (Number greatest n) small h = number_field n (fits_word greatest n small h)
argument_field (PeerOf peer) small h = peer_is_field peer h
argument_field (Colour o) small h = field_or (codes "undefined") GREATEST_COLOUR o (text_field (codes "undefined") refl (omega arith) (omega arith) refl) refl h
argument_field (Key key) small h = key_is_field key h
argument_field (New o) small h = field_or (codes "none") GREATEST_COMM o (text_field (codes "none") refl (omega arith) (omega arith) refl) refl h

-- What is read as an argument was spelled so, in its range.

pub map_some : {A B : Type 0} (f : A → B) (o : Option A) (b : B) → option_map f o ≡ Some b → (x : A) × (o ≡ Some x) × (b ≡ f x)
map_some f (Some x) b e = (x, refl, cc)
map_some f None b e = cc

number_spelled : (greatest n : ℕ) (field : List ℕ) → nat_le greatest 4294967295 ≡ true → number_up_to greatest field ≡ Some n → (field ≡ decimal n) × (nat_le n greatest ≡ true)
number_spelled greatest n field small e =
    let low = le_from greatest 4294967295 small in
    let read = number-decimal greatest n field (omega arith) e in
    (read.0, le_to n greatest read.1)

or_cases : (b : Bool) (text field : List ℕ) (greatest : ℕ) (o : Option ℕ) → nat_le greatest 4294967295 ≡ true → (b ≡ true → field ≡ text) → cond b (Some None) (option_map Some (number_up_to greatest field)) ≡ Some o → (field ≡ number_or text o) × (none_or_up_to greatest o ≡ true)
or_cases true text field greatest o small is e =
    let none : o ≡ None = cc in
    rw none (is refl, refl)
or_cases false text field greatest o small is e =
    let some = map_some Some (number_up_to greatest field) o e in
    let number = number_spelled greatest some.0 field small some.1 in
    rw some.2 number

peer_cases : (b : Bool) (field : List ℕ) (peer : Peer) → (b ≡ true → field ≡ codes "null") → cond b (Some Null) (option_map Rank (number_up_to GREATEST_RANK field)) ≡ Some peer → (field ≡ peer_field peer) × (peer_in_range peer ≡ true)
peer_cases true field peer is e =
    let none : peer ≡ Null = cc in
    rw none (is refl, refl)
peer_cases false field peer is e =
    let some = map_some Rank (number_up_to GREATEST_RANK field) peer e in
    let number = number_spelled GREATEST_RANK some.0 field refl some.1 in
    rw some.2 number

negative_some : (n : ℕ) (key : ℤ) → negative n ≡ Some key → (m : ℕ) × (n ≡ suc m) × (key ≡ negsuc m)
negative_some zero key e = cc
negative_some (suc m) key e = (m, refl, cc)

negative_cases : (o : Option ℕ) (key : ℤ) → negative_of o ≡ Some key → (n : ℕ) × (o ≡ Some (suc n)) × (key ≡ negsuc n)
negative_cases None key e = cc
negative_cases (Some n) key e =
    let is = negative_some n key e in
    (is.0, ap Some is.1, is.2)

with_minus : (byte : ℕ) (bytes : List ℕ) (n : ℕ) → byte ≡ minus → bytes ≡ decimal (suc n) → byte ∷ bytes ≡ signed_decimal (negsuc n)
with_minus byte bytes n first others = cc

sign_cases : (b : Bool) (byte : ℕ) (bytes : List ℕ) (key : ℤ) → (b ≡ true → byte ≡ minus) → cond b (negative_of (number_up_to (GREATEST_KEY + 1) bytes)) (option_map pos (number_up_to GREATEST_KEY (byte ∷ bytes))) ≡ Some key → (byte ∷ bytes ≡ signed_decimal key) × (key_in_range key ≡ true)
sign_cases true byte bytes key is e =
    let some = negative_cases (number_up_to (GREATEST_KEY + 1) bytes) key e in
    let number = number_spelled (GREATEST_KEY + 1) (suc some.0) bytes refl some.1 in
    let low = le_from (suc some.0) (GREATEST_KEY + 1) number.1 in
    let text = with_minus byte bytes some.0 (is refl) number.0 in
    (text ∙ ap signed_decimal (sym some.2), ap key_in_range some.2 ∙ le_to some.0 GREATEST_KEY (omega arith))
sign_cases false byte bytes key is e =
    let some = map_some pos (number_up_to GREATEST_KEY (byte ∷ bytes)) key e in
    let number = number_spelled GREATEST_KEY some.0 (byte ∷ bytes) refl some.1 in
    rw some.2 number

sign_is : (byte : ℕ) → (byte == minus) ≡ true → byte ≡ minus
sign_is byte h = grind (arith, nat_tests)

key_spelled : (field : List ℕ) (key : ℤ) → signed_of field ≡ Some key → (field ≡ signed_decimal key) × (key_in_range key ≡ true)
unfolding signed_of
key_spelled [] key e = cc
key_spelled (byte ∷ bytes) key e = sign_cases (byte == minus) byte bytes key (sign_is byte) e

pub argument_spelled : (form : Form) (field : List ℕ) (a : Argument) → small_form form ≡ true → read_argument form field ≡ Some a → (field ≡ spell a) × (is_in_range a ≡ true)
argument_spelled (NumberUpTo greatest) field a small e =
    let some = map_some (Number greatest) (number_up_to greatest field) a e in
    rw some.2 (number_spelled greatest some.0 field small some.1)
argument_spelled PeerForm field a small e =
    let some = map_some PeerOf (read_peer field) a e in
    rw some.2 (peer_cases (bytes_eq field (codes "null")) field some.0 (bytes_eq-Decides field (codes "null")).0 some.1)
argument_spelled ColourForm field a small e =
    let some = map_some Colour (read_number_or (codes "undefined") GREATEST_COLOUR field) a e in
    rw some.2 (or_cases (bytes_eq field (codes "undefined")) (codes "undefined") field GREATEST_COLOUR some.0 refl (bytes_eq-Decides field (codes "undefined")).0 some.1)
argument_spelled KeyForm field a small e =
    let some = map_some Key (signed_of field) a e in
    rw some.2 (key_spelled field some.0 some.1)
argument_spelled NewForm field a small e =
    let some = map_some New (read_number_or (codes "none") GREATEST_COMM field) a e in
    rw some.2 (or_cases (bytes_eq field (codes "none")) (codes "none") field GREATEST_COMM some.0 refl (bytes_eq-Decides field (codes "none")).0 some.1)

-- A number that may be a rank is read as a peer too.

rank_read : (field : List ℕ) (n : ℕ) → number_up_to GREATEST_RANK field ≡ Some n → read_peer field ≡ Some (Rank n)
rank_read field n e =
    let is = number_spelled GREATEST_RANK n field refl e in
    let low = le_from n GREATEST_RANK is.1 in
    let other : bytes_eq field (codes "null") ≡ false = subst (λ (f : List ℕ). bytes_eq f (codes "null") ≡ false) (sym is.0) (not_text n (codes "null") (omega (arith, low)) (omega arith)) in
    rw other (rw e refl)

number_taken : (o : Option ℕ) (fields behind : List (List ℕ)) (greatest n : ℕ) → with_behind fields (option_map (Number greatest) o) ≡ Some (Number greatest n, behind) → (o ≡ Some n) × (fields ≡ behind)
number_taken None fields behind greatest n e = cc
number_taken (Some m) fields behind greatest n e =
    let pair : (Number greatest m, fields) ≡ (Number greatest n, behind) = same_Some (Number greatest m, fields) (Number greatest n, behind) e in
    let first : Number greatest m ≡ Number greatest n = ap (λ (p : Argument × List (List ℕ)). p.0) pair in
    (cc, ap (λ (p : Argument × List (List ℕ)). p.1) pair)

-- the field of a number that was taken
pub number_split : (fields behind : List (List ℕ)) (greatest n : ℕ) → next_argument (NumberUpTo greatest) fields ≡ Some (Number greatest n, behind) → (field : List ℕ) × (fields ≡ field ∷ behind) × (number_up_to greatest field ≡ Some n)
number_split [] behind greatest n e = cc
number_split (field ∷ fields) behind greatest n e =
    let parts = number_taken (number_up_to greatest field) fields behind greatest n e in
    (field, rw parts.1 refl, parts.0)

pub peer_by_number : (fields behind : List (List ℕ)) (n : ℕ) → next_argument (NumberUpTo GREATEST_RANK) fields ≡ Some (Number GREATEST_RANK n, behind) → next_argument PeerForm fields ≡ Some (PeerOf (Rank n), behind)
peer_by_number [] behind n e = cc
peer_by_number (field ∷ fields) behind n e =
    let parts = number_taken (number_up_to GREATEST_RANK field) fields behind GREATEST_RANK n e in
    rw (rank_read field n parts.0) (rw parts.1 refl)
