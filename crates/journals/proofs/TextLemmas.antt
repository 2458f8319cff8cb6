-- How a text ends at its first zero byte.
use Rattle.std.proofs.Common.{◌≡◌, ℕ, zero, suc, ◌<◌, ◌≤◌, Bool, true, false, if◌then◌else◌, List, [], ◌∷◌, ◌++◌, length, get_or, take, take_while, sym, ap, ◌∙◌, refl, arith, Option, Some, None, option_map}
use Rattle.std.specs.Io.KnownBytes.{Consumes, IsAtEnd}
use Rattle.std.proofs.lemmas.Bool.Decides.{nat_tests}
use Rattle.std.proofs.lemmas.List.{append-nil, take-take, length-take}
use Rattle.std.proofs.lemmas.List.Sums.{take_while-cons}
use Rattle.memchr.specs.Find.{IsFirstByte, is_byte}
use Rattle.journals.specs.Text.{text_of, is_in_text}

passes : (byte : ℕ) → (is_byte 0 byte ≡ true → ⊥) → is_in_text byte ≡ true
passes zero h = absurd (h refl)
passes (suc n) h = grind (arith, nat_tests)

ends : (byte : ℕ) → is_byte 0 byte ≡ true → is_in_text byte ≡ false
ends zero h = refl
ends (suc n) h = grind (arith, nat_tests)

-- bytes of which none is zero are of the text
none_zero : (bytes rest : List ℕ) → ((j : ℕ) → j < length bytes → is_byte 0 (get_or bytes j 0) ≡ true → ⊥) → take_while is_in_text (bytes ++ rest) ≡ bytes ++ take_while is_in_text rest
none_zero [] rest h = refl
none_zero (byte ∷ bytes) rest h =
    let first : is_in_text byte ≡ true = passes byte (h 0 (omega arith)) in
    take_while-cons is_in_text byte (bytes ++ rest) ∙ rw first (ap (λ (xs : List ℕ). byte ∷ xs) (none_zero bytes rest (λ j below. h (suc j) (omega arith))))

-- a text ends before the first zero byte
first_zero : (bytes rest : List ℕ) (at : ℕ) → at < length bytes → is_byte 0 (get_or bytes at 0) ≡ true → ((j : ℕ) → j < at → is_byte 0 (get_or bytes j 0) ≡ true → ⊥) → take_while is_in_text (bytes ++ rest) ≡ take at bytes
first_zero [] rest at within here before = absurd (omega arith)
first_zero (byte ∷ bytes) rest zero within here before =
    let first : is_in_text byte ≡ false = ends byte here in
    take_while-cons is_in_text byte (bytes ++ rest) ∙ rw first refl
first_zero (byte ∷ bytes) rest (suc n) within here before =
    let first : is_in_text byte ≡ true = passes byte (before 0 (omega arith)) in
    take_while-cons is_in_text byte (bytes ++ rest) ∙ rw first (ap (λ (xs : List ℕ). byte ∷ xs) (first_zero bytes rest n (omega arith) here (λ j below. before (suc j) (omega arith))))

-- what a read gave that has no zero byte, it gave of the text
pub given_of_text : (old new : Option (List ℕ)) (given : List ℕ) → Consumes old new given → ((j : ℕ) → j < length given → is_byte 0 (get_or given j 0) ≡ true → ⊥) → Consumes (option_map text_of old) (option_map text_of new) given
given_of_text None new given c h = tt
given_of_text (Some xs) None given c h = c
given_of_text (Some xs) (Some ys) given c h = ap text_of c ∙ none_zero given ys h

-- a read that gave a zero byte gave the last of the text
pub last_of_text : (old new : Option (List ℕ)) (given : List ℕ) (at : ℕ) → Consumes old new given → at < length given → is_byte 0 (get_or given at 0) ≡ true → ((j : ℕ) → j < at → is_byte 0 (get_or given j 0) ≡ true → ⊥) → Consumes (option_map text_of old) (Some []) (take at given)
last_of_text None new given at c within here before = tt
last_of_text (Some xs) None given at c within here before = absurd c
last_of_text (Some xs) (Some ys) given at c within here before =
    ap text_of c ∙ first_zero given ys at within here before ∙ sym (append-nil (take at given))

pub end_of_text : (left : Option (List ℕ)) → IsAtEnd left → IsAtEnd (option_map text_of left)
end_of_text None e = tt
end_of_text (Some xs) e = rw e refl

-- the same of a read into some space, where the text didn't end before
pub text_goes_on : (over : Bool) (old new : Option (List ℕ)) (count : ℕ) (into : List ℕ) → over ≡ false → Consumes old new (take count into) → IsFirstByte (is_byte 0) (take count into) None → Consumes (if over then Some [] else option_map text_of old) (if over then Some [] else option_map text_of new) (take count into)
text_goes_on true old new count into is consumed none = cc
text_goes_on false old new count into is consumed none =
    given_of_text old new (take count into) consumed (λ j below. none j (omega arith) below)

pub text_ends_here : (over : Bool) (old new : Option (List ℕ)) (count at : ℕ) (into : List ℕ) → over ≡ false → Consumes old new (take count into) → IsFirstByte (is_byte 0) (take count into) (Some at) → Consumes (if over then Some [] else option_map text_of old) (Some []) (take at into)
text_ends_here true old new count at into is consumed found = cc
text_ends_here false old new count at into is consumed found =
    let within : at < length (take count into) = found.0.high in
    let least : at ≤ count = omega (arith, length-take count into) in
    let last = last_of_text old new (take count into) at consumed within found.1 (λ j below. found.0.before j (omega arith) below) in
    rw (take-take at count into least) at last

pub text_is_over : (over : Bool) (left : Option (List ℕ)) → IsAtEnd left → IsAtEnd (if over then Some [] else option_map text_of left)
text_is_over true left e = refl
text_is_over false left e = end_of_text left e
