-- Numbers in fields. A canonical number is `0`, or decimal digits the first of which isn't `0`; a signed
-- one is a canonical number, or `-` and a canonical number other than `0`.
use Rattle.std.specs.Prelude.{ℕ, zero, suc, ◌+◌, ◌-◌, ◌*◌, ℤ, pos, negsuc, Bool, ◌&&◌, not, ◌==◌, nat_le, nat_lt, Option, Some, None, option_map, if◌then◌else◌, List, [], ◌∷◌, length, slice_index}
use Rattle.std.specs.Str.{all_ascii_digits}
use Rattle.mpicall.specs.declared.limits.TheConstants.{GREATEST_KEY}

-- the number that digits write after those of `n`
abbrev pub value_after : ℕ → List ℕ → ℕ
value_after n [] = n
value_after n (c ∷ cs) = value_after (n * 10 + (c - 48)) cs

-- the number that digits write
abbrev pub value_of : List ℕ → ℕ
value_of digits = value_after 0 digits

-- the field has a digit before another one, and that digit is `0`
abbrev pub has_leading_zero : List ℕ → Bool
has_leading_zero field = nat_lt 1 (length field) && slice_index field 0 == 48

-- the field is a canonical number, of whatever size
unfoldable pub is_canonical : List ℕ → Bool
is_canonical field = nat_lt 0 (length field) && all_ascii_digits field && not (has_leading_zero field)

-- the number that a field spells, if it is a canonical one of at most `limit`
unfoldable pub number_up_to : ℕ → List ℕ → Option ℕ
number_up_to limit field = if is_canonical field && nat_le (value_of field) limit then Some (value_of field) else None

-- the sign of a number below 0
abbrev pub minus : ℕ
minus = 45

-- the negative of a number other than 0
abbrev pub negative : ℕ → Option ℤ
negative zero = None
negative (suc n) = Some (negsuc n)

abbrev pub negative_of : Option ℕ → Option ℤ
negative_of None = None
negative_of (Some n) = negative n

-- the signed number of 32 bits that a field spells
unfoldable pub signed_of : List ℕ → Option ℤ
signed_of [] = None
signed_of (byte ∷ bytes) =
    if byte == minus then negative_of (number_up_to (GREATEST_KEY + 1) bytes)
    else option_map pos (number_up_to GREATEST_KEY (byte ∷ bytes))
