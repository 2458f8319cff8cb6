-- Lines that are read straight from the front of held bytes, number by number. Nobody has to believe this: it says how
-- far a reader is.
use Rattle.std.specs.Prelude.{ℕ, ◌≡◌, ◌≤◌, ◌<◌, ◌+◌, ◌^◌, true, Option, Some, None, List, [], ◌∷◌, ◌++◌, length, map, take, codes, slice_index}
use Rattle.std.specs.Fmt.{decimal}
use Rattle.std.specs.List.{list_all}
use Rattle.mpicall.specs.Argument.{is_in_range, request_argument}
use Rattle.mpicall.specs.Spelling.{space, line_feed}
use Rattle.mpicall.specs.declared.limits.TheConstants.{GREATEST_COMM, GREATEST_RANK}
use Rattle.mpicall.specs.inner.Draft.{line_with}

-- between two places of some bytes a number is written, of at most nine digits
pub record IsNumber (bytes : List ℕ) (from to number : ℕ) : Type 0 where
  pub text : take to bytes ≡ take from bytes ++ decimal number
  pub some : from < to
  pub few : to ≤ from + 9
  pub small : number < 1000000000

-- and this is the byte behind it
pub record HasNumber (bytes : List ℕ) (from to number next : ℕ) : Type 0 where
  pub is : IsNumber bytes from to number
  pub next_is : slice_index bytes to ≡ next

-- so many digits so far, the first of which isn't 0
pub record HasDigits (bytes : List ℕ) (from count number next : ℕ) : Type 0 where
  pub has : HasNumber bytes from (from + count) number next
  pub some : 0 < number
  pub below : number < 10 ^ count

-- a number, and a byte after it
pub record HasField (bytes : List ℕ) (from to number end : ℕ) : Type 0 where
  pub text : take to bytes ≡ take from bytes ++ (decimal number ++ end ∷ [])
  pub few : to ≤ from + 10
  pub small : number < 1000000000

-- how many bytes a message has, where that is said, and the end of the line
abbrev pub last_text : Option ℕ → List ℕ
last_text None = line_feed ∷ []
last_text (Some said) = space ∷ (decimal said ++ line_feed ∷ [])

abbrev pub none_or_small : Option ℕ → Type 0
none_or_small None = Unit {0}
none_or_small (Some said) = said < 1000000000

pub record HasLast (bytes : List ℕ) (from to : ℕ) (said : Option ℕ) : Type 0 where
  pub text : take to bytes ≡ take from bytes ++ last_text said
  pub few : to ≤ from + 11
  pub small : none_or_small said

-- the fields of a message, through the end of the line
abbrev pub message_text : ℕ → ℕ → ℕ → Option ℕ → List ℕ
message_text comm rank tag said = decimal comm ++ space ∷ (decimal rank ++ space ∷ (decimal tag ++ last_text said))

pub record HasMessage (bytes : List ℕ) (from to comm rank tag : ℕ) (said : Option ℕ) : Type 0 where
  pub text : take to bytes ≡ take from bytes ++ message_text comm rank tag said
  pub few : to ≤ from + 40
  pub comm_is : comm ≤ GREATEST_COMM
  pub rank_is : rank ≤ GREATEST_RANK
  pub tag_is : tag < 1000000000
  pub said_is : none_or_small said

-- some bytes begin with the line of a wait for these requests, as far as a place, and this is the byte there
pub record HasRequests (bytes : List ℕ) (at next : ℕ) (reqs : List ℕ) : Type 0 where
  pub text : take at bytes ≡ line_with (codes "waitall") (map request_argument reqs)
  pub in_range : list_all is_in_range (map request_argument reqs) ≡ true
  pub next_is : slice_index bytes at ≡ next
  pub within : at < length bytes
  pub least : 1 ≤ length reqs
  pub most : length reqs ≤ 64
