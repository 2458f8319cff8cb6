-- The ranges of a call's fields. A record is a call all of whose fields lie in them.
use Rattle.mpicall.specs.Names.{Request}
use Rattle.std.specs.Prelude.{◌≡◌, ℕ, Bool, true, ◌&&◌, nat_le, Option, is_none, List, length}
use Rattle.mpicall.specs.declared.call.Mode.{Mode}
use Rattle.mpicall.specs.declared.call.Mode.TheVariants.{Standard}
use Rattle.std.specs.List.{list_all}
use Rattle.mpicall.specs.Argument.{is_in_range}
use Rattle.mpicall.specs.Spelling.{arguments_of}
use Rattle.mpicall.specs.declared.limits.TheConstants.{GREATEST_COMM, GREATEST_RANK, GREATEST_TAG, GREATEST_REQUEST, GREATEST_BYTES, GREATEST_COLOUR, GREATEST_KEY, MOST_REQUESTS, MOST_LINE_BYTES}
use Rattle.mpicall.specs.declared.call.Call.{Call}
use Rattle.mpicall.specs.declared.call.Call.TheVariants.{Send, Isend, Waitall, Waitany}

-- Law: the limits of a trace, in numbers.
pub record TheLimitsOfATrace : Type 0 where
  pub greatest_comm : GREATEST_COMM ≡ 4095
  pub greatest_rank : GREATEST_RANK ≡ 1023
  pub greatest_tag : GREATEST_TAG ≡ 2147483647
  pub greatest_request : GREATEST_REQUEST ≡ 2147483647
  pub greatest_bytes : GREATEST_BYTES ≡ 2147483647
  pub greatest_colour : GREATEST_COLOUR ≡ 2147483647
  pub greatest_key : GREATEST_KEY ≡ 2147483647
  pub most_requests : MOST_REQUESTS ≡ 64
  pub most_line_bytes : MOST_LINE_BYTES ≡ 1024

-- one wait names so many requests
abbrev pub few_enough : List Request → Bool
few_enough reqs = nat_le 1 (length reqs) && nat_le (length reqs) MOST_REQUESTS

-- a standard send alone may say its bytes
abbrev pub may_tell : Mode → Option ℕ → Bool
may_tell Standard bytes = true
may_tell mode bytes = is_none bytes

-- a wait for several requests names some, and not too many, and a send that isn't standard says no bytes
abbrev pub names_enough : Call → Bool
names_enough (Waitall reqs) = few_enough reqs
names_enough (Waitany chosen reqs) = few_enough reqs
names_enough (Send mode comm dest tag bytes) = may_tell mode bytes
names_enough (Isend req mode comm dest tag bytes) = may_tell mode bytes
names_enough _ = true

-- each argument of the call lies in its range, and its list of requests has a length that is allowed
abbrev pub in_ranges : Call → Bool
in_ranges call = list_all is_in_range (arguments_of call) && names_enough call
