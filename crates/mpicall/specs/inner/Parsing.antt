-- What proofs and private contracts cite, in addition to the definitions of `specs/Reading.antt`.
use Rattle.std.specs.Prelude.{◌≡◌, ◌<◌, ◌≤◌, ◌++◌, ℕ, Bool, true, false, ◌&&◌, nat_le, MatchBool, Option, Some, None, Result, Ok, Err, MatchResult, MatchOption, List, [], ◌∷◌, length, map, take}
use Rattle.std.specs.List.{list_all}
use Rattle.mpicall.specs.declared.limits.TheConstants.{MOST_REQUESTS}
use Rattle.mpicall.specs.Limits.{in_ranges, names_enough, few_enough}
use Rattle.mpicall.specs.Argument.{is_in_range, spell, Argument, Form, request_argument}
use Rattle.mpicall.specs.CallArgs.{args_in_line}
use Rattle.mpicall.specs.inner.CallArgs.{layout_by}
use Rattle.mpicall.specs.Spelling.{arguments_of, word_of_call, fields_of, spelling, line_feed}
use Rattle.mpicall.specs.Line.{all_requests}
use Rattle.mpicall.specs.inner.Line.{args_forms, fits, fits_line}
use Rattle.mpicall.specs.Lines.{most_bytes}
use Rattle.mpicall.specs.declared.call.Call.{Call}
use Rattle.mpicall.specs.declared.call_args.CallArgs.{CallArgs}
use Rattle.mpicall.specs.declared.word.Layout.{Layout}
use Rattle.mpicall.specs.declared.word.Word.{Word}
use Rattle.mpicall.specs.declared.fault.LineFault.{LineFault}
use Rattle.mpicall.specs.Parsing.{take_arguments}

-- the arguments that were taken, where no fields are left
abbrev pub all_taken : Option (List Argument × List (List ℕ)) → Option (List Argument)
all_taken None = None
all_taken (Some (arguments, [])) = Some arguments
all_taken (Some (arguments, field ∷ fields)) = None

-- a reader takes what follows a name of a layout, of all the fields
abbrev pub TakesArgs : Layout → List (List ℕ) → Option CallArgs → Type 0
TakesArgs wanted fields answer =
    MatchOption answer (all_taken (take_arguments (args_forms wanted (length fields)) fields) ≡ None)
    (λ it. (take_arguments (args_forms wanted (length fields)) fields ≡ Some (args_in_line it, [])) × (layout_by it ≡ wanted))

-- a reader leaves the call of a word that all the fields spell by its forms, or leaves its place alone
abbrev pub ReadsWhole : Word → List Form → List (List ℕ) → Option (Unit {0}) → Call → Call → Type 0
ReadsWhole word forms fields answer old new =
    MatchOption answer ((all_taken (take_arguments forms fields) ≡ None) × (new ≡ old))
    (λ _. (all_taken (take_arguments forms fields) ≡ Some (arguments_of new)) × (word_of_call new ≡ word) × (names_enough new ≡ true))

-- what a reader answers, and the call that it leaves, are those of a reading; a fault leaves the place alone
abbrev pub ReadsInto : Result (Unit {0}) LineFault → Call → Call → Result Call LineFault → Type 0
ReadsInto answer old new reading =
    MatchResult answer (λ _. reading ≡ Ok new) (λ fault. (reading ≡ Err fault) × (new ≡ old))

-- a reader of the fields after a word leaves the call that they spell, or they don't fit the word and it
-- leaves its place alone
abbrev pub ReadsBehind : Word → List (List ℕ) → Bool → Call → Call → Type 0
ReadsBehind word fields answer old new =
    MatchBool answer
    ((fields ≡ map spell (arguments_of new)) × (word_of_call new ≡ word) × (in_ranges new ≡ true))
    ((fits word fields ≡ false) × (new ≡ old))

-- the same of all the fields of a line
abbrev pub ReadsFields : List (List ℕ) → Bool → Call → Call → Type 0
ReadsFields fields answer old new =
    MatchBool answer ((fields ≡ fields_of new) × (in_ranges new ≡ true)) ((fits_line fields ≡ false) × (new ≡ old))

-- fields that are requests, as many as one wait may name
abbrev pub requests_fit : List (List ℕ) → Bool
requests_fit fields = nat_le 1 (length fields) && nat_le (length fields) MOST_REQUESTS && all_requests fields

-- the fields spell these requests
pub record SpellsRequests (fields : List (List ℕ)) (reqs : List ℕ) : Type 0 where
  pub fields_are : fields ≡ map spell (map request_argument reqs)
  pub in_range : list_all is_in_range (map request_argument reqs) ≡ true
  pub enough : few_enough reqs ≡ true

-- the line is a call's spelling, and the call's fields are in their ranges
pub record Spells (line : List ℕ) (call : Call) : Type 0 where
  pub line_is : line ≡ spelling call
  pub in_ranges_is : in_ranges call ≡ true

-- some bytes begin with the `n` bytes of a call's spelling, and the call's fields are in their ranges
pub record BeginsWith (bytes : List ℕ) (call : Call) (n : ℕ) : Type 0 where
  pub within : n ≤ length bytes
  pub spells : Spells (take n bytes) call

-- the line isn't too long and has its line feed; this is its body
pub record IsBody (line body : List ℕ) : Type 0 where
  pub line_is : line ≡ body ++ line_feed ∷ []
  pub short : length body < most_bytes
