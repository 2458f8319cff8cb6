-- What is kept of what a journal reports of its requests: a map from requests, and that it says what the lines do.
use Rattle.std.specs.Prelude.{◌≡◌, ℕ, Bool, true, false, nat_lt, nat_eq, Option, Some, None, if◌then◌else◌, List, [], ◌∷◌, slice_get}
use Rattle.std.specs.HashMap.{get}
use Rattle.journals.specs.Lines.{Line}
use Rattle.journals.specs.declared.field.Field.{Field}
use Rattle.journals.specs.Taking.{fields_at}
use Rattle.closing.specs.Reported.{Message, done_of, message_in}
use Rattle.closing.specs.Reported as say
use Rattle.closing.specs.declared.outcomes.Outcome.{Outcome}
use Rattle.closing.specs.declared.outcomes.Outcome.TheVariants.{Unknown, Done, Gone, Moved}
use Rattle.closing.specs.declared.outcomes.Outcomes.{Outcomes}

-- what is kept of a request, if anything
abbrev pub kept_at : Outcomes → ℕ → Option Outcome
kept_at outcomes request =
    if nat_lt outcomes.most request then get nat_eq outcomes.far request else slice_get outcomes.near.items request

abbrev pub or_before : Outcome → Option Outcome → Outcome
or_before before None = before
or_before before (Some outcome) = outcome

-- what came of a request
abbrev pub outcome_at : Outcomes → ℕ → Outcome
outcome_at outcomes request = or_before Unknown (kept_at outcomes request)

-- ---- What an outcome says ----

abbrev pub is_gone : Outcome → Bool
is_gone Gone = true
is_gone outcome = false

abbrev pub is_moved : Outcome → Bool
is_moved Moved = true
is_moved outcome = false

-- waits leave the request out
abbrev pub is_left_out : Outcome → Bool
is_left_out Gone = true
is_left_out Moved = true
is_left_out outcome = false

abbrev pub is_settled : Outcome → Bool
is_settled Unknown = false
is_settled Moved = false
is_settled outcome = true

-- the message of the fields of a report after its request
abbrev pub message_after : List Field → Option Message
message_after [] = None
message_after (request ∷ fields) = message_in fields

-- the message with which it completed
abbrev pub message_by : List Line → Outcome → Option Message
message_by lines (Done place) = message_after (fields_at lines place)
message_by lines outcome = None

-- ---- What the lines say ----

-- what is kept says what the lines report
pub record Tells (lines : List Line) (it : Outcomes) : Type 0 where
  pub done : (request : ℕ) → message_by lines (outcome_at it request) ≡ done_of lines request
  pub gone : (request : ℕ) → is_gone (outcome_at it request) ≡ say.is_gone lines request
  pub moved : (request : ℕ) → is_moved (outcome_at it request) ≡ say.is_moved lines request
  pub left_out : (request : ℕ) → is_left_out (outcome_at it request) ≡ say.is_left_out lines request
  pub settled : (request : ℕ) → is_settled (outcome_at it request) ≡ say.is_settled lines request
