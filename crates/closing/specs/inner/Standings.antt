-- What the requests of a journal are in the trace, as it is kept.
use Rattle.std.specs.Prelude.{ℕ, nat_eq, Option, unwrap_or, if◌then◌else◌, List, [], ◌∷◌}
use Rattle.std.specs.HashMap.{get}
use Rattle.journals.specs.declared.field.Field.{Field}
use Rattle.journals.specs.declared.field.Field.TheVariants.{Natural}
use Rattle.closing.specs.inner.Outcomes.{is_left_out, outcome_at}
use Rattle.closing.specs.declared.standing.Standing.{Standing}

-- the message that a request takes, if it is that of a started matched receive
abbrev pub message_for : Standing → ℕ → Option ℕ
message_for standing request = get nat_eq standing.matched request

-- what a request is in the trace: itself, or the message that it receives
abbrev pub id_in : Standing → ℕ → ℕ
id_in standing request = unwrap_or (message_for standing request) request

-- what these requests are, but those that waits leave out
abbrev pub ids_in : Standing → List Field → List ℕ
ids_in standing [] = []
ids_in standing (Natural request ∷ fields) =
    if is_left_out (outcome_at standing.outcomes request) then ids_in standing fields
    else id_in standing request ∷ ids_in standing fields
ids_in standing (field ∷ fields) = ids_in standing fields
