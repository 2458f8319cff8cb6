-- What a list has where it goes on after receives of which it was never reported what they took: their sinks. What
-- stands for its entries, and where it ends, by the sinks before them; and the call that its rank was in.
use Rattle.std.specs.Prelude.{ℕ, pos, Bool, true, false, ◌&&◌, ◌||◌, not, ◌==◌, Option, Some, None, is_some, is_none, option_and_then, if◌then◌else◌, List, [], ◌∷◌, ◌++◌}
use Rattle.std.specs.List.{find, list_any}
use Rattle.std.specs.Option.{option_map_or}
use Rattle.mpicall.specs.Word.{or_else}
use Rattle.mpicall.specs.declared.call.Call.{Call}
use Rattle.mpicall.specs.declared.call.Call.TheVariants.{Irecv, Open}
use Rattle.mpicall.specs.declared.call.Mode.TheVariants.{Standard}
use Rattle.mpicall.specs.declared.call.Peer.TheVariants as peer
use Rattle.journals.specs.Known.{has_report, report_of, requests_in}
use Rattle.journals.specs.declared.field.Field.{Field}
use Rattle.journals.specs.declared.field.Field.TheVariants.{Signed, Null}
use Rattle.journals.specs.declared.word.ReportWord.TheVariants as report
use Rattle.closing.specs.Called.{Called, Sent, Awaited, Receives, StartsReceive, Exchanges, StartsExchange, Probes, ProbesMatching, ReceivesMatched, Waits, Tests, WaitsAny, WaitsSome}
use Rattle.closing.specs.Entries.{Run, Placed, is_window}
use Rattle.closing.specs.Reported.{Message, is_gone}
use Rattle.closing.specs.Steps.{Id, Own, Whole, Sink, Written, Step, Starts}
use Rattle.closing.specs.Endings.{awaited_at, message_at, breaks_off, can_be, first_of, lacks_number, number_at}
use Rattle.closing.specs.Entry.{Choice, ids_of, is_past, start_send}
use Rattle.closing.specs.declared.pending.Wanted.{Wanted}
use Rattle.closing.specs.declared.why.Why.{Why}
use Rattle.closing.specs.declared.why.Why.TheVariants.{NeverCameBack, Failed, NoNumber, CannotBe, NotJudged}

-- ---- Messages ----

abbrev pub are_alike : Option ℕ → Option ℕ → Bool
are_alike (Some one) (Some other) = one == other
are_alike one other = true

-- some message may be taken by both
abbrev pub overlap : Wanted → Wanted → Bool
overlap it other = it.comm == other.comm && (are_alike it.source other.source && are_alike it.tag other.tag)

-- the number of a rank or a tag; None of a wildcard
abbrev pub number_of : Field → Option ℕ
number_of (Signed (pos number)) = Some number
number_of _ = None

-- what may be taken, with what is reported in the place of wildcards
abbrev pub wanted_by : ℕ → Awaited → Option Message → Wanted
wanted_by comm awaited None = record { comm = comm; source = number_of awaited.source; tag = number_of awaited.tag }
wanted_by comm awaited (Some it) = record { comm = comm; source = number_of it.source; tag = number_of it.tag }

abbrev pub is_nobody : Field → Bool
is_nobody Null = true
is_nobody field = false

-- the request of a receive that is started
abbrev pub request_received : Called → Option ℕ
request_received (StartsReceive request awaited) = Some request
request_received (StartsExchange request received sent awaited) = Some received
request_received it = None

-- it takes nothing: nobody sends it, or it was cancelled
abbrev pub takes_nothing : Placed → Awaited → Bool
takes_nothing placed awaited =
    is_nobody awaited.source || (option_map_or (λ it. is_nobody it.source) (message_at placed) false
    || option_map_or (is_gone placed.journal.lines) (request_received placed.called) false)

-- of which messages an entry's receive or probe takes or sees one, on the communicator with this number
abbrev pub wanted_at : Placed → ℕ → Option Wanted
wanted_at placed comm =
    option_and_then (λ it. if takes_nothing placed it.0 then None else Some (wanted_by comm it.0 (message_at placed))) (awaited_at placed)

-- ---- The sinks of a list ----

abbrev pub sink_in : Option Id → Option Wanted
sink_in (Some (Sink own wanted is_known)) = Some wanted
sink_in it = None

-- a sink may take what is wanted
abbrev pub is_met : List Written → Wanted → Bool
is_met records wanted = list_any (λ one. option_map_or (overlap wanted) (sink_in one.starts) false) records

-- the sink is that of the request or message
abbrev pub is_of : Id → Option Id → Bool
is_of (Own request) (Some (Sink (Some own) wanted is_known)) = own == request
is_of id it = false

-- what the sink of a request may take
abbrev pub sink_for : List Written → Id → Option Wanted
sink_for records id = option_and_then (λ one. sink_in one.starts) (find (λ one. is_of id one.starts) records)

abbrev pub name_sink : List Written → Placed → List ℕ → Bool
name_sink records placed requests = list_any (λ id. is_some (sink_for records id)) (ids_of placed.journal.lines requests)

-- ---- Entries that receive or probe ----

-- a list goes on for an entry, or ends
pub data Outcome : Type 0 where
  GoesOn : List Step → Outcome
  Ends : List Step → Call → Option Why → Outcome

abbrev pub ends : Why → Outcome
ends why = Ends [] Open (Some why)

-- a receive from nobody in the place of one; its request or message, where it has one of the journal
abbrev pub sinks : Placed → Wanted → Option ℕ → Step
sinks placed wanted own = Starts (Sink own wanted (is_some (message_at placed))) (λ request. Irecv request wanted.comm peer.Null 0)

abbrev pub starts_half : Wanted → Id → Sent → Step
starts_half wanted id sent = Starts id (start_send Standard wanted.comm sent)

-- of a call that blocks: it never came back, and is pending; it isn't known which message it took; as it went, it took one
-- that a sink may take
abbrev pub blocks : Choice → Placed → List Step → List Step → Outcome
blocks choice placed pending past =
    if not placed.came_back then Ends pending Open (Some NeverCameBack)
    else if is_none (message_at placed) then ends NeverCameBack
    else if is_past choice.calls placed then GoesOn past
    else ends NotJudged

-- of a call that takes one of these messages, and it isn't known that no sink took it
abbrev pub unsure : Choice → Placed → Wanted → Called → Outcome
unsure choice placed wanted (Receives awaited) = blocks choice placed [] (sinks placed wanted None ∷ [])
unsure choice placed wanted (Exchanges sent awaited) =
    let both = starts_half wanted (Whole placed.line) sent ∷ sinks placed wanted None ∷ [] in blocks choice placed both both
unsure choice placed wanted (Probes awaited) = blocks choice placed [] []
unsure choice placed wanted (ProbesMatching message awaited) = blocks choice placed [] (sinks placed wanted (Some message) ∷ [])
unsure choice placed wanted (StartsReceive request awaited) = GoesOn (sinks placed wanted (Some request) ∷ [])
unsure choice placed wanted (StartsExchange request received sent awaited) =
    GoesOn ((if is_gone placed.journal.lines request then [] else starts_half wanted (Own request) sent ∷ []) ++ sinks placed wanted (Some received) ∷ [])
unsure choice placed wanted it = GoesOn []

abbrev pub takes_by : Choice → List Written → Placed → Wanted → Option Outcome
takes_by choice records placed wanted =
    if is_none (message_at placed) || is_met records wanted then Some (unsure choice placed wanted placed.called) else None

-- ---- Waits ----

-- a wait that names a sink: as it went, it stands for nothing once it came back
abbrev pub waits_by : Choice → List Written → Placed → List ℕ → Option Outcome
waits_by choice records placed requests =
    if is_past choice.calls placed || not (name_sink records placed requests) then None
    else Some (ends (if placed.came_back then NotJudged else NeverCameBack))

-- one for any or some of several: by those that it chose
abbrev pub chooses_by : Choice → List Written → Placed → List ℕ → Option Outcome
chooses_by choice records placed (request ∷ []) = waits_by choice records placed (request ∷ [])
chooses_by choice records placed requests =
    option_and_then (λ line. waits_by choice records placed (requests_in (Some line))) (report_of report.Chose placed.entry)

-- ---- By the call ----

-- neither does the call break the list off, nor did it fail; and it can be, on a communicator with a number
abbrev pub is_sound : Run → Placed → Bool
is_sound run placed =
    is_none (or_else (breaks_off (is_window run) placed.called)
    (first_of ((has_report report.Failed placed.entry, Failed) ∷ (not (can_be run placed), CannotBe) ∷ (lacks_number run placed, NoNumber) ∷ [])))

abbrev pub by_call : Run → Choice → List Written → Placed → Called → Option Outcome
by_call run choice records placed (ReceivesMatched message) = waits_by choice records placed (message ∷ [])
by_call run choice records placed (Waits requests) = waits_by choice records placed requests
by_call run choice records placed (Tests requests) = waits_by choice records placed requests
by_call run choice records placed (WaitsAny requests) = chooses_by choice records placed requests
by_call run choice records placed (WaitsSome requests) = chooses_by choice records placed requests
by_call run choice records placed it =
    option_and_then (takes_by choice records placed) (option_and_then (wanted_at placed) (number_at run placed))

-- what comes of an entry by the sinks before it; None where that is what comes of it without them
abbrev pub outcome_by_sinks : Run → Choice → List Written → Placed → Option Outcome
outcome_by_sinks run choice records placed = if is_sound run placed then by_call run choice records placed placed.called else None
