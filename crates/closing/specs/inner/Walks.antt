-- What stands for an entry, by what is known of where its call stands: as `Endings` and `Entry` have it, by each call.
use Rattle.std.specs.Prelude.{ℕ, ℤ, Bool, true, false, ◌&&◌, Option, Some, None, option_map, if◌then◌else◌, List, [], ◌∷◌, ◌++◌}
use Rattle.mpicall.specs.declared.call.Call.{Call}
use Rattle.mpicall.specs.declared.call.Call.TheVariants.{Coll, Open}
use Rattle.mpicall.specs.declared.call.Mode.{Mode}
use Rattle.mpicall.specs.declared.call.Mode.TheVariants.{Standard}
use Rattle.mpicall.specs.declared.call.Kind.{Kind}
use Rattle.mpicall.specs.declared.call.Kind.TheVariants as kind
use Rattle.mpicall.specs.declared.word.Collective.{Collective}
use Rattle.journals.specs.Lines.{Line}
use Rattle.journals.specs.Known.{report_of, requests_in}
use Rattle.journals.specs.declared.word.ReportWord.TheVariants as report
use Rattle.closing.specs.Called.{Called, Sent, Awaited, Sends, StartsSend, Receives, StartsReceive, Exchanges, StartsExchange, Probes, ProbesMatching, ReceivesMatched, Waits, Tests, WaitsAny, WaitsSome, Cancels, Collects, StartsCollective, Duplicates, Splits, Makes, StartsDuplicate, MakesOfGroup}
use Rattle.closing.specs.Entries.{Run, Placed}
use Rattle.closing.specs.Reported.{Message, done_of, got_in, is_gone, is_settled, message_of, root_can_be, unless_moved}
use Rattle.closing.specs.Steps.{Own, Whole, ReceiveHalf, Step, Does, Starts}
use Rattle.closing.specs.Endings.{size_at, number_at, sent_can_be, awaited_can_be}
use Rattle.closing.specs.Entry.{Choice, send, start_send, receive, start_receive, exchange, probe, start_collective, kind_of, is_past, maker, unless_past, wait_for_all, wait_for_any, test}
use Rattle.closing.specs.Sinks.{Outcome, GoesOn, Ends}
use Rattle.closing.specs.declared.why.Why.{Why}
use Rattle.closing.specs.declared.why.Why.TheVariants.{NeverCameBack, NeverReported, NoNumber, CannotBe}

-- ---- Where an entry's call stands ----

pub record Spot : Type 0 where
  -- how many members the communicator has that the call is on, and its number in the head
  pub size : ℕ
  pub number : Option ℕ
  -- the number of its line
  pub line : ℕ
  pub is_past : Bool
  pub lines : List Line
  -- the message, and the requests, that are reported of it
  pub got : Option Message
  pub chose : Option (List ℕ)
  -- what the call stands for if all members make it, by the communicator's number
  pub maker : ℕ → Call

abbrev pub spot_of : Run → Choice → Placed → Spot
spot_of run choice placed = record {
  size = size_at run placed;
  number = number_at run placed;
  line = placed.line;
  is_past = is_past choice.calls placed;
  lines = placed.journal.lines;
  got = got_in placed.entry;
  chose = option_map (λ line. requests_in (Some line)) (report_of report.Chose placed.entry);
  maker = maker run placed;
}

-- ---- Outcomes ----

abbrev pub ends : Why → Outcome
ends why = Ends [] Open (Some why)

-- what the call names can be, and its communicator has a number
abbrev pub numbered : Bool → Option ℕ → (ℕ → Outcome) → Outcome
numbered false number others = ends CannotBe
numbered true None others = ends NoNumber
numbered true (Some number) others = others number

-- by the message, where it is known; else the call never came back
abbrev pub known_or_ends : Option Message → (Message → List Step) → Outcome
known_or_ends None steps = ends NeverCameBack
known_or_ends (Some it) steps = GoesOn (steps it)

-- this line, or what it starts
abbrev pub does_at : Spot → Call → (ℕ → Call) → List Step
does_at spot call start = if spot.is_past then Starts (Whole spot.line) start ∷ [] else Does call ∷ []

abbrev pub starts_at : Spot → ℕ → (ℕ → Call) → List Step
starts_at spot request start = if is_gone spot.lines request then [] else Starts (Own request) start ∷ []

-- after these steps the start of a receive, unless it was cancelled; without its message the list ends
abbrev pub receives_after : List Step → Spot → ℕ → ℕ → Option Message → Outcome
receives_after steps spot comm request None = if is_gone spot.lines request then GoesOn steps else Ends steps Open (Some NeverReported)
receives_after steps spot comm request (Some it) = GoesOn (steps ++ starts_at spot request (start_receive comm it))

abbrev pub sends_on : Spot → Mode → Sent → Outcome
sends_on spot mode sent =
    numbered (sent_can_be spot.size sent) spot.number (λ comm. GoesOn (does_at spot (send mode comm sent) (start_send mode comm sent)))

abbrev pub starts_send_on : Spot → ℕ → Mode → Sent → Outcome
starts_send_on spot request mode sent =
    numbered (sent_can_be spot.size sent) spot.number (λ comm. GoesOn (starts_at spot request (start_send mode comm sent)))

abbrev pub receives_on : Spot → Awaited → Outcome
receives_on spot awaited =
    numbered (awaited_can_be spot.size (awaited, spot.got)) spot.number
    (λ comm. known_or_ends (message_of awaited spot.got) (λ it. does_at spot (receive comm it) (start_receive comm it)))

abbrev pub starts_receive_on : Spot → ℕ → Awaited → Outcome
starts_receive_on spot request awaited =
    numbered (awaited_can_be spot.size (awaited, done_of spot.lines request)) spot.number
    (λ comm. receives_after [] spot comm request (message_of awaited (done_of spot.lines request)))

abbrev pub exchanges_at : Spot → ℕ → Sent → Message → List Step
exchanges_at spot comm sent it =
    if spot.is_past
    then Starts (Whole spot.line) (start_send Standard comm sent) ∷ Starts (ReceiveHalf spot.line) (start_receive comm it) ∷ []
    else Does (exchange comm sent it) ∷ []

abbrev pub exchanges_on : Spot → Sent → Awaited → Outcome
exchanges_on spot sent awaited =
    numbered (sent_can_be spot.size sent && awaited_can_be spot.size (awaited, spot.got)) spot.number
    (λ comm. known_or_ends (message_of awaited spot.got) (exchanges_at spot comm sent))

abbrev pub starts_exchange_on : Spot → ℕ → ℕ → Sent → Awaited → Outcome
starts_exchange_on spot request received sent awaited =
    numbered (sent_can_be spot.size sent && awaited_can_be spot.size (awaited, done_of spot.lines received)) spot.number
    (λ comm. receives_after (starts_at spot request (start_send Standard comm sent)) spot comm received
    (message_of awaited (done_of spot.lines received)))

abbrev pub probes_at : Spot → ℕ → Message → List Step
probes_at spot comm it = unless_past spot.is_past (Does (probe comm it) ∷ [])

abbrev pub probes_on : Spot → Awaited → Outcome
probes_on spot awaited =
    numbered (awaited_can_be spot.size (awaited, spot.got)) spot.number
    (λ comm. known_or_ends (message_of awaited spot.got) (probes_at spot comm))

abbrev pub probes_matching_on : Spot → ℕ → Awaited → Outcome
probes_matching_on spot message awaited =
    numbered (awaited_can_be spot.size (awaited, spot.got)) spot.number
    (λ comm. known_or_ends (message_of awaited spot.got)
    (λ it. probes_at spot comm it ++ Starts (Own message) (start_receive comm it) ∷ []))

abbrev pub collects_at : Spot → Kind → ℕ → List Step
collects_at spot it comm = does_at spot (Coll comm it) (start_collective comm it)

abbrev pub collects_on : Spot → Collective → Option ℤ → Outcome
collects_on spot collective root =
    numbered (root_can_be spot.size collective root) spot.number (λ comm. GoesOn (collects_at spot (kind_of collective root) comm))

abbrev pub starts_collective_on : Spot → ℕ → Collective → Option ℤ → Outcome
starts_collective_on spot request collective root =
    numbered (root_can_be spot.size collective root) spot.number
    (λ comm. GoesOn (starts_at spot request (start_collective comm (kind_of collective root))))

abbrev pub starts_duplicate_on : Spot → ℕ → Outcome
starts_duplicate_on spot request =
    numbered true spot.number (λ comm. GoesOn (starts_at spot request (start_collective comm kind.Barrier)))

abbrev pub makes_of_group_on : Spot → Outcome
makes_of_group_on spot = numbered true spot.number (λ comm. GoesOn (collects_at spot kind.Barrier comm))

abbrev pub makes_on : Spot → Outcome
makes_on spot = numbered true spot.number (λ comm. GoesOn (Does (spot.maker comm) ∷ []))

-- ---- Waits ----

abbrev pub waits_on : Spot → List ℕ → Outcome
waits_on spot requests = GoesOn (unless_past spot.is_past (wait_for_all spot.lines requests))

abbrev pub tests_on : Choice → Spot → List ℕ → Outcome
tests_on choice spot requests = GoesOn (unless_past spot.is_past (test choice spot.lines requests))

-- the requests that were chosen, where that is reported; else the call never came back
abbrev pub chosen_or_ends : Option (List ℕ) → (List ℕ → List Step) → Outcome
chosen_or_ends None steps = ends NeverCameBack
chosen_or_ends (Some requests) steps = GoesOn (steps requests)

abbrev pub waits_any_on : Spot → List ℕ → Outcome
waits_any_on spot (request ∷ []) = waits_on spot (request ∷ [])
waits_any_on spot requests =
    chosen_or_ends spot.chose (λ wanted. unless_past spot.is_past (wait_for_any spot.lines requests wanted))

abbrev pub waits_some_on : Spot → List ℕ → Outcome
waits_some_on spot (request ∷ []) = waits_on spot (request ∷ [])
waits_some_on spot requests =
    chosen_or_ends spot.chose (λ wanted. unless_past spot.is_past (wait_for_all spot.lines wanted))

abbrev pub cancels_on : Spot → ℕ → Outcome
cancels_on spot request = if is_settled spot.lines request then GoesOn [] else ends NeverReported

-- ---- By the call ----

-- one that isn't the rank's last and didn't fail
abbrev pub outcome_on : Choice → Spot → Called → Outcome
outcome_on choice spot (Sends mode sent) = sends_on spot mode sent
outcome_on choice spot (StartsSend request mode sent) = starts_send_on spot request mode sent
outcome_on choice spot (Receives awaited) = receives_on spot awaited
outcome_on choice spot (StartsReceive request awaited) = starts_receive_on spot request (unless_moved spot.lines request awaited)
outcome_on choice spot (Exchanges sent awaited) = exchanges_on spot sent awaited
outcome_on choice spot (StartsExchange request received sent awaited) =
    starts_exchange_on spot request received sent (unless_moved spot.lines received awaited)
outcome_on choice spot (Probes awaited) = probes_on spot awaited
outcome_on choice spot (ProbesMatching message awaited) = probes_matching_on spot message awaited
outcome_on choice spot (ReceivesMatched message) = waits_on spot (message ∷ [])
outcome_on choice spot (Waits requests) = waits_on spot requests
outcome_on choice spot (Tests requests) = tests_on choice spot requests
outcome_on choice spot (WaitsAny requests) = waits_any_on spot requests
outcome_on choice spot (WaitsSome requests) = waits_some_on spot requests
outcome_on choice spot (Cancels request) = cancels_on spot request
outcome_on choice spot (Collects collective comm root) = collects_on spot collective root
outcome_on choice spot (StartsCollective request collective comm root) = starts_collective_on spot request collective root
outcome_on choice spot (StartsDuplicate request comm) = starts_duplicate_on spot request
outcome_on choice spot (MakesOfGroup group) = makes_of_group_on spot
outcome_on choice spot (Duplicates comm) = makes_on spot
outcome_on choice spot (Splits comm colour key) = makes_on spot
outcome_on choice spot (Makes comm) = makes_on spot
outcome_on choice spot it = GoesOn []
