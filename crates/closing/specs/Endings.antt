-- At which entry, and why, the list of a rank ends before its end. The rules are asked in this order: what the rank
-- does from here on isn't known, or was cut off alone; the call failed; what can't be; a communicator without a number; a receive or a
-- cancel of which nothing was reported; a call that never came back, and nothing is known of what it waits for.
use Rattle.std.specs.Prelude.{ℕ, Bool, true, false, ◌&&◌, not, Option, Some, None, is_some, is_none, option_and_then, if◌then◌else◌, List, [], ◌∷◌, length}
use Rattle.std.specs.Option.{option_map_or}
use Rattle.mpicall.specs.Word.{or_else}
use Rattle.journals.specs.Known.{has_report, report_of}
use Rattle.journals.specs.declared.word.ReportWord.TheVariants as report
use Rattle.closing.specs.Called.{Called, Sent, Awaited, Sends, StartsSend, Receives, StartsReceive, Exchanges, StartsExchange, Probes, ProbesMatching, WaitsAny, WaitsSome, Cancels, Collects, StartsCollective, MakesOfGroup, Aborts, Fills, Stops, Cuts, comm_of}
use Rattle.closing.specs.Keys.{group_of_key}
use Rattle.closing.specs.Entries.{Run, Placed, is_window}
use Rattle.closing.specs.Numbers.{named_key, number_of}
use Rattle.closing.specs.Reported.{Message, done_of, got_in, unless_moved, is_gone, is_settled, message_of, message_can_be, peer_can_be, tag_can_be, root_can_be}
use Rattle.closing.specs.declared.why.Why.{Why}
use Rattle.closing.specs.declared.why.Why.TheVariants.{NeverCameBack, NeverReported, Failed, NoNumber, CannotBe, Stopped, Aborted, Full, Cut}

-- ---- Messages ----

-- what a receive or probe awaits, and what is reported of it; None of another call
abbrev pub awaited_at : Placed → Option (Awaited × Option Message)
awaited_at placed = awaited_by placed.called
  where
    awaited_by : Called → Option (Awaited × Option Message)
    awaited_by (Receives awaited) = Some (awaited, got_in placed.entry)
    awaited_by (StartsReceive request awaited) =
        Some (unless_moved placed.journal.lines request awaited, done_of placed.journal.lines request)
    awaited_by (Exchanges sent awaited) = Some (awaited, got_in placed.entry)
    awaited_by (StartsExchange request received sent awaited) =
        Some (unless_moved placed.journal.lines received awaited, done_of placed.journal.lines received)
    awaited_by (Probes awaited) = Some (awaited, got_in placed.entry)
    awaited_by (ProbesMatching message awaited) = Some (awaited, got_in placed.entry)
    awaited_by it = None

-- the message that an entry's receive or probe takes or sees, where it is known
abbrev pub message_at : Placed → Option Message
message_at placed = option_and_then (λ it. message_of it.0 it.1) (awaited_at placed)

-- ---- What can't be ----

-- how many ranks the communicator has that the call is on
abbrev pub size_at : Run → Placed → ℕ
size_at run placed = option_map_or (λ key. length (group_of_key (length run) key)) (named_key placed) 0

abbrev pub sent_can_be : ℕ → Sent → Bool
sent_can_be size sent = peer_can_be size sent.dest && tag_can_be sent.tag

-- of what a call sends, and of its root
abbrev pub sends_can_be : ℕ → Called → Bool
sends_can_be size (Sends mode sent) = sent_can_be size sent
sends_can_be size (StartsSend request mode sent) = sent_can_be size sent
sends_can_be size (Exchanges sent awaited) = sent_can_be size sent
sends_can_be size (StartsExchange request received sent awaited) = sent_can_be size sent
sends_can_be size (Collects collective comm root) = root_can_be size collective root
sends_can_be size (StartsCollective request collective comm root) = root_can_be size collective root
sends_can_be size it = true

-- of what it awaits, with its wildcards and with what is reported
abbrev pub awaited_can_be : ℕ → Awaited × Option Message → Bool
awaited_can_be size (awaited, reported) =
    peer_can_be size awaited.source && tag_can_be awaited.tag && message_can_be size (message_of awaited reported)

abbrev pub can_be : Run → Placed → Bool
can_be run placed =
    sends_can_be (size_at run placed) placed.called && option_map_or (awaited_can_be (size_at run placed)) (awaited_at placed) true

-- ---- A communicator without a number ----

abbrev pub needs_number : Called → Bool
needs_number (MakesOfGroup group) = true
needs_number it = is_some (comm_of it)

-- the number in the head of the communicator that the call is on, or makes of a group
abbrev pub number_at : Run → Placed → Option ℕ
number_at run placed = option_and_then (number_of run) (named_key placed)

abbrev pub lacks_number : Run → Placed → Bool
lacks_number run placed = needs_number placed.called && is_none (number_at run placed)

-- ---- What was never reported ----

-- a started receive with a wildcard, of which no message is known and which wasn't cancelled
abbrev pub lacks_message : Placed → ℕ → Bool
lacks_message placed request = is_none (message_at placed) && not (is_gone placed.journal.lines request)

abbrev pub is_unreported : Placed → Called → Bool
is_unreported placed (StartsReceive request awaited) = lacks_message placed request
is_unreported placed (StartsExchange request received sent awaited) = lacks_message placed received
is_unreported placed (Cancels request) = not (is_settled placed.journal.lines request)
is_unreported placed it = false

-- ---- What never came back ----

-- a wait for any or some of several that chose none
abbrev pub chose_none : Placed → List ℕ → Bool
chose_none placed (request ∷ []) = false
chose_none placed requests = is_none (report_of report.Chose placed.entry)

-- nothing is known of what the call waits for
abbrev pub is_unknown : Placed → Called → Bool
is_unknown placed (Receives awaited) = is_none (message_at placed)
is_unknown placed (Exchanges sent awaited) = is_none (message_at placed)
is_unknown placed (Probes awaited) = is_none (message_at placed)
is_unknown placed (ProbesMatching message awaited) = is_none (message_at placed)
is_unknown placed (WaitsAny requests) = chose_none placed requests
is_unknown placed (WaitsSome requests) = chose_none placed requests
is_unknown placed it = false

-- ---- Why an entry ends the list ----

-- a cut does where the journal of another rank goes on
abbrev pub breaks_off : Bool → Called → Option Why
breaks_off is_window Stops = Some Stopped
breaks_off is_window Aborts = Some Aborted
breaks_off is_window Fills = Some Full
breaks_off is_window Cuts = if is_window then None else Some Cut
breaks_off is_window it = None

-- the first that is the case
abbrev pub first_of : List (Bool × Why) → Option Why
first_of [] = None
first_of ((true, why) ∷ others) = Some why
first_of ((false, why) ∷ others) = first_of others

-- why the entry ends its rank's list; None where the list goes on
abbrev pub why_at : Run → Placed → Option Why
why_at run placed =
    or_else (breaks_off (is_window run) placed.called)
    (first_of ((has_report report.Failed placed.entry, Failed) ∷ (not (can_be run placed), CannotBe)
    ∷ (lacks_number run placed, NoNumber) ∷ (is_unreported placed placed.called, NeverReported)
    ∷ (is_unknown placed placed.called, NeverCameBack) ∷ []))
