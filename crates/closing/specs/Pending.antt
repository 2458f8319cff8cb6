-- The call that a rank was in when its list was left open, and the sinks of its list.
use Rattle.std.specs.Prelude.{ℕ, suc, Bool, true, false, ◌&&◌, not, ◌==◌, Option, Some, None, is_some, option_map, option_and_then, option_to_list, if◌then◌else◌, List, [], ◌∷◌, ◌++◌}
use Rattle.std.specs.List.{filter_map, list_all}
use Rattle.mpicall.specs.Word.{or_else}
use Rattle.closing.specs.Called.{Called, Receives, Exchanges, Probes, ProbesMatching, ReceivesMatched, Waits, WaitsAny, WaitsSome}
use Rattle.closing.specs.Entries.{Run, Placed, entries_at}
use Rattle.closing.specs.Reported.{is_left_out}
use Rattle.closing.specs.Steps.{Whole, Written, number_in}
use Rattle.closing.specs.Endings.{number_at}
use Rattle.closing.specs.Entry.{Choice, id_of}
use Rattle.closing.specs.Recording.{Listed, list_of}
use Rattle.closing.specs.Sinks.{sink_for, sink_in, wanted_at}
use Rattle.closing.specs.declared.choice.Unreported.{Unreported}
use Rattle.closing.specs.declared.choice.Unreported.TheVariants as unreported
use Rattle.closing.specs.declared.pending.Item.{Item}
use Rattle.closing.specs.declared.pending.Item.TheVariants as item
use Rattle.closing.specs.declared.pending.Pending.{Pending}
use Rattle.closing.specs.declared.pending.Sink.{Sink}
use Rattle.closing.specs.declared.why.Why.{Why}
use Rattle.closing.specs.declared.why.Why.TheVariants.{NeverCameBack}

-- ---- Sinks ----

abbrev pub sinks_from : ℕ → List Written → List Sink
sinks_from place [] = []
sinks_from place (one ∷ records) =
    option_to_list (option_map (λ wanted. record { place = place; wanted = wanted }) (sink_in one.starts)) ++ sinks_from (suc place) records

-- those of a list, by their places
abbrev pub sinks_of : Listed → List Sink
sinks_of list = sinks_from 0 list.records

-- ---- Pending calls ----

-- it comes back once all of its items came, or one of them; without items nothing is known of it
pub record PendingCall : Type 0 where
  pub is_for_all : Bool
  pub items : List Item

-- one that is kept
abbrev pub pending_said : Pending → PendingCall
pending_said it = record { is_for_all = it.is_for_all; items = it.items.items }

abbrev pub unknown : PendingCall
unknown = record { is_for_all = true; items = [] }

abbrev pub for_all : List Item → PendingCall
for_all items = record { is_for_all = true; items = items }

-- the message of its receive or probe
abbrev pub message_items : Run → Placed → List Item
message_items run placed =
    option_to_list (option_map (λ wanted. item.Message wanted) (option_and_then (wanted_at placed) (number_at run placed)))

-- the request of its send, which its list starts
abbrev pub send_items : Listed → Placed → List Item
send_items list placed = option_to_list (option_map (λ number. item.Request number) (number_in list.active (Whole placed.line)))

-- a request by its sink, else by its number; None of one that doesn't stand in the list
abbrev pub item_of : Listed → Placed → ℕ → Option Item
item_of list placed request =
    if is_left_out placed.journal.lines request then None
    else or_else (option_map (λ wanted. item.Message wanted) (sink_for list.records (id_of placed.journal.lines request)))
    (option_map (λ number. item.Request number) (number_in list.active (id_of placed.journal.lines request)))

abbrev pub waits_for_all : Listed → Placed → List ℕ → PendingCall
waits_for_all list placed requests = for_all (filter_map (item_of list placed) requests)

-- for any or some of several: by all of these, or nothing is known of it
abbrev pub waits_for_any : Listed → Placed → List ℕ → PendingCall
waits_for_any list placed (request ∷ []) = waits_for_all list placed (request ∷ [])
waits_for_any list placed requests = record {
  is_for_all = false;
  items = if list_all (λ request. is_some (item_of list placed request)) requests then filter_map (item_of list placed) requests else [];
}

abbrev pub pending_by : Run → Listed → Placed → Called → PendingCall
pending_by run list placed (Receives awaited) = for_all (message_items run placed)
pending_by run list placed (Exchanges sent awaited) = for_all (send_items list placed ++ message_items run placed)
pending_by run list placed (Probes awaited) = for_all (message_items run placed)
pending_by run list placed (ProbesMatching message awaited) = for_all (message_items run placed)
pending_by run list placed (ReceivesMatched message) = waits_for_all list placed (message ∷ [])
pending_by run list placed (Waits requests) = waits_for_all list placed requests
pending_by run list placed (WaitsAny requests) = waits_for_any list placed requests
pending_by run list placed (WaitsSome requests) = waits_for_any list placed requests
pending_by run list placed it = unknown

-- the list ends at the entry, which never came back
abbrev pub is_pending : Listed → Placed → Bool
is_pending list placed = by_why list.why
  where
    by_why : Option Why → Bool
    by_why (Some NeverCameBack) = not placed.came_back && placed.line == list.line
    by_why other = false

-- by the rank's last entry
abbrev pub pending_in : Run → Listed → List Placed → PendingCall
pending_in run list [] = unknown
pending_in run list (placed ∷ []) = if is_pending list placed then pending_by run list placed placed.called else unknown
pending_in run list (placed ∷ others) = pending_in run list others

-- that of a rank; without sinks none is known
abbrev pub pending_of : Run → Choice → ℕ → PendingCall
pending_of run choice rank = by_choice choice.unreported
  where
    by_choice : Unreported → PendingCall
    by_choice unreported.Ends = unknown
    by_choice unreported.Sinks = pending_in run (list_of run choice rank) (entries_at run rank)
