-- Law of plain journals, whose calls stand in a trace as they are: a list of one is the same calls, but for
-- numbers of requests.
use Rattle.std.specs.Prelude.{◌≡◌, ◌<◌, ℕ, Bool, true, false, ◌&&◌, not, ◌==◌, nat_le, Option, Some, None, List, [], ◌∷◌, ◌++◌, length, map}
use Rattle.std.specs.List.{list_all, filter, flat_map}
use Rattle.mpicall.specs.declared.limits.TheConstants.{MOST_REQUESTS}
use Rattle.mpicall.specs.declared.call.Call.{Call}
use Rattle.mpicall.specs.declared.call.Call.TheVariants.{Coll, Finalize}
use Rattle.journals.specs.Known.{is_among, are_distinct}
use Rattle.closing.specs.Called.{Called, Sends, StartsSend, Receives, StartsReceive, Exchanges, Probes, Waits, Collects, StartsCollective}
use Rattle.closing.specs.Entries.{Run, Placed, lines_at, entries_at}
use Rattle.closing.specs.Reported.{Message, is_left_out}
use Rattle.closing.specs.Numbers.{preface_of}
use Rattle.closing.specs.Steps.{wait_for}
use Rattle.closing.specs.Endings.{message_at, number_at}
use Rattle.closing.specs.Entry.{Choice, send, start_send, receive, start_receive, exchange, probe, start_collective, kind_of, matched_message}
use Rattle.closing.specs.Recording.{calls_of, most_records, whole_list, list_of}
use Rattle.closing.specs.declared.choice.Calls.TheVariants.{Strict}
use Rattle.lawful.specs.Free.{AreGoneThrough}

-- ---- The same call ----

abbrev pub is_plain : Called → Bool
is_plain (Sends mode it) = true
is_plain (StartsSend request mode it) = true
is_plain (Receives it) = true
is_plain (StartsReceive request it) = true
is_plain (Exchanges it other) = true
is_plain (Probes it) = true
is_plain (Waits requests) = true
is_plain (Collects collective comm root) = true
is_plain (StartsCollective request collective comm root) = true
is_plain it = false

-- the call of the trace that says the same, by numbers of requests, that of its communicator and its message
abbrev pub same_call : (ℕ → ℕ) → Option ℕ → Option Message → Called → List Call
same_call number (Some comm) message (Sends mode sent) = send mode comm sent ∷ []
same_call number (Some comm) message (StartsSend request mode sent) =
    start_send mode comm sent (number request) ∷ []
same_call number (Some comm) (Some it) (Receives awaited) = receive comm it ∷ []
same_call number (Some comm) (Some it) (StartsReceive request awaited) =
    start_receive comm it (number request) ∷ []
same_call number (Some comm) (Some it) (Exchanges sent awaited) = exchange comm sent it ∷ []
same_call number (Some comm) (Some it) (Probes awaited) = probe comm it ∷ []
same_call number (Some comm) message (Collects collective own root) = Coll comm (kind_of collective root) ∷ []
same_call number (Some comm) message (StartsCollective request collective own root) =
    start_collective comm (kind_of collective root) (number request) ∷ []
same_call number comm message (Waits requests) = wait_for (map number requests)
same_call number comm message it = []

abbrev pub same_call_at : Run → (ℕ → ℕ) → Placed → List Call
same_call_at run number placed = same_call number (number_at run placed) (message_at placed) placed.called

-- it is one call; none stands for a wait for no request
abbrev pub is_said_once : Called → List Call → Bool
is_said_once (Waits []) calls = true
is_said_once it calls = length calls == 1

-- ---- Requests ----

-- the requests that a call starts, and those that it waits for
abbrev pub started_by : Called → List ℕ
started_by (StartsSend request mode it) = request ∷ []
started_by (StartsReceive request it) = request ∷ []
started_by (StartsCollective request collective comm root) = request ∷ []
started_by it = []

abbrev pub waited_by : Called → List ℕ
waited_by (Waits requests) = requests
waited_by it = []

-- some requests without others
abbrev pub but : List ℕ → List ℕ → List ℕ
but others requests = filter (λ request. not (is_among request others)) requests

-- no call starts a request that was started before, and each waits for requests that are active, as many as a
-- wait may name; `known` were started before these calls, and of them these are active
abbrev pub are_used_once : List ℕ → List ℕ → List Called → Bool
are_used_once known active [] = true
are_used_once known active (it ∷ others) =
    list_all (λ request. not (is_among request known)) (started_by it)
    && (list_all (λ request. is_among request active) (waited_by it)
    && (are_distinct (waited_by it) && (nat_le (length (waited_by it)) MOST_REQUESTS
    && are_used_once (started_by it ++ known) (started_by it ++ but (waited_by it) active) others)))

-- ---- The law ----

-- the entries are such calls, and no request was cancelled, is moved or takes a message that was probed for
pub record ArePlain (run : Run) (rank : ℕ) (entries : List Placed) : Type 0 where
  pub plain : list_all (λ placed. is_plain placed.called) entries ≡ true
  pub once : are_used_once [] [] (map (λ placed. placed.called) entries) ≡ true
  pub none_out : (request : ℕ) → is_left_out (lines_at run rank) request ≡ false
  pub none_matched : (request : ℕ) → matched_message (lines_at run rank) request ≡ None

-- the calls are those of the entries between the preface and the end, for some numbers of requests; none is
-- dropped
pub record AreTheSame (run : Run) (rank : ℕ) (entries : List Placed) (calls : List Call) : Type 0 where
  pub number : ℕ → ℕ
  pub once : list_all (λ placed. is_said_once placed.called (same_call_at run number placed)) entries ≡ true
  pub same : calls ≡ preface_of run rank ++ flat_map (same_call_at run number) entries ++ Finalize ∷ []

-- Law: a plain journal that was gone through closes to the same calls.
abbrev pub EachPlainJournalStaysTheSame : Type 0
EachPlainJournalStaysTheSame =
    (run : Run) (choice : Choice) (rank : ℕ) → choice.calls ≡ Strict →
    (gone : AreGoneThrough run (entries_at run rank)) → ArePlain run rank gone.before →
    length (whole_list run choice rank).records < most_records →
    AreTheSame run rank gone.before (calls_of (list_of run choice rank))
