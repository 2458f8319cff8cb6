-- What proofs and private contracts cite, in addition to the definitions of `specs/Packed.antt`.
use Rattle.std.specs.Prelude.{ℕ, ◌+◌, ◌*◌, ◌≤◌, Option, Some, None, IsSome, option_and_then, unwrap_or, List, [], ◌∷◌, map, length, take, drop, slice_get, IsTrue}
use Rattle.std.specs.List.{All}
use Rattle.mpicall.specs.declared.limits.TheConstants.{MOST_REQUESTS}
use Rattle.mpicall.specs.inner.CallArgs.{call_from}
use Rattle.mpicall.specs.Limits.{in_ranges}
use Rattle.mpicall.specs.declared.call.Call.{Call}
use Rattle.mpicall.specs.declared.call.Peer.TheVariants.{Rank}
use Rattle.mpicall.specs.declared.call.Call.TheVariants as made
use Rattle.mpicall.specs.declared.call_args.CallArgs.TheVariants as call_args
use Rattle.callstore.specs.declared.hot.TheConstants.{ANY, SEND, RECV, ISEND, IRECV, COLL, WAIT, WAITALL}
use Rattle.callstore.specs.declared.packed.Packed.{Packed}
use Rattle.callstore.specs.declared.packed.Packed.TheVariants.{Send, Recv, Isend, Irecv, Wait, Waitall, Waitany, Coll, Icoll, Nothing, Message, Exchange, Copy, Split}
use Rattle.callstore.specs.inner.Entries.{Entry}
use Rattle.callstore.specs.Limits.{most_calls}
use Rattle.callstore.specs.Notes.{Noted}
use Rattle.callstore.specs.Packed.{noted}

-- the request that a stored call starts
abbrev pub request_of : Packed → Option ℕ
request_of (Isend mode comm dest req tag bytes) = Some req
request_of (Irecv req comm source tag) = Some req
request_of (Icoll req comm kind) = Some req
request_of _ = None

-- the number of the kind of a stored call
abbrev pub hot_kind_of : Packed → ℕ
hot_kind_of (Send mode comm dest tag bytes) = SEND
hot_kind_of (Recv comm (Rank source) tag) = RECV
hot_kind_of (Isend mode comm dest req tag bytes) = ISEND
hot_kind_of (Irecv req comm source tag) = IRECV
hot_kind_of (Coll comm kind) = COLL
hot_kind_of (Wait start) = WAIT
hot_kind_of (Waitall first count) = WAITALL
hot_kind_of _ = ANY

-- the request that the rank's call at the place starts
abbrev pub request_at : List Entry → ℕ → Option ℕ
request_at entries place = option_and_then (λ entry. request_of entry.call) (slice_get entries place)

-- the same, or 0 where that call starts none
abbrev pub req_at : List Entry → ℕ → ℕ
req_at entries place = unwrap_or (request_at entries place) 0

-- the requests that the calls at the places start
abbrev pub reqs_at : List Entry → List ℕ → List ℕ
reqs_at entries places = map (req_at entries) places

-- so many of the places, from the first on
abbrev pub part : List ℕ → ℕ → ℕ → List ℕ
part places first count = take count (drop first places)

-- the places that started the requests which a wait names
abbrev pub unpack_starts : List ℕ → Packed → List ℕ
unpack_starts starts (Wait start) = start ∷ []
unpack_starts starts (Waitall first count) = part starts first count
unpack_starts starts (Waitany chosen first count) = part starts first count
unpack_starts starts _ = []

-- the call of a name and what follows it; none of an operation and of a wait
abbrev pub plain_of : Packed → Option Call
plain_of (Nothing name) = Some (call_from name call_args.Nothing)
plain_of (Message name comm source tag) = Some (call_from name (call_args.Message comm source tag))
plain_of (Exchange name comm dest source send_tag recv_tag bytes) = Some (call_from name (call_args.Exchange comm dest send_tag source recv_tag bytes))
plain_of (Copy name comm new) = Some (call_from name (call_args.Copy comm new))
plain_of (Split name comm colour key new) = Some (call_from name (call_args.Split comm colour key new))
plain_of _ = None

-- the call: a wait names the requests that the calls at its starts start
abbrev pub unpack : List Entry → List ℕ → Packed → Call
unpack entries starts (Send mode comm dest tag bytes) = made.Send mode comm dest tag bytes
unpack entries starts (Recv comm source tag) = made.Recv comm source tag
unpack entries starts (Isend mode comm dest req tag bytes) = made.Isend req mode comm dest tag bytes
unpack entries starts (Irecv req comm source tag) = made.Irecv req comm source tag
unpack entries starts (Wait start) = made.Wait (req_at entries start)
unpack entries starts (Waitall first count) = made.Waitall (reqs_at entries (part starts first count))
unpack entries starts (Waitany chosen first count) = made.Waitany chosen (reqs_at entries (part starts first count))
unpack entries starts (Coll comm kind) = made.Coll comm kind
unpack entries starts (Icoll req comm kind) = made.Icoll req comm kind
unpack entries starts packed = unwrap_or (plain_of packed) made.Finalize

-- how long the list of starts is at least
abbrev pub end_of : Packed → ℕ
end_of (Waitall first count) = first + count
end_of (Waitany chosen first count) = first + count
end_of _ = 0

abbrev pub noted_of : List Entry → List ℕ → Entry → Noted
noted_of entries starts entry = noted (unpack entries starts entry.call) entry.cached (unpack_starts starts entry.call)

-- the calls at the places start requests
abbrev pub StartRequests : List Entry → List ℕ → Type 0
StartRequests entries places = All (λ place. IsSome (request_at entries place)) places

-- an entry stands for a record, and each of its starts for a call that starts a request
pub record IsStored (entries : List Entry) (starts : List ℕ) (entry : Entry) : Type 0 where
  pub ranged : IsTrue (in_ranges (unpack entries starts entry.call))
  pub within : end_of entry.call ≤ length starts
  pub started : StartRequests entries (unpack_starts starts entry.call)

-- so does each entry of a rank, and its lists aren't too long
pub record AreStored (entries : List Entry) (starts : List ℕ) : Type 0 where
  pub each : All (IsStored entries starts) entries
  pub few_starts : length starts ≤ MOST_REQUESTS * length entries
  pub few : length entries ≤ most_calls

-- what is put into the list of starts: the starts of a wait that may name several requests
abbrev pub listed_starts : Call → List ℕ → List ℕ
listed_starts (made.Waitall reqs) starts = starts
listed_starts (made.Waitany chosen reqs) starts = starts
listed_starts _ starts = []
