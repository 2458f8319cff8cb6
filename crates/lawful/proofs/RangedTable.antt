-- What entries stand for are calls in their ranges.
use Rattle.std.proofs.Common.{◌≡◌, ℕ, ◌+◌, ◌-◌, ◌≤◌, ◌==◌, ℤ, pos, negsuc, Bool, true, false, if◌then◌else◌, Option, Some, None, List, [], ◌∷◌, ◌++◌, length, refl, arith, not}
use Rattle.std.specs.Prelude.{nat_le, nat_lt, option_and_then}
use Rattle.std.specs.List.{list_all, position_or_len}
use Rattle.std.specs.Option.{option_map_or}
use Rattle.std.specs.Str.{bytes_eq}
use Rattle.std.proofs.lemmas.Bool.{le-leb, ltb-true, and_parts}
use Rattle.std.proofs.lemmas.List.Sums.{prefix_len-le-length}
use Rattle.mpicall.specs.Argument.{is_in_range, key_in_range, peer_in_range}
use Rattle.mpicall.specs.Spelling.{root_of, root_arguments}
use Rattle.mpicall.specs.declared.limits.TheConstants.{GREATEST_COMM, GREATEST_RANK, GREATEST_COLOUR, GREATEST_KEY}
use Rattle.mpicall.specs.declared.call.Call.{Call}
use Rattle.mpicall.specs.declared.call.Call.TheVariants.{Coll, Dup, Split}
use Rattle.mpicall.specs.declared.call.Mode.{Mode}
use Rattle.mpicall.specs.declared.call.Mode.TheVariants.{Standard}
use Rattle.mpicall.specs.declared.call.Kind.{Kind}
use Rattle.mpicall.specs.declared.call.Kind.TheVariants as kind
use Rattle.journals.specs.declared.field.Field.{Field}
use Rattle.journals.specs.declared.field.Field.TheVariants.{Natural, Signed, Null, Any, Undefined}
use Rattle.closing.specs.Called.{Called, Sent, Sends, StartsSend, Receives, StartsReceive, Exchanges, StartsExchange, Probes, ProbesMatching, Collects, StartsCollective, Duplicates, StartsDuplicate, Splits, Makes, MakesOfGroup}
use Rattle.closing.specs.Keys.{Key, group_of_key}
use Rattle.closing.specs.Entries.{Run, Placed}
use Rattle.closing.specs.Made.{key_made, wave_at}
use Rattle.closing.specs.Numbers.{number_of, rank_in}
use Rattle.closing.specs.Reported.{Message, peer_can_be, tag_can_be, is_gone}
use Rattle.closing.specs.Steps.{Own as OwnId, Whole, ReceiveHalf, Does, Starts}
use Rattle.closing.specs.Endings.{sends_can_be}
use Rattle.closing.specs.Entry.{Here, peer, send, start_send, receive, start_receive, exchange, probe, start_collective, kind_of, colour_of, does, does_both, starts, does_collective, starts_collective, unless_past, on_comm, parent_group, parent_rank, brings, split_key, giving_line, bare_line, maker_by}
use Rattle.lawful.proofs.PassLemmas.{AreSteps, steps_if, steps_append, steps_or, steps_unless}
use Rattle.lawful.proofs.NameLemmas.{FitsSent, FitsMessage, KindFits, kind_fits}
use Rattle.lawful.proofs.RangeLemmas.{Ranged}
use Rattle.lawful.proofs.FieldRanges.{MessageOk, tag_ranged}
use Rattle.lawful.proofs.CalledRanges.{SentOk, CalledOk}

-- a communicator whose number and size are in their ranges
pub record Room (comm : ℕ) (group : List ℕ) : Type 0 where
  pub number : nat_le comm GREATEST_COMM ≡ true
  pub size : length group ≤ GREATEST_RANK + 1

-- ---- Fields ----

peer_ranged : (group : List ℕ) (field : Field) → length group ≤ GREATEST_RANK + 1 → peer_can_be (length group) field ≡ true → peer_in_range (peer field) ≡ true
peer_ranged group (Signed (pos rank)) size can = le-leb rank GREATEST_RANK (omega (arith, size, ltb-true rank (length group) can))
peer_ranged group (Signed (negsuc number)) size can = refl
peer_ranged group (Natural number) size can = refl
peer_ranged group Null size can = refl
peer_ranged group Any size can = refl
peer_ranged group Undefined size can = refl

dest_ranged : (group : List ℕ) (sent : Sent) → length group ≤ GREATEST_RANK + 1 → FitsSent group sent → peer_in_range (peer sent.dest) ≡ true
dest_ranged group sent size fits =
    peer_ranged group sent.dest size (and_parts (peer_can_be (length group) sent.dest) (tag_can_be sent.tag) fits).0

colour_ranged : (colour : ℤ) → key_in_range colour ≡ true → nat_le (colour_of colour) GREATEST_COLOUR ≡ true
colour_ranged (pos colour) ok = ok
colour_ranged (negsuc n) ok = le-leb (GREATEST_COLOUR - n) GREATEST_COLOUR (omega arith)

-- ---- Calls ----

send_ranged : (comm : ℕ) (group : List ℕ) (mode : Mode) (sent : Sent) → Room comm group → FitsSent group sent → SentOk mode sent → Ranged (send mode comm sent)
send_ranged comm group mode sent room fits ok started =
    rw (room.number, dest_ranged group sent room.size fits, tag_ranged sent.tag ok.tag, ok.bytes, ok.may) refl

pub start_send_ranged : (comm : ℕ) (group : List ℕ) (mode : Mode) (sent : Sent) → Room comm group → FitsSent group sent → SentOk mode sent → (number : ℕ) → Ranged (start_send mode comm sent number)
start_send_ranged comm group mode sent room fits ok number started =
    rw (started, room.number, dest_ranged group sent room.size fits, tag_ranged sent.tag ok.tag, ok.bytes, ok.may) refl

receive_ranged : (comm : ℕ) (group : List ℕ) (it : Message) → Room comm group → FitsMessage group it → MessageOk it → Ranged (receive comm it)
receive_ranged comm group it room fits ok started =
    rw (room.number, peer_ranged group it.source room.size fits, tag_ranged it.tag ok) refl

start_receive_ranged : (comm : ℕ) (group : List ℕ) (it : Message) → Room comm group → FitsMessage group it → MessageOk it → (number : ℕ) → Ranged (start_receive comm it number)
start_receive_ranged comm group it room fits ok number started =
    rw (started, room.number, peer_ranged group it.source room.size fits, tag_ranged it.tag ok) refl

probe_ranged : (comm : ℕ) (group : List ℕ) (it : Message) → Room comm group → FitsMessage group it → MessageOk it → Ranged (probe comm it)
probe_ranged comm group it room fits ok started =
    rw (room.number, peer_ranged group it.source room.size fits, tag_ranged it.tag ok) refl

exchange_ranged : (comm : ℕ) (group : List ℕ) (sent : Sent) (it : Message) → Room comm group → FitsSent group sent → SentOk Standard sent → FitsMessage group it → MessageOk it → Ranged (exchange comm sent it)
exchange_ranged comm group sent it room sent_fits sent_ok fits ok started =
    rw (room.number, dest_ranged group sent room.size sent_fits, tag_ranged sent.tag sent_ok.tag, peer_ranged group it.source room.size fits, tag_ranged it.tag ok, sent_ok.bytes) refl

root_ranged : (group : List ℕ) (root : Option ℕ) → length group ≤ GREATEST_RANK + 1 → option_map_or (λ r. nat_lt r (length group)) root true ≡ true → list_all is_in_range (root_arguments root) ≡ true
root_ranged group None size fits = refl
root_ranged group (Some root) size fits = rw (le-leb root GREATEST_RANK (omega (arith, size, ltb-true root (length group) fits))) refl

collective_ranged : (comm : ℕ) (group : List ℕ) (it : Kind) → Room comm group → KindFits group it → Ranged (Coll comm it)
collective_ranged comm group it room fits started = rw (room.number, root_ranged group (root_of it) room.size fits) refl

start_collective_ranged : (comm : ℕ) (group : List ℕ) (it : Kind) → Room comm group → KindFits group it → (number : ℕ) → Ranged (start_collective comm it number)
start_collective_ranged comm group it room fits number started = rw (started, room.number, root_ranged group (root_of it) room.size fits) refl

-- ---- Steps ----

does_ranged : (here : Here) (call : Call) (start : ℕ → Call) → Ranged call → ((number : ℕ) → Ranged (start number)) → AreSteps Ranged (does here call start)
does_ranged here call start is all = steps_if Ranged here.is_past (Starts (Whole here.line) start ∷ []) (Does call ∷ []) (all, tt) (is, tt)

starts_ranged : (here : Here) (request : ℕ) (start : ℕ → Call) → ((number : ℕ) → Ranged (start number)) → AreSteps Ranged (starts here request start)
starts_ranged here request start all = steps_if Ranged (is_gone here.lines request) [] (Starts (OwnId request) start ∷ []) tt (all, tt)

both_ranged : (here : Here) (group : List ℕ) (sent : Sent) (it : Message) → Room here.comm group → FitsSent group sent → SentOk Standard sent → FitsMessage group it → MessageOk it → AreSteps Ranged (does_both here sent it)
both_ranged here group sent it room sent_fits sent_ok fits ok =
    steps_if Ranged here.is_past
    (Starts (Whole here.line) (start_send Standard here.comm sent) ∷ Starts (ReceiveHalf here.line) (start_receive here.comm it) ∷ [])
    (Does (exchange here.comm sent it) ∷ [])
    (start_send_ranged here.comm group Standard sent room sent_fits sent_ok, (start_receive_ranged here.comm group it room fits ok, tt))
    (exchange_ranged here.comm group sent it room sent_fits sent_ok fits ok, tt)

probes_ranged : (here : Here) (group : List ℕ) (it : Message) → Room here.comm group → FitsMessage group it → MessageOk it → AreSteps Ranged (unless_past here.is_past (Does (probe here.comm it) ∷ []))
probes_ranged here group it room fits ok =
    steps_unless Ranged here.is_past (Does (probe here.comm it) ∷ []) (probe_ranged here.comm group it room fits ok, tt)

collects_ranged : (here : Here) (group : List ℕ) (it : Kind) → Room here.comm group → KindFits group it → AreSteps Ranged (does_collective here it)
collects_ranged here group it room fits =
    does_ranged here (Coll here.comm it) (start_collective here.comm it) (collective_ranged here.comm group it room fits)
    (start_collective_ranged here.comm group it room fits)

starts_collective_ranged : (here : Here) (group : List ℕ) (request : ℕ) (it : Kind) → Room here.comm group → KindFits group it → AreSteps Ranged (starts_collective here request it)
starts_collective_ranged here group request it room fits =
    starts_ranged here request (start_collective here.comm it) (start_collective_ranged here.comm group it room fits)

-- the message of an entry, where it is known
pub record KnownMessage (group : List ℕ) (it : Message) : Type 0 where
  pub fits : FitsMessage group it
  pub ok : MessageOk it

pub on_comm_ranged : (here : Here) (group : List ℕ) (it : Called) → Room here.comm group → Ranged here.maker → sends_can_be (length group) it ≡ true → CalledOk it → ((m : Message) → here.message ≡ Some m → KnownMessage group m) → AreSteps Ranged (on_comm here it)
on_comm_ranged here group (Sends mode sent) room maker fits ok message =
    does_ranged here (send mode here.comm sent) (start_send mode here.comm sent) (send_ranged here.comm group mode sent room fits ok)
    (start_send_ranged here.comm group mode sent room fits ok)
on_comm_ranged here group (StartsSend request mode sent) room maker fits ok message =
    starts_ranged here request (start_send mode here.comm sent) (start_send_ranged here.comm group mode sent room fits ok)
on_comm_ranged here group (Receives awaited) room maker fits ok message =
    steps_or Ranged here.message (λ it. does here (receive here.comm it) (start_receive here.comm it))
    (λ it is. does_ranged here (receive here.comm it) (start_receive here.comm it)
    (receive_ranged here.comm group it room (message it is).fits (message it is).ok)
    (start_receive_ranged here.comm group it room (message it is).fits (message it is).ok))
on_comm_ranged here group (StartsReceive request awaited) room maker fits ok message =
    steps_or Ranged here.message (λ it. starts here request (start_receive here.comm it))
    (λ it is. starts_ranged here request (start_receive here.comm it) (start_receive_ranged here.comm group it room (message it is).fits (message it is).ok))
on_comm_ranged here group (Exchanges sent awaited) room maker fits ok message =
    steps_or Ranged here.message (λ it. does_both here sent it)
    (λ it is. both_ranged here group sent it room fits ok.0 (message it is).fits (message it is).ok)
on_comm_ranged here group (StartsExchange request received sent awaited) room maker fits ok message =
    steps_append Ranged (starts here request (start_send Standard here.comm sent))
    (option_map_or (λ it. starts here received (start_receive here.comm it)) here.message [])
    (starts_ranged here request (start_send Standard here.comm sent) (start_send_ranged here.comm group Standard sent room fits ok.0))
    (steps_or Ranged here.message (λ it. starts here received (start_receive here.comm it))
    (λ it is. starts_ranged here received (start_receive here.comm it) (start_receive_ranged here.comm group it room (message it is).fits (message it is).ok)))
on_comm_ranged here group (Probes awaited) room maker fits ok message =
    steps_or Ranged here.message (λ it. unless_past here.is_past (Does (probe here.comm it) ∷ []))
    (λ it is. probes_ranged here group it room (message it is).fits (message it is).ok)
on_comm_ranged here group (ProbesMatching own awaited) room maker fits ok message =
    steps_or Ranged here.message
    (λ it. unless_past here.is_past (Does (probe here.comm it) ∷ []) ++ Starts (OwnId own) (start_receive here.comm it) ∷ [])
    (λ it is. steps_append Ranged (unless_past here.is_past (Does (probe here.comm it) ∷ [])) (Starts (OwnId own) (start_receive here.comm it) ∷ [])
    (probes_ranged here group it room (message it is).fits (message it is).ok)
    (start_receive_ranged here.comm group it room (message it is).fits (message it is).ok, tt))
on_comm_ranged here group (Collects collective own root) room maker fits ok message =
    collects_ranged here group (kind_of collective root) room (kind_fits group collective root fits)
on_comm_ranged here group (StartsCollective request collective own root) room maker fits ok message =
    starts_collective_ranged here group request (kind_of collective root) room (kind_fits group collective root fits)
on_comm_ranged here group (StartsDuplicate request own) room maker fits ok message = starts_collective_ranged here group request kind.Barrier room refl
on_comm_ranged here group (MakesOfGroup members) room maker fits ok message = collects_ranged here group kind.Barrier room refl
on_comm_ranged here group (Duplicates own) room maker fits ok message = (maker, tt)
on_comm_ranged here group (Splits own colour key) room maker fits ok message = (maker, tt)
on_comm_ranged here group (Makes own) room maker fits ok message = (maker, tt)
on_comm_ranged here group _ room maker fits ok message = tt

-- ---- Makers ----

ranged_if : (b : Bool) (first other : Call) → Ranged first → Ranged other → Ranged (if b then first else other)
ranged_if true first other is_first is_other = is_first
ranged_if false first other is_first is_other = is_other

dup_ranged : (comm new : ℕ) → nat_le comm GREATEST_COMM ≡ true → nat_le new GREATEST_COMM ≡ true → Ranged (Dup comm new)
dup_ranged comm new comm_ok new_ok started = rw (comm_ok, new_ok) refl

split_ranged : (comm colour : ℕ) (key : ℤ) (new : ℕ) → nat_le comm GREATEST_COMM ≡ true → nat_le colour GREATEST_COLOUR ≡ true → key_in_range key ≡ true → nat_le new GREATEST_COMM ≡ true → Ranged (Split comm (Some colour) key (Some new))
split_ranged comm colour key new comm_ok colour_ok key_ok new_ok started = rw (comm_ok, colour_ok, key_ok, new_ok) refl

place_low : (test : ℕ → Bool) (group : List ℕ) (limit : ℕ) → length group ≤ limit → nat_le (position_or_len test group) limit ≡ true
place_low test group limit size =
    le-leb (position_or_len test group) limit (le_le (position_or_len test group) (length group) limit (prefix_len-le-length (λ x. not (test x)) group) size)
  where
    le_le : (a b c : ℕ) → a ≤ b → b ≤ c → a ≤ c
    le_le a b c ab bc = omega (arith, ab, bc)

parent_low : (parent group : List ℕ) → length parent ≤ GREATEST_RANK + 1 → nat_le (parent_rank parent group) GREATEST_COLOUR ≡ true
parent_low parent [] size = refl
parent_low parent (first ∷ group) size = place_low (λ (member : ℕ). member == first) parent GREATEST_COLOUR (omega (arith, size))

pub rank_low : (run : Run) (rank : ℕ) (key : Key) → length (group_of_key (length run) key) ≤ GREATEST_RANK + 1 → key_in_range (rank_in run rank key) ≡ true
rank_low run rank key size = place_low (λ (member : ℕ). member == rank) (group_of_key (length run) key) GREATEST_KEY (omega (arith, size))

-- a communicator that is given: its number and size are in their ranges
pub record Given (run : Run) (key : Key) (new : ℕ) : Type 0 where
  pub number : nat_le new GREATEST_COMM ≡ true
  pub size : length (group_of_key (length run) key) ≤ GREATEST_RANK + 1

giving_ranged : (run : Run) (placed : Placed) (comm : ℕ) (it : Called) (key : Key) (new : ℕ) → nat_le comm GREATEST_COMM ≡ true → length (parent_group run placed) ≤ GREATEST_RANK + 1 → CalledOk it → Given run key new → Ranged (giving_line run placed comm it key new)
giving_ranged run placed comm (Splits own (Some colour) split) key new comm_ok parent ok given =
    split_ranged comm (colour_of colour) split new comm_ok (colour_ranged colour ok.0) ok.1 given.number
giving_ranged run placed comm (Makes own) key new comm_ok parent ok given =
    ranged_if (bytes_eq (group_of_key (length run) key) (parent_group run placed)) (Dup comm new)
    (Split comm (Some (parent_rank (parent_group run placed) (group_of_key (length run) key))) (rank_in run placed.rank key) (Some new))
    (dup_ranged comm new comm_ok given.number)
    (split_ranged comm (parent_rank (parent_group run placed) (group_of_key (length run) key)) (rank_in run placed.rank key) new comm_ok
    (parent_low (parent_group run placed) (group_of_key (length run) key) parent) (rank_low run placed.rank key given.size) given.number)
giving_ranged run placed comm _ key new comm_ok parent ok given = dup_ranged comm new comm_ok given.number

key_ranged : (it : Called) → CalledOk it → key_in_range (split_key it) ≡ true
key_ranged (Splits comm colour key) ok = ok.1
key_ranged _ ok = refl

bare_ranged : (run : Run) (placed : Placed) (comm : ℕ) → nat_le comm GREATEST_COMM ≡ true → CalledOk placed.called → Ranged (bare_line run placed comm)
bare_ranged run placed comm comm_ok ok =
    ranged_if (option_map_or (brings run) (wave_at placed) false) (Split comm None (split_key placed.called) None) (Coll comm kind.Barrier)
    (λ started. rw (comm_ok, key_ranged placed.called ok) refl) (λ started. rw comm_ok refl)

maker_ranged_by : (run : Run) (placed : Placed) (comm : ℕ) (made : Option Key) (new : Option ℕ) → option_and_then (number_of run) made ≡ new → nat_le comm GREATEST_COMM ≡ true → length (parent_group run placed) ≤ GREATEST_RANK + 1 → CalledOk placed.called → ((key : Key) (number : ℕ) → number_of run key ≡ Some number → Given run key number) → Ranged (maker_by run placed comm made new)
maker_ranged_by run placed comm (Some key) (Some new) is comm_ok parent ok given = giving_ranged run placed comm placed.called key new comm_ok parent ok (given key new is)
maker_ranged_by run placed comm (Some key) None is comm_ok parent ok given = bare_ranged run placed comm comm_ok ok
maker_ranged_by run placed comm None new is comm_ok parent ok given = bare_ranged run placed comm comm_ok ok

pub maker_ranged : (run : Run) (placed : Placed) (comm : ℕ) → nat_le comm GREATEST_COMM ≡ true → length (parent_group run placed) ≤ GREATEST_RANK + 1 → CalledOk placed.called → ((key : Key) (number : ℕ) → number_of run key ≡ Some number → Given run key number) → Ranged (maker_by run placed comm (key_made run placed) (option_and_then (number_of run) (key_made run placed)))
maker_ranged run placed comm comm_ok parent ok given =
    maker_ranged_by run placed comm (key_made run placed) (option_and_then (number_of run) (key_made run placed)) refl comm_ok parent ok given
