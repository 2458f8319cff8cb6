-- Each call of a list names a communicator of the head, and ranks of its group.
use Rattle.std.proofs.Common.{◌≡◌, ℕ, ◌&&◌, ℤ, pos, negsuc, Bool, true, false, if◌then◌else◌, Option, Some, None, List, [], ◌∷◌, ◌++◌, get_or, length, refl, ap, subst, ◌∙◌}
use Rattle.std.specs.Prelude.{nat_lt, slice_get}
use Rattle.std.specs.Option.{option_and_then, option_map, option_map_or}
use Rattle.std.proofs.lemmas.Bool.{false≢true}
use Rattle.std.proofs.lemmas.List.Quantifiers.{position-Some}
use Rattle.std.proofs.lemmas.Option.{none-some, same_Some, slice_get-map, slice_get-get_or}
use Rattle.mpicall.specs.declared.call.Call.{Call}
use Rattle.mpicall.specs.declared.call.Call.TheVariants.{Coll, Dup, Split}
use Rattle.mpicall.specs.declared.call.Kind.{Kind}
use Rattle.mpicall.specs.declared.call.Kind.TheVariants as kind
use Rattle.mpicall.specs.declared.call.Mode.{Mode}
use Rattle.mpicall.specs.declared.call.Mode.TheVariants.{Standard}
use Rattle.mpicall.specs.declared.word.Collective.{Collective}
use Rattle.mpicall.specs.declared.word.Collective.TheVariants as coll
use Rattle.mpigroup.specs.Groups.{Groups}
use Rattle.mpicall.specs.Spelling.{root_of}
use Rattle.pairing.specs.Faults.{comm_exists, peers_exist, is_peer, is_group_rank}
use Rattle.std.specs.Str.{bytes_eq}
use Rattle.journals.specs.Lines.{Line}
use Rattle.journals.specs.declared.field.Field.{Field}
use Rattle.journals.specs.declared.field.Field.TheVariants.{Natural, Signed, Null, Any, Undefined}
use Rattle.closing.specs.Called.{Called, Sent, Awaited, Sends, StartsSend, Receives, StartsReceive, Exchanges, StartsExchange, Probes, ProbesMatching, ReceivesMatched, Waits, Tests, WaitsAny, WaitsSome, Collects, StartsCollective, Duplicates, StartsDuplicate, Splits, Makes, MakesOfGroup}
use Rattle.closing.specs.Keys.{Key, World, same_key, group_of_key}
use Rattle.closing.specs.Made.{key_made, wave_at}
use Rattle.closing.specs.Entries.{Run, Placed}
use Rattle.closing.specs.Numbers.{numbered_keys, number_of, groups_of, rank_in, named_key}
use Rattle.closing.specs.Reported.{Message, message_of, message_can_be, peer_can_be, tag_can_be, is_rooted, root_can_be, is_gone}
use Rattle.closing.specs.Steps.{Id, Own, Whole, ReceiveHalf, Does, Starts}
use Rattle.closing.specs.Endings.{awaited_can_be, sends_can_be, sent_can_be, awaited_at, can_be, size_at, number_at}
use Rattle.closing.specs.Entry.{Here, peer, send, start_send, receive, start_receive, exchange, probe, start_collective, root_in, kind_of, does, does_both, starts, does_collective, starts_collective, unless_past, on_comm, Choice, colour_of, parent_group, parent_rank, brings, split_key, giving_line, bare_line, maker_by, passes_tests, pass_test, wait_for_all, wait_for_one, wait_for_any, ids_of, chosen, on_none, is_past, here_at, steps_by, steps_of}
use Rattle.lawful.proofs.KeyLemmas.{and_parts, same_key_is_equal}
use Rattle.closing.specs.declared.pending.Wanted.{Wanted}
use Rattle.lawful.proofs.PassLemmas.{AreSteps, steps_if, steps_append, steps_or, steps_unless}
use Rattle.lawful.proofs.SinkCases.{IsUnsure, PassCalls, PassLists, half_sent, calls_pass, sound_is}

-- ---- The group of a number ----

pub numbered_group : (run : Run) (key : Key) (number : ℕ) → number_of run key ≡ Some number → slice_get (groups_of run) number ≡ Some (group_of_key (length run) key)
numbered_group run key number h =
    let found = position-Some (λ (k : Key). same_key k key) (numbered_keys run) number World h in
    let same = same_key_is_equal (get_or (numbered_keys run) number World) key found.1 in
    slice_get-map (group_of_key (length run)) (numbered_keys run) number
    ∙ ap (λ (o : Option Key). option_map (group_of_key (length run)) o) (slice_get-get_or (numbered_keys run) number World found.0)
    ∙ ap (λ (k : Key). Some (group_of_key (length run) k)) same

-- ---- What a call names ----

pub record Names (groups : Groups) (call : Call) : Type 0 where
  pub comm_is : comm_exists groups call ≡ true
  pub peers_are : peers_exist groups call ≡ true

peer_is : (groups : Groups) (comm : ℕ) (group : List ℕ) (field : Field) → slice_get groups comm ≡ Some group → peer_can_be (length group) field ≡ true → is_peer groups comm (peer field) ≡ true
peer_is groups comm group Null is h = refl
peer_is groups comm group Any is h = refl
peer_is groups comm group (Signed (pos rank)) is h = rw is h
peer_is groups comm group (Signed (negsuc n)) is h = absurd (false≢true h)
peer_is groups comm group (Natural n) is h = absurd (false≢true h)
peer_is groups comm group Undefined is h = absurd (false≢true h)

-- what is sent, and what is received or probed for, is of ranks of the group
abbrev pub FitsSent : List ℕ → Sent → Type 0
FitsSent group sent = sent_can_be (length group) sent ≡ true

abbrev pub FitsMessage : List ℕ → Message → Type 0
FitsMessage group it = peer_can_be (length group) it.source ≡ true

sends_names : (groups : Groups) (comm : ℕ) (group : List ℕ) (sent : Sent) → slice_get groups comm ≡ Some group → FitsSent group sent → is_peer groups comm (peer sent.dest) ≡ true
sends_names groups comm group sent is fits =
    peer_is groups comm group sent.dest is (and_parts (peer_can_be (length group) sent.dest) (tag_can_be sent.tag) fits).0

-- ---- The table ----

-- a communicator of the head with its group
pub record HasGroup (groups : Groups) (comm : ℕ) (group : List ℕ) : Type 0 where
  pub is : slice_get groups comm ≡ Some group

send_names : (groups : Groups) (comm : ℕ) (group : List ℕ) (sent : Sent) → HasGroup groups comm group → FitsSent group sent → (mode : Mode) → Names groups (send mode comm sent)
send_names groups comm group sent has fits mode =
    record { comm_is = rw has.is refl; peers_are = rw (sends_names groups comm group sent has.is fits) refl }

start_send_names : (groups : Groups) (comm : ℕ) (group : List ℕ) (sent : Sent) → HasGroup groups comm group → FitsSent group sent → (mode : Mode) (number : ℕ) → Names groups (start_send mode comm sent number)
start_send_names groups comm group sent has fits mode number =
    record { comm_is = rw has.is refl; peers_are = rw (sends_names groups comm group sent has.is fits) refl }

receive_names : (groups : Groups) (comm : ℕ) (group : List ℕ) (it : Message) → HasGroup groups comm group → FitsMessage group it → Names groups (receive comm it)
receive_names groups comm group it has fits =
    record { comm_is = rw has.is refl; peers_are = rw (peer_is groups comm group it.source has.is fits) refl }

start_receive_names : (groups : Groups) (comm : ℕ) (group : List ℕ) (it : Message) → HasGroup groups comm group → FitsMessage group it → (number : ℕ) → Names groups (start_receive comm it number)
start_receive_names groups comm group it has fits number =
    record { comm_is = rw has.is refl; peers_are = rw (peer_is groups comm group it.source has.is fits) refl }

probe_names : (groups : Groups) (comm : ℕ) (group : List ℕ) (it : Message) → HasGroup groups comm group → FitsMessage group it → Names groups (probe comm it)
probe_names groups comm group it has fits =
    record { comm_is = rw has.is refl; peers_are = rw (peer_is groups comm group it.source has.is fits) refl }

exchange_names : (groups : Groups) (comm : ℕ) (group : List ℕ) (sent : Sent) (it : Message) → HasGroup groups comm group → FitsSent group sent → FitsMessage group it → Names groups (exchange comm sent it)
exchange_names groups comm group sent it has sent_fits fits = record {
  comm_is = rw has.is refl;
  peers_are = rw (sends_names groups comm group sent has.is sent_fits, peer_is groups comm group it.source has.is fits) refl;
}

abbrev pub KindFits : List ℕ → Kind → Type 0
KindFits group it = option_map_or (λ root. nat_lt root (length group)) (root_of it) true ≡ true

rooted_fits : (group : List ℕ) (collective : Collective) (root : Option ℤ) → is_rooted collective ≡ true → root_can_be (length group) collective root ≡ true → nat_lt (root_in root) (length group) ≡ true
rooted_fits group collective None rooted fits = absurd (false≢true (rw rooted at fits))
rooted_fits group collective (Some (pos root)) rooted fits = fits
rooted_fits group collective (Some (negsuc n)) rooted fits = absurd (false≢true fits)

pub kind_fits : (group : List ℕ) (collective : Collective) (root : Option ℤ) → root_can_be (length group) collective root ≡ true → KindFits group (kind_of collective root)
kind_fits group coll.Bcast root fits = rooted_fits group coll.Bcast root refl fits
kind_fits group coll.Gather root fits = rooted_fits group coll.Gather root refl fits
kind_fits group coll.Scatter root fits = rooted_fits group coll.Scatter root refl fits
kind_fits group coll.Reduce root fits = rooted_fits group coll.Reduce root refl fits
kind_fits group coll.Barrier root fits = refl
kind_fits group coll.Allgather root fits = refl
kind_fits group coll.Alltoall root fits = refl
kind_fits group coll.Allreduce root fits = refl
kind_fits group coll.Scan root fits = refl
kind_fits group coll.Exscan root fits = refl

root_is : (groups : Groups) (comm : ℕ) (group : List ℕ) (root : Option ℕ) → HasGroup groups comm group → option_map_or (λ r. nat_lt r (length group)) root true ≡ true → option_map_or (is_group_rank groups comm) root true ≡ true
root_is groups comm group None has fits = refl
root_is groups comm group (Some root) has fits = rw has.is fits

collective_names : (groups : Groups) (comm : ℕ) (group : List ℕ) (it : Kind) → HasGroup groups comm group → KindFits group it → Names groups (Coll comm it)
collective_names groups comm group it has fits =
    record { comm_is = rw has.is refl; peers_are = root_is groups comm group (root_of it) has fits }

start_collective_names : (groups : Groups) (comm : ℕ) (group : List ℕ) (it : Kind) → HasGroup groups comm group → KindFits group it → (number : ℕ) → Names groups (start_collective comm it number)
start_collective_names groups comm group it has fits number =
    record { comm_is = rw has.is refl; peers_are = root_is groups comm group (root_of it) has fits }

does_names : (groups : Groups) (here : Here) (call : Call) (start : ℕ → Call) → Names groups call → ((number : ℕ) → Names groups (start number)) → AreSteps (Names groups) (does here call start)
does_names groups here call start names all =
    steps_if (Names groups) here.is_past (Starts (Whole here.line) start ∷ []) (Does call ∷ []) (all, tt) (names, tt)

starts_names : (groups : Groups) (here : Here) (request : ℕ) (start : ℕ → Call) → ((number : ℕ) → Names groups (start number)) → AreSteps (Names groups) (starts here request start)
starts_names groups here request start all =
    steps_if (Names groups) (is_gone here.lines request) [] (Starts (Own request) start ∷ []) tt (all, tt)

both_names : (groups : Groups) (here : Here) (group : List ℕ) (sent : Sent) (it : Message) → HasGroup groups here.comm group → FitsSent group sent → FitsMessage group it → AreSteps (Names groups) (does_both here sent it)
both_names groups here group sent it has sent_fits fits =
    steps_if (Names groups) here.is_past
    (Starts (Whole here.line) (start_send Standard here.comm sent) ∷ Starts (ReceiveHalf here.line) (start_receive here.comm it) ∷ [])
    (Does (exchange here.comm sent it) ∷ [])
    (start_send_names groups here.comm group sent has sent_fits Standard, (start_receive_names groups here.comm group it has fits, tt))
    (exchange_names groups here.comm group sent it has sent_fits fits, tt)

probes_names : (groups : Groups) (here : Here) (group : List ℕ) (it : Message) → HasGroup groups here.comm group → FitsMessage group it → AreSteps (Names groups) (unless_past here.is_past (Does (probe here.comm it) ∷ []))
probes_names groups here group it has fits =
    steps_unless (Names groups) here.is_past (Does (probe here.comm it) ∷ []) (probe_names groups here.comm group it has fits, tt)

collects_names : (groups : Groups) (here : Here) (group : List ℕ) (it : Kind) → HasGroup groups here.comm group → KindFits group it → AreSteps (Names groups) (does_collective here it)
collects_names groups here group it has fits =
    does_names groups here (Coll here.comm it) (start_collective here.comm it) (collective_names groups here.comm group it has fits)
    (start_collective_names groups here.comm group it has fits)

starts_collective_names : (groups : Groups) (here : Here) (group : List ℕ) (request : ℕ) (it : Kind) → HasGroup groups here.comm group → KindFits group it → AreSteps (Names groups) (starts_collective here request it)
starts_collective_names groups here group request it has fits =
    starts_names groups here request (start_collective here.comm it) (start_collective_names groups here.comm group it has fits)

pub on_comm_names : (groups : Groups) (here : Here) (group : List ℕ) (it : Called) → HasGroup groups here.comm group → Names groups here.maker → sends_can_be (length group) it ≡ true → ((m : Message) → here.message ≡ Some m → FitsMessage group m) → AreSteps (Names groups) (on_comm here it)
on_comm_names groups here group (Sends mode sent) has maker fits message =
    does_names groups here (send mode here.comm sent) (start_send mode here.comm sent) (send_names groups here.comm group sent has fits mode)
    (start_send_names groups here.comm group sent has fits mode)
on_comm_names groups here group (StartsSend request mode sent) has maker fits message =
    starts_names groups here request (start_send mode here.comm sent) (start_send_names groups here.comm group sent has fits mode)
on_comm_names groups here group (Receives awaited) has maker fits message =
    steps_or (Names groups) here.message (λ it. does here (receive here.comm it) (start_receive here.comm it))
    (λ it is. does_names groups here (receive here.comm it) (start_receive here.comm it) (receive_names groups here.comm group it has (message it is))
    (start_receive_names groups here.comm group it has (message it is)))
on_comm_names groups here group (StartsReceive request awaited) has maker fits message =
    steps_or (Names groups) here.message (λ it. starts here request (start_receive here.comm it))
    (λ it is. starts_names groups here request (start_receive here.comm it) (start_receive_names groups here.comm group it has (message it is)))
on_comm_names groups here group (Exchanges sent awaited) has maker fits message =
    steps_or (Names groups) here.message (λ it. does_both here sent it) (λ it is. both_names groups here group sent it has fits (message it is))
on_comm_names groups here group (StartsExchange request received sent awaited) has maker fits message =
    steps_append (Names groups) (starts here request (start_send Standard here.comm sent))
    (option_map_or (λ it. starts here received (start_receive here.comm it)) here.message [])
    (starts_names groups here request (start_send Standard here.comm sent) (start_send_names groups here.comm group sent has fits Standard))
    (steps_or (Names groups) here.message (λ it. starts here received (start_receive here.comm it))
    (λ it is. starts_names groups here received (start_receive here.comm it) (start_receive_names groups here.comm group it has (message it is))))
on_comm_names groups here group (Probes awaited) has maker fits message =
    steps_or (Names groups) here.message (λ it. unless_past here.is_past (Does (probe here.comm it) ∷ []))
    (λ it is. probes_names groups here group it has (message it is))
on_comm_names groups here group (ProbesMatching own awaited) has maker fits message =
    steps_or (Names groups) here.message
    (λ it. unless_past here.is_past (Does (probe here.comm it) ∷ []) ++ Starts (Own own) (start_receive here.comm it) ∷ [])
    (λ it is. steps_append (Names groups) (unless_past here.is_past (Does (probe here.comm it) ∷ [])) (Starts (Own own) (start_receive here.comm it) ∷ [])
    (probes_names groups here group it has (message it is)) (start_receive_names groups here.comm group it has (message it is), tt))
on_comm_names groups here group (Collects collective own root) has maker fits message =
    collects_names groups here group (kind_of collective root) has (kind_fits group collective root fits)
on_comm_names groups here group (StartsCollective request collective own root) has maker fits message =
    starts_collective_names groups here group request (kind_of collective root) has (kind_fits group collective root fits)
on_comm_names groups here group (StartsDuplicate request own) has maker fits message =
    starts_collective_names groups here group request kind.Barrier has refl
on_comm_names groups here group (MakesOfGroup members) has maker fits message = collects_names groups here group kind.Barrier has refl
on_comm_names groups here group (Duplicates own) has maker fits message = (maker, tt)
on_comm_names groups here group (Splits own colour key) has maker fits message = (maker, tt)
on_comm_names groups here group (Makes own) has maker fits message = (maker, tt)
on_comm_names groups here group _ has maker fits message = tt

-- ---- Makers ----

names_if : (groups : Groups) (b : Bool) (first other : Call) → Names groups first → Names groups other → Names groups (if b then first else other)
names_if groups true first other is_first is_other = is_first
names_if groups false first other is_first is_other = is_other

dup_names : (groups : Groups) (comm : ℕ) (group : List ℕ) (new : ℕ) → HasGroup groups comm group → Names groups (Dup comm new)
dup_names groups comm group new has = record { comm_is = rw has.is refl; peers_are = refl }

split_names : (groups : Groups) (comm : ℕ) (group : List ℕ) (colour : Option ℕ) (key : ℤ) (new : Option ℕ) → HasGroup groups comm group → Names groups (Split comm colour key new)
split_names groups comm group colour key new has = record { comm_is = rw has.is refl; peers_are = refl }

giving_names : (run : Run) (placed : Placed) (comm : ℕ) (group : List ℕ) (it : Called) (key : Key) (new : ℕ) → HasGroup (groups_of run) comm group → Names (groups_of run) (giving_line run placed comm it key new)
giving_names run placed comm group (Splits own (Some colour) split) key new has = split_names (groups_of run) comm group (Some (colour_of colour)) split (Some new) has
giving_names run placed comm group (Makes own) key new has =
    names_if (groups_of run) (bytes_eq (group_of_key (length run) key) (parent_group run placed)) (Dup comm new)
    (Split comm (Some (parent_rank (parent_group run placed) (group_of_key (length run) key))) (rank_in run placed.rank key) (Some new))
    (dup_names (groups_of run) comm group new has)
    (split_names (groups_of run) comm group (Some (parent_rank (parent_group run placed) (group_of_key (length run) key))) (rank_in run placed.rank key) (Some new) has)
giving_names run placed comm group _ key new has = dup_names (groups_of run) comm group new has

bare_names : (run : Run) (placed : Placed) (comm : ℕ) (group : List ℕ) → HasGroup (groups_of run) comm group → Names (groups_of run) (bare_line run placed comm)
bare_names run placed comm group has =
    names_if (groups_of run) (option_map_or (brings run) (wave_at placed) false) (Split comm None (split_key placed.called) None) (Coll comm kind.Barrier)
    (split_names (groups_of run) comm group None (split_key placed.called) None has) (collective_names (groups_of run) comm group kind.Barrier has refl)

maker_names : (run : Run) (placed : Placed) (comm : ℕ) (group : List ℕ) (key : Option Key) (new : Option ℕ) → HasGroup (groups_of run) comm group → Names (groups_of run) (maker_by run placed comm key new)
maker_names run placed comm group (Some key) (Some new) has = giving_names run placed comm group placed.called key new has
maker_names run placed comm group None new has = bare_names run placed comm group has
maker_names run placed comm group (Some key) None has = bare_names run placed comm group has

-- ---- Entries ----

-- the communicator with a number, of some key
record IsNumbered (run : Run) (o : Option Key) (number : ℕ) : Type 0 where
  key : Key
  is_key : o ≡ Some key
  group : HasGroup (groups_of run) number (group_of_key (length run) key)

numbered_by : (run : Run) (o : Option Key) (number : ℕ) → option_and_then (number_of run) o ≡ Some number → IsNumbered run o number
numbered_by run None number h = absurd (none-some number h)
numbered_by run (Some key) number h = record { key = key; is_key = refl; group = record { is = numbered_group run key number h } }

pub message_fits : (group : List ℕ) (o : Option (Awaited × Option Message)) (it : Message) → option_map_or (awaited_can_be (length group)) o true ≡ true → option_and_then (λ a. message_of a.0 a.1) o ≡ Some it → FitsMessage group it
message_fits group None it fits is = absurd (none-some it is)
message_fits group (Some (awaited, reported)) it fits is =
    let last = (and_parts (peer_can_be (length group) awaited.source && tag_can_be awaited.tag) (message_can_be (length group) (message_of awaited reported)) fits).1 in
    (and_parts (peer_can_be (length group) it.source) (tag_can_be it.tag) (rw is at last)).0

one_names : (P : Call → Type 0) (wanted named : List Id) → AreSteps P (wait_for_one wanted named)
one_names P [] named = tt
one_names P (one ∷ others) named = (tt, tt)

any_names : (P : Call → Type 0) (lines : List Line) (requests wanted : List ℕ) → AreSteps P (wait_for_any lines requests wanted)
any_names P lines [] wanted = one_names P (ids_of lines wanted) (ids_of lines [])
any_names P lines (request ∷ []) wanted = (tt, tt)
any_names P lines (request ∷ other ∷ others) wanted = one_names P (ids_of lines wanted) (ids_of lines (request ∷ other ∷ others))

pub none_names : (P : Call → Type 0) (choice : Choice) (placed : Placed) (lines : List Line) (it : Called) → AreSteps P (on_none choice placed lines it)
none_names P choice placed lines (ReceivesMatched message) = (tt, tt)
none_names P choice placed lines (Waits requests) = (tt, tt)
none_names P choice placed lines (Tests requests) =
    steps_if P (passes_tests choice.tests choice.calls) (pass_test lines requests) (wait_for_all lines requests) (tt, (tt, tt)) (tt, tt)
none_names P choice placed lines (WaitsAny requests) = any_names P lines requests (chosen placed requests)
none_names P choice placed lines (WaitsSome requests) = (tt, tt)
none_names P choice placed lines _ = tt

steps_by_names : (run : Run) (choice : Choice) (placed : Placed) (o : Option ℕ) → number_at run placed ≡ o → can_be run placed ≡ true → AreSteps (Names (groups_of run)) (steps_by run choice placed o)
steps_by_names run choice placed None is can =
    steps_unless (Names (groups_of run)) (is_past choice.calls placed) (on_none choice placed placed.journal.lines placed.called)
    (none_names (Names (groups_of run)) choice placed placed.journal.lines placed.called)
steps_by_names run choice placed (Some number) is can =
    let numbered = numbered_by run (named_key placed) number is in
    let group = group_of_key (length run) numbered.key in
    let size : size_at run placed ≡ length group = ap (λ (o : Option Key). option_map_or (λ k. length (group_of_key (length run) k)) o 0) numbered.is_key in
    let parts = and_parts (sends_can_be (size_at run placed) placed.called) (option_map_or (awaited_can_be (size_at run placed)) (awaited_at placed) true) can in
    on_comm_names (groups_of run) (here_at run choice placed number) group placed.called numbered.group
    (maker_names run placed number group (key_made run placed) (option_and_then (number_of run) (key_made run placed)) numbered.group)
    (subst (λ (n : ℕ). sends_can_be n placed.called ≡ true) size parts.0)
    (λ it known. message_fits group (awaited_at placed) it (subst (λ (n : ℕ). option_map_or (awaited_can_be n) (awaited_at placed) true ≡ true) size parts.1) known)

-- what an exchange sends can be
half_fits : (group : List ℕ) (it : Called) (sent : Sent) → half_sent it ≡ Some sent → sends_can_be (length group) it ≡ true → FitsSent group sent
half_fits group (Exchanges one awaited) sent h fits = subst (λ (s : Sent). FitsSent group s) (same_Some one sent h) fits
half_fits group (StartsExchange request received one awaited) sent h fits = subst (λ (s : Sent). FitsSent group s) (same_Some one sent h) fits
half_fits group _ sent h fits = absurd (none-some sent h)

-- the group of an entry whose message may be a sink's
pub record IsOnGroup (run : Run) (placed : Placed) (wanted : Wanted) : Type 0 where
  pub key : Key
  pub is_key : named_key placed ≡ Some key
  pub has : HasGroup (groups_of run) wanted.comm (group_of_key (length run) key)
  pub half : (sent : Sent) → half_sent placed.called ≡ Some sent → FitsSent (group_of_key (length run) key) sent

pub on_group : (run : Run) (placed : Placed) (wanted : Wanted) → IsUnsure run placed wanted → IsOnGroup run placed wanted
on_group run placed wanted is =
    let numbered = numbered_by run (named_key placed) wanted.comm is.number in
    let group = group_of_key (length run) numbered.key in
    let size : size_at run placed ≡ length group = ap (λ (o : Option Key). option_map_or (λ k. length (group_of_key (length run) k)) o 0) numbered.is_key in
    let parts = and_parts (sends_can_be (size_at run placed) placed.called) (option_map_or (awaited_can_be (size_at run placed)) (awaited_at placed) true) (sound_is run placed is.sound).can in
    record {
      key = numbered.key;
      is_key = numbered.is_key;
      has = numbered.group;
      half = λ sent h. half_fits group placed.called sent h (subst (λ (n : ℕ). sends_can_be n placed.called ≡ true) size parts.0);
    }

sink_names : (run : Run) (placed : Placed) (wanted : Wanted) → IsUnsure run placed wanted → PassCalls (Names (groups_of run)) placed wanted
sink_names run placed wanted is =
    let on = on_group run placed wanted is in
    record {
      sink = λ number. record { comm_is = rw on.has.is refl; peers_are = refl };
      half = λ sent h number. start_send_names (groups_of run) wanted.comm (group_of_key (length run) on.key) sent on.has (on.half sent h) Standard number;
    }

pub sinks_name : (run : Run) (placed : Placed) → PassLists run placed (AreSteps (Names (groups_of run)))
sinks_name run placed = calls_pass (Names (groups_of run)) run placed (λ wanted is. sink_names run placed wanted is)

pub steps_names : (run : Run) (choice : Choice) (placed : Placed) → can_be run placed ≡ true → AreSteps (Names (groups_of run)) (steps_of run choice placed)
steps_names run choice placed can = steps_by_names run choice placed (number_at run placed) refl can
