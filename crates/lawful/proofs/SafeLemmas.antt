-- Entries that make no communicator by a call on a parent: each of their calls is over one that the rank holds.
use Rattle.std.proofs.Common.{◌≡◌, ℕ, ◌<◌, true, false, Option, Some, None, List, [], ◌∷◌, ◌++◌, length, refl, sym, subst, ◌∙◌}
use Rattle.std.specs.Prelude.{option_and_then}
use Rattle.std.specs.Option.{option_map_or}
use Rattle.std.proofs.lemmas.Bool.{false≢true, and_from}
use Rattle.std.proofs.lemmas.Option.{none-some, same_Some}
use Rattle.mpicall.specs.Word.{or_else}
use Rattle.mpicall.specs.declared.call.Call.{Call}
use Rattle.mpicall.specs.declared.call.Call.TheVariants.{Coll}
use Rattle.mpicall.specs.declared.call.Mode.{Mode}
use Rattle.mpicall.specs.declared.call.Mode.TheVariants.{Standard}
use Rattle.mpicall.specs.declared.call.Kind.{Kind}
use Rattle.mpicall.specs.declared.call.Kind.TheVariants as kind
use Rattle.mpigroup.specs.Groups.{Groups}
use Rattle.callstore.specs.Communicators.{holds}
use Rattle.pairing.specs.Faults.{is_member}
use Rattle.journals.specs.Known.{is_among}
use Rattle.closing.specs.Called.{Called, Sent, Sends, StartsSend, Receives, StartsReceive, Exchanges, StartsExchange, Probes, ProbesMatching, Collects, StartsCollective, Duplicates, StartsDuplicate, Splits, Makes, MakesOfGroup, comm_of}
use Rattle.closing.specs.Keys.{Key, OfGroup, has_member, group_count}
use Rattle.closing.specs.RankComms.{RankComms, key_under, key_next, makes_comm}
use Rattle.closing.specs.Entries.{Run, Placed}
use Rattle.closing.specs.Numbers.{is_of_call, number_of, groups_of, named_key}
use Rattle.closing.specs.Reported.{Message, is_gone}
use Rattle.closing.specs.Steps.{Own as OwnId, Whole, ReceiveHalf, Step, Does, Starts, Progress, after_steps}
use Rattle.closing.specs.Endings.{number_at}
use Rattle.closing.specs.Entry.{Choice, Here, send, start_send, receive, start_receive, exchange, probe, start_collective, does, does_both, starts, does_collective, starts_collective, unless_past, on_comm, on_none, is_past, here_at, kind_of, steps_by, steps_of}
use Rattle.lawful.proofs.StepLemmas.{calls_in}
use Rattle.lawful.proofs.PassLemmas.{AreSteps, PassWaits, steps_if, steps_append, steps_or, steps_unless}
use Rattle.closing.specs.declared.pending.Wanted.{Wanted}
use Rattle.lawful.proofs.NameLemmas.{none_names}
use Rattle.closing.specs.Sinks.{sinks}
use Rattle.lawful.proofs.SinkCases.{IsUnsure, PassCalls, PassLists, alone_steps, both_halves, both_steps, halves_steps, started_halves}
use Rattle.lawful.proofs.HoldLemmas.{steps_keep}
use Rattle.lawful.proofs.KeyFacts.{member_is}
use Rattle.lawful.proofs.CalledLemmas.{GroupIs}
use Rattle.lawful.proofs.KeptLemmas.{Has, KeptBy, KeptOn, Own, Safe, safe_keeps, world_own}

-- ---- The table ----

send_safe : (groups : Groups) (rank comm : ℕ) (mode : Mode) (sent : Sent) → Safe groups rank comm (send mode comm sent)
send_safe groups rank comm mode sent = record { passes = λ calls own. record { comms = own; afresh = refl }; makes_none = refl }

start_send_safe : (groups : Groups) (rank comm : ℕ) (mode : Mode) (sent : Sent) (number : ℕ) → Safe groups rank comm (start_send mode comm sent number)
start_send_safe groups rank comm mode sent number = record { passes = λ calls own. record { comms = own; afresh = refl }; makes_none = refl }

receive_safe : (groups : Groups) (rank comm : ℕ) (it : Message) → Safe groups rank comm (receive comm it)
receive_safe groups rank comm it = record { passes = λ calls own. record { comms = own; afresh = refl }; makes_none = refl }

start_receive_safe : (groups : Groups) (rank comm : ℕ) (it : Message) (number : ℕ) → Safe groups rank comm (start_receive comm it number)
start_receive_safe groups rank comm it number = record { passes = λ calls own. record { comms = own; afresh = refl }; makes_none = refl }

exchange_safe : (groups : Groups) (rank comm : ℕ) (sent : Sent) (it : Message) → Safe groups rank comm (exchange comm sent it)
exchange_safe groups rank comm sent it = record { passes = λ calls own. record { comms = own; afresh = refl }; makes_none = refl }

probe_safe : (groups : Groups) (rank comm : ℕ) (it : Message) → Safe groups rank comm (probe comm it)
probe_safe groups rank comm it = record { passes = λ calls own. record { comms = own; afresh = refl }; makes_none = refl }

collective_safe : (groups : Groups) (rank comm : ℕ) (it : Kind) → Safe groups rank comm (Coll comm it)
collective_safe groups rank comm it = record { passes = λ calls own. record { comms = own; afresh = refl }; makes_none = refl }

start_collective_safe : (groups : Groups) (rank comm : ℕ) (it : Kind) (number : ℕ) → Safe groups rank comm (start_collective comm it number)
start_collective_safe groups rank comm it number = record { passes = λ calls own. record { comms = own; afresh = refl }; makes_none = refl }

waits_safe : (groups : Groups) (rank comm : ℕ) → PassWaits (Safe groups rank comm)
waits_safe groups rank comm = record {
  wait = λ request. record { passes = λ calls own. record { comms = refl; afresh = refl }; makes_none = refl };
  waitall = λ requests. record { passes = λ calls own. record { comms = refl; afresh = refl }; makes_none = refl };
  waitany = λ place requests. record { passes = λ calls own. record { comms = refl; afresh = refl }; makes_none = refl };
}

does_safe : (P : Call → Type 0) (here : Here) (call : Call) (start : ℕ → Call) → P call → ((number : ℕ) → P (start number)) → AreSteps P (does here call start)
does_safe P here call start is all = steps_if P here.is_past (Starts (Whole here.line) start ∷ []) (Does call ∷ []) (all, tt) (is, tt)

starts_safe : (P : Call → Type 0) (here : Here) (request : ℕ) (start : ℕ → Call) → ((number : ℕ) → P (start number)) → AreSteps P (starts here request start)
starts_safe P here request start all = steps_if P (is_gone here.lines request) [] (Starts (OwnId request) start ∷ []) tt (all, tt)

collects_safe : (groups : Groups) (rank : ℕ) (here : Here) (it : Kind) → AreSteps (Safe groups rank here.comm) (does_collective here it)
collects_safe groups rank here it =
    does_safe (Safe groups rank here.comm) here (Coll here.comm it) (start_collective here.comm it) (collective_safe groups rank here.comm it)
    (start_collective_safe groups rank here.comm it)

starts_collective_safe : (groups : Groups) (rank : ℕ) (here : Here) (request : ℕ) (it : Kind) → AreSteps (Safe groups rank here.comm) (starts_collective here request it)
starts_collective_safe groups rank here request it =
    starts_safe (Safe groups rank here.comm) here request (start_collective here.comm it) (start_collective_safe groups rank here.comm it)

both_safe : (groups : Groups) (rank : ℕ) (here : Here) (sent : Sent) (it : Message) → AreSteps (Safe groups rank here.comm) (does_both here sent it)
both_safe groups rank here sent it =
    steps_if (Safe groups rank here.comm) here.is_past
    (Starts (Whole here.line) (start_send Standard here.comm sent) ∷ Starts (ReceiveHalf here.line) (start_receive here.comm it) ∷ [])
    (Does (exchange here.comm sent it) ∷ [])
    (start_send_safe groups rank here.comm Standard sent, (start_receive_safe groups rank here.comm it, tt))
    (exchange_safe groups rank here.comm sent it, tt)

probes_safe : (groups : Groups) (rank : ℕ) (here : Here) (it : Message) → AreSteps (Safe groups rank here.comm) (unless_past here.is_past (Does (probe here.comm it) ∷ []))
probes_safe groups rank here it =
    steps_unless (Safe groups rank here.comm) here.is_past (Does (probe here.comm it) ∷ []) (probe_safe groups rank here.comm it, tt)

on_comm_safe : (groups : Groups) (rank : ℕ) (here : Here) (it : Called) → makes_comm it ≡ false → AreSteps (Safe groups rank here.comm) (on_comm here it)
on_comm_safe groups rank here (Sends mode sent) makes_not =
    does_safe (Safe groups rank here.comm) here (send mode here.comm sent) (start_send mode here.comm sent)
    (send_safe groups rank here.comm mode sent) (start_send_safe groups rank here.comm mode sent)
on_comm_safe groups rank here (StartsSend request mode sent) makes_not =
    starts_safe (Safe groups rank here.comm) here request (start_send mode here.comm sent) (start_send_safe groups rank here.comm mode sent)
on_comm_safe groups rank here (Receives awaited) makes_not =
    steps_or (Safe groups rank here.comm) here.message (λ it. does here (receive here.comm it) (start_receive here.comm it))
    (λ it is. does_safe (Safe groups rank here.comm) here (receive here.comm it) (start_receive here.comm it)
    (receive_safe groups rank here.comm it) (start_receive_safe groups rank here.comm it))
on_comm_safe groups rank here (StartsReceive request awaited) makes_not =
    steps_or (Safe groups rank here.comm) here.message (λ it. starts here request (start_receive here.comm it))
    (λ it is. starts_safe (Safe groups rank here.comm) here request (start_receive here.comm it) (start_receive_safe groups rank here.comm it))
on_comm_safe groups rank here (Exchanges sent awaited) makes_not =
    steps_or (Safe groups rank here.comm) here.message (λ it. does_both here sent it) (λ it is. both_safe groups rank here sent it)
on_comm_safe groups rank here (StartsExchange request received sent awaited) makes_not =
    steps_append (Safe groups rank here.comm) (starts here request (start_send Standard here.comm sent))
    (option_map_or (λ it. starts here received (start_receive here.comm it)) here.message [])
    (starts_safe (Safe groups rank here.comm) here request (start_send Standard here.comm sent) (start_send_safe groups rank here.comm Standard sent))
    (steps_or (Safe groups rank here.comm) here.message (λ it. starts here received (start_receive here.comm it))
    (λ it is. starts_safe (Safe groups rank here.comm) here received (start_receive here.comm it) (start_receive_safe groups rank here.comm it)))
on_comm_safe groups rank here (Probes awaited) makes_not =
    steps_or (Safe groups rank here.comm) here.message (λ it. unless_past here.is_past (Does (probe here.comm it) ∷ []))
    (λ it is. probes_safe groups rank here it)
on_comm_safe groups rank here (ProbesMatching own awaited) makes_not =
    steps_or (Safe groups rank here.comm) here.message
    (λ it. unless_past here.is_past (Does (probe here.comm it) ∷ []) ++ Starts (OwnId own) (start_receive here.comm it) ∷ [])
    (λ it is. steps_append (Safe groups rank here.comm) (unless_past here.is_past (Does (probe here.comm it) ∷ []))
    (Starts (OwnId own) (start_receive here.comm it) ∷ [])
    (probes_safe groups rank here it) (start_receive_safe groups rank here.comm it, tt))
on_comm_safe groups rank here (Collects collective own root) makes_not = collects_safe groups rank here (kind_of collective root)
on_comm_safe groups rank here (StartsCollective request collective own root) makes_not =
    starts_collective_safe groups rank here request (kind_of collective root)
on_comm_safe groups rank here (StartsDuplicate request own) makes_not = starts_collective_safe groups rank here request kind.Barrier
on_comm_safe groups rank here (MakesOfGroup members) makes_not = collects_safe groups rank here kind.Barrier
on_comm_safe groups rank here (Duplicates own) makes_not = absurd (false≢true (sym makes_not))
on_comm_safe groups rank here (Splits own colour key) makes_not = absurd (false≢true (sym makes_not))
on_comm_safe groups rank here (Makes own) makes_not = absurd (false≢true (sym makes_not))
on_comm_safe groups rank here _ makes_not = tt

-- ---- The communicator of an entry ----

-- the rank is in the group of which its call makes a communicator
abbrev pub GroupOk : ℕ → Called → Type 0
GroupOk rank it = GroupIs (λ (group : List ℕ). is_among rank group ≡ true) it

pub next_ok : (ranks rank : ℕ) (comms : RankComms) (it : Called) (key : Key) → GroupOk rank it → key_next comms it ≡ Some key → (is_of_call key ≡ false) × (has_member ranks rank key ≡ true)
next_ok ranks rank comms (MakesOfGroup group) key ok h =
    subst (λ (k : Key). (is_of_call k ≡ false) × (has_member ranks rank k ≡ true)) (same_Some (OfGroup group (group_count group comms.groups)) key h) (refl, ok)
next_ok ranks rank comms _ key ok h = absurd (none-some key h)

named_has : (run : Run) (rank : ℕ) (placed : Placed) (calls : List Call) (key : Key) → KeptBy run rank placed.comms calls → GroupOk rank placed.called → named_key placed ≡ Some key → Has run rank calls key
named_has run rank placed calls key kept ok h = of_next (key_next placed.comms placed.called) refl h
  where
    of_comm : (o : Option ℕ) → option_and_then (key_under placed.comms) o ≡ Some key → Has run rank calls key
    of_comm None e = absurd (none-some key e)
    of_comm (Some number) e = kept.has number key e

    of_next : (o : Option Key) → key_next placed.comms placed.called ≡ o → or_else o (option_and_then (key_under placed.comms) (comm_of placed.called)) ≡ Some key → Has run rank calls key
    of_next (Some next) is e =
        let facts = next_ok (length run) rank placed.comms placed.called key ok (is ∙ e) in
        record { member = facts.1; ready = kept.ready key facts.0 facts.1 }
    of_next None is e = of_comm (comm_of placed.called) e

pub own_at : (run : Run) (rank : ℕ) (placed : Placed) (calls : List Call) (comm : ℕ) → KeptBy run rank placed.comms calls → GroupOk rank placed.called → number_at run placed ≡ Some comm → Own (groups_of run) rank calls comm
own_at run rank placed calls comm kept ok h = of_key (named_key placed) refl h
  where
    of_key : (o : Option Key) → named_key placed ≡ o → option_and_then (number_of run) o ≡ Some comm → Own (groups_of run) rank calls comm
    of_key None is e = absurd (none-some comm e)
    of_key (Some key) is e =
        let has = named_has run rank placed calls key kept ok is in
        and_from (is_member (groups_of run) rank comm) (holds calls comm) (member_is run rank key comm e has.member) (has.ready comm e)

-- ---- Steps ----

pub waits_keep : (run : Run) (rank line : ℕ) (comms : RankComms) (progress : Progress) (steps : List Step) → rank < length run → AreSteps (Safe (groups_of run) rank 0) steps → KeptBy run rank comms (calls_in progress) → KeptBy run rank comms (calls_in (after_steps progress line steps))
waits_keep run rank line comms progress steps within safe kept =
    (steps_keep (KeptOn run rank comms.numbers comms.waves comms.own 0) (Safe (groups_of run) rank 0) progress line steps
    (safe_keeps run rank comms.numbers comms.waves comms.own 0) (waits_safe (groups_of run) rank 0) safe
    (kept, world_own run rank (calls_in progress) within)).0

steps_by_keep : (run : Run) (choice : Choice) (rank : ℕ) (placed : Placed) (progress : Progress) (o : Option ℕ) → number_at run placed ≡ o → rank < length run → makes_comm placed.called ≡ false → GroupOk rank placed.called → KeptBy run rank placed.comms (calls_in progress) → KeptBy run rank placed.comms (calls_in (after_steps progress placed.line (steps_by run choice placed o)))
steps_by_keep run choice rank placed progress None is within makes_not ok kept =
    waits_keep run rank placed.line placed.comms progress (steps_by run choice placed None) within
    (steps_unless (Safe (groups_of run) rank 0) (is_past choice.calls placed) (on_none choice placed placed.journal.lines placed.called)
    (none_names (Safe (groups_of run) rank 0) choice placed placed.journal.lines placed.called)) kept
steps_by_keep run choice rank placed progress (Some comm) is within makes_not ok kept =
    (steps_keep (KeptOn run rank placed.comms.numbers placed.comms.waves placed.comms.own comm) (Safe (groups_of run) rank comm) progress placed.line
    (steps_by run choice placed (Some comm)) (safe_keeps run rank placed.comms.numbers placed.comms.waves placed.comms.own comm)
    (waits_safe (groups_of run) rank comm)
    (on_comm_safe (groups_of run) rank (here_at run choice placed comm) placed.called makes_not)
    (kept, own_at run rank placed (calls_in progress) comm kept ok is)).0

-- an entry that makes none by a call on a parent
pub steps_of_keep : (run : Run) (choice : Choice) (rank : ℕ) (placed : Placed) (progress : Progress) → rank < length run → makes_comm placed.called ≡ false → GroupOk rank placed.called → KeptBy run rank placed.comms (calls_in progress) → KeptBy run rank placed.comms (calls_in (after_steps progress placed.line (steps_of run choice placed)))
steps_of_keep run choice rank placed progress within makes_not ok kept =
    steps_by_keep run choice rank placed progress (number_at run placed) refl within makes_not ok kept

-- ---- Sinks ----

sink_safe : (groups : Groups) (rank : ℕ) (placed : Placed) (wanted : Wanted) → PassCalls (Safe groups rank wanted.comm) placed wanted
sink_safe groups rank placed wanted = record {
  sink = λ number. record { passes = λ calls own. record { comms = own; afresh = refl }; makes_none = refl };
  half = λ sent half number. start_send_safe groups rank wanted.comm Standard sent number;
}

sink_keeps : (run : Run) (rank : ℕ) (placed : Placed) (progress : Progress) (wanted : Wanted) (steps : List Step) → IsUnsure run placed wanted → AreSteps (Safe (groups_of run) rank wanted.comm) steps → GroupOk rank placed.called → KeptBy run rank placed.comms (calls_in progress) → KeptBy run rank placed.comms (calls_in (after_steps progress placed.line steps))
sink_keeps run rank placed progress wanted steps is safe ok kept =
    (steps_keep (KeptOn run rank placed.comms.numbers placed.comms.waves placed.comms.own wanted.comm) (Safe (groups_of run) rank wanted.comm) progress placed.line
    steps (safe_keeps run rank placed.comms.numbers placed.comms.waves placed.comms.own wanted.comm) (waits_safe (groups_of run) rank wanted.comm) safe
    (kept, own_at run rank placed (calls_in progress) wanted.comm kept ok is.number)).0

-- what a list keeps as sinks are put into it
abbrev pub KeptAfter : Run → ℕ → Placed → Progress → List Step → Type 0
KeptAfter run rank placed progress steps = KeptBy run rank placed.comms (calls_in (after_steps progress placed.line steps))

pub sinks_keep : (run : Run) (rank : ℕ) (placed : Placed) (progress : Progress) → GroupOk rank placed.called → KeptBy run rank placed.comms (calls_in progress) → PassLists run placed (KeptAfter run rank placed progress)
sinks_keep run rank placed progress ok kept = record {
  nothing = kept;
  alone = λ wanted is own.
      sink_keeps run rank placed progress wanted (sinks placed wanted own ∷ []) is
      (alone_steps (Safe (groups_of run) rank wanted.comm) placed wanted own (sink_safe (groups_of run) rank placed wanted)) ok kept;
  both = λ wanted is sent awaited called.
      sink_keeps run rank placed progress wanted (both_halves placed wanted sent) is
      (both_steps (Safe (groups_of run) rank wanted.comm) placed wanted sent awaited called (sink_safe (groups_of run) rank placed wanted)) ok kept;
  halves = λ wanted is request received sent awaited called.
      sink_keeps run rank placed progress wanted (started_halves placed wanted request received sent) is
      (halves_steps (Safe (groups_of run) rank wanted.comm) placed wanted request received sent awaited called (sink_safe (groups_of run) rank placed wanted)) ok kept;
}
