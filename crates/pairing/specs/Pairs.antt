-- What `Pairs` keeps and what it answers of a call that it adds.
use Rattle.mpicall.specs.Names.{Rank, Place, Request}
use Rattle.std.specs.Prelude.{◌≡◌, ℕ, Option, Some, None, option_map, option_and_then, slice_get}
use Rattle.mpicall.specs.declared.call.Call.{Call}
use Rattle.mpigroup.specs.Groups.{Groups}
use Rattle.callstore.specs.declared.envelope.Half.TheVariants.{Send as SendHalf, Recv as RecvHalf}
use Rattle.pairing.specs.declared.added.Added.{Added}
use Rattle.pairing.specs.declared.added.Joined.{Joined}
use Rattle.pairing.specs.declared.added.PairFault.{PairFault}
use Rattle.pairing.specs.declared.added.PairFault.TheVariants.{Refused, Memory}
use Rattle.pairing.specs.declared.fault.CallFault.{CallFault}
use Rattle.callstore.specs.Recordings.{Lists, calls_of, appended}
use Rattle.pairing.specs.Partners.{partner_of}
use Rattle.callstore.specs.Requests.{completes, started_before}
use Rattle.callstore.specs.Waves.{wave_of, is_full}

-- the groups of a run's communicators, and the calls of each rank that were added
pub record Paired : Type 0 where
  pub groups : Groups
  pub recording : Lists

-- the same with one more call of a rank
abbrev pub with_call : Paired → Rank → Call → Paired
with_call pairs rank call = record { groups = pairs.groups; recording = appended pairs.recording rank call }

-- the wave that a call joins, and whether each member has its call of it
abbrev pub joined_at : Paired → Rank → Place → Option Joined
joined_at pairs rank place =
    option_map (λ wave. record { comm = wave.0; wave = wave.1; is_full = is_full pairs.groups pairs.recording wave.0 wave.1 })
    (wave_of pairs.recording rank place)

-- what is answered of the call at a place, over what was added: the partners of its halves, and its wave
abbrev pub added_at : Paired → Rank → Place → Added
added_at pairs rank place = record {
  send = partner_of pairs.groups pairs.recording rank place SendHalf;
  recv = partner_of pairs.groups pairs.recording rank place RecvHalf;
  wave = joined_at pairs rank place;
}

-- a refusal gives the first fault of the call, or that memory ran out for a call without a fault
abbrev pub TellsFault : Option CallFault → PairFault → Type 0
TellsFault first (Refused fault) = first ≡ Some fault
TellsFault first Memory = first ≡ None

-- the request with that index, from 0, among those that the wait at the place completes
abbrev pub completed_req : Lists → Rank → Place → ℕ → Option Request
completed_req recording rank place index =
    option_and_then (λ call. slice_get (completes call) index) (slice_get (calls_of recording rank) place)

-- the place that started that request
abbrev pub completed_of : Lists → Rank → Place → ℕ → Option Place
completed_of recording rank place index =
    option_and_then (started_before recording rank place) (completed_req recording rank place index)
