-- Calls all of whose partners are in the recording.
use Rattle.mpicall.specs.Names.{Rank, Place}
use Rattle.std.specs.Prelude.{Bool, true, ◌&&◌, ◌||◌, Option, is_some, is_none, option_and_then, slice_get}
use Rattle.std.specs.Option.{option_map_or}
use Rattle.mpicall.specs.declared.call.Call.{Call}
use Rattle.mpigroup.specs.Groups.{Groups}
use Rattle.callstore.specs.declared.envelope.Half.{Half}
use Rattle.callstore.specs.declared.envelope.Half.TheVariants.{Send as SendHalf, Recv as RecvHalf}
use Rattle.callstore.specs.Recordings.{Lists, calls_of}
use Rattle.callstore.specs.Envelopes.{message_of, probed_message}
use Rattle.callstore.specs.Waves.{wave_of, is_full}
use Rattle.pairing.specs.Partners.{partner_of}
use Rattle.pairing.specs.Probed.{probed_of}

-- what the call at the place has by a test of calls; nothing where there is none
abbrev pub found_at : {A : Type 0} → (Call → Option A) → Lists → Rank → Place → Option A
found_at test recording rank place = option_and_then test (slice_get (calls_of recording rank) place)

-- the half of the call's message has its partner, if the call has such a message
abbrev pub has_its_partner : Groups → Lists → Rank → Place → Half → Bool
has_its_partner groups recording rank place half =
    is_none (found_at (message_of half) recording rank place) || is_some (partner_of groups recording rank place half)

-- the call sees a send, if it is a probe for a message
abbrev pub sees_its_send : Groups → Lists → Rank → Place → Bool
sees_its_send groups recording rank place =
    is_none (found_at probed_message recording rank place) || is_some (probed_of groups recording rank place)

-- each member has its call of the call's wave, if it joins one
abbrev pub has_its_wave : Groups → Lists → Rank → Place → Bool
has_its_wave groups recording rank place = option_map_or (λ wave. is_full groups recording wave.0 wave.1) (wave_of recording rank place) true

-- all whom the call meets are in the recording
abbrev pub has_all : Groups → Lists → Rank → Place → Bool
has_all groups recording rank place =
    has_its_partner groups recording rank place SendHalf && has_its_partner groups recording rank place RecvHalf
    && sees_its_send groups recording rank place && has_its_wave groups recording rank place
