-- What proofs and private contracts cite, in addition to the definitions of `specs/Probed.antt`.
use Rattle.std.specs.Prelude.{ℕ, Bool, true, false, Option, Some, None, option_map, option_and_then, slice_get}
use Rattle.mpigroup.specs.Groups.{Groups}
use Rattle.callstore.specs.declared.envelope.Envelope.{Envelope}
use Rattle.callstore.specs.declared.envelope.Half.TheVariants.{Send as SendHalf, Recv as RecvHalf}
use Rattle.callstore.specs.Recordings.{Lists}
use Rattle.callstore.specs.Envelopes.{rank_of_half}
use Rattle.pairing.specs.Partners.{partner_of}
use Rattle.pairing.specs.Matched.{pending_of}
use Rattle.pairing.specs.Probed.{HasProbe, NoneIsProbed}

-- an answer whether there are probes; where there are none, no call sees a send
abbrev pub HasProbesIf : Bool → Groups → Lists → Type 0
HasProbesIf true groups recording = HasProbe groups recording
HasProbesIf false groups recording = NoneIsProbed groups recording

-- the same send, by where the next receive after the probe is
abbrev pub seen_from : Groups → Lists → ℕ → Option ℕ → Envelope → Option (ℕ × ℕ)
seen_from groups recording rank (Some there) e = partner_of groups recording rank there RecvHalf
seen_from groups recording rank None e =
    option_and_then (λ sender. option_map (λ there. (sender, there)) (slice_get (pending_of groups recording SendHalf e) 0)) (rank_of_half groups SendHalf e)
