-- What `Needs` says, of a world: the calls with the reading of their sends.
use Rattle.std.specs.Prelude.{ℕ, if◌then◌else◌, List, []}
use Rattle.mpicall.specs.declared.call.Call.{Call}
use Rattle.callstore.specs.declared.envelope.Half.TheVariants.{Send as SendHalf, Recv as RecvHalf}
use Rattle.pairing.specs.Seen.{IsSeen}
use Rattle.pairing.specs.declared.call_at.CallAt.{CallAt}
use Rattle.moves.specs.Needs.{half_needs, probe_needs, sends_freely}
use Rattle.moves.specs.declared.need.Need.{Need}
use Rattle.moves.specs.declared.need.Part.{Part}
use Rattle.moves.specs.declared.need.Part.TheVariants.{Sent, Received, Probed}
use Rattle.moves.specs.declared.world.World.{World}

-- the call is seen there, by its rank and its place
abbrev pub IsSeenAt : World → ℕ × ℕ → CallAt → Type 0
IsSeenAt w at = IsSeen w.pairs.groups w.pairs.recording at.0 at.1

-- what the operation of the call at the place needs for one of its messages
abbrev pub needs_for : World → ℕ × ℕ → Part → Call → List Need
needs_for w at Sent call = if sends_freely w.reading call then [] else half_needs w.pairs.groups w.pairs.recording at.0 at.1 SendHalf call
needs_for w at Received call = half_needs w.pairs.groups w.pairs.recording at.0 at.1 RecvHalf call
needs_for w at Probed call = probe_needs w.pairs.groups w.pairs.recording at.0 at.1 call
