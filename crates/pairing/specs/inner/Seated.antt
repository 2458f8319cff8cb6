-- The probes of a recording with their seats: the seat of a probe is looked up by its rank and place.
use Rattle.std.specs.Prelude.{◌<◌, ℕ, Bool, Option, IsSome}
use Rattle.indexmap.specs.IndexMap.{get, spare}
use Rattle.mpicall.specs.declared.call.Call.{Call}
use Rattle.mpigroup.specs.Groups.{Groups}
use Rattle.callstore.specs.Recordings.{Lists}
use Rattle.callstore.specs.Envelopes.{probed_message}
use Rattle.pairing.specs.inner.Probing.{AreSeated, HasRoomToSit}
use Rattle.pairing.specs.declared.probing.Spot.{Spot}
use Rattle.pairing.specs.declared.probing.Probing.{Probing}
use Rattle.pairing.specs.contracts.probing.SpotPartialEq.TheImpl as spot_eq

abbrev pub is_same_spot : Spot → Spot → Bool
is_same_spot = (spot_eq.ghosts).eq

-- the seat of the rank's probe at a place
abbrev pub seat_in : Probing → ℕ → ℕ → Option ℕ
seat_in probing rank place = get is_same_spot probing.seats (record { rank = rank; place = place })

abbrev pub IsProbing : Groups → Lists → Probing → Type 0
IsProbing groups recording probing = AreSeated groups recording (seat_in probing) probing.probes

-- a further probe can be put in without memory
abbrev pub HasRoomForProbe : Probing → Type 0
HasRoomForProbe probing = HasRoomToSit probing.probes × (0 < spare probing.seats)

-- and so can the call, which may be a probe
abbrev pub HasRoomToProbe : Probing → Call → Type 0
HasRoomToProbe probing call = IsSome (probed_message call) → HasRoomForProbe probing
