use Rattle.std.proofs.Common.{◌≡◌, true, take}
use Rattle.std.specs.List.{list_all}
use Rattle.std.specs.Option.{is_some}
use Rattle.mpigroup.specs.Groups.{group_of}
use Rattle.pairing.specs.inner.Joined.{IsJoined}
use Rattle.callstore.specs.Recordings.{Lists}
use Rattle.callstore.specs.Waves.{place_in_wave}
use Rattle.pairing.proofs.waves.Waves.is_full.Given as goal

-- each member so far has its call
abbrev pub invariant-loop-g : goal.invariant-loop-g
invariant-loop-g l =
    (recording : Lists) → IsJoined recording l.self → list_all (λ rank. is_some (place_in_wave recording l.comm l.wave rank)) (take l.g (group_of l.head l.comm)) ≡ true
