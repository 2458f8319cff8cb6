-- What stays where calls come in the place of an open. Any calls may: the list that was left open goes on with them.
use Rattle.mpicall.specs.Names.{Rank}
use Rattle.moves.specs.declared.reading.Reading.{Reading}
use Rattle.std.specs.Prelude.{◌≡◌, ℕ, ◌-◌, false, Some, if◌then◌else◌, List, [], ◌++◌, length, take, slice_get, slice_index}
use Rattle.mpicall.specs.declared.call.Call.{Call}
use Rattle.mpigroup.specs.Groups.{Groups}
use Rattle.callstore.specs.Recordings.{Lists, calls_of}
use Rattle.moves.specs.Stands.{stands_of}
use Rattle.pairing.specs.LeftOpen.{is_left_open}
use Rattle.waitgraph.specs.Held.{IsHeld}

-- the rank's calls before its open; all of them where its list ended
abbrev pub calls_before_open : Lists → Rank → List Call
calls_before_open recording rank =
    if is_left_open recording rank then take (length (calls_of recording rank) - 1) (calls_of recording rank) else calls_of recording rank

-- the later recording has other calls, or none, in the place of each open, and the same lists otherwise
pub record StandsInPlace (recording later : Lists) : Type 0 where
  pub same_ranks : length recording ≡ length later
  pub more : ℕ → List Call
  pub goes_on : (rank : Rank) → calls_of later rank ≡ calls_before_open recording rank ++ more rank
  pub ended : (rank : Rank) → is_left_open recording rank ≡ false → more rank ≡ []

-- the rank stands where it does, whatever calls come in the place of the opens
abbrev pub StaysPut : Reading → Groups → Lists → Rank → Type 0
StaysPut reading groups recording rank =
    (later : Lists) → StandsInPlace recording later →
    slice_index (stands_of reading groups later) rank ≡ slice_index (stands_of reading groups recording) rank

-- and so does each of the ranks
abbrev pub StayPut : Reading → Groups → Lists → List Rank → Type 0
StayPut reading groups recording ranks =
    (index : ℕ) (rank : Rank) → slice_get ranks index ≡ Some rank → StaysPut reading groups recording rank

-- Law: over every recording, so does each held rank.
abbrev pub HeldRanksStay : Type 0
HeldRanksStay =
    (reading : Reading) (groups : Groups) (recording : Lists) (rank : ℕ) → IsHeld reading groups recording rank →
    StaysPut reading groups recording rank
