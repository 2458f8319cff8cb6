-- What is done in the arena of the halves that have no partner yet.
use Rattle.mpicall.specs.Names.{Rank}
use Rattle.std.specs.Prelude.{ℕ, ◌+◌, if◌then◌else◌, is_some, List, [], ◌∷◌}
use Rattle.arenaqueue.specs.Numbers.{counted}
use Rattle.mpicall.specs.declared.call.Call.{Call}
use Rattle.mpigroup.specs.Groups.{Groups}
use Rattle.callstore.specs.declared.envelope.Half.TheVariants.{Send as SendHalf, Recv as RecvHalf}
use Rattle.callstore.specs.Envelopes.{envelope_of}
use Rattle.callstore.specs.Recordings.{Lists}

-- how many halves of messages a call has
abbrev pub count_halves : Groups → Rank → Call → ℕ
count_halves groups rank call =
    (if is_some (envelope_of groups rank SendHalf call) then 1 else 0) + (if is_some (envelope_of groups rank RecvHalf call) then 1 else 0)

-- how many a rank's calls have
abbrev pub halves_in : Groups → Rank → List Call → ℕ
halves_in groups rank [] = 0
halves_in groups rank (call ∷ calls) = count_halves groups rank call + halves_in groups rank calls

-- how many the lists have, where the first has the rank `rank`
abbrev pub halves_from : Groups → Rank → Lists → ℕ
halves_from groups rank [] = 0
halves_from groups rank (calls ∷ lists) = halves_in groups rank calls + halves_from groups (rank + 1) lists

-- The work that was done: 1 for each half of a message, which is put into a list of pending halves or takes its
-- partner out of one. It stays at the greatest `u64`.
abbrev pub work_of : Groups → Lists → ℕ
work_of groups recording = counted 0 (halves_from groups 0 recording)
