-- The limits of a recording.
use Rattle.std.specs.Prelude.{◌≡◌, ℕ}
use Rattle.callstore.specs.declared.limits.TheConstants.{MOST_CALLS}

-- the most calls of a rank, its Finalize counted
abbrev pub most_calls : ℕ
most_calls = MOST_CALLS

-- Law: that limit, in numbers.
abbrev pub TheLimitOfARecording : Type 0
TheLimitOfARecording = MOST_CALLS ≡ 1000000
