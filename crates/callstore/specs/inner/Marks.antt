-- What is kept with a call, by its mark and its pair. A number below the first far one is in the mark, in its high 8
-- and its low 16 bits.
use Rattle.std.specs.Prelude.{ℕ, ◌+◌, ◌*◌, Bool, true, false, List, slice_get, unwrap_or}
use Rattle.callstore.specs.declared.mark.Mark.{Mark}
use Rattle.callstore.specs.declared.mark.Mark.TheVariants as mark
use Rattle.callstore.specs.declared.mark.Pair.{Pair}
use Rattle.callstore.specs.declared.mark.TheConstants.{FAR}
use Rattle.callstore.specs.declared.cached_match.CachedMatch.{CachedMatch}
use Rattle.callstore.specs.declared.cached_match.CachedMatch.TheVariants as cached

-- no mark has this number, nor a greater one
abbrev pub far : ℕ
far = FAR

-- the number with these high and low bits
abbrev pub joined : ℕ → ℕ → ℕ
joined high low = high * 65536 + low

-- what is kept with a call
abbrev pub kept_by : Mark → Pair → CachedMatch
kept_by mark.Nothing pair = cached.Nothing
kept_by (mark.Wave high low) pair = cached.Wave (joined high low)
kept_by (mark.Sent high low) pair = cached.Sent (joined high low)
kept_by (mark.Received high low) pair = cached.Received (joined high low)
kept_by mark.FarWave pair = cached.Wave pair.first
kept_by mark.FarSent pair = cached.Sent pair.first
kept_by mark.FarReceived pair = cached.Received pair.first
kept_by mark.Exchanged pair = cached.Exchanged pair.first pair.second

-- its numbers are in the pair
abbrev pub is_apart : Mark → Bool
is_apart mark.FarWave = true
is_apart mark.FarSent = true
is_apart mark.FarReceived = true
is_apart mark.Exchanged = true
is_apart _ = false

-- a pair of one number, or of none, has zeros
abbrev pub no_pair : Pair
no_pair = record { first = 0; second = 0 }

-- the numbers of what is kept
abbrev pub pair_of : CachedMatch → Pair
pair_of cached.Nothing = no_pair
pair_of (cached.Wave number) = record { first = number; second = 0 }
pair_of (cached.Sent to) = record { first = to; second = 0 }
pair_of (cached.Received from) = record { first = from; second = 0 }
pair_of (cached.Exchanged to from) = record { first = to; second = from }

-- the pair of the call with that index
abbrev pub pair_at : List Pair → ℕ → Pair
pair_at pairs index = unwrap_or (slice_get pairs index) no_pair
