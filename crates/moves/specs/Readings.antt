-- Readings: which standard sends need nothing. MPI leaves to the implementation which of them complete before their
-- receive is reached (MPI 4.0, section 3.4).
use Rattle.std.specs.Prelude.{ℕ, Bool, true, false, nat_le, Option}
use Rattle.std.specs.Option.{option_map_or}
use Rattle.moves.specs.declared.reading.Reading.{Reading}
use Rattle.moves.specs.declared.reading.Reading.TheVariants.{Strict, Eager}

-- the reading lets a message of so many bytes go before its receive is reached
abbrev pub is_eager : Reading → Option ℕ → Bool
is_eager Strict bytes = false
is_eager (Eager limit) bytes = option_map_or (λ count. nat_le count limit) bytes false

-- the first reading lets no message go that the second does not: it is strict, or its limit is no greater
abbrev pub is_no_laxer : Reading → Reading → Bool
is_no_laxer Strict second = true
is_no_laxer (Eager limit) Strict = false
is_no_laxer (Eager limit) (Eager greater) = nat_le limit greater
