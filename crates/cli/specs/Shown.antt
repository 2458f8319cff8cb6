-- Where, and how, it is shown how far a check is.
use Rattle.std.specs.Prelude.{◌≡◌, ℕ, ◌*◌, Bool, true, if◌then◌else◌}
use Rattle.std.specs.Duration.{as_nanos}
use Rattle.progress.specs.declared.viewer.Manner.{Manner}

-- where it is asked for, and on a terminal also unasked
abbrev pub is_shown_on : Bool → Bool → Bool
is_shown_on is_terminal is_asked = if is_asked then true else is_terminal

-- the seconds before anything is shown
abbrev pub first_seconds : Bool → ℕ
first_seconds is_asked = if is_asked then 1 else 2

-- a manner is the one for these: on a terminal an update takes the place of the last one
abbrev pub IsMannerFor : Bool → Bool → Manner → Type 0
IsMannerFor is_terminal is_asked manner =
    (manner.is_terminal ≡ is_terminal) × (as_nanos manner.first ≡ first_seconds is_asked * 1_000_000_000)
