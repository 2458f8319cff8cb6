-- What of two calls of a wave is compared, and the kinds of members' calls.
use Rattle.std.specs.Prelude.{◌≡◌, ℕ, ◌+◌, ◌<◌, Option, None, option_and_then, List, get_or}
use Rattle.mpicall.specs.declared.call.Kind.{Kind}
use Rattle.mpigroup.specs.Groups.{Groups}
use Rattle.callstore.specs.Kinds.{kind_of}
use Rattle.callstore.specs.Recordings.{Lists}
use Rattle.findings.specs.Places.{call_of_member}
use Rattle.findings.specs.declared.finding.wave.Compared.{Compared}
use Rattle.findings.specs.declared.finding.wave.Compared.TheVariants.{Kinds, Roots}
use Rattle.findings.specs.Findings.{Comparison, kind_found, root_found}

abbrev pub comparison_of : Compared → Comparison
comparison_of Kinds = kind_found
comparison_of Roots = root_found

-- the kind of a member's call in a wave, where it is a collective that isn't started alone
abbrev pub kind_in : Groups → Lists → ℕ → ℕ → ℕ → Option Kind
kind_in groups recording comm wave g = option_and_then kind_of (call_of_member groups recording comm wave g)

-- these begin with the first member's kinds in so many waves from one on
abbrev pub AreFirstKinds : Groups → Lists → ℕ → ℕ → ℕ → List (Option Kind) → Type 0
AreFirstKinds groups recording comm from count kinds =
    (i : ℕ) → i < count → get_or kinds i None ≡ kind_in groups recording comm (from + i) 0
