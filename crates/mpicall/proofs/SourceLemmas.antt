-- What a source that begins still gives.
use Rattle.std.proofs.Common.{◌≡◌, ℕ, List, [], refl, Option, Some, None, option_map}
use Rattle.std.proofs.KnownBytes.{prepend_known-nil}
use Rattle.std.specs.Io.KnownBytes.{prepend_known}
use Rattle.mpicall.specs.Trace.{trace_of}

pub nothing_held : (known : Option (List ℕ)) → option_map trace_of (prepend_known [] known) ≡ option_map trace_of known
nothing_held None = refl
nothing_held (Some bytes) = refl

pub ruleset source_steps = (nothing_held, prepend_known-nil)
