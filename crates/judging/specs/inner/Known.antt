-- What is known of how lists go on, as it is kept.
use Rattle.std.specs.Prelude.{map}
use Rattle.waitgraph.specs.Pending.{Known, view_of}
use Rattle.judging.specs.declared.known.Known.{Known as KnownKept}

abbrev pub known_in : KnownKept → Known
known_in it = record { pending = map view_of it.pending.items; sinks = it.sinks.items }
