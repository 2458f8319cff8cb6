-- What proofs and private contracts cite, in addition to the definitions of `specs/Closes.antt`.
use Rattle.moves.specs.declared.reading.Reading.{Reading}
use Rattle.std.specs.Prelude.{List}
use Rattle.mpicall.specs.Trace.{Trace}
use Rattle.mpigroup.specs.Groups.{Groups}
use Rattle.gather.specs.Outcomes.{refusal_of, recording_of_traces}
use Rattle.moves.specs.Analysed.{Analysed}
use Rattle.gather.specs.Closes.{IsOutcomeOf}

-- the same over the traces of all ranks
abbrev pub IsOutcomeOver : Reading → Groups → List Trace → Analysed → Type 0
IsOutcomeOver reading groups traces outcome = IsOutcomeOf (refusal_of groups traces) reading groups (recording_of_traces traces) outcome
