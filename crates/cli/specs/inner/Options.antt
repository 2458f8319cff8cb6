-- What proofs and private contracts cite, in addition to the definitions of `specs/Options.antt`.
use Rattle.std.specs.Prelude.{Bool, List, codes}
use Rattle.clap.specs.Walk.{Row, first_of}
use Rattle.cli.specs.Options.{is_given}

-- whether the flag for a check that is shown is noted as given
abbrev pub is_shown : List Row → Bool
is_shown rows = is_given (first_of (codes "progress") rows)
