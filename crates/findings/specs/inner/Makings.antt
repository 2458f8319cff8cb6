-- New communicators as waves make them: what is found of one is so for each call that names it.
use Rattle.std.specs.Prelude.{◌≡◌, pos, Bool, Option, Some}
use Rattle.std.specs.Option.{option_map_or, IfSome}
use Rattle.std.specs.HashMap.{get}
use Rattle.mpicall.specs.declared.call.Call.{Call}
use Rattle.mpicall.specs.declared.call.Call.TheVariants.{Dup, Split}
use Rattle.mpigroup.specs.Groups.{Groups}
use Rattle.callstore.specs.Recordings.{Lists}
use Rattle.findings.specs.Findings.{is_wrong_group}
use Rattle.findings.specs.declared.finding.making.Making.{Making}
use Rattle.findings.specs.declared.finding.group.Known.{Known}
use Rattle.findings.specs.contracts.finding.making.MakingPartialEq.TheImpl as making_eq

-- a call that makes the communicator: a split with the colour, or else a dup
abbrev pub making_call : Making → Call
making_call making =
    option_map_or (λ colour. Split making.comm (Some colour) (pos 0) (Some making.new)) making.colour (Dup making.comm making.new)

-- it has another group than its wave gives it, and all members make the same call there
abbrev pub is_wrong_making : Groups → Lists → Making → Bool
is_wrong_making groups recording making = is_wrong_group groups recording (making_call making) (making.comm, making.wave)

abbrev pub is_same_making : Making → Making → Bool
is_same_making = (making_eq.ghosts).eq

-- what the table says of one
abbrev pub known_of : Known → Making → Option Bool
known_of known making = get is_same_making known.wrong making

-- it says what is so
abbrev pub IsKnown : Groups → Lists → Known → Type 0
IsKnown groups recording known = (making : Making) → IfSome (known_of known making) (λ is. is ≡ is_wrong_making groups recording making)
