-- What each rank waits for where it stands: the needs of its present call that aren't met there.
use Rattle.mpicall.specs.Names.{Rank}
use Rattle.std.specs.Prelude.{List}
use Rattle.mpigroup.specs.Groups.{or_empty}
use Rattle.moves.specs.declared.need.Need.{Need}

-- what each rank waits for: its unmet needs
abbrev pub Waits : Type 0
Waits = List (List Need)

-- the unmet needs of a rank
abbrev pub needs_in : Waits → Rank → List Need
needs_in waits rank = or_empty waits rank
