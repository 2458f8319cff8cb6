-- The groups of the head, as they are kept: by the places of their keys.
use Rattle.std.specs.Prelude.{ℕ, List, map}
use Rattle.closing.specs.Table.{group_at}
use Rattle.closing.specs.declared.numbers.Communicators.{Communicators}

abbrev pub groups_in : Communicators → List (List ℕ)
groups_in it = map (λ place. group_at it.keys place) it.numbered.items
