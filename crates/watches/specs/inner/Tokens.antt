-- What the tokens of a list own. The list is a ghost value that only grows: who has a share of the right to say what it
-- is now knows all of it, and the whole right writes at its end.
use Rattle.std.specs.Prelude.{ℕ, List}
use base.Fml.{Fml, Share}
use base.Growing.{Order, prefixes, latest, at_least}
use Rattle.watches.specs.Stored.{stands_coded}
use Rattle.watches.specs.declared.stands.Stands.{Stands}

-- lists that are written on
abbrev pub lists : Order (List Stands)
lists = prefixes stands_coded

-- the list of this name is this one now, known by a share of the right to say so
abbrev pub is_all : ℕ → List Stands → Share → Fml
is_all name list share = latest lists share name list

-- the list of this name begins so
abbrev pub begins_so : ℕ → List Stands → Fml
begins_so name list = at_least lists name list
