-- What contracts see of a publication.
use Rattle.std.specs.Prelude.{ℕ, List}
use Rattle.watches.specs.declared.stands.Stands.{Stands}
use Rattle.watches.specs.declared.publication.Publication.{Publication}

-- the publications up to it
abbrev pub list_known : Publication → List Stands
list_known publication = publication.known.list

-- which list it is of: the list's name
abbrev pub book_of : Publication → ℕ
book_of publication = publication.known.name
