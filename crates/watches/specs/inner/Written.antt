-- A publication, with the pen of its list.
use Rattle.std.specs.Prelude.{◌≡◌}
use Rattle.watches.specs.Published.{list_known, book_of}
use Rattle.watches.specs.declared.append.Pen.{Pen}
use Rattle.watches.specs.declared.publication.Publication.{Publication}

-- the publications up to it are all that the pen wrote
pub record IsLast (pen : Pen) (publication : Publication) : Type 0 where
  pub name : pen.name ≡ book_of publication
  pub all : pen.list ≡ list_known publication
