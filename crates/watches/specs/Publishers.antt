-- What contracts see of what publishes.
use Rattle.std.specs.Prelude.{◌≡◌, ℕ, Bool, List, is_some}
use Rattle.std.specs.Option.{ForSome}
use Rattle.core.specs.Mem.{manually_drop_value}
use Rattle.watches.specs.Boards.{shown}
use Rattle.watches.specs.Published.{list_known, book_of}
use Rattle.watches.specs.declared.stands.Stands.{Stands}
use Rattle.watches.specs.declared.publisher.Publisher.{Publisher}

-- the publications, in order
abbrev pub published_by : Publisher → List Stands
published_by publisher = list_known publisher.last

-- which list they are
abbrev pub book_published : Publisher → ℕ
book_published publisher = book_of publisher.last

-- there are watches, and they are shown what is published
abbrev pub is_watched : Publisher → Bool
is_watched publisher = is_some publisher.board

-- where there are watches, what they are shown is the last publication
abbrev pub IsShown : Publisher → Type 0
IsShown publisher = ForSome publisher.board (λ board. list_known (shown (manually_drop_value board)) ≡ list_known publisher.last)
