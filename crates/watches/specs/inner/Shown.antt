-- What a board and its readers know of each other: which list the publications are of.
use Rattle.std.specs.Prelude.{ℕ, ◌≡◌, ◌⊎◌, List}
use mathlib.Core.Option.{some}
use lib.ListN.{get_elem?}
use Rattle.watches.specs.Published.{book_of}
use Rattle.watches.specs.declared.publication.Publication.{Publication}
use Rattle.watches.specs.declared.board.View.{View}

-- no list is known
abbrev pub nobody : View
nobody = record { known = 0; name = 0 }

-- the list of a publication
abbrev pub list_shown : Publication → View
list_shown p = record { known = 1; name = book_of p }

-- whoever knows a list knows that of the publication on the board
abbrev pub KnowOneList : Publication → List View → Type 0
KnowOneList shown views = (seat : ℕ) (view : View) → get_elem? views seat ≡ some view → (view ≡ nobody) ⊎ (view ≡ list_shown shown)

-- who turns the board, or looks at it, then knows the list of what it shows, and knew no other
abbrev pub SeesList : View → Publication → Publication → View → Type 0
SeesList before old new after = ((before ≡ nobody) ⊎ (before ≡ list_shown new)) × (after ≡ list_shown new)
