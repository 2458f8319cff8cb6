-- What the answers of a feed and of its taker mean.
use Rattle.std.specs.Prelude.{◌≡◌, Option, Some, None, List, [], ◌∷◌, ◌++◌}
use Rattle.mpicall.specs.declared.call.Call.{Call}
use Rattle.mpicall.specs.declared.fault.Ending.{Ending}
use Rattle.rankfeed.specs.declared.item.Item.{Item}
use Rattle.rankfeed.specs.declared.item.Item.TheVariants.{Entry, Mark}
use Rattle.rankfeed.specs.declared.answer.PutFault.{PutFault}
use Rattle.rankfeed.specs.declared.answer.PutFault.TheVariants.{Full, Closed}
use Rattle.rankfeed.specs.declared.answer.Came.{Came}
use Rattle.rankfeed.specs.declared.answer.Took.{Took}
use Rattle.rankfeed.specs.declared.answer.Took.TheVariants.{Record, Empty, Sealed, Torn}

-- the record that a refused put hands back
abbrev pub handed_back : PutFault → Call
handed_back (Full call) = call
handed_back (Closed call) = call

-- how a taker answers an end mark, and where it looks alone
abbrev pub told_end : Ending → Took
told_end Ending.Sealed = Sealed
told_end (Ending.Torn fault) = Torn fault

abbrev pub came_end : Ending → Came
came_end Ending.Sealed = Came.Sealed
came_end (Ending.Torn fault) = Came.Torn fault

-- what is received once an answer was given: where no end mark had come, the one item that it has is
-- added, and Empty adds nothing; an end mark that had come is answered again, and nothing is added
abbrev pub Receives : Option Ending → Took → List Item → List Item → Type 0
Receives (Some earlier) took old new = (took ≡ told_end earlier) × (new ≡ old)
Receives None (Record call) old new = new ≡ old ++ Entry call ∷ []
Receives None Empty old new = new ≡ old
Receives None Sealed old new = new ≡ old ++ Mark Ending.Sealed ∷ []
Receives None (Torn fault) old new = new ≡ old ++ Mark (Ending.Torn fault) ∷ []

-- what is received once a look was answered: the same, but that a record which is found is left where it is
abbrev pub Looks : Option Ending → Came → List Item → List Item → Type 0
Looks (Some earlier) came old new = (came ≡ came_end earlier) × (new ≡ old)
Looks None Came.Record old new = new ≡ old
Looks None Came.Empty old new = new ≡ old
Looks None Came.Sealed old new = new ≡ old ++ Mark Ending.Sealed ∷ []
Looks None (Came.Torn fault) old new = new ≡ old ++ Mark (Ending.Torn fault) ∷ []
