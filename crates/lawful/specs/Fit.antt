-- Law of what the making of a recording rests on.
use Rattle.closing.specs.Entries.{Run}
use Rattle.closing.specs.Entry.{Choice}
use Rattle.closing.specs.Fit.{IsFit}
use Rattle.lawful.specs.Laws.{IsRead}

-- Law: it is true of each run whose journals were read.
abbrev pub EachRunThatWasReadIsFit : Type 0
EachRunThatWasReadIsFit = (run : Run) (choice : Choice) → IsRead run → IsFit run choice
