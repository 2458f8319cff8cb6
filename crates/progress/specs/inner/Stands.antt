-- The stands over what an analyser has accepted.
use Rattle.moves.specs.Analysed.{Analysed}
use Rattle.moves.specs.Stands.{stands_of}
use Rattle.watches.specs.Stands.{shown_places}
use Rattle.watches.specs.declared.stands.Stands.{Stands}

abbrev pub stands_at : Analysed → Stands
stands_at analysed = record { places = shown_places (stands_of analysed.reading analysed.groups analysed.recording) }
