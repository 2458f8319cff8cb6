-- What proofs and private contracts cite, in addition to the definitions of `specs/Answers.antt`.
use Rattle.mpicall.specs.declared.call.Call.{Call}
use Rattle.rankfeed.specs.declared.answer.Came.{Came}
use Rattle.rankfeed.specs.declared.answer.Took.{Took}
use Rattle.rankfeed.specs.declared.answer.Took.TheVariants.{Record, Empty, Sealed, Torn}

-- what a taker takes, where a look finds this and that record is the one at the front
abbrev pub came_with : Came → Call → Took
came_with Came.Record call = Record call
came_with Came.Empty call = Empty
came_with Came.Sealed call = Sealed
came_with (Came.Torn fault) call = Torn fault
