-- What contracts see of a board.
use Rattle.watches.specs.declared.publication.Publication.{Publication}
use Rattle.watches.specs.declared.board.Board.{Board}

-- the publication that watches are shown
abbrev pub shown : Board → Publication
shown board = board.writer.desk.shown.value
