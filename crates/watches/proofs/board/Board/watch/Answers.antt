use Rattle.watches.proofs.ViewLemmas.{admits, forks, merges}
use Rattle.watches.proofs.board.Board.watch.Goals as goal

pub reader-requires : goal.reader-requires
reader-requires c = admits

pub tell-requires : goal.tell-requires
tell-requires c = forks _ _

pub learn-requires-clause-rule : goal.learn-requires-clause-rule
learn-requires-clause-rule c = λ x views. merges _ _ _ _ x views
