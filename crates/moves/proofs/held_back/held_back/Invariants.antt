use Rattle.std.proofs.Common.{◌≡◌}
use Rattle.std.specs.List.{filter, range_with_len}
use Rattle.moves.specs.Stands.{stands_earlier}
use Rattle.moves.proofs.held_back.held_back.Given as goal

-- those of the ranks so far that stand earlier
abbrev pub invariant-loop-rank : goal.invariant-loop-rank
invariant-loop-rank l = l.ranks.items ≡ filter (stands_earlier l.first.stands l.second.stands) (range_with_len 0 l.rank)
