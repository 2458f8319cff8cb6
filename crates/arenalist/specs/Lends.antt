-- What an arena ends as, where a `&mut` to one of its values is returned.
use Rattle.std.specs.Prelude.{ℕ}
use Rattle.std.specs.Borrow.{Lends, Fml, RattleType, MutBor}
use Rattle.arenalist.specs.Arena.{Arena, revalued}
use Rattle.arenalist.specs.contracts.lists.Lists.{the_row}

-- once the borrow `r` ends, the node has the last value written through it, and all else is as before
abbrev pub lends_value : (T : RattleType) → MutBor (Arena T.Denot) → ℕ → MutBor T.Denot → Fml
lends_value T s node r = Lends (the_row T) T s r (λ w. record s.now { lists = revalued s.now.lists node w })
