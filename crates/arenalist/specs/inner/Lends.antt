-- What proofs and private contracts cite, in addition to the definitions of `specs/Lends.antt`.
use Rattle.std.specs.Prelude.{Option, Some}
use Rattle.std.specs.Borrow.{Lends, Fml, RattleType, MutBor}
use Rattle.std.specs.contracts.option.Option.{the_row as option_row}

-- once the borrow `r` ends, the slot has the last value written through it
abbrev pub lends_slot : (T : RattleType) → MutBor (Option T.Denot) → MutBor T.Denot → Fml
lends_slot T slot r = Lends (option_row T) T slot r (λ w. Some w)
