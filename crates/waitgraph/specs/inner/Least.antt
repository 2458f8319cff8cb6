-- The least set of ranks that a rule makes, found by rounds. This module knows nothing of MPI.
use Rattle.std.specs.Prelude.{◌≡◌, ℕ, zero, suc, ◌<◌, true, false}
use Rattle.waitgraph.specs.Held.{Set}

-- a rule says which ranks belong to the set that has these
abbrev pub SetRule : Type 0
SetRule = Set → Set

-- the ranks that so many rounds of the rule make, starting with none
abbrev pub after_rounds : SetRule → ℕ → Set
after_rounds rule zero rank = false
after_rounds rule (suc rounds) rank = rule (after_rounds rule rounds) rank

abbrev pub IsWithin : Set → Set → Type 0
IsWithin a b = (rank : ℕ) → a rank ≡ true → b rank ≡ true

-- the set has each rank that the rule makes of it
abbrev pub IsClosedUnder : SetRule → Set → Type 0
IsClosedUnder rule set = IsWithin (rule set) set

-- a larger set makes no fewer ranks
abbrev pub IsRising : SetRule → Type 0
IsRising rule = (a b : Set) → IsWithin a b → IsWithin (rule a) (rule b)

-- the rule makes ranks below the number alone
abbrev pub MakesBelow : ℕ → SetRule → Type 0
MakesBelow ranks rule = (set : Set) (rank : ℕ) → rule set rank ≡ true → rank < ranks

-- Law: as many rounds as there are ranks give the least set that is closed under the rule.
abbrev pub RoundsGiveTheLeastSet : Type 0
RoundsGiveTheLeastSet =
    (rule : SetRule) (ranks : ℕ) → IsRising rule → MakesBelow ranks rule →
    IsClosedUnder rule (after_rounds rule ranks)
    × ((set : Set) → IsClosedUnder rule set → IsWithin (after_rounds rule ranks) set)
