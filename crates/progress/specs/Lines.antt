-- The line that shows how far a check is.
use Rattle.std.specs.Prelude.{◌≡◌, ℕ, ◌<◌, ◌≤◌, Bool, true, false, Option, Some, None, List, [], ◌∷◌, ◌++◌, codes, slice_get, slice_index, sum}
use Rattle.std.specs.Fmt.{decimal}
use Rattle.watches.specs.declared.stands.Stands.{Stands}
use Rattle.progress.specs.declared.line.Earliest.{Earliest}
use Rattle.progress.specs.declared.line.Position.{Position}

-- the rank stands at that place, no rank stands lower, and none before it as low
pub record IsEarliest (ranks : ℕ) (places : List ℕ) (rank place : ℕ) : Type 0 where
  pub is_rank : rank < ranks
  pub stands : slice_get places rank ≡ Some place
  pub lowest : (other : ℕ) → other < ranks → place ≤ slice_index places other
  pub first : (other : ℕ) → other < rank → place < slice_index places other

-- the first of the ranks that stand earliest is named, where the ranks are known
abbrev pub IsEarliestOf : ℕ → List ℕ → Option Earliest → Type 0
IsEarliestOf ranks places None = ranks ≡ 0
IsEarliestOf ranks places (Some earliest) = IsEarliest ranks places earliest.rank earliest.place

-- the position is that of these stands: the calls that the ranks have completed together, the first of those that
-- stand earliest, and how much was read
pub record IsPositionOf (ranks : ℕ) (stands : Stands) (percent : Option ℕ) (position : Position) : Type 0 where
  pub calls : position.calls ≡ sum stands.places
  pub earliest : IsEarliestOf ranks stands.places position.earliest
  pub percent_is : position.percent ≡ percent

-- the words for each part
abbrev pub words_of_earliest : Option Earliest → List ℕ
words_of_earliest None = []
words_of_earliest (Some earliest) = codes "; rank " ++ (decimal earliest.rank ++ (codes " stands earliest, at its call " ++ decimal earliest.place))

abbrev pub words_of_read : Option ℕ → List ℕ
words_of_read None = []
words_of_read (Some percent) = codes "; " ++ (decimal percent ++ codes "% of the files read")

abbrev pub words_of : Position → List ℕ
words_of position =
    codes "mpiwait: " ++ (decimal position.calls ++ (codes " calls taken" ++ (words_of_earliest position.earliest ++ words_of_read position.percent)))

-- the text of an update: on a terminal the cursor goes back before it, and the rest of the line is erased after it
abbrev pub framed : Bool → List ℕ → List ℕ
framed true words = 13 ∷ (words ++ (27 ∷ codes "[K"))
framed false words = words ++ codes "\n"
