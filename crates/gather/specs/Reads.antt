-- A source whose records are read one after the other.
use Rattle.std.specs.Prelude.{◌≡◌, ℕ, Option, Some, None, List, [], ◌∷◌, ◌++◌, length, Bool}
use Rattle.mpicall.specs.Source.{coming, ended}
use Rattle.mpicall.specs.declared.call.Call.{Call}
use Rattle.mpicall.specs.declared.source.Source.{Source}
use Rattle.mpicall.specs.declared.fault.Ending.{Ending}
use Rattle.rankfeed.specs.declared.item.Item.{Item}
use Rattle.rankfeed.specs.declared.item.Item.TheVariants.{Entry, Mark}
use Rattle.gather.specs.FeedContract.{IsFed, Continues, AreAsked, line_behind}

-- the items are records of a source that began so, and it goes on after them. The gate was asked of each of them,
-- and the next question's line is after them
pub record IsReading {I : Type 0} (left : I → Option (List ℕ)) (may_answer : ℕ → Bool → Type 0) (start now : Source I) (items : List Item) (line : ℕ) : Type 0 where
  pub fresh : ended now ≡ None
  pub told : Continues (coming left start) items (coming left now)
  pub at : line ≡ line_behind (length items)
  pub asked : AreAsked may_answer (length items)

-- either this record comes after the items, and the source is still being read, or this end mark after them
-- makes them all that is read of it
abbrev pub IsNextRead : {I : Type 0} → (I → Option (List ℕ)) → (ℕ → Bool → Type 0) → Source I → Source I → List Item → ℕ → Call → Option Ending → Type 0
IsNextRead left may_answer start now items line call None = IsReading left may_answer start now (items ++ Entry call ∷ []) line
IsNextRead left may_answer start now items line call (Some end) = IsFed (coming left start) may_answer (items ++ Mark end ∷ [])
