-- What contracts see of a watch, and of what it learns.
use Rattle.mpicall.specs.Names.{Rank, Place}
use Rattle.std.specs.Prelude.{◌≡◌, ℕ, ◌<◌, ◌≤◌, List, Option, Some, None, IfSome, slice_get}
use Rattle.watches.specs.Publications.{last_published}
use Rattle.watches.specs.Published.{list_known, book_of}
use Rattle.watches.specs.declared.stands.Stands.{Stands}
use Rattle.watches.specs.declared.watch.Watch.{Watch}
use Rattle.watches.specs.declared.watch.Told.{Told}

-- the publications that the watch has seen or learned of
abbrev pub seen_by : Watch → List Stands
seen_by watch = list_known watch.known

-- which session's list it reads
abbrev pub list_watched : Watch → ℕ
list_watched watch = book_of watch.known

-- how many ranks the session has
abbrev pub ranks_watched : Watch → ℕ
ranks_watched watch = watch.ranks

-- the publications that a watch can learn of by it
abbrev pub publications_told : Told → List Stands
publications_told told = list_known told.publication

-- which session's list they are of
abbrev pub list_told : Told → ℕ
list_told told = book_of told.publication

-- the answer for a rank is its stand in the last of what was seen; none exactly where there is no such rank
abbrev pub ReadsAt : Rank → Watch → Option Place → Type 0
ReadsAt rank watch (Some stand) = (rank < ranks_watched watch) × IfSome (last_published (seen_by watch)) (λ stands. slice_get stands.places rank ≡ Some stand)
ReadsAt rank watch None = ranks_watched watch ≤ rank

-- the watch answers by one of these publications
abbrev pub AnswersBy : List Stands → Watch → Type 0
AnswersBy list watch = IfSome (last_published (seen_by watch)) (λ stands. (place : ℕ) × (slice_get list place ≡ Some stands))

-- the watch is of so many ranks, reads this list, and knows these publications of it
pub record IsWatchOf (ranks : ℕ) (book : ℕ) (list : List Stands) (watch : Watch) : Type 0 where
  pub few : ranks_watched watch ≡ ranks
  pub reads : list_watched watch ≡ book
  pub seen : seen_by watch ≡ list
