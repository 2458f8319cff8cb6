-- Which numbers of requests are in use, as the list of a rank keeps it.
use Rattle.std.specs.Prelude.{◌≡◌, ℕ, ◌+◌, ◌<◌, ◌≤◌, ◌==◌, ◌&&◌, ◌||◌, Bool, true, false, nat_lt, if◌then◌else◌, List}
use Rattle.std.specs.List.{sum_by}
use Rattle.std.specs.Ordering.{nat_cmp}
use Rattle.std.specs.declared.cmp.Ordering.{Ordering}
use Rattle.std.specs.BinaryHeap.{heap_items, IsHeap}
use Rattle.std.specs.declared.cmp.Reverse.{Reverse}
use Rattle.closing.specs.Steps.{Id, has_number}
use Rattle.closing.specs.declared.list.List.{List as Listed}

abbrev pub backwards : Reverse ℕ → Reverse ℕ → Ordering
backwards x y = nat_cmp y.0 x.0

abbrev pub one_if : ℕ → Reverse ℕ → ℕ
one_if number kept = if kept.0 == number then 1 else 0

-- how often a number is among those that are free again
abbrev pub kept_count : List (Reverse ℕ) → ℕ → ℕ
kept_count kept number = sum_by (one_if number) kept

-- some request has the number: it was given, and isn't free again
abbrev pub is_in_use : Listed → ℕ → Bool
is_in_use it number = nat_lt number it.given && kept_count (heap_items it.free) number == 0

-- numbers that are free again were given, each is kept once, and the least comes first
pub record KeepsFree (it : Listed) : Type 0 where
  pub heap : IsHeap backwards (heap_items it.free)
  pub given : (number : ℕ) → 0 < kept_count (heap_items it.free) number → number < it.given
  pub once : (number : ℕ) → kept_count (heap_items it.free) number ≤ 1

-- the least number that isn't in use is taken, and no other
pub record TakesLeast (old new : Listed) (number : ℕ) : Type 0 where
  pub free : is_in_use old number ≡ false
  pub below : (other : ℕ) → other < number → is_in_use old other ≡ true
  pub taken : (other : ℕ) → is_in_use new other ≡ (other == number || is_in_use old other)
  pub kept : KeepsFree new
  pub given : new.given ≤ old.given + 1

-- active requests with their numbers
abbrev pub Requests : Type 0
Requests = List (Id × ℕ)

-- the numbers in use are those of these requests
pub record AreNumbered (active : Requests) (it : Listed) : Type 0 where
  pub kept : KeepsFree it
  pub same : (number : ℕ) → has_number active number ≡ is_in_use it number
