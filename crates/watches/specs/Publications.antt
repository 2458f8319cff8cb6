-- The list of publications: what each shows, and how one more is written after it.
use Rattle.moves.specs.declared.reading.Reading.{Reading}
use Rattle.std.specs.Prelude.{◌≡◌, ◌≢◌, ◌⊎◌, Bool, true, false, List, [], ◌∷◌, ◌++◌, replicate, if◌then◌else◌, Option, Some, None, IfSome, All, slice_get}
use Rattle.mpigroup.specs.Groups.{Groups}
use Rattle.mpigroup.specs.declared.limits.TheConstants.{MOST_RANKS}
use Rattle.callstore.specs.Recordings.{Lists}
use Rattle.watches.specs.Stands.{is_no_lower, is_further, IsPassed}
use Rattle.watches.specs.declared.stands.Stands.{Stands}

-- the stands 0 everywhere
unfoldable pub at_start : Stands
at_start = record { places = replicate MOST_RANKS 0 }

-- the last of a list, if it has one
abbrev pub last_published : List Stands → Option Stands
last_published [] = None
last_published (x ∷ []) = Some x
last_published (x ∷ y ∷ ys) = last_published (y ∷ ys)

-- each is further than the one before it, and no rank stands lower there
abbrev pub is_rising : List Stands → Bool
is_rising [] = true
is_rising (x ∷ []) = true
is_rising (x ∷ y ∷ ys) = if is_further x.places y.places then is_rising (y ∷ ys) else false

-- the first are the stands 0, and each is further than the one before it
abbrev pub AreRising : List Stands → Type 0
AreRising list = (slice_get list 0 ≡ Some at_start) × (is_rising list ≡ true)

-- no rank stands lower in the later stands, where there are any
abbrev pub NeverFalls : Option Stands → Option Stands → Type 0
NeverFalls earlier later = IfSome earlier (λ a. IfSome later (λ b. is_no_lower a.places b.places ≡ true))

-- the stands are published: they are one more, or they were the last already
abbrev pub Publishes : Stands → List Stands → List Stands → Type 0
Publishes stands old new = (new ≡ old ++ stands ∷ []) ⊎ ((new ≡ old) × (last_published old ≡ Some stands))

-- the stands are neither further than the last of the list nor the last again
pub record IsNoFurther (stands : Stands) (list : List Stands) : Type 0 where
  pub last : Stands
  pub is_last : last_published list ≡ Some last
  pub no_further : is_further last.places stands.places ≡ false
  pub other : stands ≢ last

-- each is a state that some run over the recording passes
abbrev pub ArePassed : Reading → Groups → Lists → List Stands → Type 0
ArePassed reading groups recording list = All (λ stands. IsPassed reading groups recording stands.places) list
