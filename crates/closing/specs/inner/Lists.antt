-- The list of a rank so far, as it is kept, against the progress of the definitions.
use Rattle.std.specs.Prelude.{◌≡◌, ℕ, ◌+◌, ◌-◌, ◌<◌, ◌≤◌, nat_eq, Bool, true, false, Option, Some, None, option_map, Result, Ok, Err, List, [], ◌∷◌, ◌++◌, length, map, take, slice_get}
use Rattle.closing.specs.inner.Started.{active_at}
use Rattle.std.specs.HashSet.{contains}
use Rattle.mpicall.specs.declared.call.Call.{Call}
use Rattle.mpicall.specs.declared.call.Call.TheVariants.{Isend, Irecv, Icoll}
use Rattle.closing.specs.Fit.{starts_send}
use Rattle.closing.specs.Freed.{starts_one_of}
use Rattle.closing.specs.Steps.{Id, Own, Whole, ReceiveHalf, Sink, Written, Progress, number_in, has_number, least_free, without, without_all, numbers_of}
use Rattle.closing.specs.inner.Free.{Requests, AreNumbered}
use Rattle.mpicall.specs.declared.limits.TheConstants.{GREATEST_REQUEST}
use Rattle.closing.specs.declared.freed.Freed.{Freed}
use Rattle.closing.specs.declared.list.List.{List as ListCode}
use Rattle.closing.specs.declared.list.Active.{Active}
use Rattle.closing.specs.declared.list.Start.{Start}
use Rattle.closing.specs.declared.list.Start.TheVariants as start
use Rattle.closing.specs.declared.list.TheConstants.{MOST_RECORDS}
use Rattle.closing.specs.declared.stop.Stop.{Stop}
use Rattle.closing.specs.declared.stop.Stop.TheVariants.{Left, Memory}
use Rattle.closing.specs.declared.why.Why.TheVariants.{TooLong}

-- ---- What starts a request ----

-- the call that starts it as the request with a number
abbrev pub start_call : Start → ℕ → Call
start_call (start.Send mode comm dest tag bytes) number = Isend number mode comm dest tag bytes
start_call (start.Receive comm source tag) number = Irecv number comm source tag
start_call (start.Collective comm kind) number = Icoll number comm kind

abbrev pub is_start_of_send : Start → Bool
is_start_of_send (start.Send mode comm dest tag bytes) = true
is_start_of_send it = false

-- no line names it
abbrev pub IsUnnamed : Id → Type 0
IsUnnamed (Own request) = ⊥
IsUnnamed (Whole line) = Unit {0}
IsUnnamed (ReceiveHalf line) = Unit {0}
IsUnnamed (Sink own wanted is_known) = Unit {0}

-- ---- Records and requests ----

abbrev pub calls_in : List Written → List Call
calls_in records = map (λ it. it.call) records

-- the record that started an active request, by its place
abbrev pub IsStartOf : ℕ → Active → Option Written → Type 0
IsStartOf id active None = ⊥
IsStartOf id active (Some it) = (it.starts ≡ Some (Own id)) × (starts_send it.call ≡ active.is_send)

abbrev pub IsStarted : List Written → ℕ → Option Active → Type 0
IsStarted records id None = Unit {0}
IsStarted records id (Some active) = IsStartOf id active (slice_get records active.place)

-- no other request has the number, or the number in the journal
abbrev pub IsApart : Id × ℕ → Requests → Type 0
IsApart (Own id, number) others = (number_in others (Own id) ≡ None) × (has_number others number ≡ false)
IsApart (id, number) others = has_number others number ≡ false

abbrev pub AreApart : Requests → Type 0
AreApart [] = Unit {0}
AreApart (one ∷ others) = IsApart one others × AreApart others

-- ---- Requests that are freed ----

abbrev pub has_id : Freed → ℕ → Bool
has_id it id = contains nat_eq it.ids id

abbrev pub has_place : Freed → ℕ → Bool
has_place it place = contains nat_eq it.places place

-- what stands for the requests that are freed is this; no other is
pub record HasIds (frees : Id → Bool) (it : Freed) : Type 0 where
  pub own : (id : ℕ) → has_id it id ≡ frees (Own id)
  pub unnamed : (id : Id) → IsUnnamed id → frees id ≡ false

-- these records start one at the places that are kept
abbrev pub HasPlaces : (Id → Bool) → List Written → Freed → Type 0
HasPlaces frees records it = (place : ℕ) → has_place it place ≡ starts_one_of frees (slice_get records place)

-- ---- A list ----

-- what stays as entries are taken: the calls that were handed on, and which requests the rank's program frees
pub record Handed : Type 0 where
  pub calls : List Call
  pub frees : Id → Bool

-- the list has these records, of which some were handed on, and these active requests
pub record Stands (handed : Handed) (progress : Progress) (it : ListCode) : Type 0 where
  pub records : calls_in progress.records ≡ handed.calls ++ it.records
  pub count : it.count ≡ length progress.records
  pub short : it.count < MOST_RECORDS
  pub given : it.given ≤ it.count
  pub numbered : AreNumbered progress.active it
  pub apart : AreApart progress.active
  pub own : (id : ℕ) → option_map (λ active. active.number) (active_at it.active id) ≡ number_in progress.active (Own id)
  pub started : (id : ℕ) → IsStarted progress.records id (active_at it.active id)
  pub ids : HasIds handed.frees it.freed
  pub places : HasPlaces handed.frees progress.records it.freed

-- the list ends within the records of this line: it has all but one of the most records, and its end has room
pub record IsCut (handed : Handed) (progress : Progress) (line : ℕ) (it : ListCode) : Type 0 where
  pub long : MOST_RECORDS ≤ length progress.records
  pub records : take (MOST_RECORDS - 1) (calls_in progress.records) ≡ handed.calls ++ it.records
  pub ends_at : option_map (λ it. it.line) (slice_get progress.records (MOST_RECORDS - 1)) ≡ Some line
  pub places : HasPlaces handed.frees (take (MOST_RECORDS - 1) progress.records) it.freed

-- it came so far with this line, or is too long
abbrev pub ComesTo : {A : Type 0} → Result A Stop → Handed → Progress → ℕ → ListCode → Type 0
ComesTo (Ok done) handed progress line it = Stands handed progress it
ComesTo (Err (Left TooLong)) handed progress line it = IsCut handed progress line it
ComesTo (Err (Left why)) handed progress line it = ⊥
ComesTo (Err Memory) handed progress line it = Unit {0}

-- ---- What the list gets ----

-- these calls stand at its end now
pub record Puts (old new : ListCode) (calls : List Call) : Type 0 where
  pub records : new.records ≡ old.records ++ calls
  pub count : new.count ≡ old.count + length calls
  pub active : new.active ≡ old.active
  pub free : new.free ≡ old.free
  pub given : new.given ≡ old.given
  pub numbers : new.numbers ≡ old.numbers
  pub freed : new.freed ≡ old.freed

-- as many of them as have room, where that isn't all
pub record Cuts (old new : ListCode) (calls : List Call) : Type 0 where
  pub long : MOST_RECORDS ≤ old.count + length calls
  pub records : new.records ≡ old.records ++ take (MOST_RECORDS - 1 - old.count) calls
  pub freed : new.freed ≡ old.freed

abbrev pub Adds : {A : Type 0} → Result A Stop → ListCode → ListCode → List Call → Type 0
Adds (Ok done) old new calls = Puts old new calls × (new.count < MOST_RECORDS)
Adds (Err (Left TooLong)) old new calls = Cuts old new calls
Adds (Err (Left why)) old new calls = ⊥
Adds (Err Memory) old new calls = Unit {0}

-- its records and its active requests are as they were
pub record KeepsRecords (old new : ListCode) : Type 0 where
  pub records : new.records ≡ old.records
  pub count : new.count ≡ old.count
  pub active : new.active ≡ old.active
  pub freed : new.freed ≡ old.freed

-- the least number that no active request has is taken
pub record TakesFree (active : Requests) (old new : ListCode) (number : ℕ) : Type 0 where
  pub least : number ≡ least_free active
  pub fresh : has_number active number ≡ false
  pub low : number ≤ old.given
  pub given : new.given ≤ old.given + 1
  pub numbered : (id : Id) → AreNumbered ((id, number) ∷ active) new

-- but for the numbers of requests that are free again it is as it was
pub record FreesOnly (old new : ListCode) : Type 0 where
  pub records : new.records ≡ old.records
  pub count : new.count ≡ old.count
  pub active : new.active ≡ old.active
  pub given : new.given ≡ old.given
  pub numbers : new.numbers ≡ old.numbers
  pub freed : new.freed ≡ old.freed

-- ---- Active requests ----

-- the request of a send, where it is active
abbrev pub is_active_send : Option Active → Bool
is_active_send None = false
is_active_send (Some active) = active.is_send

abbrev pub is_send_in : ListCode → ℕ → Bool
is_send_in it id = is_active_send (active_at it.active id)

-- the map of active requests has the numbers of these
abbrev pub Owns : Requests → ListCode → Type 0
Owns active it =
    (id : ℕ) → option_map (λ active. active.number) (active_at it.active id) ≡ number_in active (Own id)

-- the number that was found, if one was
abbrev pub found_number : Option ℕ → List ℕ
found_number None = []
found_number (Some number) = number ∷ []

-- of what it says of records nothing is changed, and it has no request more than before
pub record KeepsLines (old new : ListCode) : Type 0 where
  pub records : new.records ≡ old.records
  pub count : new.count ≡ old.count
  pub free : new.free ≡ old.free
  pub given : new.given ≡ old.given
  pub freed : new.freed ≡ old.freed
  pub started : (records : List Written) (id : ℕ) → IsStarted records id (active_at old.active id) → IsStarted records id (active_at new.active id)

-- the number of a request is listed, and the request active no longer
pub record TakesOne (left : Requests) (id : ℕ) (old new : ListCode) : Type 0 where
  pub numbers : new.numbers.items ≡ old.numbers.items ++ found_number (number_in left (Own id))
  pub own : Owns (without_all (found_number (number_in left (Own id))) left) new

-- so are those of some requests, and no others
pub record TakesNumbers (active : Requests) (ids : List Id) (new : ListCode) : Type 0 where
  pub numbers : new.numbers.items ≡ numbers_of active ids
  pub own : Owns (without_all (numbers_of active ids) active) new

-- each of these numbers can stand in a record
abbrev pub AreSmall : List ℕ → Type 0
AreSmall [] = Unit {0}
AreSmall (number ∷ numbers) = (number ≤ GREATEST_REQUEST) × AreSmall numbers

-- each is the number of a request that is left as those before it are gone
abbrev pub AreHeld : Requests → List ℕ → Type 0
AreHeld active [] = Unit {0}
AreHeld active (number ∷ numbers) = (has_number active number ≡ true) × AreHeld (without number active) numbers

-- but for the numbers that one line names it is as it was
pub record FindsOnly (old new : ListCode) : Type 0 where
  pub records : new.records ≡ old.records
  pub count : new.count ≡ old.count
  pub active : new.active ≡ old.active
  pub free : new.free ≡ old.free
  pub given : new.given ≡ old.given
  pub freed : new.freed ≡ old.freed
