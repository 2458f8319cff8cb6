-- Law of journals that go on, where lists have sinks: what a list has so far stays, but in the places of sinks.
use Rattle.std.specs.Prelude.{◌≡◌, ◌⊎◌, ℕ, Bool, true, false, ◌&&◌, ◌||◌, ◌==◌, not, Some, None, List, [], ◌∷◌, ◌++◌}
use Rattle.std.specs.List.{list_all}
use Rattle.mpicall.specs.declared.call.Call.TheVariants.{Irecv}
use Rattle.mpicall.specs.declared.call.Peer.TheVariants as peer
use Rattle.closing.specs.Called.{Called, Exchanges}
use Rattle.closing.specs.Entries.{Run, Placed, entries_at}
use Rattle.closing.specs.Reported.{Message}
use Rattle.closing.specs.Steps.{Own, Sink, Written, wait_for_one}
use Rattle.closing.specs.Endings.{message_at}
use Rattle.closing.specs.Entry.{Choice, start_receive}
use Rattle.closing.specs.Recording.{whole_list}
use Rattle.closing.specs.Sinks.{is_nobody, number_of}
use Rattle.closing.specs.declared.choice.Calls.TheVariants.{Strict}
use Rattle.closing.specs.declared.choice.Unreported.TheVariants as unreported
use Rattle.closing.specs.declared.pending.Wanted.{Wanted}
use Rattle.lawful.specs.Laws.{IsRead}
use Rattle.lawful.specs.Longer.{IsLonger, AllKept, is_silent}

-- ---- Records ----

-- each message of the one is of the other
pub record IsWithin (one other : Wanted) : Type 0 where
  pub comm : one.comm ≡ other.comm
  pub source : (other.source ≡ None) ⊎ (one.source ≡ other.source)
  pub tag : (other.tag ≡ None) ⊎ (one.tag ≡ other.tag)

-- a message as what it is of
abbrev pub wanted_of : ℕ → Message → Wanted
wanted_of comm it = record { comm = comm; source = number_of it.source; tag = number_of it.tag }

-- a sink of the request, which takes no more
pub record IsSinkStill (own : ℕ) (wanted : Wanted) (number : ℕ) (other : Written) : Type 0 where
  pub less : Wanted
  pub is_known : Bool
  pub within : IsWithin less wanted
  pub starts : other.starts ≡ Some (Sink (Some own) less is_known)
  pub call : other.call ≡ Irecv number less.comm peer.Null 0

-- the receive of a message that the sink takes
pub record IsReceived (own : ℕ) (wanted : Wanted) (number : ℕ) (other : Written) : Type 0 where
  pub message : Message
  pub within : IsWithin (wanted_of wanted.comm message) wanted
  pub starts : other.starts ≡ Some (Own own)
  pub call : other.call ≡ start_receive wanted.comm message number

-- in a sink's place one of the two, with its request
pub record IsInPlace (one other : Written) : Type 0 where
  pub own : ℕ
  pub wanted : Wanted
  pub is_known : Bool
  pub number : ℕ
  pub starts : one.starts ≡ Some (Sink (Some own) wanted is_known)
  pub call : one.call ≡ Irecv number wanted.comm peer.Null 0
  pub stays : IsSinkStill own wanted number other ⊎ IsReceived own wanted number other

-- two waits for any of some requests, which the same one completed
pub record AreWaits (one other : Written) : Type 0 where
  pub number : ℕ
  pub numbers : List ℕ
  pub others : List ℕ
  pub starts : one.starts ≡ None
  pub also_starts : other.starts ≡ None
  pub call : one.call ≡ wait_for_one number numbers
  pub also_call : other.call ≡ wait_for_one number others

abbrev pub StaysThere : Written → Written → Type 0
StaysThere one other = (other ≡ one) ⊎ (IsInPlace one other ⊎ AreWaits one other)

-- so it is in each place of a list so far
abbrev pub AllStay : List Written → List Written → Type 0
AllStay [] new = Unit {0}
AllStay (one ∷ old) [] = ⊥
AllStay (one ∷ old) (other ∷ new) = StaysThere one other × AllStay old new

-- ---- The last call ----

abbrev pub is_exchange : Called → Bool
is_exchange (Exchanges sent awaited) = true
is_exchange it = false

-- the last call so far may make a communicator, of which none is reported, or is an exchange that never came back
abbrev pub last_may_change : List Placed → Bool
last_may_change [] = false
last_may_change (placed ∷ []) = is_silent placed || (is_exchange placed.called && not placed.came_back)
last_may_change (placed ∷ others) = last_may_change others

-- it is so but for the records of one line
pub record StayButLast (old new : List Written) : Type 0 where
  pub before : List Written
  pub own : List Written
  pub line : ℕ
  pub old_is : old ≡ before ++ own
  pub own_line : list_all (λ one. one.line == line) own ≡ true
  pub stay : AllStay before new

abbrev pub StaysWithSinks : List Placed → List Written → List Written → Type 0
StaysWithSinks entries old new = AllStay old new ⊎ ((last_may_change entries ≡ true) × StayButLast old new)

-- ---- The law ----

-- a call so far isn't reported later to take a message from nobody
abbrev pub NoneIsFromNobody : List Placed → List Placed → Type 0
NoneIsFromNobody (placed ∷ entries) (later ∷ others) =
    ((it : Message) → message_at placed ≡ None → message_at later ≡ Some it → is_nobody it.source ≡ false) × NoneIsFromNobody entries others
NoneIsFromNobody entries others = Unit {0}

-- Law: the list of the longer run has the records so far in their places. In a sink's place the receive of a message
-- that it takes may stand, and a wait for any may name more requests. Only the records of a last call may be others: of
-- one that may make a communicator, of which none is reported, or of an exchange that never came back.
abbrev pub WhatIsToldStaysWithSinks : Type 0
WhatIsToldStaysWithSinks =
    (run longer : Run) (choice : Choice) (rank : ℕ) → choice.calls ≡ Strict → choice.unreported ≡ unreported.Sinks →
    IsRead run → IsRead longer → IsLonger run longer →
    AllKept run longer (entries_at run rank) (entries_at longer rank) →
    NoneIsFromNobody (entries_at run rank) (entries_at longer rank) →
    StaysWithSinks (entries_at run rank) (whole_list run choice rank).records (whole_list longer choice rank).records
